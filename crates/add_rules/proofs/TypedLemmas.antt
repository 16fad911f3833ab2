-- Lemmas on specs/Typed.antt: the constraints of words, in other words.
use Rattle.std.proofs.Common.{◌≡◌, ◌≢◌, ◌⊎◌, ◌+◌, inl, inr, ℕ, Bool, true, false, cond, ◌||◌, List, [], ◌∷◌, ◌++◌, take, drop, length, Option, Some, None, is_some, Result, Ok, Err, refl, sym, ap, subst, ◌∙◌, arith}
use Rattle.std.specs.Prelude.{position, ◌==◌}
use Rattle.std.specs.List.{position_from}
use Rattle.std.proofs.lemmas.Bool.Decides.{eqb_tells}
use Rattle.std.proofs.lemmas.Iterator.Adapters.{position_from-zero}
use Rattle.std.proofs.Math.Seq.{take-append_seam, drop-append-add}
use Rattle.constraint_rec.specs.declared.key_spec.KeySpec.{KeySpec}
use Rattle.constraint_rec.specs.declared.constraint.Hop.{Hop}
use Rattle.constraint_rec.specs.declared.constraint.Constraint.{Constraint}
use Rattle.known_hosts.specs.HostKeys.{host_keys_of}
use Rattle.add_rules.specs.declared.fault.DestFault.{DestFault}
use Rattle.add_rules.specs.declared.fault.DestFault.TheVariants.{SourceUser, EmptyUser, EmptyHost}
use Rattle.add_rules.specs.Destinations.{Destination, around, destination_of, entered, first_fault, has_no_byte, has_user, is_empty_text, left_for, split_at}
use Rattle.add_rules.specs.Rules.{between, hop_from, hop_to, hop_with, keys_of, onto, own_host, rule_of, rule_unless, rules_of, user_of}
use Rattle.add_rules.specs.Typed.{AreAskedBy, HasNo, IsAmong, IsAskedBy, IsGiven, IsHost, IsLeft, IsUser, SpellsLogin, SpellsWay}

-- ---- the first byte of a kind

-- the byte stands behind as many others as its place tells
pub record StandsFirst (mark : ℕ) (text : List ℕ) (from at : ℕ) : Type 0 where
  pub before : List ℕ
  pub after : List ℕ
  pub is : text ≡ before ++ mark ∷ after
  pub none : HasNo mark before
  pub place : at ≡ from + length before

-- one byte in front, which is another
one_before : (mark byte : ℕ) (text : List ℕ) (from at : ℕ) → byte ≢ mark
    → StandsFirst mark text (from + 1) at → StandsFirst mark (byte ∷ text) from at
one_before mark byte text from at other first = record {
  before = byte ∷ first.before;
  after = first.after;
  is = ap (λ (l : List ℕ). byte ∷ l) first.is;
  none = (other, first.none);
  place = first.place ∙ omega arith;
}

pub first_place : (mark : ℕ) (text : List ℕ) (from at : ℕ)
    → position_from (λ byte. byte == mark) from text ≡ Some at → StandsFirst mark text from at
first_place mark [] from at found = absurd cc
first_place mark (byte ∷ text) from at found =
    elim (eqb_tells byte mark) [
      | inl same ↦
          let here : Some from ≡ Some at = ap (λ (b : Bool). cond b (Some from) (position_from (λ byte. byte == mark) (from + 1) text)) (sym same.0) ∙ found in
          record { before = []; after = text; is = ap (λ (b : ℕ). b ∷ text) same.1; none = tt; place = (let at_is : from ≡ at = cc in sym at_is ∙ omega arith) }
      | inr other ↦
          let later = ap (λ (b : Bool). cond b (Some from) (position_from (λ byte. byte == mark) (from + 1) text)) (sym other.0) ∙ found in
          one_before mark byte text from at other.1 (first_place mark text (from + 1) at later)
    ]

pub no_place : (mark : ℕ) (text : List ℕ) (from : ℕ)
    → position_from (λ byte. byte == mark) from text ≡ None → HasNo mark text
no_place mark [] from none = tt
no_place mark (byte ∷ text) from none =
    elim (eqb_tells byte mark) [
      | inl same ↦
          let here : Some from ≡ None = ap (λ (b : Bool). cond b (Some from) (position_from (λ byte. byte == mark) (from + 1) text)) (sym same.0) ∙ none in absurd cc
      | inr other ↦
          let later = ap (λ (b : Bool). cond b (Some from) (position_from (λ byte. byte == mark) (from + 1) text)) (sym other.0) ∙ none in
          (other.1, no_place mark text (from + 1) later)
    ]

behind_front : (mark : ℕ) (before after : List ℕ) (at : ℕ) (text : List ℕ) → at ≡ length before
    → text ≡ before ++ mark ∷ after → drop (at + 1) text ≡ after
behind_front mark before after at text place is =
    ap (λ (n : ℕ). drop (n + 1) text) place ∙ ap (drop (length before + 1)) is ∙ drop-append-add before (mark ∷ after) 1

-- what a split at the first such byte says
pub record IsSplit (mark : ℕ) (text before after : List ℕ) : Type 0 where
  pub is : text ≡ before ++ mark ∷ after
  pub none : HasNo mark before

split_by : (mark : ℕ) (text : List ℕ) (place : Option ℕ) (parts : List ℕ × List ℕ)
    → position_from (λ byte. byte == mark) 0 text ≡ place
    → around text place ≡ Some parts → IsSplit mark text parts.0 parts.1
split_by mark text None parts found is = absurd cc
split_by mark text (Some at) parts found is =
    let first = first_place mark text 0 at found in
    let place : at ≡ length first.before = first.place ∙ omega arith in
    let front : take at text ≡ first.before =
    ap (λ (n : ℕ). take n text) place ∙ ap (take (length first.before)) first.is ∙ take-append_seam first.before (mark ∷ first.after) in
    let back : drop (at + 1) text ≡ first.after = behind_front mark first.before first.after at text place first.is in
    let both : (take at text, drop (at + 1) text) ≡ parts = cc in
    record {
      is = first.is ∙ ap (λ (l : List ℕ). l ++ mark ∷ first.after) (sym front ∙ ap (λ (p : List ℕ × List ℕ). p.0) both)
          ∙ ap (λ (l : List ℕ). parts.0 ++ mark ∷ l) (sym back ∙ ap (λ (p : List ℕ × List ℕ). p.1) both);
      none = subst (HasNo mark) (sym front ∙ ap (λ (p : List ℕ × List ℕ). p.0) both) first.none;
    }

unsplit_by : (mark : ℕ) (text : List ℕ) (place : Option ℕ)
    → position_from (λ byte. byte == mark) 0 text ≡ place → around text place ≡ None
    → HasNo mark text
unsplit_by mark text None found is = no_place mark text 0 found
unsplit_by mark text (Some at) found is = absurd cc

-- the place of the first such byte, as the code's list has it
place_is : (mark : ℕ) (text : List ℕ)
    → position (λ byte. byte == mark) text ≡ position_from (λ byte. byte == mark) 0 text
place_is mark text = position_from-zero (λ byte. byte == mark) text

pub split_is : (mark : ℕ) (text : List ℕ) (parts : List ℕ × List ℕ)
    → split_at mark text ≡ Some parts → IsSplit mark text parts.0 parts.1
split_is mark text parts is =
    split_by mark text (position_from (λ byte. byte == mark) 0 text) parts refl (ap (around text) (sym (place_is mark text)) ∙ is)

pub unsplit_is : (mark : ℕ) (text : List ℕ) → split_at mark text ≡ None → HasNo mark text
unsplit_is mark text is =
    unsplit_by mark text (position_from (λ byte. byte == mark) 0 text) refl (ap (around text) (sym (place_is mark text)) ∙ is)

-- ---- destinations

-- no fault of its own
pub record IsFaultless (typed : Destination) : Type 0 where
  pub no_user : has_user typed.source ≡ false
  pub user_some : is_empty_text typed.user ≡ false
  pub source_some : is_empty_text typed.source ≡ false
  pub host_some : has_no_byte typed.host ≡ false

four : (a b c d : Bool)
    → cond a (Some SourceUser) (cond b (Some EmptyUser) (cond (c || d) (Some EmptyHost) None)) ≡ None
    → (a ≡ false) × (b ≡ false) × (c ≡ false) × (d ≡ false)
four true b c d e = absurd cc
four false true c d e = absurd cc
four false false true d e = absurd cc
four false false false true e = absurd cc
four false false false false e = (refl, refl, refl, refl)

faultless : (typed : Destination) → first_fault typed ≡ None → IsFaultless typed
faultless typed none =
    let each = four (has_user typed.source) (is_empty_text typed.user) (is_empty_text typed.source) (has_no_byte typed.host) none in
    record { no_user = each.0; user_some = each.1; source_some = each.2; host_some = each.3 }

some_byte : (text : List ℕ) → has_no_byte text ≡ false → text ≢ []
some_byte [] e = absurd cc
some_byte (byte ∷ bytes) e = λ none. absurd cc

-- what the text behind a source spells
spells_by : (source : Option (List ℕ)) (text : List ℕ) (split : Option (List ℕ × List ℕ))
    → split_at 64 text ≡ split
    → is_empty_text (entered source text split).user ≡ false → SpellsLogin text (entered source text split).user (entered source text split).host
spells_by source text None is some = (refl, unsplit_is 64 text is)
spells_by source text (Some parts) is some =
    let split = split_is 64 text parts is in (split.is, split.none, some_byte parts.0 some)

-- the word spells its destination
pub record SpellsWord (word : List ℕ) (typed : Destination) : Type 0 where
  pub text : List ℕ
  pub way : SpellsWay word typed.source text
  pub login : SpellsLogin text typed.user typed.host

word_alone : (word : List ℕ) (split : Option (List ℕ × List ℕ)) → split_at 64 word ≡ split
    → HasNo 62 word → is_empty_text (entered None word split).user ≡ false
    → SpellsWord word (entered None word split)
word_alone word None is none some = record { text = word; way = (refl, none); login = spells_by None word None is some }
word_alone word (Some parts) is none some = record { text = word; way = (refl, none); login = spells_by None word (Some parts) is some }

word_behind : (word : List ℕ) (way : List ℕ × List ℕ) (split : Option (List ℕ × List ℕ))
    → split_at 64 way.1 ≡ split → IsSplit 62 word way.0 way.1
    → is_empty_text (entered (Some way.0) way.1 split).user ≡ false → SpellsWord word (entered (Some way.0) way.1 split)
word_behind word way None is parts some = record { text = way.1; way = (parts.is, parts.none); login = spells_by (Some way.0) way.1 None is some }
word_behind word way (Some at) is parts some = record { text = way.1; way = (parts.is, parts.none); login = spells_by (Some way.0) way.1 (Some at) is some }

word_by : (word : List ℕ) (split : Option (List ℕ × List ℕ)) → split_at 62 word ≡ split
    → is_empty_text (left_for word split).user ≡ false
    → SpellsWord word (left_for word split)
word_by word None is some = word_alone word (split_at 64 word) refl (unsplit_is 62 word is) some
word_by word (Some parts) is some = word_behind word parts (split_at 64 parts.1) refl (split_is 62 word parts is) some

-- no user is in the host that is left
no_at : (source : List ℕ) (split : Option (List ℕ × List ℕ)) → split_at 64 source ≡ split
    → is_some split ≡ false → HasNo 64 source
no_at source None is none = unsplit_is 64 source is
no_at source (Some parts) is none = absurd cc

-- ---- keys

among_front : {X : Type 0} (one : X) (xs ys : List X) → IsAmong one xs → IsAmong one (xs ++ ys)
among_front one [] ys among = absurd among
among_front one (x ∷ xs) ys (inl same) = inl same
among_front one (x ∷ xs) ys (inr among) = inr (among_front one xs ys among)

among_back : {X : Type 0} (one : X) (xs ys : List X) → IsAmong one ys → IsAmong one (xs ++ ys)
among_back one [] ys among = among
among_back one (x ∷ xs) ys among = inr (among_back one xs ys among)

among_either : {X : Type 0} (one : X) (xs ys : List X) → IsAmong one (xs ++ ys)
    → IsAmong one xs ⊎ IsAmong one ys
among_either one [] ys among = inr among
among_either one (x ∷ xs) ys (inl same) = inl (inl same)
among_either one (x ∷ xs) ys (inr among) =
    elim (among_either one xs ys among) [
      | inl front ↦ inl (inr front)
      | inr back ↦ inr back
    ]

given_later : (files : List (List ℕ)) (file host : List ℕ) (key : KeySpec) → IsGiven files host key
    → IsGiven (file ∷ files) host key
given_later files file host key given = record { file = given.file; is_read = inr given.is_read; has = given.has }

-- each key is given by a file
pub only_given : (files : List (List ℕ)) (host : List ℕ) (key : KeySpec)
    → IsAmong key (keys_of files host) → IsGiven files host key
only_given [] host key among = absurd among
only_given (file ∷ files) host key among =
    elim (among_either key (host_keys_of file host) (keys_of files host) among) [
      | inl front ↦ record { file = file; is_read = inl refl; has = front }
      | inr back ↦ given_later files file host key (only_given files host key back)
    ]

-- each that a file gives is there
every_given : (files : List (List ℕ)) (host file : List ℕ) (key : KeySpec) → IsAmong file files
    → IsAmong key (host_keys_of file host) → IsAmong key (keys_of files host)
every_given [] host file key read has = absurd read
every_given (other ∷ files) host file key (inl same) has =
    among_front key (host_keys_of other host) (keys_of files host) (subst (λ (f : List ℕ). IsAmong key (host_keys_of f host)) same has)
every_given (other ∷ files) host file key (inr read) has =
    among_back key (host_keys_of other host) (keys_of files host) (every_given files host file key read has)

-- ---- hops

pub record IsHop (user host : List ℕ) (keys : List KeySpec) (hop : Hop) : Type 0 where
  pub user_is : hop.user ≡ user
  pub host_is : hop.host ≡ host
  pub keys_are : hop.keys ≡ keys
  pub some : hop.keys ≢ []

hop_by : (user host : List ℕ) (keys : List KeySpec) (hop : Hop) → hop_with user host keys ≡ Ok hop
    → IsHop user host keys hop
hop_by user host [] hop e = absurd cc
hop_by user host (key ∷ keys) hop e =
    let made : Hop = record { user = user; host = host; keys = key ∷ keys } in
    let same : made ≡ hop = cc in
    subst (IsHop user host (key ∷ keys)) same record { user_is = refl; host_is = refl; keys_are = refl; some = λ none. absurd cc }

host_of : (files : List (List ℕ)) (user host : List ℕ) (hop : Hop) → host ≢ []
    → hop_to files user host ≡ Ok hop → IsHost files host hop
host_of files user host hop named e =
    let is = hop_by user host (keys_of files host) hop e in
    record {
      named = named;
      host_is = is.host_is;
      keys = record {
        only = λ key among. only_given files host key (subst (IsAmong key) is.keys_are among);
        every = λ key given. subst (IsAmong key) (sym is.keys_are) (every_given files host given.file key given.is_read given.has);
        some = is.some;
      };
    }

left_is : (files : List (List ℕ)) (source : Option (List ℕ)) (hop : Hop) → has_user source ≡ false
    → is_empty_text source ≡ false
    → hop_from files source ≡ Ok hop → IsLeft files source hop
left_is files None hop none some e =
    let same : own_host ≡ hop = cc in
    subst (λ (h : Hop). (h.user ≡ []) × (h.host ≡ []) × (h.keys ≡ [])) same (refl, refl, refl)
left_is files (Some source) hop none some e = (
  (hop_by [] source (keys_of files source) hop e).user_is,
  no_at source (split_at 64 source) refl none,
  host_of files [] source hop (some_byte source some) e,
)

user_by : (user : Option (List ℕ)) (is : List ℕ) → is ≡ user_of user → IsUser user is
user_by None is same = same
user_by (Some named) is same = same

-- ---- constraints

between_is : (from to : Result Hop DestFault) (rule : Constraint) → between from to ≡ Ok rule
    → (from ≡ Ok rule.from) × (to ≡ Ok rule.to)
between_is (Err fault) to rule e = absurd cc
between_is (Ok from) (Err fault) rule e = absurd cc
between_is (Ok from) (Ok to) rule e =
    let made : Constraint = record { from = from; to = to } in
    let same : made ≡ rule = cc in
    (ap (λ (r : Constraint). Ok r.from) same, ap (λ (r : Constraint). Ok r.to) same)

asked_by : (files : List (List ℕ)) (word : List ℕ) (typed : Destination) (fault : Option DestFault) (rule : Constraint)
    → destination_of word ≡ typed
    → first_fault typed ≡ fault → rule_unless fault files typed ≡ Ok rule → IsAskedBy files word rule
asked_by files word typed (Some fault) rule is none e = absurd cc
asked_by files word typed None rule is none e =
    let good = faultless typed none in
    let hops = between_is (hop_from files typed.source) (hop_to files (user_of typed.user) typed.host) rule e in
    let spells = subst (SpellsWord word) is (word_by word (split_at 62 word) refl (ap (λ (d : Destination). is_empty_text d.user) is ∙ good.user_some)) in
    record {
      source = typed.source;
      text = spells.text;
      way = spells.way;
      user = typed.user;
      host = typed.host;
      login = spells.login;
      left = left_is files typed.source rule.from good.no_user good.source_some hops.0;
      user_is = user_by typed.user rule.to.user (hop_by (user_of typed.user) typed.host (keys_of files typed.host) rule.to hops.1).user_is;
      entered = host_of files (user_of typed.user) typed.host rule.to (some_byte typed.host good.host_some) hops.1;
    }

asked : (files : List (List ℕ)) (word : List ℕ) (rule : Constraint) → rule_of files word ≡ Ok rule
    → IsAskedBy files word rule
unfolding rule_of
asked files word rule e = asked_by files word (destination_of word) (first_fault (destination_of word)) rule refl refl e

onto_is : (one : Result Constraint DestFault) (others : Result (List Constraint) DestFault) (rules : List Constraint)
    → onto one others ≡ Ok rules
    → (rule : Constraint) × (later : List Constraint) × (one ≡ Ok rule) × (others ≡ Ok later) × (rules ≡ rule ∷ later)
onto_is (Err fault) others rules e = absurd cc
onto_is (Ok rule) (Err fault) rules e = absurd cc
onto_is (Ok rule) (Ok later) rules e = let same : rule ∷ later ≡ rules = cc in (rule, later, refl, refl, sym same)

pub constraints_are_asked : (files words : List (List ℕ)) (rules : List Constraint)
    → rules_of files words ≡ Ok rules → AreAskedBy files words rules
constraints_are_asked files [] rules e = let same : [] ≡ rules = cc in subst (AreAskedBy files []) same tt
constraints_are_asked files (word ∷ words) rules e =
    let is = onto_is (rule_of files word) (rules_of files words) rules e in
    subst (AreAskedBy files (word ∷ words)) (sym is.4) (asked files word is.0 is.2, constraints_are_asked files words is.1 is.3)
