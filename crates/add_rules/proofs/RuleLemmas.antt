-- Constraints that are made of destinations: each can be written; one after another.
use Rattle.std.proofs.Common.{◌≡◌, ◌≢◌, ◌<◌, ◌+◌, ℕ, Bool, true, false, cond, ◌||◌, List, [], ◌∷◌, ◌++◌, map, drop, length, get_or, Option, Some, None, Result, Ok, Err, refl, sym, ap, subst, ◌∙◌, append_assoc}
use Rattle.std.specs.Borrow.{Bor}
use Rattle.std.specs.Prelude.{All}
use Rattle.std.proofs.lemmas.List.{drop_more}
use Rattle.std.proofs.lemmas.List.Elements.{All-nil}
use Rattle.constraint_rec.specs.declared.key_spec.KeySpec.{KeySpec}
use Rattle.constraint_rec.specs.declared.constraint.Hop.{Hop}
use Rattle.constraint_rec.specs.declared.constraint.Constraint.{Constraint}
use Rattle.constraint_rec.specs.Hops.{IsReadable, IsFromHop, IsToHop, IsDestination}
use Rattle.add_rules.specs.declared.fault.DestFault.{DestFault}
use Rattle.add_rules.specs.declared.fault.DestFault.TheVariants.{SourceUser, EmptyUser, EmptyHost}
use Rattle.add_rules.specs.Destinations.{Destination, destination_of, has_no_byte, is_empty_text, has_user, first_fault}
use Rattle.add_rules.specs.Rules.{keys_of, hop_with, hop_to, hop_from, own_host, user_of, between, rule_unless, rule_of, onto, rules_of}
use Rattle.add_rules.proofs.KeyLemmas.{keys_readable}

-- ---- hosts are there

no_fault : (user_there none_named none_left none_entered : Bool)
    → cond user_there (Some SourceUser) (cond none_named (Some EmptyUser) (cond (none_left || none_entered) (Some EmptyHost) None)) ≡ None
    → (none_left ≡ false) × (none_entered ≡ false)
no_fault true b c d e = absurd cc
no_fault false true c d e = absurd cc
no_fault false false true d e = absurd cc
no_fault false false false true e = absurd cc
no_fault false false false false e = (refl, refl)

some_byte : (text : List ℕ) → has_no_byte text ≡ false → text ≢ []
some_byte [] e = absurd cc
some_byte (byte ∷ bytes) e = λ none. absurd cc

-- ---- hops

-- a hop that was made: as it was typed, with keys
record IsHopTo (user host : List ℕ) (hop : Hop) : Type 0 where
  user_is : hop.user ≡ user
  host_is : hop.host ≡ host
  some : hop.keys ≢ []
  readable : All IsReadable hop.keys

made_with : (user host : List ℕ) (keys : List KeySpec) (hop : Hop) → All IsReadable keys
    → hop_with user host keys ≡ Ok hop → IsHopTo user host hop
made_with user host [] hop good e = absurd cc
made_with user host (key ∷ keys) hop good e =
    let made : Hop = record { user = user; host = host; keys = key ∷ keys } in
    let same : made ≡ hop = cc in
    subst (IsHopTo user host) same record { user_is = refl; host_is = refl; some = λ none. absurd cc; readable = good }

made_to : (files : List (List ℕ)) (user host : List ℕ) (hop : Hop)
    → hop_to files user host ≡ Ok hop → IsHopTo user host hop
made_to files user host hop e = made_with user host (keys_of files host) hop (keys_readable files host) e

from_is : (files : List (List ℕ)) (source : Option (List ℕ)) (hop : Hop)
    → is_empty_text source ≡ false → hop_from files source ≡ Ok hop → IsFromHop hop
from_is files None hop some e =
    let same : own_host ≡ hop = cc in
    subst IsFromHop same record { no_user = refl; both = (λ none. refl, λ none. refl); readable = All-nil IsReadable }
from_is files (Some source) hop some e =
    let made = made_to files [] source hop e in
    record {
      no_user = made.user_is;
      both = (λ none. absurd (some_byte source some (sym made.host_is ∙ none)), λ none. absurd (made.some none));
      readable = made.readable;
    }

to_is : (files : List (List ℕ)) (user host : List ℕ) (hop : Hop) → has_no_byte host ≡ false
    → hop_to files user host ≡ Ok hop → IsToHop hop
to_is files user host hop some e =
    let made = made_to files user host hop e in
    record { named = λ none. some_byte host some (sym made.host_is ∙ none); some = made.some; readable = made.readable }

-- ---- constraints

between_is : (from to : Result Hop DestFault) (rule : Constraint) → between from to ≡ Ok rule
    → (from ≡ Ok rule.from) × (to ≡ Ok rule.to)
between_is (Err fault) to rule e = absurd cc
between_is (Ok from) (Err fault) rule e = absurd cc
between_is (Ok from) (Ok to) rule e =
    let made : Constraint = record { from = from; to = to } in
    let same : made ≡ rule = cc in
    (ap (λ (r : Constraint). Ok r.from) same, ap (λ (r : Constraint). Ok r.to) same)

rule_by : (files : List (List ℕ)) (typed : Destination) (fault : Option DestFault) (rule : Constraint)
    → first_fault typed ≡ fault
    → rule_unless fault files typed ≡ Ok rule → IsDestination rule
rule_by files typed (Some fault) rule is e = absurd cc
rule_by files typed None rule is e =
    let there = no_fault (has_user typed.source) (is_empty_text typed.user) (is_empty_text typed.source) (has_no_byte typed.host) is in
    let hops = between_is (hop_from files typed.source) (hop_to files (user_of typed.user) typed.host) rule e in
    record {
      from = from_is files typed.source rule.from there.0 hops.0;
      to = to_is files (user_of typed.user) typed.host rule.to there.1 hops.1;
    }

-- a constraint that is made can be written
pub rule_is : (files : List (List ℕ)) (word : List ℕ) (rule : Constraint)
    → rule_of files word ≡ Ok rule → IsDestination rule
unfolding rule_of
rule_is files word rule e = rule_by files (destination_of word) (first_fault (destination_of word)) rule refl e

-- ---- one after another

-- constraints in front of others
abbrev pub behind : List Constraint → Result (List Constraint) DestFault
    → Result (List Constraint) DestFault
behind made (Ok rules) = Ok (made ++ rules)
behind made (Err fault) = Err fault

pub none_behind : (others : Result (List Constraint) DestFault) → others ≡ behind [] others
none_behind (Ok rules) = refl
none_behind (Err fault) = refl

behind_onto : (made : List Constraint) (rule : Constraint) (others : Result (List Constraint) DestFault)
    → behind made (onto (Ok rule) others) ≡ behind (made ++ rule ∷ []) others
behind_onto made rule (Ok rules) = ap (λ (l : List Constraint). Ok l) (sym (append_assoc made (rule ∷ []) rules))
behind_onto made rule (Err fault) = refl

-- the words that are left
abbrev pub lent : List (Bor (List ℕ)) → List (List ℕ)
lent words = map (λ word. word.now) words

next_word : (files : List (List ℕ)) (all : Result (List Constraint) DestFault) (made : List Constraint) (words : List (Bor (List ℕ))) (n : ℕ) (d : Bor (List ℕ))
    → n < length words → all ≡ behind made (rules_of files (lent (drop n words)))
    → all ≡ behind made (onto (rule_of files (get_or words n d).now) (rules_of files (lent (drop (n + 1) words))))
next_word files all made words n d more is =
    is ∙ ap (λ (left : List (Bor (List ℕ))). behind made (rules_of files (lent left))) (drop_more words n d more)

-- the next word's constraint stands behind those so far
pub made_word : (files : List (List ℕ)) (all : Result (List Constraint) DestFault) (made : List Constraint) (words : List (Bor (List ℕ))) (n : ℕ) (d : Bor (List ℕ))
    (rule : Constraint) → n < length words → all ≡ behind made (rules_of files (lent (drop n words))) → Ok rule ≡ rule_of files (get_or words n d).now
    → all ≡ behind (made ++ rule ∷ []) (rules_of files (lent (drop (n + 1) words)))
made_word files all made words n d rule more is made_is =
    let others = rules_of files (lent (drop (n + 1) words)) in
    next_word files all made words n d more is
    ∙ ap (λ (r : Result Constraint DestFault). behind made (onto r others)) (sym made_is) ∙ behind_onto made rule others

-- the next word has a fault
pub fault_word : (files : List (List ℕ)) (all : Result (List Constraint) DestFault) (made : List Constraint) (words : List (Bor (List ℕ))) (n : ℕ) (d : Bor (List ℕ))
    (fault : DestFault) → n < length words → all ≡ behind made (rules_of files (lent (drop n words))) → Err fault ≡ rule_of files (get_or words n d).now
    → Err fault ≡ all
fault_word files all made words n d fault more is fault_is =
    sym (next_word files all made words n d more is
    ∙ ap (λ (r : Result Constraint DestFault). behind made (onto r (rules_of files (lent (drop (n + 1) words))))) (sym fault_is))
