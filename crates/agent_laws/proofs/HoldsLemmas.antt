-- What the past tells of the keys and the lock is what the agent holds.
use Rattle.std.proofs.Common.{◌≡◌, ℕ, ◌+◌, ◌-◌, ◌≤◌, ◌&&◌, nat_lt, IfSome, List, [], ◌∷◌, refl, ap, arith, sym, ◌∙◌, Option, Some, None, Bool, true, false, cond, is_some, ◌==◌}
use Rattle.std.specs.Option.{option_map}
use Rattle.std.specs.Str.{bytes_eq}
use Rattle.std.proofs.lemmas.Bool.Decides.{nat_tests}
use Rattle.std.proofs.lemmas.Slice.Eq.{bytes_eq-Decides}
use Rattle.identity_table.specs.Deaths.{death_of, lives_at}
use Rattle.identity_table.specs.Identities.{HaveOwnBlobs, HaveOwnNumbers, HeldKey, TableState, alive_at, find_identity, find_number, identity_of, used_by}
use Rattle.identity_table.proofs.FindLemmas.{found_has, find-alive, if_alive, own_blobs-alive}
use Rattle.identity_table.proofs.NumberLaws.{find_number-alive, number_of_found, unless_blob}
use Rattle.identity_table.proofs.NumberLemmas.{own_numbers-alive}
use Rattle.identity_table.proofs.SpendLemmas.{only_uses, own_blobs-spend, own_numbers-spend}
use Rattle.agent_model.specs.Actions.{Action}
use Rattle.agent_model.specs.KeyStates.{KeyState, after_use, expired, no_keys}
use Rattle.agent_model.specs.Runs.{Stamped}
use Rattle.agent_laws.specs.Grants.{WasHeld}
use Rattle.agent_laws.specs.Past.{DidUse, Done, PastAddition, added_by, addition_count, counted_by, done_of, has_uses, held_by, is_alive, last_addition, locked_by, used_again, was_locked}
use Rattle.agent_laws.proofs.UseLemmas.{find-used, was_held, was_held-used}

-- what the past tells: whether the agent is locked, how many additions succeeded, and the last addition of each blob
pub record Facts : Type 0 where
  pub locked : Bool
  pub count : ℕ
  pub last : List ℕ → Option PastAddition

abbrev pub facts_of : List Stamped → Facts
facts_of past = record { locked = was_locked past; count = addition_count past; last = λ blob. last_addition blob past }

-- behind something done at this second
abbrev pub facts_after : Done → ℕ → Facts → Facts
facts_after done second facts = record {
  locked = locked_by done facts.locked;
  count = counted_by done facts.count;
  last = λ blob. added_by done blob second (facts.count + 1) (facts.last blob);
}

-- behind these actions
abbrev pub facts_then : List Action → ℕ → Facts → Facts
facts_then [] second facts = facts
facts_then (action ∷ later) second facts =
    facts_then later second (facts_after (done_of action) second facts)

-- how many of its uses are left
abbrev pub uses_left : Option ℕ → ℕ → Option ℕ
uses_left None used = None
uses_left (Some uses) used = Some (uses - used)

-- the identity that an addition made, with the uses that are left
abbrev pub key_of : Option ℕ → PastAddition → HeldKey
key_of life past =
    record (identity_of past.number past.addition.key past.addition.comment (death_of past.second past.addition.terms.life life) past.addition.terms) { uses = uses_left past.addition.terms.uses past.uses }

-- the addition that made a key, where this is what is held
pub record Made (life : Option ℕ) (held : Option PastAddition) (key : HeldKey) : Type 0 where
  pub past : PastAddition
  pub now : held ≡ Some past
  pub is : key_of life past ≡ key

pub made_of : (life : Option ℕ) (held : Option PastAddition) (key : HeldKey)
    → Some key ≡ option_map (key_of life) held → Made life held key
made_of life None key some = absurd (cc)
made_of life (Some past) key some =
    let same_key : key ≡ key_of life past = cc in
    record { past = past; now = refl; is = sym same_key }

-- the agent holds what the past tells, from this second on
pub record Holds (life : Option ℕ) (second : ℕ) (facts : Facts) (held : KeyState) : Type 0 where
  pub locked : facts.locked ≡ is_some held.lock
  pub count : facts.count ≡ held.table.last
  pub default : held.table.life ≡ life
  pub own : HaveOwnBlobs held.table.identities
  pub numbers : HaveOwnNumbers held.table.last held.table.identities
  pub found : (blob : List ℕ) (later : ℕ) → second ≤ later
      → if_alive later (find_identity blob held.table.identities) ≡ option_map (key_of life) (held_by (facts.last blob) life later)

-- ---- time passes

-- what is alive later is alive now
lives_before : (earlier later : ℕ) (death : Option ℕ) → earlier ≤ later
    → lives_at later death ≡ true → lives_at earlier death ≡ true
lives_before earlier later None before lives = refl
lives_before earlier later (Some death) before lives = grind (arith, nat_tests)

alive_twice : (earlier later : ℕ) (found : Option HeldKey) → earlier ≤ later
    → if_alive later (if_alive earlier found) ≡ if_alive later found
alive_twice earlier later None before = refl
alive_twice earlier later (Some key) before = by_tests (lives_at earlier key.death) (lives_at later key.death) refl refl
  where
    by_tests : (now then_on : Bool) → lives_at earlier key.death ≡ now
        → lives_at later key.death ≡ then_on
        → if_alive later (cond now (Some key) None) ≡ cond then_on (Some key) None
    by_tests true then_on is then_is = ap (λ b. cond b (Some key) None) then_is
    by_tests false true is then_is = let lives : lives_at earlier key.death ≡ true = lives_before earlier later key.death before then_is in absurd (cc)
    by_tests false false is then_is = refl

-- identities whose lifetime has run out leave
pub holds-expired : (life : Option ℕ) (old new : ℕ) (facts : Facts) (held : KeyState) → old ≤ new
    → Holds life old facts held → Holds life new facts (expired new held)
holds-expired life old new facts held before holds = record {
  locked = holds.locked;
  count = holds.count;
  default = holds.default;
  own = own_blobs-alive new held.table.identities holds.own;
  numbers = own_numbers-alive held.table.last new held.table.identities holds.numbers;
  found = λ blob later after.
      ap (if_alive later) (find-alive blob new held.table.identities holds.own)
      ∙ alive_twice new later (find_identity blob held.table.identities) after
      ∙ holds.found blob later (omega (arith, before, after));
}

-- those that are left are alive
pub fresh-expired : (new : ℕ) (held : KeyState) (blob : List ℕ) → HaveOwnBlobs held.table.identities
    → if_alive new (find_identity blob (alive_at new held.table.identities)) ≡ find_identity blob (alive_at new held.table.identities)
fresh-expired new held blob own =
    ap (if_alive new) (find-alive blob new held.table.identities own)
    ∙ alive_twice new new (find_identity blob held.table.identities) (omega arith)
    ∙ sym (find-alive blob new held.table.identities own)

-- nothing is held
pub own_none : HaveOwnBlobs []
unfolding HaveOwnBlobs
own_none = tt

pub no_numbers : (last : ℕ) → HaveOwnNumbers last []
unfolding HaveOwnNumbers
no_numbers last = tt

pub found_none : (blob : List ℕ) (later : ℕ) → if_alive later (find_identity blob []) ≡ None
unfolding find_identity
found_none blob later = refl

pub none_numbered : (number : ℕ) (key : HeldKey) → find_number number [] ≡ Some key → ⊥
unfolding find_number
none_numbered number key found = absurd (cc)

pub holds-first : (life : Option ℕ) → Holds life 0 (facts_of []) (no_keys life)
holds-first life = record { locked = refl; count = refl; default = refl; own = own_none; numbers = no_numbers 0; found = λ blob later after. found_none blob later }

-- ---- numbers

-- a number that was given finds what it found, or nothing
pub record NumbersKept (old new : KeyState) : Type 0 where
  pub last : old.table.last ≤ new.table.last
  pub found : (number : ℕ) (key : HeldKey) → number ≤ old.table.last
      → find_number number new.table.identities ≡ Some key → WasHeld number old.table.identities key

pub same_numbers : (old new : KeyState) → new.table ≡ old.table → NumbersKept old new
same_numbers old new same = record { last = rw same (omega arith); found = λ number key within found. was_held number old.table.identities key (sym (ap (λ (t : TableState). find_number number t.identities) same) ∙ found) }

pub of_alive : (second : ℕ) (found : Option HeldKey) (key : HeldKey)
    → if_alive second found ≡ Some key → found ≡ Some key
of_alive second None key is = absurd (cc)
of_alive second (Some first) key is = grind (arith, nat_tests)

pub of_unless : (blob : List ℕ) (found : Option HeldKey) (key : HeldKey)
    → unless_blob blob found ≡ Some key → found ≡ Some key
of_unless blob None key is = absurd (cc)
of_unless blob (Some first) key is = grind (arith, nat_tests)

pub numbers-expired : (life : Option ℕ) (old new : ℕ) (facts : Facts) (held : KeyState)
    → Holds life old facts held → NumbersKept held (expired new held)
numbers-expired life old new facts held holds = record {
  last = omega arith;
  found = λ number key within found.
      was_held number held.table.identities key (of_alive new (find_number number held.table.identities) key (sym (find_number-alive number held.table.last new held.table.identities holds.numbers) ∙ found));
}

-- a use keeps them
pub numbers-used : (addition : ℕ) (held : KeyState)
    → HaveOwnNumbers held.table.last held.table.identities
    → NumbersKept held (after_use (Some addition) held)
numbers-used addition held own = record {
  last = omega arith;
  found = λ number key within found. was_held-used addition number held.table.last held.table.identities key own found;
}

-- ---- uses

pub uses_new : (uses : Option ℕ) → uses_left uses 0 ≡ uses
uses_new None = refl
uses_new (Some uses) = let same : uses - 0 ≡ uses = omega arith in ap (λ (n : ℕ). Some n) same

pub has_new : (uses : Option ℕ) → IfSome uses (λ n. 1 ≤ n) → has_uses uses 0 ≡ true
has_new None some = refl
has_new (Some uses) some = grind (arith, nat_tests, some)

-- after one more use fewer are left
has_less : (uses : Option ℕ) (used : ℕ) → has_uses uses used ≡ false
    → has_uses uses (used + 1) ≡ false
has_less None used none = absurd (cc)
has_less (Some uses) used none = grind (arith, nat_tests, none)

pub and_true : (b : Bool) → (b && true) ≡ b
and_true true = refl
and_true false = refl

and_false : (b : Bool) → (b && false) ≡ false
and_false true = refl
and_false false = refl

-- what is left of an identity that was used so often, and of which some is left
left-used : (base : HeldKey) (uses : Option ℕ) (times : ℕ) → has_uses uses times ≡ true
    → used_by (uses_left uses times) (record base { uses = uses_left uses times }) ≡ cond (has_uses uses (times + 1)) (Some (record base { uses = uses_left uses (times + 1) })) None
left-used base None times has = refl
left-used base (Some uses) times has = by_more (nat_lt (times + 1) uses) refl
  where
    by_more : (more : Bool) → nat_lt (times + 1) uses ≡ more
        → cond (uses - times - 1 == 0) None (Some (record base { uses = Some (uses - times - 1) })) ≡ cond more (Some (record base { uses = Some (uses - (times + 1)) })) None
    by_more true is =
        let some : (uses - times - 1 == 0) ≡ false = grind (arith, nat_tests, is) in
        let fewer : uses - times - 1 ≡ uses - (times + 1) = omega arith in
        ap (λ b. cond b None (Some (record base { uses = Some (uses - times - 1) }))) some ∙ ap (λ (n : ℕ). Some (record base { uses = Some n })) fewer
    by_more false is =
        let none : (uses - times - 1 == 0) ≡ true = grind (arith, nat_tests, is, has) in
        ap (λ b. cond b None (Some (record base { uses = Some (uses - times - 1) }))) none

module _ (life : Option ℕ) (later : ℕ) where
  -- what is dead stays dead
  dead_used : (key : HeldKey) → lives_at later key.death ≡ false → if_alive later (used_by key.uses key) ≡ None
  dead_used key dead = by_left (used_by key.uses key) refl
    where
      by_left : (after : Option HeldKey) → used_by key.uses key ≡ after → if_alive later after ≡ None
      by_left None is = refl
      by_left (Some after) is =
          ap (λ (k : HeldKey). cond (lives_at later k.death) (Some after) None) (only_uses key.uses key after is) ∙ ap (λ b. cond b (Some after) None) dead

  -- what isn't held isn't after one more use
  gone_again : (last : Option PastAddition) → held_by last life later ≡ None
      → held_by (option_map used_again last) life later ≡ None
  gone_again None gone = refl
  gone_again (Some past) gone = by_tests (is_alive life later past) (has_uses past.addition.terms.uses past.uses) refl gone
    where
      by_tests : (alive has : Bool) → has_uses past.addition.terms.uses past.uses ≡ has
          → cond (alive && has) (Some past) None ≡ None
          → cond (alive && has_uses past.addition.terms.uses (past.uses + 1)) (Some (used_again past)) None ≡ None
      by_tests false has is none = refl
      by_tests true true is none = absurd (cc)
      by_tests true false is none = ap (λ b. cond b (Some (used_again past)) None) (has_less past.addition.terms.uses past.uses is)

  -- the addition that made what is held
  pub record MadeBy (last : Option PastAddition) (key : HeldKey) : Type 0 where
    pub past : PastAddition
    pub is : last ≡ Some past
    pub alive : is_alive life later past ≡ true
    pub has : has_uses past.addition.terms.uses past.uses ≡ true
    pub same : key_of life past ≡ key

  made_by : (last : Option PastAddition) (key : HeldKey)
      → Some key ≡ option_map (key_of life) (held_by last life later) → MadeBy last key
  made_by None key is = absurd (cc)
  made_by (Some past) key is = by_tests (is_alive life later past) (has_uses past.addition.terms.uses past.uses) refl refl is
    where
      by_tests : (alive has : Bool) → is_alive life later past ≡ alive
          → has_uses past.addition.terms.uses past.uses ≡ has
          → Some key ≡ option_map (key_of life) (cond (alive && has) (Some past) None)
          → MadeBy (Some past) key
      by_tests true true alive has some =
          let e : key ≡ key_of life past = cc in
          record { past = past; is = refl; alive = alive; has = has; same = sym e }
      by_tests true false alive has some = absurd (cc)
      by_tests false has alive is_has some = absurd (cc)

  -- what is held after one more use is told by the past
  told_again : (past : PastAddition) → is_alive life later past ≡ true
      → has_uses past.addition.terms.uses past.uses ≡ true
      → if_alive later (used_by (key_of life past).uses (key_of life past)) ≡ option_map (key_of life) (held_by (Some (used_again past)) life later)
  told_again past alive has =
      let base : HeldKey = identity_of past.number past.addition.key past.addition.comment (death_of past.second past.addition.terms.life life) past.addition.terms in
      ap (if_alive later) (left-used base past.addition.terms.uses past.uses has) ∙ by_more (has_uses past.addition.terms.uses (past.uses + 1))
    where
      next : PastAddition
      next = used_again past

      by_more : (more : Bool)
          → if_alive later (cond more (Some (key_of life next)) None) ≡ option_map (key_of life) (cond (is_alive life later past && more) (Some next) None)
      by_more true =
          ap (λ b. cond b (Some (key_of life next)) None) alive
          ∙ ap (λ b. option_map (key_of life) (cond (b && true) (Some next) None)) (sym alive)
      by_more false = ap (λ b. option_map (key_of life) (cond b (Some next) None)) (sym (and_false (is_alive life later past)))

  used-told : (key : HeldKey) (last : Option PastAddition)
      → if_alive later (Some key) ≡ option_map (key_of life) (held_by last life later)
      → if_alive later (used_by key.uses key) ≡ option_map (key_of life) (held_by (option_map used_again last) life later)
  used-told key last told = by_life (lives_at later key.death) refl told
    where
      none_held : (now : Option PastAddition) → None ≡ option_map (key_of life) now → now ≡ None
      none_held None is = refl
      none_held (Some past) is = absurd (cc)

      by_life : (lives : Bool) → lives_at later key.death ≡ lives
          → cond lives (Some key) None ≡ option_map (key_of life) (held_by last life later)
          → if_alive later (used_by key.uses key) ≡ option_map (key_of life) (held_by (option_map used_again last) life later)
      by_life false dead none =
          dead_used key dead ∙ ap (option_map (key_of life)) (sym (gone_again last (none_held (held_by last life later) none)))
      by_life true lives some =
          let made = made_by last key some in
          ap (λ (k : HeldKey). if_alive later (used_by k.uses k)) (sym made.same)
          ∙ told_again made.past made.alive made.has
          ∙ ap (λ one. option_map (key_of life) (held_by (option_map used_again one) life later)) (sym made.is)

-- what is used is what was found by its blob
pub used-holds : (life : Option ℕ) (second : ℕ) (facts : Facts) (held : KeyState) (blob : List ℕ) (key : HeldKey)
    → find_identity blob held.table.identities ≡ Some key → Holds life second facts held
    → Holds life second (facts_after (DidUse blob) second facts) (after_use (Some key.number) held)
used-holds life second facts held blob key found holds = record {
  locked = holds.locked;
  count = holds.count;
  default = holds.default;
  own = own_blobs-spend key.number held.table.identities holds.own;
  numbers = own_numbers-spend key.number held.table.last held.table.identities holds.numbers;
  found = λ other later after.
      let its_number = number_of_found blob held.table.last held.table.identities key holds.numbers found in
      ap (if_alive later) (find-used other key.number key held.table.identities holds.own its_number.1
      ∙ ap (λ b. cond (bytes_eq b other) (used_by key.uses key) (find_identity other held.table.identities)) (found_has blob held.table.identities key found))
      ∙ by_test other later after (bytes_eq blob other) refl;
}
  where
    by_test : (other : List ℕ) (later : ℕ) → second ≤ later → (same : Bool)
        → bytes_eq blob other ≡ same
        → if_alive later (cond same (used_by key.uses key) (find_identity other held.table.identities)) ≡ option_map (key_of life) (held_by (cond same (option_map used_again (facts.last other)) (facts.last other)) life later)
    by_test other later after true same =
        let equal : blob ≡ other = (bytes_eq-Decides blob other).0 same in
        used-told life later key (facts.last other)
        (ap (if_alive later) (sym (ap (λ b. find_identity b held.table.identities) (sym equal) ∙ found)) ∙ holds.found other later after)
    by_test other later after false same = holds.found other later after
