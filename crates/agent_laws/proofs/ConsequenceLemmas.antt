-- What a signature that is put to the helper tells of the actions before.
use Rattle.std.proofs.Common.{◌≡◌, ◌≢◌, ℕ, ◌<◌, List, [], ◌∷◌, ◌++◌, length, refl, ap, arith, sym, subst, ◌∙◌, Option, Some, None, IsSomeAnd, Bool, true, false, cond, nat_lt, not, ◌&&◌, inl, inr}
use Rattle.std.specs.List.{sum_by}
use Rattle.std.specs.Option.{option_map, is_none}
use Rattle.std.specs.Str.{bytes_eq}
use Rattle.std.proofs.lemmas.Bool.Decides.{nat_tests}
use Rattle.std.proofs.lemmas.Slice.Eq.{bytes_eq-Decides}
use Rattle.agent_msg.specs.Requests.{Addition, Signing}
use Rattle.dest_rule.specs.Rules.{denial_under}
use Rattle.key_purposes.specs.Messages.{let_sign}
use Rattle.agent_model.specs.Actions.{Action}
use Rattle.agent_model.specs.Events.{Timed}
use Rattle.agent_model.specs.Runs.{Stamped, run}
use Rattle.agent_model.specs.State.{Settings, first_state}
use Rattle.agent_laws.specs.Dues.{Claim, claim_of, due_signing, is_consented, is_met, met_by, open_asks, proved_of}
use Rattle.agent_laws.specs.History.{HasNumbers, IsDue, IsLawful, IsPutBehind, NoneAdds, NoneUnlocks, Removes, StandsAt, onto}
use Rattle.agent_laws.specs.Past.{DidAdd, DidLock, DidNothing, DidRemove, DidRemoveAll, DidUnlock, DidUse, Done, PastAddition, added_by, done_of, held_by, last_addition, locked_by, used_again, was_locked}
use Rattle.agent_laws.proofs.GrantedLemmas.{all_parts, none_if_permitted}
use Rattle.agent_laws.proofs.HistoryLemmas.{first-lawful}
use Rattle.agent_laws.proofs.PastLemmas.{onto-append}

-- ---- what is due

-- a claim that is met, by its parts
pub record IsMetAt (life : Option ℕ) (past : List Stamped) (claim : Claim) : Type 0 where
  pub newest : Stamped
  pub rest : List Stamped
  pub is : past ≡ newest ∷ rest
  pub claims : claim_of newest.action rest ≡ Some claim
  pub added : PastAddition
  pub last : last_addition claim.signing.blob past ≡ Some added
  pub consented : is_consented claim.addition added ≡ true
  pub suits : let_sign added.addition.terms.purposes claim.signing.message claim.signing.blob claim.signing.flags ≡ true
  pub permitted : denial_under added.addition.terms.rules claim.signing.blob (proved_of claim.port past) claim.signing.message newest.moment.wall ≡ None
  pub few : length (open_asks past) < 256
  pub light : sum_by (λ (one : ℕ × ℕ). one.1) (open_asks past) < 8388608
  pub unlocked : was_locked past ≡ false

-- what is held at a second was added last
held_last : (last : Option PastAddition) (life : Option ℕ) (now : ℕ) (added : PastAddition)
    → held_by last life now ≡ Some added → last ≡ Some added
held_last None life now added is = absurd (cc)
held_last (Some past) life now added is = grind (arith, nat_tests)

not_true : (b : Bool) → not b ≡ true → b ≡ false
not_true false is = refl
not_true true is = absurd (cc)

both_parts : (a b : Bool) → (a && b) ≡ true → (a ≡ true) × (b ≡ true)
both_parts true true is = (refl, refl)
both_parts true false is = absurd (cc)
both_parts false b is = absurd (cc)

-- the parts of five
five_parts : (a b c d e : Bool) → (a && (b && (c && (d && e)))) ≡ true
    → (a ≡ true) × (b ≡ true) × (c ≡ true) × (d ≡ true) × (e ≡ true)
five_parts true b c d e is = let parts = all_parts b c d e is in (refl, parts.0, parts.1, parts.2, parts.3)
five_parts false b c d e is = absurd (cc)

module _ (life : Option ℕ) (newest : Stamped) (rest : List Stamped) (claim : Claim) where
  abbrev whole : List Stamped
  whole = newest ∷ rest

  by_held : (held : Option PastAddition)
      → held_by (last_addition claim.signing.blob whole) life newest.moment.mono ≡ held
      → claim_of newest.action rest ≡ Some claim
      → is_met held claim (proved_of claim.port whole) newest.moment.wall (open_asks whole) (was_locked whole) ≡ true
      → IsMetAt life whole claim
  by_held None is claims met = absurd (cc)
  by_held (Some added) is claims met =
      let few : Bool = nat_lt (length (open_asks whole)) 256 in
      let light : Bool = nat_lt (sum_by (λ (one : ℕ × ℕ). one.1) (open_asks whole)) 8388608 in
      let parts = five_parts (is_consented claim.addition added) (let_sign added.addition.terms.purposes claim.signing.message claim.signing.blob claim.signing.flags) (is_none (denial_under added.addition.terms.rules claim.signing.blob (proved_of claim.port whole) claim.signing.message newest.moment.wall)) (few && light) (not (was_locked whole)) met in
      let places = both_parts few light parts.3 in
      record {
        newest = newest;
        rest = rest;
        is = refl;
        claims = claims;
        added = added;
        last = held_last (last_addition claim.signing.blob whole) life newest.moment.mono added is;
        consented = parts.0;
        suits = parts.1;
        permitted = none_if_permitted _ parts.2;
        few = grind (arith, nat_tests, places.0);
        light = grind (arith, nat_tests, places.1);
        unlocked = not_true (was_locked whole) parts.4;
      }

  by_claim : (claimed : Option Claim) → claim_of newest.action rest ≡ claimed
      → met_by claimed life newest.moment whole ≡ Some claim → IsMetAt life whole claim
  by_claim None is due = absurd (cc)
  by_claim (Some other) is due = by_met (is_met (held_by (last_addition other.signing.blob whole) life newest.moment.mono) other (proved_of other.port whole) newest.moment.wall (open_asks whole) (was_locked whole)) refl due
    where
      by_met : (met : Bool)
          → is_met (held_by (last_addition other.signing.blob whole) life newest.moment.mono) other (proved_of other.port whole) newest.moment.wall (open_asks whole) (was_locked whole) ≡ met
          → cond met (Some other) None ≡ Some claim → IsMetAt life whole claim
      by_met true met some =
          let same : other ≡ claim = cc in
          by_held _ refl (is ∙ ap Some same) (subst (λ one. is_met (held_by (last_addition one.signing.blob whole) life newest.moment.mono) one (proved_of one.port whole) newest.moment.wall (open_asks whole) (was_locked whole) ≡ true) same met)
      by_met false met some = absurd (cc)

due-met : (life : Option ℕ) (past : List Stamped) (claim : Claim)
    → due_signing life past ≡ Some claim → IsMetAt life past claim
due-met life [] claim due = absurd (cc)
due-met life (newest ∷ rest) claim due =
    by_claim life newest rest claim (claim_of newest.action rest) refl due

-- ---- what is put

lawful-at : (life : Option ℕ) (past before : List Stamped) (one : Stamped) (later : List Stamped)
    → IsLawful life past (before ++ one ∷ later)
    → StandsAt one.action (due_signing life (onto past before))
lawful-at life past [] one later lawful = lawful.0
lawful-at life past (first ∷ before) one later lawful =
    lawful-at life (first ∷ past) before one later lawful.1

-- the claim that is met where a signature is put
pub record IsClaimed (life : Option ℕ) (before : List Stamped) (port : ℕ) (signing : Signing) : Type 0 where
  pub claim : Claim
  pub met : IsMetAt life (onto [] before) claim
  pub asker : claim.port ≡ port
  pub what : claim.signing ≡ signing

claimed_by : (life : Option ℕ) (before : List Stamped) (port : ℕ) (signing : Signing) (due : Option Claim)
    → due_signing life (onto [] before) ≡ due
    → IsSomeAnd due (λ claim. (claim.port ≡ port) × (claim.signing ≡ signing))
    → IsClaimed life before port signing
claimed_by life before port signing None is some = absurd some
claimed_by life before port signing (Some claim) is some = record { claim = claim; met = due-met life (onto [] before) claim is; asker = some.0; what = some.1 }

pub claimed : (before : List Stamped) (port : ℕ) (signing : Signing) (settings : Settings) (events : List Timed)
    → HasNumbers (run (first_state settings) events)
    → IsPutBehind before port signing settings events → IsClaimed settings.life before port signing
claimed before port signing settings events numbers put =
    let lawful = subst (IsLawful settings.life []) put.is (first-lawful settings events numbers) in
    let stands = subst (λ action. StandsAt action (due_signing settings.life (onto [] before))) put.action (lawful-at settings.life [] before put.one put.later lawful) in
    let due = subst (λ purpose. IsDue purpose put.asking.port (due_signing settings.life (onto [] before))) put.purpose stands in
    claimed_by settings.life before port signing (due_signing settings.life (onto [] before)) refl
    (subst (λ n. IsSomeAnd (due_signing settings.life (onto [] before)) (λ claim. (claim.port ≡ n) × (claim.signing ≡ signing))) put.asker due)

-- ---- the lock

locked-on : (done : Done) → done ≢ DidUnlock → locked_by done true ≡ true
locked-on DidNothing other = refl
locked-on (DidAdd addition) other = refl
locked-on (DidRemove blob) other = refl
locked-on DidRemoveAll other = refl
locked-on DidLock other = refl
locked-on DidUnlock other = absurd (other refl)
locked-on (DidUse blob) other = refl

stays_locked : (past between : List Stamped) → was_locked past ≡ true → NoneUnlocks between
    → was_locked (onto past between) ≡ true
stays_locked past [] locked none = locked
stays_locked past (one ∷ between) locked none =
    stays_locked (one ∷ past) between (ap (locked_by (done_of one.action)) locked ∙ locked-on (done_of one.action) none.0) none.1

pub put-unlocked : (before : List Stamped) (port : ℕ) (signing : Signing) (settings : Settings) (events : List Timed)
    → HasNumbers (run (first_state settings) events)
    → IsPutBehind before port signing settings events → was_locked (onto [] before) ≡ false
put-unlocked before port signing settings events numbers put =
    (claimed before port signing settings events numbers put).met.unlocked

pub locked-none : (before between : List Stamped) (lock : Stamped) (port : ℕ) (signing : Signing) (settings : Settings) (events : List Timed)
    → HasNumbers (run (first_state settings) events) → done_of lock.action ≡ DidLock
    → NoneUnlocks between → IsPutBehind (before ++ lock ∷ between) port signing settings events → ⊥
locked-none before between lock port signing settings events numbers did none put =
    let locked : was_locked (onto [] (before ++ lock ∷ between)) ≡ true =
    ap was_locked (onto-append [] before (lock ∷ between)) ∙ stays_locked (lock ∷ onto [] before) between (ap (λ done. locked_by done (was_locked (onto [] before))) did) none in
    let unlocked = put-unlocked (before ++ lock ∷ between) port signing settings events numbers put in
    absurd (cc)

-- ---- additions

pub put-added : (before : List Stamped) (port : ℕ) (signing : Signing) (settings : Settings) (events : List Timed)
    → HasNumbers (run (first_state settings) events)
    → IsPutBehind before port signing settings events
    → (past : PastAddition) × (last_addition signing.blob (onto [] before) ≡ Some past)
put-added before port signing settings events numbers put =
    let is = claimed before port signing settings events numbers put in
    (is.met.added, ap (λ (s : Signing). last_addition s.blob (onto [] before)) (sym is.what) ∙ is.met.last)

pub added-none : (done : Done) (blob : List ℕ) (second number : ℕ)
    → ((addition : Addition) → done ≡ DidAdd addition → addition.key.blob ≢ blob)
    → added_by done blob second number None ≡ None
added-none DidNothing blob second number other = refl
added-none (DidAdd addition) blob second number other = by_test (bytes_eq addition.key.blob blob) refl
  where
    by_test : (same : Bool) → bytes_eq addition.key.blob blob ≡ same
        → cond same (Some (let past : PastAddition = record { number = number; second = second; addition = addition; uses = 0 } in past)) None ≡ None
    by_test true is = absurd (other addition refl ((bytes_eq-Decides addition.key.blob blob).0 is))
    by_test false is = refl
added-none (DidRemove removed) blob second number other = by_test (bytes_eq removed blob)
  where
    by_test : (same : Bool) → cond same (let none : Option PastAddition = None in none) None ≡ None
    by_test true = refl
    by_test false = refl
added-none DidRemoveAll blob second number other = refl
added-none DidLock blob second number other = refl
added-none DidUnlock blob second number other = refl
added-none (DidUse used) blob second number other = by_test (bytes_eq used blob)
  where
    by_test : (same : Bool) → cond same (option_map used_again None) None ≡ None
    by_test true = refl
    by_test false = refl

stays_away : (blob : List ℕ) (past between : List Stamped) → last_addition blob past ≡ None
    → NoneAdds blob between → last_addition blob (onto past between) ≡ None
stays_away blob past [] none adds = none
stays_away blob past (one ∷ between) none adds =
    stays_away blob (one ∷ past) between (ap (added_by (done_of one.action) blob one.moment.mono _) none ∙ added-none (done_of one.action) blob one.moment.mono _ adds.0) adds.1

away-none : (before : List Stamped) (port : ℕ) (signing : Signing) (settings : Settings) (events : List Timed)
    → HasNumbers (run (first_state settings) events)
    → last_addition signing.blob (onto [] before) ≡ None
    → IsPutBehind before port signing settings events → ⊥
away-none before port signing settings events numbers none put =
    let added = put-added before port signing settings events numbers put in
    let clash : None ≡ Some added.0 = sym none ∙ added.1 in
    absurd (cc)

pub never-none : (before : List Stamped) (port : ℕ) (signing : Signing) (settings : Settings) (events : List Timed)
    → HasNumbers (run (first_state settings) events) → NoneAdds signing.blob before
    → IsPutBehind before port signing settings events → ⊥
never-none before port signing settings events numbers adds put = away-none before port signing settings events numbers (stays_away signing.blob [] before refl adds) put

removed_then : (blob : List ℕ) (action : Action) (second number : ℕ) (last : Option PastAddition)
    → Removes blob action → added_by (done_of action) blob second number last ≡ None
removed_then blob action second number last (inl is) =
    let same : bytes_eq blob blob ≡ true = (bytes_eq-Decides blob blob).1 refl in
    ap (λ done. added_by done blob second number last) is ∙ ap (λ b. cond b None last) same
removed_then blob action second number last (inr is) =
    ap (λ done. added_by done blob second number last) is

pub removed-none : (before between : List Stamped) (removal : Stamped) (port : ℕ) (signing : Signing) (settings : Settings) (events : List Timed)
    → HasNumbers (run (first_state settings) events) → Removes signing.blob removal.action
    → NoneAdds signing.blob between
    → IsPutBehind (before ++ removal ∷ between) port signing settings events → ⊥
removed-none before between removal port signing settings events numbers removes adds put =
    away-none (before ++ removal ∷ between) port signing settings events numbers
    (ap (last_addition signing.blob) (onto-append [] before (removal ∷ between))
    ∙ stays_away signing.blob (removal ∷ onto [] before) between (removed_then signing.blob removal.action removal.moment.mono _ _ removes) adds)
    put

-- ---- destination constraints, and open asks

pub put-permitted : (before rest : List Stamped) (newest : Stamped) (port : ℕ) (signing : Signing) (settings : Settings) (events : List Timed) (past : PastAddition)
    → HasNumbers (run (first_state settings) events)
    → IsPutBehind before port signing settings events → onto [] before ≡ newest ∷ rest
    → last_addition signing.blob (onto [] before) ≡ Some past
    → denial_under past.addition.terms.rules signing.blob (proved_of port (onto [] before)) signing.message newest.moment.wall ≡ None
put-permitted before rest newest port signing settings events past numbers put is last =
    let by = claimed before port signing settings events numbers put in
    let same : Some by.met.added ≡ Some past = sym by.met.last ∙ ap (λ (s : Signing). last_addition s.blob (onto [] before)) by.what ∙ last in
    let added : by.met.added ≡ past = cc in
    let lists : by.met.newest ∷ by.met.rest ≡ newest ∷ rest = sym by.met.is ∙ is in
    let first : by.met.newest ≡ newest = cc in
    ap (λ (p : PastAddition). denial_under p.addition.terms.rules signing.blob (proved_of port (onto [] before)) signing.message newest.moment.wall) (sym added)
    ∙ ap (λ (s : Signing). denial_under by.met.added.addition.terms.rules s.blob (proved_of port (onto [] before)) s.message newest.moment.wall) (sym by.what)
    ∙ ap (λ n. denial_under by.met.added.addition.terms.rules by.claim.signing.blob (proved_of n (onto [] before)) by.claim.signing.message newest.moment.wall) (sym by.asker)
    ∙ ap (λ (n : Stamped). denial_under by.met.added.addition.terms.rules by.claim.signing.blob (proved_of by.claim.port (onto [] before)) by.claim.signing.message n.moment.wall) (sym first)
    ∙ by.met.permitted

pub put-few : (before : List Stamped) (port : ℕ) (signing : Signing) (settings : Settings) (events : List Timed)
    → HasNumbers (run (first_state settings) events)
    → IsPutBehind before port signing settings events → length (open_asks (onto [] before)) < 256
put-few before port signing settings events numbers put =
    (claimed before port signing settings events numbers put).met.few

pub put-light : (before : List Stamped) (port : ℕ) (signing : Signing) (settings : Settings) (events : List Timed)
    → HasNumbers (run (first_state settings) events) → IsPutBehind before port signing settings events
    → sum_by (λ (one : ℕ × ℕ). one.1) (open_asks (onto [] before)) < 8388608
put-light before port signing settings events numbers put =
    (claimed before port signing settings events numbers put).met.light
