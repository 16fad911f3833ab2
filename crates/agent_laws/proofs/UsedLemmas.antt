-- Over all events a key is used as often as it may be, and no more.
use Rattle.std.proofs.Common.{◌≡◌, ◌≢◌, ℕ, ◌+◌, ◌-◌, ◌<◌, ◌≤◌, List, [], ◌∷◌, ◌++◌, ◌⊎◌, inl, inr, refl, ap, arith, sym, subst, ◌∙◌, Option, Some, None, Bool, true, false, cond, nat_lt, Result, Ok}
use Rattle.std.specs.Option.{option_map}
use Rattle.std.specs.Str.{bytes_eq}
use Rattle.std.proofs.lemmas.Bool.Decides.{nat_tests}
use Rattle.std.proofs.lemmas.Slice.Eq.{bytes_eq-Decides}
use Rattle.agent_msg.specs.declared.fault.MsgFault.{MsgFault}
use Rattle.agent_msg.specs.Requests.{Addition, ClientRequest, Signing, Add, Remove, RemoveAll, Lock, Unlock}
use Rattle.agent_model.specs.Actions.{Action, Answered, Asked, ForBinding, ForSignature, Granted, Lost, Over, Proved, Purpose, Raised, Requested}
use Rattle.agent_model.specs.Binds.{agent_request_of}
use Rattle.agent_model.specs.Events.{Timed}
use Rattle.agent_model.specs.Runs.{Stamped, history, run}
use Rattle.agent_model.specs.State.{Settings, first_state}
use Rattle.agent_model.specs.Verdicts.{Replies, Success, Verdict}
use Rattle.agent_laws.specs.Dues.{Claim, due_signing}
use Rattle.agent_laws.specs.History.{ArePutWhereDue, HasNumbers, IsDue, IsLawful, IsPutBehind, IsPutWhereDue, NoneAdds, StandsAt, StandsWhereDue, onto}
use Rattle.agent_laws.specs.Past.{DidAdd, DidLock, DidNothing, DidRemove, DidRemoveAll, DidUnlock, DidUse, Done, PastAddition, added_by, addition_count, done_by_ask, done_of, done_of_request, has_uses, last_addition, used_again}
use Rattle.agent_laws.specs.Uses.{is_wanted, one_if, times_used, times_wanted, used_in}
use Rattle.agent_laws.proofs.ConsequenceLemmas.{added-none}
use Rattle.agent_laws.proofs.HistoryLemmas.{first-lawful, first-only}
use Rattle.agent_laws.proofs.PastLemmas.{due-purpose}
use Rattle.agent_laws.proofs.TimesLemmas.{HasUse, due-has, none-due, none-wanted, not-wanted}

-- ---- a use is what was due

-- a request uses nothing by itself
not_use : (read : Result ClientRequest MsgFault) (verdict : Verdict) (blob : List ℕ)
    → done_of_request read verdict ≡ DidUse blob → ⊥
not_use (Ok (Add addition)) (Replies Success) blob is = absurd (cc)
not_use (Ok (Remove other)) (Replies Success) blob is = absurd (cc)
not_use (Ok RemoveAll) (Replies Success) blob is = absurd (cc)
not_use (Ok (Lock passphrase)) (Replies Success) blob is = absurd (cc)
not_use (Ok (Unlock passphrase)) (Replies Success) blob is = absurd (cc)
not_use read verdict blob is = absurd (cc)

-- what is due with the key of this blob
pub record DueOf (due : Option Claim) (blob : List ℕ) : Type 0 where
  pub claim : Claim
  pub is : due ≡ Some claim
  pub its : claim.signing.blob ≡ blob

by_purpose : (purpose : Purpose) (port : ℕ) (due : Option Claim) (blob : List ℕ)
    → IsPutWhereDue purpose port due → done_by_ask purpose ≡ DidUse blob → DueOf due blob
by_purpose (ForSignature signing) port None blob put is = absurd put
by_purpose (ForSignature signing) port (Some claim) blob put is =
    let same : signing.blob ≡ blob = cc in
    record { claim = claim; is = refl; its = ap (λ (s : Signing). s.blob) put.1 ∙ same }
by_purpose (ForBinding binding) port due blob put is = absurd (cc)

use-due : (action : Action) (due : Option Claim) (blob : List ℕ) → StandsWhereDue action due
    → done_of action ≡ DidUse blob → DueOf due blob
use-due (Requested requesting) due blob stands is = absurd (not_use (agent_request_of requesting.body) requesting.verdict blob is)
use-due (Asked asking) due blob stands is = by_purpose asking.purpose asking.port due blob stands is
use-due (Answered settled) due blob stands is = absurd (cc)
use-due (Proved proving) due blob stands is = absurd (cc)
use-due (Raised raising) due blob stands is = absurd (cc)
use-due (Granted job) due blob stands is = absurd (cc)
use-due (Over job) due blob stands is = absurd (cc)
use-due Lost due blob stands is = absurd (cc)

-- a use that is counted for a blob is due to that blob
counted-due : (action : Action) (due : Option Claim) (blob : List ℕ) → StandsWhereDue action due
    → used_in blob (done_of action) ≡ 1 → DueOf due blob
counted-due action due blob stands one = by_done (done_of action) refl one
  where
    by_test : (other : List ℕ) (same : Bool) → bytes_eq other blob ≡ same
        → done_of action ≡ DidUse other → one_if same ≡ 1 → DueOf due blob
    by_test other true same is count =
        let it = use-due action due other stands is in
        record { claim = it.claim; is = it.is; its = it.its ∙ (bytes_eq-Decides other blob).0 same }
    by_test other false same is count = absurd (omega (arith, count))

    by_done : (done : Done) → done_of action ≡ done → used_in blob done ≡ 1 → DueOf due blob
    by_done DidNothing is count = absurd (omega (arith, count))
    by_done (DidAdd addition) is count = absurd (omega (arith, count))
    by_done (DidRemove other) is count = absurd (omega (arith, count))
    by_done DidRemoveAll is count = absurd (omega (arith, count))
    by_done DidLock is count = absurd (omega (arith, count))
    by_done DidUnlock is count = absurd (omega (arith, count))
    by_done (DidUse other) is count = by_test other (bytes_eq other blob) refl is count

at-where : (action : Action) (due : Option Claim) → StandsAt action due → StandsWhereDue action due
at-where (Requested requesting) due stands = tt
at-where (Asked asking) due stands = due-purpose asking.purpose asking.port due stands
at-where (Answered settled) due stands = tt
at-where (Proved proving) due stands = tt
at-where (Raised raising) due stands = tt
at-where (Granted job) due stands = tt
at-where (Over job) due stands = tt
at-where Lost due stands = tt

-- what is due is used
due_purpose-use : (purpose : Purpose) (port : ℕ) (claim : Claim) → IsDue purpose port (Some claim)
    → done_by_ask purpose ≡ DidUse claim.signing.blob
due_purpose-use (ForSignature signing) port claim due =
    ap (λ (s : Signing). DidUse s.blob) (sym due.1)
due_purpose-use (ForBinding binding) port claim due = absurd (cc)

due-use : (action : Action) (claim : Claim) → StandsAt action (Some claim)
    → done_of action ≡ DidUse claim.signing.blob
due-use (Requested requesting) claim stands = absurd (cc)
due-use (Asked asking) claim stands = due_purpose-use asking.purpose asking.port claim stands
due-use (Answered settled) claim stands = absurd (cc)
due-use (Proved proving) claim stands = absurd (cc)
due-use (Raised raising) claim stands = absurd (cc)
due-use (Granted job) claim stands = absurd (cc)
due-use (Over job) claim stands = absurd (cc)
due-use Lost claim stands = absurd (cc)

due-counted : (action : Action) (due : Option Claim) (blob : List ℕ) → StandsAt action due
    → DueOf due blob → used_in blob (done_of action) ≡ 1
due-counted action due blob stands of =
    let done : done_of action ≡ DidUse of.claim.signing.blob = due-use action of.claim (subst (StandsAt action) of.is stands) in
    let same : bytes_eq of.claim.signing.blob blob ≡ true = (bytes_eq-Decides of.claim.signing.blob blob).1 of.its in
    ap (used_in blob) done ∙ ap one_if same

-- ---- what an action leaves of an addition

-- it is used, it stays as it is, or it leaves
pub data Follows (last : PastAddition) : ℕ → Option PastAddition → Type 0 where
  used_it : Follows last 1 (Some (used_again last))
  stays_so : Follows last 0 (Some last)
  leaves : Follows last 0 None

follows : (blob : List ℕ) (last : PastAddition) (done : Done) (second number : ℕ)
    → ((addition : Addition) → done ≡ DidAdd addition → addition.key.blob ≢ blob)
    → Follows last (used_in blob done) (added_by done blob second number (Some last))
follows blob last DidNothing second number other = stays_so
follows blob last (DidAdd addition) second number other = by_test (bytes_eq addition.key.blob blob) refl
  where
    by_test : (same : Bool) → bytes_eq addition.key.blob blob ≡ same
        → Follows last 0 (cond same (Some (let past : PastAddition = record { number = number; second = second; addition = addition; uses = 0 } in past)) (Some last))
    by_test true is = absurd (other addition refl ((bytes_eq-Decides addition.key.blob blob).0 is))
    by_test false is = stays_so
follows blob last (DidRemove removed) second number other = by_test (bytes_eq removed blob)
  where
    by_test : (same : Bool) → Follows last 0 (cond same None (Some last))
    by_test true = leaves
    by_test false = stays_so
follows blob last DidRemoveAll second number other = leaves
follows blob last DidLock second number other = stays_so
follows blob last DidUnlock second number other = stays_so
follows blob last (DidUse used) second number other = by_test (bytes_eq used blob)
  where
    by_test : (same : Bool)
        → Follows last (one_if same) (cond same (option_map used_again (Some last)) (Some last))
    by_test true = used_it
    by_test false = stays_so

next_last : (blob : List ℕ) (past : List Stamped) (one : Stamped) (last : Option PastAddition)
    → last_addition blob past ≡ last
    → last_addition blob (one ∷ past) ≡ added_by (done_of one.action) blob one.moment.mono (addition_count past + 1) last
next_last blob past one last is =
    ap (added_by (done_of one.action) blob one.moment.mono (addition_count past + 1)) is

still_none : (blob : List ℕ) (past : List Stamped) (one : Stamped) → last_addition blob past ≡ None
    → ((addition : Addition) → done_of one.action ≡ DidAdd addition → addition.key.blob ≢ blob)
    → last_addition blob (one ∷ past) ≡ None
still_none blob past one none adds = next_last blob past one None none ∙ added-none (done_of one.action) blob one.moment.mono (addition_count past + 1) adds

-- of a use that isn't counted
zero_or_one : (blob : List ℕ) (done : Done) → (used_in blob done ≡ 0) ⊎ (used_in blob done ≡ 1)
zero_or_one blob DidNothing = inl refl
zero_or_one blob (DidAdd addition) = inl refl
zero_or_one blob (DidRemove other) = inl refl
zero_or_one blob DidRemoveAll = inl refl
zero_or_one blob DidLock = inl refl
zero_or_one blob DidUnlock = inl refl
zero_or_one blob (DidUse other) = by_test (bytes_eq other blob)
  where
    by_test : (same : Bool) → (one_if same ≡ 0) ⊎ (one_if same ≡ 1)
    by_test true = inr refl
    by_test false = inl refl

-- ---- at most

module _ (life : Option ℕ) (blob : List ℕ) where
  -- what isn't held isn't used
  none-now : (past : List Stamped) (one : Stamped) → last_addition blob past ≡ None
      → StandsWhereDue one.action (due_signing life past) → used_in blob (done_of one.action) ≡ 0
  none-now past one none stands = by_count (zero_or_one blob (done_of one.action))
    where
      by_count : (used_in blob (done_of one.action) ≡ 0) ⊎ (used_in blob (done_of one.action) ≡ 1)
          → used_in blob (done_of one.action) ≡ 0
      by_count (inl is) = is
      by_count (inr is) =
          let of = counted-due one.action (due_signing life past) blob stands is in
          absurd (none-due life blob past of.claim none of.is of.its)

  none-used : (past later : List Stamped) → last_addition blob past ≡ None
      → ArePutWhereDue life past later → NoneAdds blob later → times_used blob later ≡ 0
  none-used past [] none put adds = refl
  none-used past (one ∷ later) none put adds =
      omega (arith, none-now past one none put.0, none-used (one ∷ past) later (still_none blob past one none adds.0) put.1 adds.1)

  has-number : (last : PastAddition) (uses : ℕ) → last.addition.terms.uses ≡ Some uses → HasUse last
      → last.uses < uses
  has-number last uses terms has =
      let test : nat_lt last.uses uses ≡ true = ap (λ u. has_uses u last.uses) (sym terms) ∙ has in
      grind (arith, nat_tests, test)

  number-has : (last : PastAddition) (uses : ℕ) → last.addition.terms.uses ≡ Some uses
      → nat_lt last.uses uses ≡ true → HasUse last
  number-has last uses terms test = ap (λ u. has_uses u last.uses) terms ∙ test

  -- one step, by what it leaves
  module _ (past : List Stamped) (one : Stamped) (later : List Stamped) (last : PastAddition) (uses : ℕ) (is : last_addition blob past ≡ Some last) (terms : last.addition.terms.uses ≡ Some uses) (within : last.uses ≤ uses) where
    abbrev More : Type 0
    More = (next : PastAddition) → last_addition blob (one ∷ past) ≡ Some next → next.addition.terms.uses ≡ Some uses → next.uses ≤ uses → next.uses + times_used blob later ≤ uses

    most-step : (count : ℕ) (after : Option PastAddition) → Follows last count after
        → used_in blob (done_of one.action) ≡ count → last_addition blob (one ∷ past) ≡ after
        → StandsWhereDue one.action (due_signing life past) → More
        → (last_addition blob (one ∷ past) ≡ None → times_used blob later ≡ 0)
        → last.uses + times_used blob (one ∷ later) ≤ uses
    most-step _ _ used_it count then stands more gone =
        let of = counted-due one.action (due_signing life past) blob stands count in
        let has = (due-has life blob past of.claim last is of.is of.its).1 in
        let left : last.uses < uses = has-number last uses terms has in
        let rest : (last.uses + 1) + times_used blob later ≤ uses = more (used_again last) then terms (omega (arith, left)) in
        omega (arith, count, rest)
    most-step _ _ stays_so count then stands more gone =
        omega (arith, count, more last then terms within)
    most-step _ _ leaves count then stands more gone = omega (arith, count, gone then, within)

  most-used : (past later : List Stamped) (last : PastAddition) (uses : ℕ)
      → last_addition blob past ≡ Some last → last.addition.terms.uses ≡ Some uses
      → last.uses ≤ uses → ArePutWhereDue life past later → NoneAdds blob later
      → last.uses + times_used blob later ≤ uses
  most-used past [] last uses is terms within put adds = omega (arith, within)
  most-used past (one ∷ later) last uses is terms within put adds =
      most-step past one later last uses is terms within _ _
      (follows blob last (done_of one.action) one.moment.mono (addition_count past + 1) adds.0) refl (next_last blob past one (Some last) is) put.0
      (λ next then of_next under. most-used (one ∷ past) later next uses then of_next under put.1 adds.1)
      (λ none. none-used (one ∷ past) later none put.1 adds.1)

-- ---- exactly

-- so many are used as are wanted, or as are left where more are wanted
pub record IsCut (left wanted used : ℕ) : Type 0 where
  pub each : wanted ≤ left → used ≡ wanted
  pub full : left ≤ wanted → used ≡ left

module _ (life : Option ℕ) (blob : List ℕ) where
  none-wanted_later : (past later : List Stamped) → last_addition blob past ≡ None
      → NoneAdds blob later → times_wanted blob life past later ≡ 0
  none-wanted_later past [] none adds = ap one_if (none-wanted life blob past none)
  none-wanted_later past (one ∷ later) none adds =
      omega (arith, ap one_if (none-wanted life blob past none), none-wanted_later (one ∷ past) later (still_none blob past one none adds.0) adds.1)

  lawful-put : (past later : List Stamped) → IsLawful life past later
      → ArePutWhereDue life past later
  lawful-put past [] lawful = tt
  lawful-put past (one ∷ later) lawful =
      (at-where one.action (due_signing life past) lawful.0, lawful-put (one ∷ past) later lawful.1)

  -- where none is used none is wanted, or none is left
  module _ (past : List Stamped) (last : PastAddition) (uses : ℕ) (is : last_addition blob past ≡ Some last) (terms : last.addition.terms.uses ≡ Some uses) where
    abbrev now : ℕ
    now = one_if (is_wanted blob life past)

    none-unless : ((claim : Claim) → due_signing life past ≡ Some claim → claim.signing.blob ≡ blob → ⊥)
        → (now ≡ 0) ⊎ (uses - last.uses ≡ 0)
    none-unless never = by_test (nat_lt last.uses uses) refl
      where
        by_test : (some : Bool) → nat_lt last.uses uses ≡ some → (now ≡ 0) ⊎ (uses - last.uses ≡ 0)
        by_test true some = inl (ap one_if (not-wanted life blob past last is (number-has life blob last uses terms some) never))
        by_test false some = inr (grind (arith, nat_tests, some))

  cut-on : (now left wanted used : ℕ) → (now ≡ 0) ⊎ (left ≡ 0) → IsCut left wanted used
      → IsCut left (now + wanted) used
  cut-on now left wanted used (inl none) cut = record {
    each = λ few. let same : used ≡ wanted = cut.each (omega (arith, few, none)) in omega (arith, same, none);
    full = λ many. cut.full (omega (arith, many, none));
  }
  cut-on now left wanted used (inr none) cut = record {
    each = λ few. let same : used ≡ wanted = cut.each (omega (arith, few, none)) in omega (arith, same, few, none);
    full = λ many. cut.full (omega (arith, none));
  }

  module _ (past : List Stamped) (one : Stamped) (later : List Stamped) (last : PastAddition) (uses : ℕ) (is : last_addition blob past ≡ Some last) (terms : last.addition.terms.uses ≡ Some uses) where
    abbrev Wanted : ℕ
    Wanted = times_wanted blob life (one ∷ past) later

    abbrev Used : ℕ
    Used = times_used blob later

    abbrev Onwards : Type 0
    Onwards = (next : PastAddition) → last_addition blob (one ∷ past) ≡ Some next → next.addition.terms.uses ≡ Some uses → next.uses ≤ uses → IsCut (uses - next.uses) Wanted Used

    never-due : used_in blob (done_of one.action) ≡ 0 → StandsAt one.action (due_signing life past)
        → (claim : Claim) → due_signing life past ≡ Some claim → claim.signing.blob ≡ blob → ⊥
    never-due none stands claim due its =
        let once = due-counted one.action (due_signing life past) blob stands record { claim = claim; is = due; its = its } in
        absurd (omega (arith, none, once))

    more-used : (now : ℕ) → used_in blob (done_of one.action) ≡ 0
        → IsCut (uses - last.uses) (now + Wanted) Used
        → IsCut (uses - last.uses) (now + Wanted) (times_used blob (one ∷ later))
    more-used now none cut = record {
      each = λ few. let same : Used ≡ now + Wanted = cut.each few in omega (arith, none, same);
      full =
          λ many. let same : Used ≡ uses - last.uses = cut.full many in omega (arith, none, same);
    }

    exact-step : (count : ℕ) (after : Option PastAddition) → Follows last count after
        → used_in blob (done_of one.action) ≡ count → last_addition blob (one ∷ past) ≡ after
        → last.uses ≤ uses → StandsAt one.action (due_signing life past) → Onwards
        → (last_addition blob (one ∷ past) ≡ None → (Wanted ≡ 0) × (Used ≡ 0))
        → IsCut (uses - last.uses) (times_wanted blob life past (one ∷ later)) (times_used blob (one ∷ later))
    exact-step _ _ used_it count then within stands onwards gone =
        let of = counted-due one.action (due_signing life past) blob (at-where one.action (due_signing life past) stands) count in
        let so = due-has life blob past of.claim last is of.is of.its in
        let left : last.uses < uses = has-number life blob last uses terms so.1 in
        let once : one_if (is_wanted blob life past) ≡ 1 = ap one_if so.0 in
        let cut : IsCut (uses - (last.uses + 1)) Wanted Used = onwards (used_again last) then terms (omega (arith, left)) in
        record {
          each = λ few. let same : Used ≡ Wanted = cut.each (omega (arith, few, once, left)) in omega (arith, count, once, same);
          full = λ many. let same : Used ≡ uses - (last.uses + 1) = cut.full (omega (arith, many, once, left)) in omega (arith, count, once, same, left);
        }
    exact-step _ _ stays_so count then within stands onwards gone =
        more-used (one_if (is_wanted blob life past)) count
        (cut-on (one_if (is_wanted blob life past)) (uses - last.uses) Wanted Used (none-unless past last uses is terms (never-due count stands)) (onwards last then terms within))
    exact-step _ _ leaves count then within stands onwards gone =
        let both = gone then in
        more-used (one_if (is_wanted blob life past)) count
        (cut-on (one_if (is_wanted blob life past)) (uses - last.uses) Wanted Used (none-unless past last uses is terms (never-due count stands))
        record { each = λ few. omega (arith, both.0, both.1); full = λ many. omega (arith, many, both.0, both.1) })

  exactly-used : (past later : List Stamped) (last : PastAddition) (uses : ℕ)
      → last_addition blob past ≡ Some last → last.addition.terms.uses ≡ Some uses
      → last.uses ≤ uses → IsLawful life past later → NoneAdds blob later
      → IsCut (uses - last.uses) (times_wanted blob life past later) (times_used blob later)
  exactly-used past [] last uses is terms within lawful adds =
      by_none (none-unless past last uses is terms (λ claim due its. let clash : None ≡ Some claim = sym lawful ∙ due in absurd (cc)))
    where
      by_none : (one_if (is_wanted blob life past) ≡ 0) ⊎ (uses - last.uses ≡ 0)
          → IsCut (uses - last.uses) (one_if (is_wanted blob life past)) 0
      by_none (inl none) =
          record { each = λ few. omega (arith, none); full = λ many. omega (arith, many, none) }
      by_none (inr none) =
          record { each = λ few. omega (arith, few, none); full = λ many. omega (arith, none) }
  exactly-used past (one ∷ later) last uses is terms within lawful adds =
      exact-step past one later last uses is terms _ _
      (follows blob last (done_of one.action) one.moment.mono (addition_count past + 1) adds.0) refl (next_last blob past one (Some last) is) within lawful.0
      (λ next then of_next under. exactly-used (one ∷ past) later next uses then of_next under lawful.1 adds.1)
      (λ none. (none-wanted_later (one ∷ past) later none adds.1, none-used life blob (one ∷ past) later none (lawful-put (one ∷ past) later lawful.1) adds.1))

-- ---- over all events

put-behind : (life : Option ℕ) (past some more : List Stamped)
    → ArePutWhereDue life past (some ++ more) → ArePutWhereDue life (onto past some) more
put-behind life past [] more put = put
put-behind life past (one ∷ some) more put = put-behind life (one ∷ past) some more put.1

put-front : (life : Option ℕ) (past some more : List Stamped)
    → ArePutWhereDue life past (some ++ more) → ArePutWhereDue life past some
put-front life past [] more put = tt
put-front life past (one ∷ some) more put = (put.0, put-front life (one ∷ past) some more put.1)

lawful-behind : (life : Option ℕ) (past some more : List Stamped)
    → IsLawful life past (some ++ more) → IsLawful life (onto past some) more
lawful-behind life past [] more lawful = lawful
lawful-behind life past (one ∷ some) more lawful =
    lawful-behind life (one ∷ past) some more lawful.1

-- directly behind an addition
module _ (past : List Stamped) (one : Stamped) (addition : Addition) (did : done_of one.action ≡ DidAdd addition) where
  abbrev new : PastAddition
  new = record { number = addition_count past + 1; second = one.moment.mono; addition = addition; uses = 0 }

  just_added : last_addition addition.key.blob (one ∷ past) ≡ Some new
  just_added =
      let same : bytes_eq addition.key.blob addition.key.blob ≡ true = (bytes_eq-Decides addition.key.blob addition.key.blob).1 refl in
      ap (λ done. added_by done addition.key.blob one.moment.mono (addition_count past + 1) (last_addition addition.key.blob past)) did
      ∙ ap (λ b. cond b (Some new) (last_addition addition.key.blob past)) same

pub used-most : (before later rest : List Stamped) (one : Stamped) (addition : Addition) (uses : ℕ) (settings : Settings) (events : List Timed)
    → history (first_state settings) events ≡ before ++ one ∷ (later ++ rest)
    → done_of one.action ≡ DidAdd addition → addition.terms.uses ≡ Some uses
    → NoneAdds addition.key.blob later → times_used addition.key.blob later ≤ uses
used-most before later rest one addition uses settings events is did terms adds =
    let put = put-behind settings.life [] before (one ∷ (later ++ rest)) (subst (ArePutWhereDue settings.life []) is (first-only settings events)) in
    let past : List Stamped = onto [] before in
    let most : 0 + times_used addition.key.blob later ≤ uses =
    most-used settings.life addition.key.blob (one ∷ past) later (new past one addition did) uses (just_added past one addition did) terms (omega arith) (put-front settings.life (one ∷ past) later rest put.1) adds in
    omega (arith, most)

-- what is put behind others is one more
times-append : (blob : List ℕ) (some more : List Stamped)
    → times_used blob (some ++ more) ≡ times_used blob some + times_used blob more
times-append blob [] more = omega arith
times-append blob (one ∷ some) more =
    let rest = times-append blob some more in
    omega (arith, rest)

none_adds-more : (blob : List ℕ) (some more : List Stamped) → NoneAdds blob some
    → NoneAdds blob more → NoneAdds blob (some ++ more)
none_adds-more blob [] more first later = later
none_adds-more blob (one ∷ some) more first later =
    (first.0, none_adds-more blob some more first.1 later)

regrouped : (before some : List Stamped) (one last : Stamped) (rest : List Stamped)
    → (before ++ one ∷ some) ++ last ∷ rest ≡ before ++ one ∷ ((some ++ last ∷ []) ++ rest)
regrouped [] some one last rest = ap (λ l. one ∷ l) (inner some)
  where
    inner : (some : List Stamped) → some ++ last ∷ rest ≡ (some ++ last ∷ []) ++ rest
    inner [] = refl
    inner (first ∷ some) = ap (λ l. first ∷ l) (inner some)
regrouped (first ∷ before) some one last rest =
    ap (λ l. first ∷ l) (regrouped before some one last rest)

pub used-fewer : (before between : List Stamped) (one : Stamped) (addition : Addition) (uses port : ℕ) (signing : Signing) (settings : Settings) (events : List Timed)
    → done_of one.action ≡ DidAdd addition → addition.key.blob ≡ signing.blob
    → addition.terms.uses ≡ Some uses → NoneAdds signing.blob between
    → IsPutBehind (before ++ one ∷ between) port signing settings events
    → times_used signing.blob between < uses
used-fewer before between one addition uses port signing settings events did its terms adds put =
    let did_use : done_of put.one.action ≡ DidUse signing.blob =
    ap done_of put.action ∙ ap done_by_ask put.purpose in
    let none : NoneAdds signing.blob (put.one ∷ []) = ((λ other is. let clash : DidUse signing.blob ≡ DidAdd other = sym did_use ∙ is in absurd (cc)), tt) in
    let all : NoneAdds addition.key.blob (between ++ put.one ∷ []) =
    subst (λ b. NoneAdds b (between ++ put.one ∷ [])) (sym its) (none_adds-more signing.blob between (put.one ∷ []) adds none) in
    let most : times_used signing.blob (between ++ put.one ∷ []) ≤ uses =
    subst (λ b. times_used b (between ++ put.one ∷ []) ≤ uses) its
    (used-most before (between ++ put.one ∷ []) put.later one addition uses settings events (put.is ∙ regrouped before between one put.one put.later) did terms all) in
    let once : used_in signing.blob (done_of put.one.action) ≡ 1 =
    ap (used_in signing.blob) did_use ∙ ap one_if ((bytes_eq-Decides signing.blob signing.blob).1 refl) in
    let sum : times_used signing.blob (between ++ put.one ∷ []) ≡ times_used signing.blob between + (used_in signing.blob (done_of put.one.action) + 0) = times-append signing.blob between (put.one ∷ []) in
    omega (arith, most, once, sum)

used-cut : (before later : List Stamped) (one : Stamped) (addition : Addition) (uses : ℕ) (settings : Settings) (events : List Timed)
    → HasNumbers (run (first_state settings) events)
    → history (first_state settings) events ≡ before ++ one ∷ later
    → done_of one.action ≡ DidAdd addition → addition.terms.uses ≡ Some uses
    → NoneAdds addition.key.blob later
    → IsCut (uses - 0) (times_wanted addition.key.blob settings.life (one ∷ onto [] before) later) (times_used addition.key.blob later)
used-cut before later one addition uses settings events numbers is did terms adds =
    let lawful = lawful-behind settings.life [] before (one ∷ later) (subst (IsLawful settings.life []) is (first-lawful settings events numbers)) in
    let past : List Stamped = onto [] before in
    exactly-used settings.life addition.key.blob (one ∷ past) later (new past one addition did) uses (just_added past one addition did) terms (omega arith) lawful.1 adds

pub used-each : (before later : List Stamped) (one : Stamped) (addition : Addition) (uses : ℕ) (settings : Settings) (events : List Timed)
    → HasNumbers (run (first_state settings) events)
    → history (first_state settings) events ≡ before ++ one ∷ later
    → done_of one.action ≡ DidAdd addition → addition.terms.uses ≡ Some uses
    → NoneAdds addition.key.blob later
    → times_wanted addition.key.blob settings.life (one ∷ onto [] before) later ≤ uses
    → times_used addition.key.blob later ≡ times_wanted addition.key.blob settings.life (one ∷ onto [] before) later
used-each before later one addition uses settings events numbers is did terms adds few =
    (used-cut before later one addition uses settings events numbers is did terms adds).each (omega (arith, few))

pub used-all : (before later : List Stamped) (one : Stamped) (addition : Addition) (uses : ℕ) (settings : Settings) (events : List Timed)
    → HasNumbers (run (first_state settings) events)
    → history (first_state settings) events ≡ before ++ one ∷ later
    → done_of one.action ≡ DidAdd addition → addition.terms.uses ≡ Some uses
    → NoneAdds addition.key.blob later
    → uses ≤ times_wanted addition.key.blob settings.life (one ∷ onto [] before) later
    → times_used addition.key.blob later ≡ uses
used-all before later one addition uses settings events numbers is did terms adds many =
    let all : times_used addition.key.blob later ≡ uses - 0 = (used-cut before later one addition uses settings events numbers is did terms adds).full (omega (arith, many)) in
    omega (arith, all)
