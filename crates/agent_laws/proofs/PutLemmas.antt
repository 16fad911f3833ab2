-- Why a signature is put to the helper: the client asked for it at once, or the user agreed to what it asked for.
use Rattle.std.proofs.Common.{◌≡◌, ℕ, ◌+◌, ◌≤◌, List, [], ◌∷◌, ◌++◌, refl, ap, arith, sym, subst, ◌∙◌, ◌==◌, ◌⊎◌, Option, Some, None, IsSome, Bool, true, false, cond, inl, inr, Result, Ok}
use Rattle.std.specs.Option.{option_map}
use Rattle.world_ports.specs.declared.Moment.{Moment}
use Rattle.wire_text.specs.Frames.{front_body}
use Rattle.agent_msg.specs.declared.fault.MsgFault.{MsgFault}
use Rattle.agent_msg.specs.Requests.{ClientRequest, Signing, Sign}
use Rattle.confirm_desk.specs.Confirmations.{Confirmation, find_job}
use Rattle.dest_rule.specs.declared.binding.Binding.{Binding}
use Rattle.helper_link.specs.Telling.{Telling, telling}
use Rattle.identity_table.specs.Identities.{HeldKey, find_identity, find_number}
use Rattle.identity_table.proofs.FindLemmas.{found_has}
use Rattle.identity_table.proofs.NumberLaws.{number_of_found}
use Rattle.agent_model.specs.Actions.{Action, Answered, Asked, Asking, ForBinding, ForSignature, Granted, Lost, Outcome, Over, Proved, Raised, Raising, Requested, Work}
use Rattle.agent_model.specs.Answers.{helper_tells}
use Rattle.agent_model.specs.Askable.{IsGrantable}
use Rattle.agent_model.specs.Binds.{agent_request_of}
use Rattle.agent_model.specs.Dispatch.{Served, Asker, serve}
use Rattle.agent_model.specs.Consents.{signing_of, without_confirmation}
use Rattle.agent_model.specs.Errands.{Signs, Verifies, binding_of}
use Rattle.agent_model.specs.Events.{Happening, Timed}
use Rattle.agent_model.specs.Fates.{actions_of}
use Rattle.agent_model.specs.Grants.{IsAmong}
use Rattle.agent_laws.specs.Grants.{HaveOwnParts, IsPut, Wanted, at_once, by_consent, noted, pending, pending_after, pending_by, wanted, wanted_of}
use Rattle.agent_model.specs.KeyStates.{KeyState}
use Rattle.agent_model.specs.Runs.{run}
use Rattle.agent_model.specs.Sound.{IsTied}
use Rattle.agent_model.specs.State.{Port, Settings, State, UnderWay, find_port, first_state}
use Rattle.agent_model.specs.Step.{asker_at, handle, step}
use Rattle.agent_model.specs.Time.{at_moment, time_passes}
use Rattle.agent_model.proofs.ActionLemmas.{Each, among-back, among-each, each-append, each-tells}
use Rattle.agent_model.proofs.FatedLemmas.{first-tied, run-tied, tied-opened}
use Rattle.agent_model.proofs.TiedLemmas.{tied-quiet}
use Rattle.agent_model.proofs.GrantLemmas.{IsGranted, allowed, disallowed, grant-ends, unasked}
use Rattle.agent_model.proofs.JobLemmas.{in-found}
use Rattle.agent_model.proofs.JudgedLemmas.{keeps-quiet}
use Rattle.agent_model.proofs.JudgeLemmas.{KeepsChains}
use Rattle.agent_laws.proofs.KeyLemmas.{KeysKept, first-own, kept-event, kept-opened, run-kept}
use Rattle.agent_model.proofs.MakeLemmas.{Makes, Quiet, alters, by_event, closes, first, goes_on, grants, links, loses, names, overs, serves, stays, tells}
use Rattle.agent_model.proofs.TimeLemmas.{time_passes-brings}
use Rattle.agent_model.proofs.SizeLemmas.{size_of}
use Rattle.agent_model.proofs.ServeLemmas.{Serves, adds, confirms, denies, empties, lists, locks, removes, serves-any, signs, unlocks, verifies}
use Rattle.agent_laws.proofs.PendingLemmas.{among-either, pending-append}
use Rattle.agent_laws.proofs.TraceLemmas.{moment-pending, quiet-noted, run-pending}

-- ---- what a request does

module _ (read : Result ClientRequest MsgFault) (asker : Asker) (held : KeyState) (under_way : UnderWay) where
  -- an ask for a signature is for the one that was asked for, with a key that asks for no confirmation
  asks-served : (asking : Asking) (signing : Signing) → asking.purpose ≡ ForSignature signing →
      {served : Served} → Serves read asker held under_way served →
      IsAmong (Asked asking) served.work.actions →
      (asker.port ≡ asking.port) × ((key : HeldKey) × (read ≡ Ok (Sign signing))
      × (find_identity signing.blob held.table.identities ≡ Some key) × (key.confirm ≡ false))
  asks-served asking signing purpose (denies cause) none = absurd none
  asks-served asking signing purpose (lists identities is) none = absurd none
  asks-served asking signing purpose (adds addition is) none = absurd none
  asks-served asking signing purpose (removes blob is) none = absurd none
  asks-served asking signing purpose (empties is) none = absurd none
  asks-served asking signing purpose (locks passphrase is) none = absurd none
  asks-served asking signing purpose (unlocks passphrase is) none = absurd none
  asks-served asking signing purpose (signs other key is found asks free) (inr none) = absurd none
  asks-served asking signing purpose (signs other key is found asks free) (inl among) =
      let same : record { ask = under_way.link.last + 1; port = asker.port; purpose = ForSignature other; size = size_of (Signs key other) (under_way.link.last + 1) } ≡ asking = cc in
      let what : ForSignature other ≡ ForSignature signing = ap (λ (a : Asking). a.purpose) same ∙ purpose in
      let equal : other ≡ signing = cc in (
        ap (λ (a : Asking). a.port) same,
        (key, is ∙ ap (λ w. Ok (Sign w)) equal, ap (λ (w : Signing). find_identity w.blob held.table.identities) (sym equal) ∙ found, asks),
      )
  asks-served asking signing purpose (confirms other key is found free) (inl among) = absurd (cc)
  asks-served asking signing purpose (confirms other key is found free) (inr none) = absurd none
  asks-served asking signing purpose (verifies bind is_new is stands free) (inr none) = absurd none
  asks-served asking signing purpose (verifies bind is_new is stands free) (inl among) =
      let same : record { ask = under_way.link.last + 1; port = asker.port; purpose = ForBinding (binding_of bind); size = size_of (Verifies bind is_new) (under_way.link.last + 1) } ≡ asking = cc in
      let what : ForBinding (binding_of bind) ≡ ForSignature signing = ap (λ (a : Asking). a.purpose) same ∙ purpose in
      absurd (cc)

  -- a confirmation is of the key that is held
  raises-served : (raising : Raising) → {served : Served}
      → Serves read asker held under_way served →
      IsAmong (Raised raising) served.work.actions →
      (key : HeldKey) × (find_identity raising.signing.blob held.table.identities ≡ Some key)
      × (raising.addition ≡ key.number)
  raises-served raising (denies cause) none = absurd none
  raises-served raising (lists identities is) none = absurd none
  raises-served raising (adds addition is) none = absurd none
  raises-served raising (removes blob is) none = absurd none
  raises-served raising (empties is) none = absurd none
  raises-served raising (locks passphrase is) none = absurd none
  raises-served raising (unlocks passphrase is) none = absurd none
  raises-served raising (signs signing key is found asks free) (inl among) = absurd (cc)
  raises-served raising (signs signing key is found asks free) (inr none) = absurd none
  raises-served raising (confirms signing key is found free) (inr none) = absurd none
  raises-served raising (confirms signing key is found free) (inl among) =
      let same : record { job = under_way.last_job + 1; port = asker.port; addition = key.number; signing = signing } ≡ raising = cc in (
        key,
        ap (λ (r : Raising). find_identity r.signing.blob held.table.identities) (sym same) ∙ found,
        sym (ap (λ (r : Raising). r.addition) same),
      )
  raises-served raising (verifies bind is_new is stands free) (inl among) = absurd (cc)
  raises-served raising (verifies bind is_new is stands free) (inr none) = absurd none

-- ---- actions of other events

-- neither an ask nor a confirmation comes of these
abbrev IsIdle : Action → Type 0
IsIdle (Asked asking) = ⊥
IsIdle (Raised raising) = ⊥
IsIdle _ = Unit {0}

idle-tells : (told : Telling) (state : State) → Each IsIdle (helper_tells told state).actions
idle-tells told state = each-tells IsIdle (λ one. tt) (λ proving. tt) tt told state

-- ---- what is waited for has a key

-- what an addition that is waited for was, and that no later one takes its number
pub record IsNamed (waiting : ℕ → Option Raising) (state : State) : Type 0 where
  pub own : HaveOwnParts state.held.table
  pub named : (job : ℕ) (raising : Raising) → waiting job ≡ Some raising
      → (raising.addition ≤ state.held.table.last) × ((key : HeldKey) → find_number raising.addition state.held.table.identities ≡ Some key → key.blob ≡ raising.signing.blob)

-- as identities come and go
named-kept : (waiting : ℕ → Option Raising) (old new : State)
    → KeysKept old.held.table new.held.table → IsNamed waiting old → IsNamed waiting new
named-kept waiting old new kept named = record {
  own = kept.own;
  named = λ job raising is.
      let before = named.named job raising is in (
        omega (arith, before.0, kept.last),
        λ key found.
            let was = kept.found raising.addition key before.0 found in
            ap (λ (k : HeldKey). k.blob) was.used.same ∙ before.1 was.was was.found,
      );
}

-- what is waited for after actions was before, or was raised by them
pending-cases : (job : ℕ) (actions : List Action) (before : Option Raising) (raising : Raising)
    → pending_after job actions before ≡ Some raising
    → (before ≡ Some raising) ⊎ IsAmong (Raised raising) actions
pending-cases job [] before raising is = inl is
pending-cases job (action ∷ later) before raising is = by_later (pending-cases job later (pending_by job action before) raising is)
  where
    by_raised : (same : Bool) (one : Raising) → cond same (Some one) before ≡ Some raising
        → (before ≡ Some raising) ⊎ ((Raised one ≡ Raised raising) ⊎ IsAmong (Raised raising) later)
    by_raised true one some = let equal : one ≡ raising = cc in inr (inl (ap Raised equal))
    by_raised false one some = inl some

    by_end : (same : Bool) → cond same None before ≡ Some raising → before ≡ Some raising
    by_end true some = absurd (cc)
    by_end false some = some

    by_action : (action : Action) → pending_by job action before ≡ Some raising
        → (before ≡ Some raising) ⊎ ((action ≡ Raised raising) ⊎ IsAmong (Raised raising) later)
    by_action (Requested requesting) some = inl some
    by_action (Asked asking) some = inl some
    by_action (Answered one) some = inl some
    by_action (Proved proving) some = inl some
    by_action (Raised one) some = by_raised (one.job == job) one some
    by_action (Granted other) some = inl (by_end (other == job) some)
    by_action (Over other) some = inl (by_end (other == job) some)
    by_action Lost some = inl some

    by_later : (pending_by job action before ≡ Some raising) ⊎ IsAmong (Raised raising) later
        → (before ≡ Some raising) ⊎ ((action ≡ Raised raising) ⊎ IsAmong (Raised raising) later)
    by_later (inl now) = by_action action now
    by_later (inr there) = inr (inr there)

-- what an event raises is of a key that was held
raised-makes : {event : Happening} {old : State} {outcome : Outcome} (raising : Raising)
    → Makes event old outcome → IsAmong (Raised raising) outcome.actions
    → (key : HeldKey) × (find_identity raising.signing.blob old.held.table.identities ≡ Some key) × (raising.addition ≡ key.number)
raised-makes raising (stays state) among = absurd among
raised-makes raising (first (alters number f change) rest) among = raised-makes raising rest among
raised-makes raising (first (closes number may) rest) among = raised-makes raising rest among
raised-makes raising (first (goes_on new goes) rest) among = raised-makes raising rest among
raised-makes raising (first (names job number new) rest) among = raised-makes raising rest among
raised-makes raising (first (links job number new) rest) among = raised-makes raising rest among
raised-makes raising (serves body_len port state found door waits owed own) (inl same) = absurd (cc)
raised-makes raising (serves body_len port state found door waits owed own) (inr there) =
    raises-served (agent_request_of (front_body body_len port.heard)) (asker_at state.moment port) state.held state.under_way raising
    (serves-any (agent_request_of (front_body body_len port.heard)) (asker_at state.moment port) state.held state.under_way) there
raised-makes raising (tells piece state) among =
    absurd (among-each IsIdle (Raised raising) _ (λ is. is) (idle-tells (telling piece state.under_way.link) state) among)
raised-makes raising (loses state) (inl same) = absurd (cc)
raised-makes raising (loses state) (inr none) = absurd none
raised-makes raising (overs confirmation state there) (inl same) = absurd (cc)
raised-makes raising (overs confirmation state there) (inr none) = absurd none
raised-makes raising (grants confirmation port state there opened) (inl same) = absurd (cc)
raised-makes raising (grants confirmation port state there opened) (inr later) = absurd (by_work (grant-ends port.chain confirmation state) later)
  where
    by_work : {chain : List Binding} {wall : ℕ} {held : KeyState} {under_way : UnderWay} {work : Work}
        → IsGranted chain confirmation wall held under_way work
        → IsAmong (Raised raising) work.actions → ⊥
    by_work (disallowed never) among = among
    by_work (unasked cause key may fault) among = among
    by_work (allowed key may free) (inl same) = absurd (cc)
    by_work (allowed key may free) (inr none) = none

-- an event keeps it
named-event : (event : Happening) (waiting : ℕ → Option Raising) (state : State)
    → IsNamed waiting state
    → IsNamed (λ job. pending_after job (handle event state).actions (waiting job)) (handle event state).state
named-event event waiting state named = by_event (λ outcome. KeysKept state.held.table outcome.state.held.table → IsNamed (λ job. pending_after job outcome.actions (waiting job)) outcome.state) event state
    (λ door kept. named-kept waiting state _ kept named)
    (λ outcome makes kept. record {
      own = kept.own;
      named = λ job raising is. by_case outcome makes kept job raising (pending-cases job outcome.actions (waiting job) raising is);
    })
    (kept-event event state named.own)
  where
    by_case : (outcome : Outcome) → Makes event state outcome
        → KeysKept state.held.table outcome.state.held.table → (job : ℕ) (raising : Raising)
        → (waiting job ≡ Some raising) ⊎ IsAmong (Raised raising) outcome.actions
        → (raising.addition ≤ outcome.state.held.table.last) × ((key : HeldKey) → find_number raising.addition outcome.state.held.table.identities ≡ Some key → key.blob ≡ raising.signing.blob)
    by_case outcome makes kept job raising (inl was) =
        (named-kept waiting state outcome.state kept named).named job raising was
    by_case outcome makes kept job raising (inr there) =
        let key = raised-makes raising makes there in
        let own = number_of_found raising.signing.blob state.held.table.last state.held.table.identities key.0 named.own.numbers key.1 in (
          omega (arith, own.0, key.2, kept.last),
          λ later found.
              let was = kept.found raising.addition later (omega (arith, own.0, key.2)) found in
              let same : Some was.was ≡ Some key.0 = sym was.found ∙ ap (λ n. find_number n state.held.table.identities) key.2 ∙ own.1 in
              let equal : was.was ≡ key.0 = cc in
              ap (λ (k : HeldKey). k.blob) was.used.same ∙ ap (λ (k : HeldKey). k.blob) equal ∙ found_has raising.signing.blob state.held.table.identities key.0 key.1,
        )

-- a moment puts and raises nothing
idle-moment : (moment : Moment) (state : State) → Each IsIdle (time_passes moment state).actions
idle-moment moment state =
    time_passes-brings (λ s outcome. Each IsIdle outcome.actions) moment state (λ s. tt) (λ s. (tt, tt)) (λ one s there. (tt, tt))
    (λ s first later. each-append IsIdle first.actions later.actions)

-- what is waited for at a moment
abbrev waits_at : Moment → State → (ℕ → Option Raising) → ℕ → Option Raising
waits_at moment state waiting job =
    pending_after job (time_passes moment state).actions (waiting job)

-- it was before
waited : (moment : Moment) (state : State) (waiting : ℕ → Option Raising) (job : ℕ) (raising : Raising)
    → waits_at moment state waiting job ≡ Some raising → waiting job ≡ Some raising
waited moment state waiting job raising is = by_case (pending-cases job (time_passes moment state).actions (waiting job) raising is)
  where
    by_case : (waiting job ≡ Some raising) ⊎ IsAmong (Raised raising) (time_passes moment state).actions
        → waiting job ≡ Some raising
    by_case (inl was) = was
    by_case (inr there) = absurd (among-each IsIdle (Raised raising) (time_passes moment state).actions (λ is. is) (idle-moment moment state) there)

named-moment : (moment : Moment) (state : State) (waiting : ℕ → Option Raising)
    → IsNamed waiting state → IsNamed (waits_at moment state waiting) (at_moment moment state)
named-moment moment state waiting named =
    let kept = named-kept waiting state (at_moment moment state) (kept-opened moment state named.own) named in
    record { own = kept.own; named = λ job raising is. kept.named job raising (waited moment state waiting job raising is) }

pub step-named : (waiting : ℕ → Option Raising) (state : State) (moment : Moment) (event : Happening)
    → IsNamed waiting state
    → IsNamed (λ job. pending_after job (step state moment event).actions (waiting job)) (step state moment event).state
step-named waiting state moment event named =
    let left = named-event event (waits_at moment state waiting) (at_moment moment state) (named-moment moment state waiting named) in
    record {
      own = left.own;
      named = λ job raising is. left.named job raising (sym (pending-append job (time_passes moment state).actions (handle event (at_moment moment state)).actions (waiting job)) ∙ is);
    }

pub run-named : (waiting : ℕ → Option Raising) (state : State) (events : List Timed)
    → IsNamed waiting state → (job : ℕ) (raising : Raising)
    → pending_after job (actions_of state events) (waiting job) ≡ Some raising
    → (raising.addition ≤ (run state events).held.table.last) × ((key : HeldKey) → find_number raising.addition (run state events).held.table.identities ≡ Some key → key.blob ≡ raising.signing.blob)
run-named waiting state [] named job raising is = named.named job raising is
run-named waiting state (timed ∷ later) named job raising is =
    let actions = (step state timed.moment timed.event).actions in
    let mid : State = (step state timed.moment timed.event).state in
    run-named (λ n. pending_after n actions (waiting n)) mid later (step-named waiting state timed.moment timed.event named) job raising
    (sym (pending-append job actions (actions_of mid later) (waiting job)) ∙ is)

-- ---- why a signature is put

module _ (asking : Asking) (signing : Signing) (waiting : ℕ → Option Raising) where
  -- what is put after a change was put before it, where keys and moment stay and each open port keeps its chain
  put-back : (old mid : State) (actions : List Action) → mid.held ≡ old.held
      → mid.moment ≡ old.moment → KeepsChains old.ports mid.ports
      → IsPut asking signing waiting mid actions → IsPut asking signing waiting old actions
  put-back old mid actions held moment keeps (at_once requesting key among port read found confirm) =
      at_once requesting key among port read (ap (λ (h : KeyState). find_identity signing.blob h.table.identities) (sym held) ∙ found) confirm
  put-back old mid actions held moment keeps (by_consent job raising key port among is whose what found may) =
      let was = keeps asking.port port found in
      by_consent job raising key was.0 among is whose what was.1
      (subst (λ chain. IsGrantable key chain raising.addition signing.message signing.flags old.moment.wall old.held) was.2
      (subst (λ (m : Moment). IsGrantable key port.chain raising.addition signing.message signing.flags m.wall old.held) moment
      (subst (λ h. IsGrantable key port.chain raising.addition signing.message signing.flags mid.moment.wall h) held may)))

  put-quiet : {event : Happening} {old mid : State} (actions : List Action) → Quiet event old mid
      → KeepsChains old.ports mid.ports → IsPut asking signing waiting mid actions
      → IsPut asking signing waiting old actions
  put-quiet actions (alters number f change) keeps why = put-back _ _ actions refl refl keeps why
  put-quiet actions (closes number may) keeps why = put-back _ _ actions refl refl keeps why
  put-quiet actions (goes_on new goes) keeps why = put-back _ _ actions refl refl keeps why
  put-quiet actions (names job number new) keeps why = put-back _ _ actions refl refl keeps why
  put-quiet actions (links job number new) keeps why = put-back _ _ actions refl refl keeps why

  -- as it comes of consent
  module _ (confirmation : Confirmation) (port : Port) (state : State) (found : find_port confirmation.asker state.ports ≡ Some port) (named : IsNamed waiting state) (tie : noted confirmation.job state.under_way.confirmations ≡ option_map wanted (waiting confirmation.job)) (there : find_job confirmation.job state.under_way.confirmations ≡ Some confirmation) where
    waits : (was : Option Raising) → waiting confirmation.job ≡ was
        → (raising : Raising) × (waiting confirmation.job ≡ Some raising) × (wanted_of confirmation ≡ wanted raising)
    waits None is =
        let none : Some (wanted_of confirmation) ≡ None = sym (ap (option_map wanted_of) there) ∙ tie ∙ ap (option_map wanted) is in
        absurd (cc)
    waits (Some raising) is =
        let some : Some (wanted_of confirmation) ≡ Some (wanted raising) = sym (ap (option_map wanted_of) there) ∙ tie ∙ ap (option_map wanted) is in
        (raising, is, cc)

    put-granted : {work : Work}
        → IsGranted port.chain confirmation state.moment.wall state.held (without_confirmation confirmation.job state.under_way) work
        → asking.purpose ≡ ForSignature signing → IsAmong (Asked asking) work.actions
        → IsPut asking signing waiting state (Granted confirmation.job ∷ work.actions)
    put-granted (disallowed never) purpose among = absurd among
    put-granted (unasked cause key may fault) purpose among = absurd among
    put-granted (allowed key may free) purpose (inr none) = absurd none
    put-granted (allowed key may free) purpose (inl is) =
        let raised_for = waits (waiting confirmation.job) refl in
        let raising : Raising = raised_for.0 in
        let same : record { ask = state.under_way.link.last + 1; port = confirmation.asker; purpose = ForSignature (signing_of key confirmation); size = size_of (Signs key (signing_of key confirmation)) (state.under_way.link.last + 1) } ≡ asking = cc in
        let what : ForSignature (signing_of key confirmation) ≡ ForSignature signing = ap (λ (a : Asking). a.purpose) same ∙ purpose in
        let equal : signing_of key confirmation ≡ signing = cc in
        let addition : confirmation.addition ≡ raising.addition = ap (λ (w : Wanted). w.addition) raised_for.2 in
        let held_key : find_number raising.addition state.held.table.identities ≡ Some key = ap (λ n. find_number n state.held.table.identities) (sym addition) ∙ may.found in
        let blob : key.blob ≡ raising.signing.blob = (named.named confirmation.job raising raised_for.1).1 key held_key in
        let asked_for : raising.signing ≡ signing_of key confirmation =
        ap (λ bytes. let w : Signing = record { blob = bytes; message = raising.signing.message; flags = raising.signing.flags } in w) (sym blob)
        ∙ ap (λ (w : Wanted). let t : Signing = record { blob = key.blob; message = w.message; flags = w.flags } in t) (sym raised_for.2) in
        let whose : confirmation.asker ≡ asking.port = ap (λ (a : Asking). a.port) same in
        by_consent confirmation.job raising key port (inl refl) raised_for.1 (sym (ap (λ (w : Wanted). w.port) raised_for.2) ∙ whose) (asked_for ∙ equal)
        (ap (λ n. find_port n state.ports) (sym whose) ∙ found)
        (subst (λ n. IsGrantable key port.chain n signing.message signing.flags state.moment.wall state.held) addition
        (subst (λ (w : Signing). IsGrantable key port.chain confirmation.addition w.message w.flags state.moment.wall state.held) equal may))

  put-makes : {event : Happening} {old : State} {outcome : Outcome} → Makes event old outcome
      → IsTied old → IsNamed waiting old
      → ((job : ℕ) → noted job old.under_way.confirmations ≡ option_map wanted (waiting job))
      → asking.purpose ≡ ForSignature signing → IsAmong (Asked asking) outcome.actions
      → IsPut asking signing waiting old outcome.actions
  put-makes (stays state) tied named tie purpose among = absurd among
  put-makes {outcome = outcome} (first {mid = mid} quiet rest) tied named tie purpose among =
      put-quiet outcome.actions quiet (keeps-quiet quiet tied.rising).ports
      (put-makes rest (tied-quiet quiet tied) (named-quiet quiet named) (λ job. (quiet-noted job quiet).1 ∙ tie job) purpose among)
    where
      named-quiet : {event : Happening} {old mid : State} → Quiet event old mid
          → IsNamed waiting old → IsNamed waiting mid
      named-quiet (alters number f change) was = record { own = was.own; named = was.named }
      named-quiet (closes number may) was = record { own = was.own; named = was.named }
      named-quiet (goes_on new goes) was = record { own = was.own; named = was.named }
      named-quiet (names job number new) was = record { own = was.own; named = was.named }
      named-quiet (links job number new) was = record { own = was.own; named = was.named }
  put-makes (serves body_len port state found door nothing owed own) tied named tie purpose (inl same) = absurd (cc)
  put-makes (serves body_len port state found door nothing owed own) tied named tie purpose (inr there) =
      let body : List ℕ = front_body body_len port.heard in
      let read = agent_request_of body in
      let asker : Asker = asker_at state.moment port in
      let ends = serves-any read asker state.held state.under_way in
      let why = asks-served read asker state.held state.under_way asking signing purpose ends there in
      at_once (record { port = port.number; body = body; verdict = (serve read asker state.held state.under_way).work.verdict }) why.1.0 (inl refl) why.0 why.1.1 why.1.2 why.1.3
  put-makes (tells piece state) tied named tie purpose among =
      absurd (among-each IsIdle (Asked asking) _ (λ is. is) (idle-tells (telling piece state.under_way.link) state) among)
  put-makes (loses state) tied named tie purpose (inl same) = absurd (cc)
  put-makes (loses state) tied named tie purpose (inr none) = absurd none
  put-makes (overs confirmation state there) tied named tie purpose (inl same) = absurd (cc)
  put-makes (overs confirmation state there) tied named tie purpose (inr none) = absurd none
  put-makes (grants confirmation port state there opened) tied named tie purpose (inl same) =
      absurd (cc)
  put-makes (grants confirmation port state there opened) tied named tie purpose (inr later) =
      put-granted confirmation port state opened named (tie confirmation.job) (in-found confirmation 0 state.under_way.last_job tied.raised.order there) (grant-ends port.chain confirmation state) purpose later

pub step-put : (asking : Asking) (signing : Signing) (waiting : ℕ → Option Raising) (state : State) (moment : Moment) (event : Happening)
    → IsTied state → IsNamed waiting state
    → ((job : ℕ) → noted job state.under_way.confirmations ≡ option_map wanted (waiting job))
    → asking.purpose ≡ ForSignature signing
    → IsAmong (Asked asking) (step state moment event).actions
    → IsPut asking signing waiting (at_moment moment state) (step state moment event).actions
step-put asking signing waiting state moment event tied named tie purpose among = by_either (among-either (Asked asking) before now.actions among)
  where
    opened : State
    opened = at_moment moment state

    before : List Action
    before = (time_passes moment state).actions

    now : Outcome
    now = handle event opened

    at : ℕ → Option Raising
    at = waits_at moment state waiting

    tie_at : (job : ℕ) → noted job opened.under_way.confirmations ≡ option_map wanted (at job)
    tie_at job = moment-pending job moment state tied (waiting job) (tie job)

    -- it is put by the event
    put : IsAmong (Asked asking) now.actions → IsPut asking signing at opened now.actions
    put there =
        by_event (λ outcome. IsAmong (Asked asking) outcome.actions → IsPut asking signing at opened outcome.actions) event opened
        (λ door none. absurd none)
        (λ outcome makes. put-makes asking signing at makes (tied-opened moment state tied) (named-moment moment state waiting named) tie_at purpose)
        there

    behind : IsPut asking signing at opened now.actions
        → IsPut asking signing waiting opened (before ++ now.actions)
    behind (at_once requesting key there port read found confirm) = at_once requesting key (among-back (Requested requesting) before now.actions there) port read found confirm
    behind (by_consent job raising key port there is whose what found may) =
        by_consent job raising key port (among-back (Granted job) before now.actions there) (waited moment state waiting job raising is) whose what found may

    by_either : IsAmong (Asked asking) before ⊎ IsAmong (Asked asking) now.actions
        → IsPut asking signing waiting opened (before ++ now.actions)
    by_either (inl there) =
        absurd (among-each IsIdle (Asked asking) before (λ is. is) (idle-moment moment state) there)
    by_either (inr there) = behind (put there)

-- ---- runs

pub first-named : (settings : Settings) → IsNamed (λ job. None) (first_state settings)
first-named settings = record { own = first-own settings; named = λ job raising is. absurd (cc) }

pub run-all_named : (settings : Settings) (events : List Timed)
    → IsNamed (pending (actions_of (first_state settings) events)) (run (first_state settings) events)
run-all_named settings events = record {
  own = (run-kept (first_state settings) events (first-own settings)).own;
  named = λ job raising is. run-named (λ n. None) (first_state settings) events (first-named settings) job raising is;
}

pub run-tie : (settings : Settings) (events : List Timed) (job : ℕ)
    → noted job (run (first_state settings) events).under_way.confirmations ≡ option_map wanted (pending (actions_of (first_state settings) events) job)
run-tie settings events job =
    run-pending job (first_state settings) events None (first-tied settings) refl

pub run-put : (settings : Settings) (events : List Timed) (moment : Moment) (event : Happening) (asking : Asking) (signing : Signing)
    → asking.purpose ≡ ForSignature signing
    → IsAmong (Asked asking) (step (run (first_state settings) events) moment event).actions
    → IsPut asking signing (pending (actions_of (first_state settings) events)) (at_moment moment (run (first_state settings) events)) (step (run (first_state settings) events) moment event).actions
run-put settings events moment event asking signing =
    step-put asking signing (pending (actions_of (first_state settings) events)) (run (first_state settings) events) moment event
    (run-tied (first_state settings) events (first-tied settings)) (run-all_named settings events) (run-tie settings events)

-- what is noted was raised
pub noted_some : (one : Option Wanted) (was : Option Raising) → one ≡ option_map wanted was
    → IsSome one → IsSome was
noted_some one None is some = absurd (let none : IsSome {T = Wanted} None = subst (λ (o : Option Wanted). IsSome o) is some in cc)
noted_some one (Some raising) is some = refl
