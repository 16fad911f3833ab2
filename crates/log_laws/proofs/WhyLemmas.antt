-- What is put for a client is what its last request asks for: at once, or behind the consent that was asked for it.
use Rattle.std.proofs.Common.{◌≡◌, ◌≢◌, ◌⊎◌, ◌==◌, ℕ, ◌+◌, Bool, true, false, List, [], ◌∷◌, ◌++◌, map, refl, ap, sym, subst, ◌∙◌, append_assoc, Option, Some, None, Result, Ok, inl, inr, cond}
use Rattle.std.proofs.lemmas.Bool.{cases_eq}
use Rattle.std.proofs.lemmas.List.{append-nil, map-append}
use Rattle.std.specs.Option.{option_map}
use Rattle.world_ports.specs.declared.Moment.{Moment}
use Rattle.agent_msg.specs.declared.fault.MsgFault.{MsgFault}
use Rattle.agent_msg.specs.Requests.{ClientRequest, Sign, Signing}
use Rattle.confirm_desk.specs.Confirmations.{Confirmation, find_job}
use Rattle.dest_rule.specs.declared.binding.Binding.{Binding}
use Rattle.helper_link.specs.Telling.{telling}
use Rattle.wire_text.specs.Frames.{front_body}
use Rattle.agent_model.specs.Actions.{Action, Answered, Asked, Asking, ForBinding, ForSignature, Granted, Lost, Outcome, Over, Proved, Purpose, Raised, Raising, Requested, Requesting, Work}
use Rattle.agent_model.specs.Binds.{agent_request_of}
use Rattle.agent_model.specs.Dispatch.{Asker, Served}
use Rattle.agent_model.specs.Errands.{Signs, Verifies, asking_of}
use Rattle.agent_model.specs.Events.{Ended, Happening, Heard, Timed, Took}
use Rattle.agent_model.specs.Fates.{IsTold}
use Rattle.agent_model.specs.Grants.{IsAmong}
use Rattle.agent_model.specs.KeyStates.{KeyState}
use Rattle.agent_model.specs.Runs.{Stamped, history, stamped}
use Rattle.agent_model.specs.Sound.{IsTied}
use Rattle.agent_model.specs.State.{Nothing, OnConfirmation, Port, Settings, State, UnderWay, find_port, first_state}
use Rattle.agent_model.specs.Step.{asker_at, handle, step}
use Rattle.agent_model.specs.Time.{at_moment, time_passes}
use Rattle.agent_model.specs.Verdicts.{Awaits}
use Rattle.agent_model.proofs.ActionLemmas.{Each, each-append, each-tells}
use Rattle.agent_model.proofs.FatedLemmas.{first-tied, step-fated, tied-opened}
use Rattle.agent_model.proofs.GrantLemmas.{IsGranted, allowed, disallowed, grant-ends, unasked}
use Rattle.agent_model.proofs.LeadLemmas.{follows-quiet, same}
use Rattle.agent_model.proofs.MakeLemmas.{Change, IsOf, Makes, by_event, first, grants, hears, loses, overs, serves, stays, takes, tells}
use Rattle.agent_model.proofs.RunLemmas.{leads-found}
use Rattle.agent_model.proofs.ServeLemmas.{IsServed, Serves, adds, answered, asked, confirms, denies, empties, lists, locks, raised, refused, removes, serve-ends, serves-any, signs, unlocks, verifies}
use Rattle.agent_model.proofs.TiedLemmas.{tied-quiet}
use Rattle.agent_model.proofs.TimeLemmas.{AreEnds, end, loss, no_more, one_more, time_passes-ends}
use Rattle.agent_model.proofs.WaitLemmas.{waits-quiet}
use Rattle.agent_laws.specs.Answered.{WaitsFor}
use Rattle.agent_laws.specs.Grants.{IsPut, Wanted, at_once, by_consent, noted, pending, pending_after, pending_by, wanted, wanted_of}
use Rattle.agent_laws.proofs.PendingLemmas.{among-either, pending-append}
use Rattle.agent_laws.proofs.PutLemmas.{IsNamed, first-named, step-named, step-put}
use Rattle.agent_laws.proofs.TraceLemmas.{moment-pending, step-traces}
use Rattle.agent_laws.proofs.WaitingLemmas.{step-waiting}
use Rattle.log_laws.specs.Ends.{Request, Went, action_of, last_request}
use Rattle.log_laws.specs.Whys.{PutsWhatWasRead, purpose_by}
use Rattle.log_laws.proofs.PastLemmas.{actions-stamps, last-more, last-own, more_done, stamps}
use Rattle.log_laws.proofs.ReadLemmas.{IsOther, served-others}
use Rattle.log_laws.proofs.WentLemmas.{goes_on, unmarked, unput, unraised}

-- one of them is of their kind
each-in : (P : Action → Type 0) (action : Action) (actions : List Action) → Each P actions → IsAmong action actions → P action
each-in P action [] each among = absurd among
each-in P action (one ∷ later) each (inl is) = subst P is each.0
each-in P action (one ∷ later) each (inr there) = each-in P action later each.1 there

-- what is waited for after actions was before, or was raised by them
pending-cases : (job : ℕ) (actions : List Action) (before : Option Raising) (raising : Raising)
    → pending_after job actions before ≡ Some raising
    → (before ≡ Some raising) ⊎ IsAmong (Raised raising) actions
pending-cases job [] before raising is = inl is
pending-cases job (action ∷ later) before raising is =
    by_later (pending-cases job later (pending_by job action before) raising is)
  where
    by_raised : (test : Bool) (one : Raising) → cond test (Some one) before ≡ Some raising
        → (before ≡ Some raising) ⊎ ((Raised one ≡ Raised raising) ⊎ IsAmong (Raised raising) later)
    by_raised true one some = let equal : one ≡ raising = cc in inr (inl (ap Raised equal))
    by_raised false one some = inl some

    by_end : (test : Bool) → cond test None before ≡ Some raising → before ≡ Some raising
    by_end true some = absurd (cc)
    by_end false some = some

    by_action : (action : Action) → pending_by job action before ≡ Some raising
        → (before ≡ Some raising) ⊎ ((action ≡ Raised raising) ⊎ IsAmong (Raised raising) later)
    by_action (Requested requesting) some = inl some
    by_action (Asked asking) some = inl some
    by_action (Answered one) some = inl some
    by_action (Proved proving) some = inl some
    by_action (Raised one) some = by_raised (one.job == job) one some
    by_action (Granted other) some = inl (by_end (other == job) some)
    by_action (Over other) some = inl (by_end (other == job) some)
    by_action Lost some = inl some

    by_later : (pending_by job action before ≡ Some raising) ⊎ IsAmong (Raised raising) later
        → (before ≡ Some raising) ⊎ ((action ≡ Raised raising) ⊎ IsAmong (Raised raising) later)
    by_later (inl now) = by_action action now
    by_later (inr there) = inr (inr there)

-- ---- what a request brings is for what it asks for

asked-served : {read : Result ClientRequest MsgFault} {asker : Asker} {held : KeyState} {under_way : UnderWay} {served : Served}
    → Serves read asker held under_way served → (asking : Asking) → IsAmong (Asked asking) served.work.actions
    → purpose_by read ≡ Some asking.purpose
asked-served (denies cause) asking among = absurd among
asked-served (lists identities is) asking among = absurd among
asked-served (adds addition is) asking among = absurd among
asked-served (removes blob is) asking among = absurd among
asked-served (empties is) asking among = absurd among
asked-served (locks passphrase is) asking among = absurd among
asked-served (unlocks passphrase is) asking among = absurd among
asked-served {asker = asker} {under_way = under_way} (signs signing key is found unasked_for free) asking (inl put) =
    let same_ask : asking_of (Signs key signing) asker.port (under_way.link.last + 1) ≡ asking = cc in
    ap purpose_by is ∙ ap (λ (a : Asking). Some a.purpose) same_ask
asked-served (signs signing key is found unasked_for free) asking (inr none) = absurd none
asked-served (confirms signing key is found free) asking (inl put) = absurd (cc)
asked-served (confirms signing key is found free) asking (inr none) = absurd none
asked-served {asker = asker} {under_way = under_way} (verifies bind is_new is stands free) asking (inl put) =
    let same_ask : asking_of (Verifies bind is_new) asker.port (under_way.link.last + 1) ≡ asking = cc in
    ap purpose_by is ∙ ap (λ (a : Asking). Some a.purpose) same_ask
asked-served (verifies bind is_new is stands free) asking (inr none) = absurd none

raised-served : {read : Result ClientRequest MsgFault} {asker : Asker} {held : KeyState} {under_way : UnderWay} {served : Served}
    → Serves read asker held under_way served → (raising : Raising) → IsAmong (Raised raising) served.work.actions
    → read ≡ Ok (Sign raising.signing)
raised-served (denies cause) raising among = absurd among
raised-served (lists identities is) raising among = absurd among
raised-served (adds addition is) raising among = absurd among
raised-served (removes blob is) raising among = absurd among
raised-served (empties is) raising among = absurd among
raised-served (locks passphrase is) raising among = absurd among
raised-served (unlocks passphrase is) raising among = absurd among
raised-served (signs signing key is found unasked_for free) raising (inl put) = absurd (cc)
raised-served (signs signing key is found unasked_for free) raising (inr none) = absurd none
raised-served {asker = asker} {under_way = under_way} (confirms signing key is found free) raising (inl put) =
    let same_question : record { job = under_way.last_job + 1; port = asker.port; addition = key.number; signing = signing } ≡ raising = cc in
    is ∙ ap (λ (r : Raising). Ok (Sign r.signing)) same_question
raised-served (confirms signing key is found free) raising (inr none) = absurd none
raised-served (verifies bind is_new is stands free) raising (inl put) = absurd (cc)
raised-served (verifies bind is_new is stands free) raising (inr none) = absurd none

module _ (number : ℕ) where
  -- ---- what an event does for a client

  -- no request of this client, no question about one, and nothing that is to be verified for it
  abbrev IsApart : Action → Type 0
  IsApart (Requested requesting) = requesting.port ≢ number
  IsApart (Asked asking) = asking.port ≡ number → (binding : Binding) → asking.purpose ≢ ForBinding binding
  IsApart (Answered settled) = Unit {0}
  IsApart (Proved proving) = Unit {0}
  IsApart (Raised raising) = raising.port ≢ number
  IsApart (Granted job) = Unit {0}
  IsApart (Over job) = Unit {0}
  IsApart Lost = Unit {0}

  other-apart : (action : Action) → IsApart action → IsOther number action
  other-apart (Requested requesting) is = is
  other-apart (Asked asking) is = tt
  other-apart (Answered settled) is = tt
  other-apart (Proved proving) is = tt
  other-apart (Raised raising) is = tt
  other-apart (Granted job) is = tt
  other-apart (Over job) is = tt
  other-apart Lost is = tt

  others-apart : (actions : List Action) → Each IsApart actions → Each (IsOther number) actions
  others-apart [] each = tt
  others-apart (action ∷ later) each = (other-apart action each.0, others-apart later each.1)

  ends-apart : {actions : List Action} → AreEnds actions → Each IsApart actions
  ends-apart no_more = tt
  ends-apart (one_more action later loss ends) = (tt, ends-apart ends)
  ends-apart (one_more action later (end job) ends) = (tt, ends-apart ends)

  served-apart : {asker : Asker} {held : KeyState} {under_way : UnderWay} {served : Served}
      → IsServed asker held under_way served → asker.port ≢ number → Each IsApart served.work.actions
  served-apart (answered reply kept greatest) other = tt
  served-apart (refused cause) other = tt
  served-apart (asked errand free may) other = (λ own. absurd (other own), tt)
  served-apart (raised key signing free) other = (other, tt)

  granted-apart : {chain : List Binding} {one : Confirmation} {wall : ℕ} {held : KeyState} {under_way : UnderWay} {work : Work}
      → IsGranted chain one wall held under_way work → Each IsApart work.actions
  granted-apart (disallowed never) = tt
  granted-apart (unasked cause key may fault) = tt
  granted-apart (allowed key may free) = (λ own binding is. absurd (cc), tt)

  -- a request of its own, and what it brings
  record Own (requesting : Requesting) (later : List Action) : Type 0 where
    port : requesting.port ≡ number
    asks : (asking : Asking) → IsAmong (Asked asking) later
        → purpose_by (agent_request_of requesting.body) ≡ Some asking.purpose
    raises : (raising : Raising) → IsAmong (Raised raising) later
        → agent_request_of requesting.body ≡ Ok (Sign raising.signing)
    others : Each (IsOther number) later

-- what an event does in a state: nothing of that, or a request of the client, who doesn't wait for the user
data Part (number : ℕ) (event : Happening) (old : State) (actions : List Action) : Type 0 where
  apart : Each (IsApart number) actions → Part number event old actions
  mine : (requesting : Requesting) (later : List Action) → actions ≡ Requested requesting ∷ later
      → Own number requesting later → (port : Port) → find_port number old.ports ≡ Some port → IsOf event number
      → ((job : ℕ) → IsTold number (Awaits (OnConfirmation job)) old.ports → ⊥) → Part number event old actions

module _ (number : ℕ) where
  no_end : {event : Happening} {f : Port → Port} → Change event number f → event ≢ Ended number
  no_end (hears piece is) ended = let no : Heard number piece ≡ Ended number = sym is ∙ ended in absurd (cc)
  no_end (takes count is) ended = let no : Took number count ≡ Ended number = sym is ∙ ended in absurd (cc)

  part-makes : {event : Happening} {old : State} {outcome : Outcome} → Makes event old outcome → IsTied old
      → Part number event old outcome.actions
  part-makes (stays state) tied = apart tt
  part-makes {event = event} {old = old} {outcome = outcome} (first {mid = mid} quiet rest) tied =
      by_rest (part-makes rest (tied-quiet quiet tied))
    where
      by_rest : Part number event mid outcome.actions → Part number event old outcome.actions
      by_rest (apart each) = apart each
      by_rest (mine requesting later is own port found of free) =
          let leads = (follows-quiet event old quiet record { last = refl; ports = same }).ports in
          let was = leads-found number 0 old.last_port old.ports port leads tied.rising found in
          mine requesting later is own was.0 was.1 of
          (λ job told. free job (waits-quiet number (OnConfirmation job) (λ none. absurd (cc)) quiet (no_end of.1) told))
  part-makes {event = event} (serves body_len port state found door nothing owed of) tied = elim (cases_eq port.number number) [
    | inl equal ↦
        (let body : List ℕ = front_body body_len port.heard in
        let does = serves-any (agent_request_of body) (asker_at state.moment port) state.held state.under_way in
        let there : find_port number state.ports ≡ Some port = ap (λ n. find_port n state.ports) (sym equal) ∙ found in
        mine _ _ refl
        (record {
          port = equal;
          asks = asked-served does;
          raises = raised-served does;
          others = served-others number (serve-ends (asker_at state.moment port) state.held state.under_way body);
        })
        port there (subst (IsOf event) equal of)
        (λ job told.
        let both : Some told.port ≡ Some port = sym told.found ∙ there in
        let it : told.port ≡ port = cc in
        let no : OnConfirmation job ≡ Nothing = sym told.waits ∙ ap (λ (p : Port). p.waits) it ∙ nothing in
        absurd (cc)))
    | inr other ↦
        apart (other, served-apart number (serve-ends (asker_at state.moment port) state.held state.under_way _) other)
  ]
  part-makes (tells piece state) tied =
      apart (each-tells (IsApart number) (λ one. tt) (λ proving. tt) tt (telling piece state.under_way.link) state)
  part-makes (loses state) tied = apart (tt, tt)
  part-makes (overs one state there) tied = apart (tt, tt)
  part-makes (grants one port state there found) tied = apart (tt, granted-apart number (grant-ends port.chain one state))

-- an event that isn't of the client asks the user about none of its requests
raises-others : (number : ℕ) (state : State) (moment : Moment) (event : Happening) → IsTied state
    → (IsOf event number → ⊥) → (raising : Raising) → IsAmong (Raised raising) (step state moment event).actions
    → raising.port ≢ number
raises-others number state moment event tied foreign raising among =
    by_part (by_event (λ did. Part number event (at_moment moment state) did.actions) event (at_moment moment state) (λ door. apart tt) (λ did makes. part-makes number makes (tied-opened moment state tied)))
  where
    by_part : Part number event (at_moment moment state) (handle event (at_moment moment state)).actions → raising.port ≢ number
    by_part (apart each) =
        each-in (IsApart number) (Raised raising) (step state moment event).actions
        (each-append (IsApart number) (time_passes moment state).actions (handle event (at_moment moment state)).actions (ends-apart number (time_passes-ends moment state)) each) among
    by_part (mine requesting later is own port found of free) = absurd (foreign of)

-- nor does one that closes its port put any
pub unmarked-gone : (number : ℕ) (state : State) (moment : Moment) (event : Happening) → IsTied state
    → (IsOf event number → ⊥) → find_port number (step state moment event).state.ports ≡ None → (went : Went)
    → goes_on number (step state moment event).actions went ≡ went
unmarked-gone number state moment event tied foreign gone went =
    unmarked number (step state moment event).actions went
    (unraised number (step state moment event).actions (raises-others number state moment event tied foreign))
    (unput number (step state moment event).actions (λ asking among own.
    let waits : WaitsFor asking.port asking.ask (step state moment event).state = step-waiting state moment event asking tied among in
    let no : None ≡ Some waits.port = sym gone ∙ ap (λ n. find_port n (step state moment event).state.ports) (sym own) ∙ waits.found in
    absurd (cc)))

-- ---- what is known of a state and its past

abbrev done : List Stamped → List Action
done past = map action_of past

-- what is waited for of the user is what the past tells
record Known (past : List Stamped) (state : State) : Type 0 where
  tied : IsTied state
  named : IsNamed (pending (done past)) state
  tie : (job : ℕ) → noted job state.under_way.confirmations ≡ option_map wanted (pending (done past) job)

-- what was put for a client, and what it waits for of the user, is what its last request asks for
record Why (number : ℕ) (past : List Stamped) : Type 0 where
  asks : (request : Request) (asking : Asking) → last_request number past ≡ Some request
      → IsAmong (Asked asking) request.later → asking.port ≡ number
      → purpose_by (agent_request_of request.body) ≡ Some asking.purpose
  raises : (job : ℕ) (raising : Raising) → pending (done past) job ≡ Some raising → raising.port ≡ number
      → (request : Request) × (last_request number past ≡ Some request)
      × (agent_request_of request.body ≡ Ok (Sign raising.signing))

module _ (past : List Stamped) (state : State) (moment : Moment) (event : Happening) (known : Known past state) where
  abbrev outcome : Outcome
  outcome = step state moment event

  abbrev early : List Action
  early = (time_passes moment state).actions

  abbrev opened : State
  opened = at_moment moment state

  abbrev now : Outcome
  now = handle event opened

  abbrev past_after : List Stamped
  past_after = past ++ stamped outcome

  done-after : done past_after ≡ done past ++ outcome.actions
  done-after =
      map-append action_of past (stamped outcome)
      ∙ ap (λ (l : List Action). done past ++ l) (actions-stamps outcome.state.moment outcome.actions)

  pending-after : (job : ℕ) → pending (done past_after) job ≡ pending_after job outcome.actions (pending (done past) job)
  pending-after job =
      ap (λ (l : List Action). pending l job) done-after ∙ pending-append job (done past) outcome.actions None

  known-after : Known past_after outcome.state
  known-after =
      let names = step-named (pending (done past)) state moment event known.named in
      record {
        tied = (step-fated state moment event known.tied).tied;
        named = record { own = names.own; named = λ job raising is. names.named job raising (sym (pending-after job) ∙ is) };
        tie = λ job.
            (step-traces job state moment event known.tied).pending (pending (done past) job) (known.tie job)
            ∙ ap (option_map wanted) (sym (pending-after job));
      }

  module _ (number : ℕ) (why : Why number past) where
    -- the event is no request of this client
    module _ (each : Each (IsApart number) outcome.actions) where
      last-after : last_request number past_after ≡ option_map (more_done outcome.actions) (last_request number past)
      last-after = last-more number past outcome.state.moment outcome.actions (others-apart number outcome.actions each)

      asks-now : (request : Request) (asking : Asking) → last_request number past ≡ Some request
          → IsAmong (Asked asking) outcome.actions → asking.port ≡ number
          → purpose_by (agent_request_of request.body) ≡ Some asking.purpose
      asks-now request asking last among own = by_purpose asking.purpose refl
        where
          by_put : (signing : Signing) → asking.purpose ≡ ForSignature signing
              → IsPut asking signing (pending (done past)) opened outcome.actions
              → purpose_by (agent_request_of request.body) ≡ Some asking.purpose
          by_put signing purpose (at_once requesting key there its read found confirm) =
              absurd (each-in (IsApart number) (Requested requesting) outcome.actions each there (its ∙ own))
          by_put signing purpose (by_consent job raising key port there waits whose what found may) =
              let asked_for = why.raises job raising waits (whose ∙ own) in
              let both : Some request ≡ Some asked_for.0 = sym last ∙ asked_for.1 in
              let it : request ≡ asked_for.0 = cc in
              ap (λ (r : Request). purpose_by (agent_request_of r.body)) it
              ∙ ap purpose_by asked_for.2
              ∙ ap (λ s. Some (ForSignature s)) what
              ∙ ap Some (sym purpose)

          by_purpose : (purpose : Purpose) → asking.purpose ≡ purpose
              → purpose_by (agent_request_of request.body) ≡ Some asking.purpose
          by_purpose (ForBinding binding) is =
              absurd (each-in (IsApart number) (Asked asking) outcome.actions each among own binding is)
          by_purpose (ForSignature signing) is =
              by_put signing is (step-put asking signing (pending (done past)) state moment event known.tied known.named known.tie is among)

      why-apart : Why number past_after
      why-apart = record { asks = asks_it; raises = raises_it }
        where
          asks_it : (request : Request) (asking : Asking) → last_request number past_after ≡ Some request
              → IsAmong (Asked asking) request.later → asking.port ≡ number
              → purpose_by (agent_request_of request.body) ≡ Some asking.purpose
          asks_it request asking last among own = by_last (last_request number past) refl (sym last-after ∙ last)
            where
              by_last : (found : Option Request) → last_request number past ≡ found
                  → option_map (more_done outcome.actions) found ≡ Some request
                  → purpose_by (agent_request_of request.body) ≡ Some asking.purpose
              by_last None was is = absurd (cc)
              by_last (Some before) was is =
                  let it : more_done outcome.actions before ≡ request = cc in
                  let there : IsAmong (Asked asking) (before.later ++ outcome.actions) = subst (λ (r : Request). IsAmong (Asked asking) r.later) (sym it) among in
                  ap (λ (r : Request). purpose_by (agent_request_of r.body)) (sym it)
                  ∙ by_either (among-either (Asked asking) before.later outcome.actions there)
                where
                  by_either : IsAmong (Asked asking) before.later ⊎ IsAmong (Asked asking) outcome.actions
                      → purpose_by (agent_request_of before.body) ≡ Some asking.purpose
                  by_either (inl there_yet) = why.asks before asking was there_yet own
                  by_either (inr there) = asks-now before asking was there own

          raises_it : (job : ℕ) (raising : Raising) → pending (done past_after) job ≡ Some raising → raising.port ≡ number
              → (request : Request) × (last_request number past_after ≡ Some request)
              × (agent_request_of request.body ≡ Ok (Sign raising.signing))
          raises_it job raising is whose =
              by_case (pending-cases job outcome.actions (pending (done past) job) raising (sym (pending-after job) ∙ is))
            where
              by_case : (pending (done past) job ≡ Some raising) ⊎ IsAmong (Raised raising) outcome.actions
                  → (request : Request) × (last_request number past_after ≡ Some request)
                  × (agent_request_of request.body ≡ Ok (Sign raising.signing))
              by_case (inl was) =
                  let before = why.raises job raising was whose in
                  (more_done outcome.actions before.0, last-after ∙ ap (option_map (more_done outcome.actions)) before.1, before.2)
              by_case (inr there) =
                  absurd (each-in (IsApart number) (Raised raising) outcome.actions each there whose)

    -- it is one
    module _ (requesting : Requesting) (later : List Action) (is : now.actions ≡ Requested requesting ∷ later) (own : Own number requesting later) (port : Port) (found : find_port number opened.ports ≡ Some port) (free : (job : ℕ) → IsTold number (Awaits (OnConfirmation job)) opened.ports → ⊥) where
      abbrev request : Request
      request = record { wall = outcome.state.moment.wall; body = requesting.body; later = later }

      last-now : last_request number past_after ≡ Some request
      last-now =
          ap (λ (l : List Action). last_request number (past ++ stamps outcome.state.moment (early ++ l))) is
          ∙ ap (λ (l : List Stamped). last_request number (past ++ l)) (map-append (λ action. record { moment = outcome.state.moment; action = action }) early (Requested requesting ∷ later))
          ∙ ap (last_request number) (sym (append_assoc past (stamps outcome.state.moment early) (stamps outcome.state.moment (Requested requesting ∷ later))))
          ∙ last-own number (past ++ stamps outcome.state.moment early) outcome.state.moment requesting later own.port own.others

      -- nothing of its own was waited for
      none-waits : (job : ℕ) (raising : Raising) → pending_after job early (pending (done past) job) ≡ Some raising
          → raising.port ≡ number → ⊥
      none-waits job raising waits whose =
          by_found (find_job job opened.under_way.confirmations) refl
        where
          tied_yet : IsTied opened
          tied_yet = tied-opened moment state known.tied

          note : noted job opened.under_way.confirmations ≡ Some (wanted raising)
          note =
              moment-pending job moment state known.tied (pending (done past) job) (known.tie job)
              ∙ ap (option_map wanted) waits

          by_found : (one : Option Confirmation) → find_job job opened.under_way.confirmations ≡ one → ⊥
          by_found None there =
              let no : None ≡ Some (wanted raising) = sym (ap (option_map wanted_of) there) ∙ note in
              absurd (cc)
          by_found (Some one) there =
              let both : Some (wanted_of one) ≡ Some (wanted raising) = sym (ap (option_map wanted_of) there) ∙ note in
              let alike : wanted_of one ≡ wanted raising = cc in
              let asker : one.asker ≡ number = ap (λ (w : Wanted). w.port) alike ∙ whose in
              let on : port.waits ≡ OnConfirmation job = tied_yet.raised.asking.asks job one port there (ap (λ n. find_port n opened.ports) asker ∙ found) in
              let asking = tied_yet.raised.asking.waits number job port found on in
              free job record { port = port; found = found; door = asking.door; owed = asking.owed; waits = on }

      why-own : Why number past_after
      why-own = record {
        asks = λ other asking last among whose.
            let both : Some request ≡ Some other = sym last-now ∙ last in
            let it : request ≡ other = cc in
            ap (λ (r : Request). purpose_by (agent_request_of r.body)) (sym it)
            ∙ own.asks asking (subst (λ (r : Request). IsAmong (Asked asking) r.later) (sym it) among);
        raises = λ job raising waits whose. by_case job raising whose
            (pending-cases job later (pending_after job early (pending (done past) job)) raising
            (sym (pending-now job) ∙ waits));
      }
        where
          pending-now : (job : ℕ) → pending (done past_after) job ≡ pending_after job later (pending_after job early (pending (done past) job))
          pending-now job =
              pending-after job
              ∙ pending-append job early now.actions (pending (done past) job)
              ∙ ap (λ l. pending_after job l (pending_after job early (pending (done past) job))) is

          by_case : (job : ℕ) (raising : Raising) → raising.port ≡ number
              → (pending_after job early (pending (done past) job) ≡ Some raising) ⊎ IsAmong (Raised raising) later
              → (other : Request) × (last_request number past_after ≡ Some other)
              × (agent_request_of other.body ≡ Ok (Sign raising.signing))
          by_case job raising whose (inl waits) = absurd (none-waits job raising waits whose)
          by_case job raising whose (inr there) = (request, last-now, own.raises raising there)

    why-after : Why number past_after
    why-after =
        by_part (by_event (λ did. Part number event opened did.actions) event opened (λ door. apart tt) (λ did makes. part-makes number makes (tied-opened moment state known.tied)))
      where
        by_part : Part number event opened now.actions → Why number past_after
        by_part (apart each) =
            why-apart (each-append (IsApart number) early now.actions (ends-apart number (time_passes-ends moment state)) each)
        by_part (mine requesting later is own port found of free) = why-own requesting later is own port found free

-- ---- a run

why-run : (number : ℕ) (events : List Timed) (past : List Stamped) (state : State) → Known past state → Why number past
    → Why number (past ++ history state events)
why-run number [] past state known why = subst (Why number) (sym (append-nil past)) why
why-run number (timed ∷ later) past state known why =
    let outcome = step state timed.moment timed.event in
    subst (Why number) (append_assoc past (stamped outcome) (history outcome.state later))
    (why-run number later (past ++ stamped outcome) outcome.state (known-after past state timed.moment timed.event known)
    (why-after past state timed.moment timed.event known number why))

-- from the agent's start on
pub puts-what-was-read : (settings : Settings) (events : List Timed) → PutsWhatWasRead settings events
puts-what-was-read settings events port request asking last among own =
    (why-run port events [] (first_state settings)
    (record { tied = first-tied settings; named = record { own = (first-named settings).own; named = λ job raising waits. absurd (cc) }; tie = λ job. refl })
    (record { asks = λ other one none. absurd (cc); raises = λ job raising waits. absurd (cc) })).asks request asking last among own
