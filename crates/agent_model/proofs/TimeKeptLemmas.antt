-- What no event changes: the moment and the limits of waits.
use Rattle.std.proofs.Common.{◌≡◌, ℕ, List, refl, ◌∙◌, Option, Some, None}
use Rattle.world_ports.specs.declared.Moment.{Moment}
use Rattle.wire_text.specs.Frames.{front_body}
use Rattle.helper_link.specs.Telling.{telling}
use Rattle.helper_link.specs.declared.fault.LinkFault.{LinkFault}
use Rattle.dest_rule.specs.declared.binding.Binding.{Binding}
use Rattle.confirm_desk.specs.Confirmations.{Confirmation}
use Rattle.agent_model.specs.Actions.{Outcome, Work}
use Rattle.agent_model.specs.Answers.{answers_in, lose_if, with_answers}
use Rattle.agent_model.specs.Dispatch.{Asker, Served}
use Rattle.agent_model.specs.Events.{Happening}
use Rattle.agent_model.specs.KeyStates.{KeyState}
use Rattle.agent_model.specs.State.{State, UnderWay}
use Rattle.agent_model.specs.Step.{asker_at, handle}
use Rattle.agent_model.specs.Time.{at_moment}
use Rattle.agent_model.proofs.GrantLemmas.{IsGranted, allowed, disallowed, grant-ends, unasked}
use Rattle.agent_model.proofs.MakeLemmas.{Makes, Quiet, alters, by_event, closes, first, goes_on, grants, links, loses, names, overs, same_asks, serves, stays, tells}
use Rattle.agent_model.proofs.ServeLemmas.{IsServed, answered, asked, raised, refused, serve-ends}
use Rattle.agent_model.proofs.TimeLemmas.{at_moment-keeps}

-- the moment and the limits stay
pub record KeepsTime (old new : State) : Type 0 where
  pub moment : new.moment ≡ old.moment
  pub limits : new.under_way.limits ≡ old.under_way.limits

keeps_time-in_turn : (old mid new : State) → KeepsTime old mid → KeepsTime mid new
    → KeepsTime old new
keeps_time-in_turn old mid new one two =
    record { moment = two.moment ∙ one.moment; limits = two.limits ∙ one.limits }

keeps_time-quiet : {event : Happening} {old new : State} → Quiet event old new → KeepsTime old new
keeps_time-quiet (alters number f change) = record { moment = refl; limits = refl }
keeps_time-quiet (closes number may) = record { moment = refl; limits = refl }
keeps_time-quiet (goes_on new goes) = record { moment = refl; limits = (same_asks goes).limits }
keeps_time-quiet (names job number new) = record { moment = refl; limits = refl }
keeps_time-quiet (links job number new) = record { moment = refl; limits = refl }

served-limits : {asker : Asker} {held : KeyState} {under_way : UnderWay} {served : Served}
    → IsServed asker held under_way served → served.work.under_way.limits ≡ under_way.limits
served-limits (answered reply kept same) = refl
served-limits (refused cause) = refl
served-limits (asked errand free right) = refl
served-limits (raised key signing free) = refl

granted-limits : {chain : List Binding} {confirmation : Confirmation} {wall : ℕ} {held : KeyState} {under_way : UnderWay} {work : Work}
    → IsGranted chain confirmation wall held under_way work → work.under_way.limits ≡ under_way.limits
granted-limits (disallowed never) = refl
granted-limits (unasked cause key may fault) = refl
granted-limits (allowed key may free) = refl

keeps_time-lose_if : (fault : Option LinkFault) (state : State)
    → KeepsTime state (lose_if fault state).state
keeps_time-lose_if None state = record { moment = refl; limits = refl }
keeps_time-lose_if (Some fault) state = record { moment = refl; limits = refl }

keeps_time-makes : {event : Happening} {old : State} {outcome : Outcome} → Makes event old outcome
    → KeepsTime old outcome.state
keeps_time-makes (stays state) = record { moment = refl; limits = refl }
keeps_time-makes {old = old} (first {mid = mid} {outcome = outcome} quiet rest) =
    keeps_time-in_turn old mid outcome.state (keeps_time-quiet quiet) (keeps_time-makes rest)
keeps_time-makes (serves body_len port state found door nothing owed own) = record {
  moment = refl;
  limits =
      served-limits (serve-ends (asker_at state.moment port) state.held state.under_way (front_body body_len port.heard));
}
keeps_time-makes (tells piece state) =
    let told = telling piece state.under_way.link in
    let left = keeps_time-lose_if told.fault (with_answers told.link (answers_in told.settled state) state) in
    record { moment = left.moment; limits = left.limits }
keeps_time-makes (loses state) = record { moment = refl; limits = refl }
keeps_time-makes (overs confirmation state there) = record { moment = refl; limits = refl }
keeps_time-makes (grants confirmation port state there opened) =
    record { moment = refl; limits = granted-limits (grant-ends port.chain confirmation state) }

-- whatever happens
pub keeps_time-handle : (event : Happening) (state : State)
    → KeepsTime state (handle event state).state
keeps_time-handle event state =
    by_event (λ outcome. KeepsTime state outcome.state) event state (λ door. record { moment = refl; limits = refl })
    (λ outcome. keeps_time-makes)

-- what a moment brings leaves the limits
pub at_moment-limits : (moment : Moment) (state : State)
    → (at_moment moment state).under_way.limits ≡ state.under_way.limits
at_moment-limits moment state =
    at_moment-keeps (λ s. s.under_way.limits ≡ state.under_way.limits) moment state (λ s is. is)
    (λ one s there is. is) refl
