-- The second of what is under way stays that of the moment.
use Rattle.std.proofs.Common.{◌≡◌, ◌∙◌, ℕ, List, Option, Some, None, refl}
use Rattle.world_ports.specs.declared.Moment.{Moment}
use Rattle.helper_link.specs.Telling.{telling}
use Rattle.helper_link.specs.declared.fault.LinkFault.{LinkFault}
use Rattle.wire_text.specs.Frames.{front_body}
use Rattle.dest_rule.specs.declared.binding.Binding.{Binding}
use Rattle.confirm_desk.specs.Confirmations.{Confirmation}
use Rattle.agent_model.specs.Actions.{Outcome, Work}
use Rattle.agent_model.specs.Answers.{answers_in, lose_if, with_answers}
use Rattle.agent_model.specs.Dispatch.{Asker, Served}
use Rattle.agent_model.specs.Events.{Happening}
use Rattle.agent_model.specs.KeyStates.{KeyState}
use Rattle.agent_model.specs.State.{State, UnderWay}
use Rattle.agent_model.specs.Step.{asker_at, step}
use Rattle.agent_model.specs.Time.{at_moment}
use Rattle.agent_model.proofs.GrantLemmas.{IsGranted, allowed, disallowed, grant-ends, unasked}
use Rattle.agent_model.proofs.MakeLemmas.{Makes, Quiet, alters, by_event, closes, first, goes_on, grants, links, loses, names, overs, same_asks, serves, stays, tells}
use Rattle.agent_model.proofs.ServeLemmas.{IsServed, answered, asked, raised, refused, serve-ends}
use Rattle.agent_model.proofs.TimeLemmas.{at_moment-keeps}

-- the second of what is under way is that of the moment
abbrev pub IsPaced : State → Type 0
IsPaced state = state.under_way.second ≡ state.moment.mono

-- no request and no consent changes it
served-second : {asker : Asker} {held : KeyState} {under_way : UnderWay} {served : Served} → IsServed asker held under_way served
    → served.work.under_way.second ≡ under_way.second
served-second (answered reply kept keeps) = refl
served-second (refused cause) = refl
served-second (asked errand free right) = refl
served-second (raised key signing free) = refl

granted-second : {chain : List Binding} {one : Confirmation} {wall : ℕ} {held : KeyState} {under_way : UnderWay} {work : Work}
    → IsGranted chain one wall held under_way work → work.under_way.second ≡ under_way.second
granted-second (disallowed never) = refl
granted-second (unasked cause key may fault) = refl
granted-second (allowed key may free) = refl

-- nor does anything else in an event
paced-quiet : {event : Happening} {old new : State} → Quiet event old new → IsPaced old → IsPaced new
paced-quiet (alters number f change) paced = paced
paced-quiet (closes number may) paced = paced
paced-quiet (goes_on new goes) paced = (same_asks goes).second ∙ paced
paced-quiet (names job number new) paced = paced
paced-quiet (links job number new) paced = paced

paced-lose_if : (fault : Option LinkFault) (state : State) → IsPaced state → IsPaced (lose_if fault state).state
paced-lose_if None state paced = paced
paced-lose_if (Some fault) state paced = paced

paced-makes : {event : Happening} {old : State} {outcome : Outcome} → Makes event old outcome → IsPaced old → IsPaced outcome.state
paced-makes (stays state) paced = paced
paced-makes (first quiet makes) paced = paced-makes makes (paced-quiet quiet paced)
paced-makes (serves body_len port state found door waits owed own) paced =
    served-second (serve-ends (asker_at state.moment port) state.held state.under_way (front_body body_len port.heard)) ∙ paced
paced-makes (tells piece state) paced =
    let told = telling piece state.under_way.link in
    paced-lose_if told.fault (with_answers told.link (answers_in told.settled state) state) paced
paced-makes (loses state) paced = paced
paced-makes (overs confirmation state there) paced = paced
paced-makes (grants confirmation port state there found) paced =
    granted-second (grant-ends port.chain confirmation state) ∙ paced

-- the moment brings it to its own
pub paced-opened : (moment : Moment) (state : State) → IsPaced (at_moment moment state)
paced-opened moment state = at_moment-keeps IsPaced moment state (λ s paced. paced) (λ one s there paced. paced) refl

pub paced-step : (state : State) (moment : Moment) (event : Happening) → IsPaced (step state moment event).state
paced-step state moment event =
    by_event (λ (outcome : Outcome). IsPaced outcome.state) event (at_moment moment state) (λ door. paced-opened moment state)
    (λ outcome makes. paced-makes makes (paced-opened moment state))
