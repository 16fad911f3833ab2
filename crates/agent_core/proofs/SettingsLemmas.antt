-- What the agent was started with stays as it is.
use Rattle.std.proofs.Common.{◌≡◌, ◌∙◌, ℕ, List, Option, Some, None, Result, ap, refl}
use Rattle.world_ports.specs.declared.Moment.{Moment}
use Rattle.agent_msg.specs.Requests.{ClientRequest}
use Rattle.agent_msg.specs.declared.fault.MsgFault.{MsgFault}
use Rattle.agent_model.specs.Binds.{agent_request_of}
use Rattle.helper_link.specs.Telling.{telling}
use Rattle.helper_link.specs.declared.fault.LinkFault.{LinkFault}
use Rattle.wire_text.specs.Frames.{front_body}
use Rattle.dest_rule.specs.declared.binding.Binding.{Binding}
use Rattle.confirm_desk.specs.Confirmations.{Confirmation}
use Rattle.agent_model.specs.Actions.{Outcome, Work}
use Rattle.agent_model.specs.Answers.{answers_in, lose_if, with_answers}
use Rattle.agent_model.specs.Dispatch.{Asker, Served}
use Rattle.agent_model.specs.Events.{Happening}
use Rattle.agent_model.specs.KeyStates.{KeyState, after_use}
use Rattle.agent_model.specs.State.{Settings, State, UnderWay}
use Rattle.agent_model.specs.Step.{asker_at, step}
use Rattle.agent_model.specs.Time.{at_moment}
use Rattle.agent_model.proofs.GrantLemmas.{IsGranted, allowed, disallowed, grant-ends, unasked}
use Rattle.agent_model.proofs.MakeLemmas.{Makes, Quiet, alters, by_event, closes, first, goes_on, grants, links, loses, names, overs, same_asks, serves, stays, tells}
use Rattle.agent_model.proofs.ServeLemmas.{Serves, adds, confirms, denies, empties, lists, locks, removes, serves-any, signs, unlocks, verifies}
use Rattle.agent_model.proofs.TimeLemmas.{at_moment-keeps}
use Rattle.agent_core.specs.Parts.{settings_in}

-- no request and no consent changes the lifetime and the limits
abbrev set_in : KeyState → UnderWay → Settings
set_in held under_way = record { life = held.table.life; limits = under_way.limits }

served-set : {read : Result ClientRequest MsgFault} {asker : Asker} {held : KeyState} {under_way : UnderWay} {served : Served}
    → Serves read asker held under_way served → set_in served.held served.work.under_way ≡ set_in held under_way
served-set (denies cause) = refl
served-set (lists identities is) = refl
served-set (adds addition is) = refl
served-set (removes blob is) = refl
served-set (empties is) = refl
served-set (locks passphrase is) = refl
served-set (unlocks passphrase is) = refl
served-set (signs signing key is found asks free) = refl
served-set (confirms signing key is found free) = refl
served-set (verifies bind is_new is judged free) = refl

granted-set : {chain : List Binding} {one : Confirmation} {wall : ℕ} {held : KeyState} {under_way : UnderWay} {work : Work}
    → IsGranted chain one wall held under_way work → set_in (after_use work.used held) work.under_way ≡ set_in held under_way
granted-set (disallowed never) = refl
granted-set (unasked cause key may fault) = refl
granted-set (allowed key may free) = refl

-- nor does anything else in an event
quiet-set : {event : Happening} {old new : State} → Quiet event old new → settings_in new ≡ settings_in old
quiet-set (alters number f change) = refl
quiet-set (closes number may) = refl
quiet-set {old = old} (goes_on new goes) = ap (λ limits. let s : Settings = record { life = old.held.table.life; limits = limits } in s) (same_asks goes).limits
quiet-set (names job number new) = refl
quiet-set (links job number new) = refl

lose_if-set : (fault : Option LinkFault) (state : State) → settings_in (lose_if fault state).state ≡ settings_in state
lose_if-set None state = refl
lose_if-set (Some fault) state = refl

makes-set : {event : Happening} {old : State} {outcome : Outcome} → Makes event old outcome → settings_in outcome.state ≡ settings_in old
makes-set (stays state) = refl
makes-set (first quiet makes) = makes-set makes ∙ quiet-set quiet
makes-set (serves body_len port state found door waits owed own) =
    served-set (serves-any (agent_request_of (front_body body_len port.heard)) (asker_at state.moment port) state.held state.under_way)
makes-set (tells piece state) =
    let told = telling piece state.under_way.link in
    lose_if-set told.fault (with_answers told.link (answers_in told.settled state) state)
makes-set (loses state) = refl
makes-set (overs confirmation state there) = refl
makes-set (grants confirmation port state there found) = granted-set (grant-ends port.chain confirmation state)

-- nor does a moment
opened-set : (moment : Moment) (state : State) → settings_in (at_moment moment state) ≡ settings_in state
opened-set moment state =
    at_moment-keeps (λ s. settings_in s ≡ settings_in state) moment state (λ s same. same) (λ one s there same. same) refl

pub step-set : (state : State) (moment : Moment) (event : Happening) → settings_in (step state moment event).state ≡ settings_in state
step-set state moment event =
    by_event (λ (outcome : Outcome). settings_in outcome.state ≡ settings_in state) event (at_moment moment state)
    (λ door. opened-set moment state) (λ outcome makes. makes-set makes ∙ opened-set moment state)
