-- A client gets the helper's answer to its own request.
use Rattle.std.proofs.Common.{List, ap, ◌∙◌}
use Rattle.agent_model.specs.Events.{Timed}
use Rattle.agent_model.specs.Fates.{fate_of}
use Rattle.agent_model.specs.Runs.{run}
use Rattle.agent_model.specs.Sound.{IsTied}
use Rattle.agent_model.specs.State.{Settings, State, first_state}
use Rattle.agent_model.specs.Step.{step}
use Rattle.agent_model.specs.Time.{at_moment, time_passes}
use Rattle.agent_model.proofs.CutLemmas.{stream-fate}
use Rattle.agent_model.proofs.FatedLemmas.{first-tied, run-tied, step-fated, waits-until}
use Rattle.agent_laws.specs.Answered.{IsAnswered, IsAnsweredBy}
use Rattle.agent_laws.proofs.LossLemmas.{run-losses}
use Rattle.agent_laws.proofs.StreamLemmas.{step-only, step-said}
use Rattle.agent_laws.proofs.WaitingLemmas.{step-waiting}

-- each event
answered-by : (state : State) (one : Timed) → IsTied state
    → IsAnsweredBy state (at_moment one.moment state) one.event (time_passes one.moment state).actions (step state one.moment one.event)
answered-by state one tied = record {
  told = λ number ask waits other untaken.
      (step-fated state one.moment one.event tied).told number ask other untaken waits;
  stream = λ number ask piece port heard found door linked.
      ap (λ event. fate_of ask (step state one.moment event).actions) heard
      ∙ stream-fate ask number piece port state one.moment found door linked;
  asked = λ asking among. step-waiting state one.moment one.event asking tied among;
  said = λ ask bytes says. step-said ask bytes state one.moment one.event says;
  only = λ ask answer gets. step-only ask answer state one.moment one.event gets;
}

pub first-answered : (settings : Settings) (events : List Timed)
    → IsAnswered (first_state settings) events
first-answered settings events = record {
  waits = λ before later number ask port whole found waits.
      let waiting = (tied before).tied.waits number ask port found waits in
      record { port = port; found = found; door = waiting.door; owed = waiting.owed; waits = waits };
  until = λ before middle later number ask whole waits stays fate.
      waits-until number ask (run (first_state settings) before) middle (tied before) stays fate waits;
  steps = λ before one later whole. answered-by (run (first_state settings) before) one (tied before);
  faults = λ before later whole. run-losses settings before;
}
  where
    tied : (before : List Timed) → IsTied (run (first_state settings) before)
    tied before = run-tied (first_state settings) before (first-tied settings)
