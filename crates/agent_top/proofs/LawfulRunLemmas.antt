-- The run of events that fit is lawful.
use Rattle.std.proofs.Common.{◌≡◌, List, subst}
use Rattle.agent_laws.proofs.AnsweredLemmas.{first-answered}
use Rattle.agent_laws.proofs.HistoryLemmas.{first-lawful, first-puts}
use Rattle.agent_laws.specs.History.{HasNumbers}
use Rattle.agent_model.specs.Events.{Timed}
use Rattle.agent_model.specs.Runs.{AllFit, run}
use Rattle.agent_model.specs.State.{Settings, State, first_state}
use Rattle.agent_secrecy.specs.Pieces.{AreOfBytes}
use Rattle.question_laws.proofs.AddedLemmas.{asked-so}
use Rattle.agent_top.specs.LawfulRun.{IsLawfulRun}

pub lawful_run : (settings : Settings) (events : List Timed) (end : State)
    → AllFit (first_state settings) events → AreOfBytes events → end ≡ run (first_state settings) events
    → IsLawfulRun settings events end
lawful_run settings events end fit bytes is = record {
  fit = fit;
  bytes = bytes;
  agent = is;
  lawful = λ numbers. first-lawful settings events (subst HasNumbers is numbers);
  answered = first-answered settings events;
  put = first-puts settings events;
  questions = asked-so settings events;
}
