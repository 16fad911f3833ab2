-- What the run of any command's events is (ours): `IsLawfulRun`. From here on down, each file read from its end:
--   agent_laws, specs/History.antt from `IsLawful`, Dues.antt, Past.antt: which signature is put to the helper, by what was
--   done before; specs/Answered.antt: who is answered; specs/Puts.antt: by which message it is put
--   question_laws, specs/Questions.antt from `AreAskedSo`: what the user is asked
use Rattle.std.specs.Prelude.{◌≡◌, List, []}
use Rattle.agent_laws.specs.Answered.{IsAnswered}
use Rattle.agent_laws.specs.History.{HasNumbers, IsLawful}
use Rattle.agent_laws.specs.Puts.{IsPutAsAsked}
use Rattle.agent_model.specs.Events.{Timed}
use Rattle.agent_model.specs.Runs.{AllFit, history, run}
use Rattle.agent_model.specs.State.{Settings, State, first_state}
use Rattle.agent_secrecy.specs.Pieces.{AreOfBytes}
use Rattle.question_laws.specs.Questions.{AreAskedSo}

-- each event may come in the state that it finds, what is heard are bytes, and they lead to this state (so runs that are
-- alike but in secrets tell none: agent_secrecy, `secrecy`); and while neither the numbers of asks nor those of jobs are
-- spent, a signature is put to the helper exactly where what was done before says so; and whoever waits for the helper gets
-- its first answer to the own request, or is told that the helper was lost; and the messages that are put to the helper, and
-- appended to what it is owed, are those of what was asked for; and what the child process of a question takes is a front of
-- the question about the addition and the message that are then signed
pub record IsLawfulRun (settings : Settings) (events : List Timed) (end : State) : Type 0 where
  pub fit : AllFit (first_state settings) events
  pub bytes : AreOfBytes events
  pub agent : end ≡ run (first_state settings) events
  pub lawful : HasNumbers end → IsLawful settings.life [] (history (first_state settings) events)
  pub answered : IsAnswered (first_state settings) events
  pub put : IsPutAsAsked (first_state settings) events
  pub questions : AreAskedSo settings events
