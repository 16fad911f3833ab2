-- Of a request that was put to the helper and refused: whether the helper refused it, or was lost. By the run's history,
-- and as it is told (ours). The file is read from its end.
use Rattle.std.specs.Prelude.{◌≤◌, ◌-◌, ◌^◌, ◌==◌, ℕ, nat_lt, Bool, true, false, List, map, Option, None, Some, if◌then◌else◌}
use Rattle.std.specs.List.{filter_map}
use Rattle.agent_laws.specs.Answered.{times_lost}
use Rattle.agent_model.specs.Actions.{Action, Asking}
use Rattle.agent_model.specs.Events.{Timed}
use Rattle.agent_model.specs.Fates as fates
use Rattle.agent_model.specs.Fates.{Fate, fate_of}
use Rattle.agent_model.specs.Runs.{Stamped}
use Rattle.agent_model.specs.State.{State}
use Rattle.log_book.specs.declared.told.Fate.{Fate as ToldFate}
use Rattle.log_book.specs.declared.told.Fate.TheVariants as told
use Rattle.log_book.specs.declared.told.Told.{Told}
use Rattle.log_laws.specs.Ends.{Came, End, Failed, Left, Refused, Request, Signed, Waiting, action_of, ask_in, ends_at, last_request}

-- the helper's answer, or its loss
pub data Reason : Type 0 where
  Answer : Reason
  Loss : Reason

-- ---- by the history

-- by whether the helper was lost behind the ask, whatever it had answered before, and by what became of the ask
abbrev pub reason_by : Bool → Fate → Option Reason
reason_by true fate = Some Loss
reason_by false fates.Unanswered = None
reason_by false (fates.Gets answer) = Some Answer
reason_by false fates.Fails = None

-- by the ask that was put for the request, and what was done behind that
abbrev pub reason_for : Option (Asking × List Action) → Option Reason
reason_for None = None
reason_for (Some put) = reason_by (nat_lt 0 (times_lost put.1)) (fate_of put.0.ask put.1)

-- of a request that was put and refused, and of no other
abbrev pub reason_of : Option (Asking × List Action) → Came → Option Reason
reason_of put Signed = None
reason_of put Refused = None
reason_of put Failed = reason_for put
reason_of put Left = None
reason_of put Waiting = None

-- by what the client at this port asked for last
abbrev pub reason_with : ℕ → Option Request → Came → Option Reason
reason_with number None came = None
reason_with number (Some request) came = reason_of (ask_in number request.later) came

-- of the requests of the client at this port that an event ends, behind this past and in this state: one, or none
abbrev pub reasons_at : ℕ → List Stamped → State → Timed → List Reason
reasons_at number past state timed =
    filter_map (λ (end : End). reason_with number (last_request number past) end.came) (ends_at number past state timed)

-- the helper was lost no more often than an agent counts
abbrev pub AreCounted : List Stamped → Type 0
AreCounted past = times_lost (map action_of past) ≤ 2 ^ 64 - 1

-- ---- as it is told

-- by what is told that came of it
abbrev pub reason_told : ToldFate → Option Reason
reason_told told.Signed = None
reason_told told.Refused = None
reason_told told.HelperRefused = Some Answer
reason_told told.HelperLost = Some Loss
reason_told told.Left = None
reason_told told.Open = None

-- of a told request of the client at this port
abbrev pub reason_in : ℕ → Told → Option Reason
reason_in port one = if one.port == port then reason_told one.fate else None

-- of those of the client at this port, in their order
abbrev pub reasons_told : ℕ → List Told → List Reason
reasons_told port told = filter_map (reason_in port) told
