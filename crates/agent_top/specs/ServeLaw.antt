-- The law of history over the calls of `serve` (ours): `ServesLawfully`. From here on down, each file read from its end:
--   ready_loop, specs/Serving.antt: how far a run of the loop is, by its calls
--   loop_model, specs/LegalJournal.antt: what each call brings, and what has to come after it; specs/Fitting.antt: the
--   numbers of calls
--   specs/LawfulRun.antt: the laws of the run of these events
use Rattle.std.specs.Prelude.{◌≡◌, List, [], ◌∷◌, ◌++◌, Option, Some, None}
use Rattle.std.specs.Option.{option_map_or}
use Rattle.world_ports.specs.Journal.{Grows}
use Rattle.world_ports.specs.declared.entry.Entry.{Entry}
use Rattle.agent_model.specs.Events.{Timed}
use Rattle.agent_model.specs.Runs.{AreInRange}
use Rattle.agent_model.specs.State.{Settings, State}
use Rattle.loop_model.specs.Fitting.{AreOfOneRead, AreTyped}
use Rattle.loop_model.specs.LegalJournal.{events_brought}
use Rattle.agent_top.specs.LawfulRun.{IsLawfulRun}
use Rattle.ready_loop.specs.Serving.{Setting, Stage, Unbound, Running, gone_on, ran}

-- what a call brings: events come once both listeners are bound
abbrev pub call_events : Stage → Entry → List Timed
call_events (Running reading) next = events_brought reading.due next
call_events other next = []

-- what calls bring, from one stage on
abbrev pub calls_events : Setting → Stage → List Entry → List Timed
calls_events setting stage [] = []
calls_events setting stage (next ∷ later) =
    call_events stage next
    ++ option_map_or (λ after. calls_events setting after later) (gone_on setting stage next) []

-- the agent's state at a stage
abbrev pub agent_at : Setting → Stage → State
agent_at setting (Running reading) = reading.state
agent_at setting other = setting.state

-- the run of these events is lawful; and each has the numbers of its types, and a piece is what one read has room for
pub record IsServedRun (settings : Settings) (events : List Timed) (end : State) : Type 0 where
  pub lawful : IsLawfulRun settings events end
  pub range : AreInRange events
  pub read : AreOfOneRead events

-- these calls were added; where the journal isn't told, any with the numbers of their types
abbrev pub AreAdded : Option (List Entry) → Option (List Entry) → List Entry → Type 0
AreAdded None new calls = AreTyped calls
AreAdded (Some before) new calls = Grows (Some before) new calls

-- the calls that were added lead to the state of the events which they bring, and their run is lawful
abbrev pub ServesLawfully : Settings → Setting → Option (List Entry) → Option (List Entry) → Type 0
ServesLawfully settings setting old new = (calls : List Entry) (to : Stage) → AreAdded old new calls
    → ran setting Unbound calls ≡ Some to
    → IsServedRun settings (calls_events setting Unbound calls) (agent_at setting to)
