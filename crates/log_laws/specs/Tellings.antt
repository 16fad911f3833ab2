-- Each line is told by the event at which its request ended, with what came of that: by the run's history (ours). The
-- file is read from its end.
use Rattle.std.specs.Prelude.{◌≡◌, ℕ, List, [], ◌∷◌, ◌++◌}
use Rattle.agent_model.specs.Events.{Timed}
use Rattle.agent_model.specs.Runs.{AllFit, Stamped, stamped}
use Rattle.agent_model.specs.State.{Settings, State, first_state}
use Rattle.agent_model.specs.Step.{step}
use Rattle.log_book.specs.declared.told.Told.{Told}
use Rattle.log_laws.specs.Ends.{ends_at, ends_told, waits_at}
use Rattle.log_laws.specs.Refusals.{AreCounted, reasons_at, reasons_told}
use Rattle.log_laws.specs.Sights.{told_in}

-- these are told in the order of the events: of each event the requests that it ends, of each client and no other, each
-- as the history says that it ended, and of one that was put and refused whether the helper answered or was lost, as
-- long as its losses are counted; and behind them those that wait in the end
abbrev pub TellsEnds : List Stamped → State → List Timed → List Told → Type 0
TellsEnds past state [] told = (port : ℕ) → ends_told port told ≡ waits_at port past state
TellsEnds past state (timed ∷ later) told = (now : List Told) × (rest : List Told) × (told ≡ now ++ rest)
    × ((port : ℕ) → ends_told port now ≡ ends_at port past state timed)
    × ((port : ℕ) → AreCounted past → reasons_told port now ≡ reasons_at port past state timed)
    × TellsEnds (past ++ stamped (step state timed.moment timed.event)) (step state timed.moment timed.event).state later rest

-- so of each run from the agent's start on, where each event may come
abbrev pub TellsWhatCame : Settings → List Timed → Type 0
TellsWhatCame settings events = AllFit (first_state settings) events
    → TellsEnds [] (first_state settings) events (told_in (first_state settings) events)
