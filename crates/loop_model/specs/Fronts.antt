-- Places in a legal journal (ours).
use Rattle.std.specs.Prelude.{◌≡◌, List, Some, true}
use Rattle.world_ports.specs.declared.entry.Entry.{Entry}
use Rattle.loop_model.specs.Dues.{Polling}
use Rattle.loop_model.specs.LegalJournal.{LoopState, after_entries}
use Rattle.loop_model.specs.Lines.{is_idle}

-- the first entries may come, and the others may come from where they lead to
pub record HasFront (from to : LoopState) (first later : List Entry) : Type 0 where
  pub reached : LoopState
  pub front : after_entries from first ≡ Some reached
  pub rest : after_entries reached later ≡ Some to

-- a poll has to come next, and no port is to be closed; nothing can be served, and no job waits
pub record IsAtRest (reading : LoopState) : Type 0 where
  pub due : reading.due ≡ Polling
  pub idle : is_idle reading.state reading.line ≡ true

-- the first entries may come, and nothing is to do where they lead to
pub record RestsAfter (from : LoopState) (first : List Entry) : Type 0 where
  pub reached : LoopState
  pub front : after_entries from first ≡ Some reached
  pub rest : IsAtRest reached
