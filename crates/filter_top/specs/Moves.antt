-- What the calls of a loop add to the journal (ours).
use Rattle.std.specs.Prelude.{◌≡◌, ℕ, List, [], ◌∷◌, ◌++◌, Option, Some, Result, Ok, Err}
use Rattle.world_ports.specs.Journal.{Grows}
use Rattle.world_ports.specs.declared.answers.Polled.{Polled}
use Rattle.world_ports.specs.declared.answers.Polled.TheVariants as polled
use Rattle.world_ports.specs.declared.answers.WorldFault.{WorldFault}
use Rattle.world_ports.specs.declared.answers.WorldFault.TheVariants as fault
use Rattle.pair_ports.specs.declared.entry.PairEntry.{PairEntry}
use Rattle.pair_ports.specs.declared.entry.PairEntry.TheVariants as entry
use Rattle.pair_ports.specs.declared.entry.PairReady.{PairReady}
use Rattle.filter_model.specs.Answered.{Reading}
use Rattle.filter_model.specs.LegalPairs.{read_on}
use Rattle.filter_top.specs.declared.turn.Turn.{Turn}
use Rattle.filter_top.specs.declared.turn.Turn.TheVariants as turns

-- the calls that were added may come from one reading on, and lead to the other
pub record Moves (from : Reading) (old new : Option (List PairEntry)) (to : Reading) : Type 0 where
  pub added : List PairEntry
  pub told : Grows old new added
  pub legal : read_on from added ≡ Some to

-- one call at least was added; the calls may come from one reading on, and lead to the other
pub record MovesOn (from : Reading) (old new : Option (List PairEntry)) (to : Reading) : Type 0 where
  pub next : PairEntry
  pub later : List PairEntry
  pub told : Grows old new (next ∷ later)
  pub legal : read_on from (next ∷ later) ≡ Some to

-- memory ran out: the calls up to there may come
pub record Stops (from : Reading) (old new : Option (List PairEntry)) : Type 0 where
  pub to : Reading
  pub moves : Moves from old new to

-- the calls may come, and the last of them is this one
pub record MovesUpTo (from : Reading) (old new : Option (List PairEntry)) (last : PairEntry) : Type 0 where
  pub to : Reading
  pub before : List PairEntry
  pub told : Grows old new (before ++ last ∷ [])
  pub legal : read_on from (before ++ last ∷ []) ≡ Some to

-- it is a poll with this answer
pub record PollEnds (from : Reading) (old new : Option (List PairEntry)) (answer : Result Polled WorldFault) : Type 0 where
  pub items : List PairReady
  pub moves : MovesUpTo from old new (entry.Poll items answer)

-- it is the bind, which the outside refused
pub record BindEnds (from : Reading) (old new : Option (List PairEntry)) : Type 0 where
  pub path : List ℕ
  pub upstream : List ℕ
  pub moves : MovesUpTo from old new (entry.Bind path upstream (Err fault.Failed))

-- by whether memory ran out
abbrev pub Goes : {E : Type 0} → Result Unit E → Reading → Option (List PairEntry) → Option (List PairEntry) → Reading → Type 0
Goes (Ok done) from old new to = Moves from old new to
Goes (Err want) from old new to = Stops from old new

-- by whether memory ran out, where a call was to be made
abbrev pub GoesOn : {E : Type 0} → Result Unit E → Reading → Option (List PairEntry) → Option (List PairEntry) → Reading → Type 0
GoesOn (Ok done) from old new to = MovesOn from old new to
GoesOn (Err want) from old new to = Stops from old new

-- by how a turn ended: one that served made a call
abbrev pub Turns : Turn → Reading → Option (List PairEntry) → Option (List PairEntry) → Reading → Type 0
Turns turns.Served from old new to = MovesOn from old new to
Turns turns.Over from old new to = PollEnds from old new (Ok polled.Over)
Turns turns.Refused from old new to = PollEnds from old new (Err fault.Failed)
Turns turns.Memory from old new to = Stops from old new

-- a turn that served something, where memory sufficed
abbrev pub served_by : {E : Type 0} → Result Unit E → Turn
served_by (Ok done) = turns.Served
served_by (Err want) = turns.Memory
