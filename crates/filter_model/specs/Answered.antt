-- What a call on pairs leaves of how their journal reads, by its answer (ours).
use Rattle.std.specs.Prelude.{ℕ, Bool, true, false, List, [], ◌∷◌, Option, Some, None, Result, Ok, Err}
use Rattle.world_ports.specs.declared.answers.Accepted.{Accepted}
use Rattle.world_ports.specs.declared.answers.Accepted.TheVariants as accepted
use Rattle.world_ports.specs.declared.answers.Got.{Got}
use Rattle.world_ports.specs.declared.answers.Got.TheVariants as got
use Rattle.world_ports.specs.declared.answers.Polled.{Polled}
use Rattle.world_ports.specs.declared.answers.Polled.TheVariants as polled
use Rattle.world_ports.specs.declared.answers.WorldFault.{WorldFault}
use Rattle.world_ports.specs.declared.answers.WorldFault.TheVariants.{Failed, Memory}
use Rattle.world_ports.specs.declared.answers.Wrote.{Wrote}
use Rattle.world_ports.specs.declared.answers.Wrote.TheVariants as wrote
use Rattle.pair_ports.specs.declared.entry.Linked.{Linked}
use Rattle.pair_ports.specs.declared.entry.Linked.TheVariants as linked
use Rattle.pair_ports.specs.declared.entry.PairReady.{PairReady}
use Rattle.pair_ports.specs.declared.side.Side.{Side}
use Rattle.pair_ports.specs.declared.side.Side.TheVariants.{Client, Upstream}
use Rattle.filter_model.specs.declared.thing.Thing.{Thing}
use Rattle.filter_model.specs.declared.thing.Thing.TheVariants.{Accept, Read, Write}
use Rattle.filter_model.specs.Filters.{Connected, Ended, Happening, Heard, Joined, Lost, State, Took, step}
use Rattle.filter_model.specs.Lines.{dropped, queued, queued_all, queued_pair, sent_back, without_pair}

-- what has to come next: the bind; anything that can be served, or a poll where nothing can; the closing of pairs, or
-- the end of their connections to the agent behind; nothing more
pub data Due : Type 0 where
  Binding : (path upstream : List ℕ) → Due
  Free : Due
  Closing : (pair : ℕ) (later parts : List ℕ) → Due
  Parting : (pair : ℕ) (later : List ℕ) → Due
  Nothing : Due

-- how a journal was read so far: the filter's state, what is ready, and what has to come next
pub record Reading : Type 0 where
  pub state : State
  pub line : List Thing
  pub due : Due

-- the reading at this state, with this line of ready things and this due
abbrev pub at : State → List Thing → Due → Reading
at state line due = record { state = state; line = line; due = due }

-- where the test holds
abbrev pub only_if : Bool → Reading → Option Reading
only_if true reading = Some reading
only_if false reading = None

-- pairs that an event closed have to be closed, then connections that it gave back, and then all is free
abbrev pub due_of : List ℕ → List ℕ → Due
due_of [] [] = Free
due_of [] (pair ∷ later) = Parting pair later
due_of (pair ∷ later) parts = Closing pair later parts

-- the event was stepped
abbrev pub after_event : Happening → State → List Thing → Reading
after_event event state line = at (step state event) line (due_of (step state event).closes (step state event).parts)

-- the door was bound, or the outside refused it, or memory ran out
abbrev pub after_bind : {E : Type 0} → Result Unit E → State → List Thing → Reading
after_bind (Ok done) state line = at state line Free
after_bind (Err fault) state line = at state line Nothing

-- a pair was closed: nothing of it is ready any more
abbrev pub after_close : {E : Type 0} → ℕ → List ℕ → List ℕ → State → List Thing → Result Unit E → Reading
after_close pair later parts state line (Ok done) = at state (without_pair pair line) (due_of later parts)
after_close pair later parts state line (Err want) = at state line Nothing

-- a pair's connection was given back: it may have another one at once
abbrev pub after_disconnect : {E : Type 0} → ℕ → List ℕ → State → List Thing → Result Unit E → Reading
after_disconnect pair later state line (Ok done) = at state (queued (Write pair Upstream) line) (due_of [] later)
after_disconnect pair later state line (Err want) = at state line Nothing

-- a client came, and all of its pair counts as ready; or none waits
abbrev pub after_accepted : State → List Thing → Accepted → Reading
after_accepted state line (accepted.Port number) = after_event Joined state (sent_back Accept (queued_pair number line))
after_accepted state line accepted.NotNow = at state (dropped Accept line) Free

-- an accept that the outside refused counts as none
abbrev pub after_accept : State → List Thing → Result Accepted WorldFault → Reading
after_accept state line (Ok answer) = after_accepted state line answer
after_accept state line (Err Failed) = at state (dropped Accept line) Free
after_accept state line (Err Memory) = at state line Nothing

-- the pair is connected, or the agent behind has no place for it yet
abbrev pub after_linked : ℕ → State → List Thing → Linked → Reading
after_linked pair state line linked.Made = after_event (Connected pair) state (sent_back (Write pair Upstream) line)
after_linked pair state line linked.NotNow = at state (dropped (Write pair Upstream) line) Free

-- a connection that the outside refused ends the pair
abbrev pub after_connect : ℕ → State → List Thing → Result Linked WorldFault → Reading
after_connect pair state line (Ok answer) = after_linked pair state line answer
after_connect pair state line (Err Failed) = after_event (Ended pair) state (dropped (Write pair Upstream) line)
after_connect pair state line (Err Memory) = at state line Nothing

-- a side has ended: the client's end is the pair's
abbrev pub end_of : Side → ℕ → Happening
end_of Client pair = Ended pair
end_of Upstream pair = Lost pair

-- bytes came, or the end, or nothing yet
abbrev pub after_got : ℕ → Side → List ℕ → State → List Thing → Got → Reading
after_got pair side bytes state line (got.Bytes n) = after_event (Heard pair side bytes) state (sent_back (Read pair side) line)
after_got pair side bytes state line got.End = after_event (end_of side pair) state (dropped (Read pair side) line)
after_got pair side bytes state line got.NotNow = at state (dropped (Read pair side) line) Free

-- a read that the outside refused ends the side
abbrev pub after_read : ℕ → Side → List ℕ → State → List Thing → Result Got WorldFault → Reading
after_read pair side bytes state line (Ok answer) = after_got pair side bytes state line answer
after_read pair side bytes state line (Err Failed) = after_event (end_of side pair) state (dropped (Read pair side) line)
after_read pair side bytes state line (Err Memory) = at state line Nothing

-- bytes went, or there is no room
abbrev pub after_wrote : ℕ → Side → State → List Thing → Wrote → Reading
after_wrote pair side state line (wrote.Took n) = after_event (Took pair side n) state (sent_back (Write pair side) line)
after_wrote pair side state line wrote.NotNow = at state (dropped (Write pair side) line) Free

-- a write that the outside refused ends the side
abbrev pub after_write : ℕ → Side → State → List Thing → Result Wrote WorldFault → Reading
after_write pair side state line (Ok answer) = after_wrote pair side state line answer
after_write pair side state line (Err Failed) = after_event (end_of side pair) state (dropped (Write pair side) line)
after_write pair side state line (Err Memory) = at state line Nothing

-- things became ready, or nothing will any more
abbrev pub after_polled : List PairReady → State → List Thing → Polled → Reading
after_polled items state line polled.Some = at state (queued_all state items line) Free
after_polled items state line polled.Over = at state line Nothing

-- a poll that failed ends the journal
abbrev pub after_poll : {E : Type 0} → List PairReady → State → List Thing → Result Polled E → Reading
after_poll items state line (Ok answer) = after_polled items state line answer
after_poll items state line (Err fault) = at state line Nothing
