-- Connections of a scripted world (ours): what was sent and not read, and how much is taken.
use Rattle.std.specs.Prelude.{ℕ, zero, suc, ◌+◌, ◌-◌, ◌^◌, ◌==◌, Bool, true, false, List, [], Option, None, length, min, option_map, unwrap_or, slice_get, replicate, if◌then◌else◌}
use Rattle.std.specs.Ordering.{nat_cmp}
use Rattle.std.specs.BTreeMap.{BTreeMap, get}
use Rattle.world_ports.specs.declared.answers.Accepted.{Accepted}
use Rattle.world_ports.specs.declared.answers.Accepted.TheVariants as accepted
use Rattle.world_ports.specs.declared.events.Door.{Door}
use Rattle.world_ports.specs.declared.events.Door.TheVariants.{Clients, Children}
use Rattle.world_ports.specs.declared.answers.Got.{Got}
use Rattle.world_ports.specs.declared.answers.Got.TheVariants as got
use Rattle.world_ports.specs.declared.answers.Polled.{Polled}
use Rattle.world_ports.specs.declared.answers.Polled.TheVariants as polled
use Rattle.world_ports.specs.declared.answers.Wrote.{Wrote}
use Rattle.world_ports.specs.declared.answers.Wrote.TheVariants as wrote

-- a connection: the bytes to be read, whether no more will come, and how many it takes still, where
-- that has a bound
pub record PipeState : Type 0 where
  pub left : List ℕ
  pub shut : Bool
  pub room : Option ℕ

-- the room with some more; it stays at 2^64 - 1
abbrev pub added_room : Option ℕ → ℕ → ℕ
added_room room count = min (unwrap_or room 0 + count) (2 ^ 64 - 1)

-- the room that a write of so many bytes leaves
abbrev pub room_after : ℕ → Option ℕ → Option ℕ
room_after n room = option_map (λ r. r - n) room

-- the most that one call moves
abbrev pub most_moved : ℕ
most_moved = 2 ^ 32 - 1

-- an answer of so many bytes, or without any the end or not yet
abbrev pub got_bytes : ℕ → Bool → Got
got_bytes zero true = got.End
got_bytes zero false = got.NotNow
got_bytes (suc n) shut = got.Bytes (suc n)

-- what a read into so much room is answered: what was sent, and at its end whether that is all
abbrev pub next_got : PipeState → ℕ → Got
next_got pipe room = got_bytes (min (min (length pipe.left) room) most_moved) pipe.shut

-- an answer of so many bytes, or not yet
abbrev pub wrote_bytes : ℕ → Wrote
wrote_bytes zero = wrote.NotNow
wrote_bytes (suc n) = wrote.Took (suc n)

-- what a write of so many bytes is answered: as many as there is room for
abbrev pub next_wrote : PipeState → ℕ → Wrote
next_wrote pipe offered = wrote_bytes (min (unwrap_or (option_map (λ r. min r offered) pipe.room) offered) most_moved)

-- a connection at which nothing has happened
abbrev pub new_pipe : PipeState
new_pipe = record { left = []; shut = false; room = None }

-- the connection with a number
abbrev pub pipe_of : BTreeMap ℕ PipeState → ℕ → PipeState
pipe_of pipes port = unwrap_or (get nat_cmp pipes port) new_pipe

-- how many wait at a listener
abbrev pub waiting_at : ℕ → ℕ → Door → ℕ
waiting_at clients children Clients = clients
waiting_at clients children Children = children

-- what an accept is answered where so many connections wait and so many were accepted
abbrev pub next_accepted : ℕ → ℕ → Accepted
next_accepted zero last = accepted.NotNow
next_accepted (suc waiting) last = accepted.Port (last + 1)

-- what a poll is answered where so many turns are left
abbrev pub next_polled : ℕ → Polled
next_polled turns = if turns == 0 then polled.Over else polled.Some

-- the one-time token of the next start: sixteen zero bytes where no cue gave one
abbrev pub next_ticket : List (List ℕ) → List ℕ
next_ticket tickets = unwrap_or (slice_get tickets 0) (replicate 16 0)
