-- What has to come next in a journal, and what a call leaves of that, by its answer (ours).
use Rattle.std.specs.Prelude.{ℕ, ◌-◌, Bool, true, false, List, [], ◌∷◌, Option, Some, None, Ok, Err, ◌==◌, option_map}
use Rattle.world_ports.specs.declared.answers.Accepted.TheVariants as accepted
use Rattle.world_ports.specs.declared.answers.Got.TheVariants as got
use Rattle.world_ports.specs.declared.answers.Polled.TheVariants as polled
use Rattle.world_ports.specs.declared.answers.WorldFault.TheVariants.{Failed}
use Rattle.world_ports.specs.declared.answers.Wrote.TheVariants as wrote
use Rattle.world_ports.specs.declared.entry.Entry.{Entry}
use Rattle.world_ports.specs.declared.entry.Entry.TheVariants as entry
use Rattle.agent_model.specs.Events.{Happening, Joined, Heard, Ended, Took, Started, StartFailed}
use Rattle.agent_model.specs.State.{State, next_due}

-- anything that is in its turn; the moment of an event; the closing of these ports; a poll without another look; or
-- nothing more
pub data Due : Type 0 where
  Free : Due
  NowFor : (event : Happening) → Due
  Closing : (port : ℕ) (later : List ℕ) → Due
  Polling : Due
  Nothing : Due

-- ---- which it is

-- any call may come that the list of ready things allows
abbrev pub is_free : Due → Bool
is_free Free = true
is_free other = false

-- this port is the next to be closed
abbrev pub is_closing : ℕ → Due → Bool
is_closing number (Closing port later) = number == port
is_closing number other = false

-- a poll has to come
abbrev pub is_polling : Due → Bool
is_polling Polling = true
is_polling other = false

-- a moment is read after each event, and to look at the clock where there is nothing to do
abbrev pub reads_clock : Due → (idle : Bool) → Bool
reads_clock Free idle = idle
reads_clock (NowFor event) idle = true
reads_clock other idle = false

-- the port of an event after which the last port that joined has this number: the one that it names, or that joined
abbrev pub port_of : Happening → ℕ → Option ℕ
port_of (Joined door) last = Some last
port_of (Heard port piece) last = Some port
port_of (Ended port) last = Some port
port_of (Took port count) last = Some port
port_of other last = None

-- ---- after a call, by its answer

-- ports have to be closed, and then all is free
abbrev pub due_of : List ℕ → Due
due_of [] = Free
due_of (port ∷ later) = Closing port later

-- a look that closes nothing and lets nothing be served is followed by a poll
abbrev pub due_look : List ℕ → (idle : Bool) → Due
due_look [] true = Polling
due_look closes idle = due_of closes

-- by its answer, what a call leaves that is no binding, no closing and no reading of the clocks. A listener where the
-- outside refused counts as one where nobody waits, and a read or a write that it refused ends the port; where memory
-- ran out, nothing more comes
abbrev pub due_by_answer : Entry → Due
-- a poll that failed, or that tells that nothing will become ready, is the last call
due_by_answer (entry.Poll wait items (Ok polled.Some)) = Free
-- a connection was accepted, or none waits
due_by_answer (entry.Accept door (Ok (accepted.Port number))) = NowFor (Joined door)
due_by_answer (entry.Accept door (Ok accepted.NotNow)) = Free
due_by_answer (entry.Accept door (Err Failed)) = Free
-- bytes came, or the end, or nothing yet
due_by_answer (entry.Read port room bytes (Ok (got.Bytes n))) = NowFor (Heard port bytes)
due_by_answer (entry.Read port room bytes (Ok got.End)) = NowFor (Ended port)
due_by_answer (entry.Read port room bytes (Ok got.NotNow)) = Free
due_by_answer (entry.Read port room bytes (Err Failed)) = NowFor (Ended port)
-- bytes went, or there is no room
due_by_answer (entry.Write port offered (Ok (wrote.Took n))) = NowFor (Took port n)
due_by_answer (entry.Write port offered (Ok wrote.NotNow)) = Free
due_by_answer (entry.Write port offered (Err Failed)) = NowFor (Ended port)
-- a job was started with a ticket, or wasn't
due_by_answer (entry.Start job (Ok ticket)) = NowFor (Started job.number ticket)
due_by_answer (entry.Start job (Err Failed)) = NowFor (StartFailed job.number)
due_by_answer other = Nothing

-- the next port has to be closed, or all is free
abbrev pub due_closed : Due → Due
due_closed (Closing port later) = due_of later
due_closed other = Free

-- the clocks take an event in, and what it closed has to be closed; with no event due, it is a look
abbrev pub due_at_moment : Due → List ℕ → (idle : Bool) → Due
due_at_moment Free closes idle = due_look closes idle
due_at_moment (NowFor event) closes idle = due_of closes
due_at_moment other closes idle = Nothing

-- any call: where this had to come, with the ports that its event closed, and whether there is nothing to do after it
abbrev pub due_after : Due → List ℕ → (idle : Bool) → Entry → Due
due_after due closes idle (entry.Bind door path answer) = due
due_after due closes idle (entry.Close port (Ok unit)) = due_closed due
due_after due closes idle (entry.Now (Ok moment)) = due_at_moment due closes idle
due_after due closes idle other = due_by_answer other

-- ---- how long a poll waits

-- how long a poll may wait, in seconds: until something is due, by the agent's clock
abbrev pub wait_of : State → Option ℕ
wait_of state = option_map (λ due. due - state.moment.mono) (next_due state)
