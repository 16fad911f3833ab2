-- States, lines and journals that are written out, for the laws of src/rows.rt (ours).
use Rattle.std.specs.Prelude.{ℕ, Bool, true, false, List, [], ◌∷◌, None, Some, is_some, Ok}
use Rattle.world_ports.specs.declared.events.Door.{Door}
use Rattle.world_ports.specs.declared.events.Door.TheVariants.{Clients}
use Rattle.world_ports.specs.declared.answers.Accepted.TheVariants as accepted
use Rattle.world_ports.specs.declared.answers.Got.TheVariants as got
use Rattle.world_ports.specs.declared.answers.Polled.TheVariants as polled
use Rattle.world_ports.specs.declared.answers.Spot.TheVariants as spot
use Rattle.world_ports.specs.declared.answers.Wrote.TheVariants as wrote
use Rattle.world_ports.specs.declared.events.JobKind.{JobKind}
use Rattle.world_ports.specs.declared.events.JobKind.TheVariants as jobs
use Rattle.world_ports.specs.declared.entry.Entry.{Entry}
use Rattle.world_ports.specs.declared.entry.Entry.TheVariants as entry
use Rattle.helper_link.specs.HelperLink.{ask_of, no_link}
use Rattle.helper_link.specs.declared.ask.AskKind.TheVariants as kinds
use Rattle.helper_link.specs.declared.state.LinkState.TheVariants as states
use Rattle.agent_model.specs.State.{OnAsk, State, first_state, new_port, no_settings, nothing_under_way}
use Rattle.loop_model.specs.Dues.{Free}
use Rattle.loop_model.specs.LegalJournal.{after_entries, in_state}
use Rattle.loop_model.specs.Lines.{Line}
use Rattle.loop_model.specs.declared.thing.Thing.{Thing}

-- ---- states

-- no port is open
abbrev pub no_ports : State
no_ports = first_state no_settings

-- one client is open, or two; each is to be read, and none is owed bytes
abbrev pub one_client : State
one_client = record (first_state no_settings) { ports = new_port 1 Clients ∷ []; last_port = 1 }

-- two clients are open; each is to be read, and none is owed bytes
abbrev pub two_clients : State
two_clients = record (first_state no_settings) { ports = new_port 1 Clients ∷ new_port 2 Clients ∷ []; last_port = 2 }

-- the client of port 1 waits for an answer of the helper to ask 1, which was put at second 0 and may last 60
abbrev pub waiting_client : State
waiting_client = record (first_state (record { life = None; limits = record { ask = Some 60; confirmation = None } })) {
  ports = record (new_port 1 Clients) { waits = OnAsk 1 } ∷ [];
  last_port = 1;
  under_way = record (nothing_under_way (record { ask = Some 60; confirmation = None })) {
    link = record no_link { state = states.Starting 1; asks = ask_of 1 1 kinds.Signing [] 0 25 ∷ []; last = 1 };
    last_job = 1;
  };
}

-- so, and two jobs wait to be started: the helper's, and then a confirmation's
abbrev pub with_jobs : State → State
with_jobs state = record state {
  under_way = record state.under_way {
    to_start = record { number = 1; kind = jobs.Helper } ∷ record { number = 2; kind = jobs.Confirm } ∷ [];
    last_job = 2;
  };
}

-- ---- lines

-- a queue, with listeners, ports to read and ports to write to aside
abbrev pub line_of : List Thing → List Door → List ℕ → List ℕ → Line
line_of queue doors reads writes =
    record { queue = queue; aside = record { doors = doors; reads = reads; writes = writes }; joined = false }

-- a queue, with nothing aside
abbrev pub queue_of : List Thing → Line
queue_of queue = line_of queue [] [] []

-- ---- journals

-- the calls may come in this state, with this queue and nothing aside
abbrev pub comes_in_turn : State → List Thing → List Entry → Bool
comes_in_turn state queue entries = is_some (after_entries (in_state state (queue_of queue) Free) entries)

-- the calls may come in the state in which the client waits and can be written to
abbrev pub comes_as_it_waits : List Entry → Bool
comes_as_it_waits entries = is_some (after_entries (in_state waiting_client (line_of [] [] [] (1 ∷ [])) Free) entries)

-- from the start, both listeners bound and nothing ready
abbrev pub is_legal : List Entry → Bool
is_legal entries = comes_in_turn no_ports [] entries

-- ---- entries

-- the clock is read at this second
abbrev pub now_at : ℕ → Entry
now_at second = entry.Now (Ok (record { mono = second; wall = second }))

-- a wait without a bound tells of a client
abbrev pub poll_client : Entry
poll_client =
    entry.Poll None (record { spot = spot.Door Clients; readable = true; writable = false } ∷ []) (Ok polled.Some)

-- a wait without a bound tells of nothing
abbrev pub poll_nothing : Entry
poll_nothing = entry.Poll None [] (Ok polled.Some)

-- a wait of so many seconds tells of nothing
abbrev pub poll_for : ℕ → Entry
poll_for seconds = entry.Poll (Some seconds) [] (Ok polled.Some)

-- the client gets this number
abbrev pub accept_as : ℕ → Entry
accept_as number = entry.Accept Clients (Ok (accepted.Port number))

-- no client waits
abbrev pub accept_none : Entry
accept_none = entry.Accept Clients (Ok accepted.NotNow)

-- these bytes are read from the port
abbrev pub read_of : ℕ → ℕ → List ℕ → Entry
read_of number count bytes = entry.Read number 16384 bytes (Ok (got.Bytes count))

-- nothing more is there to be read
abbrev pub read_none : ℕ → Entry
read_none number = entry.Read number 16384 [] (Ok got.NotNow)

-- the port takes so many of these bytes
abbrev pub write_of : ℕ → List ℕ → ℕ → Entry
write_of number bytes count = entry.Write number bytes (Ok (wrote.Took count))

-- the port is closed
abbrev pub close_of : ℕ → Entry
close_of number = entry.Close number (Ok tt)

-- the job is started
abbrev pub start_of : ℕ → JobKind → Entry
start_of number kind = entry.Start (record { number = number; kind = kind }) (Ok [])

-- a client that joins, with the moment of its joining, behind a look and a wait
abbrev pub joins : List Entry → List Entry
joins later = now_at 1 ∷ poll_client ∷ accept_as 1 ∷ now_at 1 ∷ later
