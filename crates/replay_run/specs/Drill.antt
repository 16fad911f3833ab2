-- The drill: what comes of the requests that a seed draws, and the line that sums it up, `summary` (ours: docs/PROTOCOL.md,
-- "The drill"). The file is read from its end. Requests are drawn by specs/Draws.antt; each line is an event of the
-- abstract agent and a settling, as those of a schedule are (specs/Settling.antt), and a drill is the run of its events.
use Rattle.std.specs.Prelude.{ℕ, zero, suc, ◌+◌, ◌==◌, Bool, false, if◌then◌else◌, is_some, not, List, [], ◌∷◌, ◌++◌, length, replicate, take, count_by, Option, None, Some, Result, Ok, codes, decimal}
use Rattle.world_ports.specs.declared.Door.TheVariants.{Clients, Children}
use Rattle.world_ports.specs.declared.Moment.{Moment}
use Rattle.wire_text.specs.Bounds.{longest_to_child}
use Rattle.wire_text.specs.Frames.{split}
use Rattle.wire_text.specs.Wire.{string, uint64}
use Rattle.child_msg.specs.ChildFrames.{from_child_body}
use Rattle.child_msg.specs.Messages.{Hello, Signed, Sign, ToChildMessage}
use Rattle.child_msg.specs.Reading.{to_child_of}
use Rattle.child_msg.specs.declared.fault.ChildFault.{ChildFault}
use Rattle.agent_core.specs.Owing.{is_client_at}
use Rattle.agent_model.specs.Events.{Happening, Timed, Joined, Heard, Started, Took, Tick}
use Rattle.agent_model.specs.Runs.{run}
use Rattle.agent_model.specs.State.{Port, State, find_port, find_to_start, first_state, no_settings, owed_of, starts}
use Rattle.agent_model.specs.Step.{step}
use Rattle.replay_run.specs.Draws.{Draws, Asking, asking_of, draws_of}
use Rattle.replay_run.specs.Settling.{comes}

-- ---- what ports take

-- the messages that a port takes at an event, where it is one of theirs. No message of the agent has a longer body than
-- one to a child process
abbrev pub taken_at : (Option Port → Bool) → State → Happening → List (List ℕ)
taken_at is_theirs state (Took port count) =
    if is_theirs (find_port port state.ports)
    then (split longest_to_child (take count (owed_of port state))).bodies else []
taken_at is_theirs state other = []

-- the messages that their ports take at these events, from this state on
abbrev pub taken : (Option Port → Bool) → State → List Timed → List (List ℕ)
taken is_theirs state [] = []
taken is_theirs state (timed ∷ later) =
    taken_at is_theirs state timed.event ++ taken is_theirs (step state timed.moment timed.event).state later

-- the port isn't a client's
abbrev pub is_child_at : Option Port → Bool
is_child_at found = not (is_client_at found)

-- ---- what is counted

-- how many replies clients took: SUCCESS, FAILURE, IDENTITIES_ANSWER and SIGN_RESPONSE
pub record Tally : Type 0 where
  pub successes : ℕ
  pub failures : ℕ
  pub lists : ℕ
  pub signatures : ℕ

-- the body is a message of this number
abbrev pub has_number : ℕ → List ℕ → Bool
has_number number [] = false
has_number number (first ∷ bytes) = first == number

-- how many of these bodies there are of each
abbrev pub counts_of : List (List ℕ) → Tally
counts_of bodies = record {
  successes = count_by (has_number 6) bodies;
  failures = count_by (has_number 5) bodies;
  lists = count_by (has_number 12) bodies;
  signatures = count_by (has_number 14) bodies;
}

-- ---- what the helper is asked

-- the ask of a message to the helper, if it is one to sign
abbrev pub ask_of : Result ToChildMessage ChildFault → Option ℕ → Option ℕ
ask_of (Ok (Sign signing)) before = Some signing.ask
ask_of other before = before

-- the last ask to sign among these messages, or the one before them
abbrev pub last_ask : List (List ℕ) → Option ℕ → Option ℕ
last_ask [] before = before
last_ask (body ∷ bodies) before = last_ask bodies (ask_of (to_child_of body) before)

-- ---- a drill

-- a drill so far: its events, the ask that the helper hasn't answered, and the last number drawn
pub record Drilled : Type 0 where
  pub events : List Timed
  pub ask : Option ℕ
  pub number : ℕ

-- before the first line
abbrev pub start_drill : ℕ → Drilled
start_drill seed = record { events = []; ask = None; number = seed }

-- the agent after the events of a drill
abbrev pub agent_of : Drilled → State
agent_of drill = run (first_state no_settings) drill.events

-- the replies that clients took at the events of a drill
abbrev pub replies : Drilled → List (List ℕ)
replies drill = taken is_client_at (first_state no_settings) drill.events

-- ---- a line

-- a line's event comes, and the settling after it: what child processes take at them may be an ask
unfoldable pub lined : Moment → Happening → Drilled → Drilled
lined moment event drill =
    let events = comes moment [] (agent_of drill) event in
    record drill {
      events = drill.events ++ events;
      ask = last_ask (taken is_child_at (agent_of drill) events) drill.ask;
    }

-- the line `hear` with the frame of this body at the port, which does nothing where that one is closed
unfoldable pub heard : Moment → ℕ → List ℕ → Drilled → Drilled
heard moment port body drill =
    if is_some (find_port port (agent_of drill).ports) then lined moment (Heard port (string body)) drill else drill

-- ---- a round

-- the port of the helper, behind eight clients
abbrev pub helper_port : ℕ
helper_port = 9

-- the ticket of job 1
abbrev pub ticket : List ℕ
ticket = replicate 16 0

-- the lines that start the helper, let it join and say hello, where job 1 waits to be started
unfoldable pub helped : Moment → Drilled → Drilled
helped moment drill =
    if is_some (find_to_start 1 (starts (agent_of drill)))
    then heard moment helper_port (from_child_body (Hello 1 ticket))
    (lined moment (Joined Children) (lined moment (Started 1 ticket) drill))
    else drill

-- where the helper was asked, it signs with the bytes of the round
abbrev pub signed_by : Option ℕ → Moment → ℕ → Drilled → Drilled
signed_by None moment round drill = drill
signed_by (Some ask) moment round drill =
    heard moment helper_port (from_child_body (Signed ask (uint64 round))) (record drill { ask = None })

-- the line by which the helper signs, where it was asked
unfoldable pub signed : Moment → ℕ → Drilled → Drilled
signed moment round drill = signed_by drill.ask moment round drill

-- the request of three draws: a client, a key and a kind
abbrev pub drawn_asking : ℕ → Draws → Asking
drawn_asking round draws = asking_of draws.three draws.two round draws.number

-- the moment of a round: its second, by the clock that never falls
abbrev pub moment_of : ℕ → Moment
moment_of round = record { mono = round; wall = 0 }

-- the round of this number: the line of its moment, and then the request of three draws below 8, 64 and 8, and all that
-- comes of it
unfoldable pub round_of : ℕ → Drilled → Drilled
round_of round drill =
    let moment = moment_of round in
    let timed = lined moment Tick drill in
    let draws = draws_of 8 64 8 timed.number in
    let asking = drawn_asking round draws in
    signed moment round (helped moment
    (heard moment (1 + draws.one) asking.body (record timed { number = asking.number })))

-- so many clients join
abbrev pub joined : ℕ → Drilled → Drilled
joined zero drill = drill
joined (suc count) drill = lined (moment_of 0) (Joined Clients) (joined count drill)

-- the drill after so many rounds, of this seed
abbrev pub drilled : ℕ → ℕ → Drilled
drilled zero seed = joined 8 (start_drill seed)
drilled (suc round) seed = round_of (suc round) (drilled round seed)

-- ---- the summary

-- a word, and a number behind it
abbrev pub told : List ℕ → ℕ → List ℕ
told word number = word ++ decimal number

-- the line that sums up so many rounds of a seed, by what was counted and how many identities are held
unfoldable pub summary_of : ℕ → ℕ → Tally → ℕ → List ℕ
summary_of rounds seed counts held =
    told (codes "drill ") rounds ++ told (codes " ") seed ++ told (codes ": requests ") rounds
    ++ told (codes ", successes ") counts.successes ++ told (codes ", failures ") counts.failures
    ++ told (codes ", lists ") counts.lists ++ told (codes ", signatures ") counts.signatures
    ++ told (codes ", held ") held ++ codes "\n"

-- the line that sums up the drill of so many rounds from this seed
abbrev pub summary : ℕ → ℕ → List ℕ
summary rounds seed =
    let drill = drilled rounds seed in
    summary_of rounds seed (counts_of (replies drill)) (length (agent_of drill).held.table.identities)
