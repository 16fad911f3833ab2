-- A line keeps what the numbers of a run say.
use Rattle.std.proofs.Common.{◌≡◌, ℕ, suc, ◌+◌, ◌<◌, ◌≤◌, List, length, refl, ap, sym, ◌∙◌, arith, Option, Some, None, Bool, true, false, nat_lt, ◌==◌, if◌then◌else◌, Result, Ok, Err}
use Rattle.std.proofs.lemmas.Bool.Decides.{nat_tests}
use Rattle.std.specs.List.{list_any}
use Rattle.world_ports.specs.declared.Moment.{Moment}
use Rattle.agent_model.specs.Events.{Happening, Joined, Heard, Ended, Took, Started, StartFailed, Tick}
use Rattle.agent_model.specs.Runs as runs
use Rattle.agent_model.specs.State.{State, Port, first_state, find_port, find_to_start, owed_of, starts}
use Rattle.agent_model.proofs.RunLemmas.{step-last_port, last_after}
use Rattle.schedule_text.specs.declared.fault.LineFault.{LineFault}
use Rattle.schedule_text.specs.declared.fault.LineFault.TheVariants.{Order, TooLong, UnknownPort, Word}
use Rattle.schedule_text.specs.declared.step.Step.{Step}
use Rattle.schedule_text.specs.declared.step.Step.TheVariants.{Skip, Format2, At, Join, Hear, End, Hold, Free, Take, Started as StartedStep, Failed}
use Rattle.schedule_text.specs.Lines.{step_of}
use Rattle.replay_run.specs.Holding.{free_port, hold_port}
use Rattle.replay_run.specs.Settling.{after_event, closed_at, comes, settled}
use Rattle.replay_run.specs.Formats.{settings_by}
use Rattle.replay_run.specs.Replay.{Brought, Brings, Refuses, Run, at_peer, brought_turned, happens, if_found, line_brings, longest_schedule, settles, skips, step_brings, turned, turned_by}
use Rattle.replay_run.specs.Counts.{IsCounted, IsNext}
use Rattle.replay_run.proofs.SettlingLemmas.{settled-last_port}

-- at most one more
last_after-most : (event : Happening) (last : ℕ) → last_after event last ≤ suc last
last_after-most (Joined door) last = omega arith
last_after-most (Heard port piece) last = omega arith
last_after-most (Ended port) last = omega arith
last_after-most (Took port count) last = omega arith
last_after-most (Started job ticket) last = omega arith
last_after-most (StartFailed job) last = omega arith
last_after-most Tick last = omega arith

-- ---- what a line brings

-- it lets at most one port join
abbrev IsSmall : Brought → Run → Type 0
IsSmall (Brings found events) run =
    (runs.run found.agent events).last_port ≤ suc run.agent.last_port
IsSmall (Refuses fault) run = Unit {0}

brought-next : (brought : Brought) (size : ℕ) (run : Run) → 0 < size
    → run.read + size ≤ longest_schedule → IsCounted run → IsSmall brought run
    → (brought_turned brought size run).run.refused ≡ None → IsNext run size (brought_turned brought size run).run
brought-next (Brings found events) size run some within counted small accepted = record {
  counted = record {
    accepted = accepted;
    ports = omega (arith, counted.ports, small);
    lines = omega (arith, counted.lines);
    within = within;
  };
  read = refl;
}
brought-next (Refuses fault) size run some within counted small accepted = absurd cc

-- a settling
small-settled : (moment : Moment) (held : List ℕ) (state : State) (most : ℕ)
    → state.last_port ≤ most → (settled moment held state).last_port ≤ most
small-settled moment held state most is = omega (arith, settled-last_port moment held state, is)

-- an event, and the settling after it
small-comes : (event : Happening) (run : Run)
    → (runs.run run.agent (comes run.moment run.held run.agent event)).last_port ≤ suc run.agent.last_port
small-comes event run =
    small-settled run.moment run.held (after_event run.moment run.agent event) (suc run.agent.last_port)
    (omega (arith, step-last_port run.agent run.moment event, last_after-most event run.agent.last_port))

small-found : {A : Type 0} (found : Option A) (fault : LineFault) (brought : Brought) (run : Run)
    → IsSmall brought run → IsSmall (if_found found fault brought) run
small-found None fault brought run is = tt
small-found (Some one) fault brought run is = is

small-if : (test : Bool) (one other : Brought) (run : Run) → IsSmall one run → IsSmall other run
    → IsSmall (if test then one else other) run
small-if true one other run is also = is
small-if false one other run is also = also

small-peer : (found : Option Port) (number : ℕ) (brought : Brought) (run : Run)
    → IsSmall brought run → IsSmall (at_peer found number brought run) run
small-peer None number brought run is =
    small-if (list_any (λ other. other == number) run.closed) (skips run) (Refuses UnknownPort) run (omega arith) tt
small-peer (Some port) number brought run is = is

small-step : (step : Step) (run : Run) → IsSmall (step_brings step run) run
small-step Skip run = omega arith
small-step Format2 run =
    small-if (run.line == 0) (skips (record run { agent = first_state (settings_by true run.settings) })) (Refuses Word) run (omega arith) tt
small-step (At moment) run =
    small-comes Tick (record run { moment = moment; closed = closed_at moment run.agent Tick })
small-step (Join door) run = small-comes (Joined door) run
small-step (Hear port bytes) run =
    small-peer (find_port port run.agent.ports) port (happens (Heard port bytes) run) run (small-comes (Heard port bytes) run)
small-step (End port) run =
    small-peer (find_port port run.agent.ports) port (happens (Ended port) run) run (small-comes (Ended port) run)
small-step (Hold port) run =
    small-found (find_port port run.agent.ports) UnknownPort (settles (record run { held = hold_port port run.held })) run
    (small-settled run.moment (hold_port port run.held) run.agent (suc run.agent.last_port) (omega arith))
small-step (Free port) run =
    small-found (find_port port run.agent.ports) UnknownPort (settles (record run { held = free_port port run.held })) run
    (small-settled run.moment (free_port port run.held) run.agent (suc run.agent.last_port) (omega arith))
small-step (Take port count) run =
    small-peer (find_port port run.agent.ports) port (if nat_lt (length (owed_of port run.agent)) count then Refuses Order else happens (Took port count) run) run
    (small-if (nat_lt (length (owed_of port run.agent)) count) (Refuses Order) (happens (Took port count) run) run tt (small-comes (Took port count) run))
small-step (StartedStep job ticket) run =
    small-found (find_to_start job (starts run.agent)) Order (happens (Started job ticket) run) run (small-comes (Started job ticket) run)
small-step (Failed job) run =
    small-found (find_to_start job (starts run.agent)) Order (happens (StartFailed job) run) run (small-comes (StartFailed job) run)

-- ---- a line

-- what a line asks for
line-next : (asked : Result Step LineFault) (size : ℕ) (run : Run) → 0 < size
    → run.read + size ≤ longest_schedule → IsCounted run
    → (brought_turned (line_brings asked run) size run).run.refused ≡ None
    → IsNext run size (brought_turned (line_brings asked run) size run).run
line-next (Ok step) size run some within counted accepted =
    brought-next (step_brings step run) size run some within counted (small-step step run) accepted
line-next (Err fault) size run some within counted accepted = absurd (cc)

-- by whether the schedule goes on too long
line_by-next : (line : List ℕ) (size : ℕ) (run : Run) (test : Bool)
    → nat_lt longest_schedule (run.read + size) ≡ test → 0 < size → IsCounted run
    → (brought_turned (line_brings (if test then Err TooLong else step_of line) run) size run).run.refused ≡ None
    → IsNext run size (brought_turned (line_brings (if test then Err TooLong else step_of line) run) size run).run
line_by-next line size run true is some counted accepted = absurd (cc)
line_by-next line size run false is some counted accepted =
    let within : run.read + size ≤ longest_schedule = grind (arith, nat_tests) in
    line-next (step_of line) size run some within counted accepted

-- a line that isn't refused
pub turned-next : (line : List ℕ) (size : ℕ) (run : Run) → 0 < size → IsCounted run
    → (turned line size run).run.refused ≡ None → IsNext run size (turned line size run).run
unfolding turned
turned-next line size run some counted accepted =
    let same = ap (λ (r : Option LineFault). (turned_by r line size run).run) counted.accepted in
    rw same (line_by-next line size run (nat_lt longest_schedule (run.read + size)) refl some counted
    (sym (ap (λ (r : Run). r.refused) same) ∙ accepted))
