-- The run of a schedule: what it prints, `output_of`, and where it stops (ours: docs/PROTOCOL.md,
-- "Schedules"). The file is read from its end. A line is read by schedule_text's specs/Lines.antt, and
-- brings events, each of them one step of the abstract agent, agent_model's specs/Step.antt: its own, and
-- what ports take after it, specs/Settling.antt. A run is a fold over these events, and what is printed of
-- each is in specs/Told.antt.
use Rattle.std.specs.Prelude.{ℕ, suc, ◌+◌, ◌^◌, ◌==◌, ◌||◌, nat_lt, Bool, true, false, if◌then◌else◌, List, [], ◌∷◌, ◌++◌, length, Option, None, Some, Result, Ok, Err}
use Rattle.std.specs.List.{flat_map, list_any, slice_split}
use Rattle.world_ports.specs.declared.Moment.{Moment}
use Rattle.agent_model.specs.Events.{Happening, Timed, Joined, Heard, Ended, Took, StartFailed, Started as JobStarted, Tick}
use Rattle.agent_model.specs.Runs as runs
use Rattle.agent_model.specs.State.{State, Port, Settings, first_state, find_port, find_to_start, owed_of, starts}
use Rattle.schedule_text.specs.declared.fault.LineFault.{LineFault}
use Rattle.schedule_text.specs.declared.fault.LineFault.TheVariants.{Word, UnknownPort, Order, TooLong}
use Rattle.schedule_text.specs.declared.step.Step.{Step}
use Rattle.schedule_text.specs.declared.step.Step.TheVariants.{Skip, Format2, At, Join, Hear, End, Hold, Free, Take, Started, Failed}
use Rattle.schedule_text.specs.Deeds.{end_line}
use Rattle.schedule_text.specs.Lines.{step_of}
use Rattle.replay_run.specs.Formats.{is_second, settings_by}
use Rattle.replay_run.specs.Holding.{hold_port, free_port}
use Rattle.replay_run.specs.Settling.{closed_at, comes, takings}
use Rattle.replay_run.specs.Told.{Told, Barred, events_in, text_of, told_from}

-- a run so far: the settings that were chosen for it, the agent, the moment of the last `at` line, the ports that it closed where it is the line before, the held ports, how many lines were run, how many
-- bytes they had, and why the next one was refused; the refused line is counted, and its bytes are not
pub record Run : Type 0 where
  pub settings : Settings
  pub agent : State
  pub moment : Moment
  pub closed : List ℕ
  pub held : List ℕ
  pub line : ℕ
  pub read : ℕ
  pub refused : Option LineFault

-- the run before the first line, with these settings
abbrev pub start_run : Settings → Run
start_run settings = record {
  settings = settings;
  agent = first_state (settings_by false settings);
  moment = record { mono = 0; wall = 0 };
  closed = [];
  held = [];
  line = 0;
  read = 0;
  refused = None;
}

-- ---- what a line brings

-- the run that its events find, and these events; or why the line is refused
pub data Brought : Type 0 where
  Brings : (run : Run) → (events : List Timed) → Brought
  Refuses : (fault : LineFault) → Brought

-- nothing: the line is counted
abbrev pub skips : Run → Brought
skips run = Brings (record run { closed = [] }) []

-- the settling alone
abbrev pub settles : Run → Brought
settles run = Brings (record run { closed = [] }) (takings run.moment run.held run.agent)

-- an event, and the settling after it
abbrev pub happens : Happening → Run → Brought
happens event run = Brings (record run { closed = [] }) (comes run.moment run.held run.agent event)

-- what a line brings whose port is open, or whose job waits to be started; or why it is refused
abbrev pub if_found : {A : Type 0} → Option A → LineFault → Brought → Brought
if_found None fault brought = Refuses fault
if_found (Some found) fault brought = brought

-- a port that isn't open hears, ends and takes nothing: the line is refused, unless the moment of the line before
-- closed the port
abbrev pub at_peer : Option Port → ℕ → Brought → Run → Brought
at_peer None number brought run =
    if list_any (λ other. other == number) run.closed then skips run else Refuses UnknownPort
at_peer (Some port) number brought run = brought

-- by what the line asks for: `schedule 2` may stand in line 1 alone, where nothing was run yet; which ports a moment
-- closes is known to the next line; and a port takes no more than it is owed
abbrev pub step_brings : Step → Run → Brought
step_brings Skip run = skips run
step_brings Format2 run =
    if run.line == 0 then skips (record run { agent = first_state (settings_by true run.settings) }) else Refuses Word
step_brings (At moment) run =
    let now = record run { moment = moment; closed = closed_at moment run.agent Tick } in
    Brings now (comes moment run.held run.agent Tick)
step_brings (Join door) run = happens (Joined door) run
step_brings (Hear port bytes) run =
    at_peer (find_port port run.agent.ports) port (happens (Heard port bytes) run) run
step_brings (End port) run = at_peer (find_port port run.agent.ports) port (happens (Ended port) run) run
step_brings (Hold port) run =
    if_found (find_port port run.agent.ports) UnknownPort (settles (record run { held = hold_port port run.held }))
step_brings (Free port) run =
    if_found (find_port port run.agent.ports) UnknownPort (settles (record run { held = free_port port run.held }))
step_brings (Take port count) run =
    at_peer (find_port port run.agent.ports) port
    (if nat_lt (length (owed_of port run.agent)) count then Refuses Order else happens (Took port count) run) run
step_brings (Started job ticket) run =
    if_found (find_to_start job (starts run.agent)) Order (happens (JobStarted job ticket) run)
step_brings (Failed job) run = if_found (find_to_start job (starts run.agent)) Order (happens (StartFailed job) run)

-- ---- a line

-- the run after lines, and what is told of them
pub record Turned : Type 0 where
  pub run : Run
  pub told : List Told

-- the turning of a line from which nothing comes
abbrev pub unturned : Run → Turned
unturned run = record { run = run; told = [] }

-- a line is refused: the run ends with it
abbrev pub refuse : LineFault → Run → Turned
refuse fault run = record {
  run = record run { line = suc run.line; refused = Some fault };
  told = Barred (suc run.line) fault ∷ [];
}

-- a line of so many bytes, by what it brings
abbrev pub brought_turned : Brought → ℕ → Run → Turned
brought_turned (Brings found events) size run = record {
  run = record found {
    agent = runs.run found.agent events;
    line = suc run.line;
    read = run.read + size;
  };
  told = told_from (suc run.line) found.agent events;
}
brought_turned (Refuses fault) size run = refuse fault run

-- the most bytes of a line, without its LF
abbrev pub longest_line : ℕ
longest_line = 65536

-- the most bytes of a schedule
abbrev pub longest_schedule : ℕ
longest_schedule = 2 ^ 60

-- what a line asks for that ends with this byte of the schedule, counted from 1
abbrev pub step_at : ℕ → List ℕ → Result Step LineFault
step_at end line = if nat_lt longest_schedule end then Err TooLong else step_of line

-- what a line brings by what it asks for
abbrev pub line_brings : Result Step LineFault → Run → Brought
line_brings (Ok step) run = step_brings step run
line_brings (Err fault) run = Refuses fault

-- a run that was refused stays so
abbrev pub turned_by : Option LineFault → List ℕ → ℕ → Run → Turned
turned_by None line size run =
    brought_turned (line_brings (step_at (run.read + size) line) run) size run
turned_by (Some fault) line size run = unturned run

-- what a line brings that takes so many bytes of the schedule
unfoldable pub turned : List ℕ → ℕ → Run → Turned
turned line size run = turned_by run.refused line size run

-- a line with its LF
abbrev pub whole_turned : List ℕ → Run → Turned
whole_turned line run = turned line (length line + 1) run

-- a last line without LF counts where it isn't empty
abbrev pub last_turned : List ℕ → Run → Turned
last_turned [] run = unturned run
last_turned (byte ∷ bytes) run = turned (byte ∷ bytes) (length (byte ∷ bytes)) run

-- a line that begins with these bytes, the last of which is this byte of the schedule, is too long
-- however it goes on
abbrev pub is_too_long : ℕ → List ℕ → Bool
is_too_long end bytes = nat_lt longest_line (length bytes) || nat_lt longest_schedule end

-- the last part of a text, where the schedule ends there; where it goes on, the front of a line brings nothing but its
-- refusal
abbrev pub part_turned : Bool → List ℕ → Run → Turned
part_turned true bytes run = last_turned bytes run
part_turned false bytes run =
    if is_too_long (run.read + length bytes) bytes then turned bytes (length bytes) run else unturned run

-- `end` stands at the end of a schedule that wasn't refused
abbrev pub ending : Bool → Option LineFault → List ℕ
ending true None = end_line
ending ended refused = []

-- the parts of a text: its lines, and what stands after the last LF
abbrev pub parts_of : List ℕ → List (List ℕ)
parts_of text = slice_split (λ byte. byte == 10) text

-- ---- a schedule

-- lines, and then others
abbrev pub then_turned : Turned → Turned → Turned
then_turned first later = record { run = later.run; told = first.told ++ later.told }

-- the run of the parts of a text, from this run on
unfoldable pub course : Bool → Run → List (List ℕ) → Turned
course ended run [] = unturned run
course ended run (part ∷ []) = part_turned ended part run
course ended run (line ∷ next ∷ parts) =
    then_turned (whole_turned line run) (course ended (whole_turned line run).run (next ∷ parts))

-- the run after the parts of a text
abbrev pub ran : Bool → Run → List (List ℕ) → Run
ran ended run parts = (course ended run parts).run

-- what is printed of lines
abbrev pub output : Turned → List ℕ
output turned = flat_map text_of turned.told

-- what the parts of a text print, from this run on
unfoldable pub printed : Bool → Run → List (List ℕ) → List ℕ
printed ended run parts = output (course ended run parts) ++ ending ended (ran ended run parts).refused

-- the settings of a schedule
abbrev pub settings_of : Settings → List ℕ → Settings
settings_of chosen text = settings_by (is_second (parts_of text)) chosen

-- the run after a schedule, with the settings that were chosen for it
abbrev pub run_of : Settings → List ℕ → Run
run_of chosen text = ran true (start_run chosen) (parts_of text)

-- all events that it brings, the takings of each settling among them
abbrev pub events_of : Settings → List ℕ → List Timed
events_of chosen text = events_in (course true (start_run chosen) (parts_of text)).told

-- all that it prints
abbrev pub output_of : Settings → List ℕ → List ℕ
output_of chosen text = printed true (start_run chosen) (parts_of text)

-- what the whole lines of the front of a schedule print
abbrev pub output_so_far : Settings → List ℕ → List ℕ
output_so_far chosen text = printed false (start_run chosen) (parts_of text)
