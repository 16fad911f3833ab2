-- The run of a schedule is that of the events which it brings.
use Rattle.std.proofs.Common.{◌≡◌, ℕ, suc, ◌+◌, ◌≤◌, ◌==◌, ◌&&◌, nat_lt, if◌then◌else◌, Bool, true, false, List, [], ◌∷◌, ◌++◌, length, refl, ap, arith, sym, subst, ◌∙◌, Option, None, Some, Result, Ok, Err}
use Rattle.std.specs.List.{list_any}
use Rattle.agent_laws.specs.History.{HasNumbers, IsLawful}
use Rattle.agent_laws.proofs.HistoryLemmas.{first-lawful}
use Rattle.agent_model.specs.Events.{Timed, Heard, Ended, StartFailed, Started as JobStarted, Took}
use Rattle.agent_model.specs.Runs.{history, run}
use Rattle.agent_model.specs.State.{Port, Settings, State, find_port, find_to_start, first_state, owed_of, starts}
use Rattle.agent_model.specs.Step.{step}
use Rattle.schedule_text.specs.declared.fault.LineFault.{LineFault}
use Rattle.schedule_text.specs.declared.fault.LineFault.TheVariants.{Order, UnknownPort, Word}
use Rattle.schedule_text.specs.Lines.{step_of}
use Rattle.schedule_text.proofs.Theorems.{step_of-empty}
use Rattle.schedule_text.specs.declared.step.Step.{Step}
use Rattle.schedule_text.specs.declared.step.Step.TheVariants.{Skip, Format2, At, Join, Hear, End, Hold, Free, Take, Started, Failed}
use Rattle.replay_run.specs.Holding.{free_port, hold_port}
use Rattle.replay_run.specs.Formats.{is_second, names_format, settings_by}
use Rattle.replay_run.specs.Replay.{Brought, Brings, Refuses, Run, Turned, at_peer, brought_turned, course, events_of, happens, if_found, last_turned, line_brings, longest_schedule, parts_of, run_of, settings_of, settles, skips, start_run, step_at, step_brings, turned, turned_by, whole_turned}
use Rattle.replay_run.specs.Told.{Told, Barred, Came, events_in, told_from}
use Rattle.replay_run.proofs.FormatLemmas.{IsPlain, asked_is_short, begun-turned, names_the_format, plain_at, plain_later}
use Rattle.replay_run.proofs.RunLemmas.{turned-step}

-- ---- what is told

-- each event finds the state that those before it lead to, and all lead to the last one
abbrev pub IsCourse : State → List Told → State → Type 0
IsCourse state [] end = state ≡ end
IsCourse state (Came line before timed ∷ later) end =
    (state ≡ before) × IsCourse (step before timed.moment timed.event).state later end
IsCourse state (Barred line fault ∷ later) end = IsCourse state later end

course-then : (start : State) (some more : List Told) (mid end : State) → IsCourse start some mid
    → IsCourse mid more end → IsCourse start (some ++ more) end
course-then start [] more mid end first later =
    subst (λ (s : State). IsCourse s more end) (sym first) later
course-then start (Came line before timed ∷ some) more mid end first later =
    (first.0, course-then (step before timed.moment timed.event).state some more mid end first.1 later)
course-then start (Barred line fault ∷ some) more mid end first later =
    course-then start some more mid end first later

-- they are its events
course-run : (state : State) (told : List Told) (end : State) → IsCourse state told end
    → run state (events_in told) ≡ end
course-run state [] end is = is
course-run state (Came line before timed ∷ later) end is =
    ap (λ (s : State). run (step s timed.moment timed.event).state (events_in later)) is.0
    ∙ course-run (step before timed.moment timed.event).state later end is.1
course-run state (Barred line fault ∷ later) end is = course-run state later end is

told-course : (line : ℕ) (state : State) (events : List Timed)
    → IsCourse state (told_from line state events) (run state events)
told-course line state [] = refl
told-course line state (timed ∷ later) =
    (refl, told-course line (step state timed.moment timed.event).state later)

-- ---- a line

-- what it leaves is what its events lead to
abbrev IsLed : Turned → State → Type 0
IsLed turned before = IsCourse before turned.told turned.run.agent

-- its events find the agent as it was
abbrev FindsAgent : Brought → Run → Type 0
FindsAgent (Brings found events) before = before.agent ≡ found.agent
FindsAgent (Refuses fault) before = Unit {0}

led-brought : (brought : Brought) (size : ℕ) (before : Run) → FindsAgent brought before
    → IsLed (brought_turned brought size before) before.agent
led-brought (Brings found events) size before same =
    subst (λ (s : State). IsCourse s (told_from (suc before.line) found.agent events) (run found.agent events)) (sym same)
    (told-course (suc before.line) found.agent events)
led-brought (Refuses fault) size before same = refl

finds-found : {A : Type 0} (found : Option A) (fault : LineFault) (brought : Brought) (before : Run)
    → FindsAgent brought before → FindsAgent (if_found found fault brought) before
finds-found None fault brought before is = tt
finds-found (Some one) fault brought before is = is

finds-if : (test : Bool) (one other : Brought) (before : Run) → FindsAgent one before
    → FindsAgent other before → FindsAgent (if test then one else other) before
finds-if true one other before is also = is
finds-if false one other before is also = also

finds-peer : (found : Option Port) (number : ℕ) (brought : Brought) (before : Run)
    → FindsAgent brought before → FindsAgent (at_peer found number brought before) before
finds-peer None number brought before is =
    finds-if (list_any (λ other. other == number) before.closed) (skips before) (Refuses UnknownPort) before refl tt
finds-peer (Some port) number brought before is = is

finds-later : (first : Bool) (begun : Brought) (before : Run) → first ≡ false
    → FindsAgent (if first then begun else Refuses Word) before
finds-later true begun before later = absurd cc
finds-later false begun before later = tt

finds-step : (step : Step) (before : Run) → (names_format (Ok step) && (before.line == 0)) ≡ false
    → FindsAgent (step_brings step before) before
finds-step Skip before plain = refl
finds-step Format2 before plain = finds-later (before.line == 0) _ before plain
finds-step (At moment) before plain = refl
finds-step (Join door) before plain = refl
finds-step (Hear port bytes) before plain = finds-peer (find_port port before.agent.ports) port (happens (Heard port bytes) before) before refl
finds-step (End port) before plain =
    finds-peer (find_port port before.agent.ports) port (happens (Ended port) before) before refl
finds-step (Hold port) before plain = finds-found (find_port port before.agent.ports) UnknownPort (settles (record before { held = hold_port port before.held })) before refl
finds-step (Free port) before plain = finds-found (find_port port before.agent.ports) UnknownPort (settles (record before { held = free_port port before.held })) before refl
finds-step (Take port count) before plain =
    finds-peer (find_port port before.agent.ports) port (if nat_lt (length (owed_of port before.agent)) count then Refuses Order else happens (Took port count) before) before
    (finds-if (nat_lt (length (owed_of port before.agent)) count) (Refuses Order) (happens (Took port count) before) before tt refl)
finds-step (Started job ticket) before plain = finds-found (find_to_start job (starts before.agent)) Order (happens (JobStarted job ticket) before) before refl
finds-step (Failed job) before plain = finds-found (find_to_start job (starts before.agent)) Order (happens (StartFailed job) before) before refl

finds-line : (read : Result Step LineFault) (before : Run)
    → (names_format read && (before.line == 0)) ≡ false
    → FindsAgent (line_brings read before) before
finds-line (Ok step) before plain = finds-step step before plain
finds-line (Err fault) before plain = tt

led-by : (refused : Option LineFault) (line : List ℕ) (size : ℕ) (before : Run)
    → before.refused ≡ refused → IsPlain line before
    → IsLed (turned_by refused line size before) before.agent
led-by None line size before is plain =
    led-brought (line_brings (step_at (before.read + size) line) before) size before
    (finds-line (step_at (before.read + size) line) before (plain_at (nat_lt longest_schedule (before.read + size)) line (before.line == 0) (plain is)))
led-by (Some fault) line size before is plain = refl

led-turned : (line : List ℕ) (size : ℕ) (before : Run) → IsPlain line before
    → IsLed (turned line size before) before.agent
unfolding turned
led-turned line size before plain = led-by before.refused line size before refl plain

led-last : (part : List ℕ) (before : Run) → IsPlain part before
    → IsLed (last_turned part before) before.agent
led-last [] before plain = refl
led-last (byte ∷ bytes) before plain =
    led-turned (byte ∷ bytes) (length (byte ∷ bytes)) before plain

-- ---- a schedule

-- the first of these lines begins no schedule of format 2
abbrev BeginPlain : List (List ℕ) → Run → Type 0
BeginPlain [] run = Unit {0}
BeginPlain (line ∷ lines) run = IsPlain line run

-- a whole line, and the parts behind it
led-whole : (start : State) (line next : List ℕ) (parts : List (List ℕ)) (before : Run)
    → IsLed (whole_turned line before) start
    → IsLed (course true (whole_turned line before).run (next ∷ parts)) (whole_turned line before).run.agent
    → IsLed (course true before (line ∷ next ∷ parts)) start
unfolding course
led-whole start line next parts before first rest =
    let mid = whole_turned line before in
    let later = course true mid.run (next ∷ parts) in
    course-then start mid.told later.told mid.run.agent later.run.agent first rest

behind-plain : (line next : List ℕ) (before : Run) → IsPlain next (whole_turned line before).run
behind-plain line next before =
    plain_later next (whole_turned line before).run (begun-turned line (length line + 1) before)

led-parts : (before : Run) (parts : List (List ℕ)) → BeginPlain parts before
    → IsLed (course true before parts) before.agent
unfolding course
led-parts before [] plain = refl
led-parts before (part ∷ []) plain = led-last part before plain
led-parts before (line ∷ next ∷ parts) plain =
    led-whole before.agent line next parts before (led-turned line (length line + 1) before plain)
    (led-parts (whole_turned line before).run (next ∷ parts) (behind-plain line next before))

-- line 1 of a schedule of format 2 leaves the agent with limits, and brings nothing
led-second : (settings : Settings) (line : List ℕ) (size : ℕ) → step_of line ≡ Ok Format2
    → size ≤ length line + 1
    → IsLed (turned line size (start_run settings)) (first_state (settings_by true settings))
led-second settings line size asked most =
    let short = asked_is_short line Format2 asked in
    let within : (start_run settings).read + size ≤ longest_schedule = omega arith in
    subst (λ (t : Turned). IsLed t (first_state (settings_by true settings))) (sym (turned-step line size (start_run settings) Format2 refl within asked)) refl

led-format : (settings : Settings) (line : List ℕ) (parts : List (List ℕ)) → step_of line ≡ Ok Format2
    → IsLed (course true (start_run settings) (line ∷ parts)) (first_state (settings_by true settings))
unfolding course
led-format settings [] [] asked = let no : Ok Skip ≡ Ok Format2 = sym step_of-empty ∙ asked in absurd cc
led-format settings (byte ∷ bytes) [] asked =
    led-second settings (byte ∷ bytes) (length (byte ∷ bytes)) asked (omega arith)
led-format settings line (next ∷ parts) asked =
    led-whole (first_state (settings_by true settings)) line next parts (start_run settings) (led-second settings line (length line + 1) asked (omega arith))
    (led-parts (whole_turned line (start_run settings)).run (next ∷ parts) (behind-plain line next (start_run settings)))

-- by whether line 1 names format 2
led-begun : (settings : Settings) (parts : List (List ℕ))
    → IsLed (course true (start_run settings) parts) (first_state (settings_by (is_second parts) settings))
unfolding course
led-begun settings [] = refl
led-begun settings (line ∷ parts) = by_test (names_format (step_of line)) refl
  where
    by_test : (second : Bool) → names_format (step_of line) ≡ second
        → IsLed (course true (start_run settings) (line ∷ parts)) (first_state (settings_by second settings))
    by_test true is = led-format settings line parts (names_the_format (step_of line) is)
    by_test false is =
        led-parts (start_run settings) (line ∷ parts) (λ accepted. ap (λ test. test && true) is)

-- what is told of a schedule are the events of its run
pub schedule-course : (settings : Settings) (text : List ℕ)
    → IsCourse (first_state (settings_of settings text)) (course true (start_run settings) (parts_of text)).told (run_of settings text).agent
schedule-course settings text = led-begun settings (parts_of text)

pub run-schedule : (settings : Settings) (text : List ℕ)
    → (run_of settings text).agent ≡ run (first_state (settings_of settings text)) (events_of settings text)
run-schedule settings text = sym (course-run (first_state (settings_of settings text)) (course true (start_run settings) (parts_of text)).told (run_of settings text).agent (schedule-course settings text))

-- the format leaves the lifetime as it was chosen
same-life : (second : Bool) (settings : Settings) → (settings_by second settings).life ≡ settings.life
same-life true settings = refl
same-life false settings = refl

pub schedule-lawful : (settings : Settings) (text : List ℕ) → HasNumbers (run_of settings text).agent
    → IsLawful settings.life [] (history (first_state (settings_of settings text)) (events_of settings text))
schedule-lawful settings text numbers =
    subst (λ (life : Option ℕ). IsLawful life [] (history (first_state (settings_of settings text)) (events_of settings text)))
    (same-life (is_second (parts_of text)) settings)
    (first-lawful (settings_of settings text) (events_of settings text) (subst HasNumbers (run-schedule settings text) numbers))
