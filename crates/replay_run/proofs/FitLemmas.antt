-- The events of a schedule may come, each in the state that it finds.
use Rattle.std.proofs.Common.{◌≡◌, ℕ, zero, suc, ◌+◌, ◌-◌, ◌^◌, ◌<◌, ◌≤◌, ◌==◌, nat_lt, if◌then◌else◌, Bool, true, false, List, [], ◌∷◌, ◌++◌, length, refl, arith, sym, subst, Option, None, Some, IsSome, Result, Ok, Err}
use Rattle.std.specs.List.{list_any}
use Rattle.std.proofs.lemmas.Bool.Decides.{nat_tests}
use Rattle.world_ports.specs.declared.Moment.{Moment}
use Rattle.agent_model.specs.Events.{Happening, Timed, Joined, Heard, Ended, StartFailed, Started as JobStarted, Tick, Took}
use Rattle.agent_model.specs.Runs.{AllFit, run}
use Rattle.agent_model.specs.Sound.{IsSteady}
use Rattle.agent_model.specs.State.{Fits, Port, Settings, State, find_port, find_to_start, first_state, owed_of, starts}
use Rattle.agent_model.specs.Step.{step}
use Rattle.agent_model.proofs.BudgetLemmas.{step_keeps-steady}
use Rattle.schedule_text.specs.declared.fault.LineFault.{LineFault}
use Rattle.schedule_text.specs.declared.fault.LineFault.TheVariants.{Order, TooLong, UnknownPort, Word}
use Rattle.schedule_text.specs.Lines.{step_of}
use Rattle.schedule_text.specs.Steps.{SaysSome}
use Rattle.schedule_text.proofs.Theorems.{step_says_some}
use Rattle.schedule_text.specs.declared.step.Step.{Step}
use Rattle.schedule_text.specs.declared.step.Step.TheVariants.{Skip, Format2, At, Join, Hear, End, Hold, Free, Take, Started, Failed}
use Rattle.replay_run.specs.Counts.{IsCounted}
use Rattle.replay_run.specs.Formats.{settings_by}
use Rattle.replay_run.specs.Holding.{free_port, hold_port}
use Rattle.replay_run.specs.Replay.{Brought, Brings, Refuses, Run, Turned, at_peer, brought_turned, course, events_of, happens, if_found, last_turned, line_brings, longest_schedule, parts_of, run_of, settings_of, settles, skips, start_run, step_at, step_brings, turned, turned_by, whole_turned}
use Rattle.replay_run.specs.Settling.{after_event, comes, delivered, next_to_take, takings, takings_by, takings_from}
use Rattle.replay_run.specs.Told.{Told, Barred, Came, events_in, told_from}
use Rattle.replay_run.proofs.BroughtLemmas.{IsCourse, schedule-course}
use Rattle.replay_run.proofs.RunCounts.{turned-next}
use Rattle.replay_run.proofs.SettlingLemmas.{delivered-steady, owed_some}

-- ---- what is told

-- each event may come in the state that it finds
abbrev AllToldFit : List Told → Type 0
AllToldFit [] = Unit {0}
AllToldFit (Came line before timed ∷ later) = Fits timed.event before × AllToldFit later
AllToldFit (Barred line fault ∷ later) = AllToldFit later

fit-then : (some more : List Told) → AllToldFit some → AllToldFit more → AllToldFit (some ++ more)
fit-then [] more first later = later
fit-then (Came line before timed ∷ some) more first later =
    (first.0, fit-then some more first.1 later)
fit-then (Barred line fault ∷ some) more first later = fit-then some more first later

-- and so may the events of a course, one after another
course-fits : (state : State) (told : List Told) (end : State) → IsCourse state told end
    → AllToldFit told → AllFit state (events_in told)
course-fits state [] end is fit = tt
course-fits state (Came line before timed ∷ later) end is fit =
    subst (λ (s : State). AllFit s (timed ∷ events_in later)) (sym is.0)
    (fit.0, course-fits (step before timed.moment timed.event).state later end is.1 fit.1)
course-fits state (Barred line fault ∷ later) end is fit = course-fits state later end is fit

told-fit : (line : ℕ) (state : State) (events : List Timed) → AllFit state events
    → AllToldFit (told_from line state events)
told-fit line state [] fit = tt
told-fit line state (timed ∷ later) fit =
    (fit.0, told-fit line (step state timed.moment timed.event).state later fit.1)

-- ---- an event, and the settling after it

pub run-steady : (state : State) (events : List Timed) → IsSteady state → IsSteady (run state events)
run-steady state [] steady = steady
run-steady state (timed ∷ later) steady =
    run-steady (step state timed.moment timed.event).state later (step_keeps-steady state timed.moment timed.event steady)

-- the next port takes all that it is owed, which is something
taking-fits : (moment : Moment) (held : List ℕ) (fuel : ℕ) (state : State) (found : Option ℕ)
    → IsSteady state → next_to_take held state ≡ found
    → ((after : State) → IsSteady after → AllFit after (takings_by moment held fuel after))
    → AllFit state (takings_from moment (takings_by moment held fuel) state found)
taking-fits moment held fuel state None steady next later = tt
taking-fits moment held fuel state (Some port) steady next later =
    let some : 0 < length (owed_of port state) = owed_some held port state steady next in
    let all : length (owed_of port state) ≤ length (owed_of port state) = omega arith in
    ((some, all), later (delivered moment port state) (delivered-steady moment port state steady))

takings-fit : (moment : Moment) (held : List ℕ) (fuel : ℕ) (state : State) → IsSteady state
    → AllFit state (takings_by moment held fuel state)
takings-fit moment held zero state steady = tt
takings-fit moment held (suc fuel) state steady =
    taking-fits moment held fuel state (next_to_take held state) steady refl (takings-fit moment held fuel)

settling-fits : (moment : Moment) (held : List ℕ) (state : State) → IsSteady state
    → AllFit state (takings moment held state)
unfolding takings
settling-fits moment held state steady = takings-fit moment held _ state steady

pub comes-fit : (moment : Moment) (held : List ℕ) (event : Happening) (state : State) → IsSteady state
    → Fits event state → AllFit state (comes moment held state event)
comes-fit moment held event state steady fits =
    (fits, settling-fits moment held (after_event moment state event) (step_keeps-steady state moment event steady))

-- ---- a line

-- the events that are brought may come in the run that they find
abbrev IsFit : Brought → Type 0
IsFit (Brings found events) = IsSteady found.agent × AllFit found.agent events
IsFit (Refuses fault) = Unit {0}

pub first-steady : (settings : Settings) → IsSteady (first_state settings)
first-steady settings = record { rising = omega arith; order = omega arith }

fit-if : (test : Bool) (one other : Brought) → IsFit one → IsFit other
    → IsFit (if test then one else other)
fit-if true one other is also = is
fit-if false one other is also = also

fit-peer : (found : Option Port) (number : ℕ) (brought : Brought) (before : Run)
    → IsSteady before.agent → (IsSome found → IsFit brought)
    → IsFit (at_peer found number brought before)
fit-peer None number brought before steady is =
    fit-if (list_any (λ other. other == number) before.closed) (skips before) (Refuses UnknownPort) (steady, tt) tt
fit-peer (Some port) number brought before steady is = is refl

fit-found : {A : Type 0} (found : Option A) (fault : LineFault) (brought : Brought) → (IsSome found → IsFit brought)
    → IsFit (if_found found fault brought)
fit-found None fault brought is = tt
fit-found (Some one) fault brought is = is refl

module _ (before : Run) (steady : IsSteady before.agent) where
  happens-fit : (event : Happening) → Fits event before.agent → IsFit (happens event before)
  happens-fit event fits = (steady, comes-fit before.moment before.held event before.agent steady fits)

  settles-fit : (held : List ℕ) → IsFit (settles (record before { held = held }))
  settles-fit held = (steady, settling-fits before.moment held before.agent steady)

  take-fits : (port count : ℕ) (over : Bool) → 0 < count
      → nat_lt (length (owed_of port before.agent)) count ≡ over
      → IsFit (if over then Refuses Order else happens (Took port count) before)
  take-fits port count true some is = tt
  take-fits port count false some is =
      let most : count ≤ length (owed_of port before.agent) = grind (arith, nat_tests) in
      happens-fit (Took port count) (some, most)

  step-fits : (step : Step) → before.agent.last_port < 2 ^ 64 - 1 → SaysSome step
      → IsFit (step_brings step before)
  step-fits Skip last some = (steady, tt)
  step-fits Format2 last some =
      fit-if (before.line == 0) (skips (record before { agent = first_state (settings_by true before.settings) })) (Refuses Word)
      (first-steady (settings_by true before.settings), tt) tt
  step-fits (At moment) last some =
      (steady, comes-fit moment before.held Tick before.agent steady tt)
  step-fits (Join door) last some = happens-fit (Joined door) last
  step-fits (Hear port bytes) last some =
      fit-peer (find_port port before.agent.ports) port (happens (Heard port bytes) before) before steady (λ there. happens-fit (Heard port bytes) (there, some))
  step-fits (End port) last some =
      fit-peer (find_port port before.agent.ports) port (happens (Ended port) before) before steady (happens-fit (Ended port))
  step-fits (Hold port) last some =
      fit-found (find_port port before.agent.ports) UnknownPort (settles (record before { held = hold_port port before.held })) (λ there. settles-fit (hold_port port before.held))
  step-fits (Free port) last some =
      fit-found (find_port port before.agent.ports) UnknownPort (settles (record before { held = free_port port before.held })) (λ there. settles-fit (free_port port before.held))
  step-fits (Take port count) last some =
      fit-peer (find_port port before.agent.ports) port (if nat_lt (length (owed_of port before.agent)) count then Refuses Order else happens (Took port count) before) before steady
      (λ there. take-fits port count (nat_lt (length (owed_of port before.agent)) count) some refl)
  step-fits (Started job ticket) last some =
      fit-found (find_to_start job (starts before.agent)) Order (happens (JobStarted job ticket) before) (happens-fit (JobStarted job ticket))
  step-fits (Failed job) last some =
      fit-found (find_to_start job (starts before.agent)) Order (happens (StartFailed job) before) (happens-fit (StartFailed job))

-- what a line leaves may be gone on from, and its events may come
record Fitting (turned : Turned) : Type 0 where
  told : AllToldFit turned.told
  steady : IsSteady turned.run.agent

brought-fits : (brought : Brought) (size : ℕ) (before : Run) → IsSteady before.agent → IsFit brought
    → Fitting (brought_turned brought size before)
brought-fits (Brings found events) size before steady fit = record {
  told = told-fit (suc before.line) found.agent events fit.1;
  steady = run-steady found.agent events fit.0;
}
brought-fits (Refuses fault) size before steady fit = record { told = tt; steady = steady }

-- where lines were run, few ports joined
few-ports : (before : Run) → IsCounted before → before.agent.last_port < 2 ^ 64 - 1
few-ports before counted = omega (arith, counted.ports, counted.lines, counted.within)

read-fits : (line : List ℕ) (read : Result Step LineFault) (before : Run) → IsSteady before.agent
    → IsCounted before → step_of line ≡ read → IsFit (line_brings read before)
read-fits line (Ok step) before steady counted is =
    step-fits before steady step (few-ports before counted) (step_says_some line step is)
read-fits line (Err fault) before steady counted is = tt

at-fits : (line : List ℕ) (late : Bool) (before : Run) → IsSteady before.agent → IsCounted before
    → IsFit (line_brings (if late then Err TooLong else step_of line) before)
at-fits line true before steady counted = tt
at-fits line false before steady counted =
    read-fits line (step_of line) before steady counted refl

by-fits : (refused : Option LineFault) (line : List ℕ) (size : ℕ) (before : Run)
    → IsSteady before.agent → before.refused ≡ refused → (before.refused ≡ None → IsCounted before)
    → Fitting (turned_by refused line size before)
by-fits None line size before steady is counted =
    brought-fits (line_brings (step_at (before.read + size) line) before) size before steady
    (at-fits line (nat_lt longest_schedule (before.read + size)) before steady (counted is))
by-fits (Some fault) line size before steady is counted = record { told = tt; steady = steady }

turned-fits : (line : List ℕ) (size : ℕ) (before : Run) → IsSteady before.agent
    → (before.refused ≡ None → IsCounted before) → Fitting (turned line size before)
unfolding turned
turned-fits line size before steady counted =
    by-fits before.refused line size before steady refl counted

-- a line behind which the run goes on was run in one that did
went-on : (refused : Option LineFault) (line : List ℕ) (size : ℕ) (before : Run)
    → before.refused ≡ refused → (turned_by refused line size before).run.refused ≡ None
    → before.refused ≡ None
went-on None line size before is accepted = is
went-on (Some fault) line size before is accepted = accepted

was-accepted : (line : List ℕ) (size : ℕ) (before : Run)
    → (turned line size before).run.refused ≡ None → before.refused ≡ None
unfolding turned
was-accepted line size before accepted = went-on before.refused line size before refl accepted

counted-then : (line : List ℕ) (size : ℕ) (before : Run) → 0 < size
    → (before.refused ≡ None → IsCounted before)
    → (turned line size before).run.refused ≡ None → IsCounted (turned line size before).run
counted-then line size before some counted accepted =
    (turned-next line size before some (counted (was-accepted line size before accepted)) accepted).counted

-- ---- a schedule

last-fits : (part : List ℕ) (before : Run) → IsSteady before.agent
    → (before.refused ≡ None → IsCounted before) → AllToldFit (last_turned part before).told
last-fits [] before steady counted = tt
last-fits (byte ∷ bytes) before steady counted =
    (turned-fits (byte ∷ bytes) (length (byte ∷ bytes)) before steady counted).told

parts-fit : (before : Run) (parts : List (List ℕ)) → IsSteady before.agent
    → (before.refused ≡ None → IsCounted before) → AllToldFit (course true before parts).told
unfolding course
parts-fit before [] steady counted = tt
parts-fit before (part ∷ []) steady counted = last-fits part before steady counted
parts-fit before (line ∷ next ∷ parts) steady counted =
    let first = turned-fits line (length line + 1) before steady counted in
    fit-then (whole_turned line before).told (course true (whole_turned line before).run (next ∷ parts)).told first.told
    (parts-fit (whole_turned line before).run (next ∷ parts) first.steady (counted-then line (length line + 1) before (omega arith) counted))

-- whatever a schedule says
pub schedule-fits : (settings : Settings) (text : List ℕ)
    → AllFit (first_state (settings_of settings text)) (events_of settings text)
schedule-fits settings text =
    course-fits (first_state (settings_of settings text)) (course true (start_run settings) (parts_of text)).told (run_of settings text).agent (schedule-course settings text)
    (parts-fit (start_run settings) (parts_of text) (first-steady (settings_by false settings))
    (λ accepted. record { accepted = refl; ports = omega arith; lines = omega arith; within = omega arith }))
