-- The calls of a loop lead to the state of the events that they bring, and these may come, have the numbers of their types,
-- and keep the law of history.
use Rattle.std.proofs.Common.{◌≡◌, ◌∙◌, ℕ, List, [], ◌∷◌, ◌++◌, ap, refl, subst, sym, Option, Some, None, IfSome, Bool, true, false, Result, Ok, Err, ◌&&◌, if◌then◌else◌, option_and_then, option_map}
use Rattle.std.specs.Option.{option_map_or}
use Rattle.std.specs.Str.{bytes_eq}
use Rattle.world_ports.specs.declared.answers.WorldFault.{WorldFault}
use Rattle.world_ports.specs.declared.entry.Entry.{Entry}
use Rattle.world_ports.specs.declared.entry.Entry.TheVariants as entry
use Rattle.world_ports.specs.declared.events.Door.{Door}
use Rattle.world_ports.specs.declared.events.Door.TheVariants.{Clients, Children}
use Rattle.agent_model.specs.Events.{Happening, Timed, Joined, Heard, Ended, Took, Started, StartFailed, Tick}
use Rattle.agent_model.specs.Runs.{AllFit, AreInRange, IsInRange, run}
use Rattle.agent_model.specs.State.{Settings, State, first_state}
use Rattle.agent_secrecy.specs.Pieces.{AreOfBytes, IsOfBytes}
use Rattle.loop_model.specs.Dues.{Free}
use Rattle.loop_model.specs.Fitting.{AreOfOneRead, AreTyped, journal_events}
use Rattle.loop_model.specs.LegalJournal.{LoopState, after_entries, after_if, after_if_legal, comes_next, events_brought, in_state}
use Rattle.loop_model.specs.Lines.{empty_line}
use Rattle.loop_model.specs.Things.{same_door}
use Rattle.loop_model.proofs.FittingLemmas.{journal-fits, journal-range, journal-read}
use Rattle.loop_model.proofs.JournalLemmas.{leads}
use Rattle.ready_loop.specs.Serving.{Setting, Stage, Unbound, Running, Refused, after_bind, begun, bound, gone_on, may_come, ran}
use Rattle.agent_top.specs.ServeLaw.{AreAdded, ServesLawfully, agent_at, call_events, calls_events}
use Rattle.agent_top.proofs.LawfulRunLemmas.{lawful_run}
use Rattle.agent_top.proofs.ServeFairLemmas.{then_some, turns}
use Rattle.replay_run.proofs.DrillLemmas.{run-append}

-- ---- which stage leads where

-- a stage leads to this state
abbrev LeadsTo : Setting → State → Option Stage → Type 0
LeadsTo setting state found = IfSome found (λ (stage : Stage). agent_at setting stage ≡ state)

turn-leads : (setting : Setting) (may : Bool) (reading : LoopState) (next : Entry)
    → LeadsTo setting (run reading.state (events_brought reading.due next)) (option_map Running (after_if may reading next))
turn-leads setting true reading next = refl
turn-leads setting false reading next = tt

running-leads : (setting : Setting) (may : Bool) (reading : LoopState) (next : Entry)
    → LeadsTo setting (run reading.state (events_brought reading.due next)) (if may then option_map Running (after_if_legal reading next) else None)
running-leads setting true reading next = turn-leads setting (comes_next reading next) reading next
running-leads setting false reading next = tt

bind-leads : (setting : Setting) (stage : Stage) (test : Bool) (answer : Result Unit WorldFault)
    → agent_at setting stage ≡ setting.state
    → LeadsTo setting setting.state (if test then Some (after_bind answer stage) else None)
bind-leads setting stage true (Ok unit) is = is
bind-leads setting stage true (Err fault) is = refl
bind-leads setting stage false answer is = tt

bound-leads : (setting : Setting) (path : List ℕ) (stage : Stage) (next : Entry)
    → agent_at setting stage ≡ setting.state
    → LeadsTo setting setting.state (bound path stage next)
bound-leads setting path stage (entry.Bind Clients at answer) is = bind-leads setting stage (bytes_eq at path) answer is
bound-leads setting path stage (entry.Bind Children at answer) is = tt
bound-leads setting path stage (entry.Poll wait items answer) is = tt
bound-leads setting path stage (entry.Accept other answer) is = tt
bound-leads setting path stage (entry.Read port room bytes answer) is = tt
bound-leads setting path stage (entry.Write port offered answer) is = tt
bound-leads setting path stage (entry.Close port answer) is = tt
bound-leads setting path stage (entry.Start job answer) is = tt
bound-leads setting path stage (entry.Now answer) is = tt

stage-leads : (setting : Setting) (stage : Stage) (next : Entry)
    → LeadsTo setting (run (agent_at setting stage) (call_events stage next)) (gone_on setting stage next)
stage-leads setting Unbound next = bound-leads setting setting.path (begun setting) next refl
stage-leads setting (Running reading) next =
    running-leads setting (may_come setting.until_idle reading next) reading next
stage-leads setting Refused next = tt

-- ---- all calls

same_stage : {one other : Stage} → Some one ≡ Some other → other ≡ one
same_stage same = cc

none_legal : {to : Stage} → None ≡ Some to → ⊥
none_legal none = cc

runs-on : (setting : Setting) (stage to : Stage) (found : Option Stage) (events : List Timed) (later : List Entry)
    → LeadsTo setting (run (agent_at setting stage) events) found
    → option_and_then (λ after. ran setting after later) found ≡ Some to
    → ((after : Stage) → ran setting after later ≡ Some to → agent_at setting to ≡ run (agent_at setting after) (calls_events setting after later))
    → agent_at setting to ≡ run (agent_at setting stage) (events ++ option_map_or (λ after. calls_events setting after later) found [])
runs-on setting stage to None events later leads legal runs = absurd (none_legal legal)
runs-on setting stage to (Some after) events later leads legal runs =
    runs after legal
    ∙ ap (λ (state : State). run state (calls_events setting after later)) leads
    ∙ sym (run-append (agent_at setting stage) events (calls_events setting after later))

calls-run : (setting : Setting) (stage to : Stage) (calls : List Entry)
    → ran setting stage calls ≡ Some to
    → agent_at setting to ≡ run (agent_at setting stage) (calls_events setting stage calls)
calls-run setting stage to [] legal = ap (agent_at setting) (same_stage legal)
calls-run setting stage to (next ∷ later) legal =
    runs-on setting stage to (gone_on setting stage next) (call_events stage next) later (stage-leads setting stage next) legal
    (λ after rest. calls-run setting after to later rest)

-- ---- what they bring is what a journal of the loop brings

-- the calls of a loop that runs
record IsJournal (setting : Setting) (reading : LoopState) (calls : List Entry) : Type 0 where
  after : LoopState
  legal : after_entries reading calls ≡ Some after
  same : journal_events reading calls ≡ calls_events setting (Running reading) calls

journal-calls : (setting : Setting) (reading : LoopState) (to : Stage) (calls : List Entry)
    → ran setting (Running reading) calls ≡ Some to → IsJournal setting reading calls
journal-calls setting reading to [] legal = record { after = reading; legal = refl; same = refl }
journal-calls setting reading to (next ∷ later) legal =
    let step = then_some (λ (after : Stage). ran setting after later) (gone_on setting (Running reading) next) to legal in
    let one = turns setting reading next step.0 step.1 in
    let rest = journal-calls setting one.0 to later (subst (λ (at : Stage). ran setting at later ≡ Some to) (sym one.2) step.2) in
    let brings = events_brought reading.due next in
    record {
      after = rest.after;
      legal = ap (option_and_then (λ (after : LoopState). after_entries after later)) one.1 ∙ rest.legal;
      same = ap (λ (after : LoopState). brings ++ journal_events after later) (leads reading one.0 next one.1).left
          ∙ ap (λ (events : List Timed). brings ++ events) rest.same
          ∙ ap (λ (found : Option Stage). brings ++ option_map_or (λ after. calls_events setting after later) found [])
          (sym (step.1 ∙ ap Some (sym one.2)));
    }

-- the loop begins where the listener was bound
abbrev IsBegun : Setting → Stage → Type 0
IsBegun setting Unbound = ⊥
IsBegun setting (Running reading) = in_state setting.state empty_line Free ≡ reading
IsBegun setting Refused = Unit {0}

begun_if : (setting : Setting) (test : Bool) (answer : Result Unit WorldFault) (to : Stage)
    → (if test then Some (after_bind answer (begun setting)) else None) ≡ Some to → IsBegun setting to
begun_if setting true (Ok unit) to is = let same : begun setting ≡ to = cc in subst (IsBegun setting) same refl
begun_if setting true (Err fault) to is = let same : Refused ≡ to = cc in subst (IsBegun setting) same tt
begun_if setting false answer to is = absurd (cc)

begun_bound : (setting : Setting) (path : List ℕ) (to : Stage) (next : Entry)
    → bound path (begun setting) next ≡ Some to → IsBegun setting to
begun_bound setting path to (entry.Bind Clients at answer) is = begun_if setting (bytes_eq at path) answer to is
begun_bound setting path to (entry.Bind Children at answer) is = absurd (cc)
begun_bound setting path to (entry.Poll wait items answer) is = absurd (cc)
begun_bound setting path to (entry.Accept other answer) is = absurd (cc)
begun_bound setting path to (entry.Read port room bytes answer) is = absurd (cc)
begun_bound setting path to (entry.Write port offered answer) is = absurd (cc)
begun_bound setting path to (entry.Close port answer) is = absurd (cc)
begun_bound setting path to (entry.Start job answer) is = absurd (cc)
begun_bound setting path to (entry.Now answer) is = absurd (cc)

-- each event may come, a piece is what one read has room for, and where the calls have the numbers of their types, so
-- have the events
record AreDue (state : State) (calls : List Entry) (events : List Timed) : Type 0 where
  fit : AllFit state events
  read : AreOfOneRead events
  range : AreTyped calls → AreInRange events

running-due : (setting : Setting) (reading : LoopState) (to : Stage) (calls : List Entry)
    → in_state setting.state empty_line Free ≡ reading → ran setting (Running reading) calls ≡ Some to
    → AreDue setting.state calls (calls_events setting (Running reading) calls)
running-due setting reading to calls is legal =
    subst (λ (from : LoopState). ran setting (Running from) calls ≡ Some to → AreDue setting.state calls (calls_events setting (Running from) calls)) is
    (λ first.
    let journal = journal-calls setting (in_state setting.state empty_line Free) to calls first in
    record {
      fit = subst (AllFit setting.state) journal.same (journal-fits setting.state empty_line journal.after calls journal.legal);
      read = subst AreOfOneRead journal.same (journal-read setting.state empty_line journal.after calls journal.legal);
      range = λ typed. subst AreInRange journal.same (journal-range setting.state empty_line journal.after calls typed journal.legal);
    })
    legal

later-due : (setting : Setting) (stage to : Stage) (calls : List Entry) → IsBegun setting stage
    → ran setting stage calls ≡ Some to → AreDue setting.state calls (calls_events setting stage calls)
later-due setting Unbound to calls begun legal = absurd begun
later-due setting (Running reading) to calls begun legal = running-due setting reading to calls begun legal
later-due setting Refused to [] begun legal = record { fit = tt; read = tt; range = λ typed. tt }
later-due setting Refused to (next ∷ later) begun legal = absurd (cc)

calls-due : (setting : Setting) (to : Stage) (calls : List Entry) → ran setting Unbound calls ≡ Some to
    → AreDue setting.state calls (calls_events setting Unbound calls)
calls-due setting to [] legal = record { fit = tt; read = tt; range = λ typed. tt }
calls-due setting to (next ∷ later) legal =
    let step = then_some (λ (after : Stage). ran setting after later) (gone_on setting Unbound next) to legal in
    let rest = later-due setting step.0 to later (begun_bound setting setting.path step.0 next step.1) step.2 in
    let same : calls_events setting step.0 later ≡ calls_events setting Unbound (next ∷ later) =
    ap (λ (found : Option Stage). option_map_or (λ after. calls_events setting after later) found []) (sym step.1) in
    record {
      fit = subst (AllFit setting.state) same rest.fit;
      read = subst AreOfOneRead same rest.read;
      range = λ typed. subst AreInRange same (rest.range typed.1);
    }

-- what has the numbers of its types lets bytes be heard
event-bytes : (event : Happening) → IsInRange event → IsOfBytes event
event-bytes (Joined door) range = tt
event-bytes (Heard port piece) range = range.1
event-bytes (Ended port) range = tt
event-bytes (Took port count) range = tt
event-bytes (Started job ticket) range = tt
event-bytes (StartFailed job) range = tt
event-bytes Tick range = tt

range-bytes : (events : List Timed) → AreInRange events → AreOfBytes events
range-bytes [] range = tt
range-bytes (timed ∷ later) range = (event-bytes timed.event range.0.event, range-bytes later range.1)

pub serves_lawfully : (settings : Settings) (setting : Setting) (old new : Option (List Entry))
    → ((calls : List Entry) → AreAdded old new calls → AreTyped calls)
    → setting.state ≡ first_state settings → ServesLawfully settings setting old new
serves_lawfully settings setting old new typed first = λ calls to added legal.
    let events = calls_events setting Unbound calls in
    let due = calls-due setting to calls legal in
    let range = due.range (typed calls added) in
    record {
      lawful = lawful_run settings events (agent_at setting to)
          (subst (λ (state : State). AllFit state events) first due.fit) (range-bytes events range)
          (calls-run setting Unbound to calls legal ∙ ap (λ (state : State). run state events) first);
      range = range;
      read = due.read;
    }
