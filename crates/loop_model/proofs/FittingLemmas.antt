-- The events of a legal journal fit, and have the numbers of their types where the entries have.
use Rattle.std.proofs.Common.{◌≡◌, ◌∙◌, ℕ, ◌<◌, ◌≤◌, Bool, true, false, List, [], ◌∷◌, ◌++◌, length, Option, Some, None, Ok, Err, ◌==◌, ◌&&◌, refl, sym, ap, subst, if◌then◌else◌, nat_le, nat_lt, arith}
use Rattle.std.specs.Option.{option_map_or}
use Rattle.std.specs.Prelude.{IsSome, option_and_then}
use Rattle.std.specs.Str.{bytes_eq}
use Rattle.std.specs.Cmp.Lexicographic.{bytes_decides}
use Rattle.std.proofs.lemmas.Bool.Decides.{Decides-eqb, nat_tests}
use Rattle.world_ports.specs.Worlds.{read_room}
use Rattle.world_ports.specs.declared.answers.Accepted.TheVariants as accepted
use Rattle.world_ports.specs.declared.answers.Got.TheVariants as got
use Rattle.world_ports.specs.declared.answers.Polled.TheVariants as polled
use Rattle.world_ports.specs.declared.answers.WorldFault.TheVariants.{Failed, Memory}
use Rattle.world_ports.specs.declared.answers.Wrote.TheVariants as wrote
use Rattle.world_ports.specs.declared.entry.Entry.{Entry}
use Rattle.world_ports.specs.declared.entry.Entry.TheVariants as entry
use Rattle.world_ports.specs.declared.events.Job.{Job}
use Rattle.world_ports.specs.declared.events.Moment.{Moment}
use Rattle.agent_model.specs.Events.{Happening, Timed}
use Rattle.agent_model.specs.Runs.{AllFit, AreInRange, IsInRange, run}
use Rattle.agent_model.specs.State.{Fits, Port, State, find_port, find_to_start, is_some_bytes, owed_by, owed_of, starts, wants_by}
use Rattle.agent_model.specs.Step.{step}
use Rattle.loop_model.specs.Dues.{Closing, Due, Free, Nothing, NowFor, Polling, due_after, due_look, due_of, is_free}
use Rattle.loop_model.specs.Fitting.{AreOfOneRead, AreTyped, IsMoment, IsOfOneRead, IsTyped, OfDue, journal_events}
use Rattle.loop_model.specs.LegalJournal.{LoopState, after_entries, after_entry, after_if_legal, closed_by, comes_next, events_brought, in_state, is_first_job, is_read, is_taken, may_serve, same_kind}
use Rattle.loop_model.specs.Lines.{Line, is_idle}
use Rattle.loop_model.specs.Queues.{first_servable, is_next}
use Rattle.loop_model.specs.Servable.{is_servable}
use Rattle.loop_model.specs.Things.{same_thing}
use Rattle.loop_model.specs.declared.thing.Thing.{Thing}
use Rattle.loop_model.specs.declared.thing.Thing.TheVariants.{Accept, Read, Write}
use Rattle.loop_model.proofs.JournalLemmas.{in_turn, leads}
use Rattle.loop_model.proofs.TestLemmas.{and_both}
use Rattle.loop_model.proofs.ThingLemmas.{same_thing-true}

-- ---- what stands next can be served

servable_by : (test : Bool) (state : State) (first : Thing) (queue : List Thing) (thing : Thing)
    → is_servable state first ≡ test
    → (is_next state queue thing ≡ true → is_servable state thing ≡ true)
    → option_map_or (same_thing thing) (if test then Some first else first_servable state queue) false ≡ true
    → is_servable state thing ≡ true
servable_by true state first queue thing is rest next =
    ap (is_servable state) (same_thing-true thing first next) ∙ is
servable_by false state first queue thing is rest next = rest next

next_is_servable : (state : State) (queue : List Thing) (thing : Thing)
    → is_next state queue thing ≡ true
    → is_servable state thing ≡ true
next_is_servable state [] thing next = absurd (cc)
next_is_servable state (first ∷ queue) thing next =
    servable_by (is_servable state first) state first queue thing refl (next_is_servable state queue thing) next

wanted_is_open : (port : Option Port) → wants_by port ≡ true → IsSome port
wanted_is_open None is = absurd (cc)
wanted_is_open (Some port) is = refl

owed_is_open : (port : Option Port) (state : State)
    → is_some_bytes (owed_by port state.under_way) ≡ true
    → IsSome port
owed_is_open None state is = absurd (cc)
owed_is_open (Some port) state is = refl

-- ---- the bounds of answers

read_some : (room n : ℕ) (bytes : List ℕ) → is_read room bytes (Ok (got.Bytes n)) ≡ true
    → (0 < length bytes) × (length bytes ≤ room)
read_some room n bytes is =
    let whole = and_both (length bytes == n) (nat_lt 0 n && nat_le n room) is in
    let within = and_both (nat_lt 0 n) (nat_le n room) whole.1 in
    let same = whole.0 in
    let some = within.0 in
    let few = within.1 in
    (grind (arith, nat_tests), grind (arith, nat_tests))

taken_some : (offered n : ℕ) → is_taken offered (Ok (wrote.Took n)) ≡ true → (0 < n) × (n ≤ offered)
taken_some offered n is =
    let within = and_both (nat_lt 0 n) (nat_le n offered) is in
    let some = within.0 in
    let few = within.1 in
    (grind (arith, nat_tests), grind (arith, nat_tests))

-- the bytes of a read that may come are some, and no more than a read has room for
bytes_read : (reading : LoopState) (port room n : ℕ) (bytes : List ℕ)
    → comes_next reading (entry.Read port room bytes (Ok (got.Bytes n))) ≡ true
    → (0 < length bytes) × (length bytes ≤ read_room)
bytes_read reading port room n bytes may =
    let next = is_next reading.state reading.line.queue (Read port) in
    let read = is_read room bytes (Ok (got.Bytes n)) in
    let whole = (and_both next ((room == read_room) && read) (and_both (may_serve reading) (next && ((room == read_room) && read)) may).1).1 in
    let both = and_both (room == read_room) read whole in
    let some = read_some room n bytes both.1 in
    let same : room ≡ read_room = (Decides-eqb room read_room).0 both.0 in
    (some.0, subst (λ (most : ℕ). length bytes ≤ most) same some.1)

-- what a write that may come took is some of what is owed
bytes_taken : (reading : LoopState) (port n : ℕ) (offered : List ℕ)
    → comes_next reading (entry.Write port offered (Ok (wrote.Took n))) ≡ true
    → (0 < n) × (n ≤ length offered) × (offered ≡ owed_of port reading.state)
bytes_taken reading port n offered may =
    let next = is_next reading.state reading.line.queue (Write port) in
    let same = bytes_eq offered (owed_of port reading.state) in
    let taken = is_taken (length offered) (Ok (wrote.Took n)) in
    let whole = (and_both next (same && taken) (and_both (may_serve reading) (next && (same && taken)) may).1).1 in
    let both = and_both same taken whole in
    let some = taken_some (length offered) n both.1 in
    (some.0, some.1, (bytes_decides offered (owed_of port reading.state)).0 both.0)

-- ---- jobs

first_found : (job first : Job) (later : List Job) (test : Bool)
    → (first.number == job.number) ≡ test
    → job.number ≡ first.number → IsSome (if test then Some first else find_to_start job.number later)
first_found job first later true is same = refl
first_found job first later false is same = absurd (grind (arith, nat_tests))

-- the first job that waits is there to be started
job_found : (job : Job) (jobs : List Job) → is_first_job job jobs ≡ true
    → IsSome (find_to_start job.number jobs)
job_found job [] first = absurd (cc)
job_found job (one ∷ later) first =
    let both = and_both (job.number == one.number) (same_kind job.kind one.kind) first in
    first_found job one later (one.number == job.number) refl ((Decides-eqb job.number one.number).0 both.0)

-- ---- what a call leaves due

-- the event may come there, and a piece is what one read has room for
pub record IsDue (state : State) (event : Happening) : Type 0 where
  pub fits : Fits event state
  pub read : IsOfOneRead event

of_closes : (IsSo : Happening → Type 0) (closes : List ℕ) → OfDue IsSo (due_of closes)
of_closes IsSo [] = tt
of_closes IsSo (port ∷ later) = tt

of_look : (IsSo : Happening → Type 0) (closes : List ℕ) (idle : Bool)
    → OfDue IsSo (due_look closes idle)
of_look IsSo [] true = tt
of_look IsSo [] false = tt
of_look IsSo (port ∷ later) idle = tt

of_close : (IsSo : Happening → Type 0) (due : Due) (closes : List ℕ) (idle : Bool) (port : ℕ)
    → OfDue IsSo (due_after due closes idle (entry.Close port (Ok tt)))
of_close IsSo Free closes idle port = tt
of_close IsSo (NowFor event) closes idle port = tt
of_close IsSo (Closing number later) closes idle port = of_closes IsSo later
of_close IsSo Polling closes idle port = tt
of_close IsSo Nothing closes idle port = tt

of_event : (IsSo : Happening → Type 0) (due : Due) (closes : List ℕ) (idle : Bool) (moment : Moment)
    → OfDue IsSo (due_after due closes idle (entry.Now (Ok moment)))
of_event IsSo Free closes idle moment = of_look IsSo closes idle
of_event IsSo (NowFor event) closes idle moment = of_closes IsSo closes
of_event IsSo due closes idle moment = tt

-- any call that may come leaves an event due that may come
due_after_call : (reading : LoopState) (next : Entry) → comes_next reading next ≡ true
    → OfDue (IsDue (after_entry reading next).state) (after_entry reading next).due
due_after_call reading (entry.Bind door path answer) may = absurd (cc)
due_after_call reading (entry.Poll wait items (Ok polled.Some)) may = tt
due_after_call reading (entry.Poll wait items (Ok polled.Over)) may = tt
due_after_call reading (entry.Poll wait items (Err fault)) may = tt
due_after_call reading (entry.Accept door (Ok (accepted.Port number))) may =
    let able = next_is_servable reading.state reading.line.queue (Accept door) (in_turn reading (entry.Accept door (Ok (accepted.Port number))) may) in
    record { fits = grind (arith, nat_tests); read = tt }
due_after_call reading (entry.Accept door (Ok accepted.NotNow)) may = tt
due_after_call reading (entry.Accept door (Err Failed)) may = tt
due_after_call reading (entry.Accept door (Err Memory)) may = tt
due_after_call reading (entry.Read port room bytes (Ok (got.Bytes n))) may =
    let able = next_is_servable reading.state reading.line.queue (Read port) (in_turn reading (entry.Read port room bytes (Ok (got.Bytes n))) may) in
    let some = bytes_read reading port room n bytes may in
    record { fits = (wanted_is_open (find_port port reading.state.ports) able, some.0); read = some.1 }
due_after_call reading (entry.Read port room bytes (Ok got.End)) may =
    let able = next_is_servable reading.state reading.line.queue (Read port) (in_turn reading (entry.Read port room bytes (Ok got.End)) may) in
    record { fits = wanted_is_open (find_port port reading.state.ports) able; read = tt }
due_after_call reading (entry.Read port room bytes (Ok got.NotNow)) may = tt
due_after_call reading (entry.Read port room bytes (Err Failed)) may =
    let able = next_is_servable reading.state reading.line.queue (Read port) (in_turn reading (entry.Read port room bytes (Err Failed)) may) in
    record { fits = wanted_is_open (find_port port reading.state.ports) able; read = tt }
due_after_call reading (entry.Read port room bytes (Err Memory)) may = tt
due_after_call reading (entry.Write port offered (Ok (wrote.Took n))) may =
    let some = bytes_taken reading port n offered may in
    record { fits = (some.0, subst (λ (bytes : List ℕ). n ≤ length bytes) some.2 some.1); read = tt }
due_after_call reading (entry.Write port offered (Ok wrote.NotNow)) may = tt
due_after_call reading (entry.Write port offered (Err Failed)) may =
    let able = next_is_servable reading.state reading.line.queue (Write port) (in_turn reading (entry.Write port offered (Err Failed)) may) in
    record { fits = owed_is_open (find_port port reading.state.ports) reading.state able; read = tt }
due_after_call reading (entry.Write port offered (Err Memory)) may = tt
due_after_call reading (entry.Close port (Ok unit)) may =
    let after = after_entry reading (entry.Close port (Ok unit)) in
    of_close _ reading.due [] (is_idle after.state after.line) port
due_after_call reading (entry.Close port (Err want)) may = tt
due_after_call reading (entry.Start job (Ok ticket)) may =
    let first = (and_both (is_free reading.due) (is_first_job job (starts reading.state)) may).1 in
    record { fits = job_found job (starts reading.state) first; read = tt }
due_after_call reading (entry.Start job (Err Failed)) may =
    let first = (and_both (is_free reading.due) (is_first_job job (starts reading.state)) may).1 in
    record { fits = job_found job (starts reading.state) first; read = tt }
due_after_call reading (entry.Start job (Err Memory)) may = tt
due_after_call reading (entry.Now (Ok moment)) may =
    of_event _ reading.due (closed_by reading.state (events_brought reading.due (entry.Now (Ok moment)))) (is_idle (after_entry reading (entry.Now (Ok moment))).state (after_entry reading (entry.Now (Ok moment))).line) moment
due_after_call reading (entry.Now (Err want)) may = tt

-- ---- what a call brings

-- the events may come from this state on, and each piece is what one read has room for
pub record AreDue (state : State) (events : List Timed) : Type 0 where
  pub fit : AllFit state events
  pub read : AreOfOneRead events

now-due : (state : State) (due : Due) (moment : Moment) → OfDue (IsDue state) due
    → AreDue state (events_brought due (entry.Now (Ok moment)))
now-due state Free moment due = record { fit = (tt, tt); read = (tt, tt) }
now-due state (NowFor event) moment due = record { fit = (due.fits, tt); read = (due.read, tt) }
now-due state (Closing port later) moment due = record { fit = tt; read = tt }
now-due state Polling moment due = record { fit = tt; read = tt }
now-due state Nothing moment due = record { fit = tt; read = tt }

brought-due : (reading : LoopState) (next : Entry) → OfDue (IsDue reading.state) reading.due
    → AreDue reading.state (events_brought reading.due next)
brought-due reading (entry.Bind door path answer) due = record { fit = tt; read = tt }
brought-due reading (entry.Poll wait items answer) due = record { fit = tt; read = tt }
brought-due reading (entry.Accept door answer) due = record { fit = tt; read = tt }
brought-due reading (entry.Read port room bytes answer) due = record { fit = tt; read = tt }
brought-due reading (entry.Write port offered answer) due = record { fit = tt; read = tt }
brought-due reading (entry.Close port answer) due = record { fit = tt; read = tt }
brought-due reading (entry.Start job answer) due = record { fit = tt; read = tt }
brought-due reading (entry.Now (Ok moment)) due = now-due reading.state reading.due moment due
brought-due reading (entry.Now (Err want)) due = record { fit = tt; read = tt }

-- ---- entries one after another

pub fit-append : (state : State) (some more : List Timed) → AllFit state some
    → AllFit (run state some) more
    → AllFit state (some ++ more)
fit-append state [] more fit rest = rest
fit-append state (timed ∷ some) more fit rest =
    (fit.0, fit-append (step state timed.moment timed.event).state some more fit.1 rest)

read-append : (some more : List Timed) → AreOfOneRead some → AreOfOneRead more
    → AreOfOneRead (some ++ more)
read-append [] more read rest = rest
read-append (timed ∷ some) more read rest = (read.0, read-append some more read.1 rest)

-- the first entry came, and the others behind it
came : (found : Option LoopState) (to : LoopState) (later : List Entry)
    → option_and_then (λ after. after_entries after later) found ≡ Some to
    → (after : LoopState) × (found ≡ Some after) × (after_entries after later ≡ Some to)
came None to later is = cc
came (Some after) to later is = (after, refl, is)

-- what an entry that may come brings may come from there on, and so may what it leaves due
entry-due : (reading after : LoopState) (next : Entry) → OfDue (IsDue reading.state) reading.due
    → after_if_legal reading next ≡ Some after
    → AreDue reading.state (events_brought reading.due next) × OfDue (IsDue after.state) after.due
entry-due reading after next due is =
    let there = leads reading after next is in (
      brought-due reading next due,
      subst (λ (left : LoopState). OfDue (IsDue left.state) left.due) there.left (due_after_call reading next there.comes),
    )

-- the event whose moment has to come next may come
abbrev pub IsAwaited : LoopState → Type 0
IsAwaited reading = OfDue (IsDue reading.state) reading.due

pub first_awaited : (state : State) (line : Line) → IsAwaited (in_state state line Free)
first_awaited state line = tt

pub entry-fits : (reading after : LoopState) (next : Entry) → IsAwaited reading
    → after_if_legal reading next ≡ Some after
    → AllFit reading.state (events_brought reading.due next) × IsAwaited after
entry-fits reading after next due is =
    let both = entry-due reading after next due is in (both.0.fit, both.1)

journal-due : (reading to : LoopState) (entries : List Entry)
    → OfDue (IsDue reading.state) reading.due
    → after_entries reading entries ≡ Some to → AreDue reading.state (journal_events reading entries)
journal-due reading to [] due is = record { fit = tt; read = tt }
journal-due reading to (next ∷ later) due is =
    let step = came (after_if_legal reading next) to later is in
    let here = entry-due reading step.0 next due step.1 in
    let left = (leads reading step.0 next step.1).left in
    let rest = subst (λ (after : LoopState). AreDue after.state (journal_events after later)) (sym left)
    (journal-due step.0 to later here.1 step.2) in
    record {
      fit = fit-append reading.state (events_brought reading.due next) (journal_events (after_entry reading next) later) here.0.fit rest.fit;
      read = read-append (events_brought reading.due next) (journal_events (after_entry reading next) later) here.0.read rest.read;
    }

pub journal-fits : (state : State) (line : Line) (to : LoopState) (entries : List Entry)
    → after_entries (in_state state line Free) entries ≡ Some to
    → AllFit state (journal_events (in_state state line Free) entries)
journal-fits state line to entries is = (journal-due (in_state state line Free) to entries tt is).fit

pub journal-read : (state : State) (line : Line) (to : LoopState) (entries : List Entry)
    → after_entries (in_state state line Free) entries ≡ Some to
    → AreOfOneRead (journal_events (in_state state line Free) entries)
journal-read state line to entries is = (journal-due (in_state state line Free) to entries tt is).read

-- ---- numbers

-- what a call leaves due has the numbers of the call
typed_due : (reading : LoopState) (next : Entry) → IsTyped next → comes_next reading next ≡ true
    → OfDue IsInRange (after_entry reading next).due
typed_due reading (entry.Bind door path answer) typed may = absurd (cc)
typed_due reading (entry.Poll wait items (Ok polled.Some)) typed may = tt
typed_due reading (entry.Poll wait items (Ok polled.Over)) typed may = tt
typed_due reading (entry.Poll wait items (Err fault)) typed may = tt
typed_due reading (entry.Accept door (Ok (accepted.Port number))) typed may = tt
typed_due reading (entry.Accept door (Ok accepted.NotNow)) typed may = tt
typed_due reading (entry.Accept door (Err Failed)) typed may = tt
typed_due reading (entry.Accept door (Err Memory)) typed may = tt
typed_due reading (entry.Read port room bytes (Ok (got.Bytes n))) typed may = typed
typed_due reading (entry.Read port room bytes (Ok got.End)) typed may = typed.0
typed_due reading (entry.Read port room bytes (Ok got.NotNow)) typed may = tt
typed_due reading (entry.Read port room bytes (Err Failed)) typed may = typed.0
typed_due reading (entry.Read port room bytes (Err Memory)) typed may = tt
typed_due reading (entry.Write port offered (Ok (wrote.Took n))) typed may =
    let some = bytes_taken reading port n offered may in
    let few = some.1 in
    let long = typed.1 in
    (typed.0, omega arith)
typed_due reading (entry.Write port offered (Ok wrote.NotNow)) typed may = tt
typed_due reading (entry.Write port offered (Err Failed)) typed may = typed.0
typed_due reading (entry.Write port offered (Err Memory)) typed may = tt
typed_due reading (entry.Close port (Ok unit)) typed may =
    let after = after_entry reading (entry.Close port (Ok unit)) in
    of_close _ reading.due [] (is_idle after.state after.line) port
typed_due reading (entry.Close port (Err want)) typed may = tt
typed_due reading (entry.Start job (Ok ticket)) typed may = (typed.0, typed.1.bytes, typed.1.size)
typed_due reading (entry.Start job (Err Failed)) typed may = typed.0
typed_due reading (entry.Start job (Err Memory)) typed may = tt
typed_due reading (entry.Now (Ok moment)) typed may =
    of_event _ reading.due (closed_by reading.state (events_brought reading.due (entry.Now (Ok moment)))) (is_idle (after_entry reading (entry.Now (Ok moment))).state (after_entry reading (entry.Now (Ok moment))).line) moment
typed_due reading (entry.Now (Err want)) typed may = tt

now-range : (due : Due) (moment : Moment) → IsMoment moment → OfDue IsInRange due
    → AreInRange (events_brought due (entry.Now (Ok moment)))
now-range Free moment typed due = (record { event = tt; mono = typed.mono; wall = typed.wall }, tt)
now-range (NowFor event) moment typed due = (record { event = due; mono = typed.mono; wall = typed.wall }, tt)
now-range (Closing port later) moment typed due = tt
now-range Polling moment typed due = tt
now-range Nothing moment typed due = tt

brought-range : (due : Due) (next : Entry) → IsTyped next → OfDue IsInRange due
    → AreInRange (events_brought due next)
brought-range due (entry.Bind door path answer) typed is = tt
brought-range due (entry.Poll wait items answer) typed is = tt
brought-range due (entry.Accept door answer) typed is = tt
brought-range due (entry.Read port room bytes answer) typed is = tt
brought-range due (entry.Write port offered answer) typed is = tt
brought-range due (entry.Close port answer) typed is = tt
brought-range due (entry.Start job answer) typed is = tt
brought-range due (entry.Now (Ok moment)) typed is = now-range due moment typed is
brought-range due (entry.Now (Err want)) typed is = tt

range-append : (some more : List Timed) → AreInRange some → AreInRange more
    → AreInRange (some ++ more)
range-append [] more range rest = rest
range-append (timed ∷ some) more range rest = (range.0, range-append some more range.1 rest)

range-from : (reading to : LoopState) (entries : List Entry) → AreTyped entries
    → OfDue IsInRange reading.due
    → after_entries reading entries ≡ Some to → AreInRange (journal_events reading entries)
range-from reading to [] typed due is = tt
range-from reading to (next ∷ later) typed due is =
    let step = came (after_if_legal reading next) to later is in
    let there = leads reading step.0 next step.1 in
    let left = subst (λ (after : LoopState). OfDue IsInRange after.due) there.left (typed_due reading next typed.0 there.comes) in
    range-append (events_brought reading.due next) (journal_events (after_entry reading next) later)
    (brought-range reading.due next typed.0 due)
    (subst (λ (after : LoopState). AreInRange (journal_events after later)) (sym there.left)
    (range-from step.0 to later typed.1 left step.2))

pub journal-range : (state : State) (line : Line) (to : LoopState) (entries : List Entry)
    → AreTyped entries
    → after_entries (in_state state line Free) entries ≡ Some to
    → AreInRange (journal_events (in_state state line Free) entries)
journal-range state line to entries typed is = range-from (in_state state line Free) to entries typed tt is
