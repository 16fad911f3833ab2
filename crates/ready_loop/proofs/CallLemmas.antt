-- What each call leaves of how the journal reads, by its answer.
use Rattle.std.proofs.Common.{◌≡◌, ◌∙◌, ℕ, suc, ◌+◌, ◌-◌, ◌^◌, ◌<◌, Bool, true, false, List, [], ◌∷◌, length, drop, get_or, Option, Some, None, Result, Ok, Err, refl, sym, ap, ◌==◌, ◌&&◌, nat_le, nat_lt, not, add-one, arith, nat_eq}
use Rattle.std.specs.Option.{option_eq, option_map_or}
use Rattle.std.proofs.Math.Seq.{drop-cons}
use Rattle.std.specs.Prelude.{IsSome, is_some}
use Rattle.std.specs.declared.alloc.AllocError.{AllocError}
use Rattle.std.specs.Str.{bytes_eq}
use Rattle.std.specs.Cmp.Lexicographic.{bytes_decides}
use Rattle.std.proofs.lemmas.Bool.Decides.{Decides-eqb, Decides-ltb, nat_tests}
use Rattle.world_ports.specs.Journal.{Grows, Tells}
use Rattle.world_ports.specs.declared.answers.Accepted.{Accepted}
use Rattle.world_ports.specs.declared.answers.Got.{Got}
use Rattle.world_ports.specs.declared.answers.Got.TheVariants as got
use Rattle.world_ports.specs.declared.answers.Polled.{Polled}
use Rattle.world_ports.specs.declared.answers.Ready.{Ready}
use Rattle.world_ports.specs.declared.answers.WorldFault.{WorldFault}
use Rattle.world_ports.specs.declared.answers.Wrote.{Wrote}
use Rattle.world_ports.specs.declared.answers.Wrote.TheVariants as wrote
use Rattle.world_ports.specs.declared.entry.Entry.{Entry}
use Rattle.world_ports.specs.declared.entry.Entry.TheVariants as entry
use Rattle.world_ports.specs.declared.events.Door.{Door}
use Rattle.world_ports.specs.declared.events.Job.{Job}
use Rattle.world_ports.specs.declared.events.Moment.{Moment}
use Rattle.agent_model.specs.Events.{Happening, Tick}
use Rattle.agent_model.specs.State.{State, find_port, owed_of, starts}
use Rattle.agent_model.specs.Step.{step}
use Rattle.loop_model.specs.Calls.{served_of}
use Rattle.loop_model.specs.Dues.{Closing, Free, NowFor, Polling, due_look, due_of, port_of, wait_of}
use Rattle.loop_model.specs.Fitting.{IsTyped}
use Rattle.loop_model.specs.Servable.{has_job}
use Rattle.loop_model.specs.LegalJournal.{LoopState, after_entry, after_if_legal, in_state, is_first_job, is_read, is_taken, may_serve}
use Rattle.world_ports.specs.Worlds.{IsPiece, read_room}
use Rattle.loop_model.specs.Lines.{Line, after_event, in_hand, is_idle}
use Rattle.loop_model.specs.Queues.{first_servable, is_next}
use Rattle.loop_model.specs.Things.{same_thing}
use Rattle.loop_model.specs.declared.thing.Thing.{Thing}
use Rattle.loop_model.specs.declared.thing.Thing.TheVariants.{Accept, Read, Write}
use Rattle.loop_model.proofs.JournalLemmas.{after_if_legal-is}
use Rattle.loop_model.proofs.TestLemmas.{both_and}
use Rattle.loop_model.proofs.ThingLemmas.{same_thing-refl}
use Rattle.ready_loop.specs.Moves.{AdvancesOrStops, is_poll}
use Rattle.ready_loop.proofs.IdleLemmas.{first_is_found, owed_is_open, wanted_is_open}
use Rattle.ready_loop.proofs.TurningLemmas.{advances_once, stops_short}

-- ---- the moment of an event, and closing

pub now-any : (state : State) (line : Line) (event : Happening) (answer : Result Moment AllocError)
    → after_if_legal (in_state state line (NowFor event)) (entry.Now answer)
    ≡ Some (after_entry (in_state state line (NowFor event)) (entry.Now answer))
now-any state line event answer = refl

pub now-taken : (state next : State) (closes : List ℕ) (line : Line) (event : Happening) (moment : Moment)
    → next ≡ (step state moment event).state → closes ≡ (step state moment event).closes
    → after_if_legal (in_state state line (NowFor event)) (entry.Now (Ok moment))
    ≡ Some (in_state next (after_event next closes (port_of event next.last_port) (served_of event) line)
    (due_of closes))
now-taken state next closes line event moment is closed =
    let cs = (step state moment event).closes in
    ap (λ (s : State). Some (in_state s (after_event s cs (port_of event s.last_port) (served_of event) line) (due_of cs)))
    (sym is)
    ∙ ap (λ (ports : List ℕ). Some (in_state next (after_event next ports (port_of event next.last_port) (served_of event) line) (due_of ports)))
    (sym closed)

pub close-any : (state : State) (line : Line) (port : ℕ) (later : List ℕ) (answer : Result Unit AllocError)
    → after_if_legal (in_state state line (Closing port later)) (entry.Close port answer)
    ≡ Some (after_entry (in_state state line (Closing port later)) (entry.Close port answer))
close-any state line port later answer =
    after_if_legal-is (in_state state line (Closing port later)) (entry.Close port answer) ((Decides-eqb port port).1 refl)

pub close-taken : (state : State) (line : Line) (port : ℕ) (later : List ℕ)
    → after_if_legal (in_state state line (Closing port later)) (entry.Close port (Ok tt))
    ≡ Some (in_state state line (due_of later))
close-taken state line port later = close-any state line port later (Ok tt)

-- what is left to close, from an index on
pub due-drop : (ports : List ℕ) (index : ℕ) → index < length ports
    → due_of (drop index ports) ≡ Closing (get_or ports index 0) (drop (index + 1) ports)
due-drop ports index below =
    ap due_of (drop-cons ports index 0 below)
    ∙ ap (λ (n : ℕ). Closing (get_or ports index 0) (drop n ports)) (sym (add-one index))

-- ---- a look, and a poll

pub look-any : (state : State) (line : Line) (answer : Result Moment AllocError)
    → is_idle state line ≡ true
    → after_if_legal (in_state state line Free) (entry.Now answer)
    ≡ Some (after_entry (in_state state line Free) (entry.Now answer))
look-any state line answer idle =
    after_if_legal-is (in_state state line Free) (entry.Now answer) idle

-- with the line that is left
pub looked-at : (state next : State) (closes : List ℕ) (line left : Line) (moment : Moment)
    → is_idle state line ≡ true → next ≡ (step state moment Tick).state → closes ≡ (step state moment Tick).closes
    → left ≡ after_event next closes None None line
    → after_if_legal (in_state state line Free) (entry.Now (Ok moment))
    ≡ Some (in_state next left (due_look closes (is_idle next left)))
looked-at state next closes line left moment idle is closed there =
    let cs = (step state moment Tick).closes in
    look-any state line (Ok moment) idle
    ∙ ap (λ (s : State). Some (in_state s (after_event s cs None None line) (due_look cs (is_idle s (after_event s cs None None line)))))
    (sym is)
    ∙ ap (λ (ports : List ℕ). Some (in_state next (after_event next ports None None line) (due_look ports (is_idle next (after_event next ports None None line)))))
    (sym closed)
    ∙ ap (λ (l : Line). Some (in_state next l (due_look closes (is_idle next l)))) (sym there)

-- a look that closes ports
pub look-closes : (closes : List ℕ) (idle : Bool) → (length closes == 0) ≡ false
    → due_look closes idle ≡ due_of closes
look-closes [] idle some = cc
look-closes (port ∷ ports) idle some = refl

-- a look that closes none
pub look-none : (closes : List ℕ) (idle : Bool) → (length closes == 0) ≡ true
    → due_look closes idle ≡ due_look [] idle
look-none [] idle none = refl
look-none (port ∷ ports) idle none =
    let some : (suc (length ports) == 0) ≡ true = none in absurd (grind (arith, nat_tests))

same_wait-refl : (wait : Option ℕ) → option_eq nat_eq wait wait ≡ true
same_wait-refl None = refl
same_wait-refl (Some seconds) = (Decides-eqb seconds seconds).1 refl

pub poll-any : (state : State) (line : Line) (wait : Option ℕ) (items : List Ready) (answer : Result Polled WorldFault)
    → wait ≡ wait_of state
    → after_if_legal (in_state state line Polling) (entry.Poll wait items answer)
    ≡ Some (after_entry (in_state state line Polling) (entry.Poll wait items answer))
poll-any state line wait items answer is =
    after_if_legal-is (in_state state line Polling) (entry.Poll wait items answer)
    (ap (option_eq nat_eq wait) (sym is) ∙ same_wait-refl wait)

-- ---- what is served

-- the first thing that can be served is in turn
next_is : (state : State) (queue : List Thing) (thing : Thing)
    → first_servable state queue ≡ Some thing
    → is_next state queue thing ≡ true
next_is state queue thing found = ap (λ (t : Option Thing). option_map_or (same_thing thing) t false) found ∙ same_thing-refl thing

-- a thing may be served where no job waits
free_to_serve : (state : State) (line : Line) → starts state ≡ [] → may_serve (in_state state line Free) ≡ true
free_to_serve state line none = ap (λ jobs. not (has_job jobs)) none

pub accept-any : (state : State) (line : Line) (door : Door) (answer : Result Accepted WorldFault)
    → starts state ≡ [] → first_servable state line.queue ≡ Some (Accept door)
    → after_if_legal (in_state state line Free) (entry.Accept door answer)
    ≡ Some (after_entry (in_state state line Free) (entry.Accept door answer))
accept-any state line door answer none found =
    after_if_legal-is (in_state state line Free) (entry.Accept door answer)
    (both_and (may_serve (in_state state line Free)) (is_next state line.queue (Accept door))
    (free_to_serve state line none) (next_is state line.queue (Accept door) found))

pub read-any : (state : State) (line : Line) (port room : ℕ) (bytes : List ℕ) (answer : Result Got WorldFault)
    → starts state ≡ [] → first_servable state line.queue ≡ Some (Read port)
    → room ≡ read_room → is_read room bytes answer ≡ true
    → after_if_legal (in_state state line Free) (entry.Read port room bytes answer)
    ≡ Some (after_entry (in_state state line Free) (entry.Read port room bytes answer))
read-any state line port room bytes answer none found is read =
    let next = is_next state line.queue (Read port) in
    let whole = (room == read_room) && is_read room bytes answer in
    after_if_legal-is (in_state state line Free) (entry.Read port room bytes answer)
    (both_and (may_serve (in_state state line Free)) (next && whole) (free_to_serve state line none)
    (both_and next whole (next_is state line.queue (Read port) found)
    (both_and (room == read_room) (is_read room bytes answer) ((Decides-eqb room read_room).1 is) read)))

-- what the world says of a read's bytes
pub read-within : (room n : ℕ) (bytes : List ℕ) → length bytes ≡ n → IsPiece n room
    → is_read room bytes (Ok (got.Bytes n)) ≡ true
read-within room n bytes same within =
    let some = within.0 in
    let few = within.1 in
    both_and (length bytes == n) (nat_lt 0 n && nat_le n room) ((Decides-eqb (length bytes) n).1 same)
    (both_and (nat_lt 0 n) (nat_le n room) (grind (arith, nat_tests)) (grind (arith, nat_tests)))

pub write-any : (state : State) (line : Line) (port : ℕ) (offered : List ℕ) (answer : Result Wrote WorldFault)
    → starts state ≡ [] → first_servable state line.queue ≡ Some (Write port) → offered ≡ owed_of port state
    → is_taken (length offered) answer ≡ true
    → after_if_legal (in_state state line Free) (entry.Write port offered answer)
    ≡ Some (after_entry (in_state state line Free) (entry.Write port offered answer))
write-any state line port offered answer none found is taken =
    let next = is_next state line.queue (Write port) in
    let owed = bytes_eq offered (owed_of port state) in
    let few = is_taken (length offered) answer in
    after_if_legal-is (in_state state line Free) (entry.Write port offered answer)
    (both_and (may_serve (in_state state line Free)) (next && (owed && few)) (free_to_serve state line none)
    (both_and next (owed && few) (next_is state line.queue (Write port) found)
    (both_and owed few ((bytes_decides offered (owed_of port state)).1 is) taken)))

-- what the world says of how much a write took
pub taken-within : (offered n : ℕ) → IsPiece n offered → is_taken offered (Ok (wrote.Took n)) ≡ true
taken-within offered n within =
    let some = within.0 in
    let few = within.1 in
    both_and (nat_lt 0 n) (nat_le n offered) (grind (arith, nat_tests)) (grind (arith, nat_tests))

pub start-any : (state : State) (line : Line) (job : Job) (answer : Result (List ℕ) WorldFault)
    → is_first_job job (starts state) ≡ true
    → after_if_legal (in_state state line Free) (entry.Start job answer)
    ≡ Some (after_entry (in_state state line Free) (entry.Start job answer))
start-any state line job answer first =
    after_if_legal-is (in_state state line Free) (entry.Start job answer) first

-- a call that finds that the thing isn't ready any more
pub serves_dropped : {T E : Type 0} {value : T} {state : State} {line after : Line} {old new : Option (List Entry)}
    (thing : Thing) (next : Entry) → is_poll next ≡ false → IsTyped next
    → after_if_legal (in_state state line Free) next ≡ Some (in_state state (in_hand thing line) Free)
    → after ≡ in_hand thing line → Grows old new (next ∷ [])
    → AdvancesOrStops {T = T} {E = E} (Ok value) (in_state state line Free) old new (in_state state after Free)
serves_dropped {state = state} {line = line} {after = after} {old = old} {new = new} thing next quiet typed is gone told = record {
  by = advances_once (in_state state line Free) (in_state state after Free) old new next quiet typed
      (is ∙ ap (λ (l : Line). Some (in_state state l Free)) (sym gone)) told;
}

-- a call for which memory ran out, which may be missing from the journal
pub serves_short : {T E : Type 0} {fault : E} {from left to : LoopState} {old new : Option (List Entry)} (next : Entry)
    → is_poll next ≡ false → IsTyped next → after_if_legal from next ≡ Some left → Tells old new true next
    → AdvancesOrStops {T = T} {E = E} (Err fault) from old new to
serves_short {from = from} {left = left} {old = old} {new = new} next quiet typed is told =
    record { by = stops_short from left old new true next quiet typed is told }

-- ---- what fits

pub joined-fits : (state : State) (line : Line) (door : Door)
    → first_servable state line.queue ≡ Some (Accept door) → state.last_port < 2 ^ 64 - 1
joined-fits state line door found =
    (Decides-ltb state.last_port (2 ^ 64 - 1)).0 (first_is_found state line.queue (Accept door) found).servable

some_is : {T : Type 0} (found : Option T) → is_some found ≡ true → IsSome found
some_is None is = cc
some_is (Some value) is = refl

-- a port that is to be read is open
pub read-open : (state : State) (line : Line) (port : ℕ)
    → first_servable state line.queue ≡ Some (Read port) → IsSome (find_port port state.ports)
read-open state line port found =
    some_is (find_port port state.ports) (wanted_is_open (find_port port state.ports) (first_is_found state line.queue (Read port) found).servable)

-- and so is one that is owed bytes
pub write-open : (state : State) (line : Line) (port : ℕ)
    → first_servable state line.queue ≡ Some (Write port) → IsSome (find_port port state.ports)
write-open state line port found =
    some_is (find_port port state.ports) (owed_is_open (find_port port state.ports) state (first_is_found state line.queue (Write port) found).servable)

pub write-some : (state : State) (line : Line) (port : ℕ)
    → first_servable state line.queue ≡ Some (Write port) → 0 < length (owed_of port state)
write-some state line port found =
    (Decides-ltb 0 (length (owed_of port state))).0 (first_is_found state line.queue (Write port) found).servable
