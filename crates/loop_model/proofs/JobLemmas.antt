-- Where a job waits to be started, nothing else comes.
use Rattle.std.proofs.Common.{◌≡◌, ◌∙◌, Bool, true, List, ◌++◌, length, Some, ap, refl, subst, sym, ◌==◌, ◌&&◌, not}
use Rattle.std.specs.List.{list_any}
use Rattle.std.specs.Option.{option_eq}
use Rattle.std.specs.Prelude.{nat_eq}
use Rattle.std.specs.Str.{bytes_eq}
use Rattle.world_ports.specs.Worlds.{read_room}
use Rattle.world_ports.specs.declared.entry.Entry.{Entry}
use Rattle.world_ports.specs.declared.entry.Entry.TheVariants as entry
use Rattle.world_ports.specs.declared.events.Job.{Job}
use Rattle.agent_model.specs.State.{owed_of, starts}
use Rattle.loop_model.specs.Aside.{things_aside}
use Rattle.loop_model.specs.Dues.{Closing, Due, Free, Nothing, NowFor, Polling, is_closing, is_free, is_polling, reads_clock, wait_of}
use Rattle.loop_model.specs.Fairness.{starts_first}
use Rattle.loop_model.specs.LegalJournal.{LoopState, after_if_legal, comes_next, is_first_job, is_read, is_taken, may_serve}
use Rattle.loop_model.specs.Lines.{is_idle}
use Rattle.loop_model.specs.Queues.{is_next}
use Rattle.loop_model.specs.Servable.{has_job, is_servable}
use Rattle.loop_model.specs.declared.thing.Thing.TheVariants.{Accept, Read, Write}
use Rattle.loop_model.proofs.JournalLemmas.{leads}
use Rattle.loop_model.proofs.TestLemmas.{and_both}

free-is : (due : Due) → is_free due ≡ true → due ≡ Free
free-is Free is = refl
free-is (NowFor event) is = cc
free-is (Closing port later) is = cc
free-is Polling is = cc
free-is Nothing is = cc

-- a job waits, or none does
one-waits : {T : Type 0} (jobs : List Job) → has_job jobs ≡ true → not (has_job jobs) ≡ true → T
one-waits jobs some none = absurd (let both : not true ≡ true = sym (ap not some) ∙ none in cc)

never-served : {T : Type 0} (reading : LoopState) (rest : Bool) → has_job (starts reading.state) ≡ true
    → (may_serve reading && rest) ≡ true → T
never-served reading rest some may =
    one-waits (starts reading.state) some
    (and_both (is_free reading.due) (not (has_job (starts reading.state)))
    (and_both (may_serve reading) rest may).0).1

never-polled : {T : Type 0} (due : Due) (rest : Bool) → is_free due ≡ true → (is_polling due && rest) ≡ true → T
never-polled due rest free may =
    let polling : is_polling Free ≡ true = subst (λ d. is_polling d ≡ true) (free-is due free) (and_both (is_polling due) rest may).0 in
    absurd cc

comes-first : (reading : LoopState) (next : Entry) → is_free reading.due ≡ true
    → has_job (starts reading.state) ≡ true → comes_next reading next ≡ true
    → starts_first (starts reading.state) next ≡ true
comes-first reading (entry.Bind door path answer) free some may = cc
comes-first reading (entry.Poll wait items answer) free some may =
    never-polled reading.due (option_eq nat_eq wait (wait_of reading.state)) free may
comes-first reading (entry.Accept door answer) free some may =
    never-served reading (is_next reading.state reading.line.queue (Accept door)) some may
comes-first reading (entry.Read port room bytes answer) free some may =
    never-served reading
    (is_next reading.state reading.line.queue (Read port) && ((room == read_room) && is_read room bytes answer)) some may
comes-first reading (entry.Write port offered answer) free some may =
    never-served reading
    (is_next reading.state reading.line.queue (Write port)
    && (bytes_eq offered (owed_of port reading.state) && is_taken (length offered) answer)) some may
comes-first reading (entry.Close port answer) free some may =
    let closing : is_closing port Free ≡ true = subst (λ d. is_closing port d ≡ true) (free-is reading.due free) may in
    absurd cc
comes-first reading (entry.Start job answer) free some may =
    (and_both (is_free reading.due) (is_first_job job (starts reading.state)) may).1
comes-first reading (entry.Now answer) free some may =
    let idle = is_idle reading.state reading.line in
    let look : idle ≡ true = subst (λ d. reads_clock d idle ≡ true) (free-is reading.due free) may in
    one-waits (starts reading.state) some
    (and_both (not (has_job (starts reading.state)))
    (not (list_any (is_servable reading.state) (reading.line.queue ++ things_aside reading.line.aside))) look).0

pub started-first : (reading after : LoopState) (next : Entry) → is_free reading.due ≡ true
    → has_job (starts reading.state) ≡ true → after_if_legal reading next ≡ Some after
    → starts_first (starts reading.state) next ≡ true
started-first reading after next free some is = comes-first reading next free some (leads reading after next is).comes
