use Rattle.std.proofs.Common.{List, arith, drop, length-drop, subst}
use Rattle.std.proofs.lemmas.List.{take_all}
use Rattle.world_ports.proofs.StreamLemmas.{OnlyWrites-trans}
use Rattle.replay_run.specs.Replay.{parts_of}
use Rattle.audit_core.specs.Puts.{puts_from}
use Rattle.audit_core.specs.Reports.{put_line}
use Rattle.audit_core.specs.Writing.{Lists, Stops}
use Rattle.audit_core.specs.declared.put.Put.{Put}
use Rattle.std.specs.List.{flat_map}
use Rattle.audit_core.proofs.AdvanceLemmas.{notes_end, notes_on}
use Rattle.audit_core.proofs.WritingLemmas.{listing_goes, listing_last, listing_memory, listing_stops}
use Rattle.audit_core.proofs.writing.list_run.Goals as goal

pub lines-preserved : goal.lines-preserved
lines-preserved g c =
    let notes = rw c.in-Ok-Some.field-0-is at c.in-Ok-Some.ensures in
    let goes = notes_on c.lines.run c.lines.rest.now c.run_next.new.run c.in-Ok-Some.size c.lines.noting.puts.items c.run_next.new.watch.puts.items notes c.lines.invariant.puts in
    record {
      counted = goes.counted;
      puts = c.clear.ensures.items;
      listing =
          listing_goes (puts_from c.args.run.now (parts_of c.args.recording.now)) c.deref.result.now c.run_next.new.watch.puts.items c.lines.run c.run_next.new.run
          c.lines.rest.now _ c.in-Ok-Some.size c.lines.count c.in_ok-count-in-Ok-Some.count
          (g.O.Stream.seen c.args.output.now) (g.O.Stream.seen c.lines.output) (g.O.Stream.seen c.list_puts.new.output)
          goes (take_all _ _ (omega (arith, length-drop c.in-Ok-Some.size c.lines.rest.now))) c.deref.ensures.value c.lines.invariant.listing c.in_ok-count-in-Ok-Some.ensures.lists;
      only = OnlyWrites-trans _ _ _ c.lines.invariant.only c.list_puts.ensures.only;
    }

pub returns-in-Err-clause-lists : goal.returns-in-Err-clause-lists
returns-in-Err-clause-lists g c =
    listing_memory (puts_from c.args.run.now (parts_of c.args.recording.now)) (puts_from c.lines.run (parts_of c.lines.rest.now)) c.lines.count (g.O.Stream.seen c.args.output.now) (g.O.Stream.seen c.lines.output) c.lines.invariant.listing

pub returns-in_err-count-in-Ok-Some-clause-lists : goal.returns-in_err-count-in-Ok-Some-clause-lists
returns-in_err-count-in-Ok-Some-clause-lists g c =
    let notes = rw c.in-Ok-Some.field-0-is at c.in-Ok-Some.ensures in
    let goes = notes_on c.lines.run c.lines.rest.now c.run_next.new.run c.in-Ok-Some.size c.lines.noting.puts.items c.run_next.new.watch.puts.items notes c.lines.invariant.puts in
    let stop = c.in_err-count-in-Ok-Some.field-0.0 in
    let mid = g.O.Stream.seen c.lines.output in
    let after = g.O.Stream.seen c.list_puts.new.output in
    listing_stops c.from_residual.result stop (puts_from c.args.run.now (parts_of c.args.recording.now)) (puts_from c.lines.run (parts_of c.lines.rest.now))
    c.run_next.new.watch.puts.items (puts_from c.run_next.new.run (parts_of (drop c.in-Ok-Some.size c.lines.rest.now))) c.lines.count
    (g.O.Stream.seen c.args.output.now) mid after c.from_residual.ensures.1 goes.puts_are c.lines.invariant.listing
    (subst (λ (l : List Put). Stops stop (flat_map put_line l) mid after) c.deref.ensures.value c.in_err-count-in-Ok-Some.ensures.lists)

pub returns-in-Ok-None-clause-lists : goal.returns-in-Ok-None-clause-lists
returns-in-Ok-None-clause-lists g c =
    let notes = rw c.in-Ok-None.field-0-is at c.in-Ok-None.ensures in
    let ends = notes_end c.lines.run c.lines.rest.now c.run_next.new.run c.lines.noting.puts.items c.run_next.new.watch.puts.items notes c.lines.invariant.puts in
    let mid = g.O.Stream.seen c.lines.output in
    let after = g.O.Stream.seen c.list_puts-in-Ok-None.new.output in
    listing_last c.list_puts-in-Ok-None.result (puts_from c.args.run.now (parts_of c.args.recording.now)) (puts_from c.lines.run (parts_of c.lines.rest.now))
    c.run_next.new.watch.puts.items c.lines.count (g.O.Stream.seen c.args.output.now) mid after ends c.lines.invariant.listing
    (subst (λ (l : List Put). Lists c.list_puts-in-Ok-None.result c.lines.count l mid after) c.deref-in-Ok-None.ensures.value c.list_puts-in-Ok-None.ensures.lists)
