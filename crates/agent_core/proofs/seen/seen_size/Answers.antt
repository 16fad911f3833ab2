use Rattle.std.proofs.Common.{arith}
use Rattle.agent_core.specs.Seen.{is_seen}
use Rattle.agent_core.proofs.SeenLemmas.{adds-bound, entries_len-more, seen-end, seen-more}
use Rattle.agent_core.proofs.seen.seen_size.Goals as goal

pub with_entry-size-requires-clause-body : goal.with_entry-size-requires-clause-body
with_entry-size-requires-clause-body c =
    let l = c.loop-identity in
    omega (arith, entries_len-more c.in-Some.identity.now c.next.new.self l.identity-iterator c.in-Some.ensures.steps, l.invariant.2)

pub loop-identity-preserved : goal.loop-identity-preserved
loop-identity-preserved c =
    let l = c.loop-identity in
    let f = is_seen c.args.asker.now in
    let key = c.in-Some.identity.now in
    let more = entries_len-more key c.next.new.self l.identity-iterator c.in-Some.ensures.steps in
    let adds = seen-more f key c.next.new.self l.identity-iterator c.in-Some.ensures.steps in
    let bound = adds-bound (f key) key in (
      omega (arith, l.invariant.0, adds.count, c.with_entry-size.ensures.count),
      omega (arith, l.invariant.1, adds.len, c.with_entry-size.ensures.body),
      omega (arith, l.invariant.2, more, bound.0, c.with_entry-size.ensures.body),
      omega (arith, l.invariant.3, bound.1, c.with_entry-size.ensures.count, c.with_entry-size.ensures.body),
    )

pub returns-clause-body : goal.returns-clause-body
returns-clause-body c =
    let l = c.loop-identity in
    omega (arith, l.invariant.1, seen-end (is_seen c.args.asker.now) l.identity-iterator c.in-None.ensures.steps.0)
