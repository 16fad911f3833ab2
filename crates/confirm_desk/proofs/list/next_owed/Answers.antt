use Rattle.std.proofs.Common.{ap, ◌∙◌, drop, ℕ, ◌+◌, Option}
use Rattle.confirm_desk.specs.Calls.{lesser, next_owed}
use Rattle.confirm_desk.proofs.OwedLemmas.{least_goes_on, least_ends}
use Rattle.confirm_desk.proofs.list.next_owed.Goals as goal

pub loop-one-preserved : goal.loop-one-preserved
loop-one-preserved c =
    let l = c.loop-one in
    let all = c.args.pending.now in
    ap (λ (d : Option ℕ). lesser d (next_owed c.args.after (drop (l.one-index + 1) all))) (c.lesser-least.ensures ∙ ap (lesser l.least) c.owed_port.ensures)
    ∙ least_goes_on c.args.after all l.one-index l.least c.one-item.result c.loop-one-test.true c.one-item.is l.invariant

pub returns : goal.returns
returns c =
    let l = c.loop-one in
    least_ends c.args.after c.args.pending.now l.one-index l.least c.loop-one-test.false l.invariant
