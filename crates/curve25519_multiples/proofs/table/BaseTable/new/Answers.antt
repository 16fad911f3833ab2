use Rattle.std.proofs.Common.{◌∙◌, ap, sym, arith, length}
use Rattle.curve25519.specs.Points.{addend_of, base, neutral, point_add}
use Rattle.group_laws.proofs.DigitLemmas.{rows-next, step_of-next, step_of-none}
use Rattle.curve25519_multiples.proofs.table.BaseTable.new.Goals as goal

pub loop-row-init : goal.loop-row-init
loop-row-init c = record {
  size = ap length c.new-entries.ensures.items;
  next = c.base-step.ensures ∙ sym (step_of-none point_add neutral base);
  entry = λ place other below. absurd (omega arith);
}

pub loop-row-preserved : goal.loop-row-preserved
loop-row-preserved c =
    let l = c.loop-row in
    let row = c.in_ok-step.ensures in
    record {
      size = row.size ∙ simp l.invariant.size (omega arith);
      next = step_of-next point_add neutral l._row base _ _ l.invariant.next row.next;
      entry = rows-next addend_of point_add neutral base _ _ l._row _ l.invariant.size l.invariant.next l.invariant.entry row.kept row.row;
    }

pub invariant_of-result : goal.invariant_of-result
invariant_of-result c = record {
  prepared = record {
    size = omega arith;
    entry = λ place other below. c.loop-row.invariant.entry place other (omega arith);
  };
}
