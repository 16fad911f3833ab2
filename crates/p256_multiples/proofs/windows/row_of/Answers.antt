use Rattle.std.proofs.Common.{◌∙◌, sym, arith, refl, length-set}
use Rattle.p256_curve.specs.Points.{neutral, point_add}
use Rattle.group_laws.proofs.DigitLemmas.{row-set, times-next, times-none}
use Rattle.p256_multiples.proofs.windows.row_of.Goals as goal

pub loop-place-init : goal.loop-place-init
loop-place-init c = record {
  next = c.neutral-entry.ensures ∙ sym (times-none point_add neutral _);
  size = refl;
  entry = λ place other below. absurd (omega arith);
}

pub loop-place-preserved : goal.loop-place-preserved
loop-place-preserved c =
    let l = c.loop-place in
    record {
      next = times-next point_add neutral l.place _ _ _ l.invariant.next c.add-next.ensures;
      size = simp length-set l.invariant.size;
      entry = row-set (λ p. p) point_add neutral _ _ l.place _ c.loop-place-test.true l.invariant.size l.invariant.entry
          l.invariant.next;
    }

pub returns : goal.returns
returns c = record { entry = λ place other below. c.loop-place.invariant.entry place other (omega arith) }
