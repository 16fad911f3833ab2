use Rattle.std.proofs.Common.{◌∙◌, ap, sym, arith, refl, length, length-append}
use Rattle.curve25519.specs.Points.{addend_of, neutral, point_add}
use Rattle.group_laws.proofs.DigitLemmas.{kept-next, row-next, times-next, times-none}
use Rattle.curve25519_multiples.proofs.rows.push_row.Goals as goal

pub loop-place-init : goal.loop-place-init
loop-place-init c = record {
  next = c.neutral-entry.ensures ∙ sym (times-none point_add neutral _);
  size = omega arith;
  kept = λ k other below. refl;
  row = λ k other below. absurd (omega arith);
}

pub loop-place-preserved : goal.loop-place-preserved
loop-place-preserved c =
    let l = c.loop-place in
    let pushed = c.in_ok-push.ensures.items in
    record {
      next = times-next point_add neutral l._place _ _ _ l.invariant.next (c.add-entry.ensures _ c.of-addend.ensures);
      size = ap length pushed ∙ simp length-append (omega arith);
      kept = kept-next _ _ _ _ l._place pushed l.invariant.size l.invariant.kept;
      row = row-next addend_of point_add neutral _ _ _ _ _ l._place pushed l.invariant.size l.invariant.row (c.of.ensures ∙ ap addend_of l.invariant.next);
    }
