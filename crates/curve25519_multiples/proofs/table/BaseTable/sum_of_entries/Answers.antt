use Rattle.std.proofs.Common.{◌∙◌, ap, refl}
use Rattle.curve25519.specs.Points.{base, neutral, point_add}
use Rattle.group_laws.specs.Digits.{by_digits}
use Rattle.group_laws.proofs.DigitLemmas.{by_digits-end, by_digits-turn}
use Rattle.curve25519_multiples.proofs.table.BaseTable.sum_of_entries.Goals as goal

pub loop-row-init : goal.loop-row-init
loop-row-init c =
    ap (λ p. by_digits point_add neutral 52 0 c.copied-rest.result base p) c.neutral-sum.ensures
    ∙ ap (λ s. by_digits point_add neutral 52 0 s base neutral) c.copied-rest.ensures.same

pub loop-row-preserved : goal.loop-row-preserved
loop-row-preserved c =
    let l = c.loop-row in
    by_digits-turn point_add neutral base 52 l.row _ _ _ _ _ _ _ c.loop-row-test.true c.low_digit.ensures.value
    c.without_digit-rest.ensures refl (c.add-sum.ensures _ c.entry.ensures) l.invariant

pub returns-clause-value : goal.returns-clause-value
returns-clause-value c = by_digits-end point_add neutral base 52 _ _ _ _ c.loop-row-test.false c.loop-row.invariant
