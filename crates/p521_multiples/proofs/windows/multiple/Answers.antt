use Rattle.std.proofs.Common.{refl}
use Rattle.p521_multiples.proofs.TableLemmas.{front-stands, nothing-stands, whole-stands}
use Rattle.p521_multiples.proofs.windows.multiple.Goals as goal

pub loop-place-init : goal.loop-place-init
loop-place-init c = λ x p_is. nothing-stands c.args.s.now _ c.requires c.neutral-sum.ensures x

pub loop-place-preserved : goal.loop-place-preserved
loop-place-preserved c =
    let l = c.loop-place in
    front-stands c.args.point.now c.args.s.now l.place _ _ _ _ _ _ c.loop-place-test.true refl c.to_bytes-bytes.ensures
    (c.with_digit.ensures c.args.point.now c.row_of-row.ensures) (c.with_digit-sum.ensures c.args.point.now c.row_of-row.ensures) l.invariant

pub returns : goal.returns
returns c = whole-stands c.args.point.now c.args.s.now _ _ c.loop-place-test.false c.loop-place.invariant
