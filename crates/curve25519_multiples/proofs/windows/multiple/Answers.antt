use Rattle.std.proofs.Common.{ap, refl, ◌∙◌}
use Rattle.words64.specs.Numbers.{octets}
use Rattle.curve25519_multiples.proofs.TableLemmas.{front-stands, nothing-stands, whole-stands}
use Rattle.curve25519_multiples.proofs.windows.multiple.Goals as goal

pub loop-turn-init : goal.loop-turn-init
loop-turn-init c = λ x p_is. nothing-stands c.args.s.now _ c.copied.ensures.fits c.neutral-sum.ensures x

pub loop-turn-preserved : goal.loop-turn-preserved
loop-turn-preserved c =
    let l = c.loop-turn in
    front-stands c.args.point.now c.args.s.now l.turn _ _ _ _ _ _ c.loop-turn-test.true refl (c.to_bytes-bytes.ensures ∙ ap octets c.copied.ensures.same)
    (c.with_digit.ensures c.args.point.now c.row_of-row.ensures) (c.with_digit-sum.ensures c.args.point.now c.row_of-row.ensures) l.invariant

pub returns-clause-stands : goal.returns-clause-stands
returns-clause-stands c = whole-stands c.args.point.now c.args.s.now _ _ c.loop-turn-test.false c.loop-turn.invariant
