use Rattle.std.proofs.Common.{◌∙◌, ap, nat_eq}
use Rattle.ed25519.proofs.SumLemmas.{sum-opposite}
use Rattle.ed25519.proofs.verification.holds.Goals as goal

pub returns : goal.returns
returns c =
    c.equals.ensures
    ∙ ap (λ n. nat_eq n c.args.r.now)
    (c.encode.ensures
    ∙ sum-opposite c.args.a c.negated.result _ _ _ c.args.s.now c.args.k.now c.requires c.negated.ensures
    (c.add.ensures _ c.of.ensures) c.multiple-left.ensures.fits c.multiple-right.ensures.fits
    c.multiple-left.ensures.stands c.multiple-right.ensures.stands)
