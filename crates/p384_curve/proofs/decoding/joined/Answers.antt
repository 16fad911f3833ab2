use Rattle.std.proofs.Common.{◌∙◌, ◌∷◌, [], ◌++◌, ap, arith, refl, replicate}
use Rattle.std.proofs.lemmas.List.{append-nil}
use borrow.Rule.Slice.PartMut.{put_mid}
use Rattle.wide_words.proofs.ByteLemmas.{put_mid-next}
use Rattle.p384_curve.proofs.decoding.joined.Goals as goal

pub returns : goal.returns
returns c =
    let x = c.args.x.now in
    let y = c.args.y.now in
    ap (λ w. put_mid 49 48 w c.copy_from_slice-2.new.self)
    (put_mid-next 1 48 (4 ∷ []) (replicate 96 4) _ x refl c.copy_from_slice.ensures.after)
    ∙ put_mid-next 49 48 (4 ∷ x) (replicate 48 4) _ y (omega (arith, c.told-x)) c.copy_from_slice-2.ensures.after
    ∙ append-nil (4 ∷ (x ++ y))
