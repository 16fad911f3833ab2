use Rattle.std.proofs.Common.{◌∙◌, ◌∷◌, [], ◌++◌, ap, arith, refl, replicate}
use Rattle.std.proofs.lemmas.List.{append-nil}
use borrow.Rule.Slice.PartMut.{put_mid}
use Rattle.wide_words.proofs.ByteLemmas.{put_mid-next}
use Rattle.p521_curve.proofs.decoding.joined.Goals as goal

pub returns : goal.returns
returns c =
    let x = c.args.x.now in
    let y = c.args.y.now in
    ap (λ w. put_mid 67 66 w c.copy_from_slice-2.new.self)
    (put_mid-next 1 66 (4 ∷ []) (replicate 132 4) _ x refl c.copy_from_slice.ensures.after)
    ∙ put_mid-next 67 66 (4 ∷ x) (replicate 66 4) _ y (omega (arith, c.told-x)) c.copy_from_slice-2.ensures.after
    ∙ append-nil (4 ∷ (x ++ y))
