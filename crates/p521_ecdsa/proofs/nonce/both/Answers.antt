use Rattle.std.proofs.Common.{◌∙◌, [], ◌++◌, ap, refl, replicate}
use Rattle.std.proofs.lemmas.List.{append-nil}
use borrow.Rule.Slice.PartMut.{put_mid}
use Rattle.wide_words.proofs.ByteLemmas.{put_mid-next}
use Rattle.p521_ecdsa.proofs.nonce.both.Goals as goal

pub returns : goal.returns
returns c =
    let first = c.args.first.now in
    let second = c.args.second.now in
    ap (λ w. put_mid 66 66 w c.copy_from_slice-2.new.self)
    (put_mid-next 0 66 [] (replicate 132 0) _ first refl c.copy_from_slice.ensures.after)
    ∙ put_mid-next 66 66 first (replicate 66 0) _ second c.told-first c.copy_from_slice-2.ensures.after
    ∙ append-nil (first ++ second)
