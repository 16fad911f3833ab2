use Rattle.std.proofs.Common.{◌∙◌, [], ◌++◌, ap, refl, replicate, take}
use Rattle.std.proofs.lemmas.List.{append-nil}
use borrow.Rule.Slice.PartMut.{put_mid}
use Rattle.wide_words.proofs.ByteLemmas.{put_mid-next}
use Rattle.p521_ecdsa.proofs.nonce.front_of_both.Goals as goal

pub returns : goal.returns
returns c =
    let first = c.args.first.now in
    let second = c.args.second.now in
    ap (λ w. put_mid 64 2 w c.copy_from_slice-2.new.self)
    (put_mid-next 0 64 [] (replicate 66 0) _ first refl c.copy_from_slice.ensures.after)
    ∙ put_mid-next 64 2 first (replicate 2 0) _ (take 2 second) c.told-first c.copy_from_slice-2.ensures.after
    ∙ append-nil (first ++ take 2 second)
