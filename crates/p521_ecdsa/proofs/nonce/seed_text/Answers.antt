use Rattle.std.proofs.Common.{◌∙◌, ◌∷◌, [], ◌++◌, ap, arith, length-append, refl, replicate, sym}
use Rattle.std.proofs.lemmas.List.{append-nil, append_assoc}
use borrow.Rule.Slice.PartMut.{put_mid}
use Rattle.wide_words.proofs.ByteLemmas.{put_mid-next}
use Rattle.p521_ecdsa.proofs.nonce.seed_text.Goals as goal

pub returns : goal.returns
returns c =
    let head = c.args.value.now ++ c.args.tag ∷ [] in
    let x = c.args.x.now in
    let z = c.args.z.now in
    ap (λ w. put_mid 65 132 w c.copy_from_slice-2.new.self)
    (put_mid-next 0 65 [] (replicate 197 0) _ head refl (c.copy_from_slice.ensures.after ∙ c.tagged.ensures))
    ∙ put_mid-next 65 132 head (replicate 132 0) _ (x ++ z) (simp length-append (omega (arith, c.told-value)))
    (c.copy_from_slice-2.ensures.after ∙ c.both.ensures)
    ∙ append-nil (head ++ (x ++ z))
    ∙ sym (append_assoc head x z)
