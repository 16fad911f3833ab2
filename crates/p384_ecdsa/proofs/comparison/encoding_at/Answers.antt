use Rattle.std.proofs.Common.{◌∙◌, ◌∷◌, [], ◌++◌, ap, refl, replicate}
use Rattle.std.proofs.lemmas.List.{append-nil}
use Rattle.wide_words.specs.Numbers.{octets}
use Rattle.wide_words.proofs.ByteLemmas.{put_mid-next}
use Rattle.p384_ecdsa.proofs.comparison.encoding_at.Goals as goal

pub returns : goal.returns
returns c =
    let x = c.args.x.now in
    let y = c.args.y.now in
    put_mid-next 1 96 (4 ∷ []) (replicate 96 4) _ c.both.result refl c.copy_from_slice.ensures.after
    ∙ append-nil (4 ∷ c.both.result)
    ∙ ap (λ l. 4 ∷ l) c.both.ensures
    ∙ ap (λ l. 4 ∷ (l ++ c.to_bytes-2.result)) (c.to_bytes.ensures ∙ ap (octets 48) c.to_words.ensures)
    ∙ ap (λ l. 4 ∷ (octets 48 x ++ l)) (c.to_bytes-2.ensures ∙ ap (octets 48) c.to_words-2.ensures)
