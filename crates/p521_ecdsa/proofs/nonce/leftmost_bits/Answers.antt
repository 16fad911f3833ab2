use Rattle.std.proofs.Common.{◌∙◌, sym, arith, ◌≡◌, ℕ, List, ◌∷◌, ◌++◌, ap, refl, replicate}
use Rattle.std.proofs.lemmas.List.{append-nil}
use Rattle.wide_words.specs.Numbers.{big_endian, big_endian_from}
use Rattle.wide_words.proofs.ByteLemmas.{bits_to_int-all, put_mid-next}
use Rattle.p521_ecdsa.proofs.nonce.leftmost_bits.Goals as goal

-- zeros before the bytes leave the number
leading_zeros : (bytes : List ℕ) → big_endian (0 ∷ 0 ∷ bytes) ≡ big_endian bytes
unfolding big_endian big_endian_from
leading_zeros bytes = refl

pub returns : goal.returns
unfolding big_endian
returns c =
    c.from_bytes.ensures
    ∙ ap big_endian (put_mid-next 2 64 (replicate 2 0) (replicate 64 0) _ c.args.bytes.now refl c.copy_from_slice.ensures.after ∙ append-nil (replicate 2 0 ++ c.args.bytes.now))
    ∙ leading_zeros c.args.bytes.now ∙ sym (bits_to_int-all 521 c.args.bytes.now (omega (arith, c.told-bytes)))
