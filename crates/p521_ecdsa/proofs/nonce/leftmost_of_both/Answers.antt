use Rattle.std.proofs.Common.{◌∙◌, ◌<◌, ◌/◌, ◌^◌, ap, arith}
use Rattle.std.proofs.lemmas.List.Elements.{All-from_get_or}
use Rattle.wide_words.specs.Numbers.{big_endian}
use Rattle.p521_ecdsa.proofs.NonceLemmas.{leftmost-both}
use Rattle.p521_ecdsa.proofs.nonce.leftmost_of_both.Goals as goal

pub returns : goal.returns
returns c =
    let second = c.args.second.now in
    c.without_low_bits.ensures
    ∙ ap (λ n. n / 2 ^ 7) c.from_bytes.ensures
    ∙ ap (λ l. big_endian l / 2 ^ 7) c.front_of_both.ensures
    ∙ leftmost-both c.args.first.now second c.told-first c.told-second (All-from_get_or (λ byte. byte < 256) second 0 (λ i within. omega (arith, c.fits-second i)))
