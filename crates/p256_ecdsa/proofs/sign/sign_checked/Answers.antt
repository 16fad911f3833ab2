use Rattle.std.proofs.Common.{◌≡◌, ◌≢◌, ◌⊎◌, ◌∙◌, ap, sym, refl, inl, inr, ℕ, List, true, false, Some, None, Option, MatchOption, ◌%◌}
use Rattle.sha2.specs.Sha256.{sha256}
use Rattle.p256_order.specs.Scalars.{order}
use Rattle.p256_ecdsa.specs.Keys.{in_range, public_key}
use Rattle.p256_ecdsa.specs.Signatures.{signature}
use Rattle.p256_ecdsa.proofs.KeyLemmas.{in_range-same}
use Rattle.p256_ecdsa.proofs.sign.sign_checked.Goals as goal

-- what the signature of the hash says of that of the message
checked : (result : Option (List ℕ)) (d s number : ℕ) (public text : List ℕ) → number ≡ d → in_range number ≡ true
    → public ≡ public_key d → s ≡ number % order
    → MatchOption result (signature s (sha256 text) ≡ None) (λ bytes. signature s (sha256 text) ≡ Some bytes)
    → MatchOption result
    ((in_range d ≡ false) ⊎ ((public ≢ public_key d) ⊎ (signature d (sha256 text) ≡ None)))
    (λ bytes. (in_range d ≡ true) × (public ≡ public_key d) × (signature d (sha256 text) ≡ Some bytes))
checked None d s number public text d_is within same s_is is =
    let scalar : s ≡ d = s_is ∙ in_range-same number within ∙ d_is in
    inr (inr (rw scalar at is))
checked (Some bytes) d s number public text d_is within same s_is is =
    let scalar : s ≡ d = s_is ∙ in_range-same number within ∙ d_is in
    (ap in_range (sym d_is) ∙ within, same, rw scalar at is)

pub returns-then-not-is_in_range : goal.returns-then-not-is_in_range
returns-then-not-is_in_range c = inl (ap in_range (sym c.from_bytes-d.ensures) ∙ sym c.if-not-is_in_range.ensures)

pub returns-then-not-is_key_of : goal.returns-then-not-is_key_of
returns-then-not-is_key_of c =
    inr (inl (λ same. c.if-not-is_key_of.ensures.other refl (same ∙ ap public_key (sym c.from_bytes-d.ensures))))

pub returns : goal.returns
returns c =
    checked _ _ _ _ _ _ c.from_bytes-d.ensures (sym c.if-not-is_in_range.ensures)
    (c.if-not-is_key_of.ensures.same refl ∙ ap public_key c.from_bytes-d.ensures)
    c.from_words.ensures c.sign_twice.ensures
