-- The steps b to g of RFC 6979, section 3.2.
use Rattle.std.proofs.Common.{◌≡◌, ◌%◌, ℕ, List, [], ◌∷◌, ◌++◌, replicate}
use Rattle.wide_words.specs.Numbers.{bits_to_int, octets}
use Rattle.p384_order.specs.Scalars.{order}
use Rattle.p384_ecdsa.specs.declared.nonce.State.{State}
use Rattle.p384_ecdsa.specs.Nonces.{hash_octets, mac, seeded}

abbrev state_of : List ℕ → List ℕ → State
state_of k v = record { key = k; value = v }

pub seeded-made : (d e d_number e_number : ℕ) (hash x z v k text1 k1 v1 text2 k2 v2 : List ℕ)
    → e ≡ bits_to_int 384 hash % order → d_number ≡ d → x ≡ octets 48 d_number → e_number ≡ e → z ≡ octets 48 e_number
    → v ≡ replicate 48 1 → k ≡ replicate 48 0
    → text1 ≡ v ++ (0 ∷ []) ++ x ++ z → k1 ≡ mac k text1 → v1 ≡ mac k1 v
    → text2 ≡ v1 ++ (1 ∷ []) ++ x ++ z → k2 ≡ mac k1 text2 → v2 ≡ mac k2 v1
    → state_of k2 v2 ≡ seeded d hash
unfolding seeded hash_octets
seeded-made d e d_number e_number hash x z v k text1 k1 v1 text2 k2 v2 e1 e2 e3 e4 e5 e6 e7 e8 e9 e10 e11 e12 e13 = cc
