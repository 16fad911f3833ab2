-- The steps b to g of RFC 6979, section 3.2.
use Rattle.std.proofs.Common.{◌≡◌, ◌%◌, ℕ, List, [], ◌∷◌, ◌++◌, replicate, ◌<◌, ◌+◌, ◌-◌, ◌*◌, ◌/◌, ◌^◌, arith, ap, sym, refl, ◌∙◌, take, drop, length}
use Rattle.std.specs.List.{All}
use Rattle.std.proofs.Math.Nat.{div-div-eq-div-mul, pow-suc}
use Rattle.std.proofs.lemmas.List.{append_assoc, length-append, length-drop, take-append-drop}
use Rattle.std.proofs.lemmas.List.Elements.{All-drop, All-head, All-tail}
use Rattle.wide_words.specs.Numbers.{big_endian, big_endian_from, bits_to_int, octets}
use Rattle.p521_order.specs.Scalars.{order}
use Rattle.p521_ecdsa.specs.declared.nonce.State.{State}
use Rattle.p521_ecdsa.specs.Nonces.{hash_octets, mac, seeded}

abbrev state_of : List ℕ → List ℕ → State
state_of k v = record { key = k; value = v }

pub seeded-made : (d e d_number e_number : ℕ) (hash x z v k text1 k1 v1 text2 k2 v2 : List ℕ)
    → e ≡ bits_to_int 521 hash % order → d_number ≡ d → x ≡ octets 66 d_number → e_number ≡ e → z ≡ octets 66 e_number
    → v ≡ replicate 64 1 → k ≡ replicate 64 0
    → text1 ≡ v ++ (0 ∷ []) ++ x ++ z → k1 ≡ mac k text1 → v1 ≡ mac k1 v
    → text2 ≡ v1 ++ (1 ∷ []) ++ x ++ z → k2 ≡ mac k1 text2 → v2 ≡ mac k2 v1
    → state_of k2 v2 ≡ seeded d hash
unfolding seeded hash_octets
seeded-made d e d_number e_number hash x z v k text1 k1 v1 text2 k2 v2 e1 e2 e3 e4 e5 e6 e7 e8 e9 e10 e11 e12 e13 = cc

-- the number of bytes behind others goes on from theirs
big_endian_from-append : (n : ℕ) (xs ys : List ℕ) → big_endian_from n (xs ++ ys) ≡ big_endian_from (big_endian_from n xs) ys
unfolding big_endian_from
big_endian_from-append n [] ys = refl
big_endian_from-append n (x ∷ xs) ys = big_endian_from-append (256 * n + x) xs ys

by-one : (n : ℕ) → n / 256 ^ 0 ≡ n
by-one n = omega arith

byte-off : (n byte : ℕ) → byte < 256 → (256 * n + byte) / 256 ≡ n
byte-off n byte small = omega arith

-- the bytes behind a number, taken off it again
cut : (n : ℕ) (bytes : List ℕ) → All (λ byte. byte < 256) bytes → big_endian_from n bytes / 256 ^ length bytes ≡ n
unfolding big_endian_from
cut n [] each = by-one n
cut n (byte ∷ bytes) each =
    ap (λ d. big_endian_from (256 * n + byte) bytes / d) (pow-suc 256 (length bytes))
    ∙ sym (div-div-eq-div-mul (big_endian_from (256 * n + byte) bytes) (256 ^ length bytes) 256)
    ∙ ap (λ m. m / 256) (cut (256 * n + byte) bytes (All-tail (λ b. b < 256) byte bytes each))
    ∙ byte-off n byte (All-head (λ b. b < 256) byte bytes each)

-- the leftmost bits of two digests are those of the first 66 bytes
pub leftmost-both : (first second : List ℕ) → length first ≡ 64 → length second ≡ 64 → All (λ byte. byte < 256) second
    → big_endian (first ++ take 2 second) / 2 ^ 7 ≡ bits_to_int 521 (first ++ second)
unfolding bits_to_int big_endian
leftmost-both first second first_size second_size each =
    let kept : List ℕ = first ++ take 2 second in
    let left : List ℕ = drop 2 second in
    let size : length left ≡ 62 = length-drop 2 second ∙ ap (λ n. n - 2) second_size in
    let whole : first ++ second ≡ kept ++ left =
    ap (λ l. first ++ l) (sym (take-append-drop 2 second)) ∙ sym (append_assoc first (take 2 second) left) in
    let bits : 8 * length (first ++ second) - 521 ≡ 503 = omega (arith, length-append first second, first_size, second_size) in
    let off : big_endian_from 0 (first ++ second) / 256 ^ 62 ≡ big_endian_from 0 kept =
    ap (λ l. big_endian_from 0 l / 256 ^ 62) whole
    ∙ ap (λ m. m / 256 ^ 62) (big_endian_from-append 0 kept left)
    ∙ ap (λ k. big_endian_from (big_endian_from 0 kept) left / 256 ^ k) (sym size)
    ∙ cut (big_endian_from 0 kept) left (All-drop (λ byte. byte < 256) 2 second each) in
    ap (λ m. m / 2 ^ 7) (sym off)
    ∙ div-div-eq-div-mul (big_endian_from 0 (first ++ second)) (256 ^ 62) (2 ^ 7)
    ∙ ap (λ d. big_endian_from 0 (first ++ second) / d) power
    ∙ ap (λ e. big_endian_from 0 (first ++ second) / 2 ^ e) (sym bits)
  where
    power : 256 ^ 62 * 2 ^ 7 ≡ 2 ^ 503
    power = refl
