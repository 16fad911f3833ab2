-- The steps of section 5.1.6 make a signature.
use Rattle.std.proofs.Common.{◌≡◌, ℕ, ◌%◌, List, [], ◌++◌, take, drop, ◌∙◌, sym, refl, length, arith, true, false, not}
use Rattle.std.proofs.lemmas.List.{append-nil, take_at, drop_at}
use Rattle.std.proofs.lemmas.Bool.{not-false, not-true, both_ways}
use Rattle.std.proofs.Math.ListN.{drop_of_length-le}
use borrow.Rule.Slice.PartMut.{put_mid}
use lib.Pointwise.{pointwise, bytes_decides}
use lib.Dec.{eqb}
use Rattle.sha2.specs.Sha512.{sha512}
use Rattle.words64.specs.Numbers.{little_endian, octets}
use Rattle.scalar25519.specs.Scalars.{order, clamped, scalar_mul_add}
use Rattle.curve25519.specs.Points.{base}
use Rattle.curve25519.specs.Multiples.{multiply}
use Rattle.curve25519.specs.Encoding.{encoded}
use Rattle.ed25519.specs.Keys.{public_key, secret_scalar}
use Rattle.ed25519.specs.Signatures.{signature, commitment, nonce, challenge, response}

-- the public key, by the steps of section 5.1.5
pub secret_scalar-made : (seed hash : List ℕ) (s : ℕ) → hash ≡ sha512 seed
    → s ≡ clamped (little_endian (take 32 hash))
    → s ≡ secret_scalar seed
unfolding secret_scalar
secret_scalar-made seed hash s hash_is s_is = cc

pub public_key-made : (seed made : List ℕ) (s : ℕ) → s ≡ secret_scalar seed
    → made ≡ octets (encoded (multiply s base))
    → made ≡ public_key seed
unfolding public_key
public_key-made seed made s s_is made_is = cc

pub signature-made : (seed message hash public hash2 r_bytes hash3 s_bytes out : List ℕ) (scalar r r_words k answer answer_words : ℕ)
    → hash ≡ sha512 seed → scalar ≡ secret_scalar seed → public ≡ public_key seed
    → hash2 ≡ sha512 (take 32 (drop 32 hash) ++ message) → r ≡ little_endian hash2 % order
    → r_words ≡ r → r_bytes ≡ octets (encoded (multiply r_words base))
    → hash3 ≡ sha512 (r_bytes ++ public ++ message) → k ≡ little_endian hash3 % order
    → answer ≡ scalar_mul_add scalar k r → answer_words ≡ answer → s_bytes ≡ octets answer_words → out ≡ r_bytes ++ s_bytes
    → out ≡ signature seed message
unfolding signature commitment nonce challenge response
signature-made seed message hash public hash2 r_bytes hash3 s_bytes out scalar r r_words k answer answer_words
    e1 e2 e3 e4 e5 e6 e7 e8 e9 e10 e11 e12 e13 =
    cc

-- two halves of 32 bytes, each put in its place
pub put_mid-halves : (xs ys zeros first second : List ℕ) → length first ≡ 32 → length zeros ≡ 32
    → xs ≡ first → ys ≡ second
    → put_mid 32 32 (xs ++ zeros) ys ≡ first ++ second
put_mid-halves xs ys zeros first second first_size zeros_size xs_is ys_is =
    let taken : take 32 (first ++ zeros) ≡ first = take_at first zeros 32 first_size in
    let dropped : drop 32 (first ++ zeros) ≡ zeros = drop_at first zeros 32 first_size in
    let none : drop 32 zeros ≡ [] = drop_of_length-le zeros {i = 32} (omega arith) in
    rw (xs_is, ys_is, taken, dropped, none, append-nil) refl

-- what the comparison of the public keys says
pub keys-differ : (made public key : List ℕ) → made ≡ key → true ≡ not (pointwise eqb made public)
    → public ≡ key → ⊥
keys-differ made public key made_is test same =
    both_ways (pointwise eqb made public) (not-true (pointwise eqb made public) (sym test))
    ((bytes_decides made public).1 (made_is ∙ sym same))

pub keys-same : (made public key : List ℕ) → made ≡ key → false ≡ not (pointwise eqb made public)
    → public ≡ key
keys-same made public key made_is test =
    sym ((bytes_decides made public).0 (not-false (pointwise eqb made public) (sym test))) ∙ made_is
