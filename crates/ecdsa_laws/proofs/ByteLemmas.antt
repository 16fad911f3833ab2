-- Numbers in so many bytes, the highest first, and read again.
use Rattle.std.proofs.Common.{◌≡◌, ◌<◌, ℕ, zero, suc, ◌+◌, ◌*◌, ◌%◌, ◌^◌, List, ◌∷◌, ◌++◌, take, drop, arith, ap, refl, ◌∙◌, mul_comm, pow-suc}
use Rattle.std.proofs.Math.Arith.{mod-mul}
use Rattle.std.proofs.Math.Nat.{mod-eq_of_lt, pow-le-pow_right}
use Rattle.std.specs.Int.{byte_at, bytes_high_first}
use Rattle.wide_words.specs.Numbers.{big_endian, big_endian_from, octets}

-- one more byte in front of the low k bytes
byte-on : (k n high : ℕ)
    → (256 * high + byte_at k n) * 256 ^ k + n % 256 ^ k ≡ high * 256 ^ suc k + n % 256 ^ suc k
byte-on zero n high = omega arith
byte-on (suc k) n high =
    let unit = 256 ^ suc k in
    let wider : 256 ^ suc (suc k) ≡ 256 * unit = pow-suc 256 (suc k) ∙ mul_comm unit 256 in
    let some : 0 < unit = pow-le-pow_right {n = 256} (omega arith) {i = 0} {j = suc k} (omega arith) in
    rw (wider, mod-mul n {m = 256} {c = unit} (omega arith) some) (omega arith)

-- the bytes behind a number go on from it
number-read : (k n high : ℕ) → big_endian_from high (bytes_high_first k n) ≡ high * 256 ^ k + n % 256 ^ k
unfolding big_endian_from
number-read zero n high = omega arith
number-read (suc k) n high = number-read k n (256 * high + byte_at k n) ∙ byte-on k n high

none-before : (low rest : ℕ) → 0 * low + rest ≡ rest
none-before low rest = omega arith

-- a number in as many bytes as it has is read again
pub number-of-octets : (k n : ℕ) → n < 256 ^ k → big_endian (octets k n) ≡ n
unfolding big_endian octets
number-of-octets k n below = number-read k n 0 ∙ none-before (256 ^ k) (n % 256 ^ k) ∙ mod-eq_of_lt below

-- a number's bytes, and what follows them
pub take-octets : (k n : ℕ) (rest : List ℕ) → take k (octets k n ++ rest) ≡ octets k n
unfolding octets
take-octets zero n rest = refl
take-octets (suc k) n rest = ap (λ bytes. byte_at k n ∷ bytes) (take-octets k n rest)

pub drop-octets : (k n : ℕ) (rest : List ℕ) → drop k (octets k n ++ rest) ≡ rest
unfolding octets
drop-octets zero n rest = refl
drop-octets (suc k) n rest = drop-octets k n rest

pub octets-alone : (k n : ℕ) → take k (octets k n) ≡ octets k n
unfolding octets
octets-alone zero n = refl
octets-alone (suc k) n = ap (λ bytes. byte_at k n ∷ bytes) (octets-alone k n)

-- two numbers in as many bytes each, one after the other, are read again
pub first-read : (k n m : ℕ) → n < 256 ^ k → big_endian (take k (octets k n ++ octets k m)) ≡ n
first-read k n m below = ap big_endian (take-octets k n (octets k m)) ∙ number-of-octets k n below

pub second-read : (k n m : ℕ) → m < 256 ^ k → big_endian (take k (drop k (octets k n ++ octets k m))) ≡ m
second-read k n m below =
    ap (λ bytes. big_endian (take k bytes)) (drop-octets k n (octets k m)) ∙ ap big_endian (octets-alone k m) ∙ number-of-octets k m below
