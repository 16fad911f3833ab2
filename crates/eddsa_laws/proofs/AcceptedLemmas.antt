-- What is signed with Ed25519 is accepted: [S]B + [k](- A) is [r]B, since S is r + k s modulo L and A is [s]B.
use Rattle.std.proofs.Common.{◌≡◌, ◌<◌, ◌-◌, ℕ, zero, suc, ◌+◌, ◌*◌, ◌/◌, ◌%◌, ◌^◌, List, ◌++◌, take, drop, true, false, Option, Some, nat_eq, nat_lt, if◌then◌else◌, arith, ap, refl, sym, ◌∙◌, mul_comm, pow-suc}
use Rattle.std.proofs.Math.Nat.{div-div-eq-div-mul, mod-eq_of_lt, mod-mod}
use Rattle.std.proofs.lemmas.Bool.{eq-eqb, lt-ltb}
use Rattle.std.proofs.lemmas.Nat.{mod_below}
use Rattle.std.specs.Int.{byte_at, bytes_low_first}
use Rattle.sha2.specs.Sha512.{sha512}
use Rattle.words64.specs.Numbers.{little_endian, octets}
use Rattle.field25519.specs.Field.{prime}
use Rattle.scalar25519.specs.Scalars.{clamped, order, scalar_mul_add}
use Rattle.curve25519.specs.declared.point.Point.{Point}
use Rattle.curve25519.specs.Encoding.{decoded, encoded}
use Rattle.curve25519.specs.Multiples.{multiply}
use Rattle.curve25519.specs.Points.{base, negated, point_add, point_at}
use Rattle.ed25519.specs.Keys.{public_key, secret_scalar}
use Rattle.ed25519.specs.Signatures.{challenge, commitment, nonce, response, signature}
use Rattle.ed25519.specs.Verification.{accepts, meets}
use Rattle.curve_laws.proofs.DifferenceLemmas.{IsCongruent, equal, products, sums, then as chain}
use Rattle.group_laws.specs.Groups.{IsGroup, IsMultiple, no_times}
use Rattle.group_laws.proofs.LoopLemmas.{stands-for-sum}
use Rattle.group_laws.proofs.MultipleLemmas.{has-multiple, multiple-is-element, multiple-modulo, multiple-of-multiple, sum-of-multiples}
use Rattle.edwards_laws.specs.Points.{Affine, IsPoint, IsPointSum, StandsFor, base_point, neutral_point}
use Rattle.edwards_laws.proofs.AgainLemmas.{decoded-again}
use Rattle.edwards_laws.proofs.DecodedLemmas.{negated-stands, negated-sum, point-stands}
use Rattle.edwards_laws.proofs.EncodedLemmas.{encoding-is, same-encoding}
use Rattle.edwards_laws.proofs.GroupLemmas.{group}
use Rattle.edwards_laws.proofs.MultipleLemmas.{Stands, base-stands, formula, multiply-stands, order-leaves-neutral}

-- ---- 32 bytes

-- one byte more of a number's bytes
one-byte : (n : ℕ) → n % 256 + 256 * (n / 256) ≡ n
one-byte n = omega arith

byte-of : (i n : ℕ) → byte_at i n ≡ n / 256 ^ i % 256
byte-of zero n = omega arith
byte-of (suc i) n = refl

next-place : (i n : ℕ) → n / 256 ^ suc i ≡ n / 256 ^ i / 256
next-place i n = ap (λ d. n / d) (pow-suc 256 i) ∙ sym (div-div-eq-div-mul n (256 ^ i) 256)

-- k bytes of a number above a place, of which nothing is left above them
number-read : (i k n : ℕ) → n / 256 ^ i < 256 ^ k → little_endian (bytes_low_first i k n) ≡ n / 256 ^ i
unfolding little_endian
number-read i zero n below = omega (arith, below)
number-read i (suc k) n below =
    let rest = number-read (suc i) k n (rw (next-place i n) (fits (n / 256 ^ i) k below)) in
    ap (λ b. b + 256 * little_endian (bytes_low_first (suc i) k n)) (byte-of i n)
    ∙ ap (λ r. n / 256 ^ i % 256 + 256 * r) (rest ∙ next-place i n) ∙ one-byte (n / 256 ^ i)
  where
    fits : (m k : ℕ) → m < 256 ^ suc k → m / 256 < 256 ^ k
    fits m k below = let wider = pow-suc 256 k in omega (arith, wider, below)

first-place : (n : ℕ) → n / 256 ^ 0 ≡ n
first-place n = omega arith

number-of-octets : (n : ℕ) → n < 2 ^ 256 → little_endian (octets n) ≡ n
unfolding octets
number-of-octets n below = number-read 0 32 n (omega (arith, below)) ∙ first-place n

-- R and S are read as they were written
first-octets : (n : ℕ) (rest : List ℕ) → take 32 (octets n ++ rest) ≡ octets n
unfolding octets
first-octets n rest = refl

second-octets : (n m : ℕ) → take 32 (drop 32 (octets n ++ octets m)) ≡ octets m
unfolding octets
second-octets n m = refl

-- ---- points

-- an element has one opposite
one-opposite : {A : Type 0} {IsElement : A → Type 0} {IsSum : A → A → A → Type 0} {neutral : A}
    → IsGroup IsElement IsSum neutral → (a b c : A) → IsElement a → IsElement b → IsElement c
    → IsSum a b neutral → IsSum a c neutral → c ≡ b
one-opposite {neutral = neutral} group a b c a_on b_on c_on first second =
    group.associates b a c neutral neutral c b b_on a_on c_on (group.commutes a b neutral a_on b_on first)
    (group.neutral_adds_nothing c c_on) second
    (group.commutes neutral b b group.neutral_is_element b_on (group.neutral_adds_nothing b b_on))

base-on : IsPoint base_point
base-on = base-stands.is_point

-- [s]B + [s (L - 1)]B is (0, 1)
none-left : (s : ℕ) → (s + s * (order - 1)) % order ≡ 0 % order
none-left s =
    let whole : s + s * (order - 1) ≡ s * order = omega arith in
    ap (λ k. k % order) whole ∙ (omega arith)

opposite-multiple : (s : ℕ) (a c : Affine) → IsMultiple IsPointSum neutral_point base_point s a
    → IsMultiple IsPointSum neutral_point base_point (s * (order - 1)) c → IsPointSum a c neutral_point
opposite-multiple s a c a_is c_is =
    let a_on = multiple-is-element group base_point base-on s a a_is in
    let c_on = multiple-is-element group base_point base-on (s * (order - 1)) c c_is in
    let sum = group.total a c a_on c_on in
    let whole = sum-of-multiples group base_point base-on s (s * (order - 1)) a c sum.third a_is c_is sum.is in
    rw (multiple-modulo group base_point base-on order (s + s * (order - 1)) 0 sum.third neutral_point order-leaves-neutral (none-left s) whole no_times) at sum.is

-- so - A is [s (L - 1)]B, where A is [s]B
record IsNegated (s : ℕ) (q : Point) : Type 0 where
  z : Affine
  stands : StandsFor q z
  is : IsMultiple IsPointSum neutral_point base_point (s * (order - 1)) z

negated-is : (s : ℕ) (p : Point) (a : Affine) → StandsFor p a
    → IsMultiple IsPointSum neutral_point base_point s a → IsNegated s (negated p)
negated-is s p a p_is a_is =
    let other = negated-stands p a p_is in
    let c = has-multiple group base_point base-on (s * (order - 1)) in
    let c_on = multiple-is-element group base_point base-on (s * (order - 1)) c.q c.is in
    let same : c.q ≡ other.p = one-opposite group a other.p c.q p_is.is_point other.is.is_point c_on (negated-sum p a p_is) (opposite-multiple s a c.q a_is c.is) in
    record { z = other.p; stands = other.is; is = rw same at c.is }

-- S + k s (L - 1) is r modulo L
remaining : (s k r : ℕ) → (scalar_mul_add s k r + k * (s * (order - 1))) % order ≡ r % order
unfolding scalar_mul_add
remaining s k r =
    let rest : IsCongruent order ((r + s * k) % order + k * (s * (order - 1))) (r + s * k + k * (s * (order - 1))) =
    sums (record { is = mod-mod (r + s * k) order }) (equal order (k * (s * (order - 1))) (k * (s * (order - 1))) refl) in
    let whole : r + s * k + k * (s * (order - 1)) ≡ r + s * k * order = omega arith in
    rest.is ∙ ap (λ n. n % order) whole ∙ turns (s * k) r
  where
    turns : (n r : ℕ) → (r + n * order) % order ≡ r % order
    turns n r = omega arith

some-order : 0 < order
some-order = omega arith

response-below : (s k r : ℕ) → scalar_mul_add s k r < order
unfolding scalar_mul_add
response-below s k r = mod_below _ order some-order

-- [S]B + [k](- A) is [r]B, and is encoded so
same-point : (s k r : ℕ) (q : Point) (a : Affine) → r < order → k < order → StandsFor q a
    → IsMultiple IsPointSum neutral_point base_point s a
    → encoded (point_add (multiply (scalar_mul_add s k r) base) (multiply k (negated q))) ≡ encoded (multiply r base)
same-point s k r q a r_below k_below q_is a_is =
    let first = multiply-stands (scalar_mul_add s k r) base base_point (within _ (response-below s k r)) base-stands in
    let b = negated-is s q a q_is a_is in
    let made = multiply-stands k (negated q) b.z (within k k_below) b.stands in
    let second : Stands base_point (multiply k (negated q)) (k * (s * (order - 1))) =
    record { x = made.x; stands = made.stands; is = multiple-of-multiple group base_point base-on (s * (order - 1)) b.z b.is k made.x made.is } in
    let both = stands-for-sum formula base_point base-on (scalar_mul_add s k r) (k * (s * (order - 1))) (multiply (scalar_mul_add s k r) base) (multiply k (negated q)) first second in
    let direct = multiply-stands r base base_point (within r r_below) base-stands in
    let same = multiple-modulo group base_point base-on order (scalar_mul_add s k r + k * (s * (order - 1))) r both.x direct.x order-leaves-neutral (remaining s k r) both.is direct.is in
    same-encoding _ _ direct.x (rw same at both.stands) direct.stands
  where
    within : (n : ℕ) → n < order → n < 2 ^ 256
    within n below = omega (arith, below)

-- ---- the check

in-octets : (s : ℕ) → s < order → s < 2 ^ 256
in-octets s below = omega (arith, below)

accepted-by : (message public : List ℕ) (e s : ℕ) (q : Point) → e < 2 ^ 256 → s < order
    → decoded (little_endian public) ≡ Some q
    → encoded (point_add (multiply s base) (multiply (challenge (octets e) public message) (negated q))) ≡ e
    → accepts public message (octets e ++ octets s) ≡ true
unfolding accepts meets
accepted-by message public e s q e_fits s_below key is =
    rw (first-octets e (octets s), second-octets e s, number-of-octets s (in-octets s s_below), number-of-octets e e_fits, lt-ltb s order s_below, key, is)
    (eq-eqb e e refl)

-- y and a bit have 32 bytes
encoding-fits : (p : Point) (z : Affine) → StandsFor p z → encoded p < 2 ^ 256
encoding-fits p z is = rw (encoding-is p z is) (both-fit z.x z.y is.is_point.y_below)
  where
    both-fit : (x y : ℕ) → y < prime → y + 2 ^ 255 * (x % 2) < 2 ^ 256
    both-fit x y below = omega (arith, below)

key-decoded : (p : Point) (z : Affine) → StandsFor p z
    → decoded (little_endian (octets (encoded p))) ≡ Some (point_at z.x z.y)
key-decoded p z is =
    ap (λ n. decoded n) (number-of-octets (encoded p) (encoding-fits p z is)) ∙ decoded-again p z is

nonce-below : (seed message : List ℕ) → nonce seed message < order
unfolding nonce
nonce-below seed message = mod_below _ order some-order

challenge-below : (r a message : List ℕ) → challenge r a message < order
unfolding challenge
challenge-below r a message = mod_below _ order some-order

scalar-fits : (seed : List ℕ) → secret_scalar seed < 2 ^ 256
unfolding secret_scalar clamped
scalar-fits seed = fits (little_endian (take 32 (sha512 seed)))
  where
    fits : (n : ℕ) → n % 2 ^ 254 / 8 * 8 + 2 ^ 254 < 2 ^ 256
    fits n = omega arith

by-numbers : (message : List ℕ) (s r : ℕ) → s < 2 ^ 256 → r < order
    → accepts (octets (encoded (multiply s base))) message
    (octets (encoded (multiply r base)) ++ octets (scalar_mul_add s (challenge (octets (encoded (multiply r base))) (octets (encoded (multiply s base))) message) r)) ≡ true
by-numbers message s r s_fits r_below =
    let a = multiply-stands s base base_point s_fits base-stands in
    let commitment_at = multiply-stands r base base_point (in-octets r r_below) base-stands in
    let public = octets (encoded (multiply s base)) in
    let e = encoded (multiply r base) in
    let k = challenge (octets e) public message in
    let q = point_at a.x.x a.x.y in
    accepted-by message public e (scalar_mul_add s k r) q (encoding-fits (multiply r base) commitment_at.x commitment_at.stands) (response-below s k r)
    (key-decoded (multiply s base) a.x a.stands)
    (same-point s k r q a.x r_below (challenge-below (octets e) public message) (point-stands a.x.x a.x.y a.stands.is_point) a.is)

pub signature-accepted : (seed message : List ℕ) → accepts (public_key seed) message (signature seed message) ≡ true
unfolding signature commitment public_key response
signature-accepted seed message =
    by-numbers message (secret_scalar seed) (nonce seed message) (scalar-fits seed) (nonce-below seed message)
