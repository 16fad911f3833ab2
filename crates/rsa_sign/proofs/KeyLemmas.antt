-- Which keys sign.
use Rattle.std.proofs.Common.{◌≡◌, ◌<◌, ◌≤◌, ◌-◌, ℕ, ◌+◌, ◌*◌, ◌/◌, ◌%◌, ◌^◌, arith, ap, sym, refl, ◌∙◌, List, length, get_or, Bool, true, false, nat_eq, nat_le, nat_lt, ◌&&◌, Some, None}
use Rattle.std.proofs.lemmas.Bool.{and_parts, le-leb, le-ltb, leb-true, lt-leb, lt-ltb, ltb-true}
use Rattle.rsa_numbers.specs.Numbers.{value, weight}
use Rattle.rsa_numbers.proofs.LowLemmas.{weight-more}
use Rattle.rsa_octets.specs.Octets.{i2osp, os2ip, significant}
use Rattle.rsa_octets.proofs.Theorems.{os2ip-leads, significant-leads}
use Rattle.rsa_verify.specs.Encoding.{encoded}
use Rattle.rsa_verify.specs.Verification.{accepts, has_size}
use Rattle.rsa_verify.proofs.VerifyingLemmas.{size-bounds}
use Rattle.rsa_sign.specs.Keys.{has_factor_size, has_key_sizes, signature, signed, signed_by, signed_sized}
use Rattle.rsa_sign.specs.Signing.{power}

factor-bounds : (factor : List ℕ) → has_factor_size factor ≡ true
    → (9 ≤ length factor) × (length factor ≤ 512)
unfolding has_factor_size
factor-bounds factor is =
    let parts = and_parts (nat_lt 8 (length factor)) (nat_le (length factor) 512) is in
    (omega (arith, ltb-true 8 (length factor) parts.0), leb-true (length factor) 512 parts.1)

-- the size of a factor by the number of its octets
pub factor-long : (factor : List ℕ) → 8 < length factor
    → nat_le (length factor) 512 ≡ has_factor_size factor
unfolding has_factor_size
factor-long factor long = rw (lt-ltb 8 (length factor) long) refl

pub factor-short : (factor : List ℕ) → length factor ≤ 8
    → nat_lt 8 (length factor) ≡ has_factor_size factor
unfolding has_factor_size
factor-short factor short = rw (le-ltb 8 (length factor) short) refl

-- each of the sizes of a key in turn
pub sizes-modulus : (modulus d p q iqmp : List ℕ) → has_size modulus ≡ false
    → false ≡ has_key_sizes modulus d p q iqmp
unfolding has_key_sizes
sizes-modulus modulus d p q iqmp is = rw is refl

pub sizes-p : (modulus d p q iqmp : List ℕ) → has_size modulus ≡ true → has_factor_size p ≡ false
    → false ≡ has_key_sizes modulus d p q iqmp
unfolding has_key_sizes
sizes-p modulus d p q iqmp m is = rw (m, is) refl

pub sizes-q : (modulus d p q iqmp : List ℕ) → has_size modulus ≡ true → has_factor_size p ≡ true
    → has_factor_size q ≡ false → false ≡ has_key_sizes modulus d p q iqmp
unfolding has_key_sizes
sizes-q modulus d p q iqmp m first is = rw (m, first, is) refl

pub sizes-d : (modulus d p q iqmp : List ℕ) → has_size modulus ≡ true → has_factor_size p ≡ true
    → has_factor_size q ≡ true → length modulus < length d → false ≡ has_key_sizes modulus d p q iqmp
unfolding has_key_sizes
sizes-d modulus d p q iqmp m first second long =
    rw (m, first, second, lt-leb (length d) (length modulus) long) refl

pub sizes-iqmp : (modulus d p q iqmp : List ℕ) → has_size modulus ≡ true → has_factor_size p ≡ true
    → has_factor_size q ≡ true → length d ≤ length modulus
    → nat_le (length iqmp) (length p) ≡ has_key_sizes modulus d p q iqmp
unfolding has_key_sizes
sizes-iqmp modulus d p q iqmp m first second short =
    rw (m, first, second, le-leb (length d) (length modulus) short) refl

-- what the sizes of a key say
pub record Sizes (modulus d p q iqmp : List ℕ) : Type 0 where
  pub modulus_long : 128 ≤ length modulus
  pub modulus_bounded : length modulus ≤ 1024
  pub p_long : 9 ≤ length p
  pub p_bounded : length p ≤ 512
  pub q_long : 9 ≤ length q
  pub q_bounded : length q ≤ 512
  pub d_fits : length d ≤ length modulus
  pub iqmp_fits : length iqmp ≤ length p

pub sizes-of : (modulus d p q iqmp : List ℕ) → has_key_sizes modulus d p q iqmp ≡ true
    → Sizes modulus d p q iqmp
unfolding has_key_sizes
sizes-of modulus d p q iqmp is =
    let first =
    and_parts (has_size modulus) (has_factor_size p && (has_factor_size q && (nat_le (length d) (length modulus) && nat_le (length iqmp) (length p)))) is in
    let second =
    and_parts (has_factor_size p) (has_factor_size q && (nat_le (length d) (length modulus) && nat_le (length iqmp) (length p))) first.1 in
    let third = and_parts (has_factor_size q) (nat_le (length d) (length modulus) && nat_le (length iqmp) (length p)) second.1 in
    let fourth = and_parts (nat_le (length d) (length modulus)) (nat_le (length iqmp) (length p)) third.1 in
    let m = size-bounds modulus first.0 in
    let pb = factor-bounds p second.0 in
    let qb = factor-bounds q third.0 in
    record {
      modulus_long = m.0;
      modulus_bounded = m.1;
      p_long = pb.0;
      p_bounded = pb.1;
      q_long = qb.0;
      q_bounded = qb.1;
      d_fits = leb-true (length d) (length modulus) fourth.0;
      iqmp_fits = leb-true (length iqmp) (length p) fourth.1;
    }

-- another size, and the right one
pub sized-none : (modulus : List ℕ) (e : ℕ) (d p q iqmp info : List ℕ)
    → has_key_sizes modulus d p q iqmp ≡ false
    → signed_sized modulus e d p q iqmp info ≡ None
unfolding signed_sized
sized-none modulus e d p q iqmp info is = rw is refl

pub sized-some : (modulus : List ℕ) (e : ℕ) (d p q iqmp info : List ℕ)
    → has_key_sizes modulus d p q iqmp ≡ true
    → signed_sized modulus e d p q iqmp info
    ≡ signed_by modulus e (os2ip d) (os2ip p) (os2ip q) (os2ip iqmp) info
unfolding signed_sized
sized-some modulus e d p q iqmp info is = rw is refl

-- zeros in front are dropped
pub signed-is : (modulus : List ℕ) (e : ℕ) (d p q iqmp info n' d' p' q' iqmp' : List ℕ)
    → n' ≡ significant modulus
    → d' ≡ significant d → p' ≡ significant p → q' ≡ significant q → iqmp' ≡ significant iqmp
    → signed modulus e d p q iqmp info ≡ signed_sized n' e d' p' q' iqmp' info
unfolding signed
signed-is modulus e d p q iqmp info n' d' p' q' iqmp' n_is d_is p_is q_is iqmp_is =
    rw (n_is, d_is, p_is, q_is, iqmp_is) refl

-- an even factor
pub signed-even_p : (modulus : List ℕ) (e d p q iqmp : ℕ) (info : List ℕ) → nat_eq (p % 2) 1 ≡ false
    → signed_by modulus e d p q iqmp info ≡ None
unfolding signed_by
signed-even_p modulus e d p q iqmp info even = rw even refl

pub signed-even_q : (modulus : List ℕ) (e d p q iqmp : ℕ) (info : List ℕ) → nat_eq (p % 2) 1 ≡ true
    → nat_eq (q % 2) 1 ≡ false → signed_by modulus e d p q iqmp info ≡ None
unfolding signed_by
signed-even_q modulus e d p q iqmp info odd even = rw (odd, even) refl

-- what was made is the signature
pub signature-is : (modulus : List ℕ) (d p q iqmp : ℕ) (info message made : List ℕ)
    → message ≡ encoded (length modulus) info → length message ≡ length modulus
    → made ≡ i2osp (power p q d iqmp (os2ip message)) (length message)
    → made ≡ signature modulus d p q iqmp info
unfolding signature
signature-is modulus d p q iqmp info message made message_is size is =
    is
    ∙ ap (λ k. i2osp (power p q d iqmp (os2ip message)) k) size
    ∙ ap (λ k. i2osp (power p q d iqmp (os2ip k)) (length modulus)) message_is

-- a signature that verifies, and one that doesn't
pub signed-some : (modulus : List ℕ) (e d p q iqmp : ℕ) (info made : List ℕ)
    → nat_eq (p % 2) 1 ≡ true
    → nat_eq (q % 2) 1 ≡ true → made ≡ signature modulus d p q iqmp info → accepts modulus e info made ≡ true
    → signed_by modulus e d p q iqmp info ≡ Some made
unfolding signed_by
signed-some modulus e d p q iqmp info made p_odd q_odd is verifies =
    let v : accepts modulus e info (signature modulus d p q iqmp info) ≡ true =
    ap (accepts modulus e info) (sym is) ∙ verifies in
    rw (p_odd, q_odd, v) (ap Some (sym is))

pub signed-none : (modulus : List ℕ) (e d p q iqmp : ℕ) (info made : List ℕ)
    → nat_eq (p % 2) 1 ≡ true
    → nat_eq (q % 2) 1 ≡ true → made ≡ signature modulus d p q iqmp info → accepts modulus e info made ≡ false
    → signed_by modulus e d p q iqmp info ≡ None
unfolding signed_by
signed-none modulus e d p q iqmp info made p_odd q_odd is refused =
    let v : accepts modulus e info (signature modulus d p q iqmp info) ≡ false =
    ap (accepts modulus e info) (sym is) ∙ refused in
    rw (p_odd, q_odd, v) refl

-- an odd number is more than a weight, and the lowest word of an odd number is odd
pub odd-above : (n : List ℕ) → 2 ≤ length n → weight (length n - 1) ≤ value n → value n % 2 ≡ 1
    → weight (length n - 1) < value n
odd-above n long least odd =
    let k : ℕ = length n - 1 in
    let even : weight k ≡ weight (k - 1) * 2 ^ 64 =
    (let s : k ≡ k - 1 + 1 = omega arith in ap weight s ∙ weight-more (k - 1)) in
    omega (arith, least, odd, even)

-- the first octet makes words as great as their highest word's weight
pub leads-of : (words octets : List ℕ) → 9 ≤ length octets → length words ≡ (length octets + 7) / 8
    → 1 ≤ get_or octets 0 0 → value words ≡ os2ip octets → weight (length words - 1) ≤ value words
leads-of words octets long size leads is =
    let k : ℕ = length words - 1 in
    let r : ℕ = length octets - k * 8 - 1 in
    let parts : length octets ≡ k * 8 + r + 1 = omega arith in
    omega (arith, os2ip-leads octets k r parts leads, is)

-- the first octet of what has no zeros in front
pub leads-from : (octets all : List ℕ) → octets ≡ significant all → 0 < length octets
    → 1 ≤ get_or octets 0 0
leads-from octets all is some =
    let there : 0 < length (significant all) = rw (← is) some in
    rw is (significant-leads all there)

-- equal numbers
pub signed_by-same : (modulus : List ℕ) (e : ℕ) (info : List ℕ) (d p q iqmp d' p' q' iqmp' : ℕ)
    → d' ≡ d → p' ≡ p → q' ≡ q
    → iqmp' ≡ iqmp → signed_by modulus e d p q iqmp info ≡ signed_by modulus e d' p' q' iqmp' info
signed_by-same modulus e info d p q iqmp d' p' q' iqmp' d_is p_is q_is iqmp_is = rw (d_is, p_is, q_is, iqmp_is) refl
