-- The steps of verification.
use Rattle.std.proofs.Common.{◌≡◌, ◌≢◌, ◌<◌, ◌≤◌, ◌-◌, ◌⊎◌, inl, inr, ℕ, ◌+◌, ◌*◌, ◌/◌, ◌%◌, ◌^◌, arith, ap, sym, refl, ◌∙◌, List, length, get_or, Bool, true, false, nat_eq, nat_le, nat_lt, ◌&&◌, ◌||◌, eq-eqb, ne_eqb}
use Rattle.std.proofs.lemmas.Bool.{and_parts, eqb-true, le-leb, le-ltb, leb-true, lt-leb, lt-ltb, ltb-true}
use Rattle.rsa_numbers.specs.Numbers.{value, weight}
use Rattle.rsa_numbers.proofs.LowLemmas.{weight-more}
use Rattle.rsa_powers.proofs.FormLemmas.{first-of}
use Rattle.rsa_octets.specs.Octets.{os2ip, significant}
use Rattle.rsa_octets.proofs.Theorems.{os2ip-leads}
use Rattle.rsa_verify.specs.Encoding.{encoded}
use Rattle.rsa_verify.specs.Verification.{accepts, has_size, opens}

-- a number is odd where its lowest word is
pub odd-first : (n : List ℕ) → 0 < length n → value n % 2 ≡ get_or n 0 0 % 2
odd-first n filled =
    let f = first-of n (length n) refl filled in
    omega (arith, f.1)

-- an odd number is more than its highest word's weight
pub top-of : (n octets : List ℕ) → 2 ≤ length n → length n ≡ (length octets + 7) / 8 → 1 ≤ get_or octets 0 0
    → value n ≡ os2ip octets → get_or n 0 0 % 2 ≡ 1 → weight (length n - 1) < value n
top-of n octets long size leads is odd =
    let k : ℕ = length n - 1 in
    let r : ℕ = length octets - k * 8 - 1 in
    let parts : length octets ≡ k * 8 + r + 1 = omega arith in
    let most : weight k ≤ os2ip octets = os2ip-leads octets k r parts leads in
    let even : weight k ≡ weight (k - 1) * 2 ^ 64 =
    (let s : k ≡ k - 1 + 1 = omega arith in ap weight s ∙ weight-more (k - 1)) in
    let other : value n % 2 ≡ 1 = odd-first n (omega arith) ∙ odd in
    omega (arith, most, is, even, other)

or-cases : (x y : Bool) → (x || y) ≡ true → (x ≡ true) ⊎ (y ≡ true)
or-cases true y is = inl refl
or-cases false y is = inr is

-- what the size of a modulus says of its octets
pub size-bounds : (octets : List ℕ) → has_size octets ≡ true → (128 ≤ length octets) × (length octets ≤ 1024)
unfolding has_size
size-bounds octets is =
    let parts =
    and_parts (nat_le (length octets) 1024)
    (nat_lt 128 (length octets) || nat_eq (length octets) 128 && nat_le 128 (get_or octets 0 0)) is in
    let most = leb-true (length octets) 1024 parts.0 in
    elim (or-cases (nat_lt 128 (length octets)) (nat_eq (length octets) 128 && nat_le 128 (get_or octets 0 0)) parts.1) [
      | inl long ↦ (omega (arith, ltb-true 128 (length octets) long), most)
      | inr short ↦
          let first = and_parts (nat_eq (length octets) 128) (nat_le 128 (get_or octets 0 0)) short in
          (omega (arith, eqb-true (length octets) 128 first.0), most)
    ]

-- the size by the number of octets
pub size-above : (octets : List ℕ) → 1024 < length octets → false ≡ has_size octets
unfolding has_size
size-above octets long = rw (lt-leb (length octets) 1024 long) refl

pub size-between : (octets : List ℕ) → length octets ≤ 1024 → 128 < length octets → true ≡ has_size octets
unfolding has_size
size-between octets most long = rw (le-leb (length octets) 1024 most, lt-ltb 128 (length octets) long) refl

pub size-below : (octets : List ℕ) → length octets < 128 → false ≡ has_size octets
unfolding has_size
size-below octets short =
    rw (
      le-leb (length octets) 1024 (omega (arith, short)),
      le-ltb 128 (length octets) (omega (arith, short)),
      ne_eqb (length octets) 128 (λ e. omega (arith, e, short)),
    )
    refl

pub size-first : (octets : List ℕ) → length octets ≡ 128 → nat_le 128 (get_or octets 0 0) ≡ has_size octets
unfolding has_size
size-first octets size =
    rw (
      le-leb (length octets) 1024 (omega (arith, size)),
      le-ltb 128 (length octets) (omega (arith, size)),
      eq-eqb (length octets) 128 size,
    )
    refl

-- an even modulus
pub opens-even : (m s e message : ℕ) → m % 2 ≢ 1
    → false ≡ (nat_eq (m % 2) 1 && (nat_lt s m && nat_eq (s ^ e % m) message))
opens-even m s e message even = rw (ne_eqb (m % 2) 1 even) refl

-- an odd modulus, and a number below it
pub opens-is : (m s e message n_value s_value t_value b_value : ℕ) (out : Bool) → n_value ≡ m → s_value ≡ s
    → m % 2 ≡ 1 → s_value < n_value → t_value ≡ s_value ^ e % n_value → b_value ≡ message
    → out ≡ nat_eq t_value b_value
    → out ≡ (nat_eq (m % 2) 1 && (nat_lt s m && nat_eq (s ^ e % m) message))
opens-is m s e message n_value s_value t_value b_value out n_is s_is odd below t_is b_is out_is =
    rw (eq-eqb (m % 2) 1 odd, lt-ltb s m (omega (arith, n_is, s_is, below)))
    (out_is
    ∙ ap (λ k. nat_eq k b_value)
    (t_is ∙ ap (λ k. k ^ e % n_value) s_is ∙ ap (λ k. s ^ e % k) n_is)
    ∙ ap (λ k. nat_eq (s ^ e % m) k) b_is)

-- a modulus of another size, or a signature of another length
pub size-refused : (modulus : List ℕ) (e : ℕ) (info signature octets : List ℕ) → octets ≡ significant modulus
    → has_size octets ≡ false → false ≡ accepts modulus e info signature
unfolding accepts
size-refused modulus e info signature octets octets_is is =
    let h : has_size (significant modulus) ≡ false = ap has_size (sym octets_is) ∙ is in
    rw h refl

pub length-refused : (modulus : List ℕ) (e : ℕ) (info signature octets : List ℕ) → octets ≡ significant modulus
    → has_size octets ≡ true → length signature ≢ length octets → false ≡ accepts modulus e info signature
unfolding accepts
length-refused modulus e info signature octets octets_is is other =
    let h : has_size (significant modulus) ≡ true = ap has_size (sym octets_is) ∙ is in
    let l : nat_eq (length signature) (length (significant modulus)) ≡ false =
    ap (λ k. nat_eq (length signature) (length k)) (sym octets_is) ∙ ne_eqb (length signature) (length octets) other in
    rw (h, l) refl

-- the size and the length fit
pub accepts-opens : (modulus : List ℕ) (e : ℕ) (info signature octets message : List ℕ) (out : Bool)
    → octets ≡ significant modulus → has_size octets ≡ true → length signature ≡ length octets
    → message ≡ encoded (length octets) info
    → out
    ≡ (nat_eq (os2ip octets % 2) 1
    && (nat_lt (os2ip signature) (os2ip octets) && nat_eq (os2ip signature ^ e % os2ip octets) (os2ip message)))
    → out ≡ accepts modulus e info signature
unfolding accepts opens
accepts-opens modulus e info signature octets message out octets_is is size message_is out_is =
    let h : has_size (significant modulus) ≡ true = ap has_size (sym octets_is) ∙ is in
    let l : nat_eq (length signature) (length (significant modulus)) ≡ true =
    ap (λ k. nat_eq (length signature) (length k)) (sym octets_is) ∙ eq-eqb (length signature) (length octets) size in
    rw (h, l, ← octets_is) (out_is ∙ ap (λ m. nat_eq (os2ip octets % 2) 1 && (nat_lt (os2ip signature) (os2ip octets) && nat_eq (os2ip signature ^ e % os2ip octets) (os2ip m))) message_is)
