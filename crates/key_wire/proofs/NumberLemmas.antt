-- Lemmas on the bytes of numbers.
use Rattle.std.proofs.Common.{if◌then◌else◌, suc, zero, ◌≡◌, ◌≢◌, ℕ, ◌+◌, ◌<◌, ◌==◌, nat_lt, Bool, true, false, List, [], ◌∷◌, ◌++◌, length, drop, replicate, Some, None, Ok, Err, refl, sym, ap, subst, ◌∙◌, arith}
use Rattle.std.specs.List.{position_or_len}
use Rattle.std.proofs.lemmas.Bool.Decides.{nat_tests}
use Rattle.std.proofs.lemmas.List.{drop_at, length-append, length-replicate}
use Rattle.key_wire.specs.declared.fault.KeyFault.TheVariants.{Unfit}
use Rattle.key_wire.specs.Numbers.{IsMagnitude, IsSecretMpint, behind_zero, behind_zeros, from_first, isnt_zero, magnitude, secret_magnitude, signed}

-- ---- public numbers

-- a byte with the highest bit stands behind the zero
behind_at : (below : Bool) (high : ℕ) (low bytes : List ℕ) → nat_lt high 128 ≡ below
    → (if below then Err Unfit else Ok (high ∷ low)) ≡ Ok bytes → IsMagnitude bytes × (0 ∷ high ∷ low ≡ signed bytes)
behind_at true high low bytes is read = absurd cc
behind_at false high low bytes is read =
    let same : high ∷ low ≡ bytes = cc in
    subst (λ (b : List ℕ). IsMagnitude b × (0 ∷ high ∷ low ≡ signed b)) same
    ((λ zero. grind (arith, nat_tests, is, zero)), rw is refl)

behind_zero_is : (text bytes : List ℕ) → behind_zero text ≡ Ok bytes → IsMagnitude bytes × (0 ∷ text ≡ signed bytes)
behind_zero_is [] bytes read = absurd cc
behind_zero_is (high ∷ low) bytes read = behind_at (nat_lt high 128) high low bytes refl read

-- a byte without the highest bit stands in front, and is no zero
front_at : (below : Bool) (first : ℕ) (rest bytes : List ℕ) → (first == 0) ≡ false → nat_lt first 128 ≡ below
    → (if below then Ok (first ∷ rest) else Err Unfit) ≡ Ok bytes → IsMagnitude bytes × (first ∷ rest ≡ signed bytes)
front_at false first rest bytes some is read = absurd cc
front_at true first rest bytes some is read =
    let same : first ∷ rest ≡ bytes = cc in
    subst (λ (b : List ℕ). IsMagnitude b × (first ∷ rest ≡ signed b)) same
    ((λ zero. grind (arith, nat_tests, some, zero)), rw is refl)

first_at : (zero : Bool) (first : ℕ) (rest bytes : List ℕ) → (first == 0) ≡ zero
    → (if zero then behind_zero rest else if nat_lt first 128 then Ok (first ∷ rest) else Err Unfit) ≡ Ok bytes
    → IsMagnitude bytes × (first ∷ rest ≡ signed bytes)
first_at true first rest bytes is read =
    let none : first ≡ 0 = grind (arith, nat_tests, is) in
    subst (λ (f : ℕ). IsMagnitude bytes × (f ∷ rest ≡ signed bytes)) (sym none) (behind_zero_is rest bytes read)
first_at false first rest bytes is read = front_at (nat_lt first 128) first rest bytes is refl read

pub magnitude_is : (text bytes : List ℕ) → magnitude text ≡ Ok bytes → IsMagnitude bytes × (text ≡ signed bytes)
unfolding magnitude
magnitude_is [] bytes read = absurd cc
magnitude_is (first ∷ rest) bytes read = first_at (first == 0) first rest bytes refl read

signed_at : (below : Bool) (high : ℕ) (low : List ℕ) → (high == 0) ≡ false → nat_lt high 128 ≡ below
    → magnitude (if below then high ∷ low else 0 ∷ high ∷ low) ≡ Ok (high ∷ low)
unfolding magnitude
signed_at true high low some is = rw (some, is) refl
signed_at false high low some is = rw is refl

pub magnitude_again : (bytes : List ℕ) → IsMagnitude bytes → magnitude (signed bytes) ≡ Ok bytes
magnitude_again [] is = absurd is
magnitude_again (high ∷ low) is = signed_at (nat_lt high 128) high low (grind (arith, nat_tests, is)) refl

-- ---- private numbers

-- what stands from the first byte on that isn't zero
abbrev place : List ℕ → ℕ
place text = position_or_len isnt_zero text

-- the place in a list with one byte more
place_here : (byte : ℕ) (text : List ℕ) → isnt_zero byte ≡ true → place (byte ∷ text) ≡ 0
place_here byte text is = rw is refl

place_later : (byte : ℕ) (text : List ℕ) → isnt_zero byte ≡ false → place (byte ∷ text) ≡ suc (place text)
place_later byte text is =
    let counted : place (byte ∷ text) ≡ 1 + place text = rw is refl in
    omega (arith, counted)

-- zeros stand in front of it
zeros_and_more : (some : Bool) (byte : ℕ) (text : List ℕ) → isnt_zero byte ≡ some
    → text ≡ replicate (place text) 0 ++ drop (place text) text
    → byte ∷ text ≡ replicate (place (byte ∷ text)) 0 ++ drop (place (byte ∷ text)) (byte ∷ text)
zeros_and_more true byte text is behind = rw (place_here byte text is) refl
zeros_and_more false byte text is behind =
    let none : byte ≡ 0 = grind (arith, nat_tests, is) in
    rw (place_later byte text is) (ap (λ (b : ℕ). b ∷ text) none ∙ ap (λ (t : List ℕ). 0 ∷ t) behind)

zeros_in_front : (text : List ℕ) → text ≡ replicate (place text) 0 ++ drop (place text) text
zeros_in_front [] = refl
zeros_in_front (byte ∷ text) = zeros_and_more (isnt_zero byte) byte text refl (zeros_in_front text)

-- a byte that isn't zero stands at it
some_or_later : (some : Bool) (byte : ℕ) (text : List ℕ) → isnt_zero byte ≡ some
    → (place text < length text → IsMagnitude (drop (place text) text)) → place (byte ∷ text) < length (byte ∷ text)
    → IsMagnitude (drop (place (byte ∷ text)) (byte ∷ text))
some_or_later true byte text is behind within =
    let some : byte ≢ 0 = λ zero. grind (arith, nat_tests, is, zero) in
    subst (λ (at : ℕ). IsMagnitude (drop at (byte ∷ text))) (sym (place_here byte text is)) some
some_or_later false byte text is behind within =
    let later = place_later byte text is in
    subst (λ (at : ℕ). IsMagnitude (drop at (byte ∷ text))) (sym later) (behind (omega (arith, within, later)))

some_behind : (text : List ℕ) → place text < length text → IsMagnitude (drop (place text) text)
some_behind [] within = omega (arith, within)
some_behind (byte ∷ text) within = some_or_later (isnt_zero byte) byte text refl (some_behind text) within

-- it is the place behind the zeros
place_behind : (count : ℕ) (bytes : List ℕ) → IsMagnitude bytes → place (replicate count 0 ++ bytes) ≡ count
place_behind zero [] is = absurd is
place_behind zero (high ∷ low) is = place_here high low (grind (arith, nat_tests, is))
place_behind (suc count) bytes is = place_later 0 (replicate count 0 ++ bytes) refl ∙ ap suc (place_behind count bytes is)

-- bytes that are read behind zeros
pub secret_is : (text bytes : List ℕ) → secret_magnitude text ≡ Ok bytes → IsSecretMpint text bytes
unfolding secret_magnitude behind_zeros
secret_is [] bytes read = absurd cc
secret_is (first ∷ rest) bytes read = by_sign (nat_lt first 128) refl read
  where
    by_place : (within : Bool) → nat_lt (place (first ∷ rest)) (length (first ∷ rest)) ≡ within → first < 128
        → from_first (if within then Some (place (first ∷ rest)) else None) (first ∷ rest) ≡ Ok bytes → IsSecretMpint (first ∷ rest) bytes
    by_place false is small given = absurd cc
    by_place true is small given =
        let same : drop (place (first ∷ rest)) (first ∷ rest) ≡ bytes = cc in
        subst (IsSecretMpint (first ∷ rest)) same (record {
          magnitude = some_behind (first ∷ rest) (grind (arith, nat_tests, is));
          zeros = place (first ∷ rest);
          parts = zeros_in_front (first ∷ rest);
          positive = λ head tail cut. let same_head : first ≡ head = cc in subst (λ (f : ℕ). f < 128) same_head small;
        })

    by_sign : (below : Bool) → nat_lt first 128 ≡ below → (if below then behind_zeros (first ∷ rest) else Err Unfit) ≡ Ok bytes
        → IsSecretMpint (first ∷ rest) bytes
    by_sign false is given = absurd cc
    by_sign true is given = by_place (nat_lt (place (first ∷ rest)) (length (first ∷ rest))) refl (grind (arith, nat_tests, is)) given

-- and what stands behind zeros is read
some_of : (bytes : List ℕ) → IsMagnitude bytes → 0 < length bytes
some_of [] is = absurd is
some_of (high ∷ low) is = omega arith

behind_again : (count : ℕ) (bytes : List ℕ) → IsMagnitude bytes → behind_zeros (replicate count 0 ++ bytes) ≡ Ok bytes
unfolding behind_zeros
behind_again count bytes is =
    let whole = replicate count 0 ++ bytes in
    let at = place_behind count bytes is in
    let long : length whole ≡ count + length bytes = length-append (replicate count 0) bytes ∙ ap (λ (n : ℕ). n + length bytes) (length-replicate count 0) in
    let within : nat_lt (place whole) (length whole) ≡ true = grind (arith, nat_tests, at, long, some_of bytes is) in
    rw (within, at) (ap (λ (b : List ℕ). Ok b) (drop_at (replicate count 0) bytes count (length-replicate count 0)))

positive_again : (text bytes : List ℕ) → ((first : ℕ) (rest : List ℕ) → text ≡ first ∷ rest → first < 128)
    → 0 < length text → behind_zeros text ≡ Ok bytes → secret_magnitude text ≡ Ok bytes
unfolding secret_magnitude
positive_again [] bytes small some is = let none : ⊥ = omega (arith, some) in absurd none
positive_again (first ∷ rest) bytes small some is =
    let below : nat_lt first 128 ≡ true = grind (arith, nat_tests, small first rest refl) in
    rw below is

pub secret_again : (text bytes : List ℕ) → IsSecretMpint text bytes → secret_magnitude text ≡ Ok bytes
secret_again text bytes is =
    let some : 0 < length text =
    omega (arith, ap length is.parts, length-append (replicate is.zeros 0) bytes, some_of bytes is.magnitude) in
    positive_again text bytes is.positive some (ap behind_zeros is.parts ∙ behind_again is.zeros bytes is.magnitude)
