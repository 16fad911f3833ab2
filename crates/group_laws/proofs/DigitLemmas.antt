-- The turns of loops over digits, and over the entries of a table.
use Rattle.std.proofs.Common.{◌≡◌, ◌<◌, ◌≤◌, ◌-◌, ◌⊎◌, inl, inr, ℕ, zero, suc, add-one, ◌+◌, ◌*◌, ◌/◌, ◌%◌, arith, ap, sym, refl, ◌∙◌, ◌^◌, List, [], ◌∷◌, ◌++◌, get_or, set, length}
use Rattle.std.proofs.Math.Nat.{div-div-eq-div-mul, div-eq_of_lt, pow-suc}
use Rattle.std.proofs.lemmas.List.{get_or-set_other, get_or_push, get_or_append_left}
use Rattle.std.proofs.lemmas.Grind.{get_or-set_at}
use Rattle.std.specs.Int.{byte_at, bytes_high_first}
use Rattle.group_laws.specs.Digits.{by_digits, sixteenfold, step_of, times}

-- ---- one more

times-suc : {P : Type 0} (add : P → P → P) (neutral : P) (k : ℕ) (p : P)
    → times add neutral (suc k) p ≡ add (times add neutral k p) p
unfolding times
times-suc add neutral k p = refl

pub times-next : {P : Type 0} (add : P → P → P) (neutral : P) (k : ℕ) (p entry next : P)
    → entry ≡ times add neutral k p → next ≡ add entry p → next ≡ times add neutral (k + 1) p
times-next add neutral k p entry next entry_is next_is =
    next_is ∙ ap (λ q. add q p) entry_is ∙ sym (times-suc add neutral k p)
    ∙ ap (λ n. times add neutral n p) (sym (add-one k))

pub times-none : {P : Type 0} (add : P → P → P) (neutral p : P) → times add neutral 0 p ≡ neutral
unfolding times
times-none add neutral p = refl

step_of-suc : {P : Type 0} (add : P → P → P) (neutral : P) (row : ℕ) (p : P)
    → step_of add neutral (suc row) p ≡ times add neutral 32 (step_of add neutral row p)
unfolding step_of
step_of-suc add neutral row p = refl

pub step_of-next : {P : Type 0} (add : P → P → P) (neutral : P) (row : ℕ) (p step next : P)
    → step ≡ step_of add neutral row p → next ≡ times add neutral 32 step → next ≡ step_of add neutral (row + 1) p
step_of-next add neutral row p step next step_is next_is =
    next_is ∙ ap (λ q. times add neutral 32 q) step_is ∙ sym (step_of-suc add neutral row p)
    ∙ ap (λ n. step_of add neutral n p) (sym (add-one row))

pub step_of-none : {P : Type 0} (add : P → P → P) (neutral p : P) → step_of add neutral 0 p ≡ p
unfolding step_of
step_of-none add neutral p = refl

-- ---- the sum of one entry of each row

by_digits-suc : {P : Type 0} (add : P → P → P) (neutral : P) (rows row s : ℕ) (p sum : P)
    → by_digits add neutral (suc rows) row s p sum
    ≡ by_digits add neutral rows (suc row) (s / 32) p (add sum (times add neutral (s % 32) (step_of add neutral row p)))
unfolding by_digits
by_digits-suc add neutral rows row s p sum = refl

by_digits-zero : {P : Type 0} (add : P → P → P) (neutral : P) (row s : ℕ) (p sum : P)
    → by_digits add neutral 0 row s p sum ≡ sum
unfolding by_digits
by_digits-zero add neutral row s p sum = refl

-- one turn: what is left to be added gives the same sum
pub by_digits-turn : {P : Type 0} (add : P → P → P) (neutral p : P) (rows row s rest digit : ℕ) (sum entry after whole : P)
    → row < rows → digit ≡ s % 32 → rest ≡ s / 32 → entry ≡ times add neutral digit (step_of add neutral row p)
    → after ≡ add sum entry → by_digits add neutral (rows - row) row s p sum ≡ whole
    → by_digits add neutral (rows - (row + 1)) (row + 1) rest p after ≡ whole
by_digits-turn add neutral p rows row s rest digit sum entry after whole turn digit_is rest_is entry_is after_is is =
    let one_more : rows - row ≡ suc (rows - (row + 1)) = omega arith in
    let next : row + 1 ≡ suc row = add-one row in
    let step = by_digits-suc add neutral (rows - (row + 1)) row s p sum in
    cc

-- after the last turn nothing is left
pub by_digits-end : {P : Type 0} (add : P → P → P) (neutral p : P) (rows row s : ℕ) (sum whole : P)
    → rows ≤ row → by_digits add neutral (rows - row) row s p sum ≡ whole → sum ≡ whole
by_digits-end add neutral p rows row s sum whole last is =
    let none : rows - row ≡ 0 = omega arith in
    sym (by_digits-zero add neutral row s p sum) ∙ ap (λ k. by_digits add neutral k row s p sum) (sym none) ∙ is

-- ---- a row is appended

-- before a place, or there
pub is-below-or-last : (k place : ℕ) → k < place + 1 → (k < place) ⊎ (k ≡ place)
is-below-or-last k place below = grind arith

-- one entry more, behind those that were there before the row
pub kept-next : {P : Type 0} (old entries now : List P) (entry : P) (place : ℕ) → now ≡ entries ++ entry ∷ []
    → length entries ≡ length old + place
    → ((k : ℕ) (other : P) → k < length old → get_or entries k other ≡ get_or old k other)
    → (k : ℕ) (other : P) → k < length old → get_or now k other ≡ get_or old k other
kept-next old entries now entry place pushed size kept k other below =
    ap (λ items. get_or items k other) pushed ∙ get_or_append_left entries (entry ∷ []) other k (omega arith)
    ∙ kept k other below

-- and one of the row
pub row-next : {P Q : Type 0} (kept : P → Q) (add : P → P → P) (neutral p : P) (old entries now : List Q) (entry : Q)
    (place : ℕ) → now ≡ entries ++ entry ∷ [] → length entries ≡ length old + place
    → ((k : ℕ) (other : Q) → k < place → get_or entries (length old + k) other ≡ kept (times add neutral k p))
    → entry ≡ kept (times add neutral place p)
    → (k : ℕ) (other : Q) → k < place + 1 → get_or now (length old + k) other ≡ kept (times add neutral k p)
row-next kept add neutral p old entries now entry place pushed size before entry_is k other below =
    ap (λ items. get_or items (length old + k) other) pushed ∙ elim (is-below-or-last k place below) [
      | inl earlier ↦ get_or_append_left entries (entry ∷ []) other (length old + k) (omega arith)
          ∙ before k other earlier
      | inr same ↦ get_or_push entries entry other (length old + k) (size ∙ ap (λ n. length old + n) (sym same))
          ∙ entry_is ∙ ap (λ n. kept (times add neutral n p)) (sym same)
    ]

-- ---- the table of all rows

-- a place in the rows before, or in the last one
is-earlier-or-last : (place row : ℕ) → place < 32 * (row + 1) → (place < 32 * row) ⊎ (32 * row ≤ place)
is-earlier-or-last place row below = grind arith

-- one row more, of the multiples of its step
pub rows-next : {P Q : Type 0} (kept : P → Q) (add : P → P → P) (neutral p : P) (old entries : List Q) (row : ℕ) (step : P)
    → length old ≡ 32 * row → step ≡ step_of add neutral row p
    → ((place : ℕ) (other : Q) → place < 32 * row
    → get_or old place other ≡ kept (times add neutral (place % 32) (step_of add neutral (place / 32) p)))
    → ((place : ℕ) (other : Q) → place < length old → get_or entries place other ≡ get_or old place other)
    → ((place : ℕ) (other : Q) → place < 32
    → get_or entries (length old + place) other ≡ kept (times add neutral place step))
    → (place : ℕ) (other : Q) → place < 32 * (row + 1)
    → get_or entries place other ≡ kept (times add neutral (place % 32) (step_of add neutral (place / 32) p))
rows-next kept add neutral p old entries row step size step_is before same last place other below =
    elim (is-earlier-or-last place row below) [
      | inl earlier ↦ same place other (omega arith) ∙ before place other earlier
      | inr late ↦
          let digit : place % 32 ≡ place - 32 * row = omega arith in
          let its_row : place / 32 ≡ row = omega arith in
          let at : place ≡ length old + (place - 32 * row) = omega arith in
          let within : place - 32 * row < 32 = omega arith in
          ap (λ k. get_or entries k other) at ∙ last (place - 32 * row) other within
          ∙ ap (λ q. kept (times add neutral (place - 32 * row) q)) (step_is ∙ ap (λ r. step_of add neutral r p) (sym its_row))
          ∙ ap (λ k. kept (times add neutral k (step_of add neutral (place / 32) p))) (sym digit)
    ]

-- ---- a row of its own

-- one entry more in a row of 16
pub row-set : {P Q : Type 0} (kept : P → Q) (add : P → P → P) (neutral p : P) (row : List Q) (place : ℕ) (entry : Q)
    → place < 16 → length row ≡ 16
    → ((k : ℕ) (other : Q) → k < place → get_or row k other ≡ kept (times add neutral k p))
    → entry ≡ kept (times add neutral place p)
    → (k : ℕ) (other : Q) → k < place + 1 → get_or (set row place entry) k other ≡ kept (times add neutral k p)
row-set kept add neutral p row place entry last size are entry_is k other below =
    elim (is-below-or-last k place below) [
      | inl earlier ↦ get_or-set_other row place k entry other (λ same. absurd (omega arith)) ∙ are k other earlier
      | inr same ↦ get_or-set_at row place k entry other same (omega arith) ∙ entry_is
          ∙ ap (λ n. kept (times add neutral n p)) (sym same)
    ]

-- the parts of 16 times a point
pub sixteenfold-made : {P : Type 0} (add : P → P → P) (p twice four eight sixteen : P)
    → twice ≡ add p p → four ≡ add twice twice → eight ≡ add four four → sixteen ≡ add eight eight
    → sixteen ≡ sixteenfold add p
unfolding sixteenfold
sixteenfold-made add p twice four eight sixteen twice_is four_is eight_is sixteen_is = cc

-- the sum of what is known
pub sum-made : {P : Type 0} (add : P → P → P) (sum entry sixteen digit whole : P) → whole ≡ add sum entry → sum ≡ sixteen
    → entry ≡ digit → whole ≡ add sixteen digit
sum-made add sum entry sixteen digit whole whole_is sum_is entry_is = cc

-- ---- the bytes of a number, the highest first

pub byte-is : (k n : ℕ) → byte_at k n ≡ n / 256 ^ k % 256
byte-is zero n = omega arith
byte-is (suc k) n = refl

-- two digits
front-byte : (n byte : ℕ) → byte ≡ n % 256 → 16 * (16 * (n / 256) + byte / 16) + byte % 16 ≡ n
front-byte n byte is = omega arith

-- n / 1
whole-is : (n : ℕ) → n / 256 ^ 0 ≡ n
whole-is n = omega arith

-- a byte in its place
pub byte-at-place : (size n place : ℕ) (other : ℕ) → place < size
    → get_or (bytes_high_first size n) place other ≡ n / 256 ^ (size - (place + 1)) % 256
byte-at-place zero n place other below = absurd (omega arith)
byte-at-place (suc size) n zero other below =
    let same : suc size - (0 + 1) ≡ size = omega arith in
    byte-is size n ∙ ap (λ k. n / 256 ^ k % 256) (sym same)
byte-at-place (suc size) n (suc place) other below =
    let same : suc size - (suc place + 1) ≡ size - (place + 1) = omega arith in
    byte-at-place size n place other (omega arith) ∙ ap (λ k. n / 256 ^ k % 256) (sym same)

-- what stands in front of a byte, its two digits, and what is in front then
pub front-next : (size n place byte : ℕ) → place < size → byte ≡ n / 256 ^ (size - (place + 1)) % 256
    → 16 * (16 * (n / 256 ^ (size - place)) + byte / 16) + byte % 16 ≡ n / 256 ^ (size - (place + 1))
front-next size n place byte below byte_is =
    let left = size - (place + 1) in
    let one_more : size - place ≡ suc left = omega arith in
    let before : n / 256 ^ (size - place) ≡ n / 256 ^ left / 256 =
    ap (λ k. n / 256 ^ k) one_more ∙ ap (λ k. n / k) (pow-suc 256 left) ∙ sym (div-div-eq-div-mul n (256 ^ left) 256) in
    rw before (front-byte (n / 256 ^ left) byte byte_is)

-- behind the last byte the whole number is in front
pub front-whole : (size n place : ℕ) → size ≤ place → n / 256 ^ (size - place) ≡ n
front-whole size n place last =
    let none : size - place ≡ 0 = omega arith in
    ap (λ k. n / 256 ^ k) none ∙ whole-is n

-- before the first there is none
pub front-none : (size n : ℕ) → n < 256 ^ size → n / 256 ^ (size - 0) ≡ 0
front-none size n below =
    let all : size - 0 ≡ size = omega arith in
    ap (λ k. n / 256 ^ k) all ∙ div-eq_of_lt below
