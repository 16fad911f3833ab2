-- Multiples by the digits of a number, of a formula that adds points (ours): in base 32 the lowest first, and in base 16 the
-- highest first.
use Rattle.std.specs.Prelude.{◌≡◌, ℕ, zero, suc, ◌/◌, ◌%◌, ◌*◌, ◌<◌, List, length, slice_index_or}

-- p added k times to what stands for the neutral element
unfoldable pub times : {P : Type 0} → (P → P → P) → P → ℕ → P → P
times add neutral zero p = neutral
times add neutral (suc k) p = add (times add neutral k p) p

-- what a row of a table has multiples of: p for the first one, and for each later one 32 times that of the row before
unfoldable pub step_of : {P : Type 0} → (P → P → P) → P → ℕ → P → P
step_of add neutral zero p = p
step_of add neutral (suc row) p = times add neutral 32 (step_of add neutral row p)

-- 16 times p, by doubling it
unfoldable pub sixteenfold : {P : Type 0} → (P → P → P) → P → P
sixteenfold add p =
    let twice = add p p in
    let four_times = add twice twice in
    let eight_times = add four_times four_times in
    add eight_times eight_times

-- for each digit of s, of so many from a row on, the row's multiple by it is added to the sum
unfoldable pub by_digits : {P : Type 0} → (P → P → P) → P → ℕ → ℕ → ℕ → P → P → P
by_digits add neutral zero row s p sum = sum
by_digits add neutral (suc rows) row s p sum =
    by_digits add neutral rows (suc row) (s / 32) p (add sum (times add neutral (s % 32) (step_of add neutral row p)))

-- the multiples of p by 0 to 31 times 32 ^ i, as they are kept, in so many rows one after the other
pub record IsTable {P Q : Type 0} (kept : P → Q) (add : P → P → P) (neutral p : P) (rows : ℕ) (entries : List Q) : Type 0 where
  pub size : length entries ≡ 32 * rows
  pub entry : (place : ℕ) (other : Q) → place < 32 * rows
      → slice_index_or entries place other
      ≡ kept (times add neutral (place % 32) (step_of add neutral (place / 32) p))

-- the multiples of p by 0 to 15, as they are kept
pub record IsRow {P Q : Type 0} (kept : P → Q) (add : P → P → P) (neutral p : P) (entries : List Q) : Type 0 where
  pub entry : (place : ℕ) (other : Q) → place < 16
      → slice_index_or entries place other ≡ kept (times add neutral place p)
