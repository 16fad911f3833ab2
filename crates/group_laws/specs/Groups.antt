-- Commutative groups whose sum is a relation, as SEC 1's rules are, and the multiples of their elements.
use Rattle.std.specs.Prelude.{◌≡◌, ℕ, zero, suc}

-- a sum of p and q
pub record HasSum {A : Type 0} (IsSum : A → A → A → Type 0) (p q : A) : Type 0 where
  pub third : A
  pub is : IsSum p q third

-- an element that with p gives the neutral one
pub record HasOpposite {A : Type 0} (IsElement : A → Type 0) (IsSum : A → A → A → Type 0) (neutral p : A) : Type 0 where
  pub opposite : A
  pub is_element : IsElement opposite
  pub is : IsSum p opposite neutral

-- the elements are a commutative group under the sum
pub record IsGroup {A : Type 0} (IsElement : A → Type 0) (IsSum : A → A → A → Type 0) (neutral : A) : Type 0 where
  -- any two have a sum, one alone, which is an element
  pub total : (p q : A) → IsElement p → IsElement q → HasSum IsSum p q
  pub unique : (p q r s : A) → IsElement p → IsElement q → IsSum p q r → IsSum p q s → r ≡ s
  pub closed : (p q r : A) → IsElement p → IsElement q → IsSum p q r → IsElement r
  -- p + q = q + p
  pub commutes : (p q r : A) → IsElement p → IsElement q → IsSum p q r → IsSum q p r
  -- (p + q) + r = p + (q + r)
  pub associates : (p q r s t left right : A) → IsElement p → IsElement q → IsElement r
      → IsSum p q s → IsSum s r left → IsSum q r t → IsSum p t right → left ≡ right
  -- the neutral element, and opposites
  pub neutral_is_element : IsElement neutral
  pub neutral_adds_nothing : (p : A) → IsElement p → IsSum neutral p p
  pub opposites : (p : A) → IsElement p → HasOpposite IsElement IsSum neutral p

-- q is [k]p: the neutral element, and p added to it k times
pub data IsMultiple {A : Type 0} (IsSum : A → A → A → Type 0) (neutral p : A) : ℕ → A → Type 0 where
  no_times : IsMultiple IsSum neutral p zero neutral
  once_more : (k : ℕ) (q r : A) → IsMultiple IsSum neutral p k q → IsSum q p r
      → IsMultiple IsSum neutral p (suc k) r

-- a [k]p
pub record HasMultiple {A : Type 0} (IsSum : A → A → A → Type 0) (neutral p : A) (k : ℕ) : Type 0 where
  pub q : A
  pub is : IsMultiple IsSum neutral p k q
