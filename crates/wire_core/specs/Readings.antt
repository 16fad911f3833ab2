-- Reading bytes from left to right, in the words of every reader: what is read, or the first fault.
-- Which faults there are is the reader's own.
use Rattle.std.specs.Prelude.{◌≡◌, ◌⊎◌, ℕ, List, [], ◌∷◌, Option, Some, None, Result, Ok, Err, MatchResult}

infixl 10 ◌>>=◌
-- the first fault, or what the second reading gives for the value of the first
abbrev pub ◌>>=◌ : {A B E : Type 0} → Result A E → (A → Result B E) → Result B E
(Ok x) >>= f = f x
(Err fault) >>= f = Err fault

-- the field at the front, and what the bytes behind it are; this fault where the field isn't there
abbrev pub field_or : {A R E : Type 0} → E → Option (A × List ℕ) → (A → List ℕ → Result R E)
    → Result R E
field_or missing None later = Err missing
field_or missing (Some field) later = later field.0 field.1

-- the value, where no byte follows; this fault where one does
abbrev pub ended_or : {R E : Type 0} → E → R → List ℕ → Result R E
ended_or trailing value [] = Ok value
ended_or trailing value (_ ∷ _) = Err trailing

-- the code's answer is that of the definition, whose values these of the code are
abbrev pub IsAnswer : {A B E : Type 0} → (A → B) → Result A E → Result B E → Type 0
IsAnswer seen result defined =
    MatchResult result (λ value. defined ≡ Ok (seen value)) (λ fault. defined ≡ Err fault)

-- the same, unless memory ran out, which this fault tells
abbrev pub IsAnswerUnless : {A B E : Type 0} → E → (A → B) → Result A E → Result B E → Type 0
IsAnswerUnless memory seen result defined =
    MatchResult result (λ value. defined ≡ Ok (seen value))
    (λ fault. (fault ≡ memory) ⊎ (defined ≡ Err fault))
