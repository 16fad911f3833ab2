-- Counts: what `parse` reads is what the digits write.
use Rattle.std.proofs.Common.{◌≡◌, ℕ, ◌+◌, ◌-◌, ◌*◌, ◌^◌, ◌<◌, ◌≤◌, nat_lt, Bool, true, false, not, List, [], ◌∷◌, length, get_or, Some, Result, Ok, Err, refl, ap, arith}
use Rattle.std.proofs.lemmas.Bool.{ne_eqb}
use Rattle.std.proofs.lemmas.Bool.Decides.{nat_tests}
use Rattle.std.proofs.lemmas.Str.Parse.{IsNumeralModel, numerals_by_fold, parse_plain, tells_all_ascii_digits}
use Rattle.std.specs.Result.{OkIff, result_ok}
use Rattle.std.specs.Str.Parse.{ParsesUnsigned}
use Rattle.std.specs.Str.{all_ascii_digits}
use Rattle.add_words.specs.Counts.{number_after, is_shortest, count_of}

-- the words of this crate say what std's say
pub own : IsNumeralModel (λ ds. all_ascii_digits ds ≡ true) (number_after 0)
own = numerals_by_fold _ tells_all_ascii_digits number_after (record { empty = λ n. refl; more = λ n c cs is. refl })

-- more digits write no less
pub number_after_grows : (digits : List ℕ) (n : ℕ) → n ≤ number_after n digits
number_after_grows [] n = omega arith
number_after_grows (digit ∷ digits) n = omega (arith, number_after_grows digits (n * 10 + (digit - 48)))

-- a word that begins with a digit other than 0 is read as it is
pub count_read : {E : Type 0} (word : List ℕ) (r : Result ℕ E) → ParsesUnsigned 32 10 word r → 1 ≤ length word → 49 ≤ get_or word 0 0 → get_or word 0 0 ≤ 57 → result_ok r ≡ count_of word
count_read {E = E} [] r reads some low high = absurd (omega (arith, some))
count_read {E = E} (digit ∷ digits) r reads some low high =
    by_digits (all_ascii_digits (digit ∷ digits)) refl (nat_lt (number_after 0 (digit ∷ digits)) (2 ^ 32)) refl r
    (parse_plain own 32 (digit ∷ digits) r reads (λ plus. omega (arith, plus, low)))
  where
    value : ℕ
    value = number_after 0 (digit ∷ digits)

    shortest : (digits : List ℕ) → is_shortest (digit ∷ digits) ≡ true
    shortest [] = refl
    shortest (next ∷ digits) = ap not (ne_eqb digit 48 (λ zero. omega (arith, zero, low)))

    some_value : nat_lt 0 value ≡ true
    some_value = grind (arith, nat_tests, number_after_grows digits (0 * 10 + (digit - 48)), low)

    by_digits : (all : Bool) → all_ascii_digits (digit ∷ digits) ≡ all → (short : Bool) → nat_lt value (2 ^ 32) ≡ short → (r : Result ℕ E) →
        OkIff r ((all_ascii_digits (digit ∷ digits) ≡ true) × (0 < length (digit ∷ digits)) × (value < 2 ^ 32)) value → result_ok r ≡ count_of (digit ∷ digits)
    by_digits true each true fits (Ok number) reads = rw (shortest digits, each, some_value, fits) (ap Some reads.1)
    by_digits true each true fits (Err error) reads = absurd (reads (each, omega arith, grind (arith, nat_tests, fits)))
    by_digits true each false fits (Ok number) reads = absurd (grind (arith, nat_tests, fits, reads.0.2))
    by_digits true each false fits (Err error) reads = rw (shortest digits, each, some_value, fits) refl
    by_digits false each short fits (Ok number) reads = let e = reads.0.0 in absurd cc
    by_digits false each short fits (Err error) reads = rw (shortest digits, each) refl
