-- Lemmas on specs/Words.antt.
use Rattle.std.proofs.Common.{◌≡◌, true, ℕ, ◌^◌, ◌<◌, List, [], ◌∷◌, length, get_or, map, Result, Ok, Err, Some, None, refl, arith}
use Rattle.std.proofs.lemmas.Bool.Decides.{nat_tests}
use Rattle.std.proofs.lemmas.Str.Parse.{IsNumeralModel, numerals_by_value, tells_all_ascii_digits}
use Rattle.std.specs.Result.{OkIff, result_ok}
use Rattle.std.specs.Str.{all_ascii_digits}
use Rattle.std.specs.Str.Parse.{digits_value}
use Rattle.std.specs.String.{string_bytes}
use Rattle.std.specs.declared.string.String.{String}
use Rattle.std.specs.declared.alloc.Global.{Global}
use Rattle.child_peer.specs.Words.{is_shortest, job_of, ticket_of, words_of, words_with}

-- std's words for texts of digits and their values are those of the definition
pub decimal_digits : IsNumeralModel (λ text. all_ascii_digits text ≡ true) (digits_value 10)
decimal_digits = numerals_by_value _ tells_all_ascii_digits

-- the shortest digits are some
shortest-some : (word : List ℕ) → is_shortest word ≡ true → 0 < length word
shortest-some [] shortest = cc shortest
shortest-some (digit ∷ digits) shortest = omega arith

-- what a reading of the shortest digits gives
pub job_of-read : {E : Type 0} (word : List ℕ) (read : Result ℕ E) → is_shortest word ≡ true
    → OkIff read ((all_ascii_digits word ≡ true) × (0 < length word) × (digits_value 10 word < 2 ^ 64)) (digits_value 10 word)
    → result_ok read ≡ job_of word
job_of-read word (Ok n) shortest is = grind (arith, nat_tests)
job_of-read word (Err e) shortest none =
    let some = shortest-some word shortest in
    let small = λ (all : all_ascii_digits word ≡ true) (less : digits_value 10 word < 2 ^ 64). none (all, some, less) in
    grind (arith, nat_tests, small)

-- three words
pub words_of-three : (words : List (String Global)) (job ticket : String Global) → length words ≡ 3
    → job ≡ get_or words 1 job → ticket ≡ get_or words 2 ticket
    → words_of (map string_bytes words) ≡ words_with (job_of (string_bytes job)) (ticket_of (string_bytes ticket)) None
words_of-three [] job ticket long job_is ticket_is = absurd (omega arith)
words_of-three (a ∷ []) job ticket long job_is ticket_is = absurd (omega arith)
words_of-three (a ∷ b ∷ []) job ticket long job_is ticket_is = absurd (omega arith)
words_of-three (a ∷ b ∷ c ∷ []) job ticket long job_is ticket_is = cc
words_of-three (a ∷ b ∷ c ∷ d ∷ more) job ticket long job_is ticket_is = absurd (omega arith)

-- four words
pub words_of-four : (words : List (String Global)) (job ticket last : String Global) → length words ≡ 4
    → job ≡ get_or words 1 job → ticket ≡ get_or words 2 ticket → last ≡ get_or words 3 last
    → words_of (map string_bytes words) ≡ words_with (job_of (string_bytes job)) (ticket_of (string_bytes ticket)) (Some (string_bytes last))
words_of-four [] job ticket last long job_is ticket_is last_is = absurd (omega arith)
words_of-four (a ∷ []) job ticket last long job_is ticket_is last_is = absurd (omega arith)
words_of-four (a ∷ b ∷ []) job ticket last long job_is ticket_is last_is = absurd (omega arith)
words_of-four (a ∷ b ∷ c ∷ []) job ticket last long job_is ticket_is last_is = absurd (omega arith)
words_of-four (a ∷ b ∷ c ∷ d ∷ []) job ticket last long job_is ticket_is last_is = cc
words_of-four (a ∷ b ∷ c ∷ d ∷ e ∷ more) job ticket last long job_is ticket_is last_is = absurd (omega arith)

-- neither
pub words_of-other : (words : List (String Global)) → (length words ≡ 3 → ⊥) → (length words ≡ 4 → ⊥)
    → words_of (map string_bytes words) ≡ None
words_of-other [] three four = refl
words_of-other (a ∷ []) three four = refl
words_of-other (a ∷ b ∷ []) three four = refl
words_of-other (a ∷ b ∷ c ∷ []) three four = absurd (three refl)
words_of-other (a ∷ b ∷ c ∷ d ∷ []) three four = absurd (four refl)
words_of-other (a ∷ b ∷ c ∷ d ∷ e ∷ more) three four = refl
