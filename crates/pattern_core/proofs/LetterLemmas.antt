-- Texts as they are read.
use Rattle.std.proofs.Common.{◌≡◌, ◌==◌, ◌||◌, ℕ, zero, Bool, List, [], ◌∷◌, length, take, drop, get_or, suc, refl, ap, sym, arith}
use Rattle.std.proofs.lemmas.Bool.Decides.{nat_tests}
use Rattle.std.proofs.lemmas.List.{drop-map, take-map, length-map}
use Rattle.pattern_core.specs.declared.case.Case.{Case}
use Rattle.pattern_core.specs.declared.case.Case.TheVariants.{Kept, Lowered}
use Rattle.pattern_core.specs.Letters.{read_byte, read_text}
use Rattle.std.specs.Char.{to_ascii_lowercase, to_ascii_uppercase}
use Rattle.pattern_core.specs.Patterns.{star, question}

-- what is behind so many bytes is read alike
pub drop-read_text : (case : Case) (n : ℕ) (text : List ℕ) → drop n (read_text case text) ≡ read_text case (drop n text)
drop-read_text case n text = drop-map (read_byte case) n text

-- so many bytes are read alike
pub take-read_text : (case : Case) (n : ℕ) (text : List ℕ) → take n (read_text case text) ≡ read_text case (take n text)
take-read_text case n text = take-map (read_byte case) n text

-- reading keeps the length
pub length-read_text : (case : Case) (text : List ℕ) → length (read_text case text) ≡ length text
length-read_text case text = length-map text (read_byte case)

-- letters that are kept are the text
pub read_text-kept : (text : List ℕ) → read_text Kept text ≡ text
read_text-kept [] = refl
read_text-kept (x ∷ xs) = ap (λ l. x ∷ l) (read_text-kept xs)

-- a zero is read as itself
pub read_byte-zero : (case : Case) → read_byte case 0 ≡ 0
read_byte-zero Kept = refl
read_byte-zero Lowered = refl

-- each byte is read by itself
pub get_or-read_text : (case : Case) (text : List ℕ) (k : ℕ) → get_or (read_text case text) k 0 ≡ read_byte case (get_or text k 0)
get_or-read_text case [] k = sym (read_byte-zero case)
get_or-read_text case (x ∷ xs) zero = refl
get_or-read_text case (x ∷ xs) (suc k) = get_or-read_text case xs k

-- a `*` has no case
pub read_byte-star : (case : Case) (byte : ℕ) → (read_byte case byte == star) ≡ (byte == star)
read_byte-star Kept byte = refl
read_byte-star Lowered byte = grind (arith, nat_tests)

-- a `?` has no case
pub read_byte-question : (case : Case) (byte : ℕ) → (read_byte case byte == question) ≡ (byte == question)
read_byte-question Kept byte = refl
read_byte-question Lowered byte = grind (arith, nat_tests)

-- a letter is read as one of two bytes
pub either_case : (byte wanted upper : ℕ) → to_ascii_lowercase wanted ≡ wanted → upper ≡ to_ascii_uppercase wanted
    → (byte == wanted || byte == upper) ≡ (wanted == to_ascii_lowercase byte)
either_case byte wanted upper low is = grind (arith, nat_tests)

-- the same of tests for these two
pub either_case-tests : (lower_there upper_there : Bool) (byte shown wanted upper : ℕ)
    → lower_there ≡ (byte == wanted) → upper_there ≡ (byte == upper) → byte ≡ shown
    → to_ascii_lowercase wanted ≡ wanted → upper ≡ to_ascii_uppercase wanted
    → (lower_there || upper_there) ≡ (wanted == to_ascii_lowercase shown)
either_case-tests lower_there upper_there byte shown wanted upper p q same low is =
    let h = either_case shown wanted upper low is in cc
