-- Lemmas on specs/Numbers.antt.
use Rattle.std.proofs.Common.{length, get_or, decimal, true, Some, Ok, Err, Result, zero, suc, ap, ◌∙◌, lit<, rules, ◌<◌, ◌≡◌, ℕ, ◌+◌, ◌-◌, ◌*◌, ◌^◌, ◌≤◌, List, [], ◌∷◌, None, refl, arith}
use Rattle.std.proofs.lemmas.Bool.Decides.{nat_tests}
use Rattle.std.specs.Str.{all_ascii_digits}
use Rattle.std.specs.Result.{result_ok}
use Rattle.std.proofs.lemmas.Fmt.{decimal_digit, decimal_nonempty, digits_decimal, digits_value-decimal, first_decimal}
use Rattle.std.proofs.lemmas.Str.Parse.{IsNumeralModel, numerals_by_fold}
use Rattle.hex.specs.Hex.{decode_of, encode_lower, lower_digits, IsBytes}
use Rattle.hex.specs.declared.error.FromHexError.{FromHexError}
use Rattle.hex.proofs.HexLemmas.{decode_of-encode_lower, decode_of-ok, length-encode_with}
use Rattle.schedule_text.specs.Numbers.{bytes_of, is_shortest, number_after, number_of, value_of}

-- more digits make no smaller number
pub number_after-le : (n : ℕ) (digits : List ℕ) → n ≤ number_after n digits
number_after-le n [] = omega arith
number_after-le n (digit ∷ digits) = omega (arith, number_after-le (n * 10 + (digit - 48)) digits)

-- digits behind a number that is too great make none
pub value_of-too_great : (text digits : List ℕ) (n : ℕ) → number_after 0 text ≡ number_after n digits → 2 ^ 64 ≤ n
    → value_of text ≡ None
value_of-too_great text digits n same great = grind (arith, nat_tests, number_after-le n digits)

-- the words of std for texts of digits and their values are those of specs/Numbers.antt
decimal_digits : IsNumeralModel (λ text. all_ascii_digits text ≡ true) (number_after 0)
decimal_digits = numerals_by_fold _ (search rules) number_after (search rules)

-- digits of which the first is no zero are the shortest
is_shortest-first : (digits : List ℕ) → 0 < length digits → 48 < get_or digits 0 0 → is_shortest digits ≡ true
is_shortest-first [] some above = absurd (omega arith)
is_shortest-first (digit ∷ []) some above = refl
is_shortest-first (digit ∷ next ∷ digits) some above = grind (arith, nat_tests)

-- a decimal text is the shortest
is_shortest-decimal : (n : ℕ) → n < 2 ^ 64 → is_shortest (decimal n) ≡ true
is_shortest-decimal zero small = ap is_shortest (decimal_digit 0 (lit< tt))
is_shortest-decimal (suc n) small =
    is_shortest-first (decimal (suc n)) (decimal_nonempty (suc n) small) (first_decimal (suc n) (omega arith) small)

-- the shortest digits are some
shortest-some : (digits : List ℕ) → is_shortest digits ≡ true → 0 < length digits
shortest-some [] shortest = cc shortest
shortest-some (digit ∷ digits) shortest = omega arith

-- the text of a number has digits alone
pub all_digits-decimal : (n : ℕ) → n < 2 ^ 64 → all_ascii_digits (decimal n) ≡ true
all_digits-decimal n small = digits_decimal decimal_digits n small

-- the text of a number is read as that number
pub number_of-decimal : (n : ℕ) → n < 2 ^ 64 → number_of (decimal n) ≡ Some n
number_of-decimal n small =
    let digits = all_digits-decimal n small in
    let same : number_after 0 (decimal n) ≡ n = digits_value-decimal decimal_digits n small in
    grind (arith, nat_tests, is_shortest-decimal n small, digits, same)

-- the result that an option was made from
ok_of_result_ok : (result : Result (List ℕ) FromHexError) (bytes : List ℕ) → result_ok result ≡ Some bytes
    → result ≡ Ok bytes
ok_of_result_ok (Ok read) bytes same = cc
ok_of_result_ok (Err fault) bytes same = cc same

-- a field that isn't empty is read as the hex crate reads it
bytes_of-some : (field : List ℕ) → 0 < length field → bytes_of field ≡ result_ok (decode_of field)
bytes_of-some [] some = absurd (omega arith)
bytes_of-some (digit ∷ digits) some = refl

-- the text of bytes in hexadecimal is read as these bytes
pub bytes_of-encode_lower : (bytes : List ℕ) → 0 < length bytes → IsBytes bytes → bytes_of (encode_lower bytes) ≡ Some bytes
bytes_of-encode_lower bytes some small =
    let twice = length-encode_with lower_digits bytes in
    bytes_of-some (encode_lower bytes) (omega arith) ∙ ap result_ok (decode_of-encode_lower bytes small)

-- what is read in hexadecimal is one byte at least
pub length-bytes_of : (field bytes : List ℕ) → bytes_of field ≡ Some bytes → 0 < length bytes
length-bytes_of [] bytes read = cc read
length-bytes_of (digit ∷ digits) bytes read =
    let twice = (decode_of-ok (digit ∷ digits) bytes (ok_of_result_ok (decode_of (digit ∷ digits)) bytes read)).2 in
    omega (arith, twice)
