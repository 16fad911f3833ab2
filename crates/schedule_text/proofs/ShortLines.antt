-- Lines of words, numbers and few bytes aren't too long.
use Rattle.std.proofs.Common.{◌≡◌, ◌≤◌, ◌<◌, ◌^◌, ℕ, List, ◌++◌, length, length-append, arith, codes, decimal}
use Rattle.std.proofs.lemmas.Fmt.{length-decimal-le}
use Rattle.hex.specs.Hex.{encode_lower, lower_digits}
use Rattle.hex.proofs.HexLemmas.{length-encode_with}
use Rattle.schedule_text.specs.Steps.{bytes_text, one_text, two_text}

-- a number has 20 digits at the most
length-decimal : (n : ℕ) → n < 2 ^ 64 → length (decimal n) ≤ 20
length-decimal n small = length-decimal-le 20 n (omega arith) (omega arith) small

-- a word and a number
front-short : (word : List ℕ) (size n : ℕ) → length word ≡ size → size ≤ 7 → n < 2 ^ 64 → length (one_text word n) ≤ 28
front-short word size n is few small =
    let number = length-decimal n small in
    let behind = length-append (codes " ") (decimal n) in
    let all = length-append word (codes " " ++ decimal n) in
    omega arith

pub one_text-short : (word : List ℕ) (size n : ℕ) → length word ≡ size → size ≤ 7 → n < 2 ^ 64 → length (one_text word n) ≤ 65536
one_text-short word size n is few small = omega (arith, front-short word size n is few small)

-- and another number
pub two_text-short : (word : List ℕ) (size first second : ℕ) → length word ≡ size → size ≤ 7 → first < 2 ^ 64 → second < 2 ^ 64
    → length (two_text word first second) ≤ 65536
two_text-short word size first second is few small_first small_second =
    let front = front-short word size first is few small_first in
    let number = length-decimal second small_second in
    let behind = length-append (codes " ") (decimal second) in
    let all = length-append (one_text word first) (codes " " ++ decimal second) in
    omega arith

-- or bytes
pub bytes_text-short : (word : List ℕ) (size n : ℕ) (bytes : List ℕ) → length word ≡ size → size ≤ 7 → n < 2 ^ 64
    → length bytes ≤ 32000 → length (bytes_text word n bytes) ≤ 65536
bytes_text-short word size n bytes is few small short =
    let front = front-short word size n is few small in
    let twice = length-encode_with lower_digits bytes in
    let behind = length-append (codes " ") (encode_lower bytes) in
    let all = length-append (one_text word n) (codes " " ++ encode_lower bytes) in
    omega arith
