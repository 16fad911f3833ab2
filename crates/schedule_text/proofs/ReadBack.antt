-- A line that is written for a step is read as that step.
use Rattle.std.proofs.Common.{◌≡◌, ◌≤◌, ◌<◌, ◌^◌, ◌/◌, ◌%◌, ◌==◌, ℕ, zero, suc, Bool, true, false, not, nat_lt, if◌then◌else◌, List, [], ◌∷◌, ◌++◌, length, ok_or, Ok, Err, refl, ap, ◌∙◌, arith, codes, decimal, append_assoc}
use Rattle.std.proofs.lemmas.Bool.{and_parts}
use Rattle.std.proofs.lemmas.Bool.Decides.{nat_tests}
use Rattle.std.proofs.lemmas.List.Elements.{All-from_recursion}
use Rattle.std.proofs.lemmas.List.Splits.{slice_split_at, slice_split_none}
use Rattle.std.specs.List.{All, AllByRecursion, slice_index}
use Rattle.std.specs.Char.{is_ascii_digit}
use Rattle.std.specs.Str.{all_ascii_digits}
use Rattle.hex.specs.Hex.{encode_lower, encode_with, lower_digits, IsBytes}
use Rattle.world_ports.specs.declared.Door.TheVariants.{Clients, Children}
use Rattle.schedule_text.specs.declared.fault.LineFault.TheVariants.{Hex, Number, TooLong}
use Rattle.schedule_text.specs.declared.step.Step.{Step}
use Rattle.schedule_text.specs.declared.step.Step.TheVariants.{Skip, Format2, At, Join, Hear, End, Hold, Free, Take, Started, Failed}
use Rattle.schedule_text.specs.Fields.{fields_of, is_space}
use Rattle.schedule_text.specs.Lines.{◌>>=◌, at_step, bytes_field, count_field, hear_step, number_field, only_number, started_step, step_of, step_of_fields, step_of_short, take_step, ticket_field}
use Rattle.schedule_text.specs.Steps.{IsReadBack, bytes_text, one_text, two_text}
use Rattle.schedule_text.proofs.NumberLemmas.{all_digits-decimal, bytes_of-encode_lower, number_of-decimal}
use Rattle.schedule_text.proofs.Theorems.{step_of-empty}

-- ---- texts without a space

abbrev HasNoSpace : List ℕ → Type 0
HasNoSpace text = AllByRecursion (λ byte. is_space byte ≡ false) text

-- a digit is no space
no_space-digit : (digit : ℕ) → is_ascii_digit digit ≡ true → is_space digit ≡ false
no_space-digit digit is = grind (arith, nat_tests)

no_space-digits : (digits : List ℕ) → all_ascii_digits digits ≡ true → HasNoSpace digits
no_space-digits [] all = tt
no_space-digits (digit ∷ digits) all =
    let parts = and_parts (is_ascii_digit digit) (all_ascii_digits digits) all in
    (no_space-digit digit parts.0, no_space-digits digits parts.1)

no_space-decimal : (n : ℕ) → n < 2 ^ 64 → HasNoSpace (decimal n)
no_space-decimal n small = no_space-digits (decimal n) (all_digits-decimal n small)

-- nor is one of a table of digits
no_space-table : (table : List ℕ) → HasNoSpace table → (i : ℕ) → is_space (slice_index table i) ≡ false
no_space-table [] all i = refl
no_space-table (digit ∷ table) all zero = all.0
no_space-table (digit ∷ table) all (suc i) = no_space-table table all.1 i

no_space-lower : HasNoSpace lower_digits
no_space-lower = (refl, (refl, (refl, (refl, (refl, (refl, (refl, (refl, (refl, (refl, (refl, (refl, (refl, (refl, (refl, (refl, tt))))))))))))))))

no_space-hex : (bytes : List ℕ) → HasNoSpace (encode_lower bytes)
unfolding encode_with
no_space-hex [] = tt
no_space-hex (byte ∷ bytes) =
    (no_space-table lower_digits no_space-lower (byte / 16), (no_space-table lower_digits no_space-lower (byte % 16), no_space-hex bytes))

-- ---- fields

-- the same in the words of std
all_of : (text : List ℕ) → HasNoSpace text → All (λ byte. is_space byte ≡ false) text
all_of text none = All-from_recursion _ text none

-- one field behind a word
fields_of-one : (word field : List ℕ) → HasNoSpace word → HasNoSpace field
    → fields_of (word ++ (codes " " ++ field)) ≡ word ∷ field ∷ []
fields_of-one word field word_none field_none =
    slice_split_at is_space word 32 field (all_of word word_none) refl
    ∙ ap (λ f. word ∷ f) (slice_split_none is_space field (all_of field field_none))

-- two fields behind a word
fields_of-two : (word first second : List ℕ) → HasNoSpace word → HasNoSpace first → HasNoSpace second
    → fields_of ((word ++ (codes " " ++ first)) ++ (codes " " ++ second)) ≡ word ∷ first ∷ second ∷ []
fields_of-two word first second word_none first_none second_none =
    ap fields_of (append_assoc word (codes " " ++ first) (codes " " ++ second))
    ∙ slice_split_at is_space word 32 (first ++ (codes " " ++ second)) (all_of word word_none) refl
    ∙ ap (λ f. word ∷ f) (fields_of-one first second first_none second_none)

-- ---- lines

-- the line is no comment, and not empty
abbrev says : List ℕ → Bool
says [] = false
says (first ∷ more) = not (first == 35)

-- its fields decide
step_of-says : (line : List ℕ) → length line ≤ 65536 → says line ≡ true → step_of line ≡ step_of_fields (fields_of line)
unfolding step_of
step_of-says [] short said = cc said
step_of-says (first ∷ more) short said =
    let within : nat_lt 65536 (length (first ∷ more)) ≡ false = grind (arith, nat_tests) in
    let other : (first == 35) ≡ false = grind (arith, nat_tests) in
    ap (λ t. if t then Err TooLong else step_of_short (first ∷ more)) within
    ∙ ap (λ t. if t then Ok Skip else step_of_fields (fields_of (first ∷ more))) other

-- a word and a number
one_back : (next : ℕ → Step) (n : ℕ) → n < 2 ^ 64 → (only_number (decimal n ∷ []) >>= (λ m. Ok (next m))) ≡ Ok (next n)
one_back next n small = ap (λ r. ok_or r Number >>= (λ m. Ok (next m))) (number_of-decimal n small)

at_back : (mono wall : ℕ) → mono < 2 ^ 64 → wall < 2 ^ 64
    → at_step (decimal mono ∷ decimal wall ∷ []) ≡ Ok (At (record { mono = mono; wall = wall }))
at_back mono wall small_mono small_wall =
    ap (λ r. ok_or r Number >>= (λ m. number_field (decimal wall) >>= (λ w. Ok (At (record { mono = m; wall = w })))))
    (number_of-decimal mono small_mono)
    ∙ ap (λ r. ok_or r Number >>= (λ w. Ok (At (record { mono = mono; wall = w })))) (number_of-decimal wall small_wall)

hear_back : (port : ℕ) (bytes : List ℕ) → port < 2 ^ 64 → 0 < length bytes → IsBytes bytes
    → hear_step (decimal port ∷ encode_lower bytes ∷ []) ≡ Ok (Hear port bytes)
hear_back port bytes small some are_bytes =
    ap (λ r. ok_or r Number >>= (λ p. bytes_field (encode_lower bytes) >>= (λ b. Ok (Hear p b)))) (number_of-decimal port small)
    ∙ ap (λ r. ok_or r Hex >>= (λ b. Ok (Hear port b))) (bytes_of-encode_lower bytes some are_bytes)

-- a count that is no 0
counted : (n : ℕ) → 0 < n → (if n == 0 then Err Number else Ok n) ≡ Ok n
counted n some =
    let other : (n == 0) ≡ false = grind (arith, nat_tests) in
    ap (λ t. if t then Err Number else Ok n) other

take_back : (port count : ℕ) → port < 2 ^ 64 → count < 2 ^ 64 → 0 < count
    → take_step (decimal port ∷ decimal count ∷ []) ≡ Ok (Take port count)
take_back port count small_port small_count some =
    ap (λ r. ok_or r Number >>= (λ p. count_field (decimal count) >>= (λ n. Ok (Take p n)))) (number_of-decimal port small_port)
    ∙ ap (λ r. (ok_or r Number >>= (λ n. if n == 0 then Err Number else Ok n)) >>= (λ n. Ok (Take port n))) (number_of-decimal count small_count)
    ∙ ap (λ r. r >>= (λ n. Ok (Take port n))) (counted count some)

-- a one-time token has 16 bytes
of_sixteen : (ticket : List ℕ) → length ticket ≡ 16 → (if length ticket == 16 then Ok ticket else Err Hex) ≡ Ok ticket
of_sixteen ticket size =
    let is : (length ticket == 16) ≡ true = grind (arith, nat_tests) in
    ap (λ t. if t then Ok ticket else Err Hex) is

started_back : (job : ℕ) (ticket : List ℕ) → job < 2 ^ 64 → IsBytes ticket → length ticket ≡ 16
    → started_step (decimal job ∷ encode_lower ticket ∷ []) ≡ Ok (Started job ticket)
started_back job ticket small are_bytes size =
    ap (λ r. ok_or r Number >>= (λ j. ticket_field (encode_lower ticket) >>= (λ t. Ok (Started j t)))) (number_of-decimal job small)
    ∙ ap (λ r. (ok_or r Hex >>= (λ b. if length b == 16 then Ok b else Err Hex)) >>= (λ t. Ok (Started job t))) (bytes_of-encode_lower ticket (omega arith) are_bytes)
    ∙ ap (λ r. r >>= (λ t. Ok (Started job t))) (of_sixteen ticket size)

-- the line of a word and a number
one_line : (word : List ℕ) (n : ℕ) → HasNoSpace word → says (one_text word n) ≡ true → n < 2 ^ 64
    → length (one_text word n) ≤ 65536 → step_of (one_text word n) ≡ step_of_fields (word ∷ decimal n ∷ [])
one_line word n none said small short =
    step_of-says (one_text word n) short said ∙ ap step_of_fields (fields_of-one word (decimal n) none (no_space-decimal n small))

-- and of a word and two numbers
two_line : (word : List ℕ) (first second : ℕ) → HasNoSpace word → says (two_text word first second) ≡ true
    → first < 2 ^ 64 → second < 2 ^ 64 → length (two_text word first second) ≤ 65536
    → step_of (two_text word first second) ≡ step_of_fields (word ∷ decimal first ∷ decimal second ∷ [])
two_line word first second none said small_first small_second short =
    step_of-says (two_text word first second) short said
    ∙ ap step_of_fields (fields_of-two word (decimal first) (decimal second) none (no_space-decimal first small_first) (no_space-decimal second small_second))

-- and of a word, a number and bytes
bytes_line : (word : List ℕ) (n : ℕ) (bytes : List ℕ) → HasNoSpace word → says (bytes_text word n bytes) ≡ true
    → n < 2 ^ 64 → length (bytes_text word n bytes) ≤ 65536
    → step_of (bytes_text word n bytes) ≡ step_of_fields (word ∷ decimal n ∷ encode_lower bytes ∷ [])
bytes_line word n bytes none said small short =
    step_of-says (bytes_text word n bytes) short said
    ∙ ap step_of_fields (fields_of-two word (decimal n) (encode_lower bytes) none (no_space-decimal n small) (no_space-hex bytes))

pub read_back : IsReadBack
read_back Skip range line = step_of-empty
read_back Format2 range line = step_of-says (codes "schedule 2") line.short refl
read_back (At moment) range line =
    two_line (codes "at") moment.mono moment.wall (refl, (refl, tt)) refl range.0 range.1 line.short
    ∙ at_back moment.mono moment.wall range.0 range.1
read_back (Join Clients) range line = step_of-says (codes "join client") line.short refl
read_back (Join Children) range line = step_of-says (codes "join child") line.short refl
read_back (Hear port bytes) range line =
    bytes_line (codes "hear") port bytes (refl, (refl, (refl, (refl, tt)))) refl range.0 line.short
    ∙ hear_back port bytes range.0 line.some range.1
read_back (End port) range line =
    one_line (codes "end") port (refl, (refl, (refl, tt))) refl range line.short ∙ one_back End port range
read_back (Hold port) range line =
    one_line (codes "hold") port (refl, (refl, (refl, (refl, tt)))) refl range line.short ∙ one_back Hold port range
read_back (Free port) range line =
    one_line (codes "free") port (refl, (refl, (refl, (refl, tt)))) refl range line.short ∙ one_back Free port range
read_back (Take port count) range line =
    two_line (codes "take") port count (refl, (refl, (refl, (refl, tt)))) refl range.0 range.1 line.short
    ∙ take_back port count range.0 range.1 line.some
read_back (Started job ticket) range line =
    bytes_line (codes "started") job ticket (refl, (refl, (refl, (refl, (refl, (refl, (refl, tt))))))) refl range.0 line.short
    ∙ started_back job ticket range.0 range.1 range.2
read_back (Failed job) range line =
    one_line (codes "failed") job (refl, (refl, (refl, (refl, (refl, (refl, tt)))))) refl range line.short ∙ one_back Failed job range
