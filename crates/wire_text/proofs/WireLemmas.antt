-- Lengths, uniqueness and reading back of the data types.
use Rattle.std.proofs.Common.{◌≡◌, ℕ, ◌+◌, ◌^◌, ◌<◌, ◌≤◌, List, [], ◌++◌, length, get_or, take, drop, refl, sym, ap, ◌∙◌, append_assoc, arith, inl, inr}
use Rattle.std.specs.Int.{w32, w64, from_be_bytes}
use Rattle.std.proofs.lemmas.Bool.{cases_lt}
use Rattle.std.proofs.lemmas.List.{length-append, length-take, length-drop, drop-drop, take_at, drop_at, get_or_append_left, get_or-take, get_or_past, take-append-drop}
use Rattle.std.proofs.lemmas.List.Elements.{All-take}
use Rattle.std.proofs.lemmas.Nat.{be_bytes_4, from_be_bytes-to_be_bytes_4, from_be_bytes-to_be_bytes_8}
use Rattle.wire_text.specs.Wire.{IsBytes, uint32, uint64, string, announced_len}

-- ---- lengths

-- a uint32 has four bytes
pub length-uint32 : (value : ℕ) → length (uint32 value) ≡ 4
unfolding uint32
length-uint32 value = refl

-- a uint64 has eight bytes
pub length-uint64 : (value : ℕ) → length (uint64 value) ≡ 8
unfolding uint64
length-uint64 value = refl

-- a string has four bytes more than its text
pub length-string : (text : List ℕ) → length (string text) ≡ 4 + length text
unfolding string
length-string text = length-append (uint32 (length text)) text ∙ ap (λ (n : ℕ). n + length text) (length-uint32 (length text))

-- ---- numbers

-- the number that four bytes were written from
pub announced_len-uint32 : (value : ℕ) (rest : List ℕ) → value < 2 ^ 32 → announced_len (uint32 value ++ rest) ≡ value
unfolding announced_len uint32
announced_len-uint32 value rest small = from_be_bytes-to_be_bytes_4 value small

-- a number below 2 ^ 32 has its own four bytes
pub same_uint32 : (a b : ℕ) → a < 2 ^ 32 → b < 2 ^ 32 → uint32 a ≡ uint32 b → a ≡ b
same_uint32 a b small_a small_b same =
    sym (announced_len-uint32 a [] small_a) ∙ ap (λ (bytes : List ℕ). announced_len (bytes ++ [])) same ∙ announced_len-uint32 b [] small_b

-- a number below 2 ^ 64 has its own eight bytes
pub same_uint64 : (a b : ℕ) → a < 2 ^ 64 → b < 2 ^ 64 → uint64 a ≡ uint64 b → a ≡ b
unfolding uint64
same_uint64 a b small_a small_b same =
    sym (from_be_bytes-to_be_bytes_8 a small_a) ∙ ap (from_be_bytes w64) same ∙ from_be_bytes-to_be_bytes_8 b small_b

-- only the first four bytes are read
pub announced_len-append : (s t : List ℕ) → 4 ≤ length s → announced_len (s ++ t) ≡ announced_len s
unfolding announced_len
announced_len-append s t header =
    grind (arith, get_or_append_left s t 0 0, get_or_append_left s t 0 1, get_or_append_left s t 0 2, get_or_append_left s t 0 3)

-- and they hold the same number alone
pub announced_len-take : (bytes : List ℕ) → 4 ≤ length bytes → announced_len (take 4 bytes) ≡ announced_len bytes
announced_len-take bytes header =
    sym (announced_len-append (take 4 bytes) (drop 4 bytes) (omega (arith, length-take 4 bytes)))
    ∙ ap announced_len (take-append-drop 4 bytes)

-- what is read from the first four bytes is the length that they announce
pub announced_len-read : (bytes header : List ℕ) (value : ℕ) → 4 ≤ length bytes → header ≡ take 4 bytes → value ≡ from_be_bytes w32 header → value ≡ announced_len bytes
unfolding announced_len
announced_len-read bytes header value enough front read = read ∙ ap (from_be_bytes w32) front ∙ announced_len-take bytes enough

-- every place of bytes has one, and past the end stands 0
pub byte_at_each : (bytes : List ℕ) → IsBytes bytes → (i : ℕ) → get_or bytes i 0 < 256
byte_at_each bytes small i =
    elim (cases_lt i (length bytes)) [
      | inl inside ↦ small i 0 inside
      | inr past ↦ rw (get_or_past bytes i 0 past) (omega arith)
    ]

-- four bytes hold a number below 2 ^ 32
pub announced_len-below : (bytes : List ℕ) → IsBytes bytes → announced_len bytes < 2 ^ 32
unfolding announced_len
announced_len-below bytes small =
    let each = byte_at_each bytes small in
    omega (arith, each 0, each 1, each 2, each 3)

-- the first four bytes are those of the number that they hold
pub uint32-announced_len : (bytes : List ℕ) → IsBytes bytes → 4 ≤ length bytes → uint32 (announced_len bytes) ≡ take 4 bytes
unfolding announced_len uint32
uint32-announced_len bytes small header =
    let each = byte_at_each (take 4 bytes) (All-take (λ byte. byte < 256) 4 bytes small) in
    let same : from_be_bytes w32 bytes ≡ from_be_bytes w32 (take 4 bytes) =
    omega (arith, get_or-take 4 bytes 0 0 (omega arith), get_or-take 4 bytes 1 0 (omega arith), get_or-take 4 bytes 2 0 (omega arith), get_or-take 4 bytes 3 0 (omega arith)) in
    be_bytes_4 (take 4 bytes) (from_be_bytes w32 bytes) (omega (arith, length-take 4 bytes)) each same

-- ---- strings

-- a string announces the length of its text
pub announced_len-string : (text rest : List ℕ) → length text < 2 ^ 32 → announced_len (string text ++ rest) ≡ length text
unfolding string
announced_len-string text rest small =
    ap announced_len (append_assoc (uint32 (length text)) text rest) ∙ announced_len-uint32 (length text) (text ++ rest) small

-- behind the four bytes stands the text
pub drop-string : (text rest : List ℕ) → drop 4 (string text ++ rest) ≡ text ++ rest
unfolding string
drop-string text rest =
    ap (drop 4) (append_assoc (uint32 (length text)) text rest) ∙ drop_at (uint32 (length text)) (text ++ rest) 4 (length-uint32 (length text))

-- no string begins another
pub same_string : (a b s t : List ℕ) → length a < 2 ^ 32 → length b < 2 ^ 32 → string a ++ s ≡ string b ++ t → (a ≡ b) × (s ≡ t)
same_string a b s t small_a small_b same =
    let lengths : length a ≡ length b = sym (announced_len-string a s small_a) ∙ ap announced_len same ∙ announced_len-string b t small_b in
    let texts : a ++ s ≡ b ++ t = sym (drop-string a s) ∙ ap (drop 4) same ∙ drop-string b t in (
      sym (take_at a s (length b) lengths) ∙ ap (take (length b)) texts ∙ take_at b t (length b) refl,
      sym (drop_at a s (length b) lengths) ∙ ap (drop (length b)) texts ∙ drop_at b t (length b) refl,
    )

-- ---- bytes

-- bytes that announce a length, and so many bytes behind it, are a string and what follows
pub string-announced : (bytes : List ℕ) → IsBytes bytes → 4 + announced_len bytes ≤ length bytes →
    string (take (announced_len bytes) (drop 4 bytes)) ++ drop (4 + announced_len bytes) bytes ≡ bytes
unfolding string
string-announced bytes small follows =
    let n = announced_len bytes in
    let size : length (take n (drop 4 bytes)) ≡ n = omega (arith, length-take n (drop 4 bytes), length-drop 4 bytes) in
    let header : uint32 (length (take n (drop 4 bytes))) ≡ take 4 bytes =
    ap uint32 size ∙ uint32-announced_len bytes small (omega arith) in
    ap (λ (front : List ℕ). (front ++ take n (drop 4 bytes)) ++ drop (4 + n) bytes) header
    ∙ append_assoc (take 4 bytes) (take n (drop 4 bytes)) (drop (4 + n) bytes)
    ∙ ap (λ (rest : List ℕ). take 4 bytes ++ (take n (drop 4 bytes) ++ rest)) (sym (drop-drop n 4 bytes))
    ∙ ap (λ (rest : List ℕ). take 4 bytes ++ rest) (take-append-drop n (drop 4 bytes))
    ∙ take-append-drop 4 bytes

-- how many bytes a number and a string take, for a tactic's list
pub ruleset wire_lengths = (length-uint32, length-uint64, length-string)
