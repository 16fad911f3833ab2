-- Round trips: what was put is taken, whatever follows it, and what is taken is what stands at the front.
use Rattle.std.proofs.Common.{◌≡◌, ℕ, ◌+◌, ◌^◌, ◌<◌, ◌≤◌, Bool, true, false, cond, ltb, List, ◌++◌, length, get_or, take, drop, Some, None, refl, sym, ap, subst, ◌∙◌, arith}
use Rattle.std.specs.Int.{w64, from_be_bytes}
use Rattle.std.proofs.lemmas.Bool.{ltb-false, le-ltb}
use Rattle.std.proofs.lemmas.Bool.Decides.{nat_tests}
use Rattle.std.proofs.lemmas.List.{length-append, length-take, drop-drop, take_at, drop_at, take-append-drop, get_or-take}
use Rattle.std.proofs.lemmas.List.Elements.{All-drop, All-take}
use Rattle.std.proofs.lemmas.Nat.{be_bytes_8, from_be_bytes-to_be_bytes_8}
use Rattle.wire_text.specs.Wire.{IsBytes, uint32, uint64, string, boolean, announced_len}
use Rattle.wire_text.proofs.WireLemmas.{length-uint32, length-uint64, length-string, announced_len-uint32, announced_len-string, drop-string, string-announced, announced_len-below, uint32-announced_len, byte_at_each}
use Rattle.wire_core.specs.Fields.{boolean_at, uint32_at, uint64_at, string_len, string_at}

-- ---- what was put is taken

pub boolean_at-boolean : (value : Bool) (rest : List ℕ) → boolean_at (boolean value ++ rest) ≡ Some (value, rest)
boolean_at-boolean true rest = refl
boolean_at-boolean false rest = refl

pub uint32_at-uint32 : (value : ℕ) (rest : List ℕ) → value < 2 ^ 32 → uint32_at (uint32 value ++ rest) ≡ Some (value, rest)
unfolding uint32_at
uint32_at-uint32 value rest small =
    let whole : ltb (length (uint32 value ++ rest)) 4 ≡ false =
    le-ltb _ _ (omega (arith, length-append (uint32 value) rest, length-uint32 value)) in
    rw (whole, announced_len-uint32 value rest small, drop_at (uint32 value) rest 4 (length-uint32 value)) refl

pub uint64_at-uint64 : (value : ℕ) (rest : List ℕ) → value < 2 ^ 64 → uint64_at (uint64 value ++ rest) ≡ Some (value, rest)
unfolding uint64_at uint64
uint64_at-uint64 value rest small =
    let whole : ltb (length (uint64 value ++ rest)) 8 ≡ false =
    le-ltb _ _ (omega (arith, length-append (uint64 value) rest, length-uint64 value)) in
    rw (whole, from_be_bytes-to_be_bytes_8 value small) refl

pub string_at-string : (text rest : List ℕ) → length text < 2 ^ 32 → string_at (string text ++ rest) ≡ Some (text, rest)
unfolding string_at string_len
string_at-string text rest small =
    let size = length-append (string text) rest in
    let announced = announced_len-string text rest small in
    let header : ltb (length (string text ++ rest)) 4 ≡ false =
    le-ltb _ _ (omega (arith, size, length-string text)) in
    let whole : ltb (length (string text ++ rest)) (4 + length text) ≡ false =
    le-ltb _ _ (omega (arith, size, length-string text)) in
    rw (header, announced, whole, drop-string text rest, take_at text rest (length text) refl, drop_at text rest (length text) refl) refl

-- ---- what is taken stands at the front

guard_taken : {A : Type 0} (b : Bool) (x y : A) → cond b None (Some x) ≡ Some y → (b ≡ false) × (x ≡ y)
guard_taken true x y e = absurd cc
guard_taken false x y e = (refl, cc)

-- the text stood in front of what is left, and what is left is bytes
pub record IsFront (bytes text rest : List ℕ) : Type 0 where
  pub parts : bytes ≡ text ++ rest
  pub left : IsBytes rest

pub uint32_is_front : (bytes : List ℕ) (value : ℕ) (rest : List ℕ) → IsBytes bytes → uint32_at bytes ≡ Some (value, rest) →
    IsFront bytes (uint32 value) rest × (value < 2 ^ 32)
unfolding uint32_at
uint32_is_front bytes value rest small taken =
    let g = guard_taken (ltb (length bytes) 4) (announced_len bytes, drop 4 bytes) (value, rest) taken in
    let header : 4 ≤ length bytes = ltb-false _ _ g.0 in
    subst (λ (x : ℕ × List ℕ). IsFront bytes (uint32 x.0) x.1 × (x.0 < 2 ^ 32)) g.1 (
      record {
        parts = sym (ap (λ (front : List ℕ). front ++ drop 4 bytes) (uint32-announced_len bytes small header) ∙ take-append-drop 4 bytes);
        left = All-drop (λ byte. byte < 256) 4 bytes small;
      },
      announced_len-below bytes small,
    )

pub uint64_is_front : (bytes : List ℕ) (value : ℕ) (rest : List ℕ) → IsBytes bytes → uint64_at bytes ≡ Some (value, rest) →
    IsFront bytes (uint64 value) rest × (value < 2 ^ 64)
unfolding uint64_at uint64
uint64_is_front bytes value rest small taken =
    let g = guard_taken (ltb (length bytes) 8) (from_be_bytes w64 bytes, drop 8 bytes) (value, rest) taken in
    let header : 8 ≤ length bytes = ltb-false _ _ g.0 in
    let each = byte_at_each bytes small in
    let kept : (i : ℕ) → i < 8 → get_or (take 8 bytes) i 0 ≡ get_or bytes i 0 = λ i lt. get_or-take 8 bytes i 0 lt in
    let same : from_be_bytes w64 bytes ≡ from_be_bytes w64 (take 8 bytes) =
    omega (arith, kept 0 (omega arith), kept 1 (omega arith), kept 2 (omega arith), kept 3 (omega arith), kept 4 (omega arith), kept 5 (omega arith), kept 6 (omega arith), kept 7 (omega arith)) in
    let front : uint64 (from_be_bytes w64 bytes) ≡ take 8 bytes =
    be_bytes_8 (take 8 bytes) (from_be_bytes w64 bytes) (omega (arith, length-take 8 bytes)) (byte_at_each (take 8 bytes) (All-take (λ byte. byte < 256) 8 bytes small)) same in
    subst (λ (x : ℕ × List ℕ). IsFront bytes (uint64 x.0) x.1 × (x.0 < 2 ^ 64)) g.1 (
      record {
        parts = sym (ap (λ (front : List ℕ). front ++ drop 8 bytes) front ∙ take-append-drop 8 bytes);
        left = All-drop (λ byte. byte < 256) 8 bytes small;
      },
      omega (arith, each 0, each 1, each 2, each 3, each 4, each 5, each 6, each 7),
    )

pub string_is_front : (bytes text rest : List ℕ) → IsBytes bytes → string_at bytes ≡ Some (text, rest) →
    IsFront bytes (string text) rest × (length text < 2 ^ 32)
unfolding string_at string_len
string_is_front bytes text rest small taken =
    let n = announced_len bytes in
    let g = guard_taken (ltb (length bytes) (cond (ltb (length bytes) 4) 4 (4 + n))) (take n (drop 4 bytes), drop n (drop 4 bytes)) (text, rest) taken in
    let enough : cond (ltb (length bytes) 4) 4 (4 + n) ≤ length bytes = ltb-false _ _ g.0 in
    let header : 4 ≤ length bytes = grind (arith, nat_tests) in
    let follows : 4 + n ≤ length bytes = grind (arith, nat_tests) in
    subst (λ (x : List ℕ × List ℕ). IsFront bytes (string x.0) x.1 × (length x.0 < 2 ^ 32)) g.1 (
      record {
        parts = sym (rw drop-drop (string-announced bytes small follows));
        left = All-drop (λ byte. byte < 256) n (drop 4 bytes) (All-drop (λ byte. byte < 256) 4 bytes small);
      },
      omega (arith, length-take n (drop 4 bytes), announced_len-below bytes small),
    )
