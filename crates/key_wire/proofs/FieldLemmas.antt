-- Lemmas on fields: what was read stood in front, and what stands in front is read.
use Rattle.std.proofs.Common.{◌≡◌, ℕ, ◌^◌, ◌<◌, eqb, List, [], ◌++◌, length, Ok, refl, sym, ap, subst, ◌∙◌}
use Rattle.std.specs.Option.{ok_or}
use Rattle.std.proofs.lemmas.Bool.{eq-eqb, eqb-true}
use Rattle.std.proofs.lemmas.List.{append-nil}
use Rattle.std.proofs.lemmas.Slice.Eq.{bytes_eq-Decides}
use Rattle.std.specs.Str.{bytes_eq}
use Rattle.key_wire.specs.declared.fault.KeyFault.TheVariants.{Unfit}
use Rattle.key_wire.specs.Fields.{if_known, if_sized, known_at, sized_at}
use Rattle.wire_core.specs.Fields.{string_at, uint32_at, uint64_at}
use Rattle.wire_core.proofs.ReadingLemmas.{bind_ok, guard_ok, ok_or_ok}
use Rattle.wire_core.proofs.Theorems.{IsFront, string_at-string, string_is_front, uint32_is_front, uint64_is_front}
use Rattle.wire_text.specs.Wire.{IsBytes, string, uint32, uint64}

-- a string that was read
pub text_front : (bytes : List ℕ) (x : List ℕ × List ℕ) → IsBytes bytes → ok_or (string_at bytes) Unfit ≡ Ok x
    → IsFront bytes (string x.0) x.1 × (length x.0 < 2 ^ 32)
text_front bytes x small read = string_is_front bytes x.0 x.1 small (ok_or_ok (string_at bytes) Unfit x read)

-- a uint64 that was read
pub long_front : (bytes : List ℕ) (x : ℕ × List ℕ) → IsBytes bytes → ok_or (uint64_at bytes) Unfit ≡ Ok x
    → IsFront bytes (uint64 x.0) x.1 × (x.0 < 2 ^ 64)
long_front bytes x small read = uint64_is_front bytes x.0 x.1 small (ok_or_ok (uint64_at bytes) Unfit x read)

-- a uint32 that was read
pub word_front : (bytes : List ℕ) (x : ℕ × List ℕ) → IsBytes bytes → ok_or (uint32_at bytes) Unfit ≡ Ok x
    → IsFront bytes (uint32 x.0) x.1 × (x.0 < 2 ^ 32)
word_front bytes x small read = uint32_is_front bytes x.0 x.1 small (ok_or_ok (uint32_at bytes) Unfit x read)

-- a string that was read of this length
pub record IsSizedFront (len : ℕ) (bytes text rest : List ℕ) : Type 0 where
  pub parts : bytes ≡ string text ++ rest
  pub left : IsBytes rest
  pub sized : length text ≡ len

pub sized_front : (len : ℕ) (bytes : List ℕ) (x : List ℕ × List ℕ) → IsBytes bytes → sized_at len bytes ≡ Ok x
    → IsSizedFront len bytes x.0 x.1
unfolding sized_at
sized_front len bytes x small read =
    let a = bind_ok (ok_or (string_at bytes) Unfit) (if_sized len) x read in
    let g = guard_ok (eqb (length a.0.0) len) Unfit a.0 x a.2 in
    let front = text_front bytes a.0 small a.1 in
    subst (λ (y : List ℕ × List ℕ). IsSizedFront len bytes y.0 y.1) g.1
    (record { parts = front.0.parts; left = front.0.left; sized = eqb-true (length a.0.0) len g.0 })

-- a string of this length is read
pub sized_again : (len : ℕ) (text rest : List ℕ) → length text ≡ len → length text < 2 ^ 32
    → sized_at len (string text ++ rest) ≡ Ok (text, rest)
unfolding sized_at
sized_again len text rest is small = rw (string_at-string text rest small, eq-eqb (length text) len is) refl

-- one that nothing follows
pub sized_alone : (len : ℕ) (text : List ℕ) → length text ≡ len → length text < 2 ^ 32
    → sized_at len (string text) ≡ Ok (text, [])
sized_alone len text is small = ap (sized_at len) (sym (append-nil (string text))) ∙ sized_again len text [] is small

-- a known string was read
pub known_front : (known bytes rest : List ℕ) → IsBytes bytes → known_at known bytes ≡ Ok rest
    → IsFront bytes (string known) rest × (length known < 2 ^ 32)
unfolding known_at
known_front known bytes rest small read =
    let a = bind_ok (ok_or (string_at bytes) Unfit) (if_known known) rest read in
    let g = guard_ok (bytes_eq a.0.0 known) Unfit a.0.1 rest a.2 in
    let is : a.0.0 ≡ known = (bytes_eq-Decides a.0.0 known).0 g.0 in
    let front = text_front bytes a.0 small a.1 in
    let at_text : IsFront bytes (string known) a.0.1 × (length known < 2 ^ 32) =
    subst (λ (t : List ℕ). IsFront bytes (string t) a.0.1 × (length t < 2 ^ 32)) is front in
    subst (λ (r : List ℕ). IsFront bytes (string known) r × (length known < 2 ^ 32)) g.1 at_text

-- a known string is read
pub known_again : (known rest : List ℕ) → length known < 2 ^ 32 → known_at known (string known ++ rest) ≡ Ok rest
unfolding known_at
known_again known rest small = rw (string_at-string known rest small, (bytes_eq-Decides known known).1 refl) refl
