-- What the decoder gives is bytes.
use Rattle.std.proofs.Common.{◌≡◌, ℕ, zero, suc, ◌+◌, ◌*◌, ◌/◌, ◌%◌, ◌<◌, ◌≤◌, eqb, Bool, true, false, cond, List, [], ◌∷◌, length, drop, get_or, Option, Some, None, Result, Ok, Err, refl, subst, inl, inr, ◌⊎◌, arith}
use Rattle.std.proofs.lemmas.List.{length-drop, get_or-drop}
use Rattle.std.proofs.lemmas.List.Elements.{All-cons, All-append, All-take}
use Rattle.base64.specs.declared.decode.DecodeError.{DecodeError}
use Rattle.base64.specs.declared.decode.DecodeError.TheVariants.{InvalidByte}
use Rattle.base64.specs.Decode.{or_else, symbol_error, group_error, group_bytes, groups_error, groups_bytes, groups_before_last, decode_group, no_leftover, scan_last, scan_bytes, suffix_error, decoded_bytes, decode_error, decode_outcome, lone_error}
use Rattle.base64.specs.Tables.{is_inverse}
use Rattle.base64.specs.Engines.{standard}
use Rattle.base64.proofs.Canonical.{IsScanned-scan}
use Rattle.base64.proofs.Tables.{are_tables_inverse, encode-decode_table}
use Rattle.base64.specs.declared.engine.DecodePaddingMode.{DecodePaddingMode}
use Rattle.base64.specs.GeneralPurpose.{decode_of}
use Rattle.wire_text.specs.Wire.{IsBytes}
use Rattle.wire_text.proofs.WireLemmas.{byte_at_each}

none_of : (x y : Option DecodeError) → or_else x y ≡ None → (x ≡ None) × (y ≡ None)
none_of None y e = (refl, e)
none_of (Some fault) y e = absurd cc

no_bytes : IsBytes []
no_bytes i d within = absurd (omega arith)

-- ---- groups of four characters

group_is_bytes : (a b c d : ℕ) → a < 64 → b < 64 → c < 64 → d < 64 → IsBytes (decode_group a b c d)
group_is_bytes a b c d small_a small_b small_c small_d =
    All-cons (λ byte. byte < 256) (a * 4 + b / 16) ((b % 16 * 16 + c / 4) ∷ (c % 4 * 64 + d) ∷ []) (omega arith)
    (All-cons (λ byte. byte < 256) (b % 16 * 16 + c / 4) ((c % 4 * 64 + d) ∷ []) (omega arith)
    (All-cons (λ byte. byte < 256) (c % 4 * 64 + d) [] (omega arith) no_bytes))

value_by : (test : Bool) (fault : DecodeError) → cond test (Some fault) None ≡ None → test ≡ false
value_by true fault e = absurd cc
value_by false fault e = refl

-- a character that is no error has a value of six bits
value_of : (enc dec s : List ℕ) (i : ℕ) → is_inverse enc dec ≡ true → IsBytes s
    → symbol_error dec s i ≡ None → get_or dec (get_or s i 0) 0 < 64
value_of enc dec s i inverse small e =
    let fine = value_by (eqb (get_or dec (get_or s i 0) 0) 255) (InvalidByte i (get_or s i 0)) e in
    elim (encode-decode_table enc dec inverse (get_or s i 0) (byte_at_each s small i)) [
      | inl bad ↦ absurd (cc (rw bad at fine))
      | inr good ↦ good.0
    ]

group_at_is_bytes : (enc dec s : List ℕ) (i : ℕ) → is_inverse enc dec ≡ true → IsBytes s
    → group_error dec s i ≡ None → IsBytes (group_bytes dec s i)
group_at_is_bytes enc dec s i inverse small e =
    let a = none_of _ _ e in
    let b = none_of _ _ a.1 in
    let c = none_of _ _ b.1 in
    group_is_bytes _ _ _ _ (value_of enc dec s i inverse small a.0) (value_of enc dec s (i + 1) inverse small b.0)
    (value_of enc dec s (i + 2) inverse small c.0) (value_of enc dec s (i + 3) inverse small c.1)

groups_are_bytes : (enc dec s : List ℕ) (count : ℕ) → is_inverse enc dec ≡ true → IsBytes s
    → groups_error dec s count ≡ None → IsBytes (groups_bytes dec s count)
unfolding groups_error groups_bytes
groups_are_bytes enc dec s zero inverse small e = no_bytes
groups_are_bytes enc dec s (suc count) inverse small e =
    let parts = none_of _ _ e in
    All-append (λ byte. byte < 256) (groups_bytes dec s count) (group_bytes dec s (4 * count))
    (groups_are_bytes enc dec s count inverse small parts.0) (group_at_is_bytes enc dec s (4 * count) inverse small parts.1)

-- ---- the last group

zeros_are_small : (k : ℕ) → get_or (0 ∷ 0 ∷ 0 ∷ 0 ∷ []) k 0 < 64
zeros_are_small zero = omega arith
zeros_are_small (suc zero) = omega arith
zeros_are_small (suc (suc zero)) = omega arith
zeros_are_small (suc (suc (suc zero))) = omega arith
zeros_are_small (suc (suc (suc (suc k)))) = omega arith

result_cases : {T F : Type 0} (r : Result T F) → ((x : T) × (r ≡ Ok x)) ⊎ ((e : F) × (r ≡ Err e))
result_cases (Ok x) = inl (x, refl)
result_cases (Err e) = inr (e, refl)

last_is_bytes : (enc dec s : List ℕ) (pad at : ℕ) → is_inverse enc dec ≡ true → IsBytes s
    → length s ≤ at + 4 → IsBytes (scan_bytes (scan_last dec pad at s))
last_is_bytes enc dec s pad at inverse small short = elim (result_cases (scan_last dec pad at s)) [
  | inl ok ↦
      let rest : List ℕ = drop at s in
      let held = IsScanned-scan enc dec rest pad at rest no_leftover ok.0 0 inverse (λ k. rw (get_or-drop at s k 0) (byte_at_each s small (at + k)))
      (omega (arith, length-drop at s)) (omega arith) refl
      ((refl, refl, λ j lt. absurd (omega arith), λ j low lt. absurd (omega arith)), (omega arith, omega arith, omega arith, zeros_are_small)) ok.1 in
      let group = group_is_bytes _ _ _ _ (held.1.3 0) (held.1.3 1) (held.1.3 2) (held.1.3 3) in
      rw ok.1 (All-take (λ byte. byte < 256) _ _ group)
  | inr failed ↦ rw failed.1 no_bytes
]

-- ---- the whole

decoded_are_bytes : (enc dec s : List ℕ) (pad : ℕ) (allow : Bool) (mode : DecodePaddingMode)
    → is_inverse enc dec ≡ true → IsBytes s →
    decode_error dec pad allow mode s ≡ None → IsBytes (decoded_bytes dec pad s)
decoded_are_bytes enc dec s pad allow mode inverse small e =
    let count : ℕ = groups_before_last (length s) in
    let lone = none_of (lone_error dec pad s) (or_else (groups_error dec s count) (suffix_error dec pad allow mode (4 * count) s)) e in
    let groups = none_of (groups_error dec s count) (suffix_error dec pad allow mode (4 * count) s) lone.1 in
    All-append (λ byte. byte < 256) (groups_bytes dec s count) _ (groups_are_bytes enc dec s count inverse small groups.0)
    (last_is_bytes enc dec s pad (4 * count) inverse small (omega arith))

outcome_of : (x : Option DecodeError) (made bytes : List ℕ) → decode_outcome x made ≡ Ok bytes
    → (x ≡ None) × (made ≡ bytes)
outcome_of None made bytes e = (refl, cc)
outcome_of (Some fault) made bytes e = absurd cc

pub decoded_is_bytes : (text bytes : List ℕ) → IsBytes text → decode_of standard text ≡ Ok bytes
    → IsBytes bytes
decoded_is_bytes text bytes small e =
    let o = outcome_of _ _ bytes e in
    subst IsBytes o.1 (decoded_are_bytes standard.encode_table standard.decode_table text standard.padding.value
    standard.config.decode_allow_trailing_bits standard.config.decode_padding_mode
    (are_tables_inverse standard.encode_table standard.decode_table standard.padding.value standard.tables) small o.0)
