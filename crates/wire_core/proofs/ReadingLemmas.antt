-- Steps of a reading that didn't fail, and the bytes that they read.
use Rattle.std.proofs.Common.{◌≡◌, ℕ, ◌^◌, ◌<◌, Bool, true, false, cond, List, [], ◌∷◌, ◌++◌, length, Option, Some, None, Result, Ok, Err, refl, subst, ap, ◌∙◌}
use Rattle.std.specs.Option.{ok_or}
use Rattle.std.proofs.Math.Seq.{drop-append_seam}
use Rattle.std.proofs.lemmas.List.{append-nil, take_at}
use Rattle.std.proofs.lemmas.List.Elements.{All-drop, All-take}
use Rattle.wire_text.specs.Wire.{IsBytes, uint32, uint64, string}
use Rattle.wire_text.proofs.WireLemmas.{drop-string}
use Rattle.wire_core.specs.Fields.{uint32_at, uint64_at, string_at}
use Rattle.wire_core.specs.Readings.{◌>>=◌, field_or, ended_or}
use Rattle.wire_core.proofs.Theorems.{uint32_at-uint32, uint64_at-uint64, string_at-string}

-- ---- steps that didn't fail

-- what is read in the end was read first
pub bind_ok : {A B E : Type 0} (r : Result A E) (f : A → Result B E) (y : B) → (r >>= f) ≡ Ok y
    → (x : A) × (r ≡ Ok x) × (f x ≡ Ok y)
bind_ok (Ok x) f y e = (x, refl, e)
bind_ok (Err fault) f y e = absurd cc

-- the value is there
pub ok_or_ok : {A E : Type 0} (o : Option A) (fault : E) (x : A) → ok_or o fault ≡ Ok x → o ≡ Some x
ok_or_ok (Some y) fault x e = cc
ok_or_ok None fault x e = absurd cc

-- the test held, and the value is the one behind it
pub guard_ok : {A E : Type 0} (b : Bool) (fault : E) (x y : A) → cond b (Ok x) (Err fault) ≡ Ok y
    → (b ≡ true) × (x ≡ y)
guard_ok true fault x y e = (refl, cc)
guard_ok false fault x y e = absurd cc

-- a field was there, and the later reading gave the value
pub record IsRead {A R E : Type 0} (at : Option (A × List ℕ)) (later : A → List ℕ → Result R E) (value : R)
    : Type 0 where
  pub field : A
  pub rest : List ℕ
  pub there : at ≡ Some (field, rest)
  pub read : later field rest ≡ Ok value

pub field_or_is : {A R E : Type 0} (missing : E) (at : Option (A × List ℕ))
    (later : A → List ℕ → Result R E) (value : R) → field_or missing at later ≡ Ok value
    → IsRead at later value
field_or_is missing None later value h = absurd cc
field_or_is missing (Some x) later value h = record { field = x.0; rest = x.1; there = refl; read = h }

-- nothing followed
pub ended_or_is : {R E : Type 0} (trailing : E) (made value : R) (rest : List ℕ)
    → ended_or trailing made rest ≡ Ok value → (rest ≡ []) × (made ≡ value)
ended_or_is trailing made value [] h = (refl, cc)
ended_or_is trailing made value (x ∷ xs) h = absurd cc

-- ---- a field that nothing follows

pub uint32_at-alone : (value : ℕ) → value < 2 ^ 32 → uint32_at (uint32 value) ≡ Some (value, [])
uint32_at-alone value small =
    let P : List ℕ → Type 0 = λ bytes. uint32_at bytes ≡ Some (value, []) in
    subst P (append-nil (uint32 value)) (uint32_at-uint32 value [] small)

pub uint64_at-alone : (value : ℕ) → value < 2 ^ 64 → uint64_at (uint64 value) ≡ Some (value, [])
uint64_at-alone value small =
    let P : List ℕ → Type 0 = λ bytes. uint64_at bytes ≡ Some (value, []) in
    subst P (append-nil (uint64 value)) (uint64_at-uint64 value [] small)

pub string_at-alone : (text : List ℕ) → length text < 2 ^ 32 → string_at (string text) ≡ Some (text, [])
string_at-alone text small =
    let P : List ℕ → Type 0 = λ bytes. string_at bytes ≡ Some (text, []) in
    subst P (append-nil (string text)) (string_at-string text [] small)

-- ---- the bytes that were read

-- a field that nothing follows is all of the bytes
pub last : (bytes field rest : List ℕ) → bytes ≡ field ++ rest → rest ≡ [] → bytes ≡ field
last bytes field rest parts none = parts ∙ ap (λ (l : List ℕ). field ++ l) none ∙ append-nil field

-- a field, and what the bytes behind it are
pub behind : (bytes field rest text : List ℕ) → bytes ≡ field ++ rest → rest ≡ text → bytes ≡ field ++ text
behind bytes field rest text parts same = parts ∙ ap (λ (l : List ℕ). field ++ l) same

-- the same behind the byte that says what follows
pub after_byte : (byte : ℕ) (bytes text : List ℕ) → bytes ≡ text → byte ∷ bytes ≡ byte ∷ text
after_byte byte bytes text same = ap (λ (l : List ℕ). byte ∷ l) same

-- what follows a front of bytes is bytes too
pub bytes_behind : (bytes front rest : List ℕ) → IsBytes bytes → bytes ≡ front ++ rest → IsBytes rest
bytes_behind bytes front rest each parts =
    let all : IsBytes (front ++ rest) = subst IsBytes parts each in
    subst IsBytes (drop-append_seam front rest)
    (All-drop (λ byte. byte < 256) (length front) (front ++ rest) all)

-- what a string of bytes holds is bytes
pub bytes_inside : (text rest : List ℕ) → IsBytes (string text ++ rest) → IsBytes text
bytes_inside text rest small =
    let behind : IsBytes (text ++ rest) =
    subst IsBytes (drop-string text rest) (All-drop (λ byte. byte < 256) 4 (string text ++ rest) small) in
    subst IsBytes (take_at text rest (length text) refl)
    (All-take (λ byte. byte < 256) (length text) (text ++ rest) behind)
