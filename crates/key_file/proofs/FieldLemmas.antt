-- The fields of a body, taken and put.
use Rattle.std.proofs.Common.{◌≡◌, ℕ, ◌^◌, ◌<◌, ◌%◌, cond, eqb, List, ◌++◌, length, take, drop, Ok, Err, refl, sym, ap, subst, ◌∙◌, lit<}
use Rattle.std.specs.Str.{bytes_eq}
use Rattle.std.proofs.lemmas.Bool.{eqb-true, eq-eqb}
use Rattle.std.proofs.lemmas.List.{take-append-drop}
use Rattle.std.proofs.lemmas.List.Elements.{All-drop}
use Rattle.std.proofs.lemmas.Slice.Eq.{bytes_eq-Decides}
use Rattle.wire_text.specs.Wire.{IsBytes, uint32, string}
use Rattle.wire_text.proofs.WireLemmas.{drop-string}
use Rattle.wire_core.specs.Fields.{string_at, uint32_at}
use Rattle.wire_core.proofs.Theorems.{IsFront, string_at-string, uint32_at-uint32, string_is_front, uint32_is_front}
use Rattle.key_file.specs.declared.fault.KeyFileFault.TheVariants.{Short, Magic, Cipher, Count, Block, Check}
use Rattle.key_file.specs.Bodies.{magic}
use Rattle.key_file.specs.BodyReading.{◌>>=◌, text_at, u32_at, after_magic, after_text, after_count, blocks_at, after_checks}
use Rattle.key_file.proofs.PartLemmas.{front_all}
use Rattle.key_file.proofs.StepLemmas.{bind_ok, ok_or_ok, guard_ok}

-- ---- strings

-- what a string of bytes holds is bytes
string_bytes : (text rest : List ℕ) → IsBytes (string text ++ rest) → IsBytes text
string_bytes text rest small =
    front_all (λ byte. byte < 256) text rest (subst IsBytes (drop-string text rest) (All-drop (λ byte. byte < 256) 4 (string text ++ rest) small))

-- a string at the front of bytes, and its text
pub record IsText (bytes text rest : List ℕ) : Type 0 where
  pub parts : bytes ≡ string text ++ rest
  pub left : IsBytes rest
  pub inside : IsBytes text
  pub small : length text < 2 ^ 32

pub text_is : (bytes : List ℕ) (x : List ℕ × List ℕ) → IsBytes bytes → text_at bytes ≡ Ok x
    → IsText bytes x.0 x.1
text_is bytes x small read =
    let f = string_is_front bytes x.0 x.1 small (ok_or_ok (string_at bytes) Short x read) in
    record { parts = f.0.parts; left = f.0.left; inside = string_bytes x.0 x.1 (subst IsBytes f.0.parts small); small = f.1 }

pub text_again : (text rest : List ℕ) → length text < 2 ^ 32
    → text_at (string text ++ rest) ≡ Ok (text, rest)
text_again text rest small = rw (string_at-string text rest small) refl

-- ---- numbers

pub number_is : (bytes : List ℕ) (x : ℕ × List ℕ) → IsBytes bytes → u32_at bytes ≡ Ok x
    → IsFront bytes (uint32 x.0) x.1 × (x.0 < 2 ^ 32)
number_is bytes x small read = uint32_is_front bytes x.0 x.1 small (ok_or_ok (uint32_at bytes) Short x read)

-- ---- the fields

pub magic_is : (bytes rest : List ℕ) → IsBytes bytes → after_magic bytes ≡ Ok rest
    → IsFront bytes magic rest
unfolding after_magic
magic_is bytes rest small read =
    let g = guard_ok (bytes_eq (take (length magic) bytes) magic) Magic (drop (length magic) bytes) rest read in
    let same = (bytes_eq-Decides (take (length magic) bytes) magic).0 g.0 in
    subst (IsFront bytes magic) g.1 (record {
      parts = sym (take-append-drop (length magic) bytes) ∙ ap (λ (front : List ℕ). front ++ drop (length magic) bytes) same;
      left = All-drop (λ byte. byte < 256) (length magic) bytes small;
    })

pub magic_again : (rest : List ℕ) → after_magic (magic ++ rest) ≡ Ok rest
unfolding after_magic
magic_again rest = refl

pub this_text_is : (wanted bytes rest : List ℕ) → IsBytes bytes → after_text wanted bytes ≡ Ok rest
    → IsText bytes wanted rest
unfolding after_text
this_text_is wanted bytes rest small read =
    let a = bind_ok (text_at bytes) (λ text. cond (bytes_eq text.0 wanted) (Ok text.1) (Err Cipher)) rest read in
    let g = guard_ok (bytes_eq a.0.0 wanted) Cipher a.0.1 rest a.2 in
    let same = (bytes_eq-Decides a.0.0 wanted).0 g.0 in
    subst (λ (text : List ℕ). IsText bytes text rest) same (subst (λ (r : List ℕ). IsText bytes a.0.0 r) g.1 (text_is bytes a.0 small a.1))

pub this_text_again : (text rest : List ℕ) → length text < 2 ^ 32
    → after_text text (string text ++ rest) ≡ Ok rest
unfolding after_text
this_text_again text rest small = rw (string_at-string text rest small, (bytes_eq-Decides text text).1 refl) refl

pub count_is : (bytes rest : List ℕ) → IsBytes bytes → after_count bytes ≡ Ok rest
    → IsFront bytes (uint32 1) rest
unfolding after_count
count_is bytes rest small read =
    let a = bind_ok (u32_at bytes) (λ count. cond (eqb count.0 1) (Ok count.1) (Err Count)) rest read in
    let g = guard_ok (eqb a.0.0 1) Count a.0.1 rest a.2 in
    let number = number_is bytes a.0 small a.1 in
    subst (λ (n : ℕ). IsFront bytes (uint32 n) rest) (eqb-true a.0.0 1 g.0) (subst (IsFront bytes (uint32 a.0.0)) g.1 number.0)

pub count_again : (rest : List ℕ) → after_count (uint32 1 ++ rest) ≡ Ok rest
unfolding after_count
count_again rest = rw (uint32_at-uint32 1 rest (lit< tt)) refl

pub blocks_are : (bytes : List ℕ) (x : List ℕ × List ℕ) → IsBytes bytes → blocks_at bytes ≡ Ok x
    → IsText bytes x.0 x.1 × (length x.0 % 8 ≡ 0)
unfolding blocks_at
blocks_are bytes x small read =
    let a = bind_ok (text_at bytes) (λ part. cond (eqb (length part.0 % 8) 0) (Ok part) (Err Block)) x read in
    let g = guard_ok (eqb (length a.0.0 % 8) 0) Block a.0 x a.2 in
    subst (λ (y : List ℕ × List ℕ). IsText bytes y.0 y.1 × (length y.0 % 8 ≡ 0)) g.1
    (text_is bytes a.0 small a.1, eqb-true (length a.0.0 % 8) 0 g.0)

pub blocks_again : (part rest : List ℕ) → length part < 2 ^ 32 → length part % 8 ≡ 0
    → blocks_at (string part ++ rest) ≡ Ok (part, rest)
unfolding blocks_at
blocks_again part rest small whole = rw (string_at-string part rest small, eq-eqb (length part % 8) 0 whole) refl

-- the same check number twice
pub record IsChecked (bytes rest : List ℕ) : Type 0 where
  pub check : ℕ
  pub fits : check < 2 ^ 32
  pub parts : bytes ≡ uint32 check ++ (uint32 check ++ rest)
  pub left : IsBytes rest

pub checks_are : (bytes rest : List ℕ) → IsBytes bytes → after_checks bytes ≡ Ok rest
    → IsChecked bytes rest
unfolding after_checks
checks_are bytes rest small read =
    let a = bind_ok (u32_at bytes) (λ first. u32_at first.1 >>= λ second. cond (eqb first.0 second.0) (Ok second.1) (Err Check)) rest read in
    let b = bind_ok (u32_at a.0.1) (λ second. cond (eqb a.0.0 second.0) (Ok second.1) (Err Check)) rest a.2 in
    let g = guard_ok (eqb a.0.0 b.0.0) Check b.0.1 rest b.2 in
    let first = number_is bytes a.0 small a.1 in
    let second = number_is a.0.1 b.0 first.0.left b.1 in
    let same : b.0.0 ≡ a.0.0 = sym (eqb-true a.0.0 b.0.0 g.0) in
    subst (IsChecked bytes) g.1 (record {
      check = a.0.0;
      fits = first.1;
      parts = first.0.parts ∙ ap (λ (t : List ℕ). uint32 a.0.0 ++ t) (second.0.parts ∙ ap (λ (n : ℕ). uint32 n ++ b.0.1) same);
      left = second.0.left;
    })

pub checks_again : (check : ℕ) (rest : List ℕ) → check < 2 ^ 32
    → after_checks (uint32 check ++ (uint32 check ++ rest)) ≡ Ok rest
unfolding after_checks
checks_again check rest fits = rw (uint32_at-uint32 check (uint32 check ++ rest) fits, uint32_at-uint32 check rest fits, eq-eqb check check refl) refl
