-- Fields at the front of bytes: what is read stands there, and what stands there is read.
use Rattle.std.proofs.Common.{◌≡◌, ℕ, ◌^◌, ◌<◌, Bool, true, false, cond, List, [], ◌++◌, length, Result, Ok, Err, refl, ap, subst, ◌∙◌, arith, length-append}
use Rattle.std.proofs.lemmas.Bool.{eqb-true, ne_eqb}
use Rattle.std.proofs.lemmas.List.{append-nil, nil_from_length}
use Rattle.wire_text.specs.Wire.{IsBytes, string}
use Rattle.wire_text.proofs.WireLemmas.{length-string}
use Rattle.wire_core.specs.Fields.{string_at}
use Rattle.wire_core.proofs.Theorems.{string_at-string, string_is_front}
use Rattle.wire_core.proofs.ReadingLemmas.{bind_ok, bytes_inside, ok_or_ok}
use Rattle.constraint_rec.specs.declared.fault.TermFault.{TermFault}
use Rattle.constraint_rec.specs.declared.fault.TermFault.TheVariants.{Short, Reserved}
use Rattle.constraint_rec.specs.HopReading.{is_empty, field_at, after_reserved}

-- where there is no fault, the test for one failed
pub unguarded : {A : Type 0} (b : Bool) (x : Result A TermFault) (y : A) (fault : TermFault) → cond b (Err fault) x ≡ Ok y → (b ≡ false) × (x ≡ Ok y)
unguarded true x y fault read = absurd cc
unguarded false x y fault read = (refl, read)

-- where there is no fault, the test against one held
pub guarded : {A : Type 0} (b : Bool) (x : Result A TermFault) (y : A) (fault : TermFault) → cond b x (Err fault) ≡ Ok y → (b ≡ true) × (x ≡ Ok y)
guarded true x y fault read = (refl, read)
guarded false x y fault read = absurd cc

-- ---- empty lists

pub empty_is : {A : Type 0} (list : List A) → is_empty list ≡ true → list ≡ []
empty_is list test = nil_from_length list (eqb-true (length list) 0 test)

pub nonempty_is : {A : Type 0} (list : List A) → is_empty list ≡ false → list ≡ [] → ⊥
nonempty_is {A} list test none = let e : is_empty list ≡ true = ap (λ (l : List A). is_empty l) none in cc

pub nonempty_test : {A : Type 0} (list : List A) → (list ≡ [] → ⊥) → is_empty list ≡ false
nonempty_test list some = ne_eqb (length list) 0 (λ none. some (nil_from_length list none))

-- ---- a string

-- the text stood in front of what is left, and both are bytes
pub record IsField (bytes text rest : List ℕ) : Type 0 where
  pub parts : bytes ≡ string text ++ rest
  pub left : IsBytes rest
  pub inside : IsBytes text
  pub short : length text < 2 ^ 32

pub field_is : (bytes text rest : List ℕ) → IsBytes bytes → field_at bytes ≡ Ok (text, rest) → IsField bytes text rest
field_is bytes text rest small read =
    let front = string_is_front bytes text rest small (ok_or_ok (string_at bytes) Short (text, rest) read) in
    record { parts = front.0.parts; left = front.0.left; inside = bytes_inside text rest (subst IsBytes front.0.parts small); short = front.1 }

pub field_again : (text rest : List ℕ) → length text < 2 ^ 32 → field_at (string text ++ rest) ≡ Ok (text, rest)
field_again text rest short = rw (string_at-string text rest short) refl

-- what follows a string is shorter
pub behind_string : (bytes text rest : List ℕ) → bytes ≡ string text ++ rest → length rest < length bytes
behind_string bytes text rest parts = omega (arith, ap length parts ∙ length-append (string text) rest, length-string text)

-- ---- a reserved string

pub reserved_is : (bytes rest : List ℕ) → IsBytes bytes → after_reserved bytes ≡ Ok rest → IsField bytes [] rest
unfolding after_reserved
reserved_is bytes rest small read =
    let field = bind_ok (field_at bytes) (λ found. cond (is_empty found.0) (Ok found.1) (Err Reserved)) rest read in
    let test = guarded (is_empty field.0.0) (Ok field.0.1) rest Reserved field.2 in
    let same : field.0.1 ≡ rest = let e = test.1 in cc in
    subst (λ left. IsField bytes [] left) same
    (subst (λ text. IsField bytes text field.0.1) (empty_is field.0.0 test.0) (field_is bytes field.0.0 field.0.1 small field.1))

pub reserved_again : (rest : List ℕ) → after_reserved (string [] ++ rest) ≡ Ok rest
unfolding after_reserved
reserved_again rest = rw (string_at-string [] rest (omega arith)) refl

pub reserved_last : after_reserved (string []) ≡ Ok []
reserved_last = subst (λ bytes. after_reserved bytes ≡ Ok []) (append-nil (string [])) (reserved_again [])
