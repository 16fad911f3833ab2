-- Additions of plain keys: what is read is one, and each is read.
use Rattle.std.proofs.Common.{◌≡◌, ℕ, Bool, true, false, cond, List, ◌++◌, Option, Ok, Err, refl, sym, ap, ◌∙◌, append_assoc}
use Rattle.std.specs.Prelude.{nat_eq}
use Rattle.std.specs.List.{ends_with}
use Rattle.wire_text.specs.Wire.{IsBytes, string}
use Rattle.wire_core.specs.Fields.{string_at}
use Rattle.wire_core.proofs.Theorems.{string_at-string}
use Rattle.key_blob.specs.declared.added.AddedKey.{AddedKey}
use Rattle.key_blob.specs.declared.fault.KeyFault.TheVariants.{UnknownType}
use Rattle.key_blob.specs.declared.form.Form.{Form}
use Rattle.key_blob.specs.declared.form.Form.TheVariants.{Plain, Certified}
use Rattle.key_blob.specs.declared.kind.KeyKind.TheVariants.{Ed25519, Rsa, Nistp256, Nistp384, Nistp521, StandIn}
use Rattle.key_blob.specs.KeyTypes.{IsListed, type_of}
use Rattle.key_blob.specs.AddedKeys.{IsAddedKey, added_key_at}
use Rattle.key_blob.proofs.Theorems.{added_is_found, added_is_read}
use Rattle.key_blob.proofs.TypeLemmas.{name_is_short}
use Rattle.key_file.specs.PlainKeys.{is_plain, IsPlainAddition, certificate_ending, has_ending, plain_key_at}

-- the names of certificates' types end so, and no other does
ending_of : (form : Form) → IsListed form
    → cond (ends_with nat_eq (type_of form).name certificate_ending) false true ≡ is_plain form
ending_of (Plain Ed25519) listed = refl
ending_of (Plain Rsa) listed = refl
ending_of (Plain Nistp256) listed = refl
ending_of (Plain Nistp384) listed = refl
ending_of (Plain Nistp521) listed = refl
ending_of (Plain StandIn) listed = refl
ending_of (Certified Ed25519) listed = refl
ending_of (Certified Rsa) listed = refl
ending_of (Certified Nistp256) listed = refl
ending_of (Certified Nistp384) listed = refl
ending_of (Certified Nistp521) listed = refl
ending_of (Certified StandIn) listed = absurd listed

-- the ending of an addition's type
addition_ending : (key : AddedKey) (rest : List ℕ) (is : IsAddedKey key)
    → cond (has_ending (string_at (key.private ++ rest))) false true ≡ is_plain is.form
addition_ending key rest is =
    let text : List ℕ → List ℕ = λ text. text ++ rest in
    let read = string_at-string (type_of is.form).name _ (name_is_short is.form) in
    ap (λ (bytes : List ℕ). cond (has_ending (string_at bytes)) false true) (ap text is.text ∙ append_assoc (string (type_of is.form).name) _ rest)
    ∙ ap (λ (found : Option (List ℕ × List ℕ)). cond (has_ending found) false true) read
    ∙ ending_of is.form is.listed

record IsUnguarded (test : Bool) (bytes : List ℕ) (x : AddedKey × List ℕ) : Type 0 where
  passed : test ≡ false
  read : added_key_at bytes ≡ Ok x

unguarded : (test : Bool) (bytes : List ℕ) (x : AddedKey × List ℕ)
    → cond test (Err UnknownType) (added_key_at bytes) ≡ Ok x → IsUnguarded test bytes x
unguarded true bytes x e = absurd cc
unguarded false bytes x e = record { passed = refl; read = e }

pub plain_is_found : (bytes : List ℕ) (x : AddedKey × List ℕ) → IsBytes bytes
    → plain_key_at bytes ≡ Ok x → IsPlainAddition x.0 × (bytes ≡ x.0.private ++ x.1)
unfolding plain_key_at
plain_is_found bytes x small e =
    let u = unguarded (has_ending (string_at bytes)) bytes x e in
    let found = added_is_found bytes x.0 x.1 small u.read in
    let test : cond (has_ending (string_at (x.0.private ++ x.1))) false true ≡ true =
    ap (λ (b : List ℕ). cond (has_ending (string_at b)) false true) (sym found.1) ∙ ap (λ (b : Bool). cond b false true) u.passed in
    (record { added = found.0; plain = sym (addition_ending x.0 x.1 found.0) ∙ test }, found.1)

not_ending : (test : Bool) → cond test false true ≡ true → test ≡ false
not_ending true e = absurd cc
not_ending false e = refl

pub plain_is_read : (key : AddedKey) (rest : List ℕ) → IsPlainAddition key
    → plain_key_at (key.private ++ rest) ≡ Ok (key, rest)
unfolding plain_key_at
plain_is_read key rest is =
    let passed = not_ending (has_ending (string_at (key.private ++ rest))) (addition_ending key rest is.added ∙ is.plain) in
    rw (passed) (added_is_read key rest is.added)
