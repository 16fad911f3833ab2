-- Where the private fields of an addition stand, as the code finds it.
use Rattle.std.proofs.Common.{◌≡◌, ◌≤◌, ℕ, List, ◌++◌, length, Result, Ok, Err, sym, ap, subst, ◌∙◌, arith}
use Rattle.std.specs.Prelude.{MatchResult}
use Rattle.std.proofs.lemmas.List.{length-append}
use Rattle.wire_text.specs.Wire.{string}
use Rattle.wire_core.specs.Readings.{◌>>=◌}
use Rattle.wire_core.proofs.ReadingLemmas.{bind_ok}
use Rattle.key_blob.specs.declared.fault.KeyFault.{KeyFault}
use Rattle.key_blob.specs.declared.form.Form.{Form}
use Rattle.key_blob.specs.declared.form.Form.TheVariants.{Plain, Certified}
use Rattle.key_blob.specs.declared.kind.KeyKind.{KeyKind}
use Rattle.key_blob.specs.KeyTypes.{KeyType, key_type, type_of}
use Rattle.key_blob.specs.Reading.{fields_at, after_fields, strings}
use Rattle.key_blob.specs.AddedKeys.{IsAddition, blob_fields, blob_fields_at, certificate_blob_at, blob_at, private_at}
use Rattle.key_blob.proofs.CertificateLemmas.{ok_is}
use Rattle.key_blob.proofs.Theorems.{private_at-addition}

-- ---- the public fields, passed over

bind_err : {A B E : Type 0} (r : Result A E) (f : A → B) (fault : E) → (r >>= λ x. Ok (f x)) ≡ Err fault → r ≡ Err fault
bind_err (Ok x) f fault e = absurd cc
bind_err (Err other) f fault e = cc

-- the public fields of a blob from those that were read, and what follows them
abbrev as_fields : KeyKind → Result (List (List ℕ) × List ℕ) KeyFault → Result (List ℕ × List ℕ) KeyFault
as_fields kind fields = fields >>= λ read. Ok (blob_fields (key_type kind) read.0, read.1)

-- the blob from them
abbrev as_blob : KeyKind → Result (List (List ℕ) × List ℕ) KeyFault → Result (List ℕ × List ℕ) KeyFault
as_blob kind fields = as_fields kind fields >>= λ public. Ok (string (key_type kind).name ++ public.0, public.1)

-- fields that were passed over are those of a blob
passed_is_read : (kind : KeyKind) (bytes rest : List ℕ) → after_fields (key_type kind).added bytes ≡ Ok rest
    → (blob : List ℕ) × (blob_at (Plain kind) bytes ≡ Ok (blob, rest))
unfolding blob_at blob_fields_at after_fields
passed_is_read kind bytes rest passed =
    let read = bind_ok (fields_at (key_type kind).added bytes) (λ read. Ok read.1) rest passed in
    let left : read.0.1 ≡ rest = ok_is read.0.1 rest read.2 in
    let blob = string (key_type kind).name ++ blob_fields (key_type kind) read.0.0 in
    let answer : List ℕ → Result (List ℕ × List ℕ) KeyFault = λ rest. Ok (blob, rest) in
    (blob, ap (as_blob kind) read.1 ∙ ap answer left)

-- their fault is the blob's
fault_is_read : (kind : KeyKind) (bytes : List ℕ) (fault : KeyFault) → after_fields (key_type kind).added bytes ≡ Err fault
    → blob_at (Plain kind) bytes ≡ Err fault
unfolding blob_at blob_fields_at after_fields
fault_is_read kind bytes fault failed =
    ap (as_blob kind) (bind_err (fields_at (key_type kind).added bytes) (λ read. read.1) fault failed)

-- the same, of a line of the table
pub passed_as_read : {A : Type 0} (form : Form) (kind : KeyKind) (type : KeyType) (bytes rest : List ℕ) (result : Result A KeyFault)
    → form ≡ Plain kind → type ≡ type_of form
    → MatchResult result (λ _. after_fields type.added bytes ≡ Ok rest) (λ fault. after_fields type.added bytes ≡ Err fault)
    → MatchResult result (λ _. (blob : List ℕ) × (blob_at form bytes ≡ Ok (blob, rest))) (λ fault. blob_at form bytes ≡ Err fault)
passed_as_read form kind type bytes rest (Ok x) plain is passed =
    subst (λ (f : Form). (blob : List ℕ) × (blob_at f bytes ≡ Ok (blob, rest))) (sym plain)
    (passed_is_read kind bytes rest (subst (λ (t : KeyType). after_fields t.added bytes ≡ Ok rest) (is ∙ ap type_of plain) passed))
passed_as_read form kind type bytes rest (Err fault) plain is failed =
    subst (λ (f : Form). blob_at f bytes ≡ Err fault) (sym plain)
    (fault_is_read kind bytes fault (subst (λ (t : KeyType). after_fields t.added bytes ≡ Err fault) (is ∙ ap type_of plain) failed))

-- a certificate that was taken is the blob
pub certificate_is_blob : (form : Form) (kind : KeyKind) (type : KeyType) (bytes blob rest : List ℕ) → form ≡ Certified kind → type ≡ type_of form
    → certificate_blob_at type bytes ≡ Ok (blob, rest) → blob_at form bytes ≡ Ok (blob, rest)
unfolding blob_at
certificate_is_blob form kind type bytes blob rest certified is taken =
    subst (λ (f : Form). blob_at f bytes ≡ Ok (blob, rest)) (sym certified)
    (subst (λ (t : KeyType). certificate_blob_at t bytes ≡ Ok (blob, rest)) (is ∙ ap type_of certified) taken)

-- ---- the place

-- what is left at the first private field is no longer than the addition
pub private_is_within : (bytes private : List ℕ) → IsAddition bytes → private_at bytes ≡ Ok private → length private ≤ length bytes
private_is_within bytes private added read =
    let key = added.0 in
    let is = added.1 in
    let left : strings is.private ≡ private = ok_is (strings is.private) private (sym (private_at-addition key is) ∙ ap private_at added.2 ∙ read) in
    let name = string (type_of is.form).name in
    omega (
      arith,
      ap length left,
      ap length added.2,
      ap length is.text,
      length-append name (is.blob_text ++ (strings is.again ++ strings is.private)),
      length-append is.blob_text (strings is.again ++ strings is.private),
      length-append (strings is.again) (strings is.private),
    )
