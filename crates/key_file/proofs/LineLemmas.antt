-- The line of a public key: what is read is in the grammar, and what is in it is read.
use Rattle.std.proofs.Common.{◌≡◌, ℕ, Bool, true, false, cond, List, Result, Ok, Err, Some, None, Option, refl, sym, ap, ◌∙◌}
use Rattle.std.specs.Option.{ok_or}
use Rattle.std.specs.Str.{bytes_eq}
use Rattle.std.proofs.lemmas.Slice.Eq.{bytes_eq-Decides}
use Rattle.wire_text.specs.Wire.{IsBytes}
use Rattle.key_blob.specs.declared.fault.KeyFault.{KeyFault}
use Rattle.key_blob.specs.declared.fault.KeyFault.TheVariants as key_fault
use Rattle.key_blob.specs.PublicKeys.{KeyParts, public_key_of}
use Rattle.key_blob.proofs.PublicLemmas.{public_is_found, public_is_read}
use Rattle.key_file.specs.declared.fault.PubFault.{PubFault}
use Rattle.key_file.specs.declared.fault.PubFault.TheVariants.{Base64, Key, OtherType}
use Rattle.key_file.specs.Base64.{bytes_of}
use Rattle.key_file.specs.Faults.{line_fault}
use Rattle.key_file.specs.PublicLines.{◌>>=◌, IsTyped, of_type, typed_key}
use Rattle.key_file.proofs.Base64Lemmas.{decoded_is, base64_is_decoded}
use Rattle.key_file.proofs.StepLemmas.{line_bind_ok, ok_or_ok, guard_ok}

-- ---- a blob of a type

record IsKeyOf (type made blob : List ℕ) (read : Result KeyParts KeyFault) : Type 0 where
  key : KeyParts
  is : read ≡ Ok key
  named : key.type_name ≡ type
  same : made ≡ blob

key_of : (type made blob : List ℕ) (read : Result KeyParts KeyFault)
    → of_type type made read ≡ Ok blob → IsKeyOf type made blob read
key_of type made blob (Ok key) e =
    let g = guard_ok (bytes_eq key.type_name type) OtherType made blob e in
    record { key = key; is = refl; named = (bytes_eq-Decides key.type_name type).0 g.0; same = g.1 }
key_of type made blob (Err fault) e = absurd cc

-- what is read is the blob of a key of the type
pub typed_is_found : (type text blob : List ℕ) → IsBytes text → typed_key type text ≡ Ok blob
    → IsTyped type text blob
unfolding typed_key
typed_is_found type text blob small read =
    let a = line_bind_ok (ok_or (bytes_of text) Base64) (λ made. of_type type made (public_key_of made)) blob read in
    let k = key_of type a.0 blob (public_key_of a.0) a.2 in
    let decoded : bytes_of text ≡ Some blob = ok_or_ok (bytes_of text) Base64 a.0 a.1 ∙ ap Some k.same in
    let is_key : public_key_of blob ≡ Ok k.key = ap public_key_of (sym k.same) ∙ k.is in
    let encoded = decoded_is text blob small decoded in
    record {
      encoded = encoded;
      key = k.key;
      is_key = public_is_found blob k.key encoded.whole is_key;
      of_type = k.named;
    }

-- the blob of a key of the type is read
pub typed_is_read : (type text blob : List ℕ) → IsTyped type text blob
    → typed_key type text ≡ Ok blob
unfolding typed_key
typed_is_read type text blob is =
    rw (
      base64_is_decoded text blob is.encoded,
      public_is_read blob is.key is.is_key,
      (bytes_eq-Decides is.key.type_name type).1 is.of_type,
    ) refl

-- ---- want of memory is the line's own

not_carried : (fault : KeyFault) → line_fault fault ≡ Key key_fault.Memory → ⊥
not_carried key_fault.Short e = cc
not_carried key_fault.UnknownType e = cc
not_carried key_fault.BadLength e = cc
not_carried key_fault.Mismatch e = cc
not_carried key_fault.Trailing e = cc
not_carried key_fault.Memory e = cc

guard_fault : (b : Bool) (blob : List ℕ)
    → cond b (Ok blob) (Err OtherType) ≡ Err (Key key_fault.Memory) → ⊥
guard_fault true blob e = cc
guard_fault false blob e = cc

key_fault_of : (type made : List ℕ) (read : Result KeyParts KeyFault)
    → of_type type made read ≡ Err (Key key_fault.Memory) → ⊥
key_fault_of type made (Ok key) e = guard_fault (bytes_eq key.type_name type) made e
key_fault_of type made (Err fault) e = not_carried fault cc

-- what follows the decoding
abbrev line_step : List ℕ → Option (List ℕ) → Result (List ℕ) PubFault
line_step type decoded = ok_or decoded Base64 >>= λ made. of_type type made (public_key_of made)

fault_by : (type : List ℕ) (decoded : Option (List ℕ))
    → (line_step type decoded) ≡ Err (Key key_fault.Memory) → ⊥
fault_by type (Some made) e = key_fault_of type made (public_key_of made) e
fault_by type None e = cc

pub typed_needs_none : (type text : List ℕ) → typed_key type text ≡ Err (Key key_fault.Memory) → ⊥
unfolding typed_key
typed_needs_none type text e = fault_by type (bytes_of text) e
