-- What is left of an addition without its secrets.
use Rattle.std.specs.Prelude.{◌≡◌, ℕ, suc, List, ◌++◌, length, map, take, drop}
use Rattle.wire_text.specs.Wire.{string}
use Rattle.key_blob.specs.AddedKeys.{IsAddedKey}
use Rattle.key_blob.specs.KeyTypes.{type_of}
use Rattle.key_blob.specs.Reading.{AreContents, strings}
use Rattle.key_blob.specs.declared.added.AddedKey.{AddedKey}
use Rattle.agent_msg.specs.Requests.{Addition, Add, IsRequest}
use Rattle.redact_core.specs.Redaction.{redacted, without_secrets}

-- the key with zeros for its private fields
abbrev pub blanked : AddedKey → AddedKey
blanked key = record { blob = key.blob; private = without_secrets key.private }

-- an addition of the same public key, as long as it was
pub record StaysAddition (key : AddedKey) : Type 0 where
  pub is : IsAddedKey (blanked key)
  pub length_is : length (without_secrets key.private) ≡ length key.private

-- so is each added key
abbrev pub EachStays : Type 0
EachStays = (key : AddedKey) → IsAddedKey key → StaysAddition key

-- ---- additions that are alike

-- the lengths of contents
abbrev pub lengths_of : List (List ℕ) → List ℕ
lengths_of contents = map (λ content. length content) contents

-- the second is the first, but for the contents of private fields of equal lengths
pub record AreAlike (one other : AddedKey) : Type 0 where
  pub is : IsAddedKey one
  pub private : List (List ℕ)
  pub private_fit : AreContents (type_of is.form).private private
  pub lengths : lengths_of private ≡ lengths_of is.private
  pub blob : other.blob ≡ one.blob
  pub text : other.private ≡ string (type_of is.form).name
      ++ (is.blob_text ++ (strings is.again ++ strings private))

-- the body of an addition with another key in its key's place
abbrev pub with_key : List ℕ → AddedKey → AddedKey → List ℕ
with_key body key other = take 1 body ++ (other.private ++ drop (suc (length key.private)) body)

-- two additions that differ in secrets alone are redacted alike
abbrev pub SecretsAreHidden : Type 0
SecretsAreHidden =
    (body : List ℕ) (addition : Addition) (other : AddedKey) (passphrases : List (List ℕ))
    → IsRequest body (Add addition) → AreAlike addition.key other
    → redacted (with_key body addition.key other) passphrases ≡ redacted body passphrases
