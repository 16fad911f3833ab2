-- Additions that differ in secrets alone are redacted alike.
use Rattle.std.proofs.Common.{◌≡◌, ℕ, List, [], ◌∷◌, ◌++◌, length, map, replicate, refl, sym, ap, subst, ◌∙◌, inl, inr}
use Rattle.std.proofs.lemmas.List.{drop_at}
use Rattle.wire_text.specs.Wire.{string}
use Rattle.key_blob.specs.AddedKeys.{IsAddedKey, IsBlobText}
use Rattle.key_blob.specs.KeyTypes.{type_of}
use Rattle.key_blob.specs.Reading.{strings}
use Rattle.key_blob.specs.declared.added.AddedKey.{AddedKey}
use Rattle.agent_msg.specs.Requests.{Addition, Add, IsRequest}
use Rattle.agent_msg.proofs.ReadLemmas.{request_is_read}
use Rattle.redact_core.specs.Blanks.{AreAlike, SecretsAreHidden, lengths_of, with_key}
use Rattle.redact_core.specs.Redaction.{redacted, redacted_as, unchanged, without_secrets}
use Rattle.redact_core.proofs.BlankLemmas.{blanked_text, zeros}

-- ---- keys

zeros_by_lengths : (contents : List (List ℕ))
    → map zeros contents ≡ map (λ len. replicate len 0) (lengths_of contents)
zeros_by_lengths [] = refl
zeros_by_lengths (content ∷ contents) = ap (λ (l : List (List ℕ)). zeros content ∷ l) (zeros_by_lengths contents)

same_zeros : (a b : List (List ℕ)) → lengths_of a ≡ lengths_of b → map zeros a ≡ map zeros b
same_zeros a b same = zeros_by_lengths a ∙ ap (λ (l : List ℕ). map (λ len. replicate len 0) l) same
    ∙ sym (zeros_by_lengths b)

-- the second is an added key too
abbrev other_is : (one other : AddedKey) → AreAlike one other → IsAddedKey other
other_is one other alike = record {
  form = alike.is.form;
  listed = alike.is.listed;
  blob_text = alike.is.blob_text;
  again = alike.is.again;
  private = alike.private;
  blob_fit = subst (λ (b : List ℕ). IsBlobText alike.is.form alike.is.blob_text b)
      (sym alike.blob) alike.is.blob_fit;
  again_fit = alike.is.again_fit;
  private_fit = alike.private_fit;
  text = alike.text;
}

keys_alike : (one other : AddedKey) → AreAlike one other
    → without_secrets other.private ≡ without_secrets one.private
keys_alike one other alike =
    let front = string (type_of alike.is.form).name ++ (alike.is.blob_text ++ strings alike.is.again) in
    blanked_text other (other_is one other alike)
    ∙ ap (λ (l : List (List ℕ)). front ++ strings l) (same_zeros alike.private alike.is.private alike.lengths)
    ∙ sym (blanked_text one alike.is)

-- ---- bodies

addition_redacted : (number : ℕ) (rest : List ℕ) (addition : Addition) (passphrases : List (List ℕ))
    → IsRequest (number ∷ (addition.key.private ++ rest)) (Add addition)
    → redacted (number ∷ (addition.key.private ++ rest)) passphrases ≡ unchanged number
    (without_secrets addition.key.private ++ rest) passphrases
addition_redacted number rest addition passphrases is =
    let key = addition.key.private in
    ap (λ read. redacted_as read number (key ++ rest) passphrases)
    (request_is_read (number ∷ (key ++ rest)) (Add addition) is)
    ∙ ap (λ (l : List ℕ). unchanged number (without_secrets key ++ l) passphrases)
    (drop_at key rest (length key) refl)

-- the addition of another key
abbrev of_key : Addition → AddedKey → Addition
of_key addition other = record { key = other; comment = addition.comment; terms = addition.terms }

hidden_by : (body rest : List ℕ) (number : ℕ) (addition : Addition) (other : AddedKey) (passphrases : List (List ℕ))
    → body ≡ number ∷ (addition.key.private ++ rest)
    → IsRequest (number ∷ (addition.key.private ++ rest)) (Add addition)
    → IsRequest (number ∷ (other.private ++ rest)) (Add (of_key addition other)) → AreAlike addition.key other
    → redacted (with_key body addition.key other) passphrases ≡ redacted body passphrases
hidden_by body rest number addition other passphrases printed is is_other alike =
    let key = addition.key.private in
    let P : List ℕ → Type 0 = λ b. redacted (with_key b addition.key other) passphrases ≡ redacted b passphrases in
    subst P (sym printed) (
    ap (λ (l : List ℕ). redacted (number ∷ (other.private ++ l)) passphrases) (drop_at key rest (length key) refl)
    ∙ addition_redacted number rest (of_key addition other) passphrases is_other
    ∙ ap (λ (l : List ℕ). unchanged number (l ++ rest) passphrases) (keys_alike addition.key other alike)
    ∙ sym (addition_redacted number rest addition passphrases is)
    )

pub secrets_are_hidden : SecretsAreHidden
secrets_are_hidden body addition other passphrases is alike =
    elim is [
      | inl plain ↦
          hidden_by body (string addition.comment) 17 addition other passphrases plain.printed
          (inl (record {
            key = plain.key;
            comment_fits = plain.comment_fits;
            unconstrained =
                plain.unconstrained;
            printed = refl;
          }))
          (inl (record {
            key = other_is addition.key other alike;
            comment_fits = plain.comment_fits;
            unconstrained = plain.unconstrained;
            printed = refl;
          })) alike
      | inr bound ↦
          hidden_by body (string addition.comment ++ bound.constraints) 25 addition other passphrases bound.printed
          (inr (record {
            key = bound.key;
            comment_fits = bound.comment_fits;
            constraints = bound.constraints;
            constrained = bound.constrained;
            printed = refl;
          }))
          (inr (record {
            key = other_is addition.key other alike;
            comment_fits = bound.comment_fits;
            constraints = bound.constraints;
            constrained = bound.constrained;
            printed = refl;
          }))
          alike
    ]
