-- An addition without its secrets is one.
use Rattle.std.proofs.Common.{◌≡◌, ◌≤◌, ◌<◌, ◌^◌, ℕ, zero, suc, List, [], ◌∷◌, ◌++◌, length, take, drop, map, replicate, None, refl, sym, ap, subst, ◌∙◌, arith, append_assoc}
use Rattle.std.proofs.lemmas.List.{length-append, length-drop, length-replicate, take_at}
use Rattle.wire_text.specs.Wire.{string}
use Rattle.wire_text.proofs.WireLemmas.{length-string}
use Rattle.wire_core.specs.Fields.{string_at, string_len}
use Rattle.wire_core.proofs.Theorems.{string_at-string}
use Rattle.key_blob.specs.AddedKeys.{IsAddedKey, IsAddition, private_from}
use Rattle.key_blob.specs.KeyTypes.{Field, any, number, sized, text, key_type, certified_type, type_of}
use Rattle.key_blob.specs.Reading.{AreContents, strings}
use Rattle.key_blob.specs.declared.added.AddedKey.{AddedKey}
use Rattle.key_blob.specs.declared.form.Form.{Form}
use Rattle.key_blob.specs.declared.form.Form.TheVariants.{Plain, Certified}
use Rattle.key_blob.specs.declared.kind.KeyKind.{KeyKind}
use Rattle.key_blob.specs.declared.kind.KeyKind.TheVariants.{Ed25519, Rsa, Nistp256, Nistp384, Nistp521, StandIn}
use Rattle.key_blob.proofs.SizeLemmas.{digits_of-zeros}
use Rattle.key_blob.proofs.Theorems.{private_fields_are_last, private_from_is_within}
use Rattle.redact_core.specs.Redaction.{blank, blank_by, blank_up_to, without_secrets}
use Rattle.redact_core.specs.Blanks.{EachStays, StaysAddition}

-- as many zero bytes
abbrev pub zeros : List ℕ → List ℕ
zeros content = replicate (length content) 0

-- ---- contents

-- fields that hold no fixed text
abbrev pub AreFree : List Field → Type 0
AreFree [] = Unit {0}
AreFree (any ∷ fields) = AreFree fields
AreFree (number ∷ fields) = AreFree fields
AreFree (sized len ∷ fields) = AreFree fields
AreFree (text bytes ∷ fields) = ⊥

free_by_kind : (kind : KeyKind) → AreFree (key_type kind).private
free_by_kind Ed25519 = tt
free_by_kind Rsa = tt
free_by_kind Nistp256 = tt
free_by_kind Nistp384 = tt
free_by_kind Nistp521 = tt
free_by_kind StandIn = tt

free_by_certificate : (kind : KeyKind) → AreFree (certified_type kind).private
free_by_certificate Ed25519 = tt
free_by_certificate Rsa = tt
free_by_certificate Nistp256 = tt
free_by_certificate Nistp384 = tt
free_by_certificate Nistp521 = tt
free_by_certificate StandIn = tt

-- no private field of the table does
pub private_is_free : (form : Form) → AreFree (type_of form).private
private_is_free (Plain kind) = free_by_kind kind
private_is_free (Certified kind) = free_by_certificate kind

pub zeros_fit : (fields : List Field) (contents : List (List ℕ)) → AreFree fields → AreContents fields contents
    → AreContents fields (map zeros contents)
zeros_fit [] [] free fit = tt
zeros_fit [] (content ∷ contents) free fit = absurd fit
zeros_fit (field ∷ fields) [] free fit = absurd fit
zeros_fit (any ∷ fields) (content ∷ contents) free fit = (
  subst (λ n. n < 2 ^ 32)
      (sym (length-replicate (length content) 0)) fit.0,
  tt,
  zeros_fit fields contents free fit.2,
)
zeros_fit (number ∷ fields) (content ∷ contents) free fit = (
  subst (λ n. n < 2 ^ 32) (sym (length-replicate (length content) 0)) fit.0,
  omega (arith, digits_of-zeros (length content)),
  zeros_fit fields contents free fit.2,
)
zeros_fit (sized len ∷ fields) (content ∷ contents) free fit = (
  subst (λ n. n < 2 ^ 32) (sym (length-replicate (length content) 0)) fit.0,
  length-replicate
      (length content) 0 ∙ fit.1,
  zeros_fit fields contents free fit.2,
)
zeros_fit (text bytes ∷ fields) (content ∷ contents) free fit = absurd free

-- ---- their strings

length-zeros : (contents : List (List ℕ)) → length (strings (map zeros contents)) ≡ length (strings contents)
length-zeros [] = refl
length-zeros (content ∷ contents) = omega (
  arith,
  length-append (string (zeros content)) (strings (map zeros contents)),
  length-append (string content) (strings contents),
  length-string (zeros content),
  length-string content,
  length-replicate {A = ℕ} (length content) 0,
  length-zeros contents,
)

-- no string stands in front of nothing
pub nothing_there : string_at [] ≡ None
unfolding string_at string_len
nothing_there = refl

blank-strings : (count : ℕ) (fields : List Field) (contents : List (List ℕ))
    → length (strings contents) ≤ count → AreContents fields contents
    → blank_up_to count (strings contents) ≡ strings (map zeros contents)
blank-strings zero fields [] enough fit = refl
blank-strings zero fields (content ∷ contents) enough fit = absurd
    (omega (arith, enough, length-append (string content) (strings contents), length-string content))
blank-strings (suc count) fields [] enough fit = ap (λ found. blank_by found (blank_up_to count)) nothing_there
blank-strings (suc count) [] (content ∷ contents) enough fit = absurd fit
blank-strings (suc count) (field ∷ fields) (content ∷ contents) enough fit =
    ap (λ found. blank_by found (blank_up_to count)) (string_at-string content (strings contents) fit.0)
    ∙ ap (λ l. string (zeros content) ++ l) (blank-strings count fields contents
    (omega (arith, enough, length-append (string content) (strings contents), length-string content)) fit.2)

-- ---- an addition

module _ (key : AddedKey) (is : IsAddedKey key) where
  abbrev name : List ℕ
  name = string (type_of is.form).name

  abbrev front : List ℕ
  front = name ++ (is.blob_text ++ strings is.again)

  abbrev blanks : List ℕ
  blanks = strings (map zeros is.private)

  abbrev place : ℕ
  place = private_from key.private

  parts : key.private ≡ front ++ strings is.private
  parts = is.text ∙ ap (λ l. name ++ l) (sym (append_assoc is.blob_text (strings is.again) (strings is.private)))
      ∙ sym (append_assoc name (is.blob_text ++ strings is.again) (strings is.private))

  last : drop place key.private ≡ strings is.private
  last = private_fields_are_last key is

  cut : length front ≡ place
  cut = omega (
    arith,
    ap length last,
    length-drop place key.private,
    private_from_is_within key.private,
    ap
        length parts,
    length-append front (strings is.private),
  )

  new_text : without_secrets key.private ≡ front ++ blanks
  new_text = ap (λ l. l ++ blank (drop place key.private)) (ap (take place) parts ∙ take_at front
      (strings is.private) place cut)
      ∙ ap (λ l. front ++ l) (ap blank last ∙ blank-strings (length (strings is.private))
      (type_of is.form).private is.private (omega arith) is.private_fit)

  stays : StaysAddition key
  stays = record {
    is = record {
      form = is.form;
      listed = is.listed;
      blob_text = is.blob_text;
      again = is.again;
      private = map zeros is.private;
      blob_fit = is.blob_fit;
      again_fit = is.again_fit;
      private_fit = zeros_fit (type_of is.form).private is.private (private_is_free is.form) is.private_fit;
      text = new_text ∙ append_assoc name (is.blob_text ++ strings is.again) blanks
          ∙ ap (λ l. name ++ l) (append_assoc is.blob_text (strings is.again) blanks);
    };
    length_is = omega (
      arith,
      ap length new_text,
      length-append front blanks,
      ap length parts,
      length-append
          front (strings is.private),
      length-zeros is.private,
    );
  }

-- what is left of it
pub blanked_text : (key : AddedKey) (is : IsAddedKey key)
    → without_secrets key.private ≡ (string (type_of is.form).name ++
    (is.blob_text ++ strings is.again)) ++ strings (map zeros is.private)
blanked_text key is = new_text key is

-- so is each added key
pub each_stays : EachStays
each_stays key is = stays key is

-- so an addition keeps its length
pub length-without_secrets : (key : List ℕ) → IsAddition key → length (without_secrets key) ≡ length key
length-without_secrets key added =
    let P : List ℕ → Type 0 = λ bytes. length (without_secrets bytes) ≡ length bytes in
    subst P added.2 (each_stays added.0 added.1).length_is
