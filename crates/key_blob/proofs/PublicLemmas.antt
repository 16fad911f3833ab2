-- The grammar of public keys and their reading are one: what is read is in the grammar, and what is in the grammar is read.
use Rattle.std.proofs.Common.{◌≡◌, ℕ, ◌^◌, ◌<◌, List, [], ◌++◌, length, Option, Some, Result, Ok, refl, sym, ap, subst, ◌∙◌, inl, inr}
use Rattle.std.proofs.lemmas.List.{append-nil}
use Rattle.wire_text.specs.Wire.{IsBytes, string}
use Rattle.wire_core.proofs.Theorems.{IsFront, string_at-string}
use Rattle.key_blob.specs.declared.fault.KeyFault.{KeyFault}
use Rattle.key_blob.specs.declared.fault.KeyFault.TheVariants.{Trailing}
use Rattle.key_blob.specs.declared.form.Form.{Form}
use Rattle.key_blob.specs.declared.form.Form.TheVariants.{Plain, Certified}
use Rattle.key_blob.specs.declared.kind.KeyKind.{KeyKind}
use Rattle.key_blob.specs.Certificates.{CertificateParts, IsCertificateFront, certificate_at}
use Rattle.key_blob.specs.KeyTypes.{IsListed, key_type, type_of, kind_of}
use Rattle.key_blob.specs.PublicKeys.{KeyParts, key_with, plain_key, IsPlainKey, IsCertifiedKey, IsPublicKey, after_nonce, certificate_for, public_key_of}
use Rattle.wire_core.specs.Readings.{◌>>=◌, ended_or}
use Rattle.key_blob.specs.Reading.{AreContents, strings, after_fields, form_at, taken}
use Rattle.key_blob.proofs.CertificateLemmas.{ok_is, text_step, certificate_is_front, certificate_again}
use Rattle.wire_core.proofs.ReadingLemmas.{bind_ok, ended_or_is}
use Rattle.key_blob.proofs.GrammarLemmas.{taken-append, passed_are_front, passed_again, form_is_front, form_again}

-- ---- what is read

-- the key of these fields, where nothing is left behind its certificate
abbrev pub then_ended : Form → List ℕ → List ℕ → Option CertificateParts × List ℕ → Result KeyParts KeyFault
then_ended form fields after_key certificate = ended_or Trailing (key_with (kind_of form) (taken fields after_key) certificate.0) certificate.1

-- what follows the key's fields
abbrev pub then_certificate : Form → List ℕ → List ℕ → Result KeyParts KeyFault
then_certificate form fields after_key = certificate_for form after_key >>= then_ended form fields after_key

-- what follows the nonce
abbrev pub then_fields : Form → List ℕ → Result KeyParts KeyFault
then_fields form fields = after_fields (key_type (kind_of form)).public fields >>= then_certificate form fields

-- what follows the name
abbrev pub then_nonce : Form × List ℕ → Result KeyParts KeyFault
then_nonce form = after_nonce form.0 form.1 >>= then_fields form.0

plain_is_found : (bytes after_name : List ℕ) (key : KeyParts) (kind : KeyKind) → IsFront bytes (string (key_type kind).name) after_name →
    then_fields (Plain kind) after_name ≡ Ok key → IsPlainKey bytes key
plain_is_found bytes after_name key kind name read =
    let a = bind_ok (after_fields (key_type kind).public after_name) (then_certificate (Plain kind) after_name) key read in
    let end = ended_or_is Trailing (plain_key kind (taken after_name a.0)) key a.0 a.2 in
    let f = passed_are_front (key_type kind).public after_name a.0 name.left a.1 in
    let all : after_name ≡ strings f.contents =
    f.front.parts ∙ ap (λ (rest : List ℕ). strings f.contents ++ rest) end.0 ∙ append-nil (strings f.contents) in
    let same : plain_key kind (strings f.contents) ≡ key = ap (plain_key kind) (sym f.whole) ∙ end.1 in
    subst (IsPlainKey bytes) same (record {
      contents = f.contents;
      fit = f.fit;
      plain = refl;
      text = name.parts ∙ ap (λ (fields : List ℕ). string (key_type kind).name ++ fields) all;
    })

certificate_is_found : (bytes after_name : List ℕ) (key : KeyParts) (kind : KeyKind) → IsListed (Certified kind) →
    IsFront bytes (string (type_of (Certified kind)).name) after_name → then_nonce (Certified kind, after_name) ≡ Ok key → IsCertifiedKey bytes key
certificate_is_found bytes after_name key kind listed name read =
    let form = Certified kind in
    let a = bind_ok (after_nonce form after_name) (then_fields form) key read in
    let n = text_step after_name (λ nonce. Ok nonce.1) a.0 name.left a.1 in
    let start : n.rest ≡ a.0 = ok_is n.rest a.0 n.next in
    let b = bind_ok (after_fields (key_type kind).public a.0) (then_certificate form a.0) key a.2 in
    let small : IsBytes a.0 = subst IsBytes start n.front.left in
    let f = passed_are_front (key_type kind).public a.0 b.0 small b.1 in
    let c = bind_ok (certificate_for form b.0) (then_ended form a.0 b.0) key b.2 in
    let d = bind_ok (certificate_at b.0) (λ certificate. Ok (Some certificate.0, certificate.1)) c.0 c.1 in
    let whole = ok_is (Some d.0.0, d.0.1) c.0 d.2 in
    let read_on : ended_or Trailing (key_with kind (taken a.0 b.0) (Some d.0.0)) d.0.1 ≡ Ok key = ap (then_ended form a.0 b.0) whole ∙ c.2 in
    let end = ended_or_is Trailing (key_with kind (taken a.0 b.0) (Some d.0.0)) key d.0.1 read_on in
    let front = certificate_is_front b.0 d.0 f.front.left d.1 in
    let same : key_with kind (strings f.contents) (Some d.0.0) ≡ key =
    ap (λ (fields : List ℕ). key_with kind fields (Some d.0.0)) (sym f.whole) ∙ end.1 in
    subst (IsCertifiedKey bytes) same (record {
      certificate = d.0.0;
      has_certificates = listed;
      nonce = n.text;
      nonce_fit = n.small;
      contents = f.contents;
      fit = f.fit;
      after_key = b.0;
      front = subst (IsCertificateFront b.0 d.0.0) end.0 front.0;
      certified = refl;
      text = name.parts ∙ ap (λ (left : List ℕ). string (type_of form).name ++ left)
          (n.front.parts ∙ ap (λ (left : List ℕ). string n.text ++ left) (start ∙ f.front.parts));
    })

by_form : (bytes after_name : List ℕ) (key : KeyParts) (form : Form) → IsListed form → IsFront bytes (string (type_of form).name) after_name →
    then_nonce (form, after_name) ≡ Ok key → IsPublicKey bytes key
by_form bytes after_name key (Plain kind) listed name read = inl (plain_is_found bytes after_name key kind name read)
by_form bytes after_name key (Certified kind) listed name read = inr (certificate_is_found bytes after_name key kind listed name read)

-- what is read is a public key
pub public_is_found : (bytes : List ℕ) (key : KeyParts) → IsBytes bytes → public_key_of bytes ≡ Ok key → IsPublicKey bytes key
unfolding public_key_of
public_is_found bytes key small read =
    let a = bind_ok (form_at bytes) then_nonce key read in
    let name = form_is_front bytes a.0 small a.1 in
    by_form bytes a.0.1 key a.0.0 name.listed name.front a.2

-- ---- what is in the grammar

-- the blob of a type's name and its fields is read
pub plain_again : (kind : KeyKind) (contents : List (List ℕ)) → AreContents (key_type kind).public contents →
    public_key_of (string (key_type kind).name ++ strings contents) ≡ Ok (plain_key kind (strings contents))
unfolding public_key_of
plain_again kind contents fit =
    let fields : after_fields (key_type kind).public (strings contents) ≡ Ok [] =
    ap (after_fields (key_type kind).public) (sym (append-nil (strings contents))) ∙ passed_again (key_type kind).public contents [] fit in
    let whole : taken (strings contents) [] ≡ strings contents = taken-append (strings contents) (strings contents) [] (sym (append-nil (strings contents))) in
    let answer : List ℕ → Result KeyParts KeyFault = λ read. Ok (plain_key kind read) in
    rw (form_again (Plain kind) (strings contents) tt, fields) (ap answer whole)

plain_is_read : (bytes : List ℕ) (key : KeyParts) → IsPlainKey bytes key → public_key_of bytes ≡ Ok key
plain_is_read bytes key is =
    let name : key.type_name ≡ (key_type key.kind).name = ap (λ (k : KeyParts). k.type_name) is.plain in
    let fields : key.fields ≡ strings is.contents = ap (λ (k : KeyParts). k.fields) is.plain in
    let text : bytes ≡ string (key_type key.kind).name ++ strings is.contents =
    is.text ∙ ap (λ (n : List ℕ). string n ++ key.fields) name ∙ ap (λ (f : List ℕ). string (key_type key.kind).name ++ f) fields in
    let answer : KeyParts → Result KeyParts KeyFault = λ k. Ok k in
    ap public_key_of text ∙ plain_again key.kind is.contents is.fit ∙ ap answer (sym is.plain)

-- the certificate of a nonce, the key's fields and its own is read
certified_again : (kind : KeyKind) (nonce : List ℕ) (contents : List (List ℕ)) (certificate : CertificateParts) (after_key : List ℕ) →
    IsListed (Certified kind) → length nonce < 2 ^ 32 → AreContents (key_type kind).public contents → certificate_at after_key ≡ Ok (certificate, []) →
    public_key_of (string (type_of (Certified kind)).name ++ (string nonce ++ (strings contents ++ after_key)))
    ≡ Ok (key_with kind (strings contents) (Some certificate))
unfolding public_key_of
certified_again kind nonce contents certificate after_key listed small fit read =
    let start = strings contents ++ after_key in
    let whole : taken start after_key ≡ strings contents = taken-append start (strings contents) after_key refl in
    let answer : List ℕ → Result KeyParts KeyFault = λ fields. Ok (key_with kind fields (Some certificate)) in
    rw (
      form_again (Certified kind) (string nonce ++ start) listed,
      string_at-string nonce start small,
      passed_again (key_type kind).public contents after_key fit,
      read,
    ) (ap answer whole)

certified_is_read : (bytes : List ℕ) (key : KeyParts) → IsCertifiedKey bytes key → public_key_of bytes ≡ Ok key
certified_is_read bytes key is =
    let form = Certified key.kind in
    let name : key.type_name ≡ (type_of form).name = ap (λ (k : KeyParts). k.type_name) is.certified in
    let fields : key.fields ≡ strings is.contents = ap (λ (k : KeyParts). k.fields) is.certified in
    let text : bytes ≡ string (type_of form).name ++ (string is.nonce ++ (strings is.contents ++ is.after_key)) =
    is.text ∙ ap (λ (n : List ℕ). string n ++ (string is.nonce ++ (key.fields ++ is.after_key))) name
    ∙ ap (λ (f : List ℕ). string (type_of form).name ++ (string is.nonce ++ (f ++ is.after_key))) fields in
    let read = certificate_again is.after_key is.certificate [] is.front in
    let answer : KeyParts → Result KeyParts KeyFault = λ k. Ok k in
    ap public_key_of text
    ∙ certified_again key.kind is.nonce is.contents is.certificate is.after_key is.has_certificates is.nonce_fit is.fit read
    ∙ ap answer (sym is.certified)

-- a public key is read
pub public_is_read : (bytes : List ℕ) (key : KeyParts) → IsPublicKey bytes key → public_key_of bytes ≡ Ok key
public_is_read bytes key (inl is) = plain_is_read bytes key is
public_is_read bytes key (inr is) = certified_is_read bytes key is

-- a blob is that of one key
pub public_is_unique : (bytes : List ℕ) (a b : KeyParts) → IsPublicKey bytes a → IsPublicKey bytes b → a ≡ b
public_is_unique bytes a b is_a is_b =
    let read_a = public_is_read bytes a is_a in
    let read_b = public_is_read bytes b is_b in
    cc
