-- The grammar of additions and their reading are one: what is read is in the grammar, and what is in the grammar is read.
use Rattle.std.proofs.Common.{◌≡◌, ℕ, ◌+◌, ◌-◌, ◌≤◌, Bool, true, false, cond, List, [], ◌∷◌, ◌++◌, length, drop, Result, Ok, Err, refl, sym, ap, subst, ◌∙◌, append_assoc, arith, inl, inr}
use Rattle.std.specs.Prelude.{reverse, ◌⊎◌, if◌then◌else◌}
use Rattle.std.specs.Str.{bytes_eq}
use Rattle.std.proofs.lemmas.List.{length-append, drop_at}
use Rattle.std.proofs.lemmas.List.Concat.{flat_map-append}
use Rattle.std.proofs.lemmas.Grind.{reverse_onto}
use Rattle.std.proofs.lemmas.Slice.Eq.{bytes_eq-Decides}
use Rattle.wire_text.specs.Wire.{IsBytes, string}
use Rattle.wire_text.proofs.WireLemmas.{length-string}
use Rattle.wire_core.proofs.Theorems.{IsFront, string_at-string}
use Rattle.key_blob.specs.declared.added.AddedKey.{AddedKey}
use Rattle.key_blob.specs.declared.fault.KeyFault.{KeyFault}
use Rattle.key_blob.specs.declared.fault.KeyFault.TheVariants.{Memory, Mismatch}
use Rattle.key_blob.specs.declared.form.Form.{Form}
use Rattle.key_blob.specs.declared.form.Form.TheVariants.{Plain, Certified}
use Rattle.key_blob.specs.declared.kind.KeyKind.{KeyKind}
use Rattle.key_blob.specs.declared.kind.KeyKind.TheVariants.{Ed25519, Rsa, Nistp256, Nistp384, Nistp521, StandIn}
use Rattle.key_blob.specs.KeyTypes.{KeyType, key_type, certified_type, type_of, blob_order}
use Rattle.wire_core.specs.Readings.{◌>>=◌}
use Rattle.key_blob.specs.Reading.{AreContents, strings, fields_at, after_fields, form_at, taken}
use Rattle.key_blob.specs.PublicKeys.{KeyParts, plain_key, IsPublicKey, public_key_of}
use Rattle.key_blob.specs.AddedKeys.{IsBlobText, IsAddedKey, blob_fields, blob_fields_at, certificate_blob_at, blob_at, added_key_at, private_at, bytes_before, private_from}
use Rattle.key_blob.proofs.CertificateLemmas.{ok_is, text_step, content_is_bytes}
use Rattle.wire_core.proofs.ReadingLemmas.{bind_ok}
use Rattle.key_blob.proofs.GrammarLemmas.{taken-append, fields_are_front, fields_again, passed_are_front, passed_again, form_is_front, form_again}
use Rattle.key_blob.proofs.PublicLemmas.{public_is_found, public_is_read}

-- ---- the blob of an addition, read

-- what stands behind the type's name is at the front of the bytes, and has this blob
record IsBlobFront (form : Form) (bytes blob rest : List ℕ) : Type 0 where
  text : List ℕ
  is : IsBlobText form text blob
  front : IsFront bytes text rest

abbrev named : KeyKind → List ℕ × List ℕ → List ℕ × List ℕ
named kind public = (string (key_type kind).name ++ public.0, public.1)

plain_is_front : (kind : KeyKind) (bytes : List ℕ) (x : List ℕ × List ℕ) → IsBytes bytes → blob_at (Plain kind) bytes ≡ Ok x → IsBlobFront (Plain kind) bytes x.0 x.1
unfolding blob_at blob_fields_at
plain_is_front kind bytes x small read =
    let type = key_type kind in
    let a = bind_ok (blob_fields_at type bytes) (λ public. Ok (named kind public)) x read in
    let b = bind_ok (fields_at type.added bytes) (λ read. Ok (blob_fields type read.0, read.1)) a.0 a.1 in
    let f = fields_are_front type.added bytes b.0 small b.1 in
    let same : named kind (blob_fields type b.0.0, b.0.1) ≡ x =
    ap (named kind) (ok_is (blob_fields type b.0.0, b.0.1) a.0 b.2) ∙ ok_is (named kind a.0) x a.2 in
    subst (λ (y : List ℕ × List ℕ). IsBlobFront (Plain kind) bytes y.0 y.1) same (record {
      text = strings b.0.0;
      is = record { public = b.0.0; fit = f.1; fields = refl; named = refl };
      front = f.0;
    })

matched : (b : Bool) (found x : List ℕ × List ℕ) → cond b (Ok found) (Err Mismatch) ≡ Ok x → (b ≡ true) × (found ≡ x)
matched true found x e = (refl, cc)
matched false found x e = absurd cc

-- the certificate, where its key is of the type
abbrev then_match : KeyType → List ℕ × List ℕ → KeyParts → Result (List ℕ × List ℕ) KeyFault
then_match type blob key = cond (bytes_eq key.type_name type.name) (Ok blob) (Err Mismatch)

certified_is_front : (kind : KeyKind) (bytes : List ℕ) (x : List ℕ × List ℕ) → IsBytes bytes → blob_at (Certified kind) bytes ≡ Ok x →
    IsBlobFront (Certified kind) bytes x.0 x.1
unfolding blob_at certificate_blob_at
certified_is_front kind bytes x small read =
    let type = certified_type kind in
    let t = text_step bytes (λ blob. public_key_of blob.0 >>= then_match type blob) x small read in
    let k = bind_ok (public_key_of t.text) (then_match type (t.text, t.rest)) x t.next in
    let g = matched (bytes_eq k.0.type_name type.name) (t.text, t.rest) x k.2 in
    subst (λ (y : List ℕ × List ℕ). IsBlobFront (Certified kind) bytes y.0 y.1) g.1 (record {
      text = string t.text;
      is = record {
        key = k.0;
        readable = public_is_found t.text k.0 (content_is_bytes bytes t.text t.rest small t.front.parts) k.1;
        of_type = (bytes_eq-Decides k.0.type_name type.name).0 g.0;
        small = t.small;
        whole = refl;
      };
      front = t.front;
    })

blob_is_front : (form : Form) (bytes : List ℕ) (x : List ℕ × List ℕ) → IsBytes bytes → blob_at form bytes ≡ Ok x → IsBlobFront form bytes x.0 x.1
blob_is_front (Plain kind) bytes x small read = plain_is_front kind bytes x small read
blob_is_front (Certified kind) bytes x small read = certified_is_front kind bytes x small read

blob_again : (form : Form) (text blob rest : List ℕ) → IsBlobText form text blob → blob_at form (text ++ rest) ≡ Ok (blob, rest)
unfolding blob_at blob_fields_at certificate_blob_at
blob_again (Plain kind) text blob rest is =
    let answer : List ℕ → Result (List ℕ × List ℕ) KeyFault = λ found. Ok (found, rest) in
    ap (λ (front : List ℕ). blob_at (Plain kind) (front ++ rest)) is.fields
    ∙ rw (fields_again (key_type kind).added is.public rest is.fit) (ap answer (sym is.named))
blob_again (Certified kind) text blob rest is =
    ap (λ (front : List ℕ). blob_at (Certified kind) (front ++ rest)) is.whole
    ∙ rw (
      string_at-string blob rest is.small,
      public_is_read blob is.key is.readable,
      (bytes_eq-Decides is.key.type_name (certified_type kind).name).1 is.of_type,
    ) refl

-- ---- additions

-- the parts of an addition, and what follows them
regrouped : (name text again private rest : List ℕ) → (name ++ (text ++ (again ++ private))) ++ rest ≡ name ++ (text ++ (again ++ (private ++ rest)))
regrouped name text again private rest =
    append_assoc name (text ++ (again ++ private)) rest
    ∙ ap (λ (left : List ℕ). name ++ left) (append_assoc text (again ++ private) rest ∙ ap (λ (left : List ℕ). text ++ left) (append_assoc again private rest))

-- what follows the name, the blob, and the public fields that are repeated
abbrev then_made : List ℕ → List ℕ → List ℕ → Result (AddedKey × List ℕ) KeyFault
then_made bytes blob rest = Ok (record { blob = blob; private = taken bytes rest }, rest)

abbrev then_private : List ℕ → Form → List ℕ → List ℕ → Result (AddedKey × List ℕ) KeyFault
then_private bytes form blob private = after_fields (type_of form).private private >>= then_made bytes blob

abbrev then_again : List ℕ → Form → List ℕ × List ℕ → Result (AddedKey × List ℕ) KeyFault
then_again bytes form blob = after_fields (type_of form).again blob.1 >>= then_private bytes form blob.0

abbrev then_blob : List ℕ → Form × List ℕ → Result (AddedKey × List ℕ) KeyFault
then_blob bytes form = blob_at form.0 form.1 >>= then_again bytes form.0

-- the key is an addition in front of the rest
abbrev IsAddedFront : List ℕ → AddedKey × List ℕ → Type 0
IsAddedFront bytes read = IsAddedKey read.0 × (bytes ≡ read.0.private ++ read.1)

-- what is read is an addition, in front of what is left
pub added_is_found : (bytes : List ℕ) (key : AddedKey) (rest : List ℕ) → IsBytes bytes → added_key_at bytes ≡ Ok (key, rest) →
    IsAddedKey key × (bytes ≡ key.private ++ rest)
unfolding added_key_at
added_is_found bytes key rest small read =
    let x : AddedKey × List ℕ = (key, rest) in
    let a = bind_ok (form_at bytes) (then_blob bytes) x read in
    let form = a.0.0 in
    let name = form_is_front bytes a.0 small a.1 in
    let b = bind_ok (blob_at form a.0.1) (then_again bytes form) x a.2 in
    let blob = blob_is_front form a.0.1 b.0 name.front.left b.1 in
    let c = bind_ok (after_fields (type_of form).again b.0.1) (then_private bytes form b.0.0) x b.2 in
    let again = passed_are_front (type_of form).again b.0.1 c.0 blob.front.left c.1 in
    let d = bind_ok (after_fields (type_of form).private c.0) (then_made bytes b.0.0) x c.2 in
    let private = passed_are_front (type_of form).private c.0 d.0 again.front.left d.1 in
    let front = string (type_of form).name ++ (blob.text ++ (strings again.contents ++ strings private.contents)) in
    let parts : bytes ≡ front ++ d.0 =
    name.front.parts ∙ ap (λ (left : List ℕ). string (type_of form).name ++ left) (blob.front.parts ∙ ap (λ (left : List ℕ). blob.text ++ left)
    (again.front.parts ∙ ap (λ (left : List ℕ). strings again.contents ++ left) private.front.parts))
    ∙ sym (regrouped (string (type_of form).name) blob.text (strings again.contents) (strings private.contents) d.0) in
    let text : taken bytes d.0 ≡ front = taken-append bytes front d.0 parts in
    let made : AddedKey × List ℕ = (record { blob = b.0.0; private = taken bytes d.0 }, d.0) in
    subst (IsAddedFront bytes) (ok_is made x d.2) (
      record {
        form = form;
        listed = name.listed;
        blob_text = blob.text;
        again = again.contents;
        private = private.contents;
        blob_fit = blob.is;
        again_fit = again.fit;
        private_fit = private.fit;
        text = text;
      },
      parts ∙ ap (λ (left : List ℕ). left ++ d.0) (sym text),
    )

-- what is left behind an addition is no longer than all
pub rest_is_shorter : (bytes start : List ℕ) (type : KeyType) (form : Form) (after_name blob after_blob private rest : List ℕ) → IsBytes bytes → start ≡ bytes →
    type ≡ type_of form → form_at start ≡ Ok (form, after_name) → blob_at form after_name ≡ Ok (blob, after_blob) →
    after_fields type.again after_blob ≡ Ok private → after_fields type.private private ≡ Ok rest → length rest ≤ length bytes
unfolding added_key_at
rest_is_shorter bytes start type form after_name blob after_blob private rest small start_is type_is name blob_is again last =
    let key : AddedKey = record { blob = blob; private = taken bytes rest } in
    let named : form_at bytes ≡ Ok (form, after_name) = ap form_at (sym start_is) ∙ name in
    let repeated : after_fields (type_of form).again after_blob ≡ Ok private = ap (λ (t : KeyType). after_fields t.again after_blob) (sym type_is) ∙ again in
    let closed : after_fields (type_of form).private private ≡ Ok rest = ap (λ (t : KeyType). after_fields t.private private) (sym type_is) ∙ last in
    let read : added_key_at bytes ≡ Ok (key, rest) = rw (named, blob_is, repeated, closed) refl in
    let found = added_is_found bytes key rest small read in
    omega (arith, ap length found.1, length-append key.private rest)

-- an addition is read, whatever follows it
pub added_is_read : (key : AddedKey) (rest : List ℕ) → IsAddedKey key → added_key_at (key.private ++ rest) ≡ Ok (key, rest)
unfolding added_key_at
added_is_read key rest is =
    let type = type_of is.form in
    let bytes = key.private ++ rest in
    let after_again = strings is.private ++ rest in
    let after_blob = strings is.again ++ after_again in
    let text : bytes ≡ string type.name ++ (is.blob_text ++ after_blob) =
    ap (λ (front : List ℕ). front ++ rest) is.text ∙ regrouped (string type.name) is.blob_text (strings is.again) (strings is.private) rest in
    let name : form_at bytes ≡ Ok (is.form, is.blob_text ++ after_blob) = ap form_at text ∙ form_again is.form (is.blob_text ++ after_blob) is.listed in
    let blob = blob_again is.form is.blob_text key.blob after_blob is.blob_fit in
    let again = passed_again type.again is.again after_again is.again_fit in
    let private = passed_again type.private is.private rest is.private_fit in
    let made : List ℕ → Result (AddedKey × List ℕ) KeyFault = λ front. Ok (record { blob = key.blob; private = front }, rest) in
    rw (name, blob, again, private) (ap made (taken-append bytes key.private rest refl))

-- no addition begins another, and each is that of one key
pub addition_is_unique : (a b : AddedKey) (s t : List ℕ) → IsAddedKey a → IsAddedKey b → a.private ++ s ≡ b.private ++ t → (a ≡ b) × (s ≡ t)
addition_is_unique a b s t is_a is_b same =
    let both = ok_is (a, s) (b, t) (sym (added_is_read a s is_a) ∙ ap added_key_at same ∙ added_is_read b t is_b) in
    (ap (λ (read : AddedKey × List ℕ). read.0) both, ap (λ (read : AddedKey × List ℕ). read.1) both)

-- where an addition stands in front, it is what is read
pub read_is_addition : (bytes : List ℕ) (read key : AddedKey) (left rest : List ℕ) → added_key_at bytes ≡ Ok (read, left) → IsAddedKey key →
    bytes ≡ key.private ++ rest → (read ≡ key) × (left ≡ rest)
read_is_addition bytes read key left rest answer is parts =
    let both = ok_is (read, left) (key, rest) (sym answer ∙ ap added_key_at parts ∙ added_is_read key rest is) in
    (ap (λ (x : AddedKey × List ℕ). x.0) both, ap (λ (x : AddedKey × List ℕ). x.1) both)

-- where an addition stands in front, nothing but memory can be missing
pub only_memory_fails : (bytes : List ℕ) (fault : KeyFault) (key : AddedKey) (rest : List ℕ) → (fault ≡ Memory) ⊎ (added_key_at bytes ≡ Err fault) →
    IsAddedKey key → bytes ≡ key.private ++ rest → fault ≡ Memory
only_memory_fails bytes fault key rest answer is parts =
    elim answer [
      | inl memory ↦ memory
      | inr refused ↦
          let expected : added_key_at bytes ≡ Ok (key, rest) = ap added_key_at parts ∙ added_is_read key rest is in
          absurd (let wrong : Err fault ≡ Ok (key, rest) = sym refused ∙ expected in cc)
    ]

-- ---- the blob of an addition

length-reversed : (contents : List (List ℕ)) → length (strings (reverse contents)) ≡ length (strings contents)
length-reversed [] = refl
length-reversed (content ∷ contents) =
    let onto : reverse (content ∷ contents) ≡ reverse contents ++ (content ∷ []) = reverse_onto contents content [] in
    let joined = flat_map-append string (reverse contents) (content ∷ []) in
    omega (
      arith,
      ap (λ (all : List (List ℕ)). length (strings all)) onto,
      ap length joined,
      length-append (strings (reverse contents)) (strings (content ∷ [])),
      length-append (string content) [],
      length-append (string content) (strings contents),
      length-reversed contents,
    )

by_order : (is_reversed : Bool) (contents : List (List ℕ)) → length (strings (if is_reversed then reverse contents else contents)) ≡ length (strings contents)
by_order true contents = length-reversed contents
by_order false contents = refl

length-blob_fields : (type : KeyType) (contents : List (List ℕ)) → length (blob_fields type contents) ≡ length (strings contents)
length-blob_fields type contents = by_order type.is_reversed contents

blob_within : (form : Form) (text blob : List ℕ) → IsBlobText form text blob → length blob ≤ length (string (type_of form).name) + length text
blob_within (Plain kind) text blob is =
    omega (
      arith,
      ap length is.named,
      ap length is.fields,
      length-blob_fields (key_type kind) is.public,
      length-append (string (key_type kind).name) (blob_fields (key_type kind) is.public),
    )
blob_within (Certified kind) text blob is = omega (arith, ap length is.whole, length-string blob)

-- a blob is no longer than the addition that it comes from
pub blob_is_no_longer : (key : AddedKey) → IsAddedKey key → length key.blob ≤ length key.private
blob_is_no_longer key is =
    let name = string (type_of is.form).name in
    let fields = strings is.again ++ strings is.private in
    omega (
      arith,
      ap length is.text,
      blob_within is.form is.blob_text key.blob is.blob_fit,
      length-append name (is.blob_text ++ fields),
      length-append is.blob_text fields,
    )

-- the public contents of an addition, in the order of a blob, are those of a blob
in_order : (kind : KeyKind) (contents : List (List ℕ)) → AreContents (key_type kind).added contents →
    AreContents (key_type kind).public (blob_order (key_type kind) contents)
in_order Ed25519 contents fit = fit
in_order Rsa [] fit = absurd fit
in_order Rsa (n ∷ []) fit = absurd fit.2
in_order Rsa (n ∷ e ∷ []) fit = (fit.2.0, tt, (fit.0, tt, tt))
in_order Rsa (n ∷ e ∷ more ∷ contents) fit = absurd fit.2.2
in_order Nistp256 contents fit = fit
in_order Nistp384 contents fit = fit
in_order Nistp521 contents fit = fit
in_order StandIn contents fit = fit

-- the blob is that of a public key of the type
record IsBlobOf (form : Form) (blob : List ℕ) : Type 0 where
  key : KeyParts
  readable : IsPublicKey blob key
  of_type : key.type_name ≡ (type_of form).name

by_text : (form : Form) (text blob : List ℕ) → IsBlobText form text blob → IsBlobOf form blob
by_text (Plain kind) text blob is = record {
  key = plain_key kind (blob_fields (key_type kind) is.public);
  readable = inl (record {
    contents = blob_order (key_type kind) is.public;
    fit = in_order kind is.public is.fit;
    plain = refl;
    text = is.named;
  });
  of_type = refl;
}
by_text (Certified kind) text blob is = record { key = is.key; readable = is.readable; of_type = is.of_type }

-- the blob of an addition is that of a public key of its type
pub blob_is_public : (key : AddedKey) (is : IsAddedKey key) → (parts : KeyParts) × IsPublicKey key.blob parts × (parts.type_name ≡ (type_of is.form).name)
blob_is_public key is =
    let blob = by_text is.form is.blob_text key.blob is.blob_fit in
    (blob.key, blob.readable, blob.of_type)

-- ---- where private fields stand

within_by : (bytes : List ℕ) (private : Result (List ℕ) KeyFault) → bytes_before bytes private ≤ length bytes
within_by bytes (Ok private) = omega arith
within_by bytes (Err fault) = omega arith

-- the first private field stands within the bytes
pub private_from_is_within : (bytes : List ℕ) → private_from bytes ≤ length bytes
private_from_is_within bytes = within_by bytes (private_at bytes)

-- it is found
pub private_at-addition : (key : AddedKey) (is : IsAddedKey key) → private_at key.private ≡ Ok (strings is.private)
unfolding private_at
private_at-addition key is =
    let type = type_of is.form in
    let after_blob = strings is.again ++ strings is.private in
    let name : form_at key.private ≡ Ok (is.form, is.blob_text ++ after_blob) = ap form_at is.text ∙ form_again is.form (is.blob_text ++ after_blob) is.listed in
    let blob = blob_again is.form is.blob_text key.blob after_blob is.blob_fit in
    let again = passed_again type.again is.again (strings is.private) is.again_fit in
    rw (name, blob, again) refl

-- from the first private field on only private fields stand
pub private_fields_are_last : (key : AddedKey) (is : IsAddedKey key) → drop (private_from key.private) key.private ≡ strings is.private
private_fields_are_last key is =
    let name = string (type_of is.form).name in
    let front = name ++ (is.blob_text ++ strings is.again) in
    let parts : key.private ≡ front ++ strings is.private =
    is.text ∙ ap (λ (left : List ℕ). name ++ left) (sym (append_assoc is.blob_text (strings is.again) (strings is.private)))
    ∙ sym (append_assoc name (is.blob_text ++ strings is.again) (strings is.private)) in
    let place : private_from key.private ≡ length key.private - length (strings is.private) = ap (bytes_before key.private) (private_at-addition key is) in
    let cut : length front ≡ private_from key.private = omega (arith, place, ap length parts, length-append front (strings is.private)) in
    ap (drop (private_from key.private)) parts ∙ drop_at front (strings is.private) (private_from key.private) cut
