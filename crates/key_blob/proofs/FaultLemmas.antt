-- No reading runs out of memory.
use Rattle.std.proofs.Common.{◌≡◌, ℕ, Bool, true, false, cond, eqb, List, [], ◌∷◌, length, Option, Some, None, Result, Ok, Err}
use Rattle.std.specs.Prelude.{nat_lt}
use Rattle.std.specs.Option.{ok_or}
use Rattle.std.specs.Str.{bytes_eq}
use Rattle.wire_core.specs.Fields.{uint32_at, uint64_at, string_at}
use Rattle.key_blob.specs.declared.fault.KeyFault.{KeyFault}
use Rattle.key_blob.specs.declared.fault.KeyFault.TheVariants.{Short, UnknownType, BadLength, Mismatch, Trailing, Memory}
use Rattle.key_blob.specs.declared.form.Form.{Form}
use Rattle.key_blob.specs.declared.form.Form.TheVariants.{Plain, Certified}
use Rattle.key_blob.specs.Certificates.{names_at, holder_at, times_at, signer_at, certificate_at}
use Rattle.key_blob.specs.Principals.{are_strings}
use Rattle.key_blob.specs.Digits.{digits_of}
use Rattle.key_blob.specs.KeyTypes.{Field, any, number, sized, text, key_type, kind_of, form_named}
use Rattle.wire_core.specs.Readings.{◌>>=◌, ended_or}
use Rattle.key_blob.specs.Reading.{checked, field_at, fields_at, after_fields, form_at, taken}
use Rattle.key_blob.specs.PublicKeys.{KeyParts, key_with, after_nonce, certificate_for, public_key_of}
use Rattle.key_blob.proofs.CertificateLemmas.{then_holder, then_times, then_signer}
use Rattle.key_blob.proofs.PublicLemmas.{then_nonce, then_fields, then_certificate, then_ended}
use Rattle.key_blob.proofs.ReadingLemmas.{with_content, rest_of}

-- it is no answer that memory ran out
abbrev NeedsNone : {A : Type 0} → Result A KeyFault → Type 0
NeedsNone r = r ≡ Err Memory → ⊥

bind_needs_none : {A B : Type 0} (r : Result A KeyFault) (f : A → Result B KeyFault) → NeedsNone r → ((x : A) → NeedsNone (f x)) → NeedsNone (r >>= f)
bind_needs_none (Ok x) f first second e = second x e
bind_needs_none (Err fault) f first second e = first cc

short_needs_none : {A : Type 0} (o : Option A) → NeedsNone (ok_or o Short)
short_needs_none (Some x) e = cc
short_needs_none None e = cc

unknown_needs_none : {A : Type 0} (o : Option A) → NeedsNone (ok_or o UnknownType)
unknown_needs_none (Some x) e = cc
unknown_needs_none None e = cc

length_needs_none : {A : Type 0} (b : Bool) (x : A) → NeedsNone (cond b (Ok x) (Err BadLength))
length_needs_none true x e = cc
length_needs_none false x e = cc

text_needs_none : {A : Type 0} (b : Bool) (x : A) → NeedsNone (cond b (Ok x) (Err Mismatch))
text_needs_none true x e = cc
text_needs_none false x e = cc

over_needs_none : {A : Type 0} (b : Bool) (x : A) → NeedsNone (cond b (Err BadLength) (Ok x))
over_needs_none true x e = cc
over_needs_none false x e = cc

checked_needs_none : (field : Field) (found : List ℕ × List ℕ) → NeedsNone (checked field found)
checked_needs_none any found e = cc
checked_needs_none number found e = over_needs_none (nat_lt 16384 (digits_of found.0)) found e
checked_needs_none (sized len) found e = length_needs_none (eqb (length found.0) len) found e
checked_needs_none (text bytes) found e = text_needs_none (bytes_eq found.0 bytes) found e

field_needs_none : (field : Field) (bytes : List ℕ) → NeedsNone (field_at field bytes)
unfolding field_at
field_needs_none field bytes =
    bind_needs_none (ok_or (string_at bytes) Short) (checked field) (short_needs_none (string_at bytes)) (checked_needs_none field)

fields_need_none : (fields : List Field) (bytes : List ℕ) → NeedsNone (fields_at fields bytes)
unfolding fields_at
fields_need_none [] bytes e = cc
fields_need_none (field ∷ fields) bytes e =
    bind_needs_none (field_at field bytes) (λ first. fields_at fields first.1 >>= with_content first.0) (field_needs_none field bytes)
    (λ first. bind_needs_none (fields_at fields first.1) (with_content first.0) (fields_need_none fields first.1) (λ others h. cc)) e

after_needs_none : (fields : List Field) (bytes : List ℕ) → NeedsNone (after_fields fields bytes)
unfolding after_fields
after_needs_none fields bytes = bind_needs_none (fields_at fields bytes) rest_of (fields_need_none fields bytes) (λ read h. cc)

abbrev named : List ℕ → Form → Result (Form × List ℕ) KeyFault
named rest form = Ok (form, rest)

form_needs_none : (bytes : List ℕ) → NeedsNone (form_at bytes)
unfolding form_at
form_needs_none bytes =
    bind_needs_none (ok_or (string_at bytes) Short) (λ name. ok_or (form_named name.0) UnknownType >>= named name.1) (short_needs_none (string_at bytes))
    (λ name. bind_needs_none (ok_or (form_named name.0) UnknownType) (named name.1) (unknown_needs_none (form_named name.0)) (λ form h. cc))

ended_needs_none : (key : KeyParts) (rest : List ℕ) → NeedsNone (ended_or Trailing key rest)
ended_needs_none key [] e = cc
ended_needs_none key (byte ∷ rest) e = cc

-- ---- certificates

listed_needs_none : {A : Type 0} (b : Bool) (x : A) → NeedsNone (cond b (Ok x) (Err Short))
listed_needs_none true x e = cc
listed_needs_none false x e = cc

-- a step that reads a string, a uint32 or a uint64
then_needs_none : {A B : Type 0} (o : Option A) (f : A → Result B KeyFault) → ((x : A) → NeedsNone (f x)) → NeedsNone (ok_or o Short >>= f)
then_needs_none o f later = bind_needs_none (ok_or o Short) f (short_needs_none o) later

names_need_none : (bytes : List ℕ) → NeedsNone (names_at bytes)
unfolding names_at
names_need_none bytes = then_needs_none (string_at bytes) _ (λ names. listed_needs_none (are_strings names.0) names)

holder_needs_none : (bytes : List ℕ) → NeedsNone (holder_at bytes)
unfolding holder_at
holder_needs_none bytes =
    then_needs_none (uint64_at bytes) _ (λ serial. then_needs_none (uint32_at serial.1) _ (λ cert_type. then_needs_none (string_at cert_type.1) _ (λ key_id.
    bind_needs_none (names_at key_id.1) _ (names_need_none key_id.1) (λ principals e. cc))))

times_need_none : (bytes : List ℕ) → NeedsNone (times_at bytes)
unfolding times_at
times_need_none bytes = then_needs_none (uint64_at bytes) _ (λ after. then_needs_none (uint64_at after.1) _ (λ before e. cc))

signer_needs_none : (bytes : List ℕ) → NeedsNone (signer_at bytes)
unfolding signer_at
signer_needs_none bytes =
    then_needs_none (string_at bytes) _ (λ critical. then_needs_none (string_at critical.1) _ (λ extensions.
    then_needs_none (string_at extensions.1) _ (λ reserved. then_needs_none (string_at reserved.1) _ (λ signer.
    then_needs_none (string_at signer.1) _ (λ signature e. cc)))))

certificate_needs_none : (bytes : List ℕ) → NeedsNone (certificate_at bytes)
unfolding certificate_at
certificate_needs_none bytes =
    bind_needs_none (holder_at bytes) then_holder (holder_needs_none bytes) (λ holder.
    bind_needs_none (times_at holder.1) (then_times holder.0) (times_need_none holder.1) (λ times.
    bind_needs_none (signer_at times.1) (then_signer holder.0 times.0) (signer_needs_none times.1) (λ signed e. cc)))

nonce_needs_none : (form : Form) (bytes : List ℕ) → NeedsNone (after_nonce form bytes)
nonce_needs_none (Plain kind) bytes e = cc
nonce_needs_none (Certified kind) bytes e = then_needs_none (string_at bytes) _ (λ nonce h. cc) e

own_needs_none : (form : Form) (bytes : List ℕ) → NeedsNone (certificate_for form bytes)
own_needs_none (Plain kind) bytes e = cc
own_needs_none (Certified kind) bytes e = bind_needs_none (certificate_at bytes) _ (certificate_needs_none bytes) (λ certificate h. cc) e

-- a blob is read without memory
pub public_needs_none : (bytes : List ℕ) → public_key_of bytes ≡ Err Memory → ⊥
unfolding public_key_of
public_needs_none bytes =
    bind_needs_none (form_at bytes) then_nonce (form_needs_none bytes) (λ form.
    bind_needs_none (after_nonce form.0 form.1) (then_fields form.0) (nonce_needs_none form.0 form.1) (λ fields.
    bind_needs_none (after_fields (key_type (kind_of form.0)).public fields) (then_certificate form.0 fields)
    (after_needs_none (key_type (kind_of form.0)).public fields) (λ after_key.
    bind_needs_none (certificate_for form.0 after_key) (then_ended form.0 fields after_key) (own_needs_none form.0 after_key) (λ certificate.
    ended_needs_none (key_with (kind_of form.0) (taken fields after_key) certificate.0) certificate.1))))
