-- Certificates behind the key's fields: what is read is in the grammar, and what is in the grammar is read.
use Rattle.std.proofs.Common.{◌≡◌, ℕ, ◌^◌, ◌<◌, Bool, true, false, cond, List, ◌++◌, length, take, drop, Result, Ok, Err, refl, ap, subst, ◌∙◌}
use Rattle.std.proofs.lemmas.List.{take_at}
use Rattle.std.proofs.lemmas.List.Elements.{All-drop, All-take}
use Rattle.wire_text.specs.Wire.{IsBytes, uint32, uint64, string}
use Rattle.wire_text.proofs.WireLemmas.{drop-string}
use Rattle.wire_core.specs.Fields.{uint32_at, uint64_at, string_at}
use Rattle.wire_core.proofs.Theorems.{IsFront, uint32_is_front, uint64_is_front, string_is_front, uint32_at-uint32, uint64_at-uint64, string_at-string}
use Rattle.key_blob.specs.declared.fault.KeyFault.{KeyFault}
use Rattle.key_blob.specs.declared.fault.KeyFault.TheVariants.{Short}
use Rattle.key_blob.specs.Certificates.{CertificateParts, IsCertificateFront, text_at, u32_at, u64_at, names_at, holder_at, times_at, signer_at, certificate_at}
use Rattle.key_blob.specs.Principals.{AreStrings, are_strings}
use Rattle.wire_core.specs.Readings.{◌>>=◌}
use Rattle.wire_core.proofs.ReadingLemmas.{bind_ok, ok_or_ok}
use Rattle.key_blob.proofs.PrincipalLemmas.{AreStrings-from_test, test-from_AreStrings}

abbrev done : {A : Type 0} → A → Result A KeyFault
done x = Ok x

pub ok_is : {A : Type 0} (x y : A) → done x ≡ done y → x ≡ y
ok_is x y e = cc

-- a text in front of what a longer text is
behind : {bytes rest later : List ℕ} (text : List ℕ) → bytes ≡ text ++ rest → rest ≡ later → bytes ≡ text ++ later
behind text parts more = parts ∙ ap (λ (left : List ℕ). text ++ left) more

-- ---- a step that did not fail: what was read, and that the reading went on with it

pub record TextStep {B : Type 0} (bytes : List ℕ) (f : List ℕ × List ℕ → Result B KeyFault) (y : B) : Type 0 where
  pub text : List ℕ
  pub rest : List ℕ
  pub front : IsFront bytes (string text) rest
  pub small : length text < 2 ^ 32
  pub next : f (text, rest) ≡ Ok y

pub text_step : {B : Type 0} (bytes : List ℕ) (f : List ℕ × List ℕ → Result B KeyFault) (y : B) → IsBytes bytes → (text_at bytes >>= f) ≡ Ok y → TextStep bytes f y
text_step bytes f y small read =
    let a = bind_ok (text_at bytes) f y read in
    let front = string_is_front bytes a.0.0 a.0.1 small (ok_or_ok (string_at bytes) Short a.0 a.1) in
    record { text = a.0.0; rest = a.0.1; front = front.0; small = front.1; next = a.2 }

record NumberStep {B : Type 0} (text : ℕ → List ℕ) (bound : ℕ) (bytes : List ℕ) (f : ℕ × List ℕ → Result B KeyFault) (y : B) : Type 0 where
  value : ℕ
  rest : List ℕ
  front : IsFront bytes (text value) rest
  small : value < bound
  next : f (value, rest) ≡ Ok y

u32_step : {B : Type 0} (bytes : List ℕ) (f : ℕ × List ℕ → Result B KeyFault) (y : B) → IsBytes bytes → (u32_at bytes >>= f) ≡ Ok y → NumberStep uint32 (2 ^ 32) bytes f y
u32_step bytes f y small read =
    let a = bind_ok (u32_at bytes) f y read in
    let front = uint32_is_front bytes a.0.0 a.0.1 small (ok_or_ok (uint32_at bytes) Short a.0 a.1) in
    record { value = a.0.0; rest = a.0.1; front = front.0; small = front.1; next = a.2 }

u64_step : {B : Type 0} (bytes : List ℕ) (f : ℕ × List ℕ → Result B KeyFault) (y : B) → IsBytes bytes → (u64_at bytes >>= f) ≡ Ok y → NumberStep uint64 (2 ^ 64) bytes f y
u64_step bytes f y small read =
    let a = bind_ok (u64_at bytes) f y read in
    let front = uint64_is_front bytes a.0.0 a.0.1 small (ok_or_ok (uint64_at bytes) Short a.0 a.1) in
    record { value = a.0.0; rest = a.0.1; front = front.0; small = front.1; next = a.2 }

-- ---- the string of principals

-- the content of a string is bytes
pub content_is_bytes : (bytes text rest : List ℕ) → IsBytes bytes → bytes ≡ string text ++ rest → IsBytes text
content_is_bytes bytes text rest small parts =
    let cut : take (length text) (drop 4 bytes) ≡ text =
    ap (λ (b : List ℕ). take (length text) (drop 4 b)) parts ∙ ap (take (length text)) (drop-string text rest) ∙ take_at text rest (length text) refl in
    subst IsBytes cut (All-take (λ byte. byte < 256) (length text) (drop 4 bytes) (All-drop (λ byte. byte < 256) 4 bytes small))

record NamesStep {B : Type 0} (bytes : List ℕ) (f : List ℕ × List ℕ → Result B KeyFault) (y : B) : Type 0 where
  text : List ℕ
  rest : List ℕ
  front : IsFront bytes (string text) rest
  small : length text < 2 ^ 32
  are : AreStrings text
  next : f (text, rest) ≡ Ok y

guarded : (b : Bool) (found x : List ℕ × List ℕ) → cond b (Ok found) (Err Short) ≡ Ok x → (b ≡ true) × (found ≡ x)
guarded true found x e = (refl, cc)
guarded false found x e = absurd cc

abbrev tested : List ℕ × List ℕ → Result (List ℕ × List ℕ) KeyFault
tested names = cond (are_strings names.0) (Ok names) (Err Short)

names_step : {B : Type 0} (bytes : List ℕ) (f : List ℕ × List ℕ → Result B KeyFault) (y : B) → IsBytes bytes → (names_at bytes >>= f) ≡ Ok y → NamesStep bytes f y
unfolding names_at
names_step bytes f y small read =
    let a = bind_ok (names_at bytes) f y read in
    let b = text_step bytes tested a.0 small a.1 in
    let g = guarded (are_strings b.text) (b.text, b.rest) a.0 b.next in
    record {
      text = b.text;
      rest = b.rest;
      front = b.front;
      small = b.small;
      are = AreStrings-from_test b.text (content_is_bytes bytes b.text b.rest small b.front.parts) g.0;
      next = ap f g.1 ∙ a.2;
    }

-- ---- a certificate's parts, one after another

record IsHolderFront (bytes : List ℕ) (holder : ℕ × List ℕ) (rest : List ℕ) : Type 0 where
  serial : ℕ
  key_id : List ℕ
  text : bytes ≡ uint64 serial ++ (uint32 holder.0 ++ (string key_id ++ (string holder.1 ++ rest)))
  names : AreStrings holder.1
  fit : (serial < 2 ^ 64) × (holder.0 < 2 ^ 32) × (length key_id < 2 ^ 32) × (length holder.1 < 2 ^ 32)
  left : IsBytes rest

holder_is_front : (bytes : List ℕ) (x : (ℕ × List ℕ) × List ℕ) → IsBytes bytes → holder_at bytes ≡ Ok x → IsHolderFront bytes x.0 x.1
unfolding holder_at
holder_is_front bytes x small read =
    let serial = u64_step bytes _ x small read in
    let cert_type = u32_step serial.rest _ x serial.front.left serial.next in
    let key_id = text_step cert_type.rest _ x cert_type.front.left cert_type.next in
    let principals = names_step key_id.rest _ x key_id.front.left key_id.next in
    let made : (ℕ × List ℕ) × List ℕ = ((cert_type.value, principals.text), principals.rest) in
    subst (λ (y : (ℕ × List ℕ) × List ℕ). IsHolderFront bytes y.0 y.1) (ok_is made x principals.next) (record {
      serial = serial.value;
      key_id = key_id.text;
      text = behind (uint64 serial.value) serial.front.parts (behind (uint32 cert_type.value) cert_type.front.parts
          (behind (string key_id.text) key_id.front.parts principals.front.parts));
      names = principals.are;
      fit = (serial.small, cert_type.small, key_id.small, principals.small);
      left = principals.front.left;
    })

record AreTimesFront (bytes : List ℕ) (times : ℕ × ℕ) (rest : List ℕ) : Type 0 where
  text : bytes ≡ uint64 times.0 ++ (uint64 times.1 ++ rest)
  fit : (times.0 < 2 ^ 64) × (times.1 < 2 ^ 64)
  left : IsBytes rest

times_are_front : (bytes : List ℕ) (x : (ℕ × ℕ) × List ℕ) → IsBytes bytes → times_at bytes ≡ Ok x → AreTimesFront bytes x.0 x.1
unfolding times_at
times_are_front bytes x small read =
    let after = u64_step bytes _ x small read in
    let before = u64_step after.rest _ x after.front.left after.next in
    let made : (ℕ × ℕ) × List ℕ = ((after.value, before.value), before.rest) in
    subst (λ (y : (ℕ × ℕ) × List ℕ). AreTimesFront bytes y.0 y.1) (ok_is made x before.next) (record {
      text = behind (uint64 after.value) after.front.parts before.front.parts;
      fit = (after.small, before.small);
      left = before.front.left;
    })

record IsSignerFront (bytes : List ℕ) (signed : List ℕ × List ℕ) (rest : List ℕ) : Type 0 where
  extensions : List ℕ
  reserved : List ℕ
  signature : List ℕ
  text : bytes ≡ string signed.0 ++ (string extensions ++ (string reserved ++ (string signed.1 ++ (string signature ++ rest))))
  fit : (length signed.0 < 2 ^ 32) × (length signed.1 < 2 ^ 32)
  passed_fit : (length extensions < 2 ^ 32) × (length reserved < 2 ^ 32) × (length signature < 2 ^ 32)
  left : IsBytes rest

signer_is_front : (bytes : List ℕ) (x : (List ℕ × List ℕ) × List ℕ) → IsBytes bytes → signer_at bytes ≡ Ok x → IsSignerFront bytes x.0 x.1
unfolding signer_at
signer_is_front bytes x small read =
    let critical = text_step bytes _ x small read in
    let extensions = text_step critical.rest _ x critical.front.left critical.next in
    let reserved = text_step extensions.rest _ x extensions.front.left extensions.next in
    let signer = text_step reserved.rest _ x reserved.front.left reserved.next in
    let signature = text_step signer.rest _ x signer.front.left signer.next in
    let made : (List ℕ × List ℕ) × List ℕ = ((critical.text, signer.text), signature.rest) in
    subst (λ (y : (List ℕ × List ℕ) × List ℕ). IsSignerFront bytes y.0 y.1) (ok_is made x signature.next) (record {
      extensions = extensions.text;
      reserved = reserved.text;
      signature = signature.text;
      text = behind (string critical.text) critical.front.parts (behind (string extensions.text) extensions.front.parts
          (behind (string reserved.text) reserved.front.parts (behind (string signer.text) signer.front.parts signature.front.parts)));
      fit = (critical.small, signer.small);
      passed_fit = (extensions.small, reserved.small, signature.small);
      left = signature.front.left;
    })

-- ---- a certificate

-- what follows the times, and what follows the holder
abbrev pub then_signer : ℕ × List ℕ → ℕ × ℕ → (List ℕ × List ℕ) × List ℕ → Result (CertificateParts × List ℕ) KeyFault
then_signer holder times signed = Ok (
  record {
    cert_type = holder.0;
    principals = holder.1;
    after = times.0;
    before = times.1;
    critical = signed.0.0;
    signer = signed.0.1;
  },
  signed.1,
)

abbrev pub then_times : ℕ × List ℕ → (ℕ × ℕ) × List ℕ → Result (CertificateParts × List ℕ) KeyFault
then_times holder times = signer_at times.1 >>= then_signer holder times.0

abbrev pub then_holder : (ℕ × List ℕ) × List ℕ → Result (CertificateParts × List ℕ) KeyFault
then_holder holder = times_at holder.1 >>= then_times holder.0

-- what is read is a certificate, and bytes are left
pub certificate_is_front : (bytes : List ℕ) (x : CertificateParts × List ℕ) → IsBytes bytes → certificate_at bytes ≡ Ok x →
    IsCertificateFront bytes x.0 x.1 × IsBytes x.1
unfolding certificate_at
certificate_is_front bytes x small read =
    let a = bind_ok (holder_at bytes) then_holder x read in
    let h = holder_is_front bytes a.0 small a.1 in
    let b = bind_ok (times_at a.0.1) (then_times a.0.0) x a.2 in
    let t = times_are_front a.0.1 b.0 h.left b.1 in
    let c = bind_ok (signer_at b.0.1) (then_signer a.0.0 b.0.0) x b.2 in
    let s = signer_is_front b.0.1 c.0 t.left c.1 in
    let made : CertificateParts × List ℕ = (
      record {
        cert_type = a.0.0.0;
        principals = a.0.0.1;
        after = b.0.0.0;
        before = b.0.0.1;
        critical = c.0.0.0;
        signer = c.0.0.1;
      },
      c.0.1,
    ) in
    let later = λ (left : List ℕ). uint64 h.serial ++ (uint32 a.0.0.0 ++ (string h.key_id ++ (string a.0.0.1 ++ left))) in
    let times = λ (left : List ℕ). uint64 b.0.0.0 ++ (uint64 b.0.0.1 ++ left) in
    subst (λ (y : CertificateParts × List ℕ). IsCertificateFront bytes y.0 y.1 × IsBytes y.1) (ok_is made x c.2) (
      record {
        serial = h.serial;
        key_id = h.key_id;
        extensions = s.extensions;
        reserved = s.reserved;
        signature = s.signature;
        text = h.text ∙ ap later (t.text ∙ ap times s.text);
        names = h.names;
        numbers = (h.fit.0, h.fit.1, t.fit.0, t.fit.1);
        read_fit = (h.fit.3, s.fit.0, s.fit.1);
        passed_fit = (h.fit.2, s.passed_fit.0, s.passed_fit.1, s.passed_fit.2);
      },
      s.left,
    )

-- a certificate is read, whatever follows it
pub certificate_again : (bytes : List ℕ) (parts : CertificateParts) (rest : List ℕ) → IsCertificateFront bytes parts rest →
    certificate_at bytes ≡ Ok (parts, rest)
unfolding certificate_at holder_at times_at signer_at names_at
certificate_again bytes parts rest is =
    ap certificate_at is.text
    ∙ rw (
      uint64_at-uint64 is.serial _ is.numbers.0,
      uint32_at-uint32 parts.cert_type _ is.numbers.1,
      string_at-string is.key_id _ is.passed_fit.0,
      string_at-string parts.principals _ is.read_fit.0,
      test-from_AreStrings is.names,
      uint64_at-uint64 parts.after _ is.numbers.2,
      uint64_at-uint64 parts.before _ is.numbers.3,
      string_at-string parts.critical _ is.read_fit.1,
      string_at-string is.extensions _ is.passed_fit.1,
      string_at-string is.reserved _ is.passed_fit.2,
      string_at-string parts.signer _ is.read_fit.2,
      string_at-string is.signature _ is.passed_fit.3,
    ) refl
