-- Lemmas on the ends of certificates: what is read is in the grammar, and what is in the grammar is read.
use Rattle.std.proofs.Common.{◌≡◌, ℕ, ◌-◌, ◌^◌, ◌<◌, List, ◌++◌, length, take, Ok, refl, sym, ap, subst, ◌∙◌, arith}
use Rattle.std.specs.Option.{ok_or}
use Rattle.std.proofs.lemmas.List.{append_assoc, length-append, take_at}
use Rattle.key_wire.specs.Closings.{Seal, seal_at, seal_end_at, sealed, times_at}
use Rattle.key_wire.specs.declared.fault.KeyFault.TheVariants.{Unfit}
use Rattle.key_wire.specs.Grammar.{Certified, IsClosing, IsFit, names_text, times_text}
use Rattle.wire_core.specs.Fields.{string_at, uint32_at, uint64_at}
use Rattle.wire_core.proofs.ReadingLemmas.{bind_ok, ended_or_is, last, string_at-alone}
use Rattle.wire_core.proofs.Theorems.{string_at-string, uint32_at-uint32, uint64_at-uint64}
use Rattle.key_wire.proofs.FieldLemmas.{long_front, text_front, word_front}
use Rattle.wire_text.specs.Wire.{IsBytes, string, uint32, uint64}

-- ---- what is read is in the grammar

-- the authority and its signature
record IsEnd (bytes : List ℕ) (seal : Seal) : Type 0 where
  pub text : bytes ≡ string seal.authority ++ string seal.signature
  pub field : seal.signature_field ≡ length (string seal.signature)
  pub authority : length seal.authority < 2 ^ 32
  pub signature : length seal.signature < 2 ^ 32

end_is : (bytes : List ℕ) (seal : Seal) → IsBytes bytes → seal_end_at bytes ≡ Ok seal → IsEnd bytes seal
unfolding seal_end_at
end_is bytes seal small read =
    let a = bind_ok (ok_or (string_at bytes) Unfit) _ seal read in
    let b = bind_ok (ok_or (string_at a.0.1) Unfit) _ seal a.2 in
    let made : Seal = record { authority = a.0.0; signature = b.0.0; signature_field = length a.0.1 } in
    let end = ended_or_is Unfit made seal b.0.1 b.2 in
    let authority = text_front bytes a.0 small a.1 in
    let signature = text_front a.0.1 b.0 authority.0.left b.1 in
    let rest : a.0.1 ≡ string b.0.0 = last a.0.1 (string b.0.0) b.0.1 signature.0.parts end.0 in
    subst (IsEnd bytes) end.1 (record {
      text = authority.0.parts ∙ ap (λ (r : List ℕ). string a.0.0 ++ r) rest;
      field = ap length rest;
      authority = authority.1;
      signature = signature.1;
    })

-- five fields, and what follows
times_text_is : (b0 b1 b2 b3 b4 b5 after before options extensions reserved : List ℕ)
    → b0 ≡ after ++ b1 → b1 ≡ before ++ b2 → b2 ≡ options ++ b3 → b3 ≡ extensions ++ b4 → b4 ≡ reserved ++ b5
    → b0 ≡ after ++ (before ++ (options ++ (extensions ++ (reserved ++ b5))))
times_text_is b0 b1 b2 b3 b4 b5 after before options extensions reserved at0 at1 at2 at3 at4 =
    rw (at0, at1, at2, at3, at4) refl

-- what times, options and seal were read from
record IsTimes (bytes : List ℕ) (seal : Seal) : Type 0 where
  pub after : ℕ
  pub before : ℕ
  pub options : List ℕ
  pub extensions : List ℕ
  pub reserved : List ℕ
  pub rest : List ℕ
  pub text : bytes ≡ uint64 after ++ (uint64 before ++ (string options ++ (string extensions ++ (string reserved ++ rest))))
  pub end : IsEnd rest seal
  pub fit_after : after < 2 ^ 64
  pub fit_before : before < 2 ^ 64
  pub fit_options : length options < 2 ^ 32
  pub fit_extensions : length extensions < 2 ^ 32
  pub fit_reserved : length reserved < 2 ^ 32

times_is : (bytes : List ℕ) (seal : Seal) → IsBytes bytes → times_at bytes ≡ Ok seal → IsTimes bytes seal
unfolding times_at
times_is bytes seal small read =
    let a = bind_ok (ok_or (uint64_at bytes) Unfit) _ seal read in
    let b = bind_ok (ok_or (uint64_at a.0.1) Unfit) _ seal a.2 in
    let c = bind_ok (ok_or (string_at b.0.1) Unfit) _ seal b.2 in
    let d = bind_ok (ok_or (string_at c.0.1) Unfit) _ seal c.2 in
    let e = bind_ok (ok_or (string_at d.0.1) Unfit) _ seal d.2 in
    let after = long_front bytes a.0 small a.1 in
    let before = long_front a.0.1 b.0 after.0.left b.1 in
    let options = text_front b.0.1 c.0 before.0.left c.1 in
    let extensions = text_front c.0.1 d.0 options.0.left d.1 in
    let reserved = text_front d.0.1 e.0 extensions.0.left e.1 in
    record {
      after = a.0.0;
      before = b.0.0;
      options = c.0.0;
      extensions = d.0.0;
      reserved = e.0.0;
      rest = e.0.1;
      text = times_text_is bytes a.0.1 b.0.1 c.0.1 d.0.1 e.0.1 (uint64 a.0.0) (uint64 b.0.0) (string c.0.0)
          (string d.0.0) (string e.0.0) after.0.parts before.0.parts options.0.parts extensions.0.parts reserved.0.parts;
      end = end_is e.0.1 seal reserved.0.left e.2;
      fit_after = after.1;
      fit_before = before.1;
      fit_options = options.1;
      fit_extensions = extensions.1;
      fit_reserved = reserved.1;
    }

-- four fields, and what follows
names_text_is : (b0 b1 b2 b3 b4 serial kind key_id principals : List ℕ)
    → b0 ≡ serial ++ b1 → b1 ≡ kind ++ b2 → b2 ≡ key_id ++ b3 → b3 ≡ principals ++ b4
    → b0 ≡ serial ++ (kind ++ (key_id ++ (principals ++ b4)))
names_text_is b0 b1 b2 b3 b4 serial kind key_id principals at0 at1 at2 at3 = rw (at0, at1, at2, at3) refl

-- the two parts and the seal behind them
parts_are : (of : Certified) (seal : Seal) (bytes times end : List ℕ) → bytes ≡ names_text of times → times ≡ times_text of end
    → end ≡ string seal.authority ++ string seal.signature
    → bytes ≡ names_text of (times_text of (string seal.authority ++ string seal.signature))
parts_are of seal bytes times end at_bytes at_times at_end = rw (at_bytes, at_times, at_end) refl

-- what is read closes a certificate
pub closing_is_found : (bytes : List ℕ) (seal : Seal) → IsBytes bytes → seal_at bytes ≡ Ok seal → IsClosing bytes seal
unfolding seal_at
closing_is_found bytes seal small read =
    let a = bind_ok (ok_or (uint64_at bytes) Unfit) _ seal read in
    let b = bind_ok (ok_or (uint32_at a.0.1) Unfit) _ seal a.2 in
    let c = bind_ok (ok_or (string_at b.0.1) Unfit) _ seal b.2 in
    let d = bind_ok (ok_or (string_at c.0.1) Unfit) _ seal c.2 in
    let serial = long_front bytes a.0 small a.1 in
    let kind = word_front a.0.1 b.0 serial.0.left b.1 in
    let key_id = text_front b.0.1 c.0 kind.0.left c.1 in
    let principals = text_front c.0.1 d.0 key_id.0.left d.1 in
    let times = times_is d.0.1 seal principals.0.left d.2 in
    let front = names_text_is bytes a.0.1 b.0.1 c.0.1 d.0.1 (uint64 a.0.0) (uint32 b.0.0) (string c.0.0) (string d.0.0)
    serial.0.parts kind.0.parts key_id.0.parts principals.0.parts in
    let of : Certified = record {
      serial = a.0.0;
      kind = b.0.0;
      key_id = c.0.0;
      principals = d.0.0;
      after = times.after;
      before = times.before;
      critical_options = times.options;
      extensions = times.extensions;
      reserved = times.reserved;
    } in
    record {
      of = of;
      text = parts_are of seal bytes d.0.1 times.rest front times.text times.end.text;
      field = times.end.field;
      fit = record {
        serial = serial.1;
        kind = kind.1;
        key_id = key_id.1;
        principals = principals.1;
        after = times.fit_after;
        before = times.fit_before;
        critical_options = times.fit_options;
        extensions = times.fit_extensions;
        reserved = times.fit_reserved;
        authority = times.end.authority;
        signature = times.end.signature;
      };
    }

-- ---- what is in the grammar is read

end_again : (seal : Seal) → seal.signature_field ≡ length (string seal.signature) → length seal.authority < 2 ^ 32
    → length seal.signature < 2 ^ 32 → seal_end_at (string seal.authority ++ string seal.signature) ≡ Ok seal
unfolding seal_end_at
end_again seal field authority signature =
    rw (string_at-string seal.authority (string seal.signature) authority, string_at-alone seal.signature signature, sym field) refl

times_again : (of : Certified) (seal : Seal) (rest : List ℕ) → IsFit of seal → seal_end_at rest ≡ Ok seal
    → times_at (times_text of rest) ≡ Ok seal
unfolding times_at
times_again of seal rest fit end =
    rw (
      uint64_at-uint64 of.after _ fit.after,
      uint64_at-uint64 of.before _ fit.before,
      string_at-string of.critical_options _ fit.critical_options,
      string_at-string of.extensions _ fit.extensions,
      string_at-string of.reserved _ fit.reserved,
      end,
    ) refl

names_again : (of : Certified) (seal : Seal) (rest : List ℕ) → IsFit of seal → times_at rest ≡ Ok seal
    → seal_at (names_text of rest) ≡ Ok seal
unfolding seal_at
names_again of seal rest fit times =
    rw (
      uint64_at-uint64 of.serial _ fit.serial,
      uint32_at-uint32 of.kind _ fit.kind,
      string_at-string of.key_id _ fit.key_id,
      string_at-string of.principals _ fit.principals,
      times,
    ) refl

-- what closes a certificate is read
pub closing_is_read : (bytes : List ℕ) (seal : Seal) → IsClosing bytes seal → seal_at bytes ≡ Ok seal
closing_is_read bytes seal is =
    let end = end_again seal is.field is.fit.authority is.fit.signature in
    let times = times_again is.of seal (string seal.authority ++ string seal.signature) is.fit end in
    ap seal_at is.text ∙ names_again is.of seal (times_text is.of (string seal.authority ++ string seal.signature)) is.fit times

-- ---- what is signed

-- all but the last string
sealed_front : (front last : List ℕ) → take (length (front ++ last) - length last) (front ++ last) ≡ front
sealed_front front last = take_at front last (length (front ++ last) - length last) (omega (arith, length-append front last))

-- the bytes before the signature
abbrev before_signature : Certified → Seal → List ℕ
before_signature of seal = names_text of (times_text of (string seal.authority))

-- the closing is what stands before the signature, and the signature
parted : (of : Certified) (seal : Seal)
    → names_text of (times_text of (string seal.authority ++ string seal.signature)) ≡ before_signature of seal ++ string seal.signature
parted of seal = simp append_assoc refl

pub seal_is_over : (front bytes : List ℕ) (seal : Seal) → IsClosing bytes seal
    → front ++ bytes ≡ sealed (front ++ bytes) seal ++ string seal.signature
seal_is_over front bytes seal is =
    let before = front ++ before_signature is.of seal in
    let whole : front ++ bytes ≡ before ++ string seal.signature =
    ap (λ (b : List ℕ). front ++ b) (is.text ∙ parted is.of seal) ∙ sym (append_assoc front (before_signature is.of seal) (string seal.signature)) in
    let signed : sealed (front ++ bytes) seal ≡ before =
    rw (whole, is.field) (sealed_front before (string seal.signature)) in
    whole ∙ ap (λ (s : List ℕ). s ++ string seal.signature) (sym signed)
