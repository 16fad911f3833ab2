-- The private part of a body: what is read is in the grammar, and what is in it is read.
use Rattle.std.proofs.Common.{◌≡◌, ℕ, ◌<◌, ◌≤◌, List, ◌++◌, length, take, Result, Ok, Err, refl, sym, ap, subst, ◌∙◌, arith}
use Rattle.std.specs.Str.{bytes_eq}
use Rattle.std.proofs.lemmas.List.{append_assoc, length-take}
use Rattle.std.proofs.lemmas.Slice.Eq.{bytes_eq-Decides}
use Rattle.wire_text.specs.Wire.{IsBytes, uint32, string}
use Rattle.key_blob.specs.declared.fault.KeyFault.{KeyFault}
use Rattle.key_file.specs.declared.fault.KeyFileFault.TheVariants.{Padding}
use Rattle.key_file.specs.declared.private_part.KeyFile.{KeyFile}
use Rattle.key_file.specs.Bodies.{padding, IsPrivatePart}
use Rattle.key_file.specs.BodyReading.{text_at, after_checks, in_body, padded, private_of}
use Rattle.key_file.specs.PlainKeys.{plain_key_at}
use Rattle.key_file.proofs.FieldLemmas.{text_is, text_again, checks_are, checks_again}
use Rattle.key_file.proofs.PartLemmas.{rest_all}
use Rattle.key_file.proofs.PlainKeyLemmas.{plain_is_found, plain_is_read}
use Rattle.key_file.proofs.StepLemmas.{bind_ok, guard_ok}

lifted_ok : {A : Type 0} (r : Result A KeyFault) (x : A) → in_body r ≡ Ok x → r ≡ Ok x
lifted_ok (Ok y) x e = cc
lifted_ok (Err fault) x e = absurd cc

-- what is padding is so many bytes of it
record IsPadded (made file : KeyFile) (rest : List ℕ) : Type 0 where
  count : ℕ
  few : count ≤ 7
  front : rest ≡ take count padding
  same : made ≡ file

padded_is : (made file : KeyFile) (rest : List ℕ) → padded made rest ≡ Ok file
    → IsPadded made file rest
padded_is made file rest e =
    let g = guard_ok (bytes_eq (take (length rest) padding) rest) Padding made file e in
    let same = (bytes_eq-Decides (take (length rest) padding) rest).0 g.0 in
    record { count = length rest; few = omega (arith, ap length same, length-take (length rest) padding); front = sym same; same = g.1 }

joined : (bytes check key comment pad a b c : List ℕ) → bytes ≡ check ++ (check ++ a)
    → a ≡ key ++ b → b ≡ comment ++ c → c ≡ pad →
    bytes ≡ (check ++ (check ++ (key ++ comment))) ++ pad
joined bytes check key comment pad a b c at_a at_b at_c at_end = rw (at_a, at_b, at_c, at_end) (simp append_assoc)

pub private_is_found : (bytes : List ℕ) (file : KeyFile) → IsBytes bytes
    → private_of bytes ≡ Ok file → IsPrivatePart bytes file
unfolding private_of
private_is_found bytes file small read =
    let a = bind_ok (after_checks bytes) _ file read in
    let b = bind_ok (in_body (plain_key_at a.0)) _ file a.2 in
    let c = bind_ok (text_at b.0.1) (λ comment. padded (record { key = b.0.0; comment = comment.0 }) comment.1) file b.2 in
    let made : KeyFile = record { key = b.0.0; comment = c.0.0 } in
    let pad = padded_is made file c.0.1 c.2 in
    let checks = checks_are bytes a.0 small a.1 in
    let key = plain_is_found a.0 b.0 checks.left (lifted_ok (plain_key_at a.0) b.0 b.1) in
    let behind : IsBytes b.0.1 = rest_all (λ byte. byte < 256) b.0.0.private b.0.1 (subst IsBytes key.1 checks.left) in
    let comment = text_is b.0.1 c.0 behind c.1 in
    subst (IsPrivatePart bytes) pad.same (record {
      check = checks.check;
      check_fits = checks.fits;
      key = key.0;
      short_comment = comment.small;
      padded = pad.count;
      few = pad.few;
      text = joined bytes (uint32 checks.check) b.0.0.private (string c.0.0) (take pad.count padding) a.0 b.0.1 c.0.1 checks.parts key.1 comment.parts pad.front;
    })

front_of_front : (count : ℕ) → count ≤ 7
    → take (length (take count padding)) padding ≡ take count padding
front_of_front count few =
    let len : length (take count padding) ≡ count = omega (arith, length-take count padding) in
    ap (λ (n : ℕ). take n padding) len

pub private_is_read : (bytes : List ℕ) (file : KeyFile) → IsPrivatePart bytes file
    → private_of bytes ≡ Ok file
unfolding private_of
private_is_read bytes file is =
    let pad = take is.padded padding in
    let text : bytes ≡ uint32 is.check ++ (uint32 is.check ++ (file.key.private ++ (string file.comment ++ pad))) = is.text ∙ simp append_assoc in
    rw (
      text,
      checks_again is.check _ is.check_fits,
      plain_is_read file.key _ is.key,
      text_again file.comment pad is.short_comment,
      front_of_front is.padded is.few,
      (bytes_eq-Decides pad pad).1 refl,
    ) refl
