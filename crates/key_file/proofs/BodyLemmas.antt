-- The body of a private key's file: what is read is in the grammar, and what is in it is read.
use Rattle.std.proofs.Common.{◌≡◌, ℕ, List, [], ◌∷◌, ◌++◌, Ok, refl, sym, ap, subst, ◌∙◌, lit<}
use Rattle.std.specs.Option.{ok_or}
use Rattle.std.specs.Str.{bytes_eq}
use Rattle.std.proofs.lemmas.List.{append-nil}
use Rattle.std.proofs.lemmas.Slice.Eq.{bytes_eq-Decides}
use Rattle.wire_text.specs.Wire.{IsBytes, uint32, string}
use Rattle.key_file.specs.declared.fault.KeyFileFault.TheVariants.{Base64, OtherKey}
use Rattle.key_file.specs.declared.private_part.KeyFile.{KeyFile}
use Rattle.key_file.specs.Base64.{bytes_of, IsBase64}
use Rattle.key_file.specs.Bodies.{magic, none, body_with, IsPrivatePart, IsBody}
use Rattle.key_file.specs.BodyReading.{text_at, after_magic, after_text, after_count, blocks_at, private_of, ended, of_blob, body_of, encoded_file}
use Rattle.key_file.proofs.Base64Lemmas.{decoded_is, base64_is_decoded}
use Rattle.key_file.proofs.FieldLemmas.{IsText, text_is, text_again, magic_is, magic_again, this_text_is, this_text_again, count_is, count_again, blocks_are, blocks_again}
use Rattle.key_file.proofs.StepLemmas.{bind_ok, ok_or_ok, guard_ok}
use Rattle.key_file.proofs.PrivateLemmas.{private_is_found, private_is_read}

-- ---- the body

ended_is : (rest : List ℕ) (x : Unit {0}) → ended rest ≡ Ok x → rest ≡ []
ended_is [] x e = refl
ended_is (byte ∷ rest) x e = absurd cc

body_joined : (bytes blob part a b c d e f g : List ℕ) → bytes ≡ magic ++ a → a ≡ string none ++ b
    → b ≡ string none ++ c → c ≡ string [] ++ d →
    d ≡ uint32 1 ++ e → e ≡ string blob ++ f → f ≡ string part ++ g → g ≡ [] → bytes ≡ body_with blob part
body_joined bytes blob part a b c d e f g at_a at_b at_c at_d at_e at_f at_g at_end =
    rw (at_a, at_b, at_c, at_d, at_e, at_f, at_g, at_end, append-nil (string part)) refl

pub body_is_found : (bytes : List ℕ) (file : KeyFile) → IsBytes bytes → body_of bytes ≡ Ok file
    → IsBody bytes file
unfolding body_of
body_is_found bytes file small read =
    let a = bind_ok (after_magic bytes) _ file read in
    let b = bind_ok (after_text none a.0) _ file a.2 in
    let c = bind_ok (after_text none b.0) _ file b.2 in
    let d = bind_ok (after_text [] c.0) _ file c.2 in
    let e = bind_ok (after_count d.0) _ file d.2 in
    let f = bind_ok (text_at e.0) _ file e.2 in
    let g = bind_ok (blocks_at f.0.1) _ file f.2 in
    let h = bind_ok (ended g.0.1) _ file g.2 in
    let i = bind_ok (private_of g.0.0) (of_blob f.0.0) file h.2 in
    let same = guard_ok (bytes_eq i.0.key.blob f.0.0) OtherKey i.0 file i.2 in
    let named : f.0.0 ≡ file.key.blob = sym ((bytes_eq-Decides i.0.key.blob f.0.0).0 same.0) ∙ ap (λ (made : KeyFile). made.key.blob) same.1 in
    let front = magic_is bytes a.0 small a.1 in
    let cipher = this_text_is none a.0 b.0 front.left b.1 in
    let derivation = this_text_is none b.0 c.0 cipher.left c.1 in
    let options = this_text_is [] c.0 d.0 derivation.left d.1 in
    let count = count_is d.0 e.0 options.left e.1 in
    let blob = subst (λ (t : List ℕ). IsText e.0 t f.0.1) named (text_is e.0 f.0 count.left f.1) in
    let part = blocks_are f.0.1 g.0 blob.left g.1 in
    record {
      private_part = g.0.0;
      part = subst (IsPrivatePart g.0.0) same.1 (private_is_found g.0.0 i.0 part.0.inside i.1);
      blocks = part.1;
      short_part = part.0.small;
      short_blob = blob.small;
      text = body_joined bytes file.key.blob g.0.0 a.0 b.0 c.0 d.0 e.0 f.0.1 g.0.1
          front.parts cipher.parts derivation.parts options.parts count.parts blob.parts part.0.parts (ended_is g.0.1 h.0 h.1);
    }

pub body_is_read : (bytes : List ℕ) (file : KeyFile) → IsBody bytes file → body_of bytes ≡ Ok file
unfolding body_of
body_is_read bytes file is =
    let last : blocks_at (string is.private_part) ≡ Ok (is.private_part, []) =
    ap blocks_at (sym (append-nil (string is.private_part))) ∙ blocks_again is.private_part [] is.short_part is.blocks in
    rw (
      is.text,
      magic_again _,
      this_text_again none _ (lit< tt),
      this_text_again none _ (lit< tt),
      this_text_again [] _ (lit< tt),
      count_again _,
      text_again file.key.blob _ is.short_blob,
      last,
      private_is_read is.private_part file is.part,
      (bytes_eq-Decides file.key.blob file.key.blob).1 refl,
    ) refl

-- ---- its text

pub encoded_is_found : (text : List ℕ) (file : KeyFile) → IsBytes text
    → encoded_file text ≡ Ok file → (bytes : List ℕ) × IsBase64 text bytes × IsBody bytes file
unfolding encoded_file
encoded_is_found text file small read =
    let a = bind_ok (ok_or (bytes_of text) Base64) body_of file read in
    let encoded = decoded_is text a.0 small (ok_or_ok (bytes_of text) Base64 a.0 a.1) in
    (a.0, encoded, body_is_found a.0 file encoded.whole a.2)

pub encoded_is_read : (text bytes : List ℕ) (file : KeyFile) → IsBase64 text bytes
    → IsBody bytes file → encoded_file text ≡ Ok file
unfolding encoded_file
encoded_is_read text bytes file encoded body = rw (base64_is_decoded text bytes encoded) (body_is_read bytes file body)
