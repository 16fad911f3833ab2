-- A body, written again.
use Rattle.std.proofs.Common.{◌≡◌, ℕ, ◌+◌, ◌-◌, ◌%◌, ◌^◌, ◌<◌, ◌≤◌, List, ◌++◌, length, take, Ok, refl, sym, ap, ◌∙◌, arith}
use Rattle.std.proofs.lemmas.List.{length-append, length-take}
use Rattle.wire_text.specs.Wire.{uint32, string}
use Rattle.wire_text.proofs.WireLemmas.{length-uint32, length-string}
use Rattle.key_file.specs.declared.private_part.KeyFile.{KeyFile}
use Rattle.key_file.specs.Bodies.{padding, private_fields, body_with, in_blocks, body_bytes, IsBody, IsWritable}
use Rattle.key_file.specs.BodyReading.{body_of}
use Rattle.key_file.proofs.BodyLemmas.{body_is_read}

-- how many bytes fill the last block
abbrev missing : ℕ → ℕ
missing len = (8 - len % 8) % 8

length-fields : (check : ℕ) (file : KeyFile)
    → length (private_fields check file) ≡ length file.key.private + length file.comment + 12
length-fields check file =
    let outer = length-append (uint32 check) (uint32 check ++ (file.key.private ++ string file.comment)) in
    let middle = length-append (uint32 check) (file.key.private ++ string file.comment) in
    let inner = length-append file.key.private (string file.comment) in
    omega (arith, outer, middle, inner, length-uint32 check, length-string file.comment)

length-padding : (count : ℕ) → count ≤ 7 → length (take count padding) ≡ count
length-padding count few = omega (arith, length-take count padding)

-- padding to whole blocks is so many bytes and no other number
padding_is : (count len : ℕ) → count ≤ 7 → (len + count) % 8 ≡ 0 → count ≡ missing len
padding_is count len few whole = omega arith

missing_few : (len : ℕ) → missing len ≤ 7
missing_few len = omega arith

missing_whole : (len : ℕ) → (len + missing len) % 8 ≡ 0
missing_whole len = omega arith

-- a multiple of 8 below 2 ^ 32 is at least 8 below it
below_last : (len count : ℕ) → (len + count) % 8 ≡ 0 → len + count < 2 ^ 32 → len + 7 < 2 ^ 32
below_last len count whole small = omega arith

above_last : (len : ℕ) → len + 7 < 2 ^ 32 → len + missing len < 2 ^ 32
above_last len small = omega (arith, missing_few len)

pub body_is_written : (bytes : List ℕ) (file : KeyFile) → IsBody bytes file
    → (check : ℕ) × (check < 2 ^ 32) × IsWritable file × (bytes ≡ body_bytes check file)
unfolding body_bytes
body_is_written bytes file is =
    let fields = private_fields is.part.check file in
    let count = is.part.padded in
    let len : length is.private_part ≡ length fields + count =
    ap length is.part.text ∙ length-append fields (take count padding) ∙ ap (λ (n : ℕ). length fields + n) (length-padding count is.part.few) in
    let whole : (length fields + count) % 8 ≡ 0 = ap (λ (n : ℕ). n % 8) (sym len) ∙ is.blocks in
    let filled : is.private_part ≡ in_blocks fields = is.part.text ∙ ap (λ (n : ℕ). fields ++ take n padding) (padding_is count (length fields) is.part.few whole) in (
      is.part.check,
      is.part.check_fits,
      record {
        key = is.part.key;
        short_comment = is.part.short_comment;
        short_blob = is.short_blob;
        short_part = omega (arith, below_last (length fields) count whole (omega (arith, len, is.short_part)), length-fields is.part.check file);
      },
      is.text ∙ ap (body_with file.key.blob) filled,
    )

pub written_is_body : (file : KeyFile) (check : ℕ) → check < 2 ^ 32 → IsWritable file
    → IsBody (body_bytes check file) file
unfolding body_bytes
written_is_body file check fits is =
    let fields = private_fields check file in
    let count = missing (length fields) in
    let len : length (in_blocks fields) ≡ length fields + count =
    length-append fields (take count padding) ∙ ap (λ (n : ℕ). length fields + n) (length-padding count (missing_few (length fields))) in
    let small : length fields + 7 < 2 ^ 32 = omega (arith, is.short_part, length-fields check file) in
    record {
      private_part = in_blocks fields;
      part = record {
        check = check;
        check_fits = fits;
        key = is.key;
        short_comment = is.short_comment;
        padded = count;
        few = missing_few (length fields);
        text = refl;
      };
      blocks = ap (λ (n : ℕ). n % 8) len ∙ missing_whole (length fields);
      short_part = omega (arith, len, above_last (length fields) small);
      short_blob = is.short_blob;
      text = refl;
    }

pub written_is_read : (file : KeyFile) (check : ℕ) → check < 2 ^ 32 → IsWritable file
    → body_of (body_bytes check file) ≡ Ok file
written_is_read file check fits is = body_is_read (body_bytes check file) file (written_is_body file check fits is)
