-- The encoder's text is base64, and the decoder gives what it is of.
use Rattle.std.proofs.Common.{◌≡◌, ℕ, List, [], ◌∷◌, ◌++◌, length, replicate, Some, Result, Ok, Err, refl, sym, ap, ◌∙◌, arith}
use Rattle.std.specs.Result.{result_ok}
use Rattle.base64.specs.declared.decode.DecodeError.{DecodeError}
use Rattle.base64.specs.Engines.{standard}
use Rattle.base64.specs.GeneralPurpose.{decode_of, encode_of}
use Rattle.base64.specs.Rfc4648.{encode_symbols, padding_len}
use Rattle.base64.proofs.EngineFacts.{decode_of_strict, decode_of-encode_of}
use Rattle.wire_text.specs.Wire.{IsBytes}
use Rattle.wire_text.proofs.WireLemmas.{byte_at_each}
use Rattle.key_file.proofs.DecodedBytes.{decoded_is_bytes}
use Rattle.key_file.specs.Base64.{alphabet, base64, bytes_of, IsBase64}

-- the characters and the fillers of RFC 4648's encoder
characters_are : (bytes : List ℕ)
    → encode_symbols alphabet bytes ++ replicate (padding_len (length bytes)) 61 ≡ base64 bytes
unfolding encode_symbols base64
characters_are [] = refl
characters_are (a ∷ []) = refl
characters_are (a ∷ b ∷ []) = refl
characters_are (a ∷ b ∷ c ∷ rest) =
    let same : padding_len (length (a ∷ b ∷ c ∷ rest)) ≡ padding_len (length rest) = omega arith in
    rw (same, characters_are rest) refl

pub encoded_is : (bytes : List ℕ) → encode_of standard bytes ≡ base64 bytes
encoded_is bytes = characters_are bytes

ok_of : (r : Result (List ℕ) DecodeError) (bytes : List ℕ) → result_ok r ≡ Some bytes → r ≡ Ok bytes
ok_of (Ok x) bytes e = cc
ok_of (Err fault) bytes e = absurd cc

-- what is decoded has the text as its base64
pub decoded_is : (text bytes : List ℕ) → IsBytes text → bytes_of text ≡ Some bytes
    → IsBase64 text bytes
unfolding bytes_of
decoded_is text bytes small read =
    let ok = ok_of (decode_of standard text) bytes read in
    record {
      whole = decoded_is_bytes text bytes small ok;
      encoded = decode_of_strict standard text bytes (refl, refl) (byte_at_each text small) ok ∙ encoded_is bytes;
    }

-- base64 is decoded
pub base64_is_decoded : (text bytes : List ℕ) → IsBase64 text bytes → bytes_of text ≡ Some bytes
unfolding bytes_of
base64_is_decoded text bytes is =
    let again = decode_of-encode_of standard bytes refl (byte_at_each bytes is.whole) in
    let same : text ≡ encode_of standard bytes = is.encoded ∙ sym (encoded_is bytes) in
    ap (λ (t : List ℕ). result_ok (decode_of standard t)) same ∙ ap result_ok again
