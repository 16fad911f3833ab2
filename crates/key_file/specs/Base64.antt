-- Base64 with padding, in the standard alphabet (RFC 4648, section 4).
use Rattle.std.specs.Prelude.{◌≡◌, ℕ, ◌+◌, ◌*◌, ◌/◌, ◌%◌, ◌==◌, ◌||◌, not, Bool, List, [], ◌∷◌, Option, codes, slice_index}
use Rattle.std.specs.List.{filter}
use Rattle.std.specs.Result.{result_ok}
use Rattle.base64.specs.Engines.{standard}
use Rattle.base64.specs.GeneralPurpose.{decode_of}
use Rattle.wire_text.specs.Wire.{IsBytes}

-- the characters for six bits, from 0 to 63
abbrev pub alphabet : List ℕ
alphabet = codes "ABCDEFGHIJKLMNOPQRSTUVWXYZabcdefghijklmnopqrstuvwxyz0123456789+/"

-- the character for six bits
abbrev pub character : ℕ → ℕ
character bits = slice_index alphabet bits

-- `=`, which fills a last group of four characters
abbrev pub filler : ℕ
filler = 61

-- three bytes as four characters; a last group of one or two bytes has zero bits behind it
unfoldable pub base64 : List ℕ → List ℕ
base64 [] = []
base64 (a ∷ []) = character (a / 4) ∷ character (a % 4 * 16) ∷ filler ∷ filler ∷ []
base64 (a ∷ b ∷ []) =
    character (a / 4) ∷ character (a % 4 * 16 + b / 16) ∷ character (b % 16 * 4) ∷ filler ∷ []
base64 (a ∷ b ∷ c ∷ rest) =
    character (a / 4) ∷ character (a % 4 * 16 + b / 16) ∷ character (b % 16 * 4 + c / 64)
    ∷ character (c % 64) ∷ base64 rest

-- the text is the base64 of these bytes
pub record IsBase64 (text bytes : List ℕ) : Type 0 where
  pub whole : IsBytes bytes
  pub encoded : text ≡ base64 bytes

-- the bytes that the text is the base64 of, where it is that of some, by the decoder
unfoldable pub bytes_of : List ℕ → Option (List ℕ)
bytes_of text = result_ok (decode_of standard text)

-- a space, TAB, CR or LF
abbrev pub is_blank : ℕ → Bool
is_blank byte = (byte == 32) || (byte == 9) || (byte == 13) || (byte == 10)

-- the text without its blanks
abbrev pub without_blanks : List ℕ → List ℕ
without_blanks text = filter (λ byte. not (is_blank byte)) text
