-- What the body of a private key's file holds (OpenSSH's PROTOCOL.key), where it isn't encrypted
-- and holds one key. That the padding is of at most 7 bytes is ours.
use Rattle.std.specs.Prelude.{◌≡◌, ℕ, ◌+◌, ◌-◌, ◌%◌, ◌^◌, ◌<◌, ◌≤◌, List, [], ◌∷◌, ◌++◌, length, take, codes}
use Rattle.wire_text.specs.Wire.{uint32, string}
use Rattle.key_file.specs.declared.private_part.KeyFile.{KeyFile}
use Rattle.key_file.specs.Base64.{IsBase64, without_blanks}
use Rattle.key_file.specs.PlainKeys.{IsPlainAddition}

-- `openssh-key-v1` and a zero byte
abbrev pub magic : List ℕ
magic = codes "openssh-key-v1" ++ 0 ∷ []

-- the name of no cipher, and of no key derivation
abbrev pub none : List ℕ
none = codes "none"

-- the bytes that fill the last block: the front of these
abbrev pub padding : List ℕ
padding = 1 ∷ 2 ∷ 3 ∷ 4 ∷ 5 ∷ 6 ∷ 7 ∷ []

-- the private part of a key with a comment, under a check number, without padding
abbrev pub private_fields : ℕ → KeyFile → List ℕ
private_fields check file =
    uint32 check ++ (uint32 check ++ (file.key.private ++ string file.comment))

-- a body with this public key and this private part
abbrev pub body_with : List ℕ → List ℕ → List ℕ
body_with blob private_part =
    magic ++ (string none ++ (string none ++ (string [] ++ (uint32 1 ++ (string blob
    ++ string private_part)))))

-- the private part of a key with a comment
pub record IsPrivatePart (bytes : List ℕ) (file : KeyFile) : Type 0 where
  pub check : ℕ
  pub check_fits : check < 2 ^ 32
  pub key : IsPlainAddition file.key
  pub short_comment : length file.comment < 2 ^ 32
  -- how many bytes of padding
  pub padded : ℕ
  pub few : padded ≤ 7
  pub text : bytes ≡ private_fields check file ++ take padded padding

-- the bytes are the body of a file with this key and comment
pub record IsBody (bytes : List ℕ) (file : KeyFile) : Type 0 where
  pub private_part : List ℕ
  pub part : IsPrivatePart private_part file
  pub blocks : length private_part % 8 ≡ 0
  pub short_part : length private_part < 2 ^ 32
  pub short_blob : length file.key.blob < 2 ^ 32
  pub text : bytes ≡ body_with file.key.blob private_part

-- the text, with blanks wherever they stand, is the base64 of a body with this key and comment
pub record IsBodyText (text : List ℕ) (file : KeyFile) : Type 0 where
  pub bytes : List ℕ
  pub encoded : IsBase64 (without_blanks text) bytes
  pub body : IsBody bytes file

-- ---- writing

-- the bytes with padding to a whole number of blocks of 8
abbrev pub in_blocks : List ℕ → List ℕ
in_blocks bytes = bytes ++ take ((8 - length bytes % 8) % 8) padding

-- a key and a comment that a body can hold
pub record IsWritable (file : KeyFile) : Type 0 where
  pub key : IsPlainAddition file.key
  pub short_comment : length file.comment < 2 ^ 32
  pub short_blob : length file.key.blob < 2 ^ 32
  -- with the check numbers, the comment's length and padding
  pub short_part : length file.key.private + length file.comment + 19 < 2 ^ 32

-- the body with this key and comment, under a check number
unfoldable pub body_bytes : ℕ → KeyFile → List ℕ
body_bytes check file = body_with file.key.blob (in_blocks (private_fields check file))
