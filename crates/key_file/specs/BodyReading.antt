-- What the body of a private key's file is, field by field: the key and its comment, or the first
-- fault.
use Rattle.std.specs.Prelude.{◌≡◌, ◌==◌, ℕ, ◌%◌, ◌⊎◌, List, [], ◌∷◌, length, take, drop, Result, Ok, Err, MatchResult, if◌then◌else◌}
use Rattle.std.specs.Option.{ok_or}
use Rattle.std.specs.Str.{bytes_eq}
use Rattle.wire_core.specs.Fields.{string_at, uint32_at}
use Rattle.key_blob.specs.declared.fault.KeyFault.{KeyFault}
use Rattle.key_file.specs.declared.fault.KeyFileFault.{KeyFileFault}
use Rattle.key_file.specs.declared.fault.KeyFileFault.TheVariants.{Base64, Magic, Short, Cipher, Count, Block, Check, Padding, OtherKey, Trailing, Memory}
use Rattle.key_file.specs.declared.private_part.KeyFile.{KeyFile}
use Rattle.key_file.specs.Base64.{bytes_of, without_blanks}
use Rattle.key_file.specs.Bodies.{magic, none, padding}
use Rattle.key_file.specs.Faults.{body_fault}
use Rattle.key_file.specs.PlainKeys.{plain_key_at}

infixl 10 ◌>>=◌
-- the first fault, or what the second reading gives for the value of the first
abbrev pub ◌>>=◌ : {A B : Type 0} → Result A KeyFileFault → (A → Result B KeyFileFault)
    → Result B KeyFileFault
(Ok x) >>= f = f x
(Err fault) >>= f = Err fault

-- ---- single fields

-- a string and the bytes that follow
abbrev pub text_at : List ℕ → Result (List ℕ × List ℕ) KeyFileFault
text_at bytes = ok_or (string_at bytes) Short

-- a uint32 and the bytes that follow
abbrev pub u32_at : List ℕ → Result (ℕ × List ℕ) KeyFileFault
u32_at bytes = ok_or (uint32_at bytes) Short

-- the bytes behind the magic
unfoldable pub after_magic : List ℕ → Result (List ℕ) KeyFileFault
after_magic bytes =
    if bytes_eq (take (length magic) bytes) magic then Ok (drop (length magic) bytes) else Err Magic

-- the bytes behind this string, without which the body is encrypted
unfoldable pub after_text : List ℕ → List ℕ → Result (List ℕ) KeyFileFault
after_text wanted bytes =
    text_at bytes >>= λ text. if bytes_eq text.0 wanted then Ok text.1 else Err Cipher

-- the bytes behind the number of keys
unfoldable pub after_count : List ℕ → Result (List ℕ) KeyFileFault
after_count bytes = u32_at bytes >>= λ count. if count.0 == 1 then Ok count.1 else Err Count

-- the private part, in whole blocks of 8 bytes, and the bytes that follow
unfoldable pub blocks_at : List ℕ → Result (List ℕ × List ℕ) KeyFileFault
blocks_at bytes =
    text_at bytes >>= λ part. if length part.0 % 8 == 0 then Ok part else Err Block

-- the bytes behind the two check numbers
unfoldable pub after_checks : List ℕ → Result (List ℕ) KeyFileFault
after_checks bytes = do
  first ← u32_at bytes
  second ← u32_at first.1
  if first.0 == second.0 then Ok second.1 else Err Check

-- a key's reading, with its fault as the body's
abbrev pub in_body : {A : Type 0} → Result A KeyFault → Result A KeyFileFault
in_body (Ok x) = Ok x
in_body (Err fault) = Err (body_fault fault)

-- ---- the whole

-- the value, where only padding follows
abbrev pub padded : KeyFile → List ℕ → Result KeyFile KeyFileFault
padded file rest = if bytes_eq (take (length rest) padding) rest then Ok file else Err Padding

-- the key and the comment of a private part
unfoldable pub private_of : List ℕ → Result KeyFile KeyFileFault
private_of bytes = do
  after_check ← after_checks bytes
  key ← in_body (plain_key_at after_check)
  comment ← text_at key.1
  padded record { key = key.0; comment = comment.0 } comment.1

-- nothing follows
abbrev pub ended : List ℕ → Result (Unit {0}) KeyFileFault
ended [] = Ok tt
ended (byte ∷ rest) = Err Trailing

-- the file, where its key has this blob
abbrev pub of_blob : List ℕ → KeyFile → Result KeyFile KeyFileFault
of_blob blob file = if bytes_eq file.key.blob blob then Ok file else Err OtherKey

-- the key and the comment of a body
unfoldable pub body_of : List ℕ → Result KeyFile KeyFileFault
body_of bytes = do
  cipher ← after_magic bytes
  derivation ← after_text none cipher
  options ← after_text none derivation
  count ← after_text [] options
  public ← after_count count
  blob ← text_at public
  part ← blocks_at blob.1
  end ← ended part.1
  file ← private_of part.0
  of_blob blob.0 file

-- the key and the comment of a body in base64
unfoldable pub encoded_file : List ℕ → Result KeyFile KeyFileFault
encoded_file text = ok_or (bytes_of text) Base64 >>= body_of

-- the key and the comment of a text, or the first fault from left to right
abbrev pub file_of : List ℕ → Result KeyFile KeyFileFault
file_of text = encoded_file (without_blanks text)

-- the code's answer is that of the definition, or memory ran out
abbrev pub IsAnswer : Result KeyFile KeyFileFault → Result KeyFile KeyFileFault → Type 0
IsAnswer result defined = MatchResult result (λ file. defined ≡ Ok file)
    (λ fault. (fault ≡ Memory) ⊎ (defined ≡ Err fault))
