-- What a message has a key sign for a file, field by field: the fields, or the first fault.
use Rattle.std.specs.Prelude.{◌==◌, ℕ, List, [], ◌∷◌, length, take, drop, Option, Some, None, Result, Ok, Err, codes, if◌then◌else◌}
use Rattle.std.specs.Option.{ok_or}
use Rattle.std.specs.Str.{bytes_eq}
use Rattle.wire_core.specs.Fields.{string_at}
use Rattle.wire_core.specs.Readings.{◌>>=◌, ended_or}
use Rattle.sshsig_blob.specs.declared.fault.SshsigFault.{SshsigFault}
use Rattle.sshsig_blob.specs.declared.fault.SshsigFault.TheVariants.{Preamble, Short, EmptyNamespace, HashAlgorithm, Digest, Trailing}
use Rattle.sshsig_blob.specs.FileSignatures.{Signing, preamble}

-- ---- single fields: each gives the bytes that follow it

-- the six letters in front
unfoldable pub after_preamble : List ℕ → Result (List ℕ) SshsigFault
after_preamble message =
    if bytes_eq (take 6 message) preamble then Ok (drop 6 message) else Err Preamble

-- a string
abbrev pub text_at : List ℕ → Result (List ℕ × List ℕ) SshsigFault
text_at bytes = ok_or (string_at bytes) Short

-- a namespace, which isn't empty
abbrev pub if_some : List ℕ → List ℕ → Result (List ℕ × List ℕ) SshsigFault
if_some [] rest = Err EmptyNamespace
if_some (byte ∷ namespace) rest = Ok (byte ∷ namespace, rest)

-- the namespace
unfoldable pub namespace_at : List ℕ → Result (List ℕ × List ℕ) SshsigFault
namespace_at bytes = text_at bytes >>= λ text. if_some text.0 text.1

-- how many bytes a digest by the hash algorithm of this name has
unfoldable pub digest_len : List ℕ → Option ℕ
digest_len algorithm =
    if bytes_eq algorithm (codes "sha256") then Some 32
    else if bytes_eq algorithm (codes "sha512") then Some 64
    else None

-- the hash algorithm: its name, and how many bytes its digests have
unfoldable pub hash_at : List ℕ → Result ((List ℕ × ℕ) × List ℕ) SshsigFault
hash_at bytes = do
  algorithm ← text_at bytes
  len ← ok_or (digest_len algorithm.0) HashAlgorithm
  Ok ((algorithm.0, len), algorithm.1)

-- a digest that was read has this length
abbrev pub if_long : ℕ → List ℕ × List ℕ → Result (List ℕ × List ℕ) SshsigFault
if_long len text = if length text.0 == len then Ok text else Err Digest

-- a digest of this length
unfoldable pub digest_at : ℕ → List ℕ → Result (List ℕ × List ℕ) SshsigFault
digest_at len bytes = text_at bytes >>= if_long len

-- ---- the whole

-- the fields that the message has a key sign for a file, or the first fault from left to right
unfoldable pub signing_of : List ℕ → Result Signing SshsigFault
signing_of message = do
  fields ← after_preamble message
  namespace ← namespace_at fields
  reserved ← text_at namespace.1
  hash ← hash_at reserved.1
  digest ← digest_at hash.0.1 hash.1
  ended_or Trailing record {
    namespace = namespace.0;
    reserved = reserved.0;
    hash_algorithm = hash.0.0;
    digest = digest.0;
  } digest.1
