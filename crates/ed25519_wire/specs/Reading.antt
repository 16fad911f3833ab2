-- Ed25519 keys and signatures as SSH carries them, read field by field: what is read, or that something doesn't fit.
-- RFC 8709, sections 4 and 6; draft-miller-ssh-agent, "Adding keys to the agent"; OpenSSH's PROTOCOL.certkeys.
use Rattle.std.specs.Prelude.{ℕ, if◌then◌else◌, List, take, drop, Option, Result, Ok, Err}
use Rattle.std.specs.Str.{bytes_eq}
use Rattle.ed25519_wire.specs.declared.pair.Pair.{Pair}
use Rattle.key_wire.specs.declared.fault.KeyFault.{KeyFault}
use Rattle.key_wire.specs.declared.fault.KeyFault.TheVariants.{Unfit}
use Rattle.key_wire.specs.Fields.{ended, sized_at}
use Rattle.ed25519_wire.specs.Names.{is_certified_name, is_plain_name}
use Rattle.wire_core.specs.Fields.{string_at}
use Rattle.wire_core.specs.Readings.{field_or, ◌>>=◌}

-- the field at the front, and what the bytes behind it are
abbrev pub field_then : {A R : Type 0} → Option (A × List ℕ) → (A → List ℕ → Result R KeyFault) → Result R KeyFault
field_then at later = field_or Unfit at later

-- ---- blobs

-- the public key behind a plain type's name
unfoldable pub plain_key_at : List ℕ → Result (List ℕ) KeyFault
plain_key_at bytes = sized_at 32 bytes >>= λ key. ended key.0 key.1

-- the public key of a certificate behind its type's name and the nonce, and what follows the key
unfoldable pub certified_key_at : List ℕ → Result (List ℕ × List ℕ) KeyFault
certified_key_at bytes = field_then (string_at bytes) (λ nonce more. sized_at 32 more)

-- the public key of an authority, whose blob is that of a plain key
unfoldable pub authority_key : List ℕ → Result (List ℕ) KeyFault
authority_key blob = field_then (string_at blob) (λ name rest.
    if is_plain_name name then plain_key_at rest else Err Unfit)

-- ---- private strings

-- the seed, in a string of the seed and the public key, to which nothing follows
unfoldable pub seed_at : List ℕ → List ℕ → Result (List ℕ) KeyFault
seed_at public bytes = do
  secret ← sized_at 64 bytes
  seed ← (if bytes_eq (drop 32 secret.0) public then Ok (take 32 secret.0) else Err Unfit)
  ended seed secret.1

-- the seed behind the public key
unfoldable pub pair_at : List ℕ → List ℕ → Result (List ℕ) KeyFault
pair_at public bytes =
    field_then (string_at bytes) (λ text more. if bytes_eq text public then seed_at public more else Err Unfit)

-- a seed and the public key that stands beside it
pub record KeyPair : Type 0 where
  pub seed : List ℕ
  pub public : List ℕ

-- the pair that the code's value lends
abbrev pub plain_pair_of : Pair → KeyPair
plain_pair_of pair = record { seed = pair.seed.now; public = pair.public.now }

-- the pair of a public key and a seed
abbrev pub pair_of : List ℕ → List ℕ → KeyPair
pair_of public seed = record { seed = seed; public = public }

-- the pair of a private string of the plain type, which has this blob behind the type's name
unfoldable pub plain_pair : List ℕ → List ℕ → Result KeyPair KeyFault
plain_pair private blob = do
  public ← plain_key_at blob
  field_then (string_at private) (λ name more.
      if is_plain_name name then pair_at public more >>= (λ seed. Ok (pair_of public seed)) else Err Unfit)

-- the certificate is this one, and then the seed behind the public key
unfoldable pub behind_certificate : List ℕ → List ℕ → List ℕ → Result (List ℕ) KeyFault
behind_certificate whole public bytes =
    field_then (string_at bytes) (λ text more. if bytes_eq text whole then pair_at public more else Err Unfit)

-- the pair of a private string of the certified type, whose certificate is this blob, given whole and behind its type's name
unfoldable pub certified_pair : List ℕ → List ℕ → List ℕ → Result KeyPair KeyFault
certified_pair private whole blob = do
  public ← certified_key_at blob
  field_then (string_at private) (λ name more.
      if is_certified_name name then behind_certificate whole public.0 more >>= (λ seed. Ok (pair_of public.0 seed)) else Err Unfit)

-- the pair of a private string that has this blob
unfoldable pub pair_in : List ℕ → List ℕ → Result KeyPair KeyFault
pair_in private blob = field_then (string_at blob) (λ name rest.
    if is_plain_name name then plain_pair private rest
    else if is_certified_name name then certified_pair private blob rest else Err Unfit)

-- ---- signatures

-- the 64 bytes of a signature
unfoldable pub signature_in : List ℕ → Result (List ℕ) KeyFault
signature_in signature = field_then (string_at signature) (λ name more.
    if is_plain_name name then sized_at 64 more >>= (λ bytes. ended bytes.0 bytes.1) else Err Unfit)
