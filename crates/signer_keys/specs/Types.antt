-- The types of the keys that are known here, by the names that blobs and private strings begin with.
use Rattle.std.specs.Prelude.{ℕ, Bool, if◌then◌else◌, List, Option, Some, None}
use Rattle.std.specs.Option.{is_some, option_or}
use Rattle.ecdsa_wire.specs.declared.names.Curve.TheVariants.{P256, P384, P521}
use Rattle.ecdsa_wire.specs.declared.names.KeyType.{KeyType as EcdsaType}
use Rattle.ecdsa_wire.specs.declared.names.KeyType.TheVariants as ecdsa
use Rattle.ecdsa_wire.specs.Names.{type_of as ecdsa_type_of}
use Rattle.ed25519_wire.specs.Names.{is_certified_name, is_plain_name}
use Rattle.rsa_wire.specs.declared.names.KeyType.{KeyType as RsaType}
use Rattle.rsa_wire.specs.declared.names.KeyType.TheVariants as rsa
use Rattle.rsa_wire.specs.Names.{type_of as rsa_type_of}
use Rattle.signer_keys.specs.declared.types.Kind.{Kind}
use Rattle.signer_keys.specs.declared.types.Kind.TheVariants.{Ed25519, EcdsaP256, EcdsaP384, EcdsaP521, Rsa}
use Rattle.signer_keys.specs.declared.types.KeyType.{KeyType}
use Rattle.signer_keys.specs.declared.types.KeyType.TheVariants.{Plain, Certified}
use Rattle.wire_core.specs.Fields.{string_at}

-- an Ed25519 key, by the name that was read
abbrev pub ed25519_type : Option (List ℕ × List ℕ) → Option KeyType
ed25519_type (Some name) =
    if is_plain_name name.0 then Some (Plain Ed25519)
    else if is_certified_name name.0 then Some (Certified Ed25519)
    else None
ed25519_type None = None

-- an ECDSA key over P-256, P-384 or P-521
abbrev pub ecdsa_type : Option EcdsaType → Option KeyType
ecdsa_type (Some (ecdsa.Plain P256)) = Some (Plain EcdsaP256)
ecdsa_type (Some (ecdsa.Plain P384)) = Some (Plain EcdsaP384)
ecdsa_type (Some (ecdsa.Plain P521)) = Some (Plain EcdsaP521)
ecdsa_type (Some (ecdsa.Certified P256)) = Some (Certified EcdsaP256)
ecdsa_type (Some (ecdsa.Certified P384)) = Some (Certified EcdsaP384)
ecdsa_type (Some (ecdsa.Certified P521)) = Some (Certified EcdsaP521)
ecdsa_type None = None

-- an RSA key
abbrev pub rsa_type : Option RsaType → Option KeyType
rsa_type (Some rsa.Plain) = Some (Plain Rsa)
rsa_type (Some rsa.Certified) = Some (Certified Rsa)
rsa_type None = None

-- the type that a blob or a private string begins with, where it is one of ours
unfoldable pub type_of : List ℕ → Option KeyType
type_of bytes =
    option_or (ed25519_type (string_at bytes)) (option_or (ecdsa_type (ecdsa_type_of bytes)) (rsa_type (rsa_type_of bytes)))

-- it is one
abbrev pub is_known : List ℕ → Bool
is_known bytes = is_some (type_of bytes)

-- the algorithm of a key, by itself or in a certificate
abbrev pub kind_of : KeyType → Kind
kind_of (Plain kind) = kind
kind_of (Certified kind) = kind
