-- The names of the types of RSA keys and of their signatures: RFC 4253, section 6.6; RFC 8332, section 3; OpenSSH's
-- PROTOCOL.certkeys.
use Rattle.std.specs.Prelude.{ℕ, if◌then◌else◌, List, Option, Some, None, codes}
use Rattle.std.specs.Str.{bytes_eq}
use Rattle.rsa_wire.specs.declared.names.KeyType.{KeyType}
use Rattle.rsa_wire.specs.declared.names.KeyType.TheVariants.{Plain, Certified}
use Rattle.rsa_wire.specs.declared.names.Algorithm.{Algorithm}
use Rattle.rsa_wire.specs.declared.names.Algorithm.TheVariants.{Sha1, Sha256, Sha512}
use Rattle.wire_core.specs.Fields.{string_at}

-- the type of a key: by itself, or in a certificate
abbrev pub type_name : KeyType → List ℕ
type_name Plain = codes "ssh-rsa"
type_name Certified = codes "ssh-rsa-cert-v01@openssh.com"

-- the algorithm of a signature, by its hash
abbrev pub algorithm_name : Algorithm → List ℕ
algorithm_name Sha1 = codes "ssh-rsa"
algorithm_name Sha256 = codes "rsa-sha2-256"
algorithm_name Sha512 = codes "rsa-sha2-512"

-- the type of a name
unfoldable pub type_named : List ℕ → Option KeyType
type_named name =
    if bytes_eq name (type_name Plain) then Some Plain
    else if bytes_eq name (type_name Certified) then Some Certified
    else None

-- the algorithm of a name
unfoldable pub algorithm_named : List ℕ → Option Algorithm
algorithm_named name =
    if bytes_eq name (algorithm_name Sha1) then Some Sha1
    else if bytes_eq name (algorithm_name Sha256) then Some Sha256
    else if bytes_eq name (algorithm_name Sha512) then Some Sha512
    else None

-- the type whose name was read
abbrev pub type_read : Option (List ℕ × List ℕ) → Option KeyType
type_read (Some name) = type_named name.0
type_read None = None

-- the type that a blob or a private string begins with
unfoldable pub type_of : List ℕ → Option KeyType
type_of bytes = type_read (string_at bytes)
