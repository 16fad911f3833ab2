-- The names of the types of ECDSA keys and of their curves: RFC 5656, sections 3.1 and 10.1, and OpenSSH's
-- PROTOCOL.certkeys.
use Rattle.std.specs.Prelude.{ℕ, if◌then◌else◌, List, Option, Some, None, codes}
use Rattle.std.specs.Str.{bytes_eq}
use Rattle.ecdsa_wire.specs.declared.names.Curve.{Curve}
use Rattle.ecdsa_wire.specs.declared.names.Curve.TheVariants.{P256, P384, P521}
use Rattle.ecdsa_wire.specs.declared.names.KeyType.{KeyType}
use Rattle.ecdsa_wire.specs.declared.names.KeyType.TheVariants.{Plain, Certified}
use Rattle.wire_core.specs.Fields.{string_at}

-- a curve's name
abbrev pub curve_name : Curve → List ℕ
curve_name P256 = codes "nistp256"
curve_name P384 = codes "nistp384"
curve_name P521 = codes "nistp521"

-- the type of a key by itself, and of its signatures
abbrev pub plain_name : Curve → List ℕ
plain_name P256 = codes "ecdsa-sha2-nistp256"
plain_name P384 = codes "ecdsa-sha2-nistp384"
plain_name P521 = codes "ecdsa-sha2-nistp521"

-- the type of a key in a certificate
abbrev pub certified_name : Curve → List ℕ
certified_name P256 = codes "ecdsa-sha2-nistp256-cert-v01@openssh.com"
certified_name P384 = codes "ecdsa-sha2-nistp384-cert-v01@openssh.com"
certified_name P521 = codes "ecdsa-sha2-nistp521-cert-v01@openssh.com"

-- how many bytes a point takes, with the byte in front that says its form: SEC 1, section 2.3.3, without compression
abbrev pub point_len : Curve → ℕ
point_len P256 = 65
point_len P384 = 97
point_len P521 = 133

-- the curve of a name, by the names of all three
abbrev pub curve_by : (Curve → List ℕ) → List ℕ → Option Curve
curve_by names name =
    if bytes_eq name (names P256) then Some P256
    else if bytes_eq name (names P384) then Some P384
    else if bytes_eq name (names P521) then Some P521
    else None

-- a plain type, or else a certified one
abbrev pub either_type : Option Curve → Option Curve → Option KeyType
either_type (Some curve) certified = Some (Plain curve)
either_type None (Some curve) = Some (Certified curve)
either_type None None = None

-- the type of a name
unfoldable pub type_named : List ℕ → Option KeyType
type_named name = either_type (curve_by plain_name name) (curve_by certified_name name)

-- the type whose name was read
abbrev pub type_read : Option (List ℕ × List ℕ) → Option KeyType
type_read (Some name) = type_named name.0
type_read None = None

-- the type that a blob or a private string begins with
unfoldable pub type_of : List ℕ → Option KeyType
type_of bytes = type_read (string_at bytes)
