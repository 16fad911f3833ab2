-- Lemmas on specs/Types.antt: how a blob of a type begins.
use Rattle.std.proofs.Common.{◌≡◌, ℕ, Bool, true, false, if◌then◌else◌, List, Option, Some, None, refl, subst}
use Rattle.std.specs.Option.{option_or}
use Rattle.ecdsa_wire.specs.declared.names.Curve.TheVariants.{P256, P384, P521}
use Rattle.ecdsa_wire.specs.declared.names.KeyType.{KeyType as EcdsaType}
use Rattle.ecdsa_wire.specs.declared.names.KeyType.TheVariants as ecdsa
use Rattle.ecdsa_wire.specs.Names.{type_named as ecdsa_named, type_of as ecdsa_type_of, type_read as ecdsa_read}
use Rattle.ed25519_wire.specs.Names.{is_certified_name, is_plain_name}
use Rattle.rsa_wire.specs.declared.names.KeyType.{KeyType as RsaType}
use Rattle.rsa_wire.specs.declared.names.KeyType.TheVariants as rsa
use Rattle.rsa_wire.specs.Names.{type_named as rsa_named, type_of as rsa_type_of, type_read as rsa_read}
use Rattle.signer_keys.specs.declared.types.Kind.TheVariants.{Ed25519, EcdsaP256, EcdsaP384, EcdsaP521, Rsa}
use Rattle.signer_keys.specs.declared.types.KeyType.{KeyType}
use Rattle.signer_keys.specs.declared.types.KeyType.TheVariants.{Plain, Certified}
use Rattle.signer_keys.specs.Types.{ecdsa_type, ed25519_type, rsa_type, type_of}
use Rattle.wire_core.specs.Fields.{string_at}

-- the name that a blob of this type begins with
abbrev pub IsNameOf : KeyType → List ℕ → Type 0
IsNameOf (Plain Ed25519) name = is_plain_name name ≡ true
IsNameOf (Plain EcdsaP256) name = ecdsa_named name ≡ Some (ecdsa.Plain P256)
IsNameOf (Plain EcdsaP384) name = ecdsa_named name ≡ Some (ecdsa.Plain P384)
IsNameOf (Plain EcdsaP521) name = ecdsa_named name ≡ Some (ecdsa.Plain P521)
IsNameOf (Plain Rsa) name = rsa_named name ≡ Some rsa.Plain
IsNameOf (Certified Ed25519) name = is_certified_name name ≡ true
IsNameOf (Certified EcdsaP256) name = ecdsa_named name ≡ Some (ecdsa.Certified P256)
IsNameOf (Certified EcdsaP384) name = ecdsa_named name ≡ Some (ecdsa.Certified P384)
IsNameOf (Certified EcdsaP521) name = ecdsa_named name ≡ Some (ecdsa.Certified P521)
IsNameOf (Certified Rsa) name = rsa_named name ≡ Some rsa.Certified

by-rsa : (name : List ℕ) (found : Option RsaType) (key : KeyType) → rsa_named name ≡ found → rsa_type found ≡ Some key → IsNameOf key name
by-rsa name (Some rsa.Plain) key named is =
    let same : Plain Rsa ≡ key = cc (is) in
    subst (λ (k : KeyType). IsNameOf k name) same named
by-rsa name (Some rsa.Certified) key named is =
    let same : Certified Rsa ≡ key = cc (is) in
    subst (λ (k : KeyType). IsNameOf k name) same named
by-rsa name None key named is = absurd cc

by-ecdsa : (name : List ℕ) (found : Option EcdsaType) (key : KeyType) → ecdsa_named name ≡ found
    → option_or (ecdsa_type found) (rsa_type (rsa_named name)) ≡ Some key → IsNameOf key name
by-ecdsa name (Some (ecdsa.Plain P256)) key named is =
    let same : Plain EcdsaP256 ≡ key = cc (is) in
    subst (λ (k : KeyType). IsNameOf k name) same named
by-ecdsa name (Some (ecdsa.Plain P384)) key named is =
    let same : Plain EcdsaP384 ≡ key = cc (is) in
    subst (λ (k : KeyType). IsNameOf k name) same named
by-ecdsa name (Some (ecdsa.Plain P521)) key named is =
    let same : Plain EcdsaP521 ≡ key = cc (is) in
    subst (λ (k : KeyType). IsNameOf k name) same named
by-ecdsa name (Some (ecdsa.Certified P256)) key named is =
    let same : Certified EcdsaP256 ≡ key = cc (is) in
    subst (λ (k : KeyType). IsNameOf k name) same named
by-ecdsa name (Some (ecdsa.Certified P384)) key named is =
    let same : Certified EcdsaP384 ≡ key = cc (is) in
    subst (λ (k : KeyType). IsNameOf k name) same named
by-ecdsa name (Some (ecdsa.Certified P521)) key named is =
    let same : Certified EcdsaP521 ≡ key = cc (is) in
    subst (λ (k : KeyType). IsNameOf k name) same named
by-ecdsa name None key named is = by-rsa name (rsa_named name) key refl is

by-name : (name : List ℕ) (plain certified : Bool) (key : KeyType) → is_plain_name name ≡ plain → is_certified_name name ≡ certified
    → option_or (if plain then Some (Plain Ed25519) else if certified then Some (Certified Ed25519) else None)
    (option_or (ecdsa_type (ecdsa_named name)) (rsa_type (rsa_named name))) ≡ Some key
    → IsNameOf key name
by-name name true certified key plain_is certified_is is =
    let same : Plain Ed25519 ≡ key = cc (is) in
    subst (λ (k : KeyType). IsNameOf k name) same plain_is
by-name name false true key plain_is certified_is is =
    let same : Certified Ed25519 ≡ key = cc (is) in
    subst (λ (k : KeyType). IsNameOf k name) same certified_is
by-name name false false key plain_is certified_is is = by-ecdsa name (ecdsa_named name) key refl is

-- a blob of a type begins with its name
pub record IsTyped (key : KeyType) (read : Option (List ℕ × List ℕ)) : Type 0 where
  pub name : List ℕ × List ℕ
  pub there : read ≡ Some name
  pub is : IsNameOf key name.0

typed-read : (read : Option (List ℕ × List ℕ)) (key : KeyType)
    → option_or (ed25519_type read) (option_or (ecdsa_type (ecdsa_read read)) (rsa_type (rsa_read read))) ≡ Some key
    → IsTyped key read
typed-read (Some name) key is = record {
  name = name;
  there = refl;
  is = by-name name.0 (is_plain_name name.0) (is_certified_name name.0) key refl refl is;
}
typed-read None key is = absurd cc

pub typed : (blob : List ℕ) (key : KeyType) → type_of blob ≡ Some key → IsTyped key (string_at blob)
unfolding type_of ecdsa_type_of rsa_type_of
typed blob key is = typed-read (string_at blob) key is
