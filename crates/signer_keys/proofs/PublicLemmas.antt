-- Lemmas on the public keys of blobs: the one that signs is the one that verifies.
use Rattle.std.proofs.Common.{◌≡◌, ℕ, true, List, Option, Some, Result, Ok, Err, refl, sym, ap, ◌∙◌}
use Rattle.ecdsa_wire.specs.declared.names.Curve.{Curve}
use Rattle.ecdsa_wire.specs.declared.names.Curve.TheVariants.{P256, P384, P521}
use Rattle.ecdsa_wire.specs.Reading.{KeyPair as EcdsaPair, certified_point_at, pair_in as ecdsa_pair_in}
use Rattle.ecdsa_wire.proofs.PublicLemmas.{certified_is_the_blobs as ecdsa_certified, plain_is_the_blobs as ecdsa_plain}
use Rattle.ed25519_wire.specs.Reading.{KeyPair as Ed25519Pair, pair_in as ed25519_pair_in}
use Rattle.ed25519_wire.proofs.PublicLemmas.{certified_is_the_blobs as ed25519_certified, plain_is_the_blobs as ed25519_plain}
use Rattle.key_wire.specs.Numbers.{IsMagnitude}
use Rattle.rsa_wire.specs.Reading.{KeyPair as RsaPair, pair_in as rsa_pair_in}
use Rattle.rsa_wire.proofs.PublicLemmas.{certified_is_the_blobs as rsa_certified, certified_modulus, plain_is_the_blobs as rsa_plain, plain_modulus}
use Rattle.signer_keys.specs.declared.types.Kind.TheVariants as kind
use Rattle.signer_keys.specs.declared.types.KeyType.TheVariants.{Plain, Certified}
use Rattle.signer_keys.specs.Ecdsa.{p256_point, p384_point, p521_point}
use Rattle.signer_keys.specs.Laws.{public_typed}
use Rattle.signer_keys.specs.Verifying.{EcdsaP256, EcdsaP384, EcdsaP521, Ed25519, Rsa, certified_public, certified_public_behind, plain_public}
use Rattle.signer_keys.proofs.TypeLemmas.{IsTyped}
use Rattle.wire_core.specs.Fields.{string_at}

-- ---- Ed25519

pub ed25519-plain : (private blob : List ℕ) (pair : Ed25519Pair) → IsTyped (Plain kind.Ed25519) (string_at blob)
    → ed25519_pair_in private blob ≡ Ok pair → public_typed (Some (Plain kind.Ed25519)) blob ≡ Ok (Ed25519 pair.public)
unfolding plain_public
ed25519-plain private blob pair typed read = rw (ed25519_plain private blob typed.name pair typed.there typed.is read) refl

pub ed25519-certified : (private blob : List ℕ) (pair : Ed25519Pair) → IsTyped (Certified kind.Ed25519) (string_at blob)
    → ed25519_pair_in private blob ≡ Ok pair → public_typed (Some (Certified kind.Ed25519)) blob ≡ Ok (Ed25519 pair.public)
unfolding certified_public certified_public_behind
ed25519-certified private blob pair typed read =
    let key = ed25519_certified private blob typed.name pair typed.there typed.is read in
    rw (typed.there, key.1) refl

-- ---- P-256

p256-point : (curve : Curve) (point given : List ℕ) → p256_point curve point ≡ Ok given → (curve ≡ P256) × (point ≡ given)
p256-point P256 point given is = (refl, cc is)
p256-point P384 point given is = absurd cc
p256-point P521 point given is = absurd cc

pub p256-plain : (private blob point : List ℕ) (pair : EcdsaPair) → IsTyped (Plain kind.EcdsaP256) (string_at blob)
    → ecdsa_pair_in private blob ≡ Ok pair → p256_point pair.curve pair.point ≡ Ok point
    → public_typed (Some (Plain kind.EcdsaP256)) blob ≡ Ok (EcdsaP256 point)
unfolding plain_public
p256-plain private blob point pair typed read is =
    rw (ecdsa_plain private blob typed.name P256 pair typed.there typed.is read, is) refl

pub p256-certified : (private blob point : List ℕ) (pair : EcdsaPair) → IsTyped (Certified kind.EcdsaP256) (string_at blob)
    → ecdsa_pair_in private blob ≡ Ok pair → p256_point pair.curve pair.point ≡ Ok point
    → public_typed (Some (Certified kind.EcdsaP256)) blob ≡ Ok (EcdsaP256 point)
unfolding certified_public certified_public_behind
p256-certified private blob point pair typed read is =
    let key = ecdsa_certified private blob typed.name P256 pair typed.there typed.is read in
    let point_is = p256-point pair.curve pair.point point is in
    let at : certified_point_at P256 typed.name.1 ≡ Ok (pair.point, key.0) =
    ap (λ (c : Curve). certified_point_at c typed.name.1) (sym point_is.0) ∙ key.1 in
    rw (typed.there, at, point_is.1) refl

-- ---- P-384

p384-point : (curve : Curve) (point given : List ℕ) → p384_point curve point ≡ Ok given → (curve ≡ P384) × (point ≡ given)
p384-point P256 point given is = absurd cc
p384-point P384 point given is = (refl, cc is)
p384-point P521 point given is = absurd cc

pub p384-plain : (private blob point : List ℕ) (pair : EcdsaPair) → IsTyped (Plain kind.EcdsaP384) (string_at blob)
    → ecdsa_pair_in private blob ≡ Ok pair → p384_point pair.curve pair.point ≡ Ok point
    → public_typed (Some (Plain kind.EcdsaP384)) blob ≡ Ok (EcdsaP384 point)
unfolding plain_public
p384-plain private blob point pair typed read is =
    rw (ecdsa_plain private blob typed.name P384 pair typed.there typed.is read, is) refl

pub p384-certified : (private blob point : List ℕ) (pair : EcdsaPair) → IsTyped (Certified kind.EcdsaP384) (string_at blob)
    → ecdsa_pair_in private blob ≡ Ok pair → p384_point pair.curve pair.point ≡ Ok point
    → public_typed (Some (Certified kind.EcdsaP384)) blob ≡ Ok (EcdsaP384 point)
unfolding certified_public certified_public_behind
p384-certified private blob point pair typed read is =
    let key = ecdsa_certified private blob typed.name P384 pair typed.there typed.is read in
    let point_is = p384-point pair.curve pair.point point is in
    let at : certified_point_at P384 typed.name.1 ≡ Ok (pair.point, key.0) =
    ap (λ (c : Curve). certified_point_at c typed.name.1) (sym point_is.0) ∙ key.1 in
    rw (typed.there, at, point_is.1) refl

-- ---- P-521

p521-point : (curve : Curve) (point given : List ℕ) → p521_point curve point ≡ Ok given → (curve ≡ P521) × (point ≡ given)
p521-point P256 point given is = absurd cc
p521-point P384 point given is = absurd cc
p521-point P521 point given is = (refl, cc is)

pub p521-plain : (private blob point : List ℕ) (pair : EcdsaPair) → IsTyped (Plain kind.EcdsaP521) (string_at blob)
    → ecdsa_pair_in private blob ≡ Ok pair → p521_point pair.curve pair.point ≡ Ok point
    → public_typed (Some (Plain kind.EcdsaP521)) blob ≡ Ok (EcdsaP521 point)
unfolding plain_public
p521-plain private blob point pair typed read is =
    rw (ecdsa_plain private blob typed.name P521 pair typed.there typed.is read, is) refl

pub p521-certified : (private blob point : List ℕ) (pair : EcdsaPair) → IsTyped (Certified kind.EcdsaP521) (string_at blob)
    → ecdsa_pair_in private blob ≡ Ok pair → p521_point pair.curve pair.point ≡ Ok point
    → public_typed (Some (Certified kind.EcdsaP521)) blob ≡ Ok (EcdsaP521 point)
unfolding certified_public certified_public_behind
p521-certified private blob point pair typed read is =
    let key = ecdsa_certified private blob typed.name P521 pair typed.there typed.is read in
    let point_is = p521-point pair.curve pair.point point is in
    let at : certified_point_at P521 typed.name.1 ≡ Ok (pair.point, key.0) =
    ap (λ (c : Curve). certified_point_at c typed.name.1) (sym point_is.0) ∙ key.1 in
    rw (typed.there, at, point_is.1) refl

-- ---- RSA

pub rsa-plain : (private blob : List ℕ) (pair : RsaPair) → IsTyped (Plain kind.Rsa) (string_at blob)
    → rsa_pair_in private blob ≡ Ok pair
    → (public_typed (Some (Plain kind.Rsa)) blob ≡ Ok (Rsa pair.public)) × IsMagnitude pair.public.n
unfolding plain_public
rsa-plain private blob pair typed read =
    let key = rsa_plain private blob typed.name pair typed.there typed.is read in
    (rw key refl, plain_modulus blob pair.public key)

pub rsa-certified : (private blob : List ℕ) (pair : RsaPair) → IsTyped (Certified kind.Rsa) (string_at blob)
    → rsa_pair_in private blob ≡ Ok pair
    → (public_typed (Some (Certified kind.Rsa)) blob ≡ Ok (Rsa pair.public)) × IsMagnitude pair.public.n
unfolding certified_public certified_public_behind
rsa-certified private blob pair typed read =
    let key = rsa_certified private blob typed.name pair typed.there typed.is read in
    (rw (typed.there, key.1) refl, certified_modulus typed.name.1 (pair.public, key.0) key.1)
