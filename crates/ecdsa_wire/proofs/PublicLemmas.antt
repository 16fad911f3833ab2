-- Lemmas on public keys: a pair's is the one that the blob is read with by itself.
use Rattle.std.proofs.Common.{◌≡◌, ℕ, List, Some, Ok, refl, ap, subst, ◌∙◌}
use Rattle.ecdsa_wire.specs.declared.names.Curve.{Curve}
use Rattle.ecdsa_wire.specs.declared.names.KeyType.TheVariants.{Plain, Certified}
use Rattle.ecdsa_wire.specs.Names.{certified_name, plain_name, type_named}
use Rattle.ecdsa_wire.specs.Reading.{KeyPair, certified_pair, certified_point_at, pair_in, pair_public, plain_pair, plain_point_at, plain_secret_at, public_in, secret_at}
use Rattle.key_wire.specs.Fields.{known_at}
use Rattle.wire_core.specs.Fields.{string_at}
use Rattle.wire_core.proofs.ReadingLemmas.{bind_ok}

-- of a plain pair
plain_public : (curve : Curve) (private rest : List ℕ) (pair : KeyPair) → plain_pair curve private rest ≡ Ok pair
    → (plain_point_at curve rest ≡ Ok pair.point) × (curve ≡ pair.curve)
unfolding plain_pair
plain_public curve private rest pair read =
    let a = bind_ok (plain_point_at curve rest) _ pair read in
    let b = bind_ok (known_at (plain_name curve) private) _ pair a.2 in
    let c = bind_ok (plain_secret_at curve a.0 b.0) _ pair b.2 in
    let made : KeyPair = record { curve = curve; point = a.0; secret = c.0 } in
    let same : made ≡ pair = cc (c.2) in
    (a.1 ∙ ap (λ (p : KeyPair). Ok p.point) same, ap (λ (p : KeyPair). p.curve) same)

-- of a certified pair
certified_public : (curve : Curve) (private whole rest : List ℕ) (pair : KeyPair) → certified_pair curve private whole rest ≡ Ok pair
    → (behind : List ℕ) × (certified_point_at pair.curve rest ≡ Ok (pair.point, behind))
unfolding certified_pair
certified_public curve private whole rest pair read =
    let a = bind_ok (certified_point_at curve rest) _ pair read in
    let b = bind_ok (known_at (certified_name curve) private) _ pair a.2 in
    let c = bind_ok (known_at whole b.0) _ pair b.2 in
    let d = bind_ok (secret_at c.0) _ pair c.2 in
    let made : KeyPair = record { curve = curve; point = a.0.0; secret = d.0 } in
    let same : made ≡ pair = cc (d.2) in
    (a.0.1, subst (λ (p : KeyPair). certified_point_at p.curve rest ≡ Ok (p.point, a.0.1)) same a.1)

-- a plain pair's public key is the blob's
pub plain_is_the_blobs : (private blob : List ℕ) (name : List ℕ × List ℕ) (curve : Curve) (pair : KeyPair)
    → string_at blob ≡ Some name → type_named name.0 ≡ Some (Plain curve) → pair_in private blob ≡ Ok pair
    → public_in blob ≡ Ok (pair_public pair)
unfolding pair_in public_in
plain_is_the_blobs private blob name curve pair there is read =
    let plain : plain_pair curve private name.1 ≡ Ok pair = rw (there, is) at read in
    let public = plain_public curve private name.1 pair plain in
    rw (there, is, public.0, public.1) refl

-- a certified pair's public key is the certificate's
pub certified_is_the_blobs : (private blob : List ℕ) (name : List ℕ × List ℕ) (curve : Curve) (pair : KeyPair)
    → string_at blob ≡ Some name → type_named name.0 ≡ Some (Certified curve) → pair_in private blob ≡ Ok pair
    → (behind : List ℕ) × (certified_point_at pair.curve name.1 ≡ Ok (pair.point, behind))
unfolding pair_in
certified_is_the_blobs private blob name curve pair there is read =
    let certified : certified_pair curve private blob name.1 ≡ Ok pair = rw (there, is) at read in
    certified_public curve private blob name.1 pair certified
