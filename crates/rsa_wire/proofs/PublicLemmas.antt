-- Lemmas on public keys: a pair's is the one that the blob is read with by itself.
use Rattle.std.proofs.Common.{◌≡◌, ℕ, Bool, true, false, if◌then◌else◌, List, Some, None, Ok, refl, ap, subst, ◌∙◌}
use Rattle.std.specs.Option.{ok_or}
use Rattle.std.specs.Str.{bytes_eq}
use Rattle.key_wire.specs.declared.fault.KeyFault.TheVariants.{Unfit}
use Rattle.key_wire.specs.Fields.{known_at}
use Rattle.key_wire.specs.Numbers.{IsMagnitude, magnitude}
use Rattle.key_wire.proofs.NumberLemmas.{magnitude_is}
use Rattle.rsa_wire.specs.declared.names.KeyType.TheVariants.{Plain, Certified}
use Rattle.rsa_wire.specs.Names.{type_name, type_named}
use Rattle.rsa_wire.specs.Reading.{KeyPair, PublicKey, certified_pair, certified_public_at, number_at, pair_in, plain_pair, plain_private_at, plain_public_at, private_at, public_at, public_in}
use Rattle.wire_core.specs.Fields.{string_at}
use Rattle.wire_core.proofs.ReadingLemmas.{bind_ok, ended_or_is}

-- ---- a pair's key

-- of a plain pair
plain_public : (private rest : List ℕ) (pair : KeyPair) → plain_pair private rest ≡ Ok pair → plain_public_at rest ≡ Ok pair.public
unfolding plain_pair
plain_public private rest pair read =
    let a = bind_ok (plain_public_at rest) _ pair read in
    let b = bind_ok (known_at (type_name Plain) private) _ pair a.2 in
    let c = bind_ok (plain_private_at a.0 b.0) _ pair b.2 in
    let made : KeyPair = record { public = a.0; private = c.0 } in
    let same : made ≡ pair = cc (c.2) in
    a.1 ∙ ap (λ (p : KeyPair). Ok p.public) same

-- of a certified pair
certified_public : (private whole rest : List ℕ) (pair : KeyPair) → certified_pair private whole rest ≡ Ok pair
    → (behind : List ℕ) × (certified_public_at rest ≡ Ok (pair.public, behind))
unfolding certified_pair
certified_public private whole rest pair read =
    let a = bind_ok (certified_public_at rest) _ pair read in
    let b = bind_ok (known_at (type_name Certified) private) _ pair a.2 in
    let c = bind_ok (known_at whole b.0) _ pair b.2 in
    let d = bind_ok (private_at c.0) _ pair c.2 in
    let made : KeyPair = record { public = a.0.0; private = d.0 } in
    let same : made ≡ pair = cc (d.2) in
    (a.0.1, a.1 ∙ ap (λ (p : KeyPair). Ok (p.public, a.0.1)) same)

-- the plain type was found by its name
plain_at : (plain certified : Bool) → (if plain then Some Plain else if certified then Some Certified else None) ≡ Some Plain
    → plain ≡ true
plain_at true certified is = refl
plain_at false true is = cc is
plain_at false false is = cc is

named_plain : (name : List ℕ) → type_named name ≡ Some Plain → bytes_eq name (type_name Plain) ≡ true
unfolding type_named
named_plain name is = plain_at (bytes_eq name (type_name Plain)) (bytes_eq name (type_name Certified)) is

-- a plain pair's public key is the blob's
pub plain_is_the_blobs : (private blob : List ℕ) (name : List ℕ × List ℕ) (pair : KeyPair) → string_at blob ≡ Some name
    → type_named name.0 ≡ Some Plain → pair_in private blob ≡ Ok pair → public_in blob ≡ Ok pair.public
unfolding pair_in public_in known_at
plain_is_the_blobs private blob name pair there is read =
    let plain : plain_pair private name.1 ≡ Ok pair = rw (there, is) at read in
    rw (there, named_plain name.0 is) (plain_public private name.1 pair plain)

-- a certified pair's public key is the certificate's
pub certified_is_the_blobs : (private blob : List ℕ) (name : List ℕ × List ℕ) (pair : KeyPair) → string_at blob ≡ Some name
    → type_named name.0 ≡ Some Certified → pair_in private blob ≡ Ok pair
    → (behind : List ℕ) × (certified_public_at name.1 ≡ Ok (pair.public, behind))
unfolding pair_in
certified_is_the_blobs private blob name pair there is read =
    let certified : certified_pair private blob name.1 ≡ Ok pair = rw (there, is) at read in
    certified_public private blob name.1 pair certified

-- ---- its modulus

number_magnitude : (bytes : List ℕ) (x : List ℕ × List ℕ) → number_at bytes ≡ Ok x → IsMagnitude x.0
unfolding number_at
number_magnitude bytes x read =
    let a = bind_ok (ok_or (string_at bytes) Unfit) _ x read in
    let b = bind_ok (magnitude a.0.0) _ x a.2 in
    let same : (b.0, a.0.1) ≡ x = cc (b.2) in
    subst (λ (y : List ℕ × List ℕ). IsMagnitude y.0) same (magnitude_is a.0.0 b.0 b.1).0

modulus_at : (bytes : List ℕ) (x : PublicKey × List ℕ) → public_at bytes ≡ Ok x → IsMagnitude x.0.n
unfolding public_at
modulus_at bytes x read =
    let e = bind_ok (number_at bytes) _ x read in
    let n = bind_ok (number_at e.0.1) _ x e.2 in
    let made : PublicKey × List ℕ = (record { e = e.0.0; n = n.0.0 }, n.0.1) in
    let same : made ≡ x = cc (n.2) in
    subst (λ (y : PublicKey × List ℕ). IsMagnitude y.0.n) same (number_magnitude e.0.1 n.0 n.1)

-- no zero stands in front of the modulus of a key that was read
pub plain_modulus : (blob : List ℕ) (key : PublicKey) → public_in blob ≡ Ok key → IsMagnitude key.n
unfolding public_in plain_public_at
plain_modulus blob key read =
    let a = bind_ok (known_at (type_name Plain) blob) _ key read in
    let b = bind_ok (public_at a.0) _ key a.2 in
    let end = ended_or_is Unfit b.0.0 key b.0.1 b.2 in
    subst (λ (k : PublicKey). IsMagnitude k.n) end.1 (modulus_at a.0 b.0 b.1)

pub certified_modulus : (bytes : List ℕ) (x : PublicKey × List ℕ) → certified_public_at bytes ≡ Ok x → IsMagnitude x.0.n
unfolding certified_public_at
certified_modulus bytes x read =
    let a = bind_ok (ok_or (string_at bytes) Unfit) _ x read in
    modulus_at a.0.1 x a.2
