-- Lemmas on public keys: a pair's is the one that the blob is read with by itself.
use Rattle.std.proofs.Common.{◌≡◌, ℕ, true, false, List, Some, Ok, refl, ap, subst, sym, ◌∙◌}
use Rattle.std.proofs.lemmas.Slice.Eq.{bytes_eq-Decides}
use Rattle.key_wire.specs.declared.fault.KeyFault.TheVariants.{Unfit}
use Rattle.ed25519_wire.specs.Names.{certified_name, is_certified_name, is_plain_name}
use Rattle.ed25519_wire.specs.Reading.{KeyPair, authority_key, behind_certificate, certified_key_at, certified_pair, pair_at, pair_in, pair_of, plain_key_at, plain_pair}
use Rattle.ed25519_wire.proofs.FoundLemmas.{chosen}
use Rattle.wire_core.specs.Fields.{string_at}
use Rattle.wire_core.specs.Readings.{◌>>=◌}
use Rattle.wire_core.proofs.ReadingLemmas.{bind_ok, field_or_is}

-- of a plain pair
plain_public : (private rest : List ℕ) (pair : KeyPair) → plain_pair private rest ≡ Ok pair → plain_key_at rest ≡ Ok pair.public
unfolding plain_pair
plain_public private rest pair read =
    let public = bind_ok (plain_key_at rest) _ pair read in
    let field = field_or_is Unfit (string_at private) _ pair public.2 in
    let found = chosen (is_plain_name field.field) (pair_at public.0 field.rest >>= (λ seed. Ok (pair_of public.0 seed))) pair field.read in
    let seed = bind_ok (pair_at public.0 field.rest) (λ s. Ok (pair_of public.0 s)) pair found.1 in
    let same : pair_of public.0 seed.0 ≡ pair = cc (seed.2) in
    public.1 ∙ ap (λ (p : KeyPair). Ok p.public) same

-- of a certified pair
certified_public : (private whole rest : List ℕ) (pair : KeyPair) → certified_pair private whole rest ≡ Ok pair
    → (behind : List ℕ) × (certified_key_at rest ≡ Ok (pair.public, behind))
unfolding certified_pair
certified_public private whole rest pair read =
    let public = bind_ok (certified_key_at rest) _ pair read in
    let field = field_or_is Unfit (string_at private) _ pair public.2 in
    let found = chosen (is_certified_name field.field) (behind_certificate whole public.0.0 field.rest >>= (λ seed. Ok (pair_of public.0.0 seed))) pair field.read in
    let seed = bind_ok (behind_certificate whole public.0.0 field.rest) (λ s. Ok (pair_of public.0.0 s)) pair found.1 in
    let same : pair_of public.0.0 seed.0 ≡ pair = cc (seed.2) in
    (public.0.1, public.1 ∙ ap (λ (p : KeyPair). Ok (p.public, public.0.1)) same)

-- a plain pair's public key is the blob's
pub plain_is_the_blobs : (private blob : List ℕ) (name : List ℕ × List ℕ) (pair : KeyPair) → string_at blob ≡ Some name
    → is_plain_name name.0 ≡ true → pair_in private blob ≡ Ok pair → authority_key blob ≡ Ok pair.public
unfolding pair_in authority_key
plain_is_the_blobs private blob name pair there is read =
    let plain : plain_pair private name.1 ≡ Ok pair = rw (there, is) at read in
    rw (there, is) (plain_public private name.1 pair plain)

-- a certified name is no plain one
certified_only : (name : List ℕ) → is_certified_name name ≡ true → is_plain_name name ≡ false
certified_only name is =
    subst (λ (n : List ℕ). is_plain_name n ≡ false) (sym ((bytes_eq-Decides name certified_name).0 is)) refl

-- a certified pair's public key is the certificate's
pub certified_is_the_blobs : (private blob : List ℕ) (name : List ℕ × List ℕ) (pair : KeyPair) → string_at blob ≡ Some name
    → is_certified_name name.0 ≡ true → pair_in private blob ≡ Ok pair
    → (behind : List ℕ) × (certified_key_at name.1 ≡ Ok (pair.public, behind))
unfolding pair_in
certified_is_the_blobs private blob name pair there is read =
    let certified : certified_pair private blob name.1 ≡ Ok pair = rw (there, certified_only name.0 is, is) at read in
    certified_public private blob name.1 pair certified
