-- Lemmas on specs/Grammar.antt: what is in the grammar is read.
use Rattle.std.proofs.Common.{◌≡◌, ℕ, ◌<◌, ◌^◌, Bool, true, false, if◌then◌else◌, List, [], ◌++◌, length, take, drop, Option, Result, Ok, Err, inl, inr, refl, ap, ◌∙◌, arith}
use Rattle.std.proofs.lemmas.List.{drop_at, length-append, take_at}
use Rattle.std.proofs.lemmas.Slice.Eq.{bytes_eq-Decides}
use Rattle.std.specs.Str.{bytes_eq}
use Rattle.key_wire.specs.declared.fault.KeyFault.{KeyFault}
use Rattle.key_wire.specs.declared.fault.KeyFault.TheVariants.{Unfit}
use Rattle.ed25519_wire.specs.Grammar.{IsPair, IsSized, private_fields}
use Rattle.ed25519_wire.specs.Names.{certified_name, is_certified_name, is_plain_name, plain_name}
use Rattle.ed25519_wire.specs.Reading.{KeyPair, behind_certificate, certified_key_at, certified_pair, field_then, pair_at, pair_in, pair_of, plain_key_at, plain_pair, seed_at}
use Rattle.key_wire.specs.Fields.{ended, sized_at}
use Rattle.key_wire.proofs.FieldLemmas.{sized_again, sized_alone}
use Rattle.wire_core.specs.Fields.{string_at}
use Rattle.wire_core.specs.Readings.{◌>>=◌}
use Rattle.wire_core.proofs.Theorems.{string_at-string}
use Rattle.wire_text.specs.Wire.{string}

-- the same bytes, as a test
pub same : (a : List ℕ) → bytes_eq a a ≡ true
same a = (bytes_eq-Decides a a).1 refl

-- a test that holds
pub yes : {A : Type 0} (test : Bool) (value other : A) → test ≡ true → (if test then value else other) ≡ value
yes true value other is = refl
yes false value other is = cc is

-- the seed in the string of both
seed_at-alone : (pair : KeyPair) → IsSized pair → seed_at pair.public (string (pair.seed ++ pair.public)) ≡ Ok pair.seed
unfolding seed_at
seed_at-alone pair sized =
    let both = pair.seed ++ pair.public in
    let long : length both ≡ 64 = omega (arith, length-append pair.seed pair.public, sized.seed, sized.public) in
    ap (λ (r : Result (List ℕ × List ℕ) KeyFault). r >>= (λ secret. (if bytes_eq (drop 32 secret.0) pair.public then Ok (take 32 secret.0) else Err Unfit) >>= (λ seed. ended seed secret.1)))
    (sized_alone 64 both long (omega (arith, long)))
    ∙ ap (λ (r : Result (List ℕ) KeyFault). r >>= (λ seed. ended seed [])) (
    yes (bytes_eq (drop 32 both) pair.public) (Ok (take 32 both)) (Err Unfit)
    (ap (λ (h : List ℕ). bytes_eq h pair.public) (drop_at pair.seed pair.public 32 sized.seed) ∙ same pair.public)
    ∙ ap (λ (s : List ℕ). Ok s) (take_at pair.seed pair.public 32 sized.seed))

-- the seed behind the public key
pair_at-fields : (pair : KeyPair) → IsSized pair → pair_at pair.public (private_fields pair) ≡ Ok pair.seed
unfolding pair_at
pair_at-fields pair sized =
    let later : List ℕ → List ℕ → Result (List ℕ) KeyFault = λ text more. if bytes_eq text pair.public then seed_at pair.public more else Err Unfit in
    ap (λ (at : Option (List ℕ × List ℕ)). field_then at later) (string_at-string pair.public (string (pair.seed ++ pair.public)) (omega (arith, sized.public)))
    ∙ yes (bytes_eq pair.public pair.public) (seed_at pair.public (string (pair.seed ++ pair.public))) (Err Unfit) (same pair.public)
    ∙ seed_at-alone pair sized

plain_key_at-alone : (pair : KeyPair) → IsSized pair → plain_key_at (string pair.public) ≡ Ok pair.public
unfolding plain_key_at
plain_key_at-alone pair sized =
    ap (λ (r : Result (List ℕ × List ℕ) KeyFault). r >>= (λ key. ended key.0 key.1)) (sized_alone 32 pair.public sized.public (omega (arith, sized.public)))

certified_key_at-key : (pair : KeyPair) (nonce rest : List ℕ) → IsSized pair → length nonce < 2 ^ 32
    → certified_key_at (string nonce ++ (string pair.public ++ rest)) ≡ Ok (pair.public, rest)
unfolding certified_key_at
certified_key_at-key pair nonce rest sized small =
    ap (λ (at : Option (List ℕ × List ℕ)). field_then at (λ n more. sized_at 32 more)) (string_at-string nonce (string pair.public ++ rest) small)
    ∙ sized_again 32 pair.public rest sized.public (omega (arith, sized.public))

-- what is in the grammar of plain keys
plain_pair-is : (private : List ℕ) (pair : KeyPair) → private ≡ string plain_name ++ private_fields pair → IsSized pair → plain_pair private (string pair.public) ≡ Ok pair
unfolding plain_pair
plain_pair-is private pair is sized =
    let later : List ℕ → List ℕ → Result KeyPair KeyFault = λ name more. if is_plain_name name then pair_at pair.public more >>= (λ seed. Ok (pair_of pair.public seed)) else Err Unfit in
    ap (λ (r : Result (List ℕ) KeyFault). r >>= (λ public. field_then (string_at private) (λ name more.
    if is_plain_name name then pair_at public more >>= (λ seed. Ok (pair_of public seed)) else Err Unfit))) (plain_key_at-alone pair sized)
    ∙ ap (λ (at : Option (List ℕ × List ℕ)). field_then at later) (ap string_at is ∙ string_at-string plain_name (private_fields pair) (omega arith))
    ∙ ap (λ (r : Result (List ℕ) KeyFault). r >>= (λ seed. Ok (pair_of pair.public seed))) (pair_at-fields pair sized)

behind_certificate-is : (whole : List ℕ) (pair : KeyPair) → length whole < 2 ^ 32 → IsSized pair
    → behind_certificate whole pair.public (string whole ++ private_fields pair) ≡ Ok pair.seed
unfolding behind_certificate
behind_certificate-is whole pair small sized =
    let later : List ℕ → List ℕ → Result (List ℕ) KeyFault = λ text more. if bytes_eq text whole then pair_at pair.public more else Err Unfit in
    ap (λ (at : Option (List ℕ × List ℕ)). field_then at later) (string_at-string whole (private_fields pair) small)
    ∙ yes (bytes_eq whole whole) (pair_at pair.public (private_fields pair)) (Err Unfit) (same whole) ∙ pair_at-fields pair sized

-- what is in the grammar of certified keys
certified_pair-is : (private whole nonce rest : List ℕ) (pair : KeyPair) → private ≡ string certified_name ++ (string whole ++ private_fields pair)
    → length nonce < 2 ^ 32 → length whole < 2 ^ 32 → IsSized pair → certified_pair private whole (string nonce ++ (string pair.public ++ rest)) ≡ Ok pair
unfolding certified_pair
certified_pair-is private whole nonce rest pair is short small sized =
    let later : List ℕ → List ℕ → Result KeyPair KeyFault = λ name more. if is_certified_name name then behind_certificate whole pair.public more >>= (λ seed. Ok (pair_of pair.public seed)) else Err Unfit in
    ap (λ (r : Result (List ℕ × List ℕ) KeyFault). r >>= (λ public. field_then (string_at private) (λ name more.
    if is_certified_name name then behind_certificate whole public.0 more >>= (λ seed. Ok (pair_of public.0 seed)) else Err Unfit))) (certified_key_at-key pair nonce rest sized short)
    ∙ ap (λ (at : Option (List ℕ × List ℕ)). field_then at later) (ap string_at is ∙ string_at-string certified_name (string whole ++ private_fields pair) (omega arith))
    ∙ ap (λ (r : Result (List ℕ) KeyFault). r >>= (λ seed. Ok (pair_of pair.public seed))) (behind_certificate-is whole pair small sized)

-- the reading by the name of the blob
abbrev by_name : List ℕ → List ℕ → List ℕ → List ℕ → Result KeyPair KeyFault
by_name private blob name rest =
    if is_plain_name name then plain_pair private rest
    else if is_certified_name name then certified_pair private blob rest else Err Unfit

pub pair_in-is : (private blob : List ℕ) (pair : KeyPair) → IsPair private blob pair → pair_in private blob ≡ Ok pair
unfolding pair_in
pair_in-is private blob pair (inl is) =
    ap (λ (at : Option (List ℕ × List ℕ)). field_then at (by_name private blob)) (ap string_at is.blob_is ∙ string_at-string plain_name (string pair.public) (omega arith))
    ∙ plain_pair-is private pair is.private_is is.sized
pair_in-is private blob pair (inr is) =
    ap (λ (at : Option (List ℕ × List ℕ)). field_then at (by_name private blob))
    (ap string_at is.blob_is ∙ string_at-string certified_name (string is.nonce ++ (string pair.public ++ is.rest)) (omega arith))
    ∙ certified_pair-is private blob is.nonce is.rest pair is.private_is is.fits.0 is.fits.1 is.sized
