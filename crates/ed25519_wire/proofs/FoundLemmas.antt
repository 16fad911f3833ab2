-- Lemmas on specs/Grammar.antt: what is read is in the grammar.
use Rattle.std.proofs.Common.{◌≡◌, ℕ, ◌<◌, ◌^◌, Bool, true, false, if◌then◌else◌, List, ◌++◌, length, take, drop, Result, Ok, Err, inl, inr, refl, ap, sym, ◌∙◌, subst, take-append-drop, arith}
use Rattle.std.proofs.lemmas.List.{length-drop, length-take}
use Rattle.std.proofs.lemmas.Slice.Eq.{bytes_eq-Decides}
use Rattle.std.specs.Str.{bytes_eq}
use Rattle.key_wire.specs.declared.fault.KeyFault.{KeyFault}
use Rattle.key_wire.specs.declared.fault.KeyFault.TheVariants.{Unfit}
use Rattle.ed25519_wire.specs.Grammar.{IsCertified, IsPair, IsPlain, IsSized, private_fields}
use Rattle.ed25519_wire.specs.Names.{certified_name, is_certified_name, is_plain_name, plain_name}
use Rattle.ed25519_wire.specs.Reading.{KeyPair, behind_certificate, certified_key_at, certified_pair, field_then, pair_at, pair_in, pair_of, plain_key_at, plain_pair, seed_at}
use Rattle.key_wire.specs.Fields.{ended, sized_at}
use Rattle.key_wire.proofs.FieldLemmas.{sized_front}
use Rattle.wire_core.specs.Fields.{string_at}
use Rattle.wire_core.specs.Readings.{◌>>=◌}
use Rattle.wire_core.proofs.ReadingLemmas.{bind_ok, behind, ended_or_is, field_or_is, last}
use Rattle.wire_core.proofs.Theorems.{string_is_front}
use Rattle.wire_text.specs.Wire.{IsBytes, string}

-- the same bytes, of a test that held
pub same_bytes : (a b : List ℕ) → bytes_eq a b ≡ true → a ≡ b
same_bytes a b is = (bytes_eq-Decides a b).0 is

-- a test that gave a value held, and the value is the one behind it
pub chosen : {A : Type 0} (test : Bool) (given : Result A KeyFault) (value : A) → (if test then given else Err Unfit) ≡ Ok value → (test ≡ true) × (given ≡ Ok value)
chosen true given value is = (refl, is)
chosen false given value is = cc is

-- the seed and the public key in one string, to its end
seed_at-is : (public bytes seed : List ℕ) → IsBytes bytes → seed_at public bytes ≡ Ok seed → (bytes ≡ string (seed ++ public)) × (length seed ≡ 32) × (length public ≡ 32)
unfolding seed_at
seed_at-is public bytes seed small read =
    let secret = bind_ok (sized_at 64 bytes) (λ s. (if bytes_eq (drop 32 s.0) public then Ok (take 32 s.0) else Err Unfit) >>= (λ seed. ended seed s.1)) seed read in
    let front = sized_front 64 bytes secret.0 small secret.1 in
    let half = bind_ok (if bytes_eq (drop 32 secret.0.0) public then Ok (take 32 secret.0.0) else Err Unfit) (λ s. ended s secret.0.1) seed secret.2 in
    let found = chosen (bytes_eq (drop 32 secret.0.0) public) (Ok (take 32 secret.0.0)) half.0 half.1 in
    let end = ended_or_is Unfit half.0 seed secret.0.1 half.2 in
    let tail : drop 32 secret.0.0 ≡ public = same_bytes (drop 32 secret.0.0) public found.0 in
    let head : take 32 secret.0.0 ≡ seed = cc (found.1, end.1) in
    let whole : seed ++ public ≡ secret.0.0 =
    ap (λ (s : List ℕ). s ++ public) (sym head) ∙ ap (λ (p : List ℕ). take 32 secret.0.0 ++ p) (sym tail) ∙ take-append-drop 32 secret.0.0 in (
      last bytes (string secret.0.0) secret.0.1 front.parts end.0 ∙ ap string (sym whole),
      omega (arith, ap length head, length-take 32 secret.0.0, front.sized),
      omega (arith, ap length tail, length-drop 32 secret.0.0, front.sized),
    )

-- the public key, and the seed behind it
pair_at-is : (public bytes seed : List ℕ) → IsBytes bytes → pair_at public bytes ≡ Ok seed
    → (bytes ≡ private_fields (pair_of public seed)) × IsSized (pair_of public seed)
unfolding pair_at
pair_at-is public bytes seed small read =
    let field = field_or_is Unfit (string_at bytes) (λ text more. if bytes_eq text public then seed_at public more else Err Unfit) seed read in
    let found = chosen (bytes_eq field.field public) (seed_at public field.rest) seed field.read in
    let front = string_is_front bytes field.field field.rest small field.there in
    let is = seed_at-is public field.rest seed front.0.left found.1 in (
      behind bytes (string field.field) field.rest (string (seed ++ public)) front.0.parts is.0
          ∙ ap (λ (t : List ℕ). string t ++ string (seed ++ public)) (same_bytes field.field public found.0),
      record { seed = is.1; public = is.2 },
    )

plain_key_at-is : (bytes public : List ℕ) → IsBytes bytes → plain_key_at bytes ≡ Ok public → bytes ≡ string public
unfolding plain_key_at
plain_key_at-is bytes public small read =
    let key = bind_ok (sized_at 32 bytes) (λ k. ended k.0 k.1) public read in
    let front = sized_front 32 bytes key.0 small key.1 in
    let end = ended_or_is Unfit key.0.0 public key.0.1 key.2 in
    last bytes (string key.0.0) key.0.1 front.parts end.0 ∙ ap string end.1

-- what is read of a plain key is in the grammar
plain_pair-found : (private blob rest : List ℕ) (pair : KeyPair) → IsBytes private → IsBytes rest → blob ≡ string plain_name ++ rest
    → plain_pair private rest ≡ Ok pair → IsPlain private blob pair
unfolding plain_pair
plain_pair-found private blob rest pair small rest_small blob_is read =
    let public = bind_ok (plain_key_at rest) (λ p. field_then (string_at private) (λ name more.
    if is_plain_name name then pair_at p more >>= (λ seed. Ok (pair_of p seed)) else Err Unfit)) pair read in
    let field = field_or_is Unfit (string_at private) (λ name more.
    if is_plain_name name then pair_at public.0 more >>= (λ seed. Ok (pair_of public.0 seed)) else Err Unfit) pair public.2 in
    let found = chosen (is_plain_name field.field) (pair_at public.0 field.rest >>= (λ seed. Ok (pair_of public.0 seed))) pair field.read in
    let seed = bind_ok (pair_at public.0 field.rest) (λ s. Ok (pair_of public.0 s)) pair found.1 in
    let front = string_is_front private field.field field.rest small field.there in
    let is = pair_at-is public.0 field.rest seed.0 front.0.left seed.1 in
    let pair_is : pair_of public.0 seed.0 ≡ pair = cc (seed.2) in
    subst (IsPlain private blob) pair_is (record {
      blob_is = blob_is ∙ ap (λ (r : List ℕ). string plain_name ++ r) (plain_key_at-is rest public.0 rest_small public.1);
      private_is =
          front.0.parts ∙ ap (λ (n : List ℕ). string n ++ field.rest) (same_bytes field.field plain_name found.0)
          ∙ ap (λ (r : List ℕ). string plain_name ++ r) is.0;
      sized = is.1;
    })

-- a certificate's key
pub record IsKeyFront (bytes public seal : List ℕ) : Type 0 where
  pub nonce : List ℕ
  pub parts : bytes ≡ string nonce ++ (string public ++ seal)
  pub fits : length nonce < 2 ^ 32

certified_key_at-is : (bytes public seal : List ℕ) → IsBytes bytes → certified_key_at bytes ≡ Ok (public, seal) → IsKeyFront bytes public seal
unfolding certified_key_at
certified_key_at-is bytes public seal small read =
    let field = field_or_is Unfit (string_at bytes) (λ nonce more. sized_at 32 more) (public, seal) read in
    let front = string_is_front bytes field.field field.rest small field.there in
    let key = sized_front 32 field.rest (public, seal) front.0.left field.read in
    record { nonce = field.field; parts = behind bytes (string field.field) field.rest (string public ++ seal) front.0.parts key.parts; fits = front.1 }

behind_certificate-found : (whole public bytes seed : List ℕ) → IsBytes bytes → behind_certificate whole public bytes ≡ Ok seed
    → (bytes ≡ string whole ++ private_fields (pair_of public seed)) × (length whole < 2 ^ 32) × IsSized (pair_of public seed)
unfolding behind_certificate
behind_certificate-found whole public bytes seed small read =
    let field = field_or_is Unfit (string_at bytes) (λ text more. if bytes_eq text whole then pair_at public more else Err Unfit) seed read in
    let found = chosen (bytes_eq field.field whole) (pair_at public field.rest) seed field.read in
    let front = string_is_front bytes field.field field.rest small field.there in
    let text_is = same_bytes field.field whole found.0 in
    let is = pair_at-is public field.rest seed front.0.left found.1 in (
      behind bytes (string field.field) field.rest (private_fields (pair_of public seed)) front.0.parts is.0
          ∙ ap (λ (t : List ℕ). string t ++ private_fields (pair_of public seed)) text_is,
      subst (λ (t : List ℕ). length t < 2 ^ 32) text_is front.1,
      is.1,
    )

-- what is read of a certified key is in the grammar
certified_pair-found : (private blob rest : List ℕ) (pair : KeyPair) → IsBytes private → IsBytes rest → blob ≡ string certified_name ++ rest
    → certified_pair private blob rest ≡ Ok pair → IsCertified private blob pair
unfolding certified_pair
certified_pair-found private blob rest pair small rest_small blob_is read =
    let public = bind_ok (certified_key_at rest) (λ p. field_then (string_at private) (λ name more.
    if is_certified_name name then behind_certificate blob p.0 more >>= (λ seed. Ok (pair_of p.0 seed)) else Err Unfit)) pair read in
    let key = certified_key_at-is rest public.0.0 public.0.1 rest_small public.1 in
    let field = field_or_is Unfit (string_at private) (λ name more.
    if is_certified_name name then behind_certificate blob public.0.0 more >>= (λ seed. Ok (pair_of public.0.0 seed)) else Err Unfit) pair public.2 in
    let found = chosen (is_certified_name field.field) (behind_certificate blob public.0.0 field.rest >>= (λ seed. Ok (pair_of public.0.0 seed))) pair field.read in
    let seed = bind_ok (behind_certificate blob public.0.0 field.rest) (λ s. Ok (pair_of public.0.0 s)) pair found.1 in
    let front = string_is_front private field.field field.rest small field.there in
    let is = behind_certificate-found blob public.0.0 field.rest seed.0 front.0.left seed.1 in
    let pair_is : pair_of public.0.0 seed.0 ≡ pair = cc (seed.2) in
    subst (IsCertified private blob) pair_is (record {
      nonce = key.nonce;
      rest = public.0.1;
      blob_is = blob_is ∙ ap (λ (r : List ℕ). string certified_name ++ r) key.parts;
      private_is =
          front.0.parts ∙ ap (λ (n : List ℕ). string n ++ field.rest) (same_bytes field.field certified_name found.0)
          ∙ ap (λ (r : List ℕ). string certified_name ++ r) is.0;
      sized = is.2;
      fits = (key.fits, is.1);
    })

-- by the name in front
by_name : (private blob name rest : List ℕ) (pair : KeyPair) (plain certified : Bool) → IsBytes private → IsBytes rest → blob ≡ string name ++ rest
    → is_plain_name name ≡ plain → is_certified_name name ≡ certified
    → (if plain then plain_pair private rest else if certified then certified_pair private blob rest else Err Unfit) ≡ Ok pair → IsPair private blob pair
by_name private blob name rest pair true certified small rest_small blob_is is_plain is_certified read =
    inl (plain_pair-found private blob rest pair small rest_small (blob_is ∙ ap (λ (n : List ℕ). string n ++ rest) (same_bytes name plain_name is_plain)) read)
by_name private blob name rest pair false true small rest_small blob_is is_plain is_certified read =
    inr (certified_pair-found private blob rest pair small rest_small (blob_is ∙ ap (λ (n : List ℕ). string n ++ rest) (same_bytes name certified_name is_certified)) read)
by_name private blob name rest pair false false small rest_small blob_is is_plain is_certified read = cc read

pub pair_in-found : (private blob : List ℕ) (pair : KeyPair) → IsBytes private → IsBytes blob → pair_in private blob ≡ Ok pair → IsPair private blob pair
unfolding pair_in
pair_in-found private blob pair small blob_small read =
    let field = field_or_is Unfit (string_at blob) (λ name rest.
    if is_plain_name name then plain_pair private rest
    else if is_certified_name name then certified_pair private blob rest else Err Unfit) pair read in
    let front = string_is_front blob field.field field.rest blob_small field.there in
    by_name private blob field.field field.rest pair (is_plain_name field.field) (is_certified_name field.field) small front.0.left front.0.parts refl refl field.read
