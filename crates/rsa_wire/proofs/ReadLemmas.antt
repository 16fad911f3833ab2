-- Lemmas on specs/Grammar.antt: what is in the grammar is read.
use Rattle.std.proofs.Common.{◌≡◌, ℕ, ◌<◌, ◌^◌, List, [], ◌++◌, length, Some, Ok, inl, inr, refl, ap, sym, ◌∙◌, lit<}
use Rattle.std.proofs.lemmas.List.{append-nil}
use Rattle.rsa_wire.specs.declared.names.Algorithm.{Algorithm}
use Rattle.rsa_wire.specs.declared.names.Algorithm.TheVariants.{Sha1, Sha256, Sha512}
use Rattle.rsa_wire.specs.declared.names.KeyType.{KeyType}
use Rattle.rsa_wire.specs.declared.names.KeyType.TheVariants.{Plain, Certified}
use Rattle.rsa_wire.specs.Grammar.{IsCertified, IsPair, IsPlain, IsPrivate, IsPublic, IsSecretField, IsSignature, public_text}
use Rattle.rsa_wire.specs.Names.{algorithm_name, algorithm_named, type_name, type_named}
use Rattle.rsa_wire.specs.Reading.{KeyPair, PrivateKey, PublicKey, SignatureBytes, certified_pair, certified_public_at, number_at, pair_in, plain_pair, plain_private_at, plain_public_at, private_at, public_at, secret_at, signature_in}
use Rattle.key_wire.specs.Numbers.{IsMagnitude, signed}
use Rattle.key_wire.proofs.FieldLemmas.{known_again}
use Rattle.key_wire.proofs.NumberLemmas.{magnitude_again, secret_again}
use Rattle.wire_core.specs.Fields.{string_at}
use Rattle.wire_core.proofs.ReadingLemmas.{string_at-alone}
use Rattle.wire_core.proofs.Theorems.{string_at-string}
use Rattle.wire_text.specs.Wire.{string}

-- ---- names

short_type : (key_type : KeyType) → length (type_name key_type) < 2 ^ 32
short_type Plain = lit< tt
short_type Certified = lit< tt

type_again : (key_type : KeyType) → type_named (type_name key_type) ≡ Some key_type
unfolding type_named
type_again Plain = refl
type_again Certified = refl

short_algorithm : (algorithm : Algorithm) → length (algorithm_name algorithm) < 2 ^ 32
short_algorithm Sha1 = lit< tt
short_algorithm Sha256 = lit< tt
short_algorithm Sha512 = lit< tt

algorithm_again : (algorithm : Algorithm) → algorithm_named (algorithm_name algorithm) ≡ Some algorithm
unfolding algorithm_named
algorithm_again Sha1 = refl
algorithm_again Sha256 = refl
algorithm_again Sha512 = refl

-- ---- numbers

number_again : (number rest : List ℕ) → IsMagnitude number → length (signed number) < 2 ^ 32
    → number_at (string (signed number) ++ rest) ≡ Ok (number, rest)
unfolding number_at
number_again number rest is fits = rw (string_at-string (signed number) rest fits, magnitude_again number is) refl

secret_field : (text number rest : List ℕ) → IsSecretField text number → secret_at (text ++ rest) ≡ Ok (number, rest)
unfolding secret_at
secret_field text number rest is =
    rw (is.text_is, string_at-string is.mpint rest is.fits, secret_again is.mpint number is.is) refl

secret_alone : (text number : List ℕ) → IsSecretField text number → secret_at text ≡ Ok (number, [])
secret_alone text number is = ap secret_at (sym (append-nil text)) ∙ secret_field text number [] is

-- ---- public keys

public_again : (key : PublicKey) (rest : List ℕ) → IsPublic key → public_at (public_text key rest) ≡ Ok (key, rest)
unfolding public_at
public_again key rest is =
    rw (number_again key.e (string (signed key.n) ++ rest) is.e is.fits_e, number_again key.n rest is.n is.fits_n) refl

plain_public_again : (key : PublicKey) → IsPublic key → plain_public_at (public_text key []) ≡ Ok key
unfolding plain_public_at
plain_public_again key is = rw (public_again key [] is) refl

certified_public_again : (key : PublicKey) (nonce rest : List ℕ) → IsPublic key → length nonce < 2 ^ 32
    → certified_public_at (string nonce ++ public_text key rest) ≡ Ok (key, rest)
unfolding certified_public_at
certified_public_again key nonce rest is small =
    rw (string_at-string nonce (public_text key rest) small) (public_again key rest is)

-- ---- private numbers

private_again : (bytes : List ℕ) (key : PrivateKey) → IsPrivate bytes key → private_at bytes ≡ Ok key
unfolding private_at
private_again bytes key is =
    rw (
      is.text_is,
      secret_field is.d key.d (is.iqmp ++ (is.p ++ is.q)) is.d_is,
      secret_field is.iqmp key.iqmp (is.p ++ is.q) is.iqmp_is,
      secret_field is.p key.p is.q is.p_is,
      secret_alone is.q key.q is.q_is,
    ) refl

plain_private_again : (key : PublicKey) (numbers : List ℕ) (private : PrivateKey) → IsPublic key → IsPrivate numbers private
    → plain_private_at key (string (signed key.n) ++ (string (signed key.e) ++ numbers)) ≡ Ok private
unfolding plain_private_at
plain_private_again key numbers private public is =
    rw (
      known_again (signed key.n) (string (signed key.e) ++ numbers) public.fits_n,
      known_again (signed key.e) numbers public.fits_e,
    ) (private_again numbers private is)

-- ---- pairs

plain_is_read : (private blob : List ℕ) (pair : KeyPair) → IsPlain private blob pair
    → plain_pair private (public_text pair.public []) ≡ Ok pair
unfolding plain_pair
plain_is_read private blob pair is =
    rw (
      plain_public_again pair.public is.key,
      is.private_is,
      known_again (type_name Plain) (string (signed pair.public.n) ++ (string (signed pair.public.e) ++ is.numbers)) (short_type Plain),
      plain_private_again pair.public is.numbers pair.private is.key is.secrets,
    ) refl

certified_is_read : (private blob : List ℕ) (pair : KeyPair) (is : IsCertified private blob pair)
    → certified_pair private blob (string is.nonce ++ public_text pair.public is.rest) ≡ Ok pair
unfolding certified_pair
certified_is_read private blob pair is =
    rw (
      certified_public_again pair.public is.nonce is.rest is.key is.fits.0,
      is.private_is,
      known_again (type_name Certified) (string blob ++ is.numbers) (short_type Certified),
      known_again blob is.numbers is.fits.1,
      private_again is.numbers pair.private is.secrets,
    ) refl

-- a key's private string and blob are read
pub pair_is_read : (private blob : List ℕ) (pair : KeyPair) → IsPair private blob pair → pair_in private blob ≡ Ok pair
unfolding pair_in
pair_is_read private blob pair (inl is) =
    let named : string_at blob ≡ Some (type_name Plain, public_text pair.public []) =
    ap string_at is.blob_is ∙ string_at-string (type_name Plain) (public_text pair.public []) (short_type Plain) in
    rw (named, type_again Plain) (plain_is_read private blob pair is)
pair_is_read private blob pair (inr is) =
    let rest = string is.nonce ++ public_text pair.public is.rest in
    let named : string_at blob ≡ Some (type_name Certified, rest) =
    ap string_at is.blob_is ∙ string_at-string (type_name Certified) rest (short_type Certified) in
    rw (named, type_again Certified) (certified_is_read private blob pair is)

-- ---- signatures

-- a signature is read
pub signature_is_read : (text : List ℕ) (signature : SignatureBytes) → IsSignature text signature → signature_in text ≡ Ok signature
unfolding signature_in
signature_is_read text signature is =
    rw (
      is.text_is,
      string_at-string (algorithm_name signature.algorithm) (string signature.bytes) (short_algorithm signature.algorithm),
      algorithm_again signature.algorithm,
      string_at-alone signature.bytes is.fits,
    ) refl
