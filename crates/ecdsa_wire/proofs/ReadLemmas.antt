-- Lemmas on specs/Grammar.antt: what is in the grammar is read.
use Rattle.std.proofs.Common.{◌≡◌, ℕ, ◌<◌, ◌^◌, List, [], ◌++◌, length, Some, Ok, inl, inr, refl, ap, sym, ◌∙◌, lit<}
use Rattle.std.proofs.lemmas.List.{append-nil}
use Rattle.ecdsa_wire.specs.declared.names.Curve.{Curve}
use Rattle.ecdsa_wire.specs.declared.names.Curve.TheVariants.{P256, P384, P521}
use Rattle.ecdsa_wire.specs.declared.names.KeyType.TheVariants.{Plain, Certified}
use Rattle.ecdsa_wire.specs.Grammar.{IsCertified, IsPair, IsPlain, IsSignature, IsWhole}
use Rattle.ecdsa_wire.specs.Names.{certified_name, curve_name, plain_name, point_len, type_named}
use Rattle.ecdsa_wire.specs.Reading.{KeyPair, SignatureNumbers, certified_pair, certified_point_at, numbers_at, pair_in, plain_pair, plain_point_at, plain_secret_at, point_at, secret_at, signature_in}
use Rattle.key_wire.specs.Numbers.{IsSecretMpint, signed}
use Rattle.key_wire.proofs.FieldLemmas.{known_again, sized_again}
use Rattle.key_wire.proofs.NumberLemmas.{magnitude_again, secret_again}
use Rattle.wire_core.specs.Fields.{string_at}
use Rattle.wire_core.proofs.ReadingLemmas.{string_at-alone}
use Rattle.wire_core.proofs.Theorems.{string_at-string}
use Rattle.wire_text.specs.Wire.{string}

-- ---- names

short_curve : (curve : Curve) → length (curve_name curve) < 2 ^ 32
short_curve P256 = lit< tt
short_curve P384 = lit< tt
short_curve P521 = lit< tt

short_plain : (curve : Curve) → length (plain_name curve) < 2 ^ 32
short_plain P256 = lit< tt
short_plain P384 = lit< tt
short_plain P521 = lit< tt

short_certified : (curve : Curve) → length (certified_name curve) < 2 ^ 32
short_certified P256 = lit< tt
short_certified P384 = lit< tt
short_certified P521 = lit< tt

short_point : (curve : Curve) (point : List ℕ) → length point ≡ point_len curve → length point < 2 ^ 32
short_point P256 point is = rw is (lit< tt)
short_point P384 point is = rw is (lit< tt)
short_point P521 point is = rw is (lit< tt)

plain_again : (curve : Curve) → type_named (plain_name curve) ≡ Some (Plain curve)
unfolding type_named
plain_again P256 = refl
plain_again P384 = refl
plain_again P521 = refl

certified_again : (curve : Curve) → type_named (certified_name curve) ≡ Some (Certified curve)
unfolding type_named
certified_again P256 = refl
certified_again P384 = refl
certified_again P521 = refl

-- ---- points and private numbers

point_again : (curve : Curve) (point rest : List ℕ) → length point ≡ point_len curve
    → point_at curve (string (curve_name curve) ++ (string point ++ rest)) ≡ Ok (point, rest)
unfolding point_at
point_again curve point rest sized =
    rw (known_again (curve_name curve) (string point ++ rest) (short_curve curve)) (sized_again (point_len curve) point rest sized (short_point curve point sized))

point_alone : (curve : Curve) (point : List ℕ) → length point ≡ point_len curve
    → plain_point_at curve (string (curve_name curve) ++ string point) ≡ Ok point
unfolding plain_point_at
point_alone curve point sized =
    let with_end : point_at curve (string (curve_name curve) ++ string point) ≡ Ok (point, []) =
    ap (λ (p : List ℕ). point_at curve (string (curve_name curve) ++ p)) (sym (append-nil (string point))) ∙ point_again curve point [] sized in
    rw with_end refl

certified_point_again : (curve : Curve) (nonce point rest : List ℕ) → length nonce < 2 ^ 32 → length point ≡ point_len curve
    → certified_point_at curve (string nonce ++ (string (curve_name curve) ++ (string point ++ rest))) ≡ Ok (point, rest)
unfolding certified_point_at
certified_point_again curve nonce point rest small sized =
    rw (string_at-string nonce (string (curve_name curve) ++ (string point ++ rest)) small) (point_again curve point rest sized)

secret_is_read : (mpint secret : List ℕ) → IsSecretMpint mpint secret → length mpint < 2 ^ 32 → secret_at (string mpint) ≡ Ok secret
unfolding secret_at
secret_is_read mpint secret is small = rw (string_at-alone mpint small, secret_again mpint secret is) refl

-- ---- pairs

plain_secret_again : (pair : KeyPair) (mpint : List ℕ) → IsWhole pair mpint
    → plain_secret_at pair.curve pair.point (string (curve_name pair.curve) ++ (string pair.point ++ string mpint)) ≡ Ok pair.secret
unfolding plain_secret_at
plain_secret_again pair mpint whole =
    rw (
      known_again (curve_name pair.curve) (string pair.point ++ string mpint) (short_curve pair.curve),
      known_again pair.point (string mpint) (short_point pair.curve pair.point whole.point),
    ) (secret_is_read mpint pair.secret whole.secret whole.fits)

plain_is_read : (private blob : List ℕ) (pair : KeyPair) → IsPlain private blob pair
    → plain_pair pair.curve private (string (curve_name pair.curve) ++ string pair.point) ≡ Ok pair
unfolding plain_pair
plain_is_read private blob pair is =
    let fields = string (curve_name pair.curve) ++ (string pair.point ++ string is.mpint) in
    rw (
      point_alone pair.curve pair.point is.whole.point,
      is.private_is,
      known_again (plain_name pair.curve) fields (short_plain pair.curve),
      plain_secret_again pair is.mpint is.whole,
    ) refl

certified_is_read : (private blob : List ℕ) (pair : KeyPair) (is : IsCertified private blob pair)
    → certified_pair pair.curve private blob (string is.nonce ++ (string (curve_name pair.curve) ++ (string pair.point ++ is.rest))) ≡ Ok pair
unfolding certified_pair
certified_is_read private blob pair is =
    rw (
      certified_point_again pair.curve is.nonce pair.point is.rest is.fits.0 is.whole.point,
      is.private_is,
      known_again (certified_name pair.curve) (string blob ++ string is.mpint) (short_certified pair.curve),
      known_again blob (string is.mpint) is.fits.1,
      secret_is_read is.mpint pair.secret is.whole.secret is.whole.fits,
    ) refl

-- a key's private string and blob are read
pub pair_is_read : (private blob : List ℕ) (pair : KeyPair) → IsPair private blob pair → pair_in private blob ≡ Ok pair
unfolding pair_in
pair_is_read private blob pair (inl is) =
    let named : string_at blob ≡ Some (plain_name pair.curve, string (curve_name pair.curve) ++ string pair.point) =
    ap string_at is.blob_is ∙ string_at-string (plain_name pair.curve) (string (curve_name pair.curve) ++ string pair.point) (short_plain pair.curve) in
    rw (named, plain_again pair.curve) (plain_is_read private blob pair is)
pair_is_read private blob pair (inr is) =
    let rest = string is.nonce ++ (string (curve_name pair.curve) ++ (string pair.point ++ is.rest)) in
    let named : string_at blob ≡ Some (certified_name pair.curve, rest) =
    ap string_at is.blob_is ∙ string_at-string (certified_name pair.curve) rest (short_certified pair.curve) in
    rw (named, certified_again pair.curve) (certified_is_read private blob pair is)

-- ---- signatures

numbers_again : (curve : Curve) (text : List ℕ) (numbers : SignatureNumbers) → IsSignature curve text numbers
    → numbers_at (string (signed numbers.r) ++ string (signed numbers.s)) ≡ Ok numbers
unfolding numbers_at
numbers_again curve text numbers is =
    rw (
      string_at-string (signed numbers.r) (string (signed numbers.s)) is.fits_r,
      magnitude_again numbers.r is.r,
      string_at-alone (signed numbers.s) is.fits_s,
      magnitude_again numbers.s is.s,
    ) refl

-- a signature is read
pub signature_is_read : (curve : Curve) (text : List ℕ) (numbers : SignatureNumbers) → IsSignature curve text numbers
    → signature_in curve text ≡ Ok numbers
unfolding signature_in
signature_is_read curve text numbers is =
    let blob = string (signed numbers.r) ++ string (signed numbers.s) in
    rw (
      is.text_is,
      known_again (plain_name curve) (string blob) (short_plain curve),
      string_at-alone blob is.fits,
    ) (numbers_again curve text numbers is)
