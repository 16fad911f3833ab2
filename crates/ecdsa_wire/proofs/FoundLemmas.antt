-- Lemmas on specs/Grammar.antt: what is read is in the grammar.
use Rattle.std.proofs.Common.{◌≡◌, ℕ, ◌<◌, ◌^◌, Bool, true, false, if◌then◌else◌, List, ◌++◌, length, Option, Some, None, Ok, inl, inr, refl, ap, ◌∙◌, subst}
use Rattle.std.specs.Option.{ok_or}
use Rattle.std.specs.Str.{bytes_eq}
use Rattle.std.proofs.lemmas.Slice.Eq.{bytes_eq-Decides}
use Rattle.ecdsa_wire.specs.declared.names.Curve.{Curve}
use Rattle.ecdsa_wire.specs.declared.names.Curve.TheVariants.{P256, P384, P521}
use Rattle.ecdsa_wire.specs.declared.names.KeyType.{KeyType}
use Rattle.ecdsa_wire.specs.declared.names.KeyType.TheVariants.{Plain, Certified}
use Rattle.ecdsa_wire.specs.Grammar.{IsCertified, IsPair, IsPlain, IsSignature}
use Rattle.ecdsa_wire.specs.Names.{certified_name, curve_by, curve_name, either_type, plain_name, point_len, type_named}
use Rattle.ecdsa_wire.specs.Reading.{KeyPair, SignatureNumbers, certified_pair, certified_point_at, numbers_at, pair_in, pair_typed, plain_pair, plain_point_at, plain_secret_at, point_at, secret_at, signature_in}
use Rattle.key_wire.specs.declared.fault.KeyFault.TheVariants.{Unfit}
use Rattle.key_wire.specs.Fields.{known_at, sized_at}
use Rattle.key_wire.specs.Numbers.{IsMagnitude, IsSecretMpint, magnitude, secret_magnitude, signed}
use Rattle.key_wire.proofs.FieldLemmas.{known_front, sized_front, text_front}
use Rattle.key_wire.proofs.NumberLemmas.{magnitude_is, secret_is}
use Rattle.wire_core.specs.Fields.{string_at}
use Rattle.wire_core.proofs.ReadingLemmas.{behind, bind_ok, bytes_inside, ended_or_is, last}
use Rattle.wire_text.specs.Wire.{IsBytes, string}

-- ---- names

-- a curve that was found by its name has that name
curve_is : (names : Curve → List ℕ) (name : List ℕ) (curve : Curve) → curve_by names name ≡ Some curve → name ≡ names curve
curve_is names name curve found = first (bytes_eq name (names P256)) refl found
  where
    third : (is : Bool) → bytes_eq name (names P521) ≡ is → (if is then Some P521 else None) ≡ Some curve → name ≡ names curve
    third true is given =
        let same : P521 ≡ curve = cc in
        (bytes_eq-Decides name (names P521)).0 is ∙ ap names same
    third false is given = absurd cc

    second : (is : Bool) → bytes_eq name (names P384) ≡ is
        → (if is then Some P384 else if bytes_eq name (names P521) then Some P521 else None) ≡ Some curve → name ≡ names curve
    second true is given =
        let same : P384 ≡ curve = cc in
        (bytes_eq-Decides name (names P384)).0 is ∙ ap names same
    second false is given = third (bytes_eq name (names P521)) refl given

    first : (is : Bool) → bytes_eq name (names P256) ≡ is
        → (if is then Some P256 else if bytes_eq name (names P384) then Some P384 else if bytes_eq name (names P521) then Some P521 else None) ≡ Some curve
        → name ≡ names curve
    first true is given =
        let same : P256 ≡ curve = cc in
        (bytes_eq-Decides name (names P256)).0 is ∙ ap names same
    first false is given = second (bytes_eq name (names P384)) refl given

-- which type was found
data IsTyped (name : List ℕ) : Option KeyType → Type 0 where
  plain : (curve : Curve) → name ≡ plain_name curve → IsTyped name (Some (Plain curve))
  certified : (curve : Curve) → name ≡ certified_name curve → IsTyped name (Some (Certified curve))
  neither : IsTyped name None

either_is : (name : List ℕ) (first second : Option Curve) → curve_by plain_name name ≡ first → curve_by certified_name name ≡ second
    → IsTyped name (either_type first second)
either_is name (Some curve) second is other = plain curve (curve_is plain_name name curve is)
either_is name None (Some curve) is other = certified curve (curve_is certified_name name curve other)
either_is name None None is other = neither

type_is : (name : List ℕ) → IsTyped name (type_named name)
unfolding type_named
type_is name = either_is name (curve_by plain_name name) (curve_by certified_name name) refl refl

-- ---- points and private numbers

-- a curve's name and a point, and what follows
record IsPointFront (curve : Curve) (bytes point rest : List ℕ) : Type 0 where
  pub parts : bytes ≡ string (curve_name curve) ++ (string point ++ rest)
  pub left : IsBytes rest
  pub sized : length point ≡ point_len curve

point_is : (curve : Curve) (bytes : List ℕ) (x : List ℕ × List ℕ) → IsBytes bytes → point_at curve bytes ≡ Ok x
    → IsPointFront curve bytes x.0 x.1
unfolding point_at
point_is curve bytes x small read =
    let a = bind_ok (known_at (curve_name curve) bytes) _ x read in
    let name = known_front (curve_name curve) bytes a.0 small a.1 in
    let point = sized_front (point_len curve) a.0 x name.0.left a.2 in
    record {
      parts = behind bytes (string (curve_name curve)) a.0 (string x.0 ++ x.1) name.0.parts point.parts;
      left = point.left;
      sized = point.sized;
    }

-- a point that nothing follows
record IsPointAlone (curve : Curve) (bytes point : List ℕ) : Type 0 where
  pub text : bytes ≡ string (curve_name curve) ++ string point
  pub sized : length point ≡ point_len curve

plain_point_is : (curve : Curve) (bytes point : List ℕ) → IsBytes bytes → plain_point_at curve bytes ≡ Ok point
    → IsPointAlone curve bytes point
unfolding plain_point_at
plain_point_is curve bytes point small read =
    let a = bind_ok (point_at curve bytes) _ point read in
    let end = ended_or_is Unfit a.0.0 point a.0.1 a.2 in
    let front = point_is curve bytes a.0 small a.1 in
    subst (IsPointAlone curve bytes) end.1 (record {
      text = front.parts ∙ ap (λ (p : List ℕ). string (curve_name curve) ++ p) (last (string a.0.0 ++ a.0.1) (string a.0.0) a.0.1 refl end.0);
      sized = front.sized;
    })

-- the mpint of a private number, which nothing follows
record IsSecretAlone (bytes secret : List ℕ) : Type 0 where
  pub mpint : List ℕ
  pub text : bytes ≡ string mpint
  pub is : IsSecretMpint mpint secret
  pub fits : length mpint < 2 ^ 32

secret_alone : (bytes secret : List ℕ) → IsBytes bytes → secret_at bytes ≡ Ok secret → IsSecretAlone bytes secret
unfolding secret_at
secret_alone bytes secret small read =
    let a = bind_ok (ok_or (string_at bytes) Unfit) _ secret read in
    let b = bind_ok (secret_magnitude a.0.0) _ secret a.2 in
    let end = ended_or_is Unfit b.0 secret a.0.1 b.2 in
    let front = text_front bytes a.0 small a.1 in
    subst (IsSecretAlone bytes) end.1 (record {
      mpint = a.0.0;
      text = last bytes (string a.0.0) a.0.1 front.0.parts end.0;
      is = secret_is a.0.0 b.0 b.1;
      fits = front.1;
    })

-- ---- pairs

-- the public key again, and the private number
record IsPlainSecret (curve : Curve) (point bytes secret : List ℕ) : Type 0 where
  pub mpint : List ℕ
  pub text : bytes ≡ string (curve_name curve) ++ (string point ++ string mpint)
  pub is : IsSecretMpint mpint secret
  pub fits : length mpint < 2 ^ 32

plain_secret_is : (curve : Curve) (point bytes secret : List ℕ) → IsBytes bytes → plain_secret_at curve point bytes ≡ Ok secret
    → IsPlainSecret curve point bytes secret
unfolding plain_secret_at
plain_secret_is curve point bytes secret small read =
    let a = bind_ok (known_at (curve_name curve) bytes) _ secret read in
    let b = bind_ok (known_at point a.0) _ secret a.2 in
    let name = known_front (curve_name curve) bytes a.0 small a.1 in
    let again = known_front point a.0 b.0 name.0.left b.1 in
    let number = secret_alone b.0 secret again.0.left b.2 in
    record {
      mpint = number.mpint;
      text = behind bytes (string (curve_name curve)) a.0 (string point ++ string number.mpint) name.0.parts
          (behind a.0 (string point) b.0 (string number.mpint) again.0.parts number.text);
      is = number.is;
      fits = number.fits;
    }

plain_is : (curve : Curve) (private blob rest : List ℕ) (pair : KeyPair) → IsBytes private → IsBytes rest
    → blob ≡ string (plain_name curve) ++ rest → plain_pair curve private rest ≡ Ok pair → IsPlain private blob pair
unfolding plain_pair
plain_is curve private blob rest pair small rest_small blob_is read =
    let a = bind_ok (plain_point_at curve rest) _ pair read in
    let b = bind_ok (known_at (plain_name curve) private) _ pair a.2 in
    let c = bind_ok (plain_secret_at curve a.0 b.0) _ pair b.2 in
    let made : KeyPair = record { curve = curve; point = a.0; secret = c.0 } in
    let same : made ≡ pair = cc (c.2) in
    let point = plain_point_is curve rest a.0 rest_small a.1 in
    let name = known_front (plain_name curve) private b.0 small b.1 in
    let secret = plain_secret_is curve a.0 b.0 c.0 name.0.left c.1 in
    subst (IsPlain private blob) same (record {
      mpint = secret.mpint;
      blob_is = behind blob (string (plain_name curve)) rest (string (curve_name curve) ++ string a.0) blob_is point.text;
      private_is = behind private (string (plain_name curve)) b.0
          (string (curve_name curve) ++ (string a.0 ++ string secret.mpint)) name.0.parts secret.text;
      whole = record { point = point.sized; secret = secret.is; fits = secret.fits };
    })

-- a certificate's nonce and point
record IsCertifiedFront (curve : Curve) (bytes point rest : List ℕ) : Type 0 where
  pub nonce : List ℕ
  pub text : bytes ≡ string nonce ++ (string (curve_name curve) ++ (string point ++ rest))
  pub sized : length point ≡ point_len curve
  pub fits : length nonce < 2 ^ 32

certified_point_is : (curve : Curve) (bytes : List ℕ) (x : List ℕ × List ℕ) → IsBytes bytes → certified_point_at curve bytes ≡ Ok x
    → IsCertifiedFront curve bytes x.0 x.1
unfolding certified_point_at
certified_point_is curve bytes x small read =
    let a = bind_ok (ok_or (string_at bytes) Unfit) _ x read in
    let nonce = text_front bytes a.0 small a.1 in
    let point = point_is curve a.0.1 x nonce.0.left a.2 in
    record {
      nonce = a.0.0;
      text = behind bytes (string a.0.0) a.0.1 (string (curve_name curve) ++ (string x.0 ++ x.1)) nonce.0.parts point.parts;
      sized = point.sized;
      fits = nonce.1;
    }

certified_is : (curve : Curve) (private blob rest : List ℕ) (pair : KeyPair) → IsBytes private → IsBytes rest
    → blob ≡ string (certified_name curve) ++ rest → certified_pair curve private blob rest ≡ Ok pair → IsCertified private blob pair
unfolding certified_pair
certified_is curve private blob rest pair small rest_small blob_is read =
    let a = bind_ok (certified_point_at curve rest) _ pair read in
    let b = bind_ok (known_at (certified_name curve) private) _ pair a.2 in
    let c = bind_ok (known_at blob b.0) _ pair b.2 in
    let d = bind_ok (secret_at c.0) _ pair c.2 in
    let made : KeyPair = record { curve = curve; point = a.0.0; secret = d.0 } in
    let same : made ≡ pair = cc (d.2) in
    let point = certified_point_is curve rest a.0 rest_small a.1 in
    let name = known_front (certified_name curve) private b.0 small b.1 in
    let whole = known_front blob b.0 c.0 name.0.left c.1 in
    let secret = secret_alone c.0 d.0 whole.0.left d.1 in
    subst (IsCertified private blob) same (record {
      mpint = secret.mpint;
      nonce = point.nonce;
      rest = a.0.1;
      blob_is = behind blob (string (certified_name curve)) rest
          (string point.nonce ++ (string (curve_name curve) ++ (string a.0.0 ++ a.0.1))) blob_is point.text;
      private_is = behind private (string (certified_name curve)) b.0 (string blob ++ string secret.mpint) name.0.parts
          (behind b.0 (string blob) c.0 (string secret.mpint) whole.0.parts secret.text);
      whole = record { point = point.sized; secret = secret.is; fits = secret.fits };
      fits = (point.fits, whole.1);
    })

typed_is : (key_type : Option KeyType) (private blob name rest : List ℕ) (pair : KeyPair) → IsTyped name key_type
    → IsBytes private → IsBytes rest → blob ≡ string name ++ rest → pair_typed key_type private blob rest ≡ Ok pair → IsPair private blob pair
typed_is (Some (Plain curve)) private blob name rest pair (plain _ is) small rest_small blob_is read =
    inl (plain_is curve private blob rest pair small rest_small (blob_is ∙ ap (λ (n : List ℕ). string n ++ rest) is) read)
typed_is (Some (Certified curve)) private blob name rest pair (certified _ is) small rest_small blob_is read =
    inr (certified_is curve private blob rest pair small rest_small (blob_is ∙ ap (λ (n : List ℕ). string n ++ rest) is) read)
typed_is None private blob name rest pair neither small rest_small blob_is read = absurd cc

-- what is read is a key's
pub pair_is_found : (private blob : List ℕ) (pair : KeyPair) → IsBytes private → IsBytes blob → pair_in private blob ≡ Ok pair
    → IsPair private blob pair
unfolding pair_in
pair_is_found private blob pair small blob_small read =
    let a = bind_ok (ok_or (string_at blob) Unfit) _ pair read in
    let front = text_front blob a.0 blob_small a.1 in
    typed_is (type_named a.0.0) private blob a.0.0 a.0.1 pair (type_is a.0.0) small front.0.left front.0.parts a.2

-- ---- signatures

-- the two numbers, which nothing follows
record AreNumbers (bytes : List ℕ) (numbers : SignatureNumbers) : Type 0 where
  pub text : bytes ≡ string (signed numbers.r) ++ string (signed numbers.s)
  pub r : IsMagnitude numbers.r
  pub s : IsMagnitude numbers.s
  pub fits_r : length (signed numbers.r) < 2 ^ 32
  pub fits_s : length (signed numbers.s) < 2 ^ 32

numbers_are : (bytes : List ℕ) (numbers : SignatureNumbers) → IsBytes bytes → numbers_at bytes ≡ Ok numbers → AreNumbers bytes numbers
unfolding numbers_at
numbers_are bytes numbers small read =
    let a = bind_ok (ok_or (string_at bytes) Unfit) _ numbers read in
    let b = bind_ok (magnitude a.0.0) _ numbers a.2 in
    let c = bind_ok (ok_or (string_at a.0.1) Unfit) _ numbers b.2 in
    let d = bind_ok (magnitude c.0.0) _ numbers c.2 in
    let made : SignatureNumbers = record { r = b.0; s = d.0 } in
    let end = ended_or_is Unfit made numbers c.0.1 d.2 in
    let first = text_front bytes a.0 small a.1 in
    let second = text_front a.0.1 c.0 first.0.left c.1 in
    let r = magnitude_is a.0.0 b.0 b.1 in
    let s = magnitude_is c.0.0 d.0 d.1 in
    let rest : a.0.1 ≡ string c.0.0 = last a.0.1 (string c.0.0) c.0.1 second.0.parts end.0 in
    subst (AreNumbers bytes) end.1 (record {
      text = behind bytes (string a.0.0) a.0.1 (string c.0.0) first.0.parts rest
          ∙ ap (λ (t : List ℕ). string t ++ string c.0.0) r.1 ∙ ap (λ (t : List ℕ). string (signed b.0) ++ string t) s.1;
      r = r.0;
      s = s.0;
      fits_r = subst (λ (t : List ℕ). length t < 2 ^ 32) r.1 first.1;
      fits_s = subst (λ (t : List ℕ). length t < 2 ^ 32) s.1 second.1;
    })

-- what is read is a signature
pub signature_is_found : (curve : Curve) (text : List ℕ) (numbers : SignatureNumbers) → IsBytes text
    → signature_in curve text ≡ Ok numbers → IsSignature curve text numbers
unfolding signature_in
signature_is_found curve text numbers small read =
    let a = bind_ok (known_at (plain_name curve) text) _ numbers read in
    let b = bind_ok (ok_or (string_at a.0) Unfit) _ numbers a.2 in
    let c = bind_ok (Rattle.key_wire.specs.Fields.ended b.0.0 b.0.1) _ numbers b.2 in
    let end = ended_or_is Unfit b.0.0 c.0 b.0.1 c.1 in
    let name = known_front (plain_name curve) text a.0 small a.1 in
    let blob = text_front a.0 b.0 name.0.left b.1 in
    let inside : IsBytes b.0.0 = bytes_inside b.0.0 b.0.1 (subst IsBytes blob.0.parts name.0.left) in
    let whole_inside : IsBytes c.0 = subst IsBytes end.1 inside in
    let are = numbers_are c.0 numbers whole_inside c.2 in
    let blob_is : b.0.0 ≡ string (signed numbers.r) ++ string (signed numbers.s) = end.1 ∙ are.text in
    record {
      text_is = behind text (string (plain_name curve)) a.0 (string (string (signed numbers.r) ++ string (signed numbers.s)))
          name.0.parts (last a.0 (string b.0.0) b.0.1 blob.0.parts end.0 ∙ ap string blob_is);
      r = are.r;
      s = are.s;
      fits_r = are.fits_r;
      fits_s = are.fits_s;
      fits = subst (λ (t : List ℕ). length t < 2 ^ 32) blob_is blob.1;
    }
