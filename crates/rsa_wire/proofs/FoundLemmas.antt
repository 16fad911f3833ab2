-- Lemmas on specs/Grammar.antt: what is read is in the grammar.
use Rattle.std.proofs.Common.{◌≡◌, ℕ, ◌<◌, ◌^◌, Bool, true, false, if◌then◌else◌, List, [], ◌++◌, length, Option, Some, None, Ok, inl, inr, refl, ap, ◌∙◌, subst}
use Rattle.std.specs.Option.{ok_or}
use Rattle.std.specs.Str.{bytes_eq}
use Rattle.std.proofs.lemmas.Slice.Eq.{bytes_eq-Decides}
use Rattle.rsa_wire.specs.declared.names.Algorithm.{Algorithm}
use Rattle.rsa_wire.specs.declared.names.Algorithm.TheVariants.{Sha1, Sha256, Sha512}
use Rattle.rsa_wire.specs.declared.names.KeyType.{KeyType}
use Rattle.rsa_wire.specs.declared.names.KeyType.TheVariants.{Plain, Certified}
use Rattle.rsa_wire.specs.Grammar.{IsCertified, IsPair, IsPlain, IsPrivate, IsPublic, IsSecretField, IsSignature, public_text}
use Rattle.rsa_wire.specs.Names.{algorithm_name, algorithm_named, type_name, type_named}
use Rattle.rsa_wire.specs.Reading.{KeyPair, PrivateKey, PublicKey, SignatureBytes, certified_pair, certified_public_at, number_at, pair_in, pair_typed, plain_pair, plain_private_at, plain_public_at, private_at, public_at, secret_at, signature_in}
use Rattle.key_wire.specs.declared.fault.KeyFault.TheVariants.{Unfit}
use Rattle.key_wire.specs.Fields.{known_at}
use Rattle.key_wire.specs.Numbers.{IsMagnitude, magnitude, secret_magnitude, signed}
use Rattle.key_wire.proofs.FieldLemmas.{known_front, text_front}
use Rattle.key_wire.proofs.NumberLemmas.{magnitude_is, secret_is}
use Rattle.wire_core.specs.Fields.{string_at}
use Rattle.wire_core.proofs.ReadingLemmas.{behind, bind_ok, ended_or_is, last, ok_or_ok}
use Rattle.wire_text.specs.Wire.{IsBytes, string}

-- ---- names

-- which type was found
data IsTyped (name : List ℕ) : Option KeyType → Type 0 where
  typed : (key_type : KeyType) → name ≡ type_name key_type → IsTyped name (Some key_type)
  neither : IsTyped name None

type_is : (name : List ℕ) → IsTyped name (type_named name)
unfolding type_named
type_is name = first (bytes_eq name (type_name Plain)) refl
  where
    second : (is : Bool) → bytes_eq name (type_name Certified) ≡ is → IsTyped name (if is then Some Certified else None)
    second true is = typed Certified ((bytes_eq-Decides name (type_name Certified)).0 is)
    second false is = neither

    first : (is : Bool) → bytes_eq name (type_name Plain) ≡ is
        → IsTyped name (if is then Some Plain else if bytes_eq name (type_name Certified) then Some Certified else None)
    first true is = typed Plain ((bytes_eq-Decides name (type_name Plain)).0 is)
    first false is = second (bytes_eq name (type_name Certified)) refl

-- which algorithm was found
data IsNamed (name : List ℕ) : Option Algorithm → Type 0 where
  named : (algorithm : Algorithm) → name ≡ algorithm_name algorithm → IsNamed name (Some algorithm)
  unnamed : IsNamed name None

algorithm_is : (name : List ℕ) → IsNamed name (algorithm_named name)
unfolding algorithm_named
algorithm_is name = first (bytes_eq name (algorithm_name Sha1)) refl
  where
    third : (is : Bool) → bytes_eq name (algorithm_name Sha512) ≡ is → IsNamed name (if is then Some Sha512 else None)
    third true is = named Sha512 ((bytes_eq-Decides name (algorithm_name Sha512)).0 is)
    third false is = unnamed

    second : (is : Bool) → bytes_eq name (algorithm_name Sha256) ≡ is
        → IsNamed name (if is then Some Sha256 else if bytes_eq name (algorithm_name Sha512) then Some Sha512 else None)
    second true is = named Sha256 ((bytes_eq-Decides name (algorithm_name Sha256)).0 is)
    second false is = third (bytes_eq name (algorithm_name Sha512)) refl

    first : (is : Bool) → bytes_eq name (algorithm_name Sha1) ≡ is
        → IsNamed name (if is then Some Sha1 else if bytes_eq name (algorithm_name Sha256) then Some Sha256 else if bytes_eq name (algorithm_name Sha512) then Some Sha512 else None)
    first true is = named Sha1 ((bytes_eq-Decides name (algorithm_name Sha1)).0 is)
    first false is = second (bytes_eq name (algorithm_name Sha256)) refl

name_of : (name : List ℕ) (algorithm : Algorithm) (found : Option Algorithm) → IsNamed name found → found ≡ Some algorithm
    → name ≡ algorithm_name algorithm
name_of name algorithm (Some one) (named _ is) same =
    let equal : one ≡ algorithm = cc in
    is ∙ ap algorithm_name equal
name_of name algorithm None unnamed same = absurd cc

-- ---- numbers

-- a public number's string, and what follows
record IsNumberFront (bytes number rest : List ℕ) : Type 0 where
  pub parts : bytes ≡ string (signed number) ++ rest
  pub left : IsBytes rest
  pub is : IsMagnitude number
  pub fits : length (signed number) < 2 ^ 32

number_is : (bytes : List ℕ) (x : List ℕ × List ℕ) → IsBytes bytes → number_at bytes ≡ Ok x → IsNumberFront bytes x.0 x.1
unfolding number_at
number_is bytes x small read =
    let a = bind_ok (ok_or (string_at bytes) Unfit) _ x read in
    let b = bind_ok (magnitude a.0.0) _ x a.2 in
    let made : List ℕ × List ℕ = (b.0, a.0.1) in
    let same : made ≡ x = cc (b.2) in
    let front = text_front bytes a.0 small a.1 in
    let is = magnitude_is a.0.0 b.0 b.1 in
    subst (λ (y : List ℕ × List ℕ). IsNumberFront bytes y.0 y.1) same (record {
      parts = front.0.parts ∙ ap (λ (t : List ℕ). string t ++ a.0.1) is.1;
      left = front.0.left;
      is = is.0;
      fits = subst (λ (t : List ℕ). length t < 2 ^ 32) is.1 front.1;
    })

-- a private number's string, and what follows
record IsSecretFront (bytes number rest : List ℕ) : Type 0 where
  pub text : List ℕ
  pub parts : bytes ≡ text ++ rest
  pub left : IsBytes rest
  pub is : IsSecretField text number

secret_front : (bytes : List ℕ) (x : List ℕ × List ℕ) → IsBytes bytes → secret_at bytes ≡ Ok x → IsSecretFront bytes x.0 x.1
unfolding secret_at
secret_front bytes x small read =
    let a = bind_ok (ok_or (string_at bytes) Unfit) _ x read in
    let b = bind_ok (secret_magnitude a.0.0) _ x a.2 in
    let made : List ℕ × List ℕ = (b.0, a.0.1) in
    let same : made ≡ x = cc (b.2) in
    let front = text_front bytes a.0 small a.1 in
    subst (λ (y : List ℕ × List ℕ). IsSecretFront bytes y.0 y.1) same (record {
      text = string a.0.0;
      parts = front.0.parts;
      left = front.0.left;
      is = record { mpint = a.0.0; text_is = refl; is = secret_is a.0.0 b.0 b.1; fits = front.1 };
    })

-- ---- public keys

-- a public key, and what follows
record IsPublicFront (bytes : List ℕ) (key : PublicKey) (rest : List ℕ) : Type 0 where
  pub parts : bytes ≡ public_text key rest
  pub left : IsBytes rest
  pub is : IsPublic key

public_is : (bytes : List ℕ) (x : PublicKey × List ℕ) → IsBytes bytes → public_at bytes ≡ Ok x → IsPublicFront bytes x.0 x.1
unfolding public_at
public_is bytes x small read =
    let a = bind_ok (number_at bytes) _ x read in
    let b = bind_ok (number_at a.0.1) _ x a.2 in
    let key : PublicKey = record { e = a.0.0; n = b.0.0 } in
    let made : PublicKey × List ℕ = (key, b.0.1) in
    let same : made ≡ x = cc (b.2) in
    let e = number_is bytes a.0 small a.1 in
    let n = number_is a.0.1 b.0 e.left b.1 in
    subst (λ (y : PublicKey × List ℕ). IsPublicFront bytes y.0 y.1) same (record {
      parts = behind bytes (string (signed a.0.0)) a.0.1 (string (signed b.0.0) ++ b.0.1) e.parts n.parts;
      left = n.left;
      is = record { e = e.is; n = n.is; fits_e = e.fits; fits_n = n.fits };
    })

plain_public_is : (bytes : List ℕ) (key : PublicKey) → IsBytes bytes → plain_public_at bytes ≡ Ok key
    → (bytes ≡ public_text key []) × IsPublic key
unfolding plain_public_at
plain_public_is bytes key small read =
    let a = bind_ok (public_at bytes) _ key read in
    let end = ended_or_is Unfit a.0.0 key a.0.1 a.2 in
    let front = public_is bytes a.0 small a.1 in
    subst (λ (k : PublicKey). (bytes ≡ public_text k []) × IsPublic k) end.1
    (front.parts ∙ ap (public_text a.0.0) end.0, front.is)

-- a certificate's nonce and key
record IsCertifiedFront (bytes : List ℕ) (key : PublicKey) (rest : List ℕ) : Type 0 where
  pub nonce : List ℕ
  pub text : bytes ≡ string nonce ++ public_text key rest
  pub is : IsPublic key
  pub fits : length nonce < 2 ^ 32

certified_public_is : (bytes : List ℕ) (x : PublicKey × List ℕ) → IsBytes bytes → certified_public_at bytes ≡ Ok x
    → IsCertifiedFront bytes x.0 x.1
unfolding certified_public_at
certified_public_is bytes x small read =
    let a = bind_ok (ok_or (string_at bytes) Unfit) _ x read in
    let nonce = text_front bytes a.0 small a.1 in
    let key = public_is a.0.1 x nonce.0.left a.2 in
    record {
      nonce = a.0.0;
      text = behind bytes (string a.0.0) a.0.1 (public_text x.0 x.1) nonce.0.parts key.parts;
      is = key.is;
      fits = nonce.1;
    }

-- ---- private numbers

-- four strings, the last of which nothing follows
four : (b0 b1 b2 b3 b4 d iqmp p q : List ℕ) → b0 ≡ d ++ b1 → b1 ≡ iqmp ++ b2 → b2 ≡ p ++ b3 → b3 ≡ q ++ b4 → b4 ≡ []
    → b0 ≡ d ++ (iqmp ++ (p ++ q))
four b0 b1 b2 b3 b4 d iqmp p q at0 at1 at2 at3 none =
    behind b0 d b1 (iqmp ++ (p ++ q)) at0 (behind b1 iqmp b2 (p ++ q) at1 (behind b2 p b3 q at2 (last b3 q b4 at3 none)))

private_is : (bytes : List ℕ) (key : PrivateKey) → IsBytes bytes → private_at bytes ≡ Ok key → IsPrivate bytes key
unfolding private_at
private_is bytes key small read =
    let a = bind_ok (secret_at bytes) _ key read in
    let b = bind_ok (secret_at a.0.1) _ key a.2 in
    let c = bind_ok (secret_at b.0.1) _ key b.2 in
    let d = bind_ok (secret_at c.0.1) _ key c.2 in
    let made : PrivateKey = record { d = a.0.0; iqmp = b.0.0; p = c.0.0; q = d.0.0 } in
    let end = ended_or_is Unfit made key d.0.1 d.2 in
    let first = secret_front bytes a.0 small a.1 in
    let second = secret_front a.0.1 b.0 first.left b.1 in
    let third = secret_front b.0.1 c.0 second.left c.1 in
    let fourth = secret_front c.0.1 d.0 third.left d.1 in
    subst (IsPrivate bytes) end.1 (record {
      d = first.text;
      iqmp = second.text;
      p = third.text;
      q = fourth.text;
      text_is = four bytes a.0.1 b.0.1 c.0.1 d.0.1 first.text second.text third.text fourth.text
          first.parts second.parts third.parts fourth.parts end.0;
      d_is = first.is;
      iqmp_is = second.is;
      p_is = third.is;
      q_is = fourth.is;
    })

-- ---- pairs

-- the public key again, and the private numbers
record IsPlainPrivate (key : PublicKey) (bytes : List ℕ) (private : PrivateKey) : Type 0 where
  pub numbers : List ℕ
  pub text : bytes ≡ string (signed key.n) ++ (string (signed key.e) ++ numbers)
  pub is : IsPrivate numbers private

plain_private_is : (key : PublicKey) (bytes : List ℕ) (private : PrivateKey) → IsBytes bytes
    → plain_private_at key bytes ≡ Ok private → IsPlainPrivate key bytes private
unfolding plain_private_at
plain_private_is key bytes private small read =
    let a = bind_ok (known_at (signed key.n) bytes) _ private read in
    let b = bind_ok (known_at (signed key.e) a.0) _ private a.2 in
    let n = known_front (signed key.n) bytes a.0 small a.1 in
    let e = known_front (signed key.e) a.0 b.0 n.0.left b.1 in
    record {
      numbers = b.0;
      text = behind bytes (string (signed key.n)) a.0 (string (signed key.e) ++ b.0) n.0.parts e.0.parts;
      is = private_is b.0 private e.0.left b.2;
    }

plain_is : (private blob rest : List ℕ) (pair : KeyPair) → IsBytes private → IsBytes rest
    → blob ≡ string (type_name Plain) ++ rest → plain_pair private rest ≡ Ok pair → IsPlain private blob pair
unfolding plain_pair
plain_is private blob rest pair small rest_small blob_is read =
    let a = bind_ok (plain_public_at rest) _ pair read in
    let b = bind_ok (known_at (type_name Plain) private) _ pair a.2 in
    let c = bind_ok (plain_private_at a.0 b.0) _ pair b.2 in
    let made : KeyPair = record { public = a.0; private = c.0 } in
    let same : made ≡ pair = cc (c.2) in
    let public = plain_public_is rest a.0 rest_small a.1 in
    let name = known_front (type_name Plain) private b.0 small b.1 in
    let numbers = plain_private_is a.0 b.0 c.0 name.0.left c.1 in
    subst (IsPlain private blob) same (record {
      numbers = numbers.numbers;
      blob_is = behind blob (string (type_name Plain)) rest (public_text a.0 []) blob_is public.0;
      private_is = behind private (string (type_name Plain)) b.0
          (string (signed a.0.n) ++ (string (signed a.0.e) ++ numbers.numbers)) name.0.parts numbers.text;
      key = public.1;
      secrets = numbers.is;
    })

certified_is : (private blob rest : List ℕ) (pair : KeyPair) → IsBytes private → IsBytes rest
    → blob ≡ string (type_name Certified) ++ rest → certified_pair private blob rest ≡ Ok pair → IsCertified private blob pair
unfolding certified_pair
certified_is private blob rest pair small rest_small blob_is read =
    let a = bind_ok (certified_public_at rest) _ pair read in
    let b = bind_ok (known_at (type_name Certified) private) _ pair a.2 in
    let c = bind_ok (known_at blob b.0) _ pair b.2 in
    let d = bind_ok (private_at c.0) _ pair c.2 in
    let made : KeyPair = record { public = a.0.0; private = d.0 } in
    let same : made ≡ pair = cc (d.2) in
    let public = certified_public_is rest a.0 rest_small a.1 in
    let name = known_front (type_name Certified) private b.0 small b.1 in
    let whole = known_front blob b.0 c.0 name.0.left c.1 in
    subst (IsCertified private blob) same (record {
      numbers = c.0;
      nonce = public.nonce;
      rest = a.0.1;
      blob_is = behind blob (string (type_name Certified)) rest (string public.nonce ++ public_text a.0.0 a.0.1) blob_is public.text;
      private_is = behind private (string (type_name Certified)) b.0 (string blob ++ c.0) name.0.parts whole.0.parts;
      key = public.is;
      secrets = private_is c.0 d.0 whole.0.left d.1;
      fits = (public.fits, whole.1);
    })

typed_is : (found : Option KeyType) (private blob name rest : List ℕ) (pair : KeyPair) → IsTyped name found
    → IsBytes private → IsBytes rest → blob ≡ string name ++ rest → pair_typed found private blob rest ≡ Ok pair → IsPair private blob pair
typed_is (Some Plain) private blob name rest pair (typed _ is) small rest_small blob_is read =
    inl (plain_is private blob rest pair small rest_small (blob_is ∙ ap (λ (n : List ℕ). string n ++ rest) is) read)
typed_is (Some Certified) private blob name rest pair (typed _ is) small rest_small blob_is read =
    inr (certified_is private blob rest pair small rest_small (blob_is ∙ ap (λ (n : List ℕ). string n ++ rest) is) read)
typed_is None private blob name rest pair neither small rest_small blob_is read = absurd cc

-- what is read is a key's
pub pair_is_found : (private blob : List ℕ) (pair : KeyPair) → IsBytes private → IsBytes blob → pair_in private blob ≡ Ok pair
    → IsPair private blob pair
unfolding pair_in
pair_is_found private blob pair small blob_small read =
    let a = bind_ok (ok_or (string_at blob) Unfit) _ pair read in
    let front = text_front blob a.0 blob_small a.1 in
    typed_is (type_named a.0.0) private blob a.0.0 a.0.1 pair (type_is a.0.0) small front.0.left front.0.parts a.2

-- ---- signatures

-- what is read is a signature
pub signature_is_found : (text : List ℕ) (signature : SignatureBytes) → IsBytes text → signature_in text ≡ Ok signature
    → IsSignature text signature
unfolding signature_in
signature_is_found text signature small read =
    let a = bind_ok (ok_or (string_at text) Unfit) _ signature read in
    let b = bind_ok (ok_or (algorithm_named a.0.0) Unfit) _ signature a.2 in
    let c = bind_ok (ok_or (string_at a.0.1) Unfit) _ signature b.2 in
    let made : SignatureBytes = record { algorithm = b.0; bytes = c.0.0 } in
    let end = ended_or_is Unfit made signature c.0.1 c.2 in
    let name = text_front text a.0 small a.1 in
    let bytes = text_front a.0.1 c.0 name.0.left c.1 in
    let name_is : a.0.0 ≡ algorithm_name b.0 = name_of a.0.0 b.0 (algorithm_named a.0.0) (algorithm_is a.0.0) (ok_or_ok (algorithm_named a.0.0) Unfit b.0 b.1) in
    subst (IsSignature text) end.1 (record {
      text_is = behind text (string a.0.0) a.0.1 (string c.0.0) name.0.parts (last a.0.1 (string c.0.0) c.0.1 bytes.0.parts end.0)
          ∙ ap (λ (n : List ℕ). string n ++ string c.0.0) name_is;
      fits = bytes.1;
    })
