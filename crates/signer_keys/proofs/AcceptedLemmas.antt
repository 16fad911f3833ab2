-- Lemmas on what is signed: the key that stands beside the private one accepts it.
use Rattle.std.proofs.Common.{◌≡◌, ◌+◌, ◌<◌, ℕ, Bool, true, false, ◌&&◌, if◌then◌else◌, zero, suc, List, ◌++◌, take, drop, length, Option, Some, None, Ok, refl, ap, subst, sym, ◌∙◌, arith}
use Rattle.std.proofs.lemmas.List.{length-append}
use Rattle.std.proofs.lemmas.Slice.Eq.{bytes_eq-Decides}
use Rattle.std.specs.Str.{bytes_eq}
use Rattle.child_msg.specs.Messages.{Signing}
use Rattle.ecdsa_laws.proofs.NumberLemmas.{range-says}
use Rattle.ecdsa_laws.proofs.P256AcceptedLemmas.{signature-accepted as p256-signature-accepted}
use Rattle.ecdsa_laws.proofs.P384AcceptedLemmas.{signature-accepted as p384-signature-accepted}
use Rattle.ecdsa_laws.proofs.P521AcceptedLemmas.{signature-accepted as p521-signature-accepted}
use Rattle.ecdsa_wire.specs.declared.names.Curve.TheVariants.{P256, P384, P521}
use Rattle.ecdsa_wire.specs.Reading.{KeyPair as EcdsaPair, pair_in as ecdsa_pair_in}
use Rattle.ed25519.specs.Keys.{public_key as ed25519_public_key}
use Rattle.ed25519.specs.Signatures.{commitment, response, signature as ed25519_bytes}
use Rattle.ed25519.specs.Verification.{accepts as ed25519_accepts}
use Rattle.ed25519_wire.specs.Reading.{KeyPair as Ed25519Pair, pair_in as ed25519_pair_in}
use Rattle.ed25519_wire.proofs.SignatureLemmas.{signature_is_read as ed25519-is-read}
use Rattle.eddsa_laws.proofs.AcceptedLemmas.{signature-accepted as ed25519-signature-accepted}
use Rattle.key_wire.specs.declared.fault.KeyFault.TheVariants.{Unfit}
use Rattle.key_wire.specs.Numbers.{IsMagnitude}
use Rattle.p256_ecdsa.specs.declared.sign.Pair.{Pair as P256Pair}
use Rattle.p256_ecdsa.specs.Keys.{in_range as p256_in_range, public_key as p256_public_key}
use Rattle.p256_ecdsa.specs.Signatures.{first_usable as p256_made, joined as p256_joined, signature as p256_bytes}
use Rattle.p256_ecdsa.specs.Verification.{accepts as p256_accepts}
use Rattle.p384_ecdsa.specs.declared.sign.Pair.{Pair as P384Pair}
use Rattle.p384_ecdsa.specs.Keys.{in_range as p384_in_range, public_key as p384_public_key}
use Rattle.p384_ecdsa.specs.Signatures.{first_usable as p384_made, joined as p384_joined, signature as p384_bytes}
use Rattle.p384_ecdsa.specs.Verification.{accepts as p384_accepts}
use Rattle.p521_ecdsa.specs.declared.sign.Pair.{Pair as P521Pair}
use Rattle.p521_ecdsa.specs.Keys.{in_range as p521_in_range, public_key as p521_public_key}
use Rattle.p521_ecdsa.specs.Signatures.{first_usable as p521_made, joined as p521_joined, signature as p521_bytes}
use Rattle.p521_ecdsa.specs.Verification.{accepts as p521_accepts}
use Rattle.rsa_octets.specs.Octets.{significant}
use Rattle.rsa_sign.specs.Keys.{signed}
use Rattle.rsa_verify.specs.Encoding.{info}
use Rattle.rsa_verify.specs.Verification.{accepts as rsa_key_accepts}
use Rattle.rsa_wire.specs.declared.names.Algorithm.{Algorithm}
use Rattle.rsa_wire.specs.Reading.{KeyPair as RsaPair, pair_in as rsa_pair_in}
use Rattle.rsa_wire.proofs.ReadLemmas.{signature_is_read as rsa-is-read}
use Rattle.sha2.specs.Sha256.{sha256}
use Rattle.sha2.specs.Sha512.{sha384, sha512}
use Rattle.signer_keys.specs.declared.types.Kind.TheVariants as kind
use Rattle.signer_keys.specs.Ecdsa.{ecdsa_signature, p256_judged, p256_point, p256_signature, p256_signed, p256_text, p384_judged, p384_point, p384_signature, p384_signed, p384_text, p521_judged, p521_point, p521_signature, p521_signed, p521_text}
use Rattle.signer_keys.specs.Ed25519.{ed25519_judged, ed25519_signature, ed25519_text}
use Rattle.signer_keys.specs.Numbers.{filled, signature_text, small}
use Rattle.signer_keys.specs.Rsa.{asked_for, hash_of, rsa_judged, rsa_signature, rsa_text}
use Rattle.signer_keys.specs.Signing.{signature_by}
use Rattle.signer_keys.proofs.SigningLemmas.{accepted-size, signed-accepted}
use Rattle.signer_keys.proofs.TextLemmas.{filled-whole, significant-magnitude, text-judged}
use Rattle.wide_words.specs.Numbers.{big_endian, octets}
use Rattle.wire_core.proofs.ReadingLemmas.{bind_ok, guard_ok, ok_or_ok}
use Rattle.words64.specs.Numbers.{octets as low_octets}

-- ---- Ed25519

low_octets-length : (n : ℕ) → length (low_octets n) ≡ 32
unfolding low_octets
low_octets-length n = refl

commitment-length : (seed message : List ℕ) → length (commitment seed message) ≡ 32
unfolding commitment
commitment-length seed message = low_octets-length _

ed25519-length : (seed message : List ℕ) → length (ed25519_bytes seed message) ≡ 64
unfolding ed25519_bytes
ed25519-length seed message =
    omega (
      arith,
      length-append (commitment seed message) (low_octets (response seed message)),
      low_octets-length (response seed message),
      commitment-length seed message,
    )

-- the signature by a seed, as SSH carries it
ed25519-accepted : (seed message : List ℕ) → ed25519_judged (ed25519_public_key seed) message (ed25519_text (ed25519_bytes seed message)) ≡ Ok true
unfolding ed25519_judged ed25519_text signature_text
ed25519-accepted seed message =
    let bytes = ed25519_bytes seed message in
    rw (
      ed25519-is-read (ed25519_text bytes) bytes (record { text_is = refl; sized = ed25519-length seed message }),
      ed25519-signature-accepted seed message,
    ) refl

-- the key of a signature's private string and blob accepts it
pub record IsByEd25519 (request : Signing) (text : List ℕ) : Type 0 where
  pub pair : Ed25519Pair
  pub read : ed25519_pair_in request.private request.blob ≡ Ok pair
  pub judged : ed25519_judged pair.public request.message text ≡ Ok true

pub ed25519-signs : (request : Signing) (text : List ℕ) → signature_by kind.Ed25519 request ≡ Ok text → IsByEd25519 request text
unfolding ed25519_signature
ed25519-signs request text is =
    let made = bind_ok (ed25519_signature request.private request.blob request.message) _ text is in
    let pair = bind_ok (ed25519_pair_in request.private request.blob) _ made.0 made.1 in
    let given = guard_ok (bytes_eq pair.0.public (ed25519_public_key pair.0.seed)) Unfit (ed25519_bytes pair.0.seed request.message) made.0 pair.2 in
    let key : pair.0.public ≡ ed25519_public_key pair.0.seed = (bytes_eq-Decides pair.0.public (ed25519_public_key pair.0.seed)).0 given.0 in
    let same : ed25519_text made.0 ≡ text = cc (made.2) in
    let text_is : ed25519_text (ed25519_bytes pair.0.seed request.message) ≡ text = ap ed25519_text given.1 ∙ same in
    record {
      pair = pair.0;
      read = pair.1;
      judged =
          ap (λ (k : List ℕ). ed25519_judged k request.message text) key
          ∙ ap (λ (t : List ℕ). ed25519_judged (ed25519_public_key pair.0.seed) request.message t) (sym text_is)
          ∙ ed25519-accepted pair.0.seed request.message;
    }

-- ---- ECDSA

given-same : (same : Bool) (point key bytes : List ℕ) (given : Option (List ℕ)) → bytes_eq point key ≡ same
    → (if same then given else None) ≡ Some bytes → (point ≡ key) × (given ≡ Some bytes)
given-same true point key bytes given is some = ((bytes_eq-Decides point key).0 is, some)
given-same false point key bytes given is some = absurd cc

-- what a signature was given for
given-parts : (within : Bool) (point key bytes : List ℕ) (given : Option (List ℕ))
    → (if within && bytes_eq point key then given else None) ≡ Some bytes
    → (within ≡ true) × (point ≡ key) × (given ≡ Some bytes)
given-parts true point key bytes given is =
    let parts = given-same (bytes_eq point key) point key bytes given refl is in
    (refl, parts.0, parts.1)
given-parts false point key bytes given is = absurd cc

-- both numbers are in range where a signature is accepted
both-in-range : (r s meets : Bool) → (if r then (if s then meets else false) else false) ≡ true → (r ≡ true) × (s ≡ true)
both-in-range true true meets is = (refl, refl)
both-in-range true false meets is = cc is
both-in-range false s meets is = cc is

octets-length : (len n : ℕ) → length (octets len n) ≡ len
unfolding octets
octets-length zero n = refl
octets-length (suc len) n = ap suc (octets-length len n)

two-length : (len r s : ℕ) → length (octets len r ++ octets len s) ≡ len + len
two-length len r s = omega (arith, length-append (octets len r) (octets len s), octets-length len r, octets-length len s)

-- ---- P-256

p256-joined : (made : Option P256Pair) (bytes : List ℕ) → p256_joined made ≡ Some bytes → length bytes ≡ 32 + 32
unfolding p256_joined
p256-joined (Some pair) bytes is =
    let same : octets 32 pair.r ++ octets 32 pair.s ≡ bytes = cc (is) in
    ap length (sym same) ∙ two-length 32 pair.r pair.s
p256-joined None bytes is = absurd cc

p256-length : (d : ℕ) (hash bytes : List ℕ) → p256_bytes d hash ≡ Some bytes → length bytes ≡ 32 + 32
unfolding p256_bytes
p256-length d hash bytes is = p256-joined (p256_made d hash) bytes is

p256-some : (point message bytes : List ℕ) → p256_accepts point message bytes ≡ true
    → (0 < big_endian (take 32 bytes)) × (0 < big_endian (take 32 (drop 32 bytes)))
unfolding p256_accepts p256_in_range
p256-some point message bytes is =
    let r = big_endian (take 32 bytes) in
    let s = big_endian (take 32 (drop 32 bytes)) in
    let both = both-in-range (p256_in_range r) (p256_in_range s) _ is in
    ((range-says r _ both.0).0, (range-says s _ both.1).0)

-- r and s by a private number, as SSH carries them
p256-accepted : (d : ℕ) (point message bytes : List ℕ) → p256_signed d point message ≡ Some bytes
    → p256_judged point message (p256_text bytes) ≡ Ok true
p256-accepted d point message bytes is =
    let given = given-parts (p256_in_range d) point (p256_public_key d) bytes (p256_bytes d (sha256 message)) is in
    let accepted : p256_accepts point message bytes ≡ true =
    ap (λ (k : List ℕ). p256_accepts k message bytes) given.1 ∙ p256-signature-accepted d message bytes given.0 given.2 in
    let some = p256-some point message bytes accepted in
    text-judged P256 32 p256_accepts point message bytes (omega arith) (p256-length d (sha256 message) bytes given.2) some.0 some.1
    ∙ ap (λ (b : Bool). Ok b) accepted

pub record IsByP256 (request : Signing) (text : List ℕ) : Type 0 where
  pub pair : EcdsaPair
  pub point : List ℕ
  pub read : ecdsa_pair_in request.private request.blob ≡ Ok pair
  pub point_is : p256_point pair.curve pair.point ≡ Ok point
  pub judged : p256_judged point request.message text ≡ Ok true

pub p256-signs : (request : Signing) (text : List ℕ) → signature_by kind.EcdsaP256 request ≡ Ok text → IsByP256 request text
unfolding ecdsa_signature
p256-signs request text is =
    let made = bind_ok (p256_signature request.private request.blob request.message) _ text is in
    let pair = bind_ok (ecdsa_pair_in request.private request.blob) _ made.0 made.1 in
    let point = bind_ok (p256_point pair.0.curve pair.0.point) _ made.0 pair.2 in
    let number = bind_ok (filled 32 pair.0.secret) _ made.0 point.2 in
    let given = ok_or_ok (p256_signed (big_endian number.0) point.0 request.message) Unfit made.0 number.2 in
    let same : p256_text made.0 ≡ text = cc (made.2) in
    record {
      pair = pair.0;
      point = point.0;
      read = pair.1;
      point_is = point.1;
      judged = subst (λ (t : List ℕ). p256_judged point.0 request.message t ≡ Ok true) same
          (p256-accepted (big_endian number.0) point.0 request.message made.0 given);
    }

-- ---- P-384

p384-joined : (made : Option P384Pair) (bytes : List ℕ) → p384_joined made ≡ Some bytes → length bytes ≡ 48 + 48
unfolding p384_joined
p384-joined (Some pair) bytes is =
    let same : octets 48 pair.r ++ octets 48 pair.s ≡ bytes = cc (is) in
    ap length (sym same) ∙ two-length 48 pair.r pair.s
p384-joined None bytes is = absurd cc

p384-length : (d : ℕ) (hash bytes : List ℕ) → p384_bytes d hash ≡ Some bytes → length bytes ≡ 48 + 48
unfolding p384_bytes
p384-length d hash bytes is = p384-joined (p384_made d hash) bytes is

p384-some : (point message bytes : List ℕ) → p384_accepts point message bytes ≡ true
    → (0 < big_endian (take 48 bytes)) × (0 < big_endian (take 48 (drop 48 bytes)))
unfolding p384_accepts p384_in_range
p384-some point message bytes is =
    let r = big_endian (take 48 bytes) in
    let s = big_endian (take 48 (drop 48 bytes)) in
    let both = both-in-range (p384_in_range r) (p384_in_range s) _ is in
    ((range-says r _ both.0).0, (range-says s _ both.1).0)

-- r and s by a private number, as SSH carries them
p384-accepted : (d : ℕ) (point message bytes : List ℕ) → p384_signed d point message ≡ Some bytes
    → p384_judged point message (p384_text bytes) ≡ Ok true
p384-accepted d point message bytes is =
    let given = given-parts (p384_in_range d) point (p384_public_key d) bytes (p384_bytes d (sha384 message)) is in
    let accepted : p384_accepts point message bytes ≡ true =
    ap (λ (k : List ℕ). p384_accepts k message bytes) given.1 ∙ p384-signature-accepted d message bytes given.0 given.2 in
    let some = p384-some point message bytes accepted in
    text-judged P384 48 p384_accepts point message bytes (omega arith) (p384-length d (sha384 message) bytes given.2) some.0 some.1
    ∙ ap (λ (b : Bool). Ok b) accepted

pub record IsByP384 (request : Signing) (text : List ℕ) : Type 0 where
  pub pair : EcdsaPair
  pub point : List ℕ
  pub read : ecdsa_pair_in request.private request.blob ≡ Ok pair
  pub point_is : p384_point pair.curve pair.point ≡ Ok point
  pub judged : p384_judged point request.message text ≡ Ok true

pub p384-signs : (request : Signing) (text : List ℕ) → signature_by kind.EcdsaP384 request ≡ Ok text → IsByP384 request text
unfolding ecdsa_signature
p384-signs request text is =
    let made = bind_ok (p384_signature request.private request.blob request.message) _ text is in
    let pair = bind_ok (ecdsa_pair_in request.private request.blob) _ made.0 made.1 in
    let point = bind_ok (p384_point pair.0.curve pair.0.point) _ made.0 pair.2 in
    let number = bind_ok (filled 48 pair.0.secret) _ made.0 point.2 in
    let given = ok_or_ok (p384_signed (big_endian number.0) point.0 request.message) Unfit made.0 number.2 in
    let same : p384_text made.0 ≡ text = cc (made.2) in
    record {
      pair = pair.0;
      point = point.0;
      read = pair.1;
      point_is = point.1;
      judged = subst (λ (t : List ℕ). p384_judged point.0 request.message t ≡ Ok true) same
          (p384-accepted (big_endian number.0) point.0 request.message made.0 given);
    }

-- ---- P-521

p521-joined : (made : Option P521Pair) (bytes : List ℕ) → p521_joined made ≡ Some bytes → length bytes ≡ 66 + 66
unfolding p521_joined
p521-joined (Some pair) bytes is =
    let same : octets 66 pair.r ++ octets 66 pair.s ≡ bytes = cc (is) in
    ap length (sym same) ∙ two-length 66 pair.r pair.s
p521-joined None bytes is = absurd cc

p521-length : (d : ℕ) (hash bytes : List ℕ) → p521_bytes d hash ≡ Some bytes → length bytes ≡ 66 + 66
unfolding p521_bytes
p521-length d hash bytes is = p521-joined (p521_made d hash) bytes is

p521-some : (point message bytes : List ℕ) → p521_accepts point message bytes ≡ true
    → (0 < big_endian (take 66 bytes)) × (0 < big_endian (take 66 (drop 66 bytes)))
unfolding p521_accepts p521_in_range
p521-some point message bytes is =
    let r = big_endian (take 66 bytes) in
    let s = big_endian (take 66 (drop 66 bytes)) in
    let both = both-in-range (p521_in_range r) (p521_in_range s) _ is in
    ((range-says r _ both.0).0, (range-says s _ both.1).0)

-- r and s by a private number, as SSH carries them
p521-accepted : (d : ℕ) (point message bytes : List ℕ) → p521_signed d point message ≡ Some bytes
    → p521_judged point message (p521_text bytes) ≡ Ok true
p521-accepted d point message bytes is =
    let given = given-parts (p521_in_range d) point (p521_public_key d) bytes (p521_bytes d (sha512 message)) is in
    let accepted : p521_accepts point message bytes ≡ true =
    ap (λ (k : List ℕ). p521_accepts k message bytes) given.1 ∙ p521-signature-accepted d message bytes given.0 given.2 in
    let some = p521-some point message bytes accepted in
    text-judged P521 66 p521_accepts point message bytes (omega arith) (p521-length d (sha512 message) bytes given.2) some.0 some.1
    ∙ ap (λ (b : Bool). Ok b) accepted

pub record IsByP521 (request : Signing) (text : List ℕ) : Type 0 where
  pub pair : EcdsaPair
  pub point : List ℕ
  pub read : ecdsa_pair_in request.private request.blob ≡ Ok pair
  pub point_is : p521_point pair.curve pair.point ≡ Ok point
  pub judged : p521_judged point request.message text ≡ Ok true

pub p521-signs : (request : Signing) (text : List ℕ) → signature_by kind.EcdsaP521 request ≡ Ok text → IsByP521 request text
unfolding ecdsa_signature
p521-signs request text is =
    let made = bind_ok (p521_signature request.private request.blob request.message) _ text is in
    let pair = bind_ok (ecdsa_pair_in request.private request.blob) _ made.0 made.1 in
    let point = bind_ok (p521_point pair.0.curve pair.0.point) _ made.0 pair.2 in
    let number = bind_ok (filled 66 pair.0.secret) _ made.0 point.2 in
    let given = ok_or_ok (p521_signed (big_endian number.0) point.0 request.message) Unfit made.0 number.2 in
    let same : p521_text made.0 ≡ text = cc (made.2) in
    record {
      pair = pair.0;
      point = point.0;
      read = pair.1;
      point_is = point.1;
      judged = subst (λ (t : List ℕ). p521_judged point.0 request.message t ≡ Ok true) same
          (p521-accepted (big_endian number.0) point.0 request.message made.0 given);
    }

-- ---- RSA

-- an accepted signature, as SSH carries it
rsa-accepted : (pair : RsaPair) (e : ℕ) (algorithm : Algorithm) (message bytes : List ℕ) → IsMagnitude pair.public.n
    → small pair.public.e ≡ Ok e → rsa_key_accepts (significant pair.public.n) e (info (hash_of algorithm) message) bytes ≡ true
    → rsa_judged pair.public message (rsa_text algorithm bytes) ≡ Ok true
unfolding rsa_judged rsa_text signature_text
rsa-accepted pair e algorithm message bytes whole e_is accepted =
    let n = pair.public.n in
    let same : significant n ≡ n = significant-magnitude n whole in
    let by_n : rsa_key_accepts n e (info (hash_of algorithm) message) bytes ≡ true =
    subst (λ (m : List ℕ). rsa_key_accepts m e (info (hash_of algorithm) message) bytes ≡ true) same accepted in
    let size = accepted-size n e (info (hash_of algorithm) message) bytes by_n in
    rw (
      rsa-is-read (rsa_text algorithm bytes) (record { algorithm = algorithm; bytes = bytes })
          (record { text_is = refl; fits = omega (arith, size.1) }),
      e_is,
      filled-whole (length n) bytes (size.0 ∙ ap length same),
      by_n,
    ) refl

pub record IsByRsa (request : Signing) (text : List ℕ) : Type 0 where
  pub pair : RsaPair
  pub read : rsa_pair_in request.private request.blob ≡ Ok pair
  pub judged : IsMagnitude pair.public.n → rsa_judged pair.public request.message text ≡ Ok true

pub rsa-signs : (request : Signing) (text : List ℕ) → signature_by kind.Rsa request ≡ Ok text → IsByRsa request text
unfolding rsa_signature
rsa-signs request text is =
    let algorithm = asked_for request.flags in
    let made = bind_ok (rsa_signature request.private request.blob algorithm request.message) _ text is in
    let pair = bind_ok (rsa_pair_in request.private request.blob) _ made.0 made.1 in
    let e = bind_ok (small pair.0.public.e) _ made.0 pair.2 in
    let key = pair.0.private in
    let given = ok_or_ok (signed pair.0.public.n e.0 key.d key.p key.q key.iqmp (info (hash_of algorithm) request.message)) Unfit made.0 e.2 in
    let accepted = signed-accepted pair.0.public.n e.0 key.d key.p key.q key.iqmp (info (hash_of algorithm) request.message) made.0 given in
    let same : rsa_text algorithm made.0 ≡ text = cc (made.2) in
    record {
      pair = pair.0;
      read = pair.1;
      judged = λ whole.
          subst (λ (t : List ℕ). rsa_judged pair.0.public request.message t ≡ Ok true) same
          (rsa-accepted pair.0 e.0 algorithm request.message made.0 whole e.1 accepted);
    }
