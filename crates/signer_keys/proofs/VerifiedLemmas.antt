-- Lemmas on specs/Laws.antt: what is signed verifies by the key of the blob.
use Rattle.std.proofs.Common.{◌≡◌, ℕ, Bool, true, false, ◌||◌, if◌then◌else◌, List, Option, Some, None, Result, Ok, Err, refl, ap, sym, ◌∙◌}
use Rattle.child_msg.specs.Messages.{FromChildMessage, Sign, Signed, Signing}
use Rattle.child_msg.specs.Reading.{to_child_of}
use Rattle.helper_core.specs.declared.asked.Asked.{Asked}
use Rattle.helper_core.specs.declared.asked.Asked.TheVariants.{Signature}
use Rattle.helper_core.specs.Routes.{Answered, HandedOn}
use Rattle.key_wire.specs.declared.fault.KeyFault.{KeyFault}
use Rattle.signer_keys.specs.Answers.{route_of}
use Rattle.signer_keys.specs.declared.types.Kind.{Kind}
use Rattle.signer_keys.specs.declared.types.Kind.TheVariants as kind
use Rattle.signer_keys.specs.declared.types.KeyType.{KeyType}
use Rattle.signer_keys.specs.declared.types.KeyType.TheVariants.{Plain, Certified}
use Rattle.signer_keys.specs.declared.verifying.Verdict.TheVariants.{Right}
use Rattle.signer_keys.specs.Laws.{accepted_by, public_typed}
use Rattle.signer_keys.specs.Signing.{signature_by, signature_for, signature_typed, signed_by}
use Rattle.signer_keys.specs.Types.{is_known, kind_of, type_of}
use Rattle.signer_keys.specs.Verifying.{PublicKey, judged, plain_public, plain_verdict, signs, verdict_of}
use Rattle.signer_keys.proofs.AcceptedLemmas.{ed25519-signs, p256-signs, p384-signs, p521-signs, rsa-signs}
use Rattle.signer_keys.proofs.AnswerLemmas.{route_of-sign}
use Rattle.signer_keys.proofs.PublicLemmas.{ed25519-certified, ed25519-plain, p256-certified, p256-plain, p384-certified, p384-plain, p521-certified, p521-plain, rsa-certified, rsa-plain}
use Rattle.signer_keys.proofs.TypeLemmas.{IsTyped, typed}
use Rattle.wire_core.specs.Fields.{string_at}
use Rattle.wire_core.specs.Readings.{◌>>=◌}
use Rattle.wire_core.proofs.ReadingLemmas.{bind_ok}

-- by the type of the blob
signed-by-type : (key : KeyType) (request : Signing) (text : List ℕ) → IsTyped key (string_at request.blob)
    → signature_by (kind_of key) request ≡ Ok text
    → (public_typed (Some key) request.blob >>= λ public. judged public request.message text) ≡ Ok true
signed-by-type (Plain kind.Ed25519) request text typed is =
    let by = ed25519-signs request text is in
    rw (ed25519-plain request.private request.blob by.pair typed by.read) by.judged
signed-by-type (Certified kind.Ed25519) request text typed is =
    let by = ed25519-signs request text is in
    rw (ed25519-certified request.private request.blob by.pair typed by.read) by.judged
signed-by-type (Plain kind.EcdsaP256) request text typed is =
    let by = p256-signs request text is in
    rw (p256-plain request.private request.blob by.point by.pair typed by.read by.point_is) by.judged
signed-by-type (Certified kind.EcdsaP256) request text typed is =
    let by = p256-signs request text is in
    rw (p256-certified request.private request.blob by.point by.pair typed by.read by.point_is) by.judged
signed-by-type (Plain kind.EcdsaP384) request text typed is =
    let by = p384-signs request text is in
    rw (p384-plain request.private request.blob by.point by.pair typed by.read by.point_is) by.judged
signed-by-type (Certified kind.EcdsaP384) request text typed is =
    let by = p384-signs request text is in
    rw (p384-certified request.private request.blob by.point by.pair typed by.read by.point_is) by.judged
signed-by-type (Plain kind.EcdsaP521) request text typed is =
    let by = p521-signs request text is in
    rw (p521-plain request.private request.blob by.point by.pair typed by.read by.point_is) by.judged
signed-by-type (Certified kind.EcdsaP521) request text typed is =
    let by = p521-signs request text is in
    rw (p521-certified request.private request.blob by.point by.pair typed by.read by.point_is) by.judged
signed-by-type (Plain kind.Rsa) request text typed is =
    let by = rsa-signs request text is in
    let key = rsa-plain request.private request.blob by.pair typed by.read in
    rw key.0 (by.judged key.1)
signed-by-type (Certified kind.Rsa) request text typed is =
    let by = rsa-signs request text is in
    let key = rsa-certified request.private request.blob by.pair typed by.read in
    rw key.0 (by.judged key.1)

signed-by-known : (found : Option KeyType) (request : Signing) (text : List ℕ) → type_of request.blob ≡ found
    → signature_typed found request ≡ Ok text
    → (public_typed found request.blob >>= λ public. judged public request.message text) ≡ Ok true
signed-by-known (Some key) request text found is = signed-by-type key request text (typed request.blob key found) is
signed-by-known None request text found is = absurd cc

-- what is signed is accepted by the key of the blob
pub signed-verifies : (request : Signing) (text : List ℕ) → signature_for request ≡ Ok text
    → accepted_by request.blob request.message text ≡ Ok true
unfolding signature_for accepted_by
signed-verifies request text is = signed-by-known (type_of request.blob) request text refl is

-- ---- of a plain key

signs-right : (key : Result PublicKey KeyFault) (message text : List ℕ) → (key >>= λ public. judged public message text) ≡ Ok true
    → plain_verdict key message text ≡ Right
unfolding signs
signs-right (Ok key) message text is = rw is refl
signs-right (Err fault) message text is = absurd cc

-- a plain key's signature is right to who asks for a verification
pub signed-is-right : (kind : Kind) (request : Signing) (text : List ℕ) → type_of request.blob ≡ Some (Plain kind)
    → signature_for request ≡ Ok text → verdict_of request.blob request.message text ≡ Right
unfolding verdict_of accepted_by
signed-is-right kind request text typed is =
    let verified : (public_typed (Some (Plain kind)) request.blob >>= λ public. judged public request.message text) ≡ Ok true =
    ap (λ (t : Option KeyType). public_typed t request.blob >>= λ public. judged public request.message text) (sym typed)
    ∙ signed-verifies request text is in
    rw typed (signs-right (plain_public kind request.blob) request.message text verified)

-- ---- of an answer

-- what is answered is what was made
answer-is : (known : Bool) (ask : ℕ) (made : Result (List ℕ) KeyFault) (asked : Asked) (text : List ℕ)
    → (if known then Answered (signed_by ask made) else HandedOn asked) ≡ Answered (Signed ask text) → made ≡ Ok text
answer-is true ask (Ok given) asked text is =
    let same : given ≡ text = cc (is) in
    ap (λ (t : List ℕ). Ok t) same
answer-is true ask (Err fault) asked text is = absurd cc
answer-is false ask made asked text is = absurd cc

-- a signature that is answered is accepted by the key of the request's blob
pub answer-verifies : (body : List ℕ) (request : Signing) (text : List ℕ) → to_child_of body ≡ Ok (Sign request)
    → route_of body ≡ Answered (Signed request.ask text) → accepted_by request.blob request.message text ≡ Ok true
answer-verifies body request text read is =
    signed-verifies request text
    (answer-is (is_known request.blob || is_known request.private) request.ask (signature_for request) (Signature request.ask) text
    (sym (route_of-sign body request read) ∙ is))
