-- What is in the grammar is read.
use Rattle.std.proofs.Common.{◌≡◌, ℕ, ◌^◌, ◌<◌, List, ◌∷◌, ◌++◌, length, Ok, inl, inr, refl, sym, ap, ◌∙◌, lit<}
use Rattle.std.proofs.lemmas.Bool.{ne_eqb}
use Rattle.wire_text.specs.Wire.{uint32, string}
use Rattle.wire_core.proofs.Theorems.{string_at-string}
use Rattle.constraint_rec.proofs.Theorems.{terms_are_read}
use Rattle.key_blob.proofs.Theorems.{added_is_read}
use Rattle.agent_msg.specs.Reading.{text_at_end, request_of, request_of_number}
use Rattle.agent_msg.specs.Requests.{Signing, Addition, ClientRequest, ListIdentities, Sign, Add, Remove, RemoveAll, Lock, Unlock, Bind, OtherExtension, Unsupported, IsPlainAddition, IsConstrainedAddition, IsOfOtherNumber, IsRequest, session_bind}
use Rattle.agent_msg.proofs.BindLemmas.{bind_is_read, extension_is_read}
use Rattle.wire_core.proofs.ReadingLemmas.{uint32_at-alone, string_at-alone}

-- a string alone is read
text_at_end-string : (text : List ℕ) → length text < 2 ^ 32 → text_at_end (string text) ≡ Ok text
text_at_end-string text fits = rw (string_at-alone text fits) refl

-- SIGN_REQUEST is read
signing_is_read : (signing : Signing) → length signing.blob < 2 ^ 32 → length signing.message < 2 ^ 32 → signing.flags < 2 ^ 32
    → request_of (13 ∷ (string signing.blob ++ (string signing.message ++ uint32 signing.flags))) ≡ Ok (Sign signing)
unfolding request_of request_of_number
signing_is_read signing blob_fits message_fits flags_fit =
    rw (
      string_at-string signing.blob (string signing.message ++ uint32 signing.flags) blob_fits,
      string_at-string signing.message (uint32 signing.flags) message_fits,
      uint32_at-alone signing.flags flags_fit,
    ) refl

-- ADD_IDENTITY is read
plain_is_read : (body : List ℕ) (addition : Addition) → IsPlainAddition body addition → request_of body ≡ Ok (Add addition)
unfolding request_of request_of_number
plain_is_read body addition is =
    rw (is.printed, added_is_read addition.key (string addition.comment) is.key, string_at-alone addition.comment is.comment_fits, sym is.unconstrained) refl

-- ADD_ID_CONSTRAINED is read
constrained_is_read : (body : List ℕ) (addition : Addition) → IsConstrainedAddition body addition → request_of body ≡ Ok (Add addition)
unfolding request_of request_of_number
constrained_is_read body addition is =
    rw (
      is.printed,
      added_is_read addition.key (string addition.comment ++ is.constraints) is.key,
      string_at-string addition.comment is.constraints is.comment_fits,
      terms_are_read is.constraints addition.terms is.constrained,
    ) refl

-- a request of another number is read
other_is_read : (body : List ℕ) (number : ℕ) → IsOfOtherNumber body number → request_of body ≡ Ok (Unsupported number)
unfolding request_of request_of_number
other_is_read body number is =
    rw (
      is.printed,
      ne_eqb number 11 (is.other 0 0 (lit< tt)),
      ne_eqb number 13 (is.other 1 0 (lit< tt)),
      ne_eqb number 17 (is.other 2 0 (lit< tt)),
      ne_eqb number 18 (is.other 3 0 (lit< tt)),
      ne_eqb number 19 (is.other 4 0 (lit< tt)),
      ne_eqb number 22 (is.other 5 0 (lit< tt)),
      ne_eqb number 23 (is.other 6 0 (lit< tt)),
      ne_eqb number 25 (is.other 7 0 (lit< tt)),
      ne_eqb number 27 (is.other 8 0 (lit< tt)),
    ) refl

-- a request is read
pub request_is_read : (body : List ℕ) (request : ClientRequest) → IsRequest body request → request_of body ≡ Ok request
unfolding request_of request_of_number session_bind
request_is_read body ListIdentities is = ap request_of is
request_is_read body (Sign signing) is =
    ap request_of is.printed ∙ signing_is_read signing is.blob_fits is.message_fits is.flags_fit
request_is_read body (Add addition) is =
    elim is [
      | inl plain ↦ plain_is_read body addition plain
      | inr constrained ↦ constrained_is_read body addition constrained
    ]
request_is_read body (Remove blob) is = rw (is.printed, text_at_end-string blob is.fits) refl
request_is_read body RemoveAll is = ap request_of is
request_is_read body (Lock passphrase) is = rw (is.printed, text_at_end-string passphrase is.fits) refl
request_is_read body (Unlock passphrase) is = rw (is.printed, text_at_end-string passphrase is.fits) refl
request_is_read body (Bind bind) is = bind_is_read body bind (lit< tt) is
request_is_read body (OtherExtension name) is = extension_is_read body name is
request_is_read body (Unsupported number) is = other_is_read body number is
