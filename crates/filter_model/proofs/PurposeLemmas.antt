-- What is put to the agent behind is for the purposes that are given.
use Rattle.std.proofs.Common.{◌≡◌, ◌∙◌, ◌&&◌, ◌++◌, ◌∷◌, ◌<◌, ◌≤◌, ◌^◌, ℕ, Bool, true, false, cond, List, [], All, Option, Some, None, length, refl, sym, ap, subst, arith}
use Rattle.std.specs.List.{filter, list_any}
use Rattle.std.specs.Str.{bytes_eq}
use Rattle.std.specs.Option.{IfSome}
use Rattle.std.specs.Prelude.{not}
use Rattle.std.proofs.lemmas.Bool.{and_parts, not-true}
use Rattle.std.proofs.lemmas.List.{length-append}
use Rattle.std.proofs.lemmas.List.Elements.{All-cons, All-head, All-nil, All-tail}
use Rattle.wire_text.specs.Bounds.{longest_body}
use Rattle.wire_text.specs.Frames.{IsBody, frames}
use Rattle.wire_text.specs.Wire.{IsBytes, string, uint32}
use Rattle.wire_text.proofs.WireLemmas.{length-string}
use Rattle.agent_msg.specs.Requests.{IsSigning, Sign, Signing}
use Rattle.agent_msg.proofs.ReadLemmas.{request_is_read}
use Rattle.key_purposes.specs.declared.purpose.Purpose.{Purpose}
use Rattle.key_purposes.specs.Messages.{are_for, is_by_sha1}
use Rattle.key_purposes.proofs.MessageLemmas.{one_is}
use Rattle.filter_model.specs.Lists.{Listed}
use Rattle.filter_model.specs.Pairs.{Pair}
use Rattle.filter_model.specs.Filters.{find_pair, first_state, has_number, run}
use Rattle.filter_model.specs.Watching.{IsExact, Watched, has_purpose, is_forwarded, may_pass, watched_of}
use Rattle.filter_model.specs.KeptPurposes.{EachKeepsPurposes, IsSignedFor, KeepsPurposes}
use Rattle.filter_model.proofs.PairLemmas.{Holds}
use Rattle.filter_model.proofs.WatchLemmas.{Good, listed-run, run-good}

-- ---- parts of bytes

front_bytes : (xs ys : List ℕ) → IsBytes (xs ++ ys) → IsBytes xs
front_bytes [] ys bytes = All-nil (λ byte. byte < 256)
front_bytes (x ∷ xs) ys bytes =
    All-cons (λ byte. byte < 256) x xs (All-head (λ byte. byte < 256) x (xs ++ ys) bytes) (front_bytes xs ys (All-tail (λ byte. byte < 256) x (xs ++ ys) bytes))

back_bytes : (xs ys : List ℕ) → IsBytes (xs ++ ys) → IsBytes ys
back_bytes [] ys bytes = bytes
back_bytes (x ∷ xs) ys bytes = back_bytes xs ys (All-tail (λ byte. byte < 256) x (xs ++ ys) bytes)

text_bytes : (text : List ℕ) → IsBytes (string text) → IsBytes text
unfolding string
text_bytes text bytes = back_bytes (uint32 (length text)) text bytes

-- bodies whose frames are bytes are bytes
body_bytes : (bodies : List (List ℕ)) → IsBytes (frames bodies) → All IsBytes bodies
body_bytes [] bytes = All-nil IsBytes
body_bytes (body ∷ bodies) bytes =
    All-cons IsBytes body bodies (text_bytes body (front_bytes (string body) (frames bodies) bytes)) (body_bytes bodies (back_bytes (string body) (frames bodies) bytes))

-- ---- a signing request

message_bytes : (body : List ℕ) (signing : Signing) → IsSigning body signing → IsBytes body → IsBytes signing.message
message_bytes body signing is bytes =
    let fields = All-tail (λ byte. byte < 256) 13 (string signing.blob ++ (string signing.message ++ uint32 signing.flags)) (subst IsBytes is.printed bytes) in
    let later = back_bytes (string signing.blob) (string signing.message ++ uint32 signing.flags) fields in
    text_bytes signing.message (front_bytes (string signing.message) (uint32 signing.flags) later)

blob_bytes : (body : List ℕ) (signing : Signing) → IsSigning body signing → IsBytes body → IsBytes signing.blob
blob_bytes body signing is bytes =
    let fields = All-tail (λ byte. byte < 256) 13 (string signing.blob ++ (string signing.message ++ uint32 signing.flags)) (subst IsBytes is.printed bytes) in
    text_bytes signing.blob (front_bytes (string signing.blob) (string signing.message ++ uint32 signing.flags) fields)

message_short : (body : List ℕ) (signing : Signing) → IsSigning body signing → length body ≤ longest_body → length signing.message < 2 ^ 30
message_short body signing is within =
    omega (
      arith,
      within,
      ap length is.printed,
      length-append (string signing.blob) (string signing.message ++ uint32 signing.flags),
      length-append (string signing.message) (uint32 signing.flags),
      length-string signing.message,
    )

and_right : (here later : Bool) → (here && later) ≡ true → later ≡ true
and_right true later both = both
and_right false later both = absurd cc

-- ---- all that is forwarded

module _ (listed : Listed) (purposes : List Purpose) (given : listed.purposes ≡ Some purposes) where
  -- a body that is forwarded is for one of the purposes, where it is a signing request
  forwarded_is_for : (body : List ℕ) → IsBody longest_body body → IsBytes body → is_forwarded listed body ≡ true → IsSignedFor purposes body
  forwarded_is_for body is bytes forwarded = λ signing signs.
      let passes = sym (ap (may_pass listed) (request_is_read body (Sign signing) signs)) ∙ forwarded in
      let has = and_right (list_any (bytes_eq signing.blob) listed.blobs) (has_purpose listed.purposes signing) passes in
      let both = and_parts (not (is_by_sha1 signing.blob signing.flags)) (are_for purposes signing.message signing.blob)
      (sym (ap (λ (p : Option (List Purpose)). has_purpose p signing) given) ∙ has) in
      record {
        for_one = (one_is signing.message signing.blob (message_bytes body signing signs bytes) (blob_bytes body signing signs bytes)
            (message_short body signing signs is.within) purposes).0 both.1;
        hashed = not-true (is_by_sha1 signing.blob signing.flags) both.0;
      }

  one_more : (body : List ℕ) (taken : List (List ℕ)) (test : Bool) → IsBody longest_body body → IsBytes body → is_forwarded listed body ≡ test
      → All (IsSignedFor purposes) (filter (is_forwarded listed) taken)
      → All (IsSignedFor purposes) (cond test (body ∷ filter (is_forwarded listed) taken) (filter (is_forwarded listed) taken))
  one_more body taken true is bytes forwarded rest = All-cons (IsSignedFor purposes) body (filter (is_forwarded listed) taken) (forwarded_is_for body is bytes forwarded) rest
  one_more body taken false is bytes forwarded rest = rest

  each_is_for : (taken : List (List ℕ)) → All (IsBody longest_body) taken → All IsBytes taken → All (IsSignedFor purposes) (filter (is_forwarded listed) taken)
  each_is_for [] are bytes = All-nil (IsSignedFor purposes)
  each_is_for (body ∷ taken) are bytes =
      one_more body taken (is_forwarded listed body) (All-head (IsBody longest_body) body taken are) (All-head IsBytes body taken bytes) refl
      (each_is_for taken (All-tail (IsBody longest_body) body taken are) (All-tail IsBytes body taken bytes))

-- ---- a pair

pub keeps : (listed : Listed) (watched : Watched) → Holds listed watched → KeepsPurposes listed watched
keeps listed watched holds = λ purposes given.
    let e : IsExact listed watched = holds.exact in
    record {
      bodies = filter (is_forwarded listed) e.taken;
      put = e.to_upstream;
      each = each_is_for listed purposes given e.taken e.are_bodies
          (body_bytes e.taken (front_bytes (frames e.taken) watched.pair.client.heard (subst IsBytes e.from_client holds.heard_bytes)));
    }

good-keeps : (listed : Listed) (number last : ℕ) (found : Option Pair) (spare : Bool) (watched : Option Watched) → Good listed number last found spare watched → IfSome watched (KeepsPurposes listed)
good-keeps listed number last found spare None good = tt
good-keeps listed number last found spare (Some watched) good = keeps listed watched good.1.holds

pub each_keeps_purposes : EachKeepsPurposes
each_keeps_purposes listed events number range fit =
    good-keeps listed number (run (first_state listed) events).last_pair (find_pair number (run (first_state listed) events).pairs) (has_number number (run (first_state listed) events).spares) _
    (subst (λ l. Good l number (run (first_state listed) events).last_pair (find_pair number (run (first_state listed) events).pairs) (has_number number (run (first_state listed) events).spares) (watched_of number listed events)) (listed-run (first_state listed) events)
    (run-good number (first_state listed) None events range fit refl))
