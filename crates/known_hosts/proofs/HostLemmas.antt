-- Host fields, by their tests and by the grammar.
use Rattle.std.proofs.Common.{◌≡◌, ◌≢◌, inl, inr, ℕ, ◌<◌, nat_eq, Bool, true, false, cond, List, [], ◌∷◌, ◌++◌, drop, Option, Some, None, refl, ap, subst, ◌∙◌}
use Rattle.std.specs.List.{starts_with}
use Rattle.std.proofs.lemmas.Bool.Decides.{Decides-eqb}
use Rattle.std.proofs.lemmas.Slice.Eq.{starts_is, bytes_eq-Decides}
use Rattle.sha1.specs.Sha1.{sha1}
use Rattle.hmac_core.specs.Hmac.{hmac}
use Rattle.wire_text.specs.Wire.{IsBytes}
use Rattle.key_file.specs.Base64.{IsBase64, bytes_of}
use Rattle.key_file.proofs.Base64Lemmas.{decoded_is, base64_is_decoded}
use Rattle.key_file.proofs.Base64Letters.{no_bar}
use Rattle.key_file.proofs.PartLemmas.{HasNo, cut_cases, parts-at, parts-whole, front_all, rest_all}
use Rattle.key_file.specs.PublicLines.{parts}
use Rattle.pattern_core.specs.PatternLists.{lowered}
use Rattle.known_hosts.proofs.ListLemmas.{in_list}
use Rattle.known_hosts.specs.Hosts.{hashed_mark, TakesIn, by_hash, by_list, is_in_list, is_digest, is_hash, is_hash_in, is_hashed, takes_in}

-- ---- hashed hosts

record IsDigest (salt digest : Option (List ℕ)) (message : List ℕ) : Type 0 where
  key : List ℕ
  salt_is : salt ≡ Some key
  digest_is : digest ≡ Some (hmac sha1 key message)

digest_of : (salt digest : Option (List ℕ)) (message : List ℕ)
    → is_digest salt digest message ≡ true → IsDigest salt digest message
digest_of None digest message e = absurd cc
digest_of (Some salt) None message e = absurd cc
digest_of (Some salt) (Some digest) message e =
    record { key = salt; salt_is = refl; digest_is = ap (λ (d : List ℕ). Some d) ((bytes_eq-Decides digest (hmac sha1 salt message)).0 e) }

-- what follows `|1|` is a salt and a digest
record IsHash (text host : List ℕ) : Type 0 where
  salt : List ℕ
  salt_text : List ℕ
  digest_text : List ℕ
  whole : text ≡ salt_text ++ 124 ∷ digest_text
  salt_is : IsBase64 salt_text salt
  digest_is : IsBase64 digest_text (hmac sha1 salt (lowered host))

hash_by : (text host salt_text digest_text : List ℕ) → IsBytes text
    → text ≡ salt_text ++ 124 ∷ digest_text → is_hash salt_text digest_text (lowered host) ≡ true →
    IsHash text host
unfolding is_hash
hash_by text host salt_text digest_text small whole e =
    let digest = digest_of (bytes_of salt_text) (bytes_of digest_text) (lowered host) e in
    let both : IsBytes (salt_text ++ 124 ∷ digest_text) = subst IsBytes whole small in
    let behind : IsBytes digest_text = rest_all (λ byte. byte < 256) (124 ∷ []) digest_text (rest_all (λ byte. byte < 256) salt_text (124 ∷ digest_text) both) in
    record {
      salt = digest.key;
      salt_text = salt_text;
      digest_text = digest_text;
      whole = whole;
      salt_is = decoded_is salt_text digest.key (front_all (λ byte. byte < 256) salt_text (124 ∷ digest_text) both) digest.salt_is;
      digest_is = decoded_is digest_text (hmac sha1 digest.key (lowered host)) behind digest.digest_is;
    }

three_parts : (salt digest more : List ℕ) (rest message : List ℕ)
    → is_hash_in (salt ∷ digest ∷ parts 124 rest) message ≡ true → ⊥
three_parts salt digest more rest message e = elim (cut_cases 124 rest) [
  | inl none ↦ absurd (cc (rw (parts-whole 124 rest none) at e))
  | inr cut ↦
      let split = ap (parts 124) cut.whole ∙ parts-at 124 cut.front cut.rest cut.free in
      absurd (cc (rw split at e))
]

hash_of : (text host : List ℕ) → IsBytes text → is_hashed text (lowered host) ≡ true
    → IsHash text host
unfolding is_hashed
hash_of text host small e = elim (cut_cases 124 text) [
  | inl none ↦ absurd (cc (rw (parts-whole 124 text none) at e))
  | inr cut ↦
      let split = ap (parts 124) cut.whole ∙ parts-at 124 cut.front cut.rest cut.free in
      let two = rw split at e in
      elim (cut_cases 124 cut.rest) [
        | inl none ↦ hash_by text host cut.front cut.rest small cut.whole (rw (parts-whole 124 cut.rest none) at two)
        | inr next ↦
            let more = ap (parts 124) next.whole ∙ parts-at 124 next.front next.rest next.free in
            absurd (three_parts cut.front next.front [] next.rest (lowered host) (rw more at two))
      ]
]

hash_again : (text host : List ℕ) → IsHash text host → is_hashed text (lowered host) ≡ true
unfolding is_hashed is_hash
hash_again text host is =
    let salt_free : HasNo 124 is.salt_text = no_bar is.salt_text is.salt is.salt_is in
    let digest_free : HasNo 124 is.digest_text = no_bar is.digest_text (hmac sha1 is.salt (lowered host)) is.digest_is in
    let digest = hmac sha1 is.salt (lowered host) in
    rw (
      is.whole,
      parts-at 124 is.salt_text is.digest_text salt_free,
      parts-whole 124 is.digest_text digest_free,
      base64_is_decoded is.salt_text is.salt is.salt_is,
      base64_is_decoded is.digest_text digest is.digest_is,
    ) ((bytes_eq-Decides digest digest).1 refl)

-- ---- the field

pub takes_in_is : (field host : List ℕ) → IsBytes field → takes_in field host ≡ true
    → TakesIn field host
unfolding takes_in
takes_in_is field host small e = by_test (starts_with nat_eq field hashed_mark) refl e
  where
    by_test : (test : Bool) → starts_with nat_eq field hashed_mark ≡ test
        → cond test (is_hashed (drop 3 field) (lowered host)) (is_in_list host field) ≡ true →
        TakesIn field host
    by_test true begins e =
        let whole = (starts_is Decides-eqb field hashed_mark _ refl).0 begins in
        let behind : IsBytes (drop 3 field) = rest_all (λ byte. byte < 256) hashed_mark (drop 3 field) (subst IsBytes whole small) in
        let hash = hash_of (drop 3 field) host behind e in
        by_hash field host (record {
          salt = hash.salt;
          salt_text = hash.salt_text;
          digest_text = hash.digest_text;
          field_is = whole ∙ ap (λ (t : List ℕ). hashed_mark ++ t) hash.whole;
          salt_is = hash.salt_is;
          digest_is = hash.digest_is;
        })
    by_test false begins e =
        by_list field host (λ text same. let is = (starts_is Decides-eqb field hashed_mark _ refl).1 text same in cc (begins, is)) ((in_list host field).0 e)

begins_false : (field : List ℕ) (test : Bool) → starts_with nat_eq field hashed_mark ≡ test
    → ((text : List ℕ) → field ≢ hashed_mark ++ text) → test ≡ false
begins_false field true begins other = absurd (other (drop 3 field) ((starts_is Decides-eqb field hashed_mark _ refl).0 begins))
begins_false field false begins other = refl

pub takes_in_again : (field host : List ℕ) → TakesIn field host → takes_in field host ≡ true
unfolding takes_in
takes_in_again field host (by_hash f h is) =
    let begins = (starts_is Decides-eqb field hashed_mark _ refl).1 (is.salt_text ++ 124 ∷ is.digest_text) is.field_is in
    let behind : drop 3 field ≡ is.salt_text ++ 124 ∷ is.digest_text = ap (drop 3) is.field_is in
    let hash : IsHash (drop 3 field) host = record {
      salt = is.salt;
      salt_text = is.salt_text;
      digest_text = is.digest_text;
      whole = behind;
      salt_is = is.salt_is;
      digest_is = is.digest_is;
    } in
    rw begins (hash_again (drop 3 field) host hash)
takes_in_again field host (by_list f h other matches) =
    rw (begins_false field (starts_with nat_eq field hashed_mark) refl other) ((in_list host field).1 matches)
