-- The signed data of a file's signature is read.
use Rattle.std.proofs.Common.{◌≡◌, ◌≢◌, ℕ, ◌^◌, ◌<◌, List, [], ◌∷◌, ◌++◌, length, Some, Ok, refl, lit<, inl, inr}
use Rattle.std.proofs.lemmas.Bool.{eq-eqb}
use Rattle.wire_text.specs.Wire.{string}
use Rattle.wire_core.proofs.Theorems.{string_at-string}
use Rattle.wire_core.proofs.ReadingLemmas.{string_at-alone}
use Rattle.sshsig_blob.specs.FileSignatures.{Signing, preamble, IsHashed, IsSshsig}
use Rattle.sshsig_blob.specs.Reading.{after_preamble, text_at, namespace_at, digest_len, hash_at, digest_at, signing_of}

preamble_again : (rest : List ℕ) → after_preamble (preamble ++ rest) ≡ Ok rest
unfolding after_preamble
preamble_again rest = refl

text_again : (text rest : List ℕ) → length text < 2 ^ 32 → text_at (string text ++ rest) ≡ Ok (text, rest)
text_again text rest small = rw (string_at-string text rest small) refl

namespace_again : (namespace rest : List ℕ) → length namespace < 2 ^ 32 → namespace ≢ [] → namespace_at (string namespace ++ rest) ≡ Ok (namespace, rest)
unfolding namespace_at
namespace_again [] rest small some = absurd (some refl)
namespace_again (byte ∷ namespace) rest small some = rw (string_at-string (byte ∷ namespace) rest small) refl

-- how long the digests of a hash algorithm are
len_again : (algorithm digest : List ℕ) → IsHashed algorithm digest → digest_len algorithm ≡ Some (length digest)
unfolding digest_len
len_again algorithm digest (inl is) = rw (is.0, is.1) refl
len_again algorithm digest (inr is) = rw (is.0, is.1) refl

pub short_algorithm : (algorithm digest : List ℕ) → IsHashed algorithm digest → length algorithm < 2 ^ 32
short_algorithm algorithm digest (inl is) = rw is.0 (lit< tt)
short_algorithm algorithm digest (inr is) = rw is.0 (lit< tt)

pub short_digest : (algorithm digest : List ℕ) → IsHashed algorithm digest → length digest < 2 ^ 32
short_digest algorithm digest (inl is) = rw is.1 (lit< tt)
short_digest algorithm digest (inr is) = rw is.1 (lit< tt)

hash_again : (algorithm digest rest : List ℕ) → IsHashed algorithm digest → hash_at (string algorithm ++ rest) ≡ Ok ((algorithm, length digest), rest)
unfolding hash_at
hash_again algorithm digest rest is =
    rw (string_at-string algorithm rest (short_algorithm algorithm digest is), len_again algorithm digest is) refl

digest_again : (digest : List ℕ) → length digest < 2 ^ 32 → digest_at (length digest) (string digest) ≡ Ok (digest, [])
unfolding digest_at
digest_again digest small = rw (string_at-alone digest small, eq-eqb (length digest) (length digest) refl) refl

-- the signed data of a file's signature is read
pub sshsig_is_read : (message : List ℕ) (signed : Signing) → IsSshsig message signed → signing_of message ≡ Ok signed
unfolding signing_of
sshsig_is_read message signed is =
    rw (
      is.text,
      preamble_again _,
      namespace_again signed.namespace _ is.short_namespace is.some_namespace,
      text_again signed.reserved _ is.short_reserved,
      hash_again signed.hash_algorithm signed.digest _ is.hashed,
      digest_again signed.digest (short_digest signed.hash_algorithm signed.digest is.hashed),
    ) refl
