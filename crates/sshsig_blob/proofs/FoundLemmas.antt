-- What is read is the signed data of a file's signature.
use Rattle.std.proofs.Common.{◌≡◌, ◌≢◌, ℕ, ◌^◌, ◌<◌, Bool, true, false, cond, eqb, List, [], ◌∷◌, ◌++◌, length, take, drop, Some, None, Ok, refl, sym, ap, subst, ◌∙◌, inl, inr}
use Rattle.std.specs.Prelude.{codes}
use Rattle.std.specs.Option.{ok_or}
use Rattle.std.specs.Str.{bytes_eq}
use Rattle.std.proofs.lemmas.Bool.{eqb-true}
use Rattle.std.proofs.lemmas.List.{append-nil, take-append-drop}
use Rattle.std.proofs.lemmas.Slice.Eq.{bytes_eq-Decides}
use Rattle.wire_text.specs.Wire.{IsBytes, string}
use Rattle.wire_core.specs.Fields.{string_at}
use Rattle.wire_core.proofs.Theorems.{string_is_front}
use Rattle.wire_core.proofs.ReadingLemmas.{bind_ok, bytes_behind, guard_ok, ok_or_ok, ended_or_is}
use Rattle.sshsig_blob.specs.declared.fault.SshsigFault.TheVariants.{Preamble, Short, HashAlgorithm, Digest, Trailing}
use Rattle.sshsig_blob.specs.FileSignatures.{Signing, preamble, IsHashed, IsSshsig}
use Rattle.sshsig_blob.specs.Reading.{after_preamble, text_at, if_some, namespace_at, digest_len, hash_at, if_long, digest_at, signing_of}

-- a string at the front of bytes, and its text
record IsText (bytes text rest : List ℕ) : Type 0 where
  pub parts : bytes ≡ string text ++ rest
  pub left : IsBytes rest
  pub small : length text < 2 ^ 32

text_is : (bytes : List ℕ) (x : List ℕ × List ℕ) → IsBytes bytes → text_at bytes ≡ Ok x → IsText bytes x.0 x.1
text_is bytes x small read =
    let f = string_is_front bytes x.0 x.1 small (ok_or_ok (string_at bytes) Short x read) in
    record { parts = f.0.parts; left = f.0.left; small = f.1 }

preamble_is : (message fields : List ℕ) → IsBytes message → after_preamble message ≡ Ok fields → (message ≡ preamble ++ fields) × IsBytes fields
unfolding after_preamble
preamble_is message fields small read =
    let g = guard_ok (bytes_eq (take 6 message) preamble) Preamble (drop 6 message) fields read in
    let front = (bytes_eq-Decides (take 6 message) preamble).0 g.0 in
    let whole : message ≡ preamble ++ fields =
    sym (take-append-drop 6 message) ∙ ap (λ (f : List ℕ). f ++ drop 6 message) front ∙ ap (λ (r : List ℕ). preamble ++ r) g.1 in
    (whole, bytes_behind message preamble fields small whole)

namespace_is : (bytes : List ℕ) (x : List ℕ × List ℕ) → IsBytes bytes → namespace_at bytes ≡ Ok x → IsText bytes x.0 x.1 × (x.0 ≢ [])
unfolding namespace_at
namespace_is bytes x small read =
    let a = bind_ok (text_at bytes) (λ text. if_some text.0 text.1) x read in
    some a.0 (text_is bytes a.0 small a.1) a.2
  where
    some : (text : List ℕ × List ℕ) → IsText bytes text.0 text.1 → if_some text.0 text.1 ≡ Ok x → IsText bytes x.0 x.1 × (x.0 ≢ [])
    some ([], rest) is e = absurd cc
    some (byte ∷ namespace, rest) is e =
        let made : List ℕ × List ℕ = (byte ∷ namespace, rest) in
        let same : made ≡ x = cc in
        subst (λ (y : List ℕ × List ℕ). IsText bytes y.0 y.1 × (y.0 ≢ [])) same (is, λ none. absurd cc)

-- the hash algorithm of digests of so many bytes
len_is : (algorithm digest : List ℕ) (len : ℕ) → digest_len algorithm ≡ Some len → length digest ≡ len → IsHashed algorithm digest
unfolding digest_len
len_is algorithm digest len named long = first (bytes_eq algorithm (codes "sha256")) refl
  where
    second : (b : Bool) → bytes_eq algorithm (codes "sha256") ≡ false → bytes_eq algorithm (codes "sha512") ≡ b → IsHashed algorithm digest
    second true other e =
        let name : algorithm ≡ codes "sha512" = (bytes_eq-Decides algorithm (codes "sha512")).0 e in
        let given : cond (bytes_eq algorithm (codes "sha256")) (Some 32) (cond (bytes_eq algorithm (codes "sha512")) (Some 64) None) ≡ Some len = named in
        let size : len ≡ 64 = cc in
        inr (name, long ∙ size)
    second false other e =
        let given : cond (bytes_eq algorithm (codes "sha256")) (Some 32) (cond (bytes_eq algorithm (codes "sha512")) (Some 64) None) ≡ Some len = named in
        absurd cc

    first : (b : Bool) → bytes_eq algorithm (codes "sha256") ≡ b → IsHashed algorithm digest
    first true e =
        let given : cond (bytes_eq algorithm (codes "sha256")) (Some 32) (cond (bytes_eq algorithm (codes "sha512")) (Some 64) None) ≡ Some len = named in
        let size : len ≡ 32 = cc in
        inl ((bytes_eq-Decides algorithm (codes "sha256")).0 e, long ∙ size)
    first false e = second (bytes_eq algorithm (codes "sha512")) e refl

-- the hash algorithm, and how long its digests are
record IsHash (bytes algorithm : List ℕ) (len : ℕ) (rest : List ℕ) : Type 0 where
  pub text : IsText bytes algorithm rest
  pub named : digest_len algorithm ≡ Some len

hash_is : (bytes : List ℕ) (x : (List ℕ × ℕ) × List ℕ) → IsBytes bytes → hash_at bytes ≡ Ok x → IsHash bytes x.0.0 x.0.1 x.1
unfolding hash_at
hash_is bytes x small read =
    let a = bind_ok (text_at bytes) _ x read in
    let b = bind_ok (ok_or (digest_len a.0.0) HashAlgorithm) _ x a.2 in
    let made : (List ℕ × ℕ) × List ℕ = ((a.0.0, b.0), a.0.1) in
    let same : made ≡ x = cc in
    subst (λ (y : (List ℕ × ℕ) × List ℕ). IsHash bytes y.0.0 y.0.1 y.1) same
    (record { text = text_is bytes a.0 small a.1; named = ok_or_ok (digest_len a.0.0) HashAlgorithm b.0 b.1 })

digest_is : (len : ℕ) (bytes : List ℕ) (x : List ℕ × List ℕ) → IsBytes bytes → digest_at len bytes ≡ Ok x → IsText bytes x.0 x.1 × (length x.0 ≡ len)
unfolding digest_at
digest_is len bytes x small read =
    let a = bind_ok (text_at bytes) (if_long len) x read in
    let g = guard_ok (eqb (length a.0.0) len) Digest a.0 x a.2 in
    subst (λ (y : List ℕ × List ℕ). IsText bytes y.0 y.1 × (length y.0 ≡ len)) g.1 (text_is bytes a.0 small a.1, eqb-true (length a.0.0) len g.0)

-- four strings behind the preamble, the last of which nothing follows
whole : (message a b c d e n r h t : List ℕ) → message ≡ preamble ++ a → a ≡ string n ++ b → b ≡ string r ++ c → c ≡ string h ++ d → d ≡ string t ++ e → e ≡ []
    → message ≡ preamble ++ (string n ++ (string r ++ (string h ++ string t)))
whole message a b c d e n r h t at_message at_a at_b at_c at_d none = rw (at_message, at_a, at_b, at_c, at_d, none, append-nil (string t)) refl

-- what is read is the signed data of a file's signature
pub sshsig_is_found : (message : List ℕ) (signed : Signing) → IsBytes message → signing_of message ≡ Ok signed → IsSshsig message signed
unfolding signing_of
sshsig_is_found message signed small read =
    let a = bind_ok (after_preamble message) _ signed read in
    let b = bind_ok (namespace_at a.0) _ signed a.2 in
    let c = bind_ok (text_at b.0.1) _ signed b.2 in
    let d = bind_ok (hash_at c.0.1) _ signed c.2 in
    let e = bind_ok (digest_at d.0.0.1 d.0.1) _ signed d.2 in
    let made : Signing = record { namespace = b.0.0; reserved = c.0.0; hash_algorithm = d.0.0.0; digest = e.0.0 } in
    let end = ended_or_is Trailing made signed e.0.1 e.2 in
    let front = preamble_is message a.0 small a.1 in
    let namespace = namespace_is a.0 b.0 front.1 b.1 in
    let reserved = text_is b.0.1 c.0 namespace.0.left c.1 in
    let hash = hash_is c.0.1 d.0 reserved.left d.1 in
    let digest = digest_is d.0.0.1 d.0.1 e.0 hash.text.left e.1 in
    subst (λ (made_signing : Signing). IsSshsig message made_signing) end.1 (record {
      text = whole message a.0 b.0.1 c.0.1 d.0.1 e.0.1 b.0.0 c.0.0 d.0.0.0 e.0.0 front.0 namespace.0.parts reserved.parts hash.text.parts digest.0.parts end.0;
      some_namespace = namespace.1;
      hashed = len_is d.0.0.0 e.0.0 d.0.0.1 hash.named digest.1;
      short_namespace = namespace.0.small;
      short_reserved = reserved.small;
    })
