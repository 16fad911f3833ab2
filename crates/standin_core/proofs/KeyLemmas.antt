-- Lemmas on specs/Keys.antt.
use Rattle.std.proofs.Common.{◌≡◌, true, false, Bool, ℕ, ◌+◌, List, [], ◌∷◌, ◌++◌, length, drop, take, Option, Some, None, is_some, if◌then◌else◌, refl, ap, sym, ◌∙◌, append_assoc, take-append-drop, arith, eqb, MatchOption, Bor}
use Rattle.std.proofs.lemmas.Bool.Decides.{nat_tests, Decides-eqb}
use Rattle.std.proofs.lemmas.List.{drop_at, take_at, length-append, length-drop}
use Rattle.std.proofs.lemmas.Slice.Eq.{bytes_eq-Decides, slice_eq-Decides}
use Rattle.std.specs.Cmp.Lexicographic.{pointwise}
use Rattle.std.specs.Str.{bytes_eq}
use Rattle.standin_core.specs.Keys.{HasNoFront, IsBlob, IsPrivate, blob_of, secret_of, tag_of, type_name}
use Rattle.wire_text.specs.Wire.{string, uint32}

-- ---- fronts

-- what a test of the front says
tested : (bytes front : List ℕ) → pointwise eqb (take (length front) bytes) front ≡ true
    → bytes ≡ front ++ drop (length front) bytes
tested bytes front same =
    let is = (slice_eq-Decides Decides-eqb (take (length front) bytes) front (pointwise eqb (take (length front) bytes) front) refl).0 same in
    sym (take-append-drop (length front) bytes) ∙ ap (λ (f : List ℕ). f ++ drop (length front) bytes) is

missing : (bytes front : List ℕ) → pointwise eqb (take (length front) bytes) front ≡ false
    → HasNoFront front bytes
missing bytes front differ rest whole =
    let is : take (length front) bytes ≡ front = ap (take (length front)) whole ∙ take_at front rest (length front) refl in
    let same = (slice_eq-Decides Decides-eqb (take (length front) bytes) front (pointwise eqb (take (length front) bytes) front) refl).1 is in
    cc (same, differ)

pub behind_by : (result : Option (Bor (List ℕ))) (front bytes : List ℕ)
    → MatchOption result (pointwise eqb (take (length front) bytes) front ≡ false) (λ x. (pointwise eqb (take (length front) bytes) front ≡ true) × (x.now ≡ drop (length front) bytes) × (length x.now + length front ≡ length bytes))
    → MatchOption result (HasNoFront front bytes) (λ rest. bytes ≡ front ++ rest.now)
behind_by None front bytes differ = missing bytes front differ
behind_by (Some x) front bytes same =
    tested bytes front same.0 ∙ ap (λ (r : List ℕ). front ++ r) (sym same.1)

-- the rest behind a front is one
pub same_rest : (front a b : List ℕ) → front ++ a ≡ front ++ b → a ≡ b
same_rest front a b same =
    sym (drop_at front a (length front) refl) ∙ ap (drop (length front)) same ∙ drop_at front b (length front) refl

-- ---- texts

-- the type's name as a string, and the length of the 32 bytes that follow it
abbrev pub head : List ℕ
head = 0 ∷ 0 ∷ 0 ∷ 24 ∷ 107 ∷ 101 ∷ 121 ∷ 101 ∷ 100 ∷ 45 ∷ 115 ∷ 104 ∷ 97 ∷ 50 ∷ 53 ∷ 54 ∷ 64 ∷ 101 ∷ 120 ∷ 97 ∷ 109 ∷ 112 ∷ 108 ∷ 101 ∷ 46 ∷ 99 ∷ 111 ∷ 109 ∷ 0 ∷ 0 ∷ 0 ∷ 32 ∷ []

head-is : string type_name ++ uint32 32 ≡ head
unfolding string uint32
head-is = refl

-- the length of 32 bytes
abbrev pub length_32 : List ℕ
length_32 = 0 ∷ 0 ∷ 0 ∷ 32 ∷ []

length_32-is : uint32 32 ≡ length_32
unfolding uint32
length_32-is = refl

-- a string of 32 bytes
pub string-of_32 : (text : List ℕ) → length text ≡ 32 → string text ≡ length_32 ++ text
unfolding string
string-of_32 text sized =
    ap (λ (n : ℕ). uint32 n ++ text) sized ∙ ap (λ (n : List ℕ). n ++ text) length_32-is

-- a blob, and a signature, begin with the head
pub headed : (text : List ℕ) → length text ≡ 32 → string type_name ++ string text ≡ head ++ text
unfolding string
headed text sized =
    ap (λ (n : ℕ). string type_name ++ (uint32 n ++ text)) sized
    ∙ sym (append_assoc (string type_name) (uint32 32) text) ∙ ap (λ (h : List ℕ). h ++ text) head-is

-- ---- tests

-- what a choice gave
chosen : {A : Type 0} (test : Bool) (x y : A) → (if test then Some x else None) ≡ Some y
    → (test ≡ true) × (x ≡ y)
chosen true x y is = (refl, cc is)
chosen false x y is = cc is

-- what holds of no value
none_of : {A : Type 0} (o : Option A) → ((x : A) → o ≡ Some x → ⊥) → o ≡ None
none_of None none = refl
none_of (Some x) none = absurd (none x refl)

-- the equality of bytes, as a test
same_bytes : (a b : List ℕ) → a ≡ b → bytes_eq a b ≡ true
same_bytes a b same = (bytes_eq-Decides a b).1 same

-- ---- blobs

pub tag_of-found : (blob tag : List ℕ) → IsBlob blob tag → tag_of blob ≡ Some tag
unfolding tag_of
tag_of-found blob tag is =
    let split : blob ≡ head ++ tag = is.whole ∙ headed tag is.sized in
    let tail : drop 32 blob ≡ tag = ap (drop 32) split ∙ drop_at head tag 32 refl in
    let long : length blob ≡ 64 = omega (arith, ap length split, length-append head tag, is.sized) in
    let same : bytes_eq blob (blob_of (drop 32 blob)) ≡ true = same_bytes blob (blob_of (drop 32 blob)) (is.whole ∙ ap blob_of (sym tail)) in
    grind (arith, nat_tests, long, same, tail)

pub tag_of-only : (blob tag : List ℕ) → tag_of blob ≡ Some tag → IsBlob blob tag
unfolding tag_of
tag_of-only blob tag found =
    let tests = chosen _ _ _ found in
    let long : length blob ≡ 64 = grind (arith, nat_tests, tests.0) in
    let same : bytes_eq blob (blob_of (drop 32 blob)) ≡ true = grind (arith, nat_tests, tests.0) in
    record {
      whole = (bytes_eq-Decides blob (blob_of (drop 32 blob))).0 same ∙ ap blob_of tests.1;
      sized = omega (arith, ap length tests.1, length-drop 32 blob, long);
    }

-- no tag
pub tag_of-none : (blob : List ℕ) → HasNoFront head blob → tag_of blob ≡ None
tag_of-none blob none = none_of (tag_of blob) (λ tag found.
    let is = tag_of-only blob tag found in
    none tag (is.whole ∙ headed tag is.sized))

-- a tag of another length
pub tag_of-other : (blob rest : List ℕ) → blob ≡ head ++ rest → (length rest ≡ 32 → ⊥)
    → tag_of blob ≡ None
tag_of-other blob rest whole other = none_of (tag_of blob) (λ tag found.
    let is = tag_of-only blob tag found in
    let same = same_rest head rest tag (sym whole ∙ is.whole ∙ headed tag is.sized) in
    other (ap length same ∙ is.sized))

-- a tag of 32 bytes
pub tag_of-some : (blob tag : List ℕ) → blob ≡ head ++ tag → length tag ≡ 32
    → tag_of blob ≡ Some tag
tag_of-some blob tag whole sized =
    tag_of-found blob tag (record { whole = whole ∙ sym (headed tag sized); sized = sized })

-- ---- private strings

pub secret_of-found : (private blob secret : List ℕ) → IsPrivate private blob secret
    → secret_of private blob ≡ Some secret
unfolding secret_of
secret_of-found private blob secret is =
    let public = tag_of-found blob is.tag is.blob_is in
    let with_blob : private ≡ blob ++ string secret = is.whole ∙ ap (λ (b : List ℕ). b ++ string secret) (sym is.blob_is.whole) in
    let blob_long : length blob ≡ 64 = omega (arith, ap length (is.blob_is.whole ∙ headed is.tag is.blob_is.sized), length-append head is.tag, is.blob_is.sized) in
    let split : private ≡ (blob ++ length_32) ++ secret =
    with_blob ∙ ap (λ (s : List ℕ). blob ++ s) (string-of_32 secret is.sized) ∙ sym (append_assoc blob length_32 secret) in
    let front_long : length (blob ++ length_32) ≡ 68 = omega (arith, length-append blob length_32, blob_long) in
    let tail : drop 68 private ≡ secret = ap (drop 68) split ∙ drop_at (blob ++ length_32) secret 68 front_long in
    let long : length private ≡ 100 = omega (arith, ap length split, length-append (blob ++ length_32) secret, front_long, is.sized) in
    let same : bytes_eq private (blob ++ string (drop 68 private)) ≡ true =
    same_bytes private (blob ++ string (drop 68 private)) (with_blob ∙ ap (λ (s : List ℕ). blob ++ string s) (sym tail)) in
    grind (arith, nat_tests, public, long, same, tail)

-- the tag that is there
some_tag : (blob : List ℕ) (o : Option (List ℕ)) → tag_of blob ≡ o → is_some o ≡ true
    → (tag : List ℕ) × (tag_of blob ≡ Some tag)
some_tag blob None is some = cc some
some_tag blob (Some tag) is some = (tag, is)

pub secret_of-only : (private blob secret : List ℕ) → secret_of private blob ≡ Some secret
    → IsPrivate private blob secret
unfolding secret_of
secret_of-only private blob secret found =
    let tests = chosen _ _ _ found in
    let public : is_some (tag_of blob) ≡ true = grind (arith, nat_tests, tests.0) in
    let long : length private ≡ 100 = grind (arith, nat_tests, tests.0) in
    let same : bytes_eq private (blob ++ string (drop 68 private)) ≡ true = grind (arith, nat_tests, tests.0) in
    let tag = some_tag blob (tag_of blob) refl public in
    let is = tag_of-only blob tag.0 tag.1 in
    record {
      tag = tag.0;
      blob_is = is;
      whole =
          (bytes_eq-Decides private (blob ++ string (drop 68 private))).0 same
          ∙ ap (λ (s : List ℕ). blob ++ string s) tests.1
          ∙ ap (λ (b : List ℕ). b ++ string secret) is.whole;
      sized = omega (arith, ap length tests.1, length-drop 68 private, long);
    }

-- what a private string with this blob is
private_with : (private blob secret : List ℕ) → IsPrivate private blob secret
    → private ≡ blob ++ (length_32 ++ secret)
private_with private blob secret is =
    is.whole ∙ ap (λ (b : List ℕ). b ++ string secret) (sym is.blob_is.whole) ∙ ap (λ (s : List ℕ). blob ++ s) (string-of_32 secret is.sized)

-- no stand-in key has this blob
pub secret_of-no_tag : (private blob : List ℕ) → tag_of blob ≡ None → secret_of private blob ≡ None
secret_of-no_tag private blob none = none_of (secret_of private blob) (λ secret found.
    let is = secret_of-only private blob secret found in
    let some = tag_of-found blob is.tag is.blob_is in
    cc (some, none))

-- the blob doesn't stand in front
pub secret_of-no_blob : (private blob : List ℕ) → HasNoFront blob private
    → secret_of private blob ≡ None
secret_of-no_blob private blob none = none_of (secret_of private blob) (λ secret found.
    none (length_32 ++ secret) (private_with private blob secret (secret_of-only private blob secret found)))

-- no length stands behind it
pub secret_of-no_length : (private blob rest : List ℕ) → private ≡ blob ++ rest
    → HasNoFront length_32 rest → secret_of private blob ≡ None
secret_of-no_length private blob rest whole none = none_of (secret_of private blob) (λ secret found.
    none secret (same_rest blob rest (length_32 ++ secret) (sym whole ∙ private_with private blob secret (secret_of-only private blob secret found))))

-- a secret of another length
pub secret_of-other : (private blob rest tail : List ℕ) → private ≡ blob ++ rest
    → rest ≡ length_32 ++ tail → (length tail ≡ 32 → ⊥) → secret_of private blob ≡ None
secret_of-other private blob rest tail whole behind other = none_of (secret_of private blob) (λ secret found.
    let is = secret_of-only private blob secret found in
    let same = same_rest blob rest (length_32 ++ secret) (sym whole ∙ private_with private blob secret is) in
    other (ap length (same_rest length_32 tail secret (sym behind ∙ same)) ∙ is.sized))

-- a secret of 32 bytes
pub secret_of-some : (private blob tag rest secret : List ℕ) → tag_of blob ≡ Some tag
    → private ≡ blob ++ rest → rest ≡ length_32 ++ secret → length secret ≡ 32
    → secret_of private blob ≡ Some secret
secret_of-some private blob tag rest secret public whole behind sized =
    let is = tag_of-only blob tag public in
    secret_of-found private blob secret (record {
      tag = tag;
      blob_is = is;
      whole = whole ∙ ap (λ (r : List ℕ). blob ++ r) (behind ∙ sym (string-of_32 secret sized)) ∙ ap (λ (b : List ℕ). b ++ string secret) is.whole;
      sized = sized;
    })
