-- The purposes that words name.
use Rattle.std.proofs.Common.{◌≡◌, ◌≢◌, ◌≤◌, ◌<◌, ◌||◌, ℕ, Bool, true, false, cond, List, [], ◌∷◌, ◌++◌, length, take, drop, map, Ok, Err, refl, sym, ap, subst, ◌∙◌, arith, append_assoc}
use Rattle.std.specs.Prelude.{All, codes, nat_lt}
use Rattle.std.specs.List.{AllByRecursion, IsDistinct, list_any}
use Rattle.std.specs.Str.{bytes_eq}
use Rattle.std.proofs.lemmas.List.{append-nil, length-append, map-append, take-append-drop}
use Rattle.std.proofs.lemmas.List.Elements.{All-cons, All-head, All-nil, All-push, All-tail}
use Rattle.std.proofs.lemmas.Slice.Eq.{bytes_eq-Decides}
use Rattle.std.proofs.lemmas.Bool.Decides.{nat_tests}
use Rattle.wire_core.specs.Readings.{◌>>=◌}
use Rattle.wire_core.proofs.ReadingLemmas.{bind_ok}
use Rattle.key_purposes.specs.declared.fault.PurposeFault.TheVariants.{Long, Many, Twice, Unknown}
use Rattle.key_purposes.specs.declared.purpose.Purpose.{Purpose}
use Rattle.key_purposes.specs.declared.purpose.Purpose.TheVariants.{AnyNamespace, Certificate, Login, Namespace, Other}
use Rattle.key_purposes.specs.Purposes.{ArePurposes, IsPurpose, in_namespace, is_same, purpose_named, purposes_in, some_purposes, with_purpose, with_word, with_words, word_of}

-- ---- one word

pub record IsNamed (word : List ℕ) (purpose : Purpose) : Type 0 where
  pub spelt : word ≡ word_of purpose
  pub good : IsPurpose purpose

namespace_is : (word rest : List ℕ) (purpose : Purpose) → word ≡ codes "sshsig:" ++ rest → in_namespace rest ≡ Ok purpose → IsNamed word purpose
namespace_is word [] purpose is read = absurd cc
namespace_is word (byte ∷ rest) purpose is read =
    let same : Namespace (byte ∷ rest) ≡ purpose = cc in
    subst (λ (p : Purpose). IsNamed word p) same (record { spelt = is; good = λ none. absurd cc })

named_is : (word : List ℕ) (purpose : Purpose) → purpose_named word ≡ Ok purpose → IsNamed word purpose
unfolding purpose_named
named_is word purpose read =
    first (bytes_eq word (codes "login")) (bytes_eq word (codes "sshsig")) (bytes_eq word (codes "certificate")) (bytes_eq word (codes "other"))
    (bytes_eq (take 7 word) (codes "sshsig:")) refl refl refl refl refl read
  where
    first : (a b c d e : Bool) → bytes_eq word (codes "login") ≡ a → bytes_eq word (codes "sshsig") ≡ b → bytes_eq word (codes "certificate") ≡ c → bytes_eq word (codes "other") ≡ d
        → bytes_eq (take 7 word) (codes "sshsig:") ≡ e
        → cond a (Ok Login) (cond b (Ok AnyNamespace) (cond c (Ok Certificate) (cond d (Ok Other) (cond e (in_namespace (drop 7 word)) (Err Unknown))))) ≡ Ok purpose
        → IsNamed word purpose
    first true b c d e at_a at_b at_c at_d at_e is =
        let same : Login ≡ purpose = cc in
        subst (λ (p : Purpose). IsNamed word p) same (record { spelt = (bytes_eq-Decides word (codes "login")).0 at_a; good = tt })
    first false true c d e at_a at_b at_c at_d at_e is =
        let same : AnyNamespace ≡ purpose = cc in
        subst (λ (p : Purpose). IsNamed word p) same (record { spelt = (bytes_eq-Decides word (codes "sshsig")).0 at_b; good = tt })
    first false false true d e at_a at_b at_c at_d at_e is =
        let same : Certificate ≡ purpose = cc in
        subst (λ (p : Purpose). IsNamed word p) same (record { spelt = (bytes_eq-Decides word (codes "certificate")).0 at_c; good = tt })
    first false false false true e at_a at_b at_c at_d at_e is =
        let same : Other ≡ purpose = cc in
        subst (λ (p : Purpose). IsNamed word p) same (record { spelt = (bytes_eq-Decides word (codes "other")).0 at_d; good = tt })
    first false false false false true at_a at_b at_c at_d at_e is =
        let front = (bytes_eq-Decides (take 7 word) (codes "sshsig:")).0 at_e in
        namespace_is word (drop 7 word) purpose (sym (take-append-drop 7 word) ∙ ap (λ (f : List ℕ). f ++ drop 7 word) front) is
    first false false false false false at_a at_b at_c at_d at_e is = absurd cc

-- one purpose more
pub record Adds (held : List Purpose) (word : List ℕ) (after : List Purpose) : Type 0 where
  pub purpose : Purpose
  pub named : IsNamed word purpose
  pub more : after ≡ held ++ purpose ∷ []
  pub few : length held < 64
  pub short : length word ≤ 255
  pub once : list_any (λ one. is_same one purpose) held ≡ false

pub word_adds : (held : List Purpose) (word : List ℕ) (after : List Purpose) → with_word held word ≡ Ok after → Adds held word after
unfolding with_word
word_adds held word after read = by_tests (nat_lt (length held) 64) (nat_lt 255 (length word)) refl refl read
  where
    by_once : (purpose : Purpose) → IsNamed word purpose → length held < 64 → length word ≤ 255 → (found : Bool) → list_any (λ one. is_same one purpose) held ≡ found
        → cond found (Err Twice) (Ok (held ++ purpose ∷ [])) ≡ Ok after → Adds held word after
    by_once purpose named few short true at_found is = absurd cc
    by_once purpose named few short false at_found is =
        let same : held ++ purpose ∷ [] ≡ after = cc in
        record { purpose = purpose; named = named; more = sym same; few = few; short = short; once = at_found }

    by_tests : (few long : Bool) → nat_lt (length held) 64 ≡ few → nat_lt 255 (length word) ≡ long
        → cond few (cond long (Err Long) (purpose_named word >>= with_purpose held)) (Err Many) ≡ Ok after → Adds held word after
    by_tests true true at_few at_long is = absurd cc
    by_tests true false at_few at_long is =
        let found = bind_ok (purpose_named word) (with_purpose held) after is in
        by_once found.0 (named_is word found.0 found.1) (grind (arith, nat_tests, at_few)) (grind (arith, nat_tests, at_long))
        (list_any (λ one. is_same one found.0) held) refl found.2
    by_tests false long at_few at_long is = absurd cc

-- ---- no purpose is that of an earlier one

each_push : (P : Purpose → Type 0) (held : List Purpose) (purpose : Purpose) → AllByRecursion P held → P purpose → AllByRecursion P (held ++ purpose ∷ [])
each_push P [] purpose each is = (is, tt)
each_push P (one ∷ others) purpose each is = (each.0, each_push P others purpose each.1 is)

or_no : (here later : Bool) → (here || later) ≡ false → (here ≡ false) × (later ≡ false)
or_no true later apart = absurd cc
or_no false later apart = (refl, apart)

once_push : (held : List Purpose) (purpose : Purpose) → IsDistinct is_same held → list_any (λ one. is_same one purpose) held ≡ false → IsDistinct is_same (held ++ purpose ∷ [])
unfolding IsDistinct
once_push [] purpose once apart = (tt, tt)
once_push (one ∷ others) purpose once apart =
    let parts = or_no (is_same one purpose) (list_any (λ held. is_same held purpose) others) apart in
    (each_push (λ other. is_same one other ≡ false) others purpose once.0 parts.0, once_push others purpose once.1 parts.1)

once_none : IsDistinct is_same []
unfolding IsDistinct
once_none = tt

-- ---- words one after another

-- the purposes are those of the words so far
record Are (words : List (List ℕ)) (purposes : List Purpose) : Type 0 where
  pub named : words ≡ map word_of purposes
  pub each : All IsPurpose purposes
  pub few : length purposes ≤ 64
  pub short : All (λ word. length word ≤ 255) words
  pub once : IsDistinct is_same purposes

are_more : (words : List (List ℕ)) (word : List ℕ) (held after : List Purpose) → Are words held → Adds held word after → Are (words ++ word ∷ []) after
are_more words word held after are adds =
    subst (λ (purposes : List Purpose). Are (words ++ word ∷ []) purposes) (sym adds.more) (record {
      named = ap (λ (l : List (List ℕ)). l ++ word ∷ []) are.named ∙ ap (λ (w : List ℕ). map word_of held ++ w ∷ []) adds.named.spelt
          ∙ sym (map-append word_of held (adds.purpose ∷ []));
      each = All-push IsPurpose held adds.purpose are.each adds.named.good;
      few = omega (arith, adds.few, length-append held (adds.purpose ∷ []));
      short = All-push (λ w. length w ≤ 255) words word are.short adds.short;
      once = once_push held adds.purpose are.once adds.once;
    })

are_all : (before words : List (List ℕ)) (held all : List Purpose) → Are before held → with_words held words ≡ Ok all → Are (before ++ words) all
are_all before [] held all are read =
    let same : held ≡ all = cc in
    subst (λ (l : List (List ℕ)). Are l all) (sym (append-nil before)) (subst (λ (purposes : List Purpose). Are before purposes) same are)
are_all before (word ∷ words) held all are read =
    let found = bind_ok (with_word held word) (λ more. with_words more words) all read in
    subst (λ (l : List (List ℕ)). Are l all) (append_assoc before (word ∷ []) words)
    (are_all (before ++ word ∷ []) words found.0 all (are_more before word held found.0 are (word_adds held word found.0 found.1)) found.2)

some_is : (purposes all : List Purpose) → some_purposes purposes ≡ Ok all → (purposes ≡ all) × (all ≢ [])
some_is [] all read = absurd cc
some_is (purpose ∷ purposes) all read =
    let same : purpose ∷ purposes ≡ all = cc in
    (same, λ none. absurd (let e = same ∙ none in cc))

pub words_are : (words : List (List ℕ)) (purposes : List Purpose) → purposes_in words ≡ Ok purposes → ArePurposes words purposes
words_are words purposes read =
    let found = bind_ok (with_words [] words) some_purposes purposes read in
    let some = some_is found.0 purposes found.2 in
    let start : Are [] [] = record { named = refl; each = All-nil _; few = omega arith; short = All-nil _; once = once_none } in
    let are = subst (λ (l : List Purpose). Are words l) some.0 (are_all [] words [] found.0 start found.1) in
    record { named = are.named; each = are.each; some = some.1; few = are.few; short = are.short; once = are.once }

-- ---- words of purposes are read again

namespace_again : (namespace : List ℕ) → namespace ≢ [] → in_namespace namespace ≡ Ok (Namespace namespace)
namespace_again [] some = absurd (some refl)
namespace_again (byte ∷ namespace) some = refl

named_again : (purpose : Purpose) → IsPurpose purpose → purpose_named (word_of purpose) ≡ Ok purpose
unfolding purpose_named
named_again Login is = refl
named_again (Namespace namespace) is = namespace_again namespace is
named_again AnyNamespace is = refl
named_again Certificate is = refl
named_again Other is = refl

-- a purpose behind others that are distinct with it isn't one of them
not_yet : (held : List Purpose) (purpose : Purpose) (others : List Purpose) → IsDistinct is_same (held ++ purpose ∷ others)
    → list_any (λ one. is_same one purpose) held ≡ false
unfolding IsDistinct
not_yet [] purpose others once = refl
not_yet (one ∷ held) purpose others once =
    rw (here held once.0) (not_yet held purpose others once.1)
  where
    here : (before : List Purpose) → AllByRecursion (λ other. is_same one other ≡ false) (before ++ purpose ∷ others) → is_same one purpose ≡ false
    here [] each = each.0
    here (first ∷ before) each = here before each.1

adds_again : (held : List Purpose) (purpose : Purpose) → IsPurpose purpose → length held < 64 → length (word_of purpose) ≤ 255
    → list_any (λ one. is_same one purpose) held ≡ false → with_word held (word_of purpose) ≡ Ok (held ++ purpose ∷ [])
unfolding with_word
adds_again held purpose is few short once =
    let room : nat_lt (length held) 64 ≡ true = grind (arith, nat_tests, few) in
    let within : nat_lt 255 (length (word_of purpose)) ≡ false = grind (arith, nat_tests, short) in
    rw (room, within, named_again purpose is, once) refl

all_again : (held purposes : List Purpose) → All IsPurpose purposes → length (held ++ purposes) ≤ 64
    → All (λ purpose. length (word_of purpose) ≤ 255) purposes → IsDistinct is_same (held ++ purposes)
    → with_words held (map word_of purposes) ≡ Ok (held ++ purposes)
all_again held [] each few short once = ap (λ (l : List Purpose). Ok l) (sym (append-nil held))
all_again held (purpose ∷ purposes) each few short once =
    let room : length held < 64 = omega (arith, few, length-append held (purpose ∷ purposes)) in
    let first = adds_again held purpose (All-head IsPurpose purpose purposes each) room
    (All-head (λ p. length (word_of p) ≤ 255) purpose purposes short) (not_yet held purpose purposes once) in
    let moved : (held ++ purpose ∷ []) ++ purposes ≡ held ++ purpose ∷ purposes = append_assoc held (purpose ∷ []) purposes in
    rw first (subst (λ (l : List Purpose). with_words (held ++ purpose ∷ []) (map word_of purposes) ≡ Ok l) moved
    (all_again (held ++ purpose ∷ []) purposes (All-tail IsPurpose purpose purposes each)
    (subst (λ (l : List Purpose). length l ≤ 64) (sym moved) few)
    (All-tail (λ p. length (word_of p) ≤ 255) purpose purposes short)
    (subst (λ (l : List Purpose). IsDistinct is_same l) (sym moved) once)))

-- what names purposes is read as they are
pub words_again : (words : List (List ℕ)) (purposes : List Purpose) → ArePurposes words purposes → with_words [] words ≡ Ok purposes
words_again words purposes are =
    let short : All (λ word. length word ≤ 255) (map word_of purposes) = subst (λ (l : List (List ℕ)). All (λ word. length word ≤ 255) l) are.named are.short in
    ap (with_words []) are.named ∙ all_again [] purposes are.each are.few (short_each purposes short) are.once
  where
    short_each : (all : List Purpose) → All (λ word. length word ≤ 255) (map word_of all) → All (λ p. length (word_of p) ≤ 255) all
    short_each [] each = All-nil _
    short_each (one ∷ others) each =
        All-cons (λ p. length (word_of p) ≤ 255) one others (All-head (λ word. length word ≤ 255) (word_of one) (map word_of others) each)
        (short_each others (All-tail (λ word. length word ≤ 255) (word_of one) (map word_of others) each))
