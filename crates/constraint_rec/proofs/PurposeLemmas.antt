-- Purposes: what is read is in the grammar, and what is in the grammar is read.
use Rattle.std.proofs.Common.{◌≡◌, ◌≢◌, ℕ, zero, suc, ◌^◌, ◌<◌, ◌≤◌, ◌+◌, ◌*◌, List, [], ◌∷◌, ◌++◌, map, length, All, ◌⊎◌, inl, inr, Result, Ok, Err, refl, sym, ap, subst, ◌∙◌, arith, length-append}
use Rattle.std.specs.List.{flat_map}
use Rattle.std.proofs.lemmas.List.Elements.{All-head, All-tail}
use Rattle.wire_text.specs.Wire.{IsBytes, string}
use Rattle.wire_text.proofs.WireLemmas.{length-string}
use Rattle.wire_core.specs.Readings.{◌>>=◌}
use Rattle.wire_core.proofs.ReadingLemmas.{bind_ok}
use Rattle.key_purposes.specs.Purposes.{ArePurposes, some_purposes, with_word, with_words, word_of}
use Rattle.key_purposes.specs.declared.fault.PurposeFault.{PurposeFault}
use Rattle.key_purposes.specs.declared.purpose.Purpose.{Purpose}
use Rattle.key_purposes.proofs.WordLemmas.{word_adds, words_again, words_are}
use Rattle.constraint_rec.specs.declared.fault.TermFault.{TermFault}
use Rattle.constraint_rec.specs.declared.fault.TermFault.TheVariants.{Memory}
use Rattle.constraint_rec.specs.Constraints.{purposes_text}
use Rattle.constraint_rec.specs.HopReading.{field_at}
use Rattle.constraint_rec.specs.PurposeReading.{all_purposes_in, as_terms, purpose_at, purposes_in, purposes_up_to}
use Rattle.constraint_rec.proofs.FieldLemmas.{field_again, field_is}

-- ---- what follows the purposes so far

-- what is left gives, behind the purposes so far, what the whole gives
pub record PurposesGoOn (whole : Result (List Purpose) TermFault) (held : List Purpose) (left : List ℕ) : Type 0 where
  pub count : ℕ
  pub enough : length left ≤ count
  pub same : whole ≡ purposes_up_to count held left

-- at the start the whole is left
pub purposes_start : (bytes : List ℕ) → PurposesGoOn (all_purposes_in bytes) [] bytes
purposes_start bytes = record { count = length bytes; enough = omega arith; same = refl }

-- where bytes are left, one more purpose is read
one_more : (count : ℕ) (whole : Result (List Purpose) TermFault) (held : List Purpose) (left : List ℕ) (next : Result (List Purpose × List ℕ) TermFault) →
    length left ≤ count → left ≢ [] → whole ≡ purposes_up_to count held left → purpose_at held left ≡ next →
    (before : ℕ) × (length left ≤ suc before) × (whole ≡ (next >>= λ read. purposes_up_to before read.0 read.1))
unfolding purposes_up_to
one_more count whole held [] next enough some same read = absurd (some refl)
one_more zero whole held (byte ∷ left) next enough some same read = absurd (omega arith)
one_more (suc before) whole held (byte ∷ left) next enough some same read =
    (before, enough, same ∙ ap (λ (r : Result (List Purpose × List ℕ) TermFault). r >>= λ found. purposes_up_to before found.0 found.1) read)

-- a purpose that is read is passed over
pub purposes_next : (whole : Result (List Purpose) TermFault) (held : List Purpose) (left : List ℕ) (after : List Purpose) (rest : List ℕ) →
    PurposesGoOn whole held left → left ≢ [] → length rest < length left → purpose_at held left ≡ Ok (after, rest) → PurposesGoOn whole after rest
purposes_next whole held left after rest so_far some shorter read =
    let more = one_more so_far.count whole held left (Ok (after, rest)) so_far.enough some so_far.same read in
    record { count = more.0; enough = omega (arith, more.1); same = more.2 }

-- its fault is the whole's
pub purposes_fault : (whole : Result (List Purpose) TermFault) (held : List Purpose) (left : List ℕ) (fault : TermFault) →
    PurposesGoOn whole held left → left ≢ [] → (fault ≡ Memory) ⊎ (purpose_at held left ≡ Err fault) → (fault ≡ Memory) ⊎ (whole ≡ Err fault)
purposes_fault whole held left fault so_far some (inl memory) = inl memory
purposes_fault whole held left fault so_far some (inr read) =
    inr (one_more so_far.count whole held left (Err fault) so_far.enough some so_far.same read).2

-- no bytes are no purposes
none_left : (count : ℕ) (held : List Purpose) → purposes_up_to count held [] ≡ Ok held
unfolding purposes_up_to
none_left zero held = refl
none_left (suc count) held = refl

-- where nothing is left, the purposes so far are the whole's
pub purposes_end : (whole : Result (List Purpose) TermFault) (held : List Purpose) (left : List ℕ) → PurposesGoOn whole held left → left ≡ [] → whole ≡ Ok held
purposes_end whole held left so_far empty =
    so_far.same ∙ ap (purposes_up_to so_far.count held) empty ∙ none_left so_far.count held

-- ---- what is read is purposes

as_terms_ok : {A : Type 0} (read : Result A PurposeFault) (value : A) → as_terms read ≡ Ok value → read ≡ Ok value
as_terms_ok (Ok found) value is = cc
as_terms_ok (Err fault) value is = absurd cc

-- words that stand in the bytes, and give these purposes behind the others
record AreWords (held : List Purpose) (bytes : List ℕ) (after : List Purpose) : Type 0 where
  pub words : List (List ℕ)
  pub text : bytes ≡ flat_map string words
  pub read : with_words held words ≡ Ok after

-- by the number of words
are_words : (count : ℕ) (held : List Purpose) (bytes : List ℕ) (after : List Purpose) → IsBytes bytes → length bytes ≤ count →
    purposes_up_to count held bytes ≡ Ok after → AreWords held bytes after
unfolding purposes_up_to purpose_at
are_words zero held [] after small enough all =
    let same : held ≡ after = cc in record { words = []; text = refl; read = ap (λ (l : List Purpose). Ok l) same }
are_words zero held (byte ∷ bytes) after small enough all = absurd (omega arith)
are_words (suc count) held [] after small enough all =
    let same : held ≡ after = cc in record { words = []; text = refl; read = ap (λ (l : List Purpose). Ok l) same }
are_words (suc count) held (byte ∷ bytes) after small enough all =
    let step = bind_ok (purpose_at held (byte ∷ bytes)) (λ next. purposes_up_to count next.0 next.1) after all in
    let word = bind_ok (field_at (byte ∷ bytes)) (λ found. as_terms (with_word held found.0) >>= λ more. Ok (more, found.1)) step.0 step.1 in
    let more = bind_ok (as_terms (with_word held word.0.0)) (λ found. Ok (found, word.0.1)) step.0 word.2 in
    let pair : List Purpose × List ℕ = (more.0, word.0.1) in
    let same : pair ≡ step.0 = let e = more.2 in cc in
    let field = field_is (byte ∷ bytes) word.0.0 word.0.1 small word.1 in
    let rest : word.0.1 ≡ step.0.1 = ap (λ (x : List Purpose × List ℕ). x.1) same in
    let first : with_word held word.0.0 ≡ Ok step.0.0 = as_terms_ok (with_word held word.0.0) more.0 more.1 ∙ ap (λ (x : List Purpose × List ℕ). Ok x.0) same in
    let size : length (byte ∷ bytes) ≡ length (string word.0.0) + length word.0.1 = ap length field.parts ∙ length-append (string word.0.0) word.0.1 in
    let others = are_words count step.0.0 step.0.1 after (subst IsBytes rest field.left)
    (omega (arith, size, length-string word.0.0, ap length rest)) step.2 in
    record {
      words = word.0.0 ∷ others.words;
      text = field.parts ∙ ap (λ (tail : List ℕ). string word.0.0 ++ tail) (rest ∙ others.text);
      read = ap (λ (r : Result (List Purpose) PurposeFault). r >>= λ found. with_words found others.words) first ∙ others.read;
    }

-- the text of words of purposes
text_of : (purposes : List Purpose) → flat_map string (map word_of purposes) ≡ purposes_text purposes
text_of [] = refl
text_of (purpose ∷ purposes) = ap (λ (tail : List ℕ). string (word_of purpose) ++ tail) (text_of purposes)

-- what is read is purposes
pub record ArePurposesIn (bytes : List ℕ) (purposes : List Purpose) : Type 0 where
  pub text : bytes ≡ purposes_text purposes
  pub are : ArePurposes (map word_of purposes) purposes

pub purposes_are : (bytes : List ℕ) (purposes : List Purpose) → IsBytes bytes → purposes_in bytes ≡ Ok purposes → ArePurposesIn bytes purposes
unfolding purposes_in
purposes_are bytes purposes small read =
    let all = bind_ok (all_purposes_in bytes) (λ found. as_terms (some_purposes found)) purposes read in
    let words = are_words (length bytes) [] bytes all.0 small (omega arith) all.1 in
    let some = as_terms_ok (some_purposes all.0) purposes all.2 in
    let are = words_are words.words purposes (ap (λ (r : Result (List Purpose) PurposeFault). r >>= some_purposes) words.read ∙ some) in
    record {
      text = words.text ∙ ap (flat_map string) are.named ∙ text_of purposes;
      are = subst (λ (l : List (List ℕ)). ArePurposes l purposes) are.named are;
    }

-- ---- purposes are read

-- by the number of words
words_read : (words : List (List ℕ)) (count : ℕ) (held all : List Purpose) → length (flat_map string words) ≤ count →
    with_words held words ≡ Ok all → purposes_up_to count held (flat_map string words) ≡ Ok all
unfolding purpose_at
words_read [] count held all enough read = none_left count held ∙ ap as_terms read
words_read (word ∷ words) count held all enough read =
    let found = bind_ok (with_word held word) (λ more. with_words more words) all read in
    let adds = word_adds held word found.0 found.1 in
    let rest : List ℕ = flat_map string words in
    let size = length-append (string word) rest in
    let some : (string word ++ rest) ≢ [] = λ e. omega (arith, ap length e, size, length-string word) in
    let at : purpose_at held (string word ++ rest) ≡ Ok (found.0, rest) =
    ap (λ (r : Result (List ℕ × List ℕ) TermFault). r >>= λ field. as_terms (with_word held field.0) >>= λ more. Ok (more, field.1))
    (field_again word rest (omega (arith, adds.short)))
    ∙ ap (λ (r : Result (List Purpose) PurposeFault). as_terms r >>= λ more. Ok (more, rest)) found.1 in
    let more = one_more count (purposes_up_to count held (string word ++ rest)) held (string word ++ rest) (Ok (found.0, rest)) enough some refl at in
    more.2 ∙ words_read words more.0 found.0 all (omega (arith, more.1, size, length-string word)) found.2

some_again : (purposes : List Purpose) → purposes ≢ [] → as_terms (some_purposes purposes) ≡ Ok purposes
some_again [] some = absurd (some refl)
some_again (purpose ∷ purposes) some = refl

pub purposes_again : (purposes : List Purpose) → ArePurposes (map word_of purposes) purposes → purposes_in (purposes_text purposes) ≡ Ok purposes
unfolding purposes_in
purposes_again purposes are =
    let words = words_again (map word_of purposes) purposes are in
    let text : List ℕ = flat_map string (map word_of purposes) in
    ap (λ (bytes : List ℕ). all_purposes_in bytes >>= λ found. as_terms (some_purposes found)) (sym (text_of purposes))
    ∙ ap (λ (r : Result (List Purpose) TermFault). r >>= λ found. as_terms (some_purposes found))
    (words_read (map word_of purposes) (length text) [] purposes (omega arith) words)
    ∙ some_again purposes are.some

-- ---- their text is short

text_within : (purposes : List Purpose) → All (λ word. length word ≤ 255) (map word_of purposes) → length (purposes_text purposes) ≤ 259 * length purposes
text_within [] short = omega arith
text_within (purpose ∷ purposes) short =
    let size = length-append (string (word_of purpose)) (purposes_text purposes) in
    let first : length (word_of purpose) ≤ 255 = All-head (λ word. length word ≤ 255) (word_of purpose) (map word_of purposes) short in
    let rest = text_within purposes (All-tail (λ word. length word ≤ 255) (word_of purpose) (map word_of purposes) short) in
    omega (arith, size, length-string (word_of purpose), first, rest)

pub text_is_short : (purposes : List Purpose) → ArePurposes (map word_of purposes) purposes → length (purposes_text purposes) < 2 ^ 32
text_is_short purposes are = omega (arith, text_within purposes are.short, are.few)
