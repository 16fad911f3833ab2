-- Elements one after another: what a loop has read so far, and what is left.
use Rattle.std.proofs.Common.{◌≡◌, ◌≢◌, ℕ, zero, suc, ◌+◌, ◌^◌, ◌<◌, ◌≤◌, ◌⊎◌, inl, inr, List, [], ◌∷◌, ◌++◌, map, length, length-append, All, subst, Result, Ok, Err, refl, sym, ap, ◌∙◌, arith, append_assoc}
use Rattle.std.proofs.lemmas.List.{append-nil}
use Rattle.std.specs.List.{flat_map}
use Rattle.std.proofs.lemmas.List.Elements.{All-head, All-tail, All-cons, All-nil}
use Rattle.wire_text.specs.Wire.{IsBytes}
use Rattle.constraint_rec.specs.declared.fault.TermFault.{TermFault}
use Rattle.constraint_rec.specs.declared.fault.TermFault.TheVariants.{Memory}
use Rattle.wire_core.specs.Readings.{◌>>=◌}
use Rattle.constraint_rec.specs.HopReading.{all_up_to, all_of}
use Rattle.wire_core.proofs.ReadingLemmas.{bind_ok}

-- elements behind others
abbrev pub behind : {A : Type 0} → List A → Result (List A) TermFault → Result (List A) TermFault
behind front read = read >>= λ others. Ok (front ++ others)

-- what is left gives, behind the elements so far, what the whole gives
pub record GoesOn {A : Type 0} (one : List ℕ → Result (A × List ℕ) TermFault) (whole : Result (List A) TermFault) (so_far : List A) (left : List ℕ) : Type 0 where
  pub count : ℕ
  pub enough : length left ≤ count
  pub same : whole ≡ behind so_far (all_up_to one count left)

-- no elements stand in front
behind-none : {A : Type 0} (read : Result (List A) TermFault) → read ≡ behind [] read
behind-none (Ok others) = refl
behind-none (Err fault) = refl

-- one more element stands in front
behind-more : {A : Type 0} (front : List A) (x : A) (read : Result (List A) TermFault) →
    behind front (read >>= λ others. Ok (x ∷ others)) ≡ behind (front ++ x ∷ []) read
behind-more front x (Ok others) = ap (λ list. Ok list) (sym (append_assoc front (x ∷ []) others))
behind-more front x (Err fault) = refl

-- at the start the whole is left
pub elements-start : {A : Type 0} (one : List ℕ → Result (A × List ℕ) TermFault) (bytes : List ℕ) → GoesOn one (all_of one bytes) [] bytes
unfolding all_of
elements-start one bytes =
    record { count = length bytes; enough = omega arith; same = behind-none (all_up_to one (length bytes) bytes) }

-- where bytes are left, one more element is read
pub one_more : {A : Type 0} (one : List ℕ → Result (A × List ℕ) TermFault) (count : ℕ) (left : List ℕ) (next : Result (A × List ℕ) TermFault) →
    length left ≤ count → left ≢ [] → one left ≡ next →
    (before : ℕ) × (length left ≤ suc before) × (all_up_to one count left ≡ (next >>= λ first. all_up_to one before first.1 >>= λ others. Ok (first.0 ∷ others)))
unfolding all_up_to
one_more one count [] next enough some read = absurd (some refl)
one_more one zero (byte ∷ left) next enough some read = absurd (omega arith)
one_more {A} one (suc before) (byte ∷ left) next enough some read =
    (before, enough, ap (λ (r : Result (A × List ℕ) TermFault). r >>= λ first. all_up_to one before first.1 >>= λ others. Ok (first.0 ∷ others)) read)

-- an element that is read is passed over
pub elements-next : {A : Type 0} (one : List ℕ → Result (A × List ℕ) TermFault) (whole : Result (List A) TermFault) (so_far : List A) (left : List ℕ) (x : A) (rest : List ℕ) →
    GoesOn one whole so_far left → left ≢ [] → length rest < length left → one left ≡ Ok (x, rest) → GoesOn one whole (so_far ++ x ∷ []) rest
elements-next one whole so_far left x rest goes some shorter read =
    let more = one_more one goes.count left (Ok (x, rest)) goes.enough some read in
    record {
      count = more.0;
      enough = omega (arith, more.1);
      same = goes.same ∙ ap (behind so_far) more.2 ∙ behind-more so_far x (all_up_to one more.0 rest);
    }

-- its fault is the whole's
pub elements-fault : {A : Type 0} (one : List ℕ → Result (A × List ℕ) TermFault) (whole : Result (List A) TermFault) (so_far : List A) (left : List ℕ) (fault : TermFault) →
    GoesOn one whole so_far left → left ≢ [] → (fault ≡ Memory) ⊎ (one left ≡ Err fault) → (fault ≡ Memory) ⊎ (whole ≡ Err fault)
elements-fault one whole so_far left fault goes some (inl memory) = inl memory
elements-fault one whole so_far left fault goes some (inr read) =
    inr (goes.same ∙ ap (behind so_far) (one_more one goes.count left (Err fault) goes.enough some read).2)

-- no bytes are no elements
pub none_left : {A : Type 0} (one : List ℕ → Result (A × List ℕ) TermFault) (count : ℕ) → all_up_to one count [] ≡ Ok []
unfolding all_up_to
none_left one zero = refl
none_left one (suc count) = refl

-- where nothing is left, the elements so far are the whole's
pub elements-end : {A : Type 0} (one : List ℕ → Result (A × List ℕ) TermFault) (whole : Result (List A) TermFault) (so_far : List A) (left : List ℕ) →
    GoesOn one whole so_far left → left ≡ [] → whole ≡ Ok so_far
elements-end one whole so_far left goes empty =
    goes.same ∙ ap (λ bytes. behind so_far (all_up_to one goes.count bytes)) empty ∙ ap (behind so_far) (none_left one goes.count) ∙ ap (λ list. Ok list) (append-nil so_far)

-- ---- what is read is in the grammar

-- an element stands in front of the rest
pub record IsElement {A S : Type 0} (text : S → List ℕ) (value_of : S → A) (Good : A → Type 0) (bytes : List ℕ) (x : A) (rest : List ℕ) : Type 0 where
  pub spelt : S
  pub parts : bytes ≡ text spelt ++ rest
  pub left : IsBytes rest
  pub value : x ≡ value_of spelt
  pub good : Good x
  pub shorter : length rest < length bytes

-- the bytes are elements
pub record AreElements {A S : Type 0} (text : S → List ℕ) (value_of : S → A) (Good : A → Type 0) (bytes : List ℕ) (xs : List A) : Type 0 where
  pub spelt : List S
  pub parts : bytes ≡ flat_map text spelt
  pub values : xs ≡ map value_of spelt
  pub good : All Good xs

-- by the number of elements
are_elements : {A S : Type 0} (one : List ℕ → Result (A × List ℕ) TermFault) (text : S → List ℕ) (value_of : S → A) (Good : A → Type 0) →
    ((bytes : List ℕ) (x : A) (rest : List ℕ) → IsBytes bytes → one bytes ≡ Ok (x, rest) → IsElement text value_of Good bytes x rest) →
    (count : ℕ) (bytes : List ℕ) (xs : List A) → IsBytes bytes → length bytes ≤ count → all_up_to one count bytes ≡ Ok xs → AreElements text value_of Good bytes xs
unfolding all_up_to
are_elements {A} one text value_of Good each zero [] xs small enough read =
    let none : [] ≡ xs = cc in record { spelt = []; parts = refl; values = sym none; good = subst (All Good) none (All-nil Good) }
are_elements one text value_of Good each zero (byte ∷ bytes) xs small enough read = absurd (omega arith)
are_elements {A} one text value_of Good each (suc count) [] xs small enough read =
    let none : [] ≡ xs = cc in record { spelt = []; parts = refl; values = sym none; good = subst (All Good) none (All-nil Good) }
are_elements {A} one text value_of Good each (suc count) (byte ∷ bytes) xs small enough read =
    let a = bind_ok (one (byte ∷ bytes)) (λ first. all_up_to one count first.1 >>= λ others. Ok (first.0 ∷ others)) xs read in
    let b = bind_ok (all_up_to one count a.0.1) (λ others. Ok (a.0.0 ∷ others)) xs a.2 in
    let first = each (byte ∷ bytes) a.0.0 a.0.1 small a.1 in
    let others = are_elements one text value_of Good each count a.0.1 b.0 first.left (omega (arith, first.shorter)) b.1 in
    let same : (a.0.0 ∷ b.0) ≡ xs = let e = b.2 in cc in
    record {
      spelt = first.spelt ∷ others.spelt;
      parts = first.parts ∙ ap (λ (rest : List ℕ). text first.spelt ++ rest) others.parts;
      values = sym same ∙ ap (λ (x : A). x ∷ b.0) first.value ∙ ap (λ (list : List A). value_of first.spelt ∷ list) others.values;
      good = subst (All Good) same (All-cons Good a.0.0 b.0 first.good others.good);
    }

-- what is read is elements
pub elements_are : {A S : Type 0} (one : List ℕ → Result (A × List ℕ) TermFault) (text : S → List ℕ) (value_of : S → A) (Good : A → Type 0) →
    ((bytes : List ℕ) (x : A) (rest : List ℕ) → IsBytes bytes → one bytes ≡ Ok (x, rest) → IsElement text value_of Good bytes x rest) →
    (bytes : List ℕ) (xs : List A) → IsBytes bytes → all_of one bytes ≡ Ok xs → AreElements text value_of Good bytes xs
unfolding all_of
elements_are one text value_of Good each bytes xs small read = are_elements one text value_of Good each (length bytes) bytes xs small (omega arith) read

-- ---- what is in the grammar is read

-- by the number of elements
all_again : {A S : Type 0} (one : List ℕ → Result (A × List ℕ) TermFault) (text : S → List ℕ) (value_of : S → A) (Good : A → Type 0) →
    ((s : S) → 1 ≤ length (text s)) →
    ((s : S) (rest : List ℕ) → Good (value_of s) → length (text s) < 2 ^ 32 → one (text s ++ rest) ≡ Ok (value_of s, rest)) →
    (spelt : List S) (count : ℕ) → All Good (map value_of spelt) → length (flat_map text spelt) < 2 ^ 32 → length (flat_map text spelt) ≤ count →
    all_up_to one count (flat_map text spelt) ≡ Ok (map value_of spelt)
all_again one text value_of Good some each [] count good short enough = none_left one count
all_again {A} one text value_of Good some each (s ∷ spelt) count good short enough =
    let size : length (flat_map text (s ∷ spelt)) ≡ length (text s) + length (flat_map text spelt) = length-append (text s) (flat_map text spelt) in
    let any : flat_map text (s ∷ spelt) ≢ [] = λ e. omega (arith, ap length e, size, some s) in
    let first = each s (flat_map text spelt) (All-head Good (value_of s) (map value_of spelt) good) (omega (arith, size)) in
    let more = one_more one count (flat_map text (s ∷ spelt)) (Ok (value_of s, flat_map text spelt)) enough any first in
    let others = all_again one text value_of Good some each spelt more.0 (All-tail Good (value_of s) (map value_of spelt) good) (omega (arith, size)) (omega (arith, size, some s, more.1)) in
    more.2 ∙ ap (λ (r : Result (List A) TermFault). r >>= λ list. Ok (value_of s ∷ list)) others

-- elements are read
pub elements_again : {A S : Type 0} (one : List ℕ → Result (A × List ℕ) TermFault) (text : S → List ℕ) (value_of : S → A) (Good : A → Type 0) →
    ((s : S) → 1 ≤ length (text s)) →
    ((s : S) (rest : List ℕ) → Good (value_of s) → length (text s) < 2 ^ 32 → one (text s ++ rest) ≡ Ok (value_of s, rest)) →
    (spelt : List S) → All Good (map value_of spelt) → length (flat_map text spelt) < 2 ^ 32 → all_of one (flat_map text spelt) ≡ Ok (map value_of spelt)
unfolding all_of
elements_again one text value_of Good some each spelt good short =
    all_again one text value_of Good some each spelt (length (flat_map text spelt)) good short (omega arith)
