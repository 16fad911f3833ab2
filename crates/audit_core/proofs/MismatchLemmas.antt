-- The first line at which two texts differ, byte by byte.
use Rattle.std.proofs.Common.{◌≡◌, ℕ, suc, ◌==◌, List, [], ◌∷◌, refl, ap, sym, ◌∙◌, arith, Some, Bool, true, false, cond}
use Rattle.std.proofs.lemmas.Bool.Decides.{nat_tests}
use Rattle.std.specs.List.{onto_first}
use Rattle.std.specs.Str.{bytes_eq}
use Rattle.audit_core.specs.Passes.{mismatch}
use Rattle.audit_core.specs.Reports.{difference_from, first_difference}
use Rattle.replay_run.specs.Replay.{parts_of}
use Rattle.replay_run.proofs.RunLemmas.{parts_of-cons}

-- parts that begin with this byte each
abbrev led : ℕ → List (List ℕ) → List (List ℕ)
led byte parts = onto_first byte parts

eq-self : (byte : ℕ) (part other : List ℕ)
    → bytes_eq (byte ∷ part) (byte ∷ other) ≡ bytes_eq part other
eq-self byte part other =
    let same : (byte == byte) ≡ true = grind (arith, nat_tests) in
    rw same refl

-- one byte more at the front of both first parts
difference-led : (line byte : ℕ) (part : List ℕ) (parts : List (List ℕ)) (other : List ℕ) (others : List (List ℕ))
    → difference_from line ((byte ∷ part) ∷ parts) ((byte ∷ other) ∷ others) ≡ difference_from line (part ∷ parts) (other ∷ others)
difference-led line byte part [] other [] = rw (eq-self byte part other) refl
difference-led line byte part [] other (later ∷ others) = refl
difference-led line byte part (next ∷ parts) other [] = refl
difference-led line byte part (next ∷ parts) other (later ∷ others) = rw (eq-self byte part other) refl

-- first parts that begin with different bytes
apart : (byte first : ℕ) (part other : List ℕ) → (byte == first) ≡ false
    → bytes_eq (byte ∷ part) (first ∷ other) ≡ false
apart byte first part other differ = rw differ refl

difference-apart : (line byte first : ℕ) (part : List ℕ) (parts : List (List ℕ)) (other : List ℕ) (others : List (List ℕ))
    → (byte == first) ≡ false
    → difference_from line ((byte ∷ part) ∷ parts) ((first ∷ other) ∷ others) ≡ Some line
difference-apart line byte first part [] other [] differ = rw (apart byte first part other differ) refl
difference-apart line byte first part [] other (later ∷ others) differ = refl
difference-apart line byte first part (next ∷ parts) other [] differ = refl
difference-apart line byte first part (next ∷ parts) other (later ∷ others) differ = rw (apart byte first part other differ) refl

-- an empty first part and one that isn't
difference-empty : (line first : ℕ) (parts : List (List ℕ)) (other : List ℕ) (others : List (List ℕ))
    → difference_from line ([] ∷ parts) ((first ∷ other) ∷ others) ≡ Some line
difference-empty line first [] other [] = refl
difference-empty line first [] other (later ∷ others) = refl
difference-empty line first (next ∷ parts) other [] = refl
difference-empty line first (next ∷ parts) other (later ∷ others) = refl

difference-empties : (line byte : ℕ) (part : List ℕ) (parts others : List (List ℕ))
    → difference_from line ((byte ∷ part) ∷ parts) ([] ∷ others) ≡ Some line
difference-empties line byte part [] [] = refl
difference-empties line byte part [] (later ∷ others) = refl
difference-empties line byte part (next ∷ parts) [] = refl
difference-empties line byte part (next ∷ parts) (later ∷ others) = refl

-- both have a line end first
difference-lines : (line : ℕ) (parts others : List (List ℕ)) (part other : List ℕ) (more_parts more_others : List (List ℕ))
    → parts ≡ part ∷ more_parts → others ≡ other ∷ more_others
    → difference_from line ([] ∷ parts) ([] ∷ others) ≡ difference_from (suc line) parts others
difference-lines line parts others part other more_parts more_others is are = rw (is, are) refl

-- one has a line end first, and the other one ends, or its part begins with another byte
difference-end : (line : ℕ) (parts : List (List ℕ)) (part : List ℕ) (more : List (List ℕ))
    → parts ≡ part ∷ more → difference_from line ([] ∷ parts) ([] ∷ []) ≡ Some line
difference-end line parts part more is = rw is refl

difference-ends : (line : ℕ) (parts : List (List ℕ)) (part : List ℕ) (more : List (List ℕ))
    → parts ≡ part ∷ more → difference_from line ([] ∷ []) ([] ∷ parts) ≡ Some line
difference-ends line parts part more is = rw is refl

-- by whether a byte ends a line
abbrev parts_with : Bool → ℕ → List (List ℕ) → List (List ℕ)
parts_with is byte parts = cond is ([] ∷ parts) (onto_first byte parts)

-- against a text that has ended
ended : (line byte : ℕ) (is : Bool) (parts : List (List ℕ)) (part : List ℕ) (more : List (List ℕ))
    → parts ≡ part ∷ more → difference_from line (parts_with is byte parts) ([] ∷ []) ≡ Some line
ended line byte true parts part more are = difference-end line parts part more are
ended line byte false parts part more are = rw are (difference-empties line byte part more [])

ends : (line byte : ℕ) (is : Bool) (parts : List (List ℕ)) (part : List ℕ) (more : List (List ℕ))
    → parts ≡ part ∷ more → difference_from line ([] ∷ []) (parts_with is byte parts) ≡ Some line
ends line byte true parts part more are = difference-ends line parts part more are
ends line byte false parts part more are = rw are (difference-empty line byte [] part more)

-- the same byte first
same_byte : (line byte : ℕ) (is : Bool) (parts others : List (List ℕ)) (part other : List ℕ) (more_parts more_others : List (List ℕ))
    → parts ≡ part ∷ more_parts → others ≡ other ∷ more_others
    → difference_from line (parts_with is byte parts) (parts_with is byte others) ≡ difference_from (cond is (suc line) line) parts others
same_byte line byte true parts others part other more_parts more_others are_parts are_others =
    difference-lines line parts others part other more_parts more_others are_parts are_others
same_byte line byte false parts others part other more_parts more_others are_parts are_others =
    rw (are_parts, are_others) (difference-led line byte part more_parts other more_others)

-- different bytes first
other_byte : (line byte first : ℕ) (is ends : Bool) (parts others : List (List ℕ)) (part other : List ℕ) (more_parts more_others : List (List ℕ))
    → (byte == 10) ≡ is → (first == 10) ≡ ends → (byte == first) ≡ false
    → parts ≡ part ∷ more_parts → others ≡ other ∷ more_others
    → difference_from line (parts_with is byte parts) (parts_with ends first others) ≡ Some line
other_byte line byte first true true parts others part other more_parts more_others at_end at_ends differ are_parts are_others =
    let no : (byte == first) ≡ true = grind (arith, nat_tests) in
    absurd (cc)
other_byte line byte first true false parts others part other more_parts more_others at_end at_ends differ are_parts are_others =
    rw are_others (difference-empty line first parts other more_others)
other_byte line byte first false true parts others part other more_parts more_others at_end at_ends differ are_parts are_others =
    rw are_parts (difference-empties line byte part more_parts others)
other_byte line byte first false false parts others part other more_parts more_others at_end at_ends differ are_parts are_others =
    rw (are_parts, are_others) (difference-apart line byte first part more_parts other more_others differ)

-- whole texts
pub by_bytes : (line : ℕ) (text other : List ℕ)
    → difference_from line (parts_of text) (parts_of other) ≡ mismatch line text other
by_bytes line [] [] = refl
by_bytes line [] (byte ∷ bytes) =
    let cut = parts_of-cons bytes in
    ends line byte (byte == 10) (parts_of bytes) cut.0 cut.1 cut.2
by_bytes line (byte ∷ bytes) [] =
    let cut = parts_of-cons bytes in
    ended line byte (byte == 10) (parts_of bytes) cut.0 cut.1 cut.2
by_bytes line (byte ∷ bytes) (other ∷ others) = by_test (byte == other) refl (λ l. by_bytes l bytes others)
  where
    cut : (first : List ℕ) × (more : List (List ℕ)) × (parts_of bytes ≡ first ∷ more)
    cut = parts_of-cons bytes

    cuts : (first : List ℕ) × (more : List (List ℕ)) × (parts_of others ≡ first ∷ more)
    cuts = parts_of-cons others

    by_test : (same : Bool) → (byte == other) ≡ same
        → ((l : ℕ) → difference_from l (parts_of bytes) (parts_of others) ≡ mismatch l bytes others)
        → difference_from line (parts_of (byte ∷ bytes)) (parts_of (other ∷ others)) ≡ cond same (mismatch (cond (byte == 10) (suc line) line) bytes others) (Some line)
    by_test true is rest =
        let this : other ≡ byte = grind (arith, nat_tests) in
        ap (λ b. difference_from line (parts_of (byte ∷ bytes)) (parts_of (b ∷ others))) this
        ∙ same_byte line byte (byte == 10) (parts_of bytes) (parts_of others) cut.0 cuts.0 cut.1 cuts.1 cut.2 cuts.2
        ∙ rest (cond (byte == 10) (suc line) line)
    by_test false is rest =
        other_byte line byte other (byte == 10) (other == 10) (parts_of bytes) (parts_of others) cut.0 cuts.0 cut.1 cuts.1 refl refl is cut.2 cuts.2

pub first_by_bytes : (text other : List ℕ) → mismatch 1 text other ≡ first_difference text other
first_by_bytes text other = sym (by_bytes 1 text other)
