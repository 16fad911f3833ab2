-- The parts of a text, one after another.
use Rattle.std.proofs.Common.{◌≡◌, ◌≤◌, ℕ, ◌+◌, List, [], ◌∷◌, take, drop, length, Some, None, position, arith}
use Rattle.std.specs.List.{position_or_len}
use Rattle.std.proofs.lemmas.Grind.{common_steps}
use Rattle.std.proofs.lemmas.Bool.Decides.{nat_tests}
use Rattle.std.proofs.lemmas.List.Sums.{fails_before_first}
use Rattle.std.proofs.lemmas.List.Splits.{slice_split_first, slice_split_none}
use Rattle.std.proofs.lemmas.List.Quantifiers.{position-Some}
use Rattle.known_hosts.specs.declared.parts.Mark.{Mark}
use Rattle.known_hosts.specs.Parts.{ends, parts}

-- the first part ends at the first byte of the kind, and the others stand behind it
pub parts-mark : (mark : Mark) (text : List ℕ) (end : ℕ) → position (ends mark) text ≡ Some end
    → parts mark text ≡ take end text ∷ parts mark (drop (end + 1) text)
parts-mark mark text end found =
    grind (arith, common_steps, position-Some (ends mark) text end 0 found, slice_split_first (ends mark) text 0)

-- a text without such a byte is one part
pub parts-none : (mark : Mark) (text : List ℕ) → position (ends mark) text ≡ None
    → parts mark text ≡ text ∷ []
parts-none mark text none =
    let past : length text ≤ position_or_len (ends mark) text = grind (arith, nat_tests) in
    slice_split_none (ends mark) text (λ k d within. fails_before_first (ends mark) text k d (omega arith))
