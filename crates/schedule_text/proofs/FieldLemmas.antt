-- Lemmas on specs/Fields.antt.
use Rattle.std.proofs.Common.{◌≡◌, ◌≤◌, ℕ, ◌+◌, List, [], ◌∷◌, take, drop, length, Some, None, position, arith}
use Rattle.std.proofs.lemmas.Grind.{common_steps}
use Rattle.std.specs.List.{position_or_len}
use Rattle.std.proofs.lemmas.Bool.Decides.{nat_tests}
use Rattle.std.proofs.lemmas.List.Sums.{fails_before_first}
use Rattle.std.proofs.lemmas.List.Splits.{slice_split_first, slice_split_none}
use Rattle.std.proofs.lemmas.List.Quantifiers.{position-Some}
use Rattle.schedule_text.specs.Fields.{fields_of, is_space}

-- the first field ends at the first space, and the others stand behind it
pub fields_of-space : (text : List ℕ) (end : ℕ) → position is_space text ≡ Some end
    → fields_of text ≡ take end text ∷ fields_of (drop (end + 1) text)
fields_of-space text end found = grind (arith, common_steps, position-Some is_space text end 0 found, slice_split_first is_space text 0)

-- a text without a space is one field
pub fields_of-no_space : (text : List ℕ) → position is_space text ≡ None → fields_of text ≡ text ∷ []
fields_of-no_space text none =
    let past : length text ≤ position_or_len is_space text = grind (arith, nat_tests) in
    slice_split_none is_space text (λ k d within. fails_before_first is_space text k d (omega arith))
