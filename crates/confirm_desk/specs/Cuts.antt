-- Pieces of what a child process sends, told one after another (ours).
use Rattle.std.specs.Prelude.{ℕ, List, [], ◌∷◌, ◌++◌}
use Rattle.confirm_desk.specs.Calls.{Telling, telling}
use Rattle.confirm_desk.specs.Confirmations.{Confirmation}
use Rattle.confirm_desk.specs.declared.held.Verdict.{Verdict}
use Rattle.confirm_desk.specs.declared.held.Verdict.TheVariants as verdicts

-- what is told later, unless the user has decided
abbrev pub unless_decided : Verdict → Telling → (List Confirmation → Telling) → Telling
unless_decided verdicts.NotYet first later = later first.desk
unless_decided (verdicts.Granted held) first later = first
unless_decided (verdicts.Denied held) first later = first

-- pieces told one after another, up to the decision
abbrev pub told_in_turn : ℕ → List ℕ → List (List ℕ) → List Confirmation → Telling
told_in_turn port piece [] confirmations = telling port piece confirmations
told_in_turn port piece (next ∷ pieces) confirmations =
    unless_decided (telling port piece confirmations).verdict (telling port piece confirmations) (told_in_turn port next pieces)

-- the pieces as one
abbrev pub joined : List ℕ → List (List ℕ) → List ℕ
joined piece [] = piece
joined piece (next ∷ pieces) = piece ++ joined next pieces
