-- The purposes of the command line (ours): one word each, behind the paths.
use Rattle.std.specs.Prelude.{◌≡◌, ℕ, List, [], ◌∷◌, Option, Some, None, Result, Ok, Err}
use Rattle.key_purposes.specs.Purposes.{purposes_in}
use Rattle.key_purposes.specs.declared.fault.PurposeFault.{PurposeFault}
use Rattle.key_purposes.specs.declared.purpose.Purpose.{Purpose}
use Rattle.filter_top.specs.declared.status.FilterStatus.{FilterStatus}
use Rattle.filter_top.specs.declared.status.FilterStatus.TheVariants as status

-- purposes that are given
abbrev pub given : Result (List Purpose) PurposeFault → Result (Option (List Purpose)) PurposeFault
given (Ok purposes) = Ok (Some purposes)
given (Err fault) = Err fault

-- the purposes that these words name: none are given where there are no words, and then any message may be signed
abbrev pub purposes_named : List (List ℕ) → Result (Option (List Purpose)) PurposeFault
purposes_named [] = Ok None
purposes_named (word ∷ words) = given (purposes_in (word ∷ words))

-- so the program may end, by what some words name: with the first fault from left to right
abbrev pub IsBadWord : {T : Type 0} → FilterStatus → Result T PurposeFault → Type 0
IsBadWord status.Done read = ⊥
IsBadWord (status.BadList line fault) read = ⊥
IsBadWord status.Usage read = ⊥
IsBadWord status.BindFault read = ⊥
IsBadWord status.PollFault read = ⊥
IsBadWord status.Memory read = Unit {0}
IsBadWord status.FileFault read = ⊥
IsBadWord status.FileTooLong read = ⊥
IsBadWord (status.BadPurpose fault) read = read ≡ Err fault

-- so it may end at these words
abbrev pub IsPurposeEnd : FilterStatus → List (List ℕ) → Type 0
IsPurposeEnd status words = IsBadWord status (purposes_named words)
