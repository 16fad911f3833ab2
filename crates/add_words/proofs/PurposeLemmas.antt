-- Purposes that words name.
use Rattle.std.proofs.Common.{◌≡◌, ◌≢◌, ℕ, List, [], ◌∷◌, map, Result, Ok, refl, ap, subst}
use Rattle.wire_core.specs.Readings.{◌>>=◌}
use Rattle.key_purposes.specs.Purposes.{ArePurposes, some_purposes, word_of}
use Rattle.key_purposes.specs.declared.fault.PurposeFault.{PurposeFault}
use Rattle.key_purposes.specs.declared.purpose.Purpose.{Purpose}
use Rattle.key_purposes.proofs.WordLemmas.{words_are}
use Rattle.add_words.specs.Purposes.{purposes_named}

-- some purposes are those of their own words
pub named_are : (words : List (List ℕ)) (purposes : List Purpose) → purposes_named words ≡ Ok purposes → purposes ≢ [] → ArePurposes (map word_of purposes) purposes
named_are words [] read some = absurd (some refl)
named_are words (purpose ∷ purposes) read some =
    let are = words_are words (purpose ∷ purposes) (ap (λ (r : Result (List Purpose) PurposeFault). r >>= some_purposes) read) in
    subst (λ (l : List (List ℕ)). ArePurposes l (purpose ∷ purposes)) are.named are
