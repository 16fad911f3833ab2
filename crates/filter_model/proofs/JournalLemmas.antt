-- Calls one after another.
use Rattle.std.proofs.Common.{◌≡◌, ◌∙◌, ◌++◌, ◌∷◌, Bool, true, false, List, [], Option, Some, None, refl, sym, ap}
use Rattle.std.specs.Prelude.{option_and_then}
use Rattle.pair_ports.specs.declared.entry.PairEntry.{PairEntry}
use Rattle.filter_model.specs.Answered.{Reading, only_if}
use Rattle.filter_model.specs.LegalPairs.{allowed, read_on}

read_by : (taking : Option Reading) (first later : List PairEntry) → ((reading : Reading) → read_on reading (first ++ later) ≡ option_and_then (λ after. read_on after later) (read_on reading first)) → option_and_then (λ after. read_on after (first ++ later)) taking ≡ option_and_then (λ after. read_on after later) (option_and_then (λ after. read_on after first) taking)
read_by None first later rest = refl
read_by (Some reading) first later rest = rest reading

-- the fold over two parts
pub read_on-append : (from : Reading) (first later : List PairEntry) → read_on from (first ++ later) ≡ option_and_then (λ after. read_on after later) (read_on from first)
read_on-append from [] later = refl
read_on-append from (next ∷ first) later = read_by (allowed from next) first later (λ reading. read_on-append reading first later)

pub read_both : (from mid to : Reading) (first later : List PairEntry) → read_on from first ≡ Some mid → read_on mid later ≡ Some to → read_on from (first ++ later) ≡ Some to
read_both from mid to first later legal more =
    read_on-append from first later ∙ ap (option_and_then (λ (after : Reading). read_on after later)) legal ∙ more

pub read_one : (from to : Reading) (next : PairEntry) → allowed from next ≡ Some to → read_on from (next ∷ []) ≡ Some to
read_one from to next is = ap (option_and_then (λ (after : Reading). read_on after [])) is

-- ---- and apart

-- what comes of two steps comes of the second after the first
pub then_some : {A B : Type 0} (f : A → Option B) (found : Option A) (to : B) → option_and_then f found ≡ Some to
    → (mid : A) × (found ≡ Some mid) × (f mid ≡ Some to)
then_some f None to is = cc
then_some f (Some mid) to is = (mid, refl, is)

pub read_apart : (from to : Reading) (first later : List PairEntry) → read_on from (first ++ later) ≡ Some to
    → (mid : Reading) × (read_on from first ≡ Some mid) × (read_on mid later ≡ Some to)
read_apart from to first later legal =
    then_some (λ (after : Reading). read_on after later) (read_on from first) to (sym (read_on-append from first later) ∙ legal)

-- what is only where a test holds
pub only_some : (test : Bool) (reading to : Reading) → only_if test reading ≡ Some to → (test ≡ true) × (reading ≡ to)
only_some true reading to is = let same : reading ≡ to = cc in (refl, same)
only_some false reading to is = cc
