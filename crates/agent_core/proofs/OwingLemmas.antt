-- The numbers of the clients that are owed bytes rise.
use Rattle.std.proofs.Common.{ℕ, ◌<◌, List, [], ◌∷◌, arith, Bool, true, false, if◌then◌else◌}
use Rattle.agent_model.specs.Sound.{IsRising}
use Rattle.agent_model.specs.State.{Port}
use Rattle.lists.specs.Rising.{IsRisingNumbers}
use Rattle.lists.proofs.RisingLemmas.{rising_lower}
use Rattle.agent_core.specs.Slots.{is_owing, owing_of}

-- a number may be listed in front or left out
listed_or_not : (is_in : Bool) (low number : ℕ) (others : List ℕ) → low < number → IsRisingNumbers number others → IsRisingNumbers low (if is_in then number ∷ others else others)
listed_or_not true low number others above rising = (above, rising)
listed_or_not false low number others above rising = rising_lower low number others (omega arith) rising

-- the numbers of rising ports rise
pub rising_numbers : (low high : ℕ) (ports : List Port) → IsRising low high ports → IsRisingNumbers low (owing_of ports)
rising_numbers low high [] rising = tt
rising_numbers low high (port ∷ ports) rising =
    let rest : IsRisingNumbers port.number (owing_of ports) = rising_numbers port.number high ports rising.1 in
    listed_or_not (is_owing port) low port.number (owing_of ports) rising.0 rest
