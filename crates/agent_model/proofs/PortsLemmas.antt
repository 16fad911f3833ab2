-- Lists of ports whose numbers rise: what holds of all lists whose elements have a number.
use Rattle.std.proofs.Common.{◌≡◌, ◌≢◌, ℕ, ◌<◌, ◌≤◌, List, [], ◌∷◌, ◌++◌, Some, None}
use Rattle.std.specs.Option.{option_map}
use Rattle.world_ports.specs.declared.Door.{Door}
use Rattle.lists.specs.Keyed.{has_key}
use Rattle.lists.proofs.FirstLemmas.{change-agree, change-twice, map-change, remove-change}
use Rattle.lists.proofs.KeyedLemmas as keyed
use Rattle.lists.proofs.KeyedLemmas.{find_by-above, find_by-below, find_by-change, find_by-change_apart, find_by-left, find_by-remove_apart, find_by-removed, found_key, keeps_key, rise-bound, rise-change, rise-higher, rise-lower, rise-push, rise-remove}
use Rattle.agent_model.specs.Sound.{IsRising}
use Rattle.agent_model.specs.State.{Port, find_port, change_port, number_of, remove_port, numbers, new_port}

-- the bound may be lower, and the last may be greater
pub rising_lower : (low lower high : ℕ) (ports : List Port) → lower ≤ low → IsRising low high ports
    → IsRising lower high ports
rising_lower low lower high ports below rising =
    rise-lower number_of lower low high ports below rising

pub rising_higher : (low high higher : ℕ) (ports : List Port) → high ≤ higher
    → IsRising low high ports → IsRising low higher ports
rising_higher low high higher ports above rising =
    rise-higher number_of low high higher ports above rising

-- the bound is no more than the last
pub rising_bound : (low high : ℕ) (ports : List Port) → IsRising low high ports → low ≤ high
rising_bound low high ports rising = rise-bound number_of low high ports rising

-- a port with a lower number isn't there
pub find_port-below : (number low high : ℕ) (ports : List Port) → number ≤ low
    → IsRising low high ports → find_port number ports ≡ None
find_port-below number low high ports below rising =
    find_by-below number_of number low high ports below rising

-- no port has a number above the last
pub absent_above : (number low high : ℕ) (ports : List Port) → IsRising low high ports
    → high < number → find_port number ports ≡ None
absent_above number low high ports rising above =
    find_by-above number_of number low high ports above rising

-- a change leaves the numbers
pub numbers-change_port : (number : ℕ) (f : Port → Port) (ports : List Port)
    → ((port : Port) → (f port).number ≡ port.number)
    → numbers (change_port number f ports) ≡ numbers ports
numbers-change_port number f ports keeps =
    map-change (has_key number_of number) f number_of ports keeps

-- the changed port is found
pub find_port-change_port : (number : ℕ) (f : Port → Port) (ports : List Port)
    → ((port : Port) → (f port).number ≡ port.number)
    → find_port number (change_port number f ports) ≡ option_map f (find_port number ports)
find_port-change_port number f ports keeps = find_by-change number_of number f ports keeps

-- two changes of one port are one
pub change_port-twice : (number : ℕ) (f g : Port → Port) (ports : List Port)
    → ((port : Port) → (f port).number ≡ port.number)
    → change_port number g (change_port number f ports) ≡ change_port number (λ port. g (f port)) ports
change_port-twice number f g ports keeps =
    change-twice (has_key number_of number) f g ports (keeps_key number_of number f keeps)

-- only what a change does to the port that is there matters
pub change_port-by : (number : ℕ) (f g : Port → Port) (ports : List Port) (port : Port)
    → find_port number ports ≡ Some port → f port ≡ g port
    → change_port number f ports ≡ change_port number g ports
change_port-by number f g ports port found same =
    change-agree (has_key number_of number) f g ports port found same

-- the numbers still rise
pub rising-change_port : (number low high : ℕ) (f : Port → Port) (ports : List Port)
    → ((port : Port) → (f port).number ≡ port.number) → IsRising low high ports
    → IsRising low high (change_port number f ports)
rising-change_port number low high f ports keeps rising =
    rise-change number_of number low high f ports keeps rising

pub rising-remove_port : (number low high : ℕ) (ports : List Port) → IsRising low high ports
    → IsRising low high (remove_port number ports)
rising-remove_port number low high ports rising = rise-remove number_of number low high ports rising

-- a new client goes behind the last
pub rising-append : (low high number : ℕ) (door : Door) (ports : List Port) → high < number
    → IsRising low high ports → IsRising low number (ports ++ new_port number door ∷ [])
rising-append low high number door ports above rising =
    rise-push number_of low high ports (new_port number door) above rising

-- a port that is found has a number above the bound
pub found_above : (number low high : ℕ) (ports : List Port) (port : Port) → IsRising low high ports
    → find_port number ports ≡ Some port → low < number
found_above number low high ports port rising found =
    keyed.found_above number_of number low high ports port rising found

-- and none above the last
pub found_within : (number low high : ℕ) (ports : List Port) (port : Port) → IsRising low high ports
    → find_port number ports ≡ Some port → number ≤ high
found_within number low high ports port rising found =
    keyed.found_within number_of number low high ports port rising found

-- a port that is removed may be changed before
pub remove_port-change_port : (number : ℕ) (f : Port → Port) (ports : List Port)
    → ((port : Port) → (f port).number ≡ port.number)
    → remove_port number (change_port number f ports) ≡ remove_port number ports
remove_port-change_port number f ports keeps =
    remove-change (has_key number_of number) f ports (keeps_key number_of number f keeps)

-- a port that is found has that number
pub found_number : (number : ℕ) (ports : List Port) (port : Port)
    → find_port number ports ≡ Some port → port.number ≡ number
found_number number ports port found = found_key number_of number ports port found

-- a port that is removed isn't there any more
pub find_port-remove_port : (number low high : ℕ) (ports : List Port) → IsRising low high ports
    → find_port number (remove_port number ports) ≡ None
find_port-remove_port number low high ports rising =
    find_by-removed number_of number low high ports rising

-- a change of another port leaves this one
pub find_port-apart : (number other : ℕ) (f : Port → Port) (ports : List Port)
    → ((p : Port) → (f p).number ≡ p.number) → number ≢ other
    → find_port number (change_port other f ports) ≡ find_port number ports
find_port-apart number other f ports keeps apart =
    find_by-change_apart number_of number other f ports keeps apart

-- and so does its removal
pub find_port-removed_apart : (number other : ℕ) (ports : List Port) → number ≢ other
    → find_port number (remove_port other ports) ≡ find_port number ports
find_port-removed_apart number other ports apart =
    find_by-remove_apart number_of number other ports apart

-- a port that is found after a removal was there
pub find_port-left : (number other low high : ℕ) (ports : List Port) (port : Port)
    → IsRising low high ports → find_port number (remove_port other ports) ≡ Some port
    → find_port number ports ≡ Some port
find_port-left number other low high ports port rising found =
    find_by-left number_of number other low high ports port rising found
