-- Asks in the order of their numbers, and which of them a number finds: what holds of all lists whose elements have a
-- number.
use Rattle.std.proofs.Common.{◌≡◌, ◌==◌, ℕ, ◌+◌, ◌<◌, ◌≤◌, Bool, true, false, cond, List, [], ◌∷◌, ◌++◌, length, Some, None, arith}
use Rattle.std.proofs.lemmas.List.Sums.{sum_by-cons}
use Rattle.lists.specs.Keyed.{has_key}
use Rattle.lists.proofs.FirstLemmas.{length-remove}
use Rattle.lists.proofs.KeyedLemmas.{find_by-above, find_by-push, find_by-remove, rise-push, rise-remove}
use Rattle.helper_link.specs.HelperLink.{ask_of, asked_len}
use Rattle.helper_link.specs.Settling.{find_ask, number_of, remove_ask}
use Rattle.helper_link.specs.Sound.{RiseTo}
use Rattle.helper_link.specs.declared.ask.Ask.{Ask}
use Rattle.helper_link.specs.declared.ask.AskKind.{AskKind}

-- how many bytes the body of an ask has
abbrev pub size : Ask → ℕ
size ask = ask.size

-- the next number is above them all
pub push_rises : (below : ℕ) (asks : List Ask) (last : ℕ) (asker : ℕ) (kind : AskKind) (blob : List ℕ)
    (now size : ℕ) → RiseTo below asks last →
    RiseTo below (asks ++ (ask_of (last + 1) asker kind blob now size ∷ [])) (last + 1)
push_rises below asks last asker kind blob now size rise =
    rise-push number_of below last asks (ask_of (last + 1) asker kind blob now size) (omega arith) rise

-- one ask less
pub remove_rises : (number below : ℕ) (asks : List Ask) (last : ℕ) → RiseTo below asks last →
    RiseTo below (remove_ask number asks) last
remove_rises number below asks last rise = rise-remove number_of number below last asks rise

-- a removal leaves no more, and bodies that have no more bytes together
pub remove_fewer : (number : ℕ) (asks : List Ask) → length (remove_ask number asks) ≤ length asks
remove_fewer number asks = length-remove (has_key number_of number) asks

pub remove_lighter : (number : ℕ) (asks : List Ask) → asked_len (remove_ask number asks) ≤ asked_len asks
remove_lighter number [] = omega arith
remove_lighter number (one ∷ asks) = by_test (one.number == number) (remove_lighter number asks)
  where
    by_test : (is : Bool) → asked_len (remove_ask number asks) ≤ asked_len asks →
        asked_len (cond is asks (one ∷ remove_ask number asks)) ≤ asked_len (one ∷ asks)
    by_test true less = omega (arith, sum_by-cons size one asks)
    by_test false less =
        omega (arith, sum_by-cons size one asks, sum_by-cons size one (remove_ask number asks), less)

-- nothing has a number above the last
pub above_none : (number below : ℕ) (asks : List Ask) (last : ℕ) → RiseTo below asks last →
    last < number → find_ask number asks ≡ None
above_none number below asks last rise above = find_by-above number_of number below last asks above rise

-- one ask more at the end is found by its number, and the others by theirs
pub find-push : (number below : ℕ) (new : Ask) (asks : List Ask) (last : ℕ) →
    RiseTo below asks last → last < new.number →
    find_ask number (asks ++ (new ∷ [])) ≡ cond (new.number == number) (Some new)
    (find_ask number asks)
find-push number below new asks last rise above =
    find_by-push number_of number below last asks new above rise

-- one ask less isn't found by its number any more, and the others are by theirs
pub find-remove : (number other below : ℕ) (asks : List Ask) (last : ℕ) → RiseTo below asks last →
    find_ask number (remove_ask other asks) ≡ cond (other == number) None (find_ask number asks)
find-remove number other below asks last rise =
    find_by-remove number_of number other below last asks rise
