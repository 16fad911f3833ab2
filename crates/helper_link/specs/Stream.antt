-- The parts of a settling that functions of the code answer for (ours).
use Rattle.std.specs.Prelude.{◌≡◌, ℕ, List, drop}
use Rattle.helper_link.specs.Settling.{Settling, Verdict, Stops}
use Rattle.helper_link.specs.declared.ask.Ask.{Ask}
use Rattle.helper_link.specs.declared.settle.Settlement.{Settlement}
use Rattle.helper_link.specs.declared.stop.Stop.{Stop}
use Rattle.helper_link.specs.declared.stop.Stop.TheVariants as stops

-- the frame is faulty in this way, and the asks are unchanged; want of memory says nothing of it
abbrev pub StopsAt : Stop → Verdict → Type 0 → Type 0
StopsAt (stops.Fault fault) verdict Unchanged = (verdict ≡ Stops fault) × Unchanged
StopsAt stops.Memory verdict Unchanged = Unit {0}

-- what is settled and read of the stream, with the asks that are left
abbrev pub settled_to : List ℕ → Settlement → List Ask → Settling
settled_to stream end asks = record {
  settled = end.settled.items;
  asks = asks;
  heard = drop end.read stream;
  fault = end.fault;
}
