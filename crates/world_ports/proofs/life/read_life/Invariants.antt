-- the parts read, and what is left, are the whole text
use Rattle.std.proofs.Common.{◌≡◌, drop, None}
use Rattle.world_ports.specs.LifeParts.{sum_from}
use Rattle.world_ports.proofs.life.read_life.Given as goal

abbrev pub invariant-bytes : goal.invariant-bytes
invariant-bytes l = sum_from l.total l.number (drop l.byte-index l.text) ≡ sum_from 0 None l.text
