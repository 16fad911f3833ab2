use Rattle.std.proofs.Common.{◌≡◌, length}
use Rattle.standin_core.specs.Reading.{IsReading}
use Rattle.standin_core.proofs.hosts.read_text.Given as goal

-- the lines before the rest were read
abbrev pub invariant-lines : goal.invariant-lines
invariant-lines l = record {
  reading : IsReading l.text l.rest l.pairs.live;
  tag : length l.tag ≡ 32;
  secret : length l.secret ≡ 32;
}

abbrev pub decreases-lines : goal.decreases-lines
decreases-lines l = length l.rest
