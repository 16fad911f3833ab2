-- What reading a lifetime has come to (ours).
use Rattle.std.specs.Prelude.{◌+◌, ℕ, List, Option, option_and_then}
use Rattle.world_ports.specs.Life.{in_range, sum_of}

-- the seconds of the parts read, and of those of a text behind them, where they are in range
abbrev pub sum_from : ℕ → Option ℕ → List ℕ → Option ℕ
sum_from total number text = option_and_then (λ sum. in_range (total + sum)) (sum_of number text)
