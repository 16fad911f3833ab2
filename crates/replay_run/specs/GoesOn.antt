-- A run over a text that comes in pieces (ours).
use Rattle.std.specs.Prelude.{◌≡◌, ℕ, ◌+◌, ◌==◌, ◌≤◌, Bool, false, List, ◌∷◌, ◌++◌, length, take, drop, ◌<◌}
use Rattle.std.specs.List.{AllByRecursion}
use Rattle.replay_run.specs.Replay.{Run, parts_of, printed, ran, longest_line, longest_schedule}

-- the byte ends a line
abbrev pub is_lf : ℕ → Bool
is_lf byte = byte == 10

-- no line ends among these bytes
abbrev pub HasNoLf : List ℕ → Type 0
HasNoLf bytes = AllByRecursion (λ byte. is_lf byte ≡ false) bytes

-- the first LF stands at this place
pub record IsLineEnd (bytes : List ℕ) (place : ℕ) : Type 0 where
  pub within : place < length bytes
  pub front : HasNoLf (take place bytes)
  pub split : take place bytes ++ 10 ∷ drop (place + 1) bytes ≡ bytes

-- the front of a line that may still be run
pub record IsBegun (run : Run) (bytes : List ℕ) : Type 0 where
  pub part : HasNoLf bytes
  pub short : length bytes ≤ longest_line
  pub within : run.read + length bytes ≤ longest_schedule

-- whatever follows: a run that has printed out, with bytes to come, does the same as one that has
-- printed new_out, with left to come
pub record GoesOn
    (out : List ℕ) (run : Run) (bytes new_out : List ℕ) (new_run : Run) (left : List ℕ) : Type 0 where
  pub printed_same : (ended : Bool) (more : List ℕ) →
      out ++ printed ended run (parts_of (bytes ++ more))
      ≡ new_out ++ printed ended new_run (parts_of (left ++ more))
  pub ran_same : (ended : Bool) (more : List ℕ) →
      ran ended run (parts_of (bytes ++ more)) ≡ ran ended new_run (parts_of (left ++ more))
