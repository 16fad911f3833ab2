-- Counts of faults, one for each object of the outside. None falls, and it stays at 2^64 - 1 (ours).
use Rattle.std.specs.Prelude.{◌≡◌, ◌⊎◌, ◌<◌, ◌≤◌, ◌+◌, ◌-◌, ◌^◌, Bool, ℕ, Result, OnErr, OnOk, min, if◌then◌else◌}

-- one more, where there is one
abbrev pub next_count : ℕ → ℕ
next_count n = min (n + 1) (2 ^ 64 - 1)

-- the count after a call that failed or did not
abbrev pub count_after : Bool → ℕ → ℕ
count_after failed n = if failed then next_count n else n

-- a fault was counted since: there are more than before, or the count stands at its end
abbrev pub Rose : ℕ → ℕ → Type 0
Rose before now = (before < now) ⊎ (now ≡ 2 ^ 64 - 1)

-- no fault is forgotten: a call answers an error exactly where it counted one
pub record HasCause {T E : Type 0} (before now : ℕ) (result : Result T E) : Type 0 where
  pub later : before ≤ now
  pub fault : OnErr result (Rose before now)
  pub kept : OnOk result (now ≡ before)
