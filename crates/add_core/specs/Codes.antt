-- Exit statuses, as ssh-add(1) has them where it says one; want of memory is ours.
use Rattle.std.specs.Prelude.{ℕ}
use Rattle.add_core.specs.declared.fault.AddStatus.{AddStatus}
use Rattle.add_core.specs.declared.fault.AddStatus.TheVariants as status

-- the exit status
abbrev pub code_of : AddStatus → ℕ
code_of status.Done = 0
code_of (status.Failed fault) = 1
code_of status.NoAgent = 2
code_of status.Memory = 5
