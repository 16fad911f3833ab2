-- Exit statuses (ours).
use Rattle.std.specs.Prelude.{ℕ}
use Rattle.filter_top.specs.declared.status.FilterStatus.{FilterStatus}
use Rattle.filter_top.specs.declared.status.FilterStatus.TheVariants as status

-- the exit status
abbrev pub code_of : FilterStatus → ℕ
code_of status.Done = 0
code_of (status.BadList line fault) = 1
code_of status.Usage = 2
code_of status.BindFault = 3
code_of status.PollFault = 4
code_of status.Memory = 5
code_of status.FileFault = 6
code_of status.FileTooLong = 6
code_of (status.BadPurpose fault) = 7
