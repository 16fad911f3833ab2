-- The exit statuses (ours).
use Rattle.std.specs.Prelude.{ℕ}
use Rattle.standin_core.specs.declared.status.HelperStatus.{HelperStatus}
use Rattle.standin_core.specs.declared.status.HelperStatus.TheVariants.{Done, BadFrame, Usage, FileFault, FileTooLong, BadFile, Memory, ReadFault, WriteFault, TornEnd}

-- the exit status
abbrev pub code_of : HelperStatus → ℕ
code_of Done = 0
code_of BadFrame = 1
code_of Usage = 2
code_of FileFault = 3
code_of FileTooLong = 3
code_of BadFile = 4
code_of Memory = 5
code_of ReadFault = 6
code_of WriteFault = 7
code_of TornEnd = 8
