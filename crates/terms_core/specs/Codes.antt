-- The exit statuses (ours).
use Rattle.std.specs.Prelude.{ℕ}
use Rattle.terms_core.specs.declared.status.TermsStatus.{TermsStatus}
use Rattle.terms_core.specs.declared.status.TermsStatus.TheVariants.{Done, BadRequest, Usage, TooLong, Twice, Memory, ReadFault, WriteFault, TornEnd, BadReply, LostAgent, BadPurpose}

-- the exit status
abbrev pub code_of : TermsStatus → ℕ
code_of Done = 0
code_of BadRequest = 1
code_of Usage = 2
code_of TooLong = 3
code_of Twice = 4
code_of Memory = 5
code_of ReadFault = 6
code_of WriteFault = 7
code_of TornEnd = 8
code_of BadReply = 9
code_of LostAgent = 10
code_of (BadPurpose fault) = 11
