-- How a relay ends where no frame comes, or a request isn't passed on (ours).
use Rattle.terms_core.specs.declared.fault.BodyFault.{BodyFault}
use Rattle.terms_core.specs.declared.fault.BodyFault.TheVariants as bodies
use Rattle.terms_core.specs.declared.fault.HearStop.{HearStop}
use Rattle.terms_core.specs.declared.fault.HearStop.TheVariants as stops
use Rattle.terms_core.specs.declared.status.TermsStatus.{TermsStatus}
use Rattle.terms_core.specs.declared.status.TermsStatus.TheVariants.{Done, BadRequest, TooLong, Twice, Memory, ReadFault, TornEnd, BadReply, LostAgent}

-- no request comes
abbrev pub request_status : HearStop → TermsStatus
request_status stops.Bad = BadRequest
request_status stops.End = Done
request_status stops.Torn = TornEnd
request_status stops.Failed = ReadFault
request_status stops.Memory = Memory

-- no reply comes
abbrev pub reply_status : HearStop → TermsStatus
reply_status stops.Bad = BadReply
reply_status stops.End = LostAgent
reply_status stops.Torn = LostAgent
reply_status stops.Failed = ReadFault
reply_status stops.Memory = Memory

-- the request isn't passed on
abbrev pub refused_status : BodyFault → TermsStatus
refused_status bodies.TooLong = TooLong
refused_status bodies.Twice = Twice
refused_status bodies.Memory = Memory
