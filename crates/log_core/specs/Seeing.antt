-- What is seen of an event, as the agent tells it: its jobs and its newest ask, before and behind it (ours).
use Rattle.std.specs.Prelude.{ℕ, List, map}
use Rattle.agent_model.specs.Events.{Happening}
use Rattle.agent_model.specs.State.{State, starts}
use Rattle.audit_core.specs.Newest.{put_since}
use Rattle.audit_core.specs.declared.put.Put.{Put}
use Rattle.helper_link.specs.HelperLink.{HelperLink}
use Rattle.log_laws.specs.Raised.{port_of, raised_since}

-- the client that put a request
abbrev pub putter : Put → ℕ
putter put = put.port

-- the client whose signing request was put since so many asks
abbrev pub put_ports : ℕ → HelperLink → List ℕ
put_ports before link = map putter (put_since 0 before link)

-- the client about whose request the user is asked since so many jobs waited
abbrev pub raised_ports : Happening → ℕ → State → List ℕ
raised_ports event before state = raised_since (port_of event) before (starts state)
