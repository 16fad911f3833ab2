-- What a client asks of the agent: the request that a body is, where the host key of a request to
-- bind reads too (ours).
use Rattle.std.specs.Prelude.{ℕ, List, Result, Ok, Err}
use Rattle.key_blob.specs.PublicKeys.{KeyParts, public_key_of}
use Rattle.key_blob.specs.declared.fault.KeyFault.{KeyFault}
use Rattle.agent_msg.specs.declared.fault.MsgFault.{MsgFault}
use Rattle.agent_msg.specs.Faults.{key_fault}
use Rattle.agent_msg.specs.Reading.{request_of}
use Rattle.agent_msg.specs.Requests.{Bind, BindRequest, ClientRequest}

-- a request to bind, by how its host key reads
abbrev pub bind_with : BindRequest → Result KeyParts KeyFault → Result ClientRequest MsgFault
bind_with bind (Ok key) = Ok (Bind bind)
bind_with bind (Err fault) = Err (key_fault fault)

-- a request that was read, whose host key, if it has one, is read as a public key too
abbrev pub and_host_key : Result ClientRequest MsgFault → Result ClientRequest MsgFault
and_host_key (Ok (Bind bind)) = bind_with bind (public_key_of bind.host_key)
and_host_key read = read

-- the request that a body is, or its first fault
abbrev pub agent_request_of : List ℕ → Result ClientRequest MsgFault
agent_request_of body = and_host_key (request_of body)
