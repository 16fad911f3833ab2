-- What a helper with keys of the known types answers to a request, a function of the request alone; and which requests
-- it hands on (ours: docs/PROTOCOL.md, "Messages of child processes").
use Rattle.std.specs.Prelude.{ℕ, List, Result, Ok, Err}
use Rattle.child_msg.specs.Messages.{ToChildMessage, Sign, Verify, Confirm}
use Rattle.child_msg.specs.Reading.{to_child_of}
use Rattle.child_msg.specs.declared.fault.ChildFault.{ChildFault}
use Rattle.helper_core.specs.Routes.{Route, NoRequest}
use Rattle.signer_keys.specs.Signing.{signing_route}
use Rattle.signer_keys.specs.Verifying.{verdict_of, verifying_route}

-- what becomes of a message
abbrev pub route_to : Result ToChildMessage ChildFault → Route
route_to (Ok (Sign request)) = signing_route request
route_to (Ok (Verify request)) = verifying_route (verdict_of request.host_key request.session request.signature) request.ask
route_to (Ok (Confirm job prompt)) = NoRequest
route_to (Err _) = NoRequest

-- what becomes of a body, which is a function of the body alone: its answer, where it is a request with a key of a known
-- type and not for a certificate whose authority has a key of another
unfoldable pub route_of : List ℕ → Route
route_of body = route_to (to_child_of body)
