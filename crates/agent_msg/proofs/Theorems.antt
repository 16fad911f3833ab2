-- Reader and grammar of requests agree.
use Rattle.std.proofs.Common.{◌≡◌, ℕ, List, Result, Ok, Err, IfOk, MatchResult, inl, inr}
use Rattle.wire_text.specs.Wire.{IsBytes}
use Rattle.wire_core.specs.Readings.{IsAnswerUnless}
use Rattle.agent_msg.specs.declared.fault.MsgFault.{MsgFault}
use Rattle.agent_msg.specs.declared.fault.MsgFault.TheVariants.{Memory}
use Rattle.agent_msg.specs.declared.request.Request.{Request}
use Rattle.agent_msg.specs.Reading.{request_of}
use Rattle.agent_msg.specs.Requests.{ClientRequest, client_request, IsRequest}
use Rattle.agent_msg.proofs.FoundLemmas.{request_is_found}
use Rattle.agent_msg.proofs.ReadLemmas.{request_is_read}

-- a body is one request at most
pub request_is_unique : (body : List ℕ) (a b : ClientRequest) → IsRequest body a → IsRequest body b → a ≡ b
request_is_unique body a b is_a is_b =
    let read_a = request_is_read body a is_a in
    let read_b = request_is_read body b is_b in
    cc

-- what the code reads is in the grammar
pub request_found : (body : List ℕ) (answer : Result Request MsgFault) → IsBytes body → IsAnswerUnless Memory client_request answer (request_of body)
    → IfOk answer (λ read. IsRequest body (client_request read))
request_found body (Ok read) each h = request_is_found body (client_request read) each h
request_found body (Err fault) each h = tt

-- what is in the grammar the code reads, unless memory ran out
pub request_only : (body : List ℕ) (answer : Result Request MsgFault) → IsAnswerUnless Memory client_request answer (request_of body)
    → (request : ClientRequest) → IsRequest body request
    → MatchResult answer (λ read. client_request read ≡ request) (λ fault. fault ≡ Memory)
request_only body (Ok read) h request is = let e = request_is_read body request is in cc
request_only body (Err fault) h request is =
    let e = request_is_read body request is in
    elim h [
      | inl memory ↦ memory
      | inr refused ↦ absurd cc
    ]
