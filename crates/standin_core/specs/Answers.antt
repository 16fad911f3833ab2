-- What a stand-in helper answers to a request (ours): docs/PROTOCOL.md, "Messages of child processes".
use Rattle.std.specs.Prelude.{◌≡◌, ℕ, Bool, true, false, if◌then◌else◌, List, ◌++◌, Option, Some, None}
use Rattle.std.specs.Result.{result_ok}
use Rattle.std.specs.Str.{bytes_eq}
use Rattle.child_msg.specs.ChildFrames.{from_child_body}
use Rattle.child_msg.specs.Messages.{FromChildMessage, Signed, Refused, True, False, ToChildMessage, Sign, Verify, Confirm, Signing, Verification}
use Rattle.child_msg.specs.Reading.{to_child_of}
use Rattle.standin_core.specs.Hosts.{Host, secret_for}
use Rattle.standin_core.specs.Keys.{secret_of, signature_of, tag_of}
use Rattle.wire_text.specs.Wire.{string}

-- the signature under the secret, where there is one; else a refusal
abbrev pub signed_with : Option (List ℕ) → Signing → FromChildMessage
signed_with (Some secret) request = Signed request.ask (signature_of secret request.message)
signed_with None request = Refused request.ask

-- signed with the secret of the request's own private string, where the blob is that string's
abbrev pub signing_answer : Signing → FromChildMessage
signing_answer request = signed_with (secret_of request.private request.blob) request

-- the signature is the session identifier's under the secret, where there is one
abbrev pub is_signed_with : Option (List ℕ) → Verification → Bool
is_signed_with (Some secret) request = bytes_eq request.signature (signature_of secret request.session)
is_signed_with None request = false

-- the secret of the host of this tag, where there is one
abbrev pub host_secret : List Host → Option (List ℕ) → Option (List ℕ)
host_secret hosts (Some tag) = secret_for tag hosts
host_secret hosts None = None

-- true where the host key is a stand-in key of the data file and made the signature
abbrev pub verifying_answer : List Host → Verification → FromChildMessage
verifying_answer hosts request =
    if is_signed_with (host_secret hosts (tag_of request.host_key)) request then True request.ask else False request.ask

-- the answer to a message, where it is one to a helper
abbrev pub answer_to : List Host → Option ToChildMessage → Option FromChildMessage
answer_to hosts (Some (Sign request)) = Some (signing_answer request)
answer_to hosts (Some (Verify request)) = Some (verifying_answer hosts request)
answer_to hosts (Some (Confirm job prompt)) = None
answer_to hosts None = None

-- the answer to a body, where it is a request to a helper
unfoldable pub answer_of : List Host → List ℕ → Option FromChildMessage
answer_of hosts body = answer_to hosts (result_ok (to_child_of body))

-- the frame of the answer was appended, where there is one, and else nothing
abbrev pub IsAnswered : Bool → Option FromChildMessage → List ℕ → List ℕ → Type 0
IsAnswered true (Some answer) before now = now ≡ before ++ string (from_child_body answer)
IsAnswered true None before now = ⊥
IsAnswered false (Some answer) before now = ⊥
IsAnswered false None before now = now ≡ before
