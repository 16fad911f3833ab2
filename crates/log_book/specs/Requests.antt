-- Messages between a client and an agent, as a log reads them (draft-miller-ssh-agent).
use Rattle.std.specs.Prelude.{ℕ, List, [], ◌∷◌, Option, None, Some, Result, Ok, Err}
use Rattle.wire_text.specs.Bounds.{longest_body}
use Rattle.wire_text.specs.Frames.{Front, Whole, Bad, More, front, front_body, after_front}
use Rattle.agent_msg.specs.declared.fault.MsgFault.{MsgFault}
use Rattle.agent_msg.specs.Requests.{Add, Bind, ClientRequest, ListIdentities, Lock, OtherExtension, Remove, RemoveAll, Sign, Unlock, Unsupported}
use Rattle.log_book.specs.declared.told.Asked.{Asked}
use Rattle.log_book.specs.declared.told.Asked.TheVariants as asked

-- by what stands in front: the body of a whole message, and the bytes behind it
abbrev pub next_by : Front → List ℕ → Option (List ℕ × List ℕ)
next_by (Whole size) bytes = Some (front_body size bytes, after_front size bytes)
next_by (Bad announced) bytes = None
next_by More bytes = None

-- the body of the message that stands whole in front of bytes, and the bytes behind it
unfoldable pub next_in : List ℕ → Option (List ℕ × List ℕ)
next_in bytes = next_by (front longest_body bytes) bytes

-- the number of a message
abbrev pub first_byte : List ℕ → ℕ
first_byte [] = 0
first_byte (number ∷ fields) = number

-- what of a request the log is about: signatures, and under which comment a key is added
abbrev pub asked_for : ClientRequest → Asked
asked_for ListIdentities = asked.Other
asked_for (Sign signing) = asked.Signing signing.blob signing.message
asked_for (Add addition) = asked.Adding addition.key.blob addition.comment
asked_for (Remove blob) = asked.Other
asked_for RemoveAll = asked.Other
asked_for (Lock passphrase) = asked.Other
asked_for (Unlock passphrase) = asked.Other
asked_for (Bind bind) = asked.Other
asked_for (OtherExtension name) = asked.Other
asked_for (Unsupported number) = asked.Other

-- by the reading of a body: one that is no request asks for nothing of that
abbrev pub asked_by : Result ClientRequest MsgFault → Asked
asked_by (Ok request) = asked_for request
asked_by (Err fault) = asked.Other
