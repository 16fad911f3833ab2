-- The bodies of the frames between the agent and its child processes: a kind byte, a number, and fields (ours).
use Rattle.std.specs.Prelude.{◌≡◌, ℕ, ◌+◌, ◌<◌, ◌^◌, List, ◌∷◌, ◌++◌, length}
use Rattle.wire_text.specs.Wire.{uint32, uint64, string}
use Rattle.child_msg.specs.Messages.{FromChildMessage, Hello, Signed, Refused, True, False, Granted, Denied, ToChildMessage, Sign, Verify, Confirm}

-- the body of what a child process sends
abbrev pub from_child_body : FromChildMessage → List ℕ
from_child_body (Hello job ticket) = 1 ∷ (uint64 job ++ string ticket)
from_child_body (Signed ask signature) = 101 ∷ (uint64 ask ++ string signature)
from_child_body (Refused ask) = 102 ∷ uint64 ask
from_child_body (True ask) = 103 ∷ uint64 ask
from_child_body (False ask) = 104 ∷ uint64 ask
from_child_body (Granted job) = 105 ∷ uint64 job
from_child_body (Denied job) = 106 ∷ uint64 job

-- the body of what a child process is sent
abbrev pub to_child_body : ToChildMessage → List ℕ
to_child_body (Sign s) =
    1 ∷ (uint64 s.ask ++ (string s.private ++ (string s.blob ++ (string s.message ++ uint32 s.flags))))
to_child_body (Verify v) = 2 ∷ (uint64 v.ask ++ (string v.host_key ++ (string v.signature ++ string v.session)))
to_child_body (Confirm job prompt) = 3 ∷ (uint64 job ++ string prompt)

-- how many bytes the body of a child process's message has, by the lengths of its fields alone
abbrev pub from_child_length : FromChildMessage → ℕ
from_child_length (Hello job ticket) = 13 + length ticket
from_child_length (Signed ask signature) = 13 + length signature
from_child_length (Refused ask) = 9
from_child_length (True ask) = 9
from_child_length (False ask) = 9
from_child_length (Granted job) = 9
from_child_length (Denied job) = 9

-- how many bytes the body of a message to a child process has, by the lengths of its fields alone
abbrev pub to_child_length : ToChildMessage → ℕ
to_child_length (Sign s) = 25 + length s.private + length s.blob + length s.message
to_child_length (Verify v) = 21 + length v.host_key + length v.signature + length v.session
to_child_length (Confirm job prompt) = 13 + length prompt

-- the fields have the ranges of their types, and a ticket has 16 bytes
abbrev pub FromChildFits : FromChildMessage → Type 0
FromChildFits (Hello job ticket) = (job < 2 ^ 64) × (length ticket ≡ 16)
FromChildFits (Signed ask signature) = (ask < 2 ^ 64) × (length signature < 2 ^ 32)
FromChildFits (Refused ask) = ask < 2 ^ 64
FromChildFits (True ask) = ask < 2 ^ 64
FromChildFits (False ask) = ask < 2 ^ 64
FromChildFits (Granted job) = job < 2 ^ 64
FromChildFits (Denied job) = job < 2 ^ 64

-- the fields have the ranges of their types
abbrev pub ToChildFits : ToChildMessage → Type 0
ToChildFits (Sign s) =
    (s.ask < 2 ^ 64) × (length s.private < 2 ^ 32) × (length s.blob < 2 ^ 32) × (length s.message < 2 ^ 32) × (s.flags < 2 ^ 32)
ToChildFits (Verify v) =
    (v.ask < 2 ^ 64) × (length v.host_key < 2 ^ 32) × (length v.signature < 2 ^ 32) × (length v.session < 2 ^ 32)
ToChildFits (Confirm job prompt) = (job < 2 ^ 64) × (length prompt < 2 ^ 32)

-- the body is this message of a child process
pub record IsFromChild (body : List ℕ) (message : FromChildMessage) : Type 0 where
  pub printed : body ≡ from_child_body message
  pub fits : FromChildFits message

-- the body is this message to a child process
pub record IsToChild (body : List ℕ) (message : ToChildMessage) : Type 0 where
  pub printed : body ≡ to_child_body message
  pub fits : ToChildFits message
