-- The messages between the agent and its child processes, as plain values (ours).
use Rattle.std.specs.Prelude.{ℕ, List}
use Rattle.child_msg.specs.declared.message.FromChild.{FromChild}
use Rattle.child_msg.specs.declared.message.FromChild.TheVariants as from
use Rattle.child_msg.specs.declared.message.ToChild.{ToChild}
use Rattle.child_msg.specs.declared.message.ToChild.TheVariants as to

-- what a child process sends to the agent
pub data FromChildMessage : Type 0 where
  Hello : (job : ℕ) (ticket : List ℕ) → FromChildMessage
  Signed : (ask : ℕ) (signature : List ℕ) → FromChildMessage
  Refused : (ask : ℕ) → FromChildMessage
  True : (ask : ℕ) → FromChildMessage
  False : (ask : ℕ) → FromChildMessage
  Granted : (job : ℕ) → FromChildMessage
  Denied : (job : ℕ) → FromChildMessage

-- what is to be signed, and with which key
pub record Signing : Type 0 where
  pub ask : ℕ
  pub private : List ℕ
  pub blob : List ℕ
  pub message : List ℕ
  pub flags : ℕ

-- which signature is to be verified
pub record Verification : Type 0 where
  pub ask : ℕ
  pub host_key : List ℕ
  pub signature : List ℕ
  pub session : List ℕ

-- what the agent sends to a child process
pub data ToChildMessage : Type 0 where
  Sign : (signing : Signing) → ToChildMessage
  Verify : (verification : Verification) → ToChildMessage
  Confirm : (job : ℕ) (prompt : List ℕ) → ToChildMessage

-- the message that the code's value lends
abbrev pub from_child_message : FromChild → FromChildMessage
from_child_message (from.Hello job ticket) = Hello job ticket
from_child_message (from.Signed ask signature) = Signed ask signature.now
from_child_message (from.Refused ask) = Refused ask
from_child_message (from.True ask) = True ask
from_child_message (from.False ask) = False ask
from_child_message (from.Granted job) = Granted job
from_child_message (from.Denied job) = Denied job

-- the message that the code's value lends
abbrev pub to_child_message : ToChild → ToChildMessage
to_child_message (to.Sign ask private blob message flags) =
    Sign record { ask = ask; private = private.now; blob = blob.now; message = message.now; flags = flags }
to_child_message (to.Verify ask host_key signature session) =
    Verify record { ask = ask; host_key = host_key.now; signature = signature.now; session = session.now }
to_child_message (to.Confirm job prompt) = Confirm job prompt.now
