-- Requests of which only some fields matter (ours).
use Rattle.std.specs.Prelude.{ℕ, Bool, if◌then◌else◌, List, []}
use Rattle.child_msg.specs.Messages.{FromChildMessage, True, False, Signing, Verification}

-- a message to be signed
abbrev pub signing : ℕ → List ℕ → Signing
signing ask message = record { ask = ask; private = []; blob = []; message = message; flags = 0 }

-- a session identifier that may be signed
abbrev pub verification : List ℕ → List ℕ → Verification
verification signature session = record { ask = 0; host_key = []; signature = signature; session = session }

-- the answer to a verification
abbrev pub verdict_of : ℕ → Bool → FromChildMessage
verdict_of ask is_signed = if is_signed then True ask else False ask
