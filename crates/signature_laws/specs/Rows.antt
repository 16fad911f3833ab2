-- Literal rows: requests that the signer refuses, as no helper stands behind it (ours).
use Rattle.std.specs.Prelude.{ℕ, List, [], ◌∷◌, ◌++◌}
use Rattle.world_ports.specs.declared.Door.TheVariants.{Children}
use Rattle.child_msg.specs.Messages.{Sign, ToChildMessage}
use Rattle.agent_model.specs.ChildRows.{hello, ticket}
use Rattle.agent_model.specs.Events.{Happening, Heard, Joined, Started}
use Rattle.agent_laws.specs.AnsweredRows.{one_asks, sign_message}
use Rattle.signature_laws.specs.Lives.{Life}

-- the first ask, for a signature with a key of no type
abbrev pub to_sign : ToChildMessage
to_sign = Sign record { ask = 1; private = []; blob = []; message = []; flags = 0 }

-- a client asks for a signature with a key of no type that the signer knows, and the helper names itself and begins to
-- refuse it, all in one piece
abbrev pub begins_to_refuse : List Happening
begins_to_refuse = one_asks (Started 1 (ticket 9) ∷ Joined Children ∷ Heard 2 (hello 1 9 ++ 0 ∷ 0 ∷ 0 ∷ 9 ∷ 102 ∷ []) ∷ [])

-- its life then
abbrev pub one_life : Life
one_life = record { put = sign_message 1 17 ∷ []; said = 0 ∷ 0 ∷ 0 ∷ 9 ∷ 102 ∷ [] }

-- the rest of its refusal
abbrev pub refused_later : List ℕ
refused_later = 0 ∷ 0 ∷ 0 ∷ 0 ∷ 0 ∷ 0 ∷ 0 ∷ 1 ∷ []
