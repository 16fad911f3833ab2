-- What the agent holds: its identities and its lock (draft-miller-ssh-agent, "Adding keys to the
-- agent", "Locking and unlocking an agent").
use Rattle.std.specs.Prelude.{ℕ, List, [], map, Option, None, Some}
use Rattle.identity_table.specs.Identities.{HeldKey, TableState, alive_at}
use Rattle.identity_table.specs.Tables.{spent}

-- the identities, and the passphrase where the agent is locked
pub record KeyState : Type 0 where
  pub table : TableState
  pub lock : Option (List ℕ)

-- no identities, in an agent that isn't locked; those that come without a lifetime live for so long
abbrev pub no_keys : Option ℕ → KeyState
no_keys life = record {
  table = record { identities = []; greatest = 0; last = 0; life = life };
  lock = None;
}

-- without those whose lifetime has run out at this second
abbrev pub expired : ℕ → KeyState → KeyState
expired second keys = record keys {
  table =
      record keys.table { identities = alive_at second keys.table.identities; greatest = second };
}

-- after one more use of the identity of this addition, where one was used (ours)
abbrev pub after_use : Option ℕ → KeyState → KeyState
after_use None keys = keys
after_use (Some addition) keys = record keys { table = spent addition keys.table }

-- an identity as a list of them shows it: the blob of its public key, and its comment
abbrev pub shown : HeldKey → List ℕ × List ℕ
shown key = (key.blob, key.comment)

-- all identities as a list shows them, in their order
abbrev pub listing : KeyState → List (List ℕ × List ℕ)
listing keys = map shown keys.table.identities
