-- Literal rows: runs of one client whose key has one secret or another, and what they leave (ours).
use Rattle.std.specs.Prelude.{ℕ, List, [], ◌∷◌, map, take}
use Rattle.world_ports.specs.declared.Door.TheVariants.{Clients}
use Rattle.agent_model.specs.Events.{Timed, Heard, Joined, Took}
use Rattle.agent_model.specs.Rows.{remove, sign}
use Rattle.agent_model.specs.State.{State, no_settings}
use Rattle.agent_secrecy.specs.Rows.{add_with, now}
use Rattle.agent_secrecy.specs.Runs.{adding}
use Rattle.removal_laws.specs.Removals.{end_of}

-- the key of tag 17 was added
abbrev pub kept : (secret : ℕ) → List Timed
kept secret = map now (adding secret [])

-- and removed
abbrev pub removed : (secret : ℕ) → List Timed
removed secret = map now (adding secret (Heard 1 (remove 17) ∷ []))

-- and added again with a fixed secret
abbrev pub replaced : (secret : ℕ) → List Timed
replaced secret = map now (adding secret (Heard 1 (add_with 17 34) ∷ []))

-- and removed, while a key of tag 18 with a fixed secret stays
abbrev pub beside : (secret : ℕ) → List Timed
beside secret = map now (adding secret (Heard 1 (add_with 18 50) ∷ Took 1 5 ∷ Heard 1 (remove 17) ∷ []))

-- and removed by another client, while the helper is still owed the request to sign with it
abbrev pub asked : (secret : ℕ) → List Timed
asked secret = map now (adding secret (Heard 1 (sign 17) ∷ Joined Clients ∷ Heard 2 (remove 17) ∷ []))

-- the addition isn't whole yet, and what came of it ends within the secret
abbrev pub begun : (secret : ℕ) → List Timed
begun secret = map now (Joined Clients ∷ Heard 1 (take 90 (add_with 17 secret)) ∷ [])

-- the state that these lead to
abbrev pub left_by : List Timed → State
left_by events = end_of no_settings events
