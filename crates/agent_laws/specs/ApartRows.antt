-- Literal rows of two runs, with a key that a client doesn't see and without it (ours): the client
-- of port 1 adds the key 17 for one host alone, and the client of port 2 asked to bind its
-- connection in vain, so that it doesn't see it.
use Rattle.std.specs.Prelude.{ℕ, List, ◌∷◌, codes}
use Rattle.world_ports.specs.declared.Door.TheVariants.{Clients}
use Rattle.agent_model.specs.BindRows.{add_only_to}
use Rattle.agent_model.specs.ChildRows.{then}
use Rattle.agent_model.specs.Events.{Happening, Heard, Joined, Took}
use Rattle.agent_model.specs.State.{first_state, no_settings, owed_of}

-- EXTENSION of the name and nothing more
abbrev pub cut_bind : List ℕ
cut_bind = 0 ∷ 0 ∷ 0 ∷ 29 ∷ 27 ∷ 0 ∷ 0 ∷ 0 ∷ 24 ∷ codes "session-bind@openssh.com"

-- the second client's connection counts as one that tried to bind itself
abbrev pub blinded : List Happening → List Happening
blinded later = Heard 2 cut_bind ∷ Took 2 5 ∷ later

-- what the second client is owed in the end: two clients joined, the first one did this, and the
-- second one that
abbrev pub owed_to_second : List Happening → List ℕ
owed_to_second events =
    owed_of 2 (then (first_state no_settings) (Joined Clients ∷ Joined Clients ∷ events))

-- the key is added, and then this happens
abbrev pub behind_key : List Happening → List Happening
behind_key later = Heard 1 (add_only_to 17) ∷ Took 1 5 ∷ later
