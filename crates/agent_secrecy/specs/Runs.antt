-- Runs of one client whose key has one secret or another, and what is told in them (ours). A definition of the agent that
-- tells a bit of a secret differs in one of them.
use Rattle.std.specs.Prelude.{ℕ, List, [], ◌∷◌, ◌++◌, take, map, codes}
use Rattle.world_ports.specs.declared.Door.TheVariants.{Clients, Children}
use Rattle.world_ports.specs.declared.Job.{Job}
use Rattle.agent_model.specs.Actions.{Outcome}
use Rattle.agent_model.specs.ChildRows.{hello, ticket}
use Rattle.agent_model.specs.Events.{Happening, Heard, Joined, Started, Took}
use Rattle.agent_model.specs.Rows.{list, sign}
use Rattle.agent_model.specs.Runs.{outcomes}
use Rattle.agent_model.specs.State.{first_state, no_settings, owed_of, starts}
use Rattle.agent_secrecy.specs.Rows.{add_with, now, private_string}

-- what an event tells: what is owed to the client of port 1 and at port 2, the ports that were closed, and the jobs that
-- are to be started
abbrev pub told_by : Outcome → List (List ℕ)
told_by outcome = owed_of 1 outcome.state ∷ owed_of 2 outcome.state ∷ outcome.closes
    ∷ map (λ (job : Job). job.number) (starts outcome.state) ∷ []

-- what each of these events tells, from the first state on
abbrev pub told_in : List Happening → List (List (List ℕ))
told_in events = map told_by (outcomes (first_state no_settings) (map now events))

-- the message that adds the key of this tag and secret, so that each use is asked of the user
abbrev pub add_asking_with : (tag secret : ℕ) → List ℕ
add_asking_with tag secret =
    0 ∷ 0 ∷ 0 ∷ 109 ∷ 25 ∷ (private_string tag secret ++ 0 ∷ 0 ∷ 0 ∷ 3 ∷ (codes "one" ++ 2 ∷ []))

-- ---- runs

-- the client adds the key of tag 17, and this follows
abbrev pub adding : (secret : ℕ) → List Happening → List Happening
adding secret later = Joined Clients ∷ Heard 1 (add_with 17 secret) ∷ Took 1 5 ∷ later

-- the client adds a key and lists the keys
abbrev pub listing : (secret : ℕ) → List Happening
listing secret = adding secret (Heard 1 list ∷ [])

-- the client adds a key and asks for a signature
abbrev pub signing : (secret : ℕ) → List Happening
signing secret = adding secret (Heard 1 (sign 17) ∷ [])

-- the client adds a key, and then the same key with a fixed secret
abbrev pub adding_again : (secret : ℕ) → List Happening
adding_again secret = adding secret (Heard 1 (add_with 17 34) ∷ [])

-- the user is asked, by the child process of port 2
abbrev pub asking : (secret : ℕ) → List Happening
asking secret = Joined Clients ∷ Heard 1 (add_asking_with 17 secret) ∷ Took 1 5 ∷ Heard 1 (sign 17)
    ∷ Started 1 (ticket 9) ∷ Joined Children ∷ Heard 2 (hello 1 9) ∷ []

-- a second addition begins in the piece of the first, and ends within its secret
abbrev pub cutting : (secret : ℕ) → List Happening
cutting secret = Joined Clients ∷ Heard 1 (add_with 17 33 ++ take 100 (add_with 18 secret)) ∷ []
