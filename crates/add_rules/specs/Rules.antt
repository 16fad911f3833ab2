-- The destination constraints of some destinations (OpenSSH's PROTOCOL.agent,
-- "restrict-destination-v00@openssh.com key constraint extension"), by the keys that files of known
-- hosts have for their hosts.
use Rattle.std.specs.Prelude.{ℕ, List, [], ◌∷◌, Option, Some, None, Result, Ok, Err}
use Rattle.std.specs.List.{flat_map}
use Rattle.constraint_rec.specs.declared.key_spec.KeySpec.{KeySpec}
use Rattle.constraint_rec.specs.declared.constraint.Hop.{Hop}
use Rattle.constraint_rec.specs.declared.constraint.Constraint.{Constraint}
use Rattle.known_hosts.specs.HostKeys.{host_keys_of}
use Rattle.add_rules.specs.declared.fault.DestFault.{DestFault}
use Rattle.add_rules.specs.declared.fault.DestFault.TheVariants.{NoKeys}
use Rattle.add_rules.specs.Destinations.{Destination, destination_of, first_fault}

-- the keys of a host: those of all files, in their order
abbrev pub keys_of : List (List ℕ) → List ℕ → List KeySpec
keys_of files host = flat_map (λ file. host_keys_of file host) files

-- ---- hops

-- the hop to a host that has these keys
abbrev pub hop_with : List ℕ → List ℕ → List KeySpec → Result Hop DestFault
hop_with user host [] = Err NoKeys
hop_with user host (key ∷ keys) = Ok record { user = user; host = host; keys = key ∷ keys }

-- the hop to a host, as it was typed
abbrev pub hop_to : List (List ℕ) → List ℕ → List ℕ → Result Hop DestFault
hop_to files user host = hop_with user host (keys_of files host)

-- the hop that is the agent's own host
abbrev pub own_host : Hop
own_host = record { user = []; host = []; keys = [] }

-- the hop that is left: of any user, and the agent's own host where none is named
abbrev pub hop_from : List (List ℕ) → Option (List ℕ) → Result Hop DestFault
hop_from files None = Ok own_host
hop_from files (Some source) = hop_to files [] source

-- who may log in: anyone where no user is named
abbrev pub user_of : Option (List ℕ) → List ℕ
user_of None = []
user_of (Some user) = user

-- ---- constraints

-- the constraint from one hop to another, or the first one's fault, or the second one's
abbrev pub between : Result Hop DestFault → Result Hop DestFault → Result Constraint DestFault
between (Err fault) to = Err fault
between (Ok from) (Err fault) = Err fault
between (Ok from) (Ok to) = Ok record { from = from; to = to }

-- the constraint of a destination without a fault of its own
abbrev pub rule_unless : Option DestFault → List (List ℕ) → Destination → Result Constraint DestFault
rule_unless (Some fault) files typed = Err fault
rule_unless None files typed =
    between (hop_from files typed.source) (hop_to files (user_of typed.user) typed.host)

-- the constraint of a destination
abbrev pub rule_for : List (List ℕ) → Destination → Result Constraint DestFault
rule_for files typed = rule_unless (first_fault typed) files typed

-- the constraint that a word asks for
unfoldable pub rule_of : List (List ℕ) → List ℕ → Result Constraint DestFault
rule_of files word = rule_for files (destination_of word)

-- a constraint and the constraints behind it, or the first fault
abbrev pub onto : Result Constraint DestFault → Result (List Constraint) DestFault
    → Result (List Constraint) DestFault
onto (Err fault) others = Err fault
onto (Ok rule) (Err fault) = Err fault
onto (Ok rule) (Ok rules) = Ok (rule ∷ rules)

-- the constraints that words ask for, in their order, or the fault of the first that has one
abbrev pub rules_of : List (List ℕ) → List (List ℕ) → Result (List Constraint) DestFault
rules_of files [] = Ok []
rules_of files (word ∷ words) = onto (rule_of files word) (rules_of files words)
