-- Hosts, constraints and logins of the examples.
use Rattle.std.specs.Prelude.{ℕ, true, false, List, [], ◌∷◌, ◌++◌, codes, replicate, Option, Some}
use Rattle.wire_text.specs.Wire.{string}
use Rattle.key_blob.specs.Certificates.{certificate_text}
use Rattle.constraint_rec.specs.declared.constraint.Hop.{Hop}
use Rattle.constraint_rec.specs.declared.constraint.Constraint.{Constraint}
use Rattle.userauth_blob.specs.UserAuths.{signed_text}
use Rattle.dest_rule.specs.Chains.{Binding}
use Rattle.dest_rule.specs.Rules.{Grounds}

-- ---- keys

-- an Ed25519 key whose 32 bytes are all this one
abbrev pub key : ℕ → List ℕ
key byte = string (codes "ssh-ed25519") ++ string (replicate 32 byte)

-- a certificate of the key 3 for a host, by the authority 9, valid from second 100 to 199
abbrev pub certificate_for : List ℕ → List ℕ
certificate_for host =
    string (codes "ssh-ed25519-cert-v01@openssh.com") ++ (string (replicate 32 0)
    ++ (string (replicate 32 3) ++ certificate_text (record {
      cert_type = 2;
      principals = string host;
      after = 100;
      before = 200;
      critical = [];
      signer = key 9;
    }) 1 (codes "id") [] [] (codes "signature") []))

-- ---- constraints

-- the agent's own host
abbrev pub origin : Hop
origin = record { user = []; host = []; keys = [] }

-- a host known by its key
abbrev pub known : ℕ → Hop
known byte = record {
  user = [];
  host = codes "scylla.example.org";
  keys = record { blob = key byte; authority = false } ∷ [];
}

-- a host known by its key, for users whose names match a pattern
abbrev pub known_for : List ℕ → ℕ → Hop
known_for pattern byte = record (known byte) { user = pattern }

-- a host of this name, known by its key
abbrev pub named : List ℕ → ℕ → Hop
named host byte = record (known byte) { host = host }

-- a host whose certificates are of the authority 9
abbrev pub certified : Hop
certified = record {
  user = [];
  host = codes "scylla.example.org";
  keys = record { blob = key 9; authority = true } ∷ [];
}

-- the constraint from one hop to another
abbrev pub to_go : Hop → Hop → Constraint
to_go from to = record { from = from; to = to }

-- ---- bindings

-- a host that the agent is forwarded to
abbrev pub passing : List ℕ → List ℕ → Binding
passing host_key session = record { host_key = host_key; session = session; forwarding = true }

-- a host that is logged in to
abbrev pub ending : List ℕ → List ℕ → Binding
ending host_key session = record { host_key = host_key; session = session; forwarding = false }

-- ---- logins

-- the grounds of these constraints, for the user `root`, at this second
abbrev pub for_root : List Constraint → ℕ → Grounds
for_root rules wall = record { rules = rules; user = Some (codes "root"); wall = wall }

-- what the key 1 signs for a user to log in to a session, bound to a host key or not
abbrev pub login_as : List ℕ → List ℕ → Option (List ℕ) → List ℕ
login_as user session host_key =
    signed_text (record { session = session; user = user; host_key = host_key })
    (codes "ssh-ed25519") (key 1)

-- the same for `root`
abbrev pub login_of : List ℕ → Option (List ℕ) → List ℕ
login_of session host_key = login_as (codes "root") session host_key
