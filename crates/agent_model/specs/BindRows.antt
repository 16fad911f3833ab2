-- Literal rows of bindings and destination constraints: what clients and the helper send and get,
-- byte by byte (OpenSSH's PROTOCOL.agent, "session-bind@openssh.com extension" and
-- "restrict-destination-v00@openssh.com key constraint extension"; RFC 4252, section 7).
use Rattle.std.specs.Prelude.{ℕ, zero, suc, List, [], ◌∷◌, ◌++◌, replicate, codes, Bool}
use Rattle.world_ports.specs.declared.Door.TheVariants.{Clients, Children}
use Rattle.wire_text.specs.Wire.{string}
use Rattle.dest_rule.specs.declared.binding.Binding.{Binding}
use Rattle.dest_rule.specs.Samples.{certificate_for}
use Rattle.agent_model.specs.ChildRows.{hello, number, then, ticket}
use Rattle.agent_model.specs.Events.{Happening, Heard, Joined, Started, Took}
use Rattle.agent_model.specs.Rows.{blob, key}
use Rattle.agent_model.specs.State.{State, first_state, no_settings}
use Rattle.agent_model.specs.Step.{step}

-- ---- bindings

-- the host key of 32 equal bytes, and the session of as many
abbrev pub host : ℕ → List ℕ
host tag = 0 ∷ 0 ∷ 0 ∷ 11 ∷ (codes "ssh-ed25519" ++ 0 ∷ 0 ∷ 0 ∷ 32 ∷ replicate 32 tag)

-- the session identifier of 32 equal bytes
abbrev pub session : ℕ → List ℕ
session tag = replicate 32 tag

-- EXTENSION of the name, the host key, the session, a signature of three bytes, and whether the
-- agent is forwarded
abbrev pub bind_body : ℕ → ℕ → ℕ → List ℕ
bind_body tag of forwarding =
    27 ∷ 0 ∷ 0 ∷ 0 ∷ 24 ∷ (codes "session-bind@openssh.com" ++ 0 ∷ 0 ∷ 0 ∷ 51 ∷ (host tag
    ++ 0 ∷ 0 ∷ 0 ∷ 32 ∷ (session of ++ 0 ∷ 0 ∷ 0 ∷ 3 ∷ (codes "sig" ++ forwarding ∷ []))))

-- the frame of such a request
abbrev pub bind : ℕ → ℕ → ℕ → List ℕ
bind tag of forwarding = 0 ∷ 0 ∷ 0 ∷ 128 ∷ bind_body tag of forwarding

-- the frame of a bind request with a byte too many at its end
abbrev pub bind_trailing : List ℕ
bind_trailing = 0 ∷ 0 ∷ 0 ∷ 129 ∷ (bind_body 161 193 1 ++ 0 ∷ [])

-- the frame of a bind request whose host key lacks its last byte
abbrev pub bind_unreadable : List ℕ
bind_unreadable =
    0 ∷ 0 ∷ 0 ∷ 127 ∷ 27 ∷ 0 ∷ 0 ∷ 0 ∷ 24 ∷ (codes "session-bind@openssh.com" ++ 0 ∷ 0 ∷ 0 ∷ 50
    ∷ 0 ∷ 0 ∷ 0 ∷ 11 ∷ (codes "ssh-ed25519" ++ 0 ∷ 0 ∷ 0 ∷ 32 ∷ (replicate 31 161
    ++ 0 ∷ 0 ∷ 0 ∷ 32 ∷ (session 193 ++ 0 ∷ 0 ∷ 0 ∷ 3 ∷ (codes "sig" ++ 1 ∷ [])))))

-- the frame, of this length, of a bind request whose session has this length
abbrev pub bind_long : ℕ → ℕ → ℕ → List ℕ
bind_long frame_len len of =
    0 ∷ 0 ∷ 0 ∷ frame_len ∷ 27 ∷ 0 ∷ 0 ∷ 0 ∷ 24 ∷ (codes "session-bind@openssh.com"
    ++ 0 ∷ 0 ∷ 0 ∷ 51 ∷ (host 161 ++ 0 ∷ 0 ∷ 0 ∷ len ∷ (replicate len of ++ 0 ∷ 0 ∷ 0 ∷ 3
    ∷ (codes "sig" ++ 1 ∷ []))))

-- VERIFY: the ask's number, the host key, the signature and the session
abbrev pub verify_frame : ℕ → ℕ → ℕ → List ℕ
verify_frame ask tag of =
    0 ∷ 0 ∷ 0 ∷ 107 ∷ 2 ∷ (number ask ++ 0 ∷ 0 ∷ 0 ∷ 51 ∷ (host tag ++ 0 ∷ 0 ∷ 0 ∷ 3
    ∷ (codes "sig" ++ 0 ∷ 0 ∷ 0 ∷ 32 ∷ session of)))

-- TRUE and FALSE: the ask's number
abbrev pub right : ℕ → List ℕ
right ask = 0 ∷ 0 ∷ 0 ∷ 9 ∷ 103 ∷ number ask

-- FALSE: the ask's number
abbrev pub wrong : ℕ → List ℕ
wrong ask = 0 ∷ 0 ∷ 0 ∷ 9 ∷ 104 ∷ number ask

-- what is bound then
abbrev pub binding : ℕ → ℕ → Bool → Binding
binding tag of forwarding =
    record { host_key = host tag; session = session of; forwarding = forwarding }

-- ---- events

-- the client of port 1 asks to bind its connection to the host 161, where the helper is at port 2;
-- it goes on so
abbrev pub binding_to : ℕ → List Happening → State
binding_to forwarding events = then (first_state no_settings) (Joined Clients
    ∷ Heard 1 (bind 161 193 forwarding) ∷ Started 1 (ticket 9)
    ∷ Joined Children ∷ Heard 2 (hello 1 9) ∷ Took 2 111 ∷ events)

-- the signature was right, and the client took its reply
abbrev pub bound_to : ℕ → List Happening → State
bound_to forwarding events = binding_to forwarding (Heard 2 (right 1) ∷ Took 1 5 ∷ events)

-- it asks to bind it to the host 161 again for this session, under this ask; the signature is
-- right, and the reply taken
abbrev pub once_more : ℕ → ℕ → List Happening
once_more ask of = Heard 1 (bind 161 of 1) ∷ Took 2 111 ∷ Heard 2 (right ask) ∷ Took 1 5 ∷ []

-- it asks to bind it to the host 161 again for so many sessions, under the asks behind the first
abbrev pub many_more : ℕ → List Happening
many_more zero = []
many_more (suc count) = many_more count ++ once_more (suc (suc count)) (suc count)

-- ---- keys with destination constraints

-- from the agent's own host to the host 161, for users whose names match `root`
abbrev pub only_to : List ℕ
only_to = 0 ∷ 0 ∷ 0 ∷ 12 ∷ (replicate 12 0 ++ 0 ∷ 0 ∷ 0 ∷ 73 ∷ 0 ∷ 0 ∷ 0 ∷ 4 ∷ (codes "root" ++ 0
    ∷ 0 ∷ 0 ∷ 1
    ∷ (codes "h" ++ 0 ∷ 0 ∷ 0 ∷ 0 ∷ 0 ∷ 0 ∷ 0 ∷ 51 ∷ (host 161 ++ 0 ∷ 0 ∷ 0 ∷ 0 ∷ 0 ∷ []))))

-- SSH_AGENTC_ADD_ID_CONSTRAINED of the key of a tag under that constraint
abbrev pub add_only_to : ℕ → List ℕ
add_only_to tag = 0 ∷ 0 ∷ 0 ∷ 254 ∷ 25 ∷ (key tag (codes "one") ++ 255 ∷ 0 ∷ 0 ∷ 0 ∷ 36
    ∷ (codes "restrict-destination-v00@openssh.com" ++ 0 ∷ 0 ∷ 0 ∷ 101 ∷ 0 ∷ 0 ∷ 0 ∷ 97 ∷ only_to))

-- the client of port 1 adds that key, and goes on so
abbrev pub restricted : List Happening → State
restricted events =
    then (first_state no_settings) (Joined Clients ∷ Heard 1 (add_only_to 17) ∷ Took 1 5 ∷ events)

-- the key 17 is held so, the client of port 1 is bound to the host 161, and the helper is at port 2
abbrev pub restricted_at : ℕ → List Happening → State
restricted_at forwarding events =
    restricted (Heard 1 (bind 161 193 forwarding) ∷ Started 1 (ticket 9)
    ∷ Joined Children ∷ Heard 2 (hello 1 9) ∷ Took 2 111 ∷ Heard 2 (right 1) ∷ Took 1 5 ∷ events)

-- ---- logins

-- what the key 17 is to sign so that a user of four letters logs in to a session, host-bound to a
-- host key
abbrev pub login : List ℕ → ℕ → ℕ → List ℕ
login user of tag = 0 ∷ 0 ∷ 0 ∷ 32 ∷ (session of ++ 50 ∷ 0 ∷ 0 ∷ 0 ∷ 4 ∷ (user ++ 0 ∷ 0 ∷ 0 ∷ 14
    ∷ (codes "ssh-connection"
    ++ 0 ∷ 0 ∷ 0 ∷ 35 ∷ (codes "publickey-hostbound-v00@openssh.com" ++ 1 ∷ 0 ∷ 0 ∷ 0 ∷ 24
    ∷ (codes "keyed-sha256@example.com" ++ 0 ∷ 0 ∷ 0 ∷ 64 ∷ (blob 17 ++ 0 ∷ 0 ∷ 0 ∷ 51
    ∷ host tag))))))

-- SSH_AGENTC_SIGN_REQUEST for it
abbrev pub sign_login : List ℕ → ℕ → ℕ → List ℕ
sign_login user of tag = 0 ∷ 0 ∷ 1 ∷ 75 ∷ 13 ∷ 0 ∷ 0 ∷ 0 ∷ 64 ∷ (blob 17 ++ 0 ∷ 0 ∷ 0 ∷ 254
    ∷ (login user of tag ++ 0 ∷ 0 ∷ 0 ∷ 0 ∷ []))

-- ---- certificates, by the wall clock

-- the state after this event at second 0 of one clock and this one of the other
abbrev pub at_wall : ℕ → Happening → State → State
at_wall wall event state = (step state (record { mono = 0; wall = wall }) event).state

-- from the agent's own host to hosts whose certificates are of the authority 9, valid from second
-- 100 to 199 for the host `h`; the key 17 is held so, and the client of port 1 is bound to a host
-- with such a certificate
abbrev pub authority_hop : List ℕ
authority_hop = string [] ++ string (codes "h") ++ string [] ++ string (host 9) ++ 1 ∷ []

-- SSH_AGENTC_ADD_ID_CONSTRAINED of the key of tag 17 with that constraint
abbrev pub add_certified : List ℕ
add_certified =
    string (25 ∷ key 17 (codes "one") ++ 255 ∷ string (codes "restrict-destination-v00@openssh.com")
    ++ string (string (string (replicate 12 0) ++ string authority_hop ++ string [])))

-- a session-bind whose host key is a certificate for the host `h`
abbrev pub bind_certified : List ℕ
bind_certified =
    string (27 ∷ string (codes "session-bind@openssh.com") ++ string (certificate_for (codes "h"))
    ++ string (session 193) ++ string (codes "sig") ++ 0 ∷ [])

-- SSH_AGENTC_SIGN_REQUEST for a host-bound login as root to that host
abbrev pub sign_certified : List ℕ
sign_certified =
    string (13 ∷ string (blob 17) ++ string (string (session 193) ++ 50 ∷ string (codes "root")
    ++ string (codes "ssh-connection") ++ string (codes "publickey-hostbound-v00@openssh.com") ++ 1
    ∷ string (codes "keyed-sha256@example.com") ++ string (blob 17)
    ++ string (certificate_for (codes "h")))
    ++ 0 ∷ 0 ∷ 0 ∷ 0 ∷ [])

-- the key is held so, and the client of port 1 is bound to that host
abbrev pub certified : State
certified = then (first_state no_settings) (Joined Clients ∷ Heard 1 add_certified ∷ Took 1 5
    ∷ Heard 1 bind_certified
    ∷ Started 1 (ticket 9) ∷ Joined Children ∷ Heard 2 (hello 1 9) ∷ Heard 2 (right 1) ∷ Took 1 5
    ∷ [])
