-- Literal rows of the filter (ours). The numbers are written out, so that a wrong definition can't agree with itself.
use Rattle.std.specs.Prelude.{ℕ, true, List, [], ◌∷◌, ◌++◌, length, replicate, codes}
use Rattle.pair_ports.specs.declared.side.Side.{Side}
use Rattle.pair_ports.specs.declared.side.Side.TheVariants.{Client, Upstream}
use Rattle.key_purposes.specs.Rows.{commit, connection, keyed, login, login_by, publickey, session}
use Rattle.key_purposes.specs.declared.purpose.Purpose.{Purpose}
use Rattle.filter_model.specs.Pairs.{new_pair}
use Rattle.filter_model.specs.Lists.{for_all, for_these}
use Rattle.filter_model.specs.Filters.{Connected, Happening, Heard, Joined, State, Took, first_state, owed_of, run}

-- the blob of a key with a public tag of 32 equal bytes
abbrev pub blob : ℕ → List ℕ
blob tag = 0 ∷ 0 ∷ 0 ∷ 24 ∷ (codes "keyed-sha256@example.com" ++ 0 ∷ 0 ∷ 0 ∷ 32 ∷ replicate 32 tag)

-- SSH_AGENTC_SIGN_REQUEST for "abc", SSH_AGENTC_REQUEST_IDENTITIES, SSH_AGENTC_REMOVE_ALL_IDENTITIES
abbrev pub sign : ℕ → List ℕ
sign tag = 0 ∷ 0 ∷ 0 ∷ 80 ∷ 13 ∷ 0 ∷ 0 ∷ 0 ∷ 64 ∷ (blob tag ++ 0 ∷ 0 ∷ 0 ∷ 3 ∷ (codes "abc" ++ 0 ∷ 0 ∷ 0 ∷ 0 ∷ []))

-- SSH_AGENTC_REQUEST_IDENTITIES
abbrev pub list : List ℕ
list = 0 ∷ 0 ∷ 0 ∷ 1 ∷ 11 ∷ []

-- SSH_AGENTC_REMOVE_ALL_IDENTITIES
abbrev pub remove_all : List ℕ
remove_all = 0 ∷ 0 ∷ 0 ∷ 1 ∷ 19 ∷ []

-- SSH_AGENTC_EXTENSION "session-bind@openssh.com" with a host key that can't be read
abbrev pub bind : List ℕ
bind = 0 ∷ 0 ∷ 0 ∷ 43 ∷ 27 ∷ 0 ∷ 0 ∷ 0 ∷ 24 ∷ (codes "session-bind@openssh.com"
    ++ 0 ∷ 0 ∷ 0 ∷ 1 ∷ 9 ∷ 0 ∷ 0 ∷ 0 ∷ 0 ∷ 0 ∷ 0 ∷ 0 ∷ 0 ∷ 0 ∷ [])

-- SSH_AGENT_FAILURE, SSH_AGENT_IDENTITIES_ANSWER with two keys and with the first alone
abbrev pub failed : List ℕ
failed = 0 ∷ 0 ∷ 0 ∷ 1 ∷ 5 ∷ []

-- SSH_AGENT_IDENTITIES_ANSWER with the key of tag 17 alone
abbrev pub one_listed : List ℕ
one_listed = 0 ∷ 0 ∷ 0 ∷ 80 ∷ 12 ∷ 0 ∷ 0 ∷ 0 ∷ 1 ∷ 0 ∷ 0 ∷ 0 ∷ 64 ∷ (blob 17 ++ 0 ∷ 0 ∷ 0 ∷ 3 ∷ codes "one")

-- SSH_AGENT_IDENTITIES_ANSWER with two keys
abbrev pub two_listed : List ℕ
two_listed = 0 ∷ 0 ∷ 0 ∷ 155 ∷ 12 ∷ 0 ∷ 0 ∷ 0 ∷ 2 ∷ 0 ∷ 0 ∷ 0 ∷ 64 ∷ (blob 17 ++ 0 ∷ 0 ∷ 0 ∷ 3 ∷ (codes "one"
    ++ 0 ∷ 0 ∷ 0 ∷ 64 ∷ (blob 18 ++ 0 ∷ 0 ∷ 0 ∷ 3 ∷ codes "two")))

-- the state after these events of pair 1, the only key being that of the first tag
abbrev pub after : List Happening → State
after events = run (first_state (for_all (blob 17 ∷ []))) (Joined ∷ events)

-- what both sides of pair 1 are owed then
abbrev pub owed : Side → List Happening → List ℕ
owed side events = owed_of 1 side (after events)

-- SSH_AGENTC_SIGN_REQUEST for the data of a login by the key of tag 17
abbrev pub sign_login : ℕ → List ℕ
sign_login tag = 0 ∷ 0 ∷ 0 ∷ 216 ∷ 13 ∷ 0 ∷ 0 ∷ 0 ∷ 64 ∷ (blob tag ++ 0 ∷ 0 ∷ 0 ∷ 139 ∷ (login ++ 0 ∷ 0 ∷ 0 ∷ 0 ∷ []))

-- the same where the flag of the login is 2
abbrev pub sign_like_login : ℕ → List ℕ
sign_like_login tag = 0 ∷ 0 ∷ 0 ∷ 216 ∷ 13 ∷ 0 ∷ 0 ∷ 0 ∷ 64 ∷ (blob tag ++ 0 ∷ 0 ∷ 0 ∷ 139
    ∷ (login_by session connection publickey 2 keyed ++ 0 ∷ 0 ∷ 0 ∷ 0 ∷ []))

-- the same for those of a commit
abbrev pub sign_commit : ℕ → List ℕ
sign_commit tag = 0 ∷ 0 ∷ 0 ∷ 140 ∷ 13 ∷ 0 ∷ 0 ∷ 0 ∷ 64 ∷ (blob tag ++ 0 ∷ 0 ∷ 0 ∷ 63 ∷ (commit ++ 0 ∷ 0 ∷ 0 ∷ 0 ∷ []))

-- what a side of pair 1 is owed when its client sent this, the only key being that of tag 17, for these purposes alone
abbrev pub owed_for : List Purpose → Side → List ℕ → List ℕ
owed_for purposes side piece =
    owed_of 1 side (run (first_state (for_these purposes (blob 17 ∷ []))) (Joined ∷ Heard 1 Client piece ∷ []))

-- three requests in one piece, and the takings of the first two replies
abbrev pub three : Happening
three = Heard 1 Client (sign 18 ++ (remove_all ++ sign 17))

-- the client takes what it is owed
abbrev pub took_reply : Happening
took_reply = Took 1 Client 5

-- the client asks this, and it is sent to the agent behind
abbrev pub asks : List ℕ → List Happening
asks request = Heard 1 Client request ∷ Connected 1 ∷ Took 1 Upstream (length request) ∷ []

-- the same, and the agent behind answers FAILURE
abbrev pub answered : List ℕ → List Happening → List Happening
answered request later = asks request ++ Heard 1 Upstream failed ∷ later

-- a state in which pair 1 has a spare connection, and so many others have one later
abbrev pub spare_beside : ℕ → State
spare_beside count = record (first_state (for_all [])) {
  pairs = record { number = 1; pair = record new_pair { is_linked = true } } ∷ [];
  spares = 1 ∷ replicate count 2;
}

-- a state in which so many pairs have a connection to the agent behind, and one has none
abbrev pub linked : ℕ → State
linked count = record (first_state (for_all [])) {
  pairs = record { number = 1; pair = new_pair } ∷ replicate count (record {
    number = 2;
    pair = record new_pair { is_linked = true };
  });
}
