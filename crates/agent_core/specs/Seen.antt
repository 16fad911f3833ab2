-- Which identities an asker sees, and what a list of them is made of (ours).
use Rattle.std.specs.Prelude.{ℕ, Bool, true, false, List, [], filter}
use Rattle.dest_rule.specs.Rules.{visible}
use Rattle.identity_table.specs.Identities.{HeldKey, entry_len}
use Rattle.agent_msg.specs.Replies.{entry}
use Rattle.agent_model.specs.KeyStates.{shown}
use Rattle.agent_core.specs.declared.asker.Asker.{Asker as CoreAsker}

-- the asker sees this identity
abbrev pub is_seen : CoreAsker → HeldKey → Bool
is_seen asker key = visible key.rules asker.chain.now.bindings asker.chain.now.attempted asker.wall

-- the identities that the asker sees
abbrev pub seen : CoreAsker → List HeldKey → List HeldKey
seen asker keys = filter (is_seen asker) keys

-- ---- what an identity adds to a list, by whether it is seen

-- what an identity adds to the count of a list, by whether it is seen
abbrev pub count_if : Bool → ℕ
count_if true = 1
count_if false = 0

-- what an identity adds to the length of a list's body, by whether it is seen
abbrev pub len_if : Bool → HeldKey → ℕ
len_if true key = entry_len key
len_if false key = 0

-- what an identity adds to a list's body, by whether it is seen
abbrev pub entry_if : Bool → HeldKey → List ℕ
entry_if true key = entry (shown key)
entry_if false key = []
