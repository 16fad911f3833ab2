-- Literal rows of purposes: keys for files in the namespace git and for other data, and what is to be signed.
use Rattle.std.specs.Prelude.{ℕ, ◌+◌, List, [], ◌∷◌, ◌++◌, codes, replicate}
use Rattle.agent_model.specs.Rows.{blob, key}

-- the constraint whose text holds this one word, of so many bytes
abbrev pub purpose : ℕ → List ℕ → List ℕ
purpose len word =
    255 ∷ 0 ∷ 0 ∷ 0 ∷ 24 ∷ (codes "purposes-v00@example.com" ++ 0 ∷ 0 ∷ 0 ∷ (len + 4) ∷ 0 ∷ 0 ∷ 0 ∷ len ∷ word)

-- the addition of a key for files in the namespace git
abbrev pub add_for_git : ℕ → List ℕ
add_for_git tag = 0 ∷ 0 ∷ 0 ∷ 155 ∷ 25 ∷ (key tag (codes "one") ++ purpose 10 (codes "sshsig:git"))

-- the same of one that asks the user
abbrev pub add_for_git_asking : ℕ → List ℕ
add_for_git_asking tag = 0 ∷ 0 ∷ 0 ∷ 156 ∷ 25 ∷ (key tag (codes "one") ++ 2 ∷ purpose 10 (codes "sshsig:git"))

-- the addition of a key for other data
abbrev pub add_for_other : ℕ → List ℕ
add_for_other tag = 0 ∷ 0 ∷ 0 ∷ 150 ∷ 25 ∷ (key tag (codes "one") ++ purpose 5 (codes "other"))

-- an addition for a purpose that isn't known, which is refused
abbrev pub add_for_unknown : ℕ → List ℕ
add_for_unknown tag = 0 ∷ 0 ∷ 0 ∷ 148 ∷ 25 ∷ (key tag (codes "one") ++ purpose 3 (codes "git"))

-- SSH_AGENTC_SIGN_REQUEST for a file in the namespace git, by PROTOCOL.sshsig
abbrev pub sign_commit : ℕ → List ℕ
sign_commit tag =
    0 ∷ 0 ∷ 0 ∷ 140 ∷ 13 ∷ 0 ∷ 0 ∷ 0 ∷ 64 ∷ (blob tag ++ 0 ∷ 0 ∷ 0 ∷ 63 ∷ (codes "SSHSIG"
    ++ 0 ∷ 0 ∷ 0 ∷ 3 ∷ (codes "git" ++ 0 ∷ 0 ∷ 0 ∷ 0 ∷ 0 ∷ 0 ∷ 0 ∷ 6 ∷ (codes "sha256"
    ++ 0 ∷ 0 ∷ 0 ∷ 32 ∷ (replicate 32 7 ++ 0 ∷ 0 ∷ 0 ∷ 0 ∷ [])))))
