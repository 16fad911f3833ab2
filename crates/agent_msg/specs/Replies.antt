-- Replies of an agent, as whole frames (draft-miller-ssh-agent, "Protocol Messages").
use Rattle.std.specs.Prelude.{ℕ, ◌+◌, Bool, true, false, List, [], ◌∷◌, ◌++◌, length}
use Rattle.std.specs.List.{flat_map}
use Rattle.wire_text.specs.Wire.{uint32, string}

-- FAILURE
abbrev pub failure : List ℕ
failure = string (5 ∷ [])

-- SUCCESS
abbrev pub success : List ℕ
success = string (6 ∷ [])

-- SUCCESS or FAILURE
abbrev pub status : Bool → List ℕ
status true = success
status false = failure

-- an identity in a list: its public key blob and its comment
abbrev pub entry : List ℕ × List ℕ → List ℕ
entry identity = string identity.0 ++ string identity.1

-- identities, one after another
abbrev pub entries : List (List ℕ × List ℕ) → List ℕ
entries identities = flat_map entry identities

-- IDENTITIES_ANSWER: how many identities there are, and each of them
abbrev pub identities_answer : List (List ℕ × List ℕ) → List ℕ
identities_answer identities = string (12 ∷ (uint32 (length identities) ++ entries identities))

-- SIGN_RESPONSE: the signature
abbrev pub sign_response : List ℕ → List ℕ
sign_response signature = string (14 ∷ string signature)

-- ---- a list in pieces

-- how many bytes the identities take: by the lengths of their fields alone
abbrev pub entries_length : List (List ℕ × List ℕ) → ℕ
entries_length [] = 0
entries_length (identity ∷ identities) =
    8 + length identity.0 + length identity.1 + entries_length identities

-- how many bytes the body of a list has
abbrev pub identities_length : List (List ℕ × List ℕ) → ℕ
identities_length identities = 5 + entries_length identities

-- the front of a list whose body has so many bytes, and so many identities
abbrev pub list_head : ℕ → ℕ → List ℕ
list_head body count = uint32 body ++ (12 ∷ uint32 count)
