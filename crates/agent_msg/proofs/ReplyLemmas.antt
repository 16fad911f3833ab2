-- Replies: the rules by which what is appended is a reply, and a list in pieces.
use Rattle.std.proofs.Common.{◌≡◌, ℕ, ◌+◌, List, [], ◌∷◌, ◌++◌, length, append_assoc, refl, ap, ◌∙◌, arith}
use Rattle.std.proofs.lemmas.Grind.{common_steps}
use Rattle.std.proofs.lemmas.List.{length-append}
use Rattle.wire_text.specs.Wire.{uint32, string}
use Rattle.wire_text.proofs.WireLemmas.{wire_lengths, length-uint32, length-string}
use Rattle.agent_msg.specs.Replies.{entry, entries, entries_length, identities_length, identities_answer, list_head}

pub ruleset appended = (common_steps, wire_lengths, length-append, append_assoc)

-- identities take the bytes that their fields say
pub length-entries : (identities : List (List ℕ × List ℕ)) → length (entries identities) ≡ entries_length identities
length-entries [] = refl
length-entries (identity ∷ identities) =
    omega (
      arith,
      length-append (entry identity) (entries identities),
      length-append (string identity.0) (string identity.1),
      length-string identity.0,
      length-string identity.1,
      length-entries identities,
    )

-- a head and then its entries are the list
pub list_head-entries : (identities : List (List ℕ × List ℕ)) (body count : ℕ) → body ≡ identities_length identities
    → count ≡ length identities → list_head body count ++ entries identities ≡ identities_answer identities
unfolding string
list_head-entries identities body count sized counted =
    let text : List ℕ = 12 ∷ (uint32 (length identities) ++ entries identities) in
    let size : body ≡ length text =
    omega (arith, sized, length-append (uint32 (length identities)) (entries identities), length-uint32 (length identities), length-entries identities) in
    append_assoc (uint32 body) (12 ∷ uint32 count) (entries identities)
    ∙ ap (λ (n : ℕ). uint32 body ++ (12 ∷ (uint32 n ++ entries identities))) counted
    ∙ ap (λ (n : ℕ). uint32 n ++ text) size
