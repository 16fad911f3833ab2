-- Requests that are written: how long their bodies are, that they are in the grammar, and the rules by
-- which appended fields are a body.
use Rattle.std.proofs.Common.{◌≡◌, ℕ, ◌^◌, ◌<◌, List, [], ◌∷◌, length, append_assoc, inl, inr, refl, Ok}
use Rattle.std.proofs.lemmas.Grind.{common_steps}
use Rattle.std.proofs.lemmas.List.{length-append}
use Rattle.wire_text.proofs.WireLemmas.{wire_lengths}
use Rattle.constraint_rec.specs.declared.terms.Terms.{Terms}
use Rattle.constraint_rec.specs.Constraints.{no_terms, IsConstraints}
use Rattle.constraint_rec.specs.Reading.{terms_of, terms_up_to}
use Rattle.key_blob.specs.AddedKeys.{IsAddedKey}
use Rattle.agent_msg.specs.Requests.{Addition, Add, IsRequest}
use Rattle.agent_msg.specs.Writing.{addition_text}

pub ruleset written = (common_steps, wire_lengths, length-append, append_assoc)

-- no bytes say no constraints
none_said : (terms : Terms) → terms_of [] ≡ Ok terms → terms ≡ no_terms
unfolding terms_of terms_up_to
none_said terms read = cc

-- an addition as it is written is in the grammar
pub addition_is_written : (addition : Addition) (constraints : List ℕ) → IsAddedKey addition.key
    → length addition.comment < 2 ^ 32 → IsConstraints constraints addition.terms
    → terms_of constraints ≡ Ok addition.terms
    → IsRequest (addition_text addition.key.private addition.comment constraints) (Add addition)
addition_is_written addition [] key fits is read =
    inl record { key = key; comment_fits = fits; unconstrained = none_said addition.terms read; printed = refl }
addition_is_written addition (byte ∷ constraints) key fits is read =
    inr record { key = key; comment_fits = fits; constraints = byte ∷ constraints; constrained = is; printed = refl }
