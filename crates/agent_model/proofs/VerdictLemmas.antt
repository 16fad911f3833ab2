-- A reply that isn't a failure doesn't read as one.
use Rattle.std.proofs.Common.{◌≡◌, ◌≢◌, ◌∙◌, ℕ, List, [], ◌∷◌, ◌++◌, length, ap, arith, drop, get_or, sym, ◌<◌}
use Rattle.std.proofs.lemmas.List.{append-nil}
use Rattle.wire_text.specs.Wire.{string, uint32}
use Rattle.wire_text.proofs.WireLemmas.{drop-string}
use Rattle.agent_msg.specs.Replies.{entries, failure}
use Rattle.agent_model.specs.Verdicts.{Identities, Replies, Reply, Signature, Success, verdict_text}

-- behind its length stands the text
behind : (text : List ℕ) → drop 4 (string text) ≡ text
behind text = ap (drop 4) (sym (append-nil (string text))) ∙ drop-string text [] ∙ append-nil text

-- so that the first bytes of equal strings are equal
same_first : (a b : List ℕ) → string a ≡ string b → get_or a 0 0 ≡ get_or b 0 0
same_first a b is =
    ap (λ (bytes : List ℕ). get_or bytes 0 0) (sym (behind a) ∙ ap (drop 4) is ∙ behind b)

-- a greater number isn't that of a failure
other : (number : ℕ) → 5 < number → number ≡ 5 → ⊥
other number more is = omega arith

-- the body of a reply begins with its number
pub no_failure : (reply : Reply) → verdict_text (Replies reply) ≢ failure
no_failure Success is = other 6 (omega arith) (same_first (6 ∷ []) (5 ∷ []) is)
no_failure (Identities identities) is =
    other 12 (omega arith) (same_first (12 ∷ (uint32 (length identities) ++ entries identities)) (5 ∷ []) is)
no_failure (Signature signature) is =
    other 14 (omega arith) (same_first (14 ∷ string signature) (5 ∷ []) is)
