-- Identities leave once.
use Rattle.std.proofs.Common.{◌≡◌, ℕ, List, [], ◌∷◌, refl, ap, arith}
use Rattle.std.proofs.lemmas.Bool.Decides.{nat_tests}
use Rattle.identity_table.specs.Identities.{HeldKey, alive_at}
use Rattle.agent_model.specs.KeyStates.{KeyState, expired}

-- those that live go on living at the same second
alive-twice : (second : ℕ) (keys : List HeldKey)
    → alive_at second (alive_at second keys) ≡ alive_at second keys
unfolding alive_at
alive-twice second [] = refl
alive-twice second (key ∷ keys) = grind (arith, nat_tests, alive-twice second keys)

-- identities leave once
pub expired-twice : (second : ℕ) (keys : KeyState)
    → expired second (expired second keys) ≡ expired second keys
expired-twice second keys =
    ap (λ (identities : List HeldKey). let k : KeyState = record keys { table = record keys.table { identities = identities; greatest = second } } in k) (alive-twice second keys.table.identities)
