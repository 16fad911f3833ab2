use Rattle.std.proofs.Common.{◌≡◌, ◌≢◌, ℕ, List, Option, Some, None, MatchOption}
use Rattle.ed25519.proofs.SigningLemmas.{keys-differ, keys-same, public_key-made, secret_scalar-made}
use Rattle.ed25519.proofs.sign.sign_checked.Goals as goal

pub returns-then-ne : goal.returns-then-ne
returns-then-ne c =
    let seed = c.args.seed.now in
    let scalar = secret_scalar-made seed _ _ c.hash_of-hash.ensures c.secret_scalar_of-scalar.ensures in
    let made = public_key-made seed _ _ scalar c.encoded_multiple-made.ensures in
    keys-differ c.encoded_multiple-made.result c.args.public.now _ made c.if-ne.ensures

-- what a signature that was made twice says
checked : (result : Option (List ℕ)) (public key made : List ℕ) → public ≡ key → MatchOption result ⊥ (λ s. s ≡ made)
    → MatchOption result (public ≢ key) (λ s. (public ≡ key) × (s ≡ made))
checked None public key made same never = absurd never
checked (Some s) public key made same is = (same, is)

pub returns : goal.returns
returns c =
    let seed = c.args.seed.now in
    let scalar = secret_scalar-made seed _ _ c.hash_of-hash.ensures c.secret_scalar_of-scalar.ensures in
    let made = public_key-made seed _ _ scalar c.encoded_multiple-made.ensures in
    checked _ _ _ _ (keys-same c.encoded_multiple-made.result c.args.public.now _ made c.if-ne.ensures)
    (c.sign_twice.ensures seed c.hash_of-hash.ensures scalar made)
