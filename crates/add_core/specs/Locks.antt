-- Locking and unlocking the agent, and removing all identities (ssh-add(1), options -x, -X and -D).
use Rattle.std.specs.Prelude.{ℕ, Bool, true, false, List, [], ◌∷◌, codes}
use Rattle.wire_text.specs.Wire.{string}
use Rattle.add_core.specs.Exchanges.{stepped, requested}
use Rattle.add_core.specs.Passphrases.{passphrase_of}
use Rattle.add_core.specs.Steps.{Step}

-- the body of LOCK or UNLOCK
abbrev pub lock_body : Bool → List ℕ → List ℕ
lock_body true passphrase = 22 ∷ string passphrase
lock_body false passphrase = 23 ∷ string passphrase

-- the line that tells of a lock or of an unlock
abbrev pub lock_line : Bool → List ℕ
lock_line true = codes "Agent locked.\n"
lock_line false = codes "Agent unlocked.\n"

-- the agent is locked, or unlocked, with the passphrase of the input
abbrev pub lock_step : Bool → List ℕ → List ℕ → Step
lock_step locks input replies =
    stepped (passphrase_of input)
    (λ passphrase. requested (string (lock_body locks passphrase)) (lock_line locks) replies)

-- all identities are removed
abbrev pub remove_all_step : List ℕ → Step
remove_all_step replies =
    requested (string (19 ∷ [])) (codes "All identities removed.\n") replies
