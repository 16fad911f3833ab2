-- The lock of an agent (draft-miller-ssh-agent, "Locking and unlocking an agent"): the passphrase that
-- opens it, or none where it is open.
use Rattle.std.specs.Prelude.{ℕ, ◌≤◌, Bool, true, false, List, [], ◌∷◌, Option, Some, None, length}
use Rattle.std.specs.Str.{bytes_eq}
use Rattle.wire_text.specs.Bounds.{longest_body}

-- the lock takes this passphrase: it is open, and the passphrase isn't empty (ours)
abbrev pub can_lock : Option (List ℕ) → List ℕ → Bool
can_lock None [] = false
can_lock None (byte ∷ bytes) = true
can_lock (Some held) passphrase = false

-- the lock opens for this passphrase: it is locked with it
abbrev pub can_unlock : Option (List ℕ) → List ℕ → Bool
can_unlock None passphrase = false
can_unlock (Some held) passphrase = bytes_eq held passphrase

-- the longest passphrase: as long as the longest message (ours)
abbrev pub longest_passphrase : ℕ
longest_passphrase = longest_body

-- the passphrase that locks it is no longer
abbrev pub HasShort : Option (List ℕ) → Type 0
HasShort None = Unit {0}
HasShort (Some passphrase) = length passphrase ≤ longest_passphrase
