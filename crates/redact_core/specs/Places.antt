-- Passphrases in an ordered index, each with the place at which it first came (ours).
use Rattle.std.specs.Prelude.{◌≡◌, ◌==◌, ◌+◌, ◌<◌, ◌≤◌, ℕ, List, [], ◌∷◌, length, map, cond, Option}
use Rattle.std.specs.Cmp.Lexicographic.{slice_cmp}
use Rattle.std.specs.List.{position, range_with_len, sum_by}
use Rattle.std.specs.Map.{lookup}
use Rattle.std.specs.BTreeMap.{is_at}
use Rattle.std.specs.Ordering.{nat_cmp}
use Rattle.std.specs.Str.{bytes_eq}

-- the room that a passphrase takes: its bytes, and 64 for its place (ours)
abbrev pub room_of : List ℕ → ℕ
room_of passphrase = length passphrase + 64

-- the room that passphrases take
abbrev pub kept_len : List (List ℕ) → ℕ
kept_len passphrases = sum_by room_of passphrases

-- the most room that they may take: 4 MiB (ours)
abbrev pub most_kept : ℕ
most_kept = 4194304

-- the passphrase at a place
abbrev pub passphrase_at : ℕ → List (List ℕ × ℕ) → List ℕ
passphrase_at place [] = []
passphrase_at place (entry ∷ entries) = cond (entry.1 == place) entry.0 (passphrase_at place entries)

-- the passphrases by their places, from 0 on
abbrev pub placed : List (List ℕ × ℕ) → List (List ℕ)
placed entries = map (λ place. passphrase_at place entries) (range_with_len 0 (length entries))

-- the place that the index has for a passphrase
abbrev pub place_in : List (List ℕ × ℕ) → List ℕ → Option ℕ
place_in entries passphrase = lookup (is_at (slice_cmp nat_cmp passphrase)) entries

-- each place is below this number
abbrev pub AreBelow : ℕ → List (List ℕ × ℕ) → Type 0
AreBelow bound [] = Unit {0}
AreBelow bound (entry ∷ entries) = (entry.1 < bound) × AreBelow bound entries

-- each passphrase is found where it stands, no place is too great, and this is the room that all take, which is bounded
pub record IsPlaced (entries : List (List ℕ × ℕ)) (kept : ℕ) : Type 0 where
  pub found : (passphrase : List ℕ) → place_in entries passphrase ≡ position (bytes_eq passphrase) (placed entries)
  pub below : AreBelow (length entries) entries
  pub room : kept ≡ kept_len (placed entries)
  pub fits : kept ≤ most_kept
