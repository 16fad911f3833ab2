-- What a recorder keeps and tells of a client's bytes, with the passphrases of the whole run at hand (ours).
use Rattle.std.specs.Prelude.{◌≡◌, ℕ, suc, Bool, true, false, List, [], ◌∷◌, ◌++◌, decimal, replicate, Option, Some, None}
use Rattle.std.specs.List.{position}
use Rattle.std.specs.Str.{bytes_eq}
use Rattle.world_ports.specs.declared.Door.TheVariants.{Clients}
use Rattle.wire_text.specs.Bounds.{longest_body}
use Rattle.wire_text.specs.Frames.{front, split}
use Rattle.record_world.specs.Frames.{ends_badly}
use Rattle.record_world.specs.Recording.{Port}

-- ---- names

-- in decimal the place at which a passphrase came, counted from 1; one that never came is longer than any of these
abbrev pub name_by : Option ℕ → List ℕ → List ℕ
name_by (Some place) passphrase = decimal (suc place)
name_by None passphrase = replicate 21 0 ++ passphrase

-- the name of a passphrase where these came, in order: the empty one has none
abbrev pub name_in : List (List ℕ) → List ℕ → List ℕ
name_in all [] = []
name_in all (byte ∷ bytes) = name_by (position (bytes_eq (byte ∷ bytes)) all) (byte ∷ bytes)

-- the second list is the first, and more behind it
pub record IsFrontOf (early all : List (List ℕ)) : Type 0 where
  pub later : List (List ℕ)
  pub whole : all ≡ early ++ later

-- ---- what a recorder keeps

-- of a bad rest nothing
abbrev pub kept_of : Bool → List ℕ → List ℕ
kept_of true rest = []
kept_of false rest = rest

-- it keeps of a client's port whether its bytes came to a bad length, and else what stands behind the
-- last whole frame of what was heard there and isn't taken
pub record Keeps (heard : List ℕ) (port : Port) : Type 0 where
  pub door : port.door ≡ Clients
  pub bad : port.is_bad ≡ ends_badly (front longest_body (split longest_body heard).rest)
  pub unrecorded : port.unrecorded ≡ kept_of port.is_bad (split longest_body heard).rest
