-- The storage of the open pairs as the definition sees it.
use Rattle.std.specs.Prelude.{◌≡◌, ℕ, ◌^◌, ◌<◌, ◌≤◌, Bool, ◌&&◌, List, [], ◌∷◌, length, map, Option, Some, None, Vec, option_map}
use Rattle.std.specs.declared.alloc.Global.{Global}
use Rattle.std.specs.BTreeSet.{BTreeSet}
use Rattle.key_purposes.specs.declared.purpose.Purpose.{Purpose}
use Rattle.filter_core.specs.declared.listed.Listed as code
use Rattle.filter_core.specs.declared.slot.Slot.{Slot}
use Rattle.filter_model.specs.Lists.{Listed}
use Rattle.filter_model.specs.Pairs.{Half, Pair, half_of, is_none, is_quiet, owes_more}
use Rattle.filter_model.specs.Looking.{Looked, without_front}
use Rattle.filter_model.specs.Filters.{Connected, Ended, Happening, Heard, Joined, Lost, Numbered, Took}

-- the blobs of a set, in order
abbrev pub blobs_of : BTreeSet (Vec ℕ Global) → List (List ℕ)
blobs_of listed = map (λ blob. blob.items) listed.keys

-- the purposes, where any are given
abbrev pub purposes_of : Option (Vec Purpose Global) → Option (List Purpose)
purposes_of purposes = option_map (λ given. given.items) purposes

-- what the filter lets be used, without its storage
abbrev pub listed_of : code.Listed → Listed
listed_of listed = record { blobs = listed.blobs; purposes = purposes_of listed.purposes }

-- a pair without its storage, and with its number
abbrev pub pair_of : Slot → Pair
pair_of slot = record {
  client = slot.client;
  upstream = slot.upstream;
  waits = slot.waits;
  is_linked = slot.is_linked;
  is_used = slot.is_used;
  is_bound = slot.is_bound;
}

-- the pair of a slot with its number
abbrev pub numbered_of : Slot → Numbered
numbered_of slot = record { number = slot.number; pair = pair_of slot }

-- the pairs of these slots with their numbers
abbrev pub pairs_of : List Slot → List Numbered
pairs_of slots = map numbered_of slots

-- the numbers rise, each above low and none above high
abbrev pub IsRising : ℕ → ℕ → List Numbered → Type 0
IsRising low high [] = low ≤ high
IsRising low high (one ∷ others) = (low < one.number) × IsRising one.number high others

-- the numbers of the open pairs rise up to the last one
pub record IsKept (pairs : List Numbered) (last : ℕ) : Type 0 where
  pub rising : IsRising 0 last pairs
  pub fits : last < 2 ^ 64

-- a side is owed a reply, where there is one
abbrev pub owes_reply : Option (List ℕ) → Half → Half
owes_reply None half = half
owes_reply (Some reply) half = owes_more reply half

-- the frame with a body of this length is taken, where it makes a reply
abbrev pub taken_for : Option (List ℕ) → ℕ → Half → Half
taken_for None body_len half = half
taken_for (Some reply) body_len half = without_front body_len half

-- the upstream's frame is taken and the client is owed the reply, where it makes one
abbrev pub replied : Option (List ℕ) → ℕ → Pair → Pair
replied reply body_len pair =
    record pair { client = owes_reply reply pair.client; upstream = taken_for reply body_len pair.upstream }

-- the client's next request may be taken
abbrev pub is_free : Pair → Bool
is_free pair = is_quiet pair.waits && (is_none pair.client.owed && is_none pair.upstream.owed)

-- a look left this pair, and tells whether it stays open
pub record Leaves (is_open : Bool) (pair : Pair) (after : Looked) : Type 0 where
  pub stays : is_open ≡ after.is_open
  pub left : pair ≡ after.pair

-- the event may come to the pair: no more is taken than is owed
abbrev pub FitsPair : Happening → Pair → Type 0
FitsPair Joined pair = Unit {0}
FitsPair (Connected number) pair = Unit {0}
FitsPair (Heard number side piece) pair = Unit {0}
FitsPair (Took number side count) pair = count ≤ length (half_of side pair).owed
FitsPair (Lost number) pair = Unit {0}
FitsPair (Ended number) pair = Unit {0}
