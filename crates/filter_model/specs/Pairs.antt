-- A client and, at times, its connection to the agent behind the filter: a pair, what its sides sent and are owed (ours).
use Rattle.std.specs.Prelude.{ℕ, Bool, true, false, List, [], ◌∷◌, ◌++◌, ◌&&◌, ◌||◌, not, length, drop, nat_lt}
use Rattle.wire_text.specs.Bounds.{longest_body}
use Rattle.wire_text.specs.Frames.{Front, front, Whole, Bad, More}
use Rattle.pair_ports.specs.declared.side.Side.{Side}
use Rattle.pair_ports.specs.declared.side.Side.TheVariants.{Client, Upstream}
use Rattle.filter_model.specs.declared.waits.Waits.{Waits}
use Rattle.filter_model.specs.declared.waits.Waits.TheVariants.{Nothing, OnList, OnBind, OnReply}

-- what was heard from a side and not taken, and what the side is owed
pub record Half : Type 0 where
  pub heard : List ℕ
  pub owed : List ℕ

-- an open pair, or one that is about to be closed; whether it has a connection to the agent behind, whether another one
-- would not do in its place, and whether a bind was ever forwarded
pub record Pair : Type 0 where
  pub client : Half
  pub upstream : Half
  pub waits : Waits
  pub is_linked : Bool
  pub is_used : Bool
  pub is_bound : Bool

-- nothing was heard, and nothing is owed
abbrev pub empty_half : Half
empty_half = record { heard = []; owed = [] }

-- a pair of which nothing was heard, which is owed nothing, waits for nothing, and has no connection to the agent behind
abbrev pub new_pair : Pair
new_pair = record {
  client = empty_half;
  upstream = empty_half;
  waits = Nothing;
  is_linked = false;
  is_used = false;
  is_bound = false;
}

-- one half of a pair
abbrev pub half_of : Side → Pair → Half
half_of Client pair = pair.client
half_of Upstream pair = pair.upstream

-- the pair, that half changed by f as bytes moved there: the connection to the agent behind is used from then on
abbrev pub change_half : Side → (Half → Half) → Pair → Pair
change_half Client f pair = record pair { client = f pair.client }
change_half Upstream f pair = record pair { upstream = f pair.upstream; is_used = true }

-- more was heard
abbrev pub heard_more : List ℕ → Half → Half
heard_more piece half = record half { heard = half.heard ++ piece }

-- the first bytes that were owed are sent
abbrev pub sent_some : ℕ → Half → Half
sent_some count half = record half { owed = drop count half.owed }

-- more is owed
abbrev pub owes_more : List ℕ → Half → Half
owes_more bytes half = record half { owed = half.owed ++ bytes }

-- whether any bytes are there
abbrev pub is_some_bytes : List ℕ → Bool
is_some_bytes bytes = nat_lt 0 (length bytes)

-- the bytes may be the front of a frame that isn't whole
abbrev pub is_more : Front → Bool
is_more (Whole body_len) = false
is_more (Bad announced) = false
is_more More = true

-- a half is to be read while no whole and no bad frame stands there
abbrev pub wants_half : Half → Bool
wants_half half = is_more (front longest_body half.heard)

-- the side can be reached: there is a connection to it
abbrev pub reaches : Side → Pair → Bool
reaches Client pair = true
reaches Upstream pair = pair.is_linked

-- there are no bytes
abbrev pub is_none : List ℕ → Bool
is_none [] = true
is_none (byte ∷ bytes) = false

-- nothing is waited for
abbrev pub is_quiet : Waits → Bool
is_quiet Nothing = true
is_quiet OnList = false
is_quiet OnBind = false
is_quiet OnReply = false

-- nothing is under way with the agent behind: no reply is waited for, nothing was heard, and nothing is owed
abbrev pub is_through : Pair → Bool
is_through pair = is_quiet pair.waits && (is_none pair.upstream.heard && is_none pair.upstream.owed)

-- the pair, its connection to the agent behind as good as a new one where nothing is under way and no bind was ever
-- forwarded
abbrev pub freed : Pair → Pair
freed pair = record pair { is_used = pair.is_used && (pair.is_bound || not (is_through pair)) }

-- the pair has a connection to the agent behind that it could do without: nothing is under way, and no bind was ever
-- forwarded
abbrev pub is_spare : Pair → Bool
is_spare pair = pair.is_linked && (not pair.is_bound && is_through pair)

-- the pair without its connection to the agent behind
abbrev pub unlinked : Pair → Pair
unlinked pair = record pair { is_linked = false }
