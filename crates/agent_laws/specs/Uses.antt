-- How often a key is used, and how often it would be if its uses weren't counted: counts over
-- actions, the oldest first (ours).
use Rattle.std.specs.Prelude.{ℕ, ◌+◌, Bool, false, List, [], ◌∷◌, Option, None, Some, ◌&&◌, if◌then◌else◌}
use Rattle.std.specs.Str.{bytes_eq}
use Rattle.world_ports.specs.declared.Moment.{Moment}
use Rattle.agent_model.specs.Runs.{Stamped}
use Rattle.agent_laws.specs.Dues.{Claim, claim_of, is_met, open_asks, proved_of}
use Rattle.agent_laws.specs.Past.{DidAdd, DidLock, DidNothing, DidRemove, DidRemoveAll, DidUnlock, DidUse, Done, PastAddition, done_of, is_alive, last_addition, was_locked}

-- ---- what was put

-- 1 where this is so
abbrev pub one_if : Bool → ℕ
one_if test = if test then 1 else 0

-- 1 where this is a signature with the key of this blob that was put to the helper
abbrev pub used_in : List ℕ → Done → ℕ
used_in blob DidNothing = 0
used_in blob (DidAdd addition) = 0
used_in blob (DidRemove other) = 0
used_in blob DidRemoveAll = 0
used_in blob DidLock = 0
used_in blob DidUnlock = 0
used_in blob (DidUse other) = one_if (bytes_eq other blob)

-- how often one was put in these actions
abbrev pub times_used : List ℕ → List Stamped → ℕ
times_used blob [] = 0
times_used blob (one ∷ later) = used_in blob (done_of one.action) + times_used blob later

-- ---- what meets all other conditions

-- the last addition of a blob, where its lifetime has not run out at this second, whether it is used
-- up or not
abbrev pub living_by : Option PastAddition → Option ℕ → ℕ → Option PastAddition
living_by None life now = None
living_by (Some past) life now = if is_alive life now past then Some past else None

-- the claim is of the key of this blob, and is met at this moment but for the number of its uses
abbrev pub is_wanted_by : List ℕ → Option Claim → Option ℕ → Moment → List Stamped → Bool
is_wanted_by blob None life moment past = false
is_wanted_by blob (Some claim) life moment past = bytes_eq claim.signing.blob blob
    && is_met (living_by (last_addition claim.signing.blob past) life moment.mono) claim
    (proved_of claim.port past)
    moment.wall (open_asks past) (was_locked past)

-- directly behind the newest of these, the newest first, a signature with this key would be put if
-- its uses weren't counted
abbrev pub is_wanted : List ℕ → Option ℕ → List Stamped → Bool
is_wanted blob life [] = false
is_wanted blob life (one ∷ before) =
    is_wanted_by blob (claim_of one.action before) life one.moment (one ∷ before)

-- how often it would be, behind the past, the newest first, and behind each of these, the oldest first
abbrev pub times_wanted : List ℕ → Option ℕ → List Stamped → List Stamped → ℕ
times_wanted blob life past [] = one_if (is_wanted blob life past)
times_wanted blob life past (one ∷ later) =
    one_if (is_wanted blob life past) + times_wanted blob life (one ∷ past) later
