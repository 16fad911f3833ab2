-- What holds of every desk (ours).
use Rattle.std.specs.Prelude.{◌≡◌, ℕ, ◌≤◌, List, [], ◌∷◌, Option, Some, None, length}
use Rattle.lists.specs.Keyed.{NeverFallBy, RiseBy}
use Rattle.wire_text.specs.Bounds.{longest_body}
use Rattle.wire_text.specs.Frames.{More, front}
use Rattle.confirm_desk.specs.Confirmations.{Confirmation, find_asker, find_job, find_linked, job_of, most_confirmations, second_of}

-- no child process of these came to the port, where there is one
abbrev pub IsFree : Option ℕ → List Confirmation → Type 0
IsFree None confirmations = Unit {0}
IsFree (Some port) confirmations = find_linked port confirmations ≡ None

-- the confirmation shares no job, no client and no port with these, and a part of a frame was heard of it at most
pub record IsApart (confirmation : Confirmation) (others : List Confirmation) : Type 0 where
  pub job : find_job confirmation.job others ≡ None
  pub asker : find_asker confirmation.asker others ≡ None
  pub port : IsFree confirmation.port others
  pub part : front longest_body confirmation.heard ≡ More

-- no two confirmations are of one job, of one client, or at one port
abbrev pub AreApart : List Confirmation → Type 0
AreApart [] = Unit {0}
AreApart (one ∷ others) = IsApart one others × AreApart others

-- what holds of every desk
pub record IsSound (confirmations : List Confirmation) : Type 0 where
  -- at most 16 are waited for
  pub few : length confirmations ≤ most_confirmations
  -- each has a job, a client and a port of its own, and no whole frame was heard of it
  pub apart : AreApart confirmations
  -- none was raised before the one that stands before it
  pub seconds : NeverFallBy second_of 0 confirmations

-- each job is above the one before it, the first is above `below`, and none is above `last`
abbrev pub RiseTo : ℕ → List Confirmation → ℕ → Type 0
RiseTo below confirmations last = RiseBy job_of below confirmations last
