-- What a filter with purposes puts to the agent behind it, by the grammars of requests and messages (ours).
use Rattle.std.specs.Prelude.{◌≡◌, ℕ, false, List, ◌++◌, All, Some}
use Rattle.std.specs.Option.{IfSome}
use Rattle.wire_text.specs.Frames.{frames}
use Rattle.agent_msg.specs.Requests.{IsSigning, Signing}
use Rattle.key_purposes.specs.Messages.{IsForOne, is_by_sha1}
use Rattle.key_purposes.specs.declared.purpose.Purpose.{Purpose}
use Rattle.filter_model.specs.Lists.{Listed}
use Rattle.filter_model.specs.Filters.{AllFit, Happening, first_state}
use Rattle.filter_model.specs.Watching.{IsInRange, Watched, watched_of}

-- what is to be signed is for one of these purposes, and not by SHA-1
pub record IsFitFor (purposes : List Purpose) (signing : Signing) : Type 0 where
  pub for_one : IsForOne purposes signing.message signing.blob
  pub hashed : is_by_sha1 signing.blob signing.flags ≡ false

-- where the body is a signing request, it is so
abbrev pub IsSignedFor : List Purpose → List ℕ → Type 0
IsSignedFor purposes body = (signing : Signing) → IsSigning body signing → IsFitFor purposes signing

-- what was sent to the agent behind, and what it is owed yet, are the frames of such bodies
pub record PutsFor (purposes : List Purpose) (watched : Watched) : Type 0 where
  pub bodies : List (List ℕ)
  pub put : watched.upstream.sent ++ watched.pair.upstream.owed ≡ frames bodies
  pub each : All (IsSignedFor purposes) bodies

-- so it is where purposes are given
abbrev pub KeepsPurposes : Listed → Watched → Type 0
KeepsPurposes listed watched =
    (purposes : List Purpose) → listed.purposes ≡ Some purposes → PutsFor purposes watched

-- the law
abbrev pub EachKeepsPurposes : Type 0
EachKeepsPurposes = (listed : Listed) (events : List Happening) (number : ℕ) → All IsInRange events
    → AllFit (first_state listed) events
    → IfSome (watched_of number listed events) (KeepsPurposes listed)
