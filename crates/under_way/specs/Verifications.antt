-- Verifications in storage, and where that of an ask stands (ours).
use Rattle.std.specs.Prelude.{◌≡◌, ℕ, ◌<◌, Bool, List, Some, None, length, map, slice_index_or}
use Rattle.std.specs.List.{remove}
use Rattle.agent_msg.specs.Requests.{BindRequest}
use Rattle.agent_model.specs.Answers.{find_verification, remove_verification}
use Rattle.agent_model.specs.State.{Verification as Noted}
use Rattle.under_way.specs.declared.verification.Verification.{Verification}

-- a verification as the abstract agent sees it
abbrev pub verification_of : Verification → Noted
verification_of one = record {
  ask = one.ask;
  binding = record { host_key = one.host_key; session = one.session; forwarding = one.forwarding };
  is_new = one.is_new;
}

-- all verifications, as the code holds them
abbrev pub all_verifications : List Verification → List Noted
all_verifications verifications = map verification_of verifications

-- the ask of a verification
abbrev pub asked_by : Verification → ℕ
asked_by one = one.ask

-- the verification that this ask is for stands there
pub record IsVerificationAt (ask : ℕ) (verifications : List Verification) (place : ℕ) : Type 0 where
  pub within : place < length verifications
  pub found : (other : Verification) → find_verification ask (all_verifications verifications)
      ≡ Some (verification_of (slice_index_or verifications place other))
  pub removed : remove_verification ask (all_verifications verifications) ≡ all_verifications (remove verifications place)

-- this ask is for none
pub record IsForNone (ask : ℕ) (verifications : List Verification) : Type 0 where
  pub none : find_verification ask (all_verifications verifications) ≡ None
  pub kept : remove_verification ask (all_verifications verifications) ≡ all_verifications verifications

-- a request to bind of these parts
abbrev pub bind_of : (host_key session signature : List ℕ) → Bool → BindRequest
bind_of host_key session signature forwarding =
    record { host_key = host_key; session = session; signature = signature; forwarding = forwarding }
