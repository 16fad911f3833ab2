-- Which signature is to be put to the helper, by the actions so far: searches in the past, the
-- newest action first (ours).
use Rattle.std.specs.Prelude.{ℕ, Bool, false, List, [], ◌∷◌, ◌++◌, length, Option, Some, None, Result, Ok, nat_lt, ◌==◌, ◌&&◌, not, if◌then◌else◌, is_none}
use Rattle.std.specs.List.{sum_by}
use Rattle.world_ports.specs.declared.Moment.{Moment}
use Rattle.agent_msg.specs.declared.fault.MsgFault.{MsgFault}
use Rattle.agent_msg.specs.Requests.{ClientRequest, Signing, Sign}
use Rattle.key_purposes.specs.Messages.{let_sign}
use Rattle.dest_rule.specs.Rules.{denial_under}
use Rattle.dest_rule.specs.declared.binding.Binding.{Binding}
use Rattle.agent_model.specs.Actions.{Action, Answered, Asked, Granted, Lost, Over, Proved, Raised, Raising, Requested}
use Rattle.agent_model.specs.Bindings.{bound_by}
use Rattle.agent_model.specs.Binds.{agent_request_of}
use Rattle.agent_model.specs.Runs.{Stamped}
use Rattle.agent_laws.specs.Grants.{pending_by}
use Rattle.agent_laws.specs.Past.{PastAddition, held_by, last_addition, was_locked}
use Rattle.std.specs.Option.{option_map}

-- ---- bindings, asks and confirmations

-- the bindings that were proved of this port, the oldest first, each session once
abbrev pub proved_of : ℕ → List Stamped → List Binding
proved_of port [] = []
proved_of port (one ∷ before) = bound_by port one.action (proved_of port before)

-- the asks, each with the size of its body, without the first of this number
abbrev pub without_ask : ℕ → List (ℕ × ℕ) → List (ℕ × ℕ)
without_ask number [] = []
without_ask number (other ∷ others) =
    if other.0 == number then others else other ∷ without_ask number others

-- an action's part in the open asks
abbrev pub open_by : Action → List (ℕ × ℕ) → List (ℕ × ℕ)
open_by (Asked asking) before = before ++ (asking.ask, asking.size) ∷ []
open_by (Answered settled) before = without_ask settled.ask before
open_by Lost before = []
open_by (Requested requesting) before = before
open_by (Proved proving) before = before
open_by (Raised raising) before = before
open_by (Granted job) before = before
open_by (Over job) before = before

-- the asks since the last loss of the helper that it hasn't answered, each with the size of its body
abbrev pub open_asks : List Stamped → List (ℕ × ℕ)
open_asks [] = []
open_asks (one ∷ before) = open_by one.action (open_asks before)

-- what the user is asked for by this job, if it isn't over
abbrev pub raised_at : ℕ → List Stamped → Option Raising
raised_at job [] = None
raised_at job (one ∷ before) = pending_by job one.action (raised_at job before)

-- ---- claims

-- what is to be signed, for whom, and of which addition, where a consent says so
pub record Claim : Type 0 where
  pub port : ℕ
  pub addition : Option ℕ
  pub signing : Signing

-- a request to sign claims by itself; the addition is the one that is held
abbrev pub claim_of_request : Result ClientRequest MsgFault → ℕ → Option Claim
claim_of_request (Ok (Sign signing)) port =
    Some (record { port = port; addition = None; signing = signing })
claim_of_request other port = None

-- what an action claims: a consent what the user was asked for, of the very addition
abbrev pub claim_of : Action → List Stamped → Option Claim
claim_of (Requested requesting) before =
    claim_of_request (agent_request_of requesting.body) requesting.port
claim_of (Granted job) before = option_map (λ (raising : Raising). record {
  port = raising.port;
  addition = Some raising.addition;
  signing = raising.signing;
}) (raised_at job before)
claim_of other before = None

-- ---- which claims are met

-- a key that asks for confirmation is used by a consent alone, and by one for the very addition
abbrev pub is_consented : Option ℕ → PastAddition → Bool
is_consented None past = not past.addition.terms.confirm
is_consented (Some addition) past = past.number == addition

-- there is a place for one more ask: fewer than 256 are open, whose bodies have less than 8 MiB together
abbrev pub is_place : List (ℕ × ℕ) → Bool
is_place asks = nat_lt (length asks) 256 && nat_lt (sum_by (λ (one : ℕ × ℕ). one.1) asks) 8388608

-- what is asked of a claim with a key that is held
pub record Conditions : Type 0 where
  -- the key asks for no confirmation, or the user consented to this very claim
  pub consented : Bool
  -- its purposes have the message, where there are any
  pub for_purpose : Bool
  -- its destination constraints permit each bound hop, the user and the newest session
  pub permitted : Bool
  -- there is a place for one more ask
  pub place : Bool
  -- the agent isn't locked
  pub unlocked : Bool

-- each of them holds
abbrev pub all_hold : Conditions → Bool
all_hold one = one.consented && (one.for_purpose && (one.permitted && (one.place && one.unlocked)))

-- the conditions of a claim with the key of this addition, over a connection so bound, at this second of the wall clock,
-- with these open asks
abbrev pub conditions : PastAddition → Claim → List Binding → (wall : ℕ) → List (ℕ × ℕ) → (locked : Bool) → Conditions
conditions past claim chain wall asks locked = record {
  consented = is_consented claim.addition past;
  for_purpose =
      let_sign past.addition.terms.purposes claim.signing.message claim.signing.blob claim.signing.flags;
  permitted = is_none
      (denial_under past.addition.terms.rules claim.signing.blob chain claim.signing.message wall);
  place = is_place asks;
  unlocked = not locked;
}

-- the key is held, and each condition holds
abbrev pub is_met : Option PastAddition → Claim → List Binding → (wall : ℕ) → List (ℕ × ℕ) → (locked : Bool) → Bool
is_met None claim chain wall asks locked = false
is_met (Some past) claim chain wall asks locked = all_hold (conditions past claim chain wall asks locked)

-- the claim, where it is met at this moment
abbrev pub met_by : Option Claim → Option ℕ → Moment → List Stamped → Option Claim
met_by None life moment past = None
met_by (Some claim) life moment past =
    if is_met (held_by (last_addition claim.signing.blob past) life moment.mono) claim
    (proved_of claim.port past)
    moment.wall (open_asks past) (was_locked past)
    then Some claim else None

-- the signature that is to be put to the helper directly behind the newest action, if any, where
-- additions without a lifetime live for so long
abbrev pub due_signing : Option ℕ → List Stamped → Option Claim
due_signing life [] = None
due_signing life (one ∷ before) = met_by (claim_of one.action before) life one.moment (one ∷ before)
