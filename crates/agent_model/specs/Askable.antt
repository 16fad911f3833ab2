-- Which requests for a signature are put to the helper or to the user, and why the others are
-- refused; which grants still hold (ours).
use Rattle.std.specs.Prelude.{◌≡◌, ◌≢◌, ◌⊎◌, ℕ, List, ◌-◌, ◌^◌, ◌<◌, ◌≤◌, length, Option, None, Some, IsSome, Bool, true, false}
use Rattle.helper_link.specs.HelperLink.{asked_len}
use Rattle.helper_link.specs.declared.ask.Ask.{Ask}
use Rattle.helper_link.specs.declared.state.LinkState.TheVariants as states
use Rattle.identity_table.specs.Identities.{HeldKey, find_identity, find_number}
use Rattle.agent_msg.specs.Requests.{Signing}
use Rattle.confirm_desk.specs.Confirmations.{Confirmation}
use Rattle.dest_rule.specs.declared.binding.Binding.{Binding}
use Rattle.agent_model.specs.Dispatch.{Asker}
use Rattle.agent_model.specs.KeyStates.{KeyState}
use Rattle.agent_model.specs.Objections.{objection}
use Rattle.agent_model.specs.State.{UnderWay}
use Rattle.agent_model.specs.Verdicts.{AsksSpent, Cause, DestinationDenied, JobsSpent, Locked, NoLongerAllowed, NotHeld, OtherPurpose, TooManyAsks, TooManyConfirmations}

-- the agent is unlocked and holds the key, whose purposes and destination constraints say this of the signature
-- for this asker
pub record IsJudgedAs (result : Option Cause) (signing : Signing) (asker : Asker) (held : KeyState)
    : Type 0 where
  pub unlocked : held.lock ≡ None
  pub key : HeldKey
  pub found : find_identity signing.blob held.table.identities ≡ Some key
  pub judged : objection key signing.blob asker.chain signing.message signing.flags asker.wall ≡ result

-- they permit it, and the user is to be asked or not
pub record IsUsable (signing : Signing) (asks_user : Bool) (asker : Asker) (held : KeyState) : Type
    0 where
  pub permitted : IsJudgedAs None signing asker held
  pub confirm : permitted.key.confirm ≡ asks_user

-- there is a place for one more ask: fewer than 256 are unanswered, whose bodies have less than 8 MiB together
pub record HasPlace (asks : List Ask) : Type 0 where
  pub few : length asks < 256
  pub light : asked_len asks < 8388608

-- the places are full
abbrev pub IsFull : List Ask → Type 0
IsFull asks = (256 ≤ length asks) ⊎ (8388608 ≤ asked_len asks)

-- one more ask may be put: there is a place for it, and neither the numbers of asks are spent nor, where no helper is
-- there or being started, those of jobs
pub record HasRoom (under_way : UnderWay) : Type 0 where
  pub place : HasPlace under_way.link.asks
  pub numbers : under_way.link.last ≢ 2 ^ 64 - 1
  pub jobs : under_way.link.state ≡ states.None → under_way.last_job ≢ 2 ^ 64 - 1

-- the user may be asked once more: fewer than 16 confirmations are waited for, and the numbers of
-- jobs are not spent
pub record HasConfirmationRoom (under_way : UnderWay) : Type 0 where
  pub few : length under_way.confirmations < 16
  pub jobs : under_way.last_job ≢ 2 ^ 64 - 1

-- a signature is refused for this cause
abbrev pub IsRefusedFor : Cause → Signing → Asker → KeyState → UnderWay → Type 0
IsRefusedFor Locked signing asker held under_way = IsSome held.lock
IsRefusedFor NotHeld signing asker held under_way =
    (held.lock ≡ None) × (find_identity signing.blob held.table.identities ≡ None)
IsRefusedFor OtherPurpose signing asker held under_way = IsJudgedAs (Some OtherPurpose) signing asker held
IsRefusedFor (DestinationDenied denial) signing asker held under_way =
    IsJudgedAs (Some (DestinationDenied denial)) signing asker held
IsRefusedFor TooManyConfirmations signing asker held under_way =
    IsUsable signing true asker held × (16 ≤ length under_way.confirmations)
IsRefusedFor TooManyAsks signing asker held under_way =
    IsUsable signing false asker held × IsFull under_way.link.asks
IsRefusedFor AsksSpent signing asker held under_way =
    IsUsable signing false asker held × HasPlace under_way.link.asks × (under_way.link.last
    ≡ 2 ^ 64 - 1)
IsRefusedFor JobsSpent signing asker held under_way =
    (IsUsable signing false asker held × HasPlace under_way.link.asks × (under_way.link.last
    ≢ 2 ^ 64 - 1)
    × (under_way.link.state ≡ states.None) × (under_way.last_job ≡ 2 ^ 64 - 1))
    ⊎ (IsUsable signing true asker held × (length under_way.confirmations < 16)
    × (under_way.last_job ≡ 2 ^ 64 - 1))
IsRefusedFor other signing asker held under_way = ⊥

-- ---- the user's consent

-- the agent is unlocked, the addition of this number is held, as this key, and its purposes and its destination
-- constraints permit the signature of the message with these flags for this chain at this second of the wall clock
pub record IsGrantable (key : HeldKey) (chain : List Binding) (addition : ℕ) (message : List ℕ)
    (flags wall : ℕ) (held : KeyState) : Type 0 where
  pub unlocked : held.lock ≡ None
  pub found : find_number addition held.table.identities ≡ Some key
  pub permitted : objection key key.blob chain message flags wall ≡ None

-- consent comes to nothing for this cause: no such key may be used, or one may, and its ask can't
-- be put
abbrev pub IsRefusedAtGrant : Cause → List Binding → Confirmation → ℕ → KeyState → UnderWay → Type 0
IsRefusedAtGrant NoLongerAllowed chain confirmation wall held under_way =
    (key : HeldKey) → IsGrantable key chain confirmation.addition confirmation.message confirmation.flags wall held → ⊥
IsRefusedAtGrant TooManyAsks chain confirmation wall held under_way =
    (key : HeldKey) × IsGrantable key chain confirmation.addition confirmation.message confirmation.flags wall held
    × IsFull under_way.link.asks
IsRefusedAtGrant AsksSpent chain confirmation wall held under_way =
    (key : HeldKey) × IsGrantable key chain confirmation.addition confirmation.message confirmation.flags wall held
    × HasPlace under_way.link.asks × (under_way.link.last ≡ 2 ^ 64 - 1)
IsRefusedAtGrant JobsSpent chain confirmation wall held under_way =
    (key : HeldKey) × IsGrantable key chain confirmation.addition confirmation.message confirmation.flags wall held
    × HasPlace under_way.link.asks × (under_way.link.last ≢ 2 ^ 64 - 1)
    × (under_way.link.state ≡ states.None) × (under_way.last_job ≡ 2 ^ 64 - 1)
IsRefusedAtGrant other chain confirmation wall held under_way = ⊥
