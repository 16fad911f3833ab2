-- Which requests to bind a connection are put to the helper, and why the others are refused (ours).
use Rattle.std.specs.Prelude.{◌≡◌, ◌≢◌, ◌-◌, ◌^◌, None, IsSome, Bool}
use Rattle.helper_link.specs.declared.state.LinkState.TheVariants as states
use Rattle.agent_msg.specs.Requests.{BindRequest}
use Rattle.dest_rule.specs.Chains.{judge}
use Rattle.dest_rule.specs.declared.fault.Next.TheVariants.{Refuse}
use Rattle.agent_model.specs.Askable.{HasPlace, IsFull}
use Rattle.agent_model.specs.Dispatch.{Asker}
use Rattle.agent_model.specs.KeyStates.{KeyState}
use Rattle.agent_model.specs.Sound.{judged}
use Rattle.agent_model.specs.State.{UnderWay}
use Rattle.agent_model.specs.Verdicts.{AsksSpent, BindRefused, Cause, JobsSpent, Locked, TooManyAsks}

-- the agent is unlocked, and the binding is new to the asker's chain or stands in it
pub record IsBindable (bind : BindRequest) (asker : Asker) (held : KeyState) : Type 0 where
  pub unlocked : held.lock ≡ None
  pub is_new : Bool
  pub stands : judge bind.host_key bind.session asker.chain ≡ judged is_new

-- a request to bind is refused for this cause
abbrev pub IsBindRefusedFor : Cause → BindRequest → Asker → KeyState → UnderWay → Type 0
IsBindRefusedFor Locked bind asker held under_way = IsSome held.lock
IsBindRefusedFor (BindRefused fault) bind asker held under_way =
    (held.lock ≡ None) × (judge bind.host_key bind.session asker.chain ≡ Refuse fault)
IsBindRefusedFor TooManyAsks bind asker held under_way =
    IsBindable bind asker held × IsFull under_way.link.asks
IsBindRefusedFor AsksSpent bind asker held under_way =
    IsBindable bind asker held × HasPlace under_way.link.asks × (under_way.link.last
    ≡ 2 ^ 64 - 1)
IsBindRefusedFor JobsSpent bind asker held under_way =
    IsBindable bind asker held × HasPlace under_way.link.asks × (under_way.link.last
    ≢ 2 ^ 64 - 1)
    × (under_way.link.state ≡ states.None) × (under_way.last_job ≡ 2 ^ 64 - 1)
IsBindRefusedFor other bind asker held under_way = ⊥
