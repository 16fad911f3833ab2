-- Actions by which nothing is asked of the helper.
use Rattle.std.proofs.Common.{◌≢◌, List}
use Rattle.agent_model.specs.Actions.{Action, Answered, Asked, Asking, Granted, Lost, Over, Proved, Raised, Requested}
use Rattle.agent_model.specs.Grants.{IsAmong}
use Rattle.agent_model.proofs.ActionLemmas.{Each, among-each}
use Rattle.agent_model.proofs.TimeLemmas.{AreEnds, end, loss, no_more, one_more}

-- it asks nothing
abbrev pub IsSilent : Action → Type 0
IsSilent (Requested requesting) = Unit {0}
IsSilent (Asked asking) = ⊥
IsSilent (Answered one) = Unit {0}
IsSilent (Proved proving) = Unit {0}
IsSilent (Raised raising) = Unit {0}
IsSilent (Granted job) = Unit {0}
IsSilent (Over job) = Unit {0}
IsSilent Lost = Unit {0}

abbrev pub AreSilent : List Action → Type 0
AreSilent actions = Each IsSilent actions

pub no_ask : (action : Action) → IsSilent action → (asking : Asking) → action ≢ Asked asking
no_ask (Requested requesting) silent asking is = absurd (cc)
no_ask (Asked other) silent asking is = silent
no_ask (Answered one) silent asking is = absurd (cc)
no_ask (Proved proving) silent asking is = absurd (cc)
no_ask (Raised raising) silent asking is = absurd (cc)
no_ask (Granted job) silent asking is = absurd (cc)
no_ask (Over job) silent asking is = absurd (cc)
no_ask Lost silent asking is = absurd (cc)

pub none-asked : (actions : List Action) → AreSilent actions → (asking : Asking)
    → IsAmong (Asked asking) actions → ⊥
none-asked actions each asking among =
    among-each IsSilent (Asked asking) actions (λ no. no) each among

pub silent-ends : {actions : List Action} → AreEnds actions → AreSilent actions
silent-ends no_more = tt
silent-ends (one_more action later loss rest) = (tt, silent-ends rest)
silent-ends (one_more action later (end job) rest) = (tt, silent-ends rest)
