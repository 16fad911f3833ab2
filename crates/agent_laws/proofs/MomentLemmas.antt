-- What a moment brings: what holds of a loss, of an end and of nothing holds of it, where waits are tied and judged.
use Rattle.world_ports.specs.declared.Moment.{Moment}
use Rattle.confirm_desk.specs.Confirmations.{Confirmation}
use Rattle.agent_model.specs.Actions.{Outcome, behind, stay}
use Rattle.agent_model.specs.Answers.{lose}
use Rattle.agent_model.specs.Consents.{over}
use Rattle.agent_model.specs.Events.{Tick}
use Rattle.agent_model.specs.Sound.{IsJudged, IsTied}
use Rattle.agent_model.specs.State.{State}
use Rattle.agent_model.specs.Time.{at_moment, taken_in, time_passes}
use Rattle.agent_model.proofs.FatedMakeLemmas.{fated-makes, tied-taken}
use Rattle.agent_model.proofs.JobLemmas.{IsIn}
use Rattle.agent_model.proofs.JudgedLemmas.{judges-makes}
use Rattle.agent_model.proofs.MakeLemmas.{Makes, loses, overs, stays}
use Rattle.agent_model.proofs.TimeLemmas.{time_passes-brings}

-- ---- by what stays

-- what holds of an outcome, and what stays
record Brings (Stays : State → Type 0) (R : State → Outcome → Type 0) (state : State) (outcome : Outcome) : Type 0 where
  so : R state outcome
  still : Stays outcome.state

module _ (Stays : State → Type 0) (keeps : (s : State) (outcome : Outcome) → Makes Tick s outcome → Stays s → Stays outcome.state) (R : State → Outcome → Type 0) where
  made : (s : State) (outcome : Outcome) → Makes Tick s outcome → (Stays s → R s outcome) → Stays s
      → Brings Stays R s outcome
  made s outcome makes so at = record { so = so at; still = keeps s outcome makes at }

  brings-by : (moment : Moment) (state : State) → ((s : State) → R s (stay s))
      → ((s : State) → Stays s → R s (lose s))
      → ((one : Confirmation) (s : State) → IsIn one s.under_way.confirmations → Stays s → R s (over one s))
      → ((s : State) (first later : Outcome) → R s first → R first.state later → R s (behind first later))
      → Stays (taken_in moment state)
      → Brings Stays R (taken_in moment state) (time_passes moment state)
  brings-by moment state none loss end join =
      time_passes-brings (λ s outcome. Stays s → Brings Stays R s outcome) moment state
      (λ s. made s (stay s) (stays s) (λ at. none s))
      (λ s. made s (lose s) (loses s) (loss s))
      (λ one s there. made s (over one s) (overs one s there) (end one s there))
      (λ s first later before then at.
      let one = before at in
      let two = then one.still in
      record { so = join s first later one.so two.so; still = two.still })

-- ---- where waits are tied

pub tied-brings : (R : State → Outcome → Type 0) (moment : Moment) (state : State) → IsTied state
    → ((s : State) → R s (stay s)) → ((s : State) → IsTied s → R s (lose s))
    → ((one : Confirmation) (s : State) → IsIn one s.under_way.confirmations → IsTied s → R s (over one s))
    → ((s : State) (first later : Outcome) → R s first → R first.state later → R s (behind first later))
    → R (taken_in moment state) (time_passes moment state)
tied-brings R moment state tied none loss end join =
    (brings-by IsTied (λ s outcome makes at. (fated-makes makes at).tied) R moment state none loss end join (tied-taken moment state tied)).so

-- ---- and judged

abbrev AreSettled : State → Type 0
AreSettled state = IsTied state × IsJudged state

settled-makes : (s : State) (outcome : Outcome) → Makes Tick s outcome → AreSettled s
    → AreSettled outcome.state
settled-makes s outcome makes at =
    ((fated-makes makes at.0).tied, (judges-makes makes at.0 at.1).judged)

taken-settled : (moment : Moment) (state : State) → IsTied state → IsJudged state
    → AreSettled (taken_in moment state)
taken-settled moment state tied judged =
    (tied-taken moment state tied, record { verified = judged.verified; given = judged.given; chains = judged.chains })

pub judged-brings : (R : State → Outcome → Type 0) (moment : Moment) (state : State) → IsTied state
    → IsJudged state → ((s : State) → R s (stay s))
    → ((s : State) → IsTied s → IsJudged s → R s (lose s))
    → ((one : Confirmation) (s : State) → IsIn one s.under_way.confirmations → IsTied s → IsJudged s → R s (over one s))
    → ((s : State) (first later : Outcome) → R s first → R first.state later → R s (behind first later))
    → R (taken_in moment state) (time_passes moment state)
judged-brings R moment state tied judged none loss end join =
    (brings-by AreSettled settled-makes R moment state none (λ s at. loss s at.0 at.1) (λ one s there at. end one s there at.0 at.1) join (taken-settled moment state tied judged)).so

-- at the moment they are judged as before
pub judged-moment : (moment : Moment) (state : State) → IsTied state → IsJudged state
    → IsJudged (at_moment moment state)
judged-moment moment state tied judged =
    (brings-by AreSettled settled-makes (λ s outcome. Unit {0}) moment state (λ s. tt) (λ s at. tt) (λ one s there at. tt) (λ s first later one two. tt) (taken-settled moment state tied judged)).still.1
