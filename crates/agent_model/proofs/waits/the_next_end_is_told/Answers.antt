use Rattle.agent_model.proofs.LateLemmas.{reached-ends}
use Rattle.agent_model.proofs.OnTimeLemmas.{ahead-on_time, unlimited-on_time}
use Rattle.agent_model.proofs.TimeLemmas.{on_time-stays, on_time-step}
use Rattle.agent_model.proofs.waits.the_next_end_is_told.Goals as goal

pub returns-clause-before : goal.returns-clause-before
returns-clause-before c =
    λ moment state small ahead. on_time-stays moment state (ahead-on_time moment state small ahead)

pub returns-clause-event : goal.returns-clause-event
returns-clause-event c = λ moment state event small ahead. on_time-step moment state event (ahead-on_time moment state small ahead)

pub returns-clause-reached : goal.returns-clause-reached
returns-clause-reached c = reached-ends

pub returns-clause-unlimited : goal.returns-clause-unlimited
returns-clause-unlimited c = λ moment state ask confirmation. on_time-stays moment state (unlimited-on_time moment state ask confirmation)
