use Rattle.std.proofs.Common.{◌≡◌, None, false, is_some}
use Rattle.agent_model.specs.State.{UnderWay}
use Rattle.agent_core.proofs.HeldLemmas.{none_of}
use Rattle.agent_core.proofs.requests.take.Goals as goal

pub returns-in-Add-clause-work : goal.returns-in-Add-clause-work
returns-in-Add-clause-work c = λ (going : UnderWay).
    let unlocked : is_some c.args.lock.now ≡ false = cc (c.is_locked.ensures.value, c.if-is_locked.false) in
    let none = none_of c.args.lock.now unlocked in
    rw (none, c.in-Add.is) (c.add.ensures.work None going)
