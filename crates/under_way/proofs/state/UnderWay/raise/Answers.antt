use Rattle.std.proofs.Common.{◌+◌, arith}
use Rattle.confirm_desk.specs.Calls.{held_of}
use Rattle.agent_model.specs.State.{UnderWay as State}
use Rattle.under_way.specs.Parts.{under_way_of}
use Rattle.under_way.specs.Times.{limits_of}
use Rattle.under_way.proofs.KeepLemmas.{keeps-raised}
use Rattle.under_way.proofs.KeptLemmas.{no_job_above}
use Rattle.under_way.proofs.state.UnderWay.raise.Goals as goal

pub raise-requires-clause-job : goal.raise-requires-clause-job
raise-requires-clause-job c =
    no_job_above c.self.inside.last_job (c.self.inside.last_job + 1) c.self.inside.desk (omega arith) c.self.invariant.0.jobs.order

pub invariant_of-self-2 : goal.invariant_of-self-2
invariant_of-self-2 c =
    let inside = c.self.inside in
    let u : State = under_way_of inside.link inside.to_start.items inside.started.items inside.verifications.items inside.desk inside.last_job (limits_of inside.limits) inside.second in (
      rw (c.in_ok-push.ensures.items, c.in_ok-reserve-2.ensures.items, c.in_ok-reserve.ensures.items, c.in-Ok.ensures.ok)
          (keeps-raised u (held_of c.args.held) c.args.text.now c.self.invariant.0 c.requires.short),
      omega (arith, c.in_ok-push.ensures.len, c.in_ok-reserve-2.ensures.len, c.in_ok-reserve.ensures.len, c.in_ok-reserve.ensures.ok, c.len-places.ensures),
    )
