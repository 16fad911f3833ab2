use Rattle.std.proofs.Common.{ap, length}
use Rattle.agent_core.specs.Happenings.{happening}
use Rattle.agent_core.specs.Parts.{stepped_of}
use Rattle.log_core.proofs.SightLemmas.{seen_step}
use Rattle.log_core.proofs.seeing.see_step.Goals as goal

pub returns-clause-sights : goal.returns-clause-sights
returns-clause-sights c =
    seen_step c.args.agent.now.state c.args.moment (happening c.args.event.now) (stepped_of c.step.new.self) (length c.starts-jobs.result.now) c.asks-asks.result
    c.see_bytes.new.sights.items c.args.sights.now.items c.see_raised.new.sights.items c.see_put.new.sights.items c.see_closes.new.sights.items c.see_closes.result
    c.in_ok-step.ensures.stepped (ap length c.starts-jobs.ensures) c.asks-asks.ensures c.in_ok-see_bytes.ensures c.in_ok-see_raised.ensures c.in_ok-see_put.ensures c.see_closes.ensures
