use Rattle.agent_core.specs.Happenings.{happening}
use Rattle.agent_model.specs.State.{starts}
use Rattle.log_core.proofs.RaisedLemmas.{raised-confirm, raised-helper, raised-none}
use Rattle.log_core.proofs.seeing.see_raised.Goals as goal
use Rattle.log_laws.specs.Raised.{port_of}

pub returns-in_default : goal.returns-in_default
returns-in_default c =
    raised-none c.args.wall c.args.agent.now.state.under_way.link.faults (port_of (happening c.args.event.now)) c.args.before c.starts.result.now (starts c.args.agent.now.state)
    c.starts.ensures c.args.sights.now.items c.in_default.ensures.lookup.3

pub returns-in_ok-push-in-Confirm : goal.returns-in_ok-push-in-Confirm
returns-in_ok-push-in-Confirm c =
    raised-confirm c.args.wall c.args.agent.now.state.under_way.link.faults (port_of (happening c.args.event.now)) c.args.before c.starts.result.now (starts c.args.agent.now.state)
    c.starts.ensures c.args.sights.now.items c.in-Some.job.now c.in-Some.ensures.lookup.3.0 c.in-Some.ensures.lookup.3.1
    c.link_faults.result c.port_of.result c.push.new.self.items c.in-Confirm.is c.link_faults.ensures c.port_of.ensures c.in_ok-push-in-Confirm.ensures.items

pub returns-in-Helper : goal.returns-in-Helper
returns-in-Helper c =
    raised-helper c.args.wall c.args.agent.now.state.under_way.link.faults (port_of (happening c.args.event.now)) c.args.before c.starts.result.now (starts c.args.agent.now.state)
    c.starts.ensures c.args.sights.now.items c.in-Some.job.now c.in-Some.ensures.lookup.3.0 c.in-Some.ensures.lookup.3.1 c.in-Helper.is
