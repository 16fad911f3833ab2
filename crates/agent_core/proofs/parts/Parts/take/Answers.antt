use Rattle.std.proofs.Common.{ap, subst, sym}
use Rattle.agent_model.specs.Actions.{Stepped}
use Rattle.agent_model.specs.State.{State}
use Rattle.agent_core.specs.Bound.{IsAtRest, StillFits}
use Rattle.agent_core.specs.Happenings.{happening}
use Rattle.agent_core.proofs.AgentLemmas.{agent_steps}
use Rattle.agent_core.proofs.LateLemmas.{rest-opened, still-fits}
use Rattle.agent_core.specs.Parts.{stepped_of}
use Rattle.agent_core.proofs.parts.Parts.take.Goals as goal

pub handle-requires-clause-fits : goal.handle-requires-clause-fits
handle-requires-clause-fits c =
    let opened = ap (λ (s : Stepped). s.state) c.pass-passed.ensures.passed in
    subst (λ (s : State). StillFits (happening c.args.event.now) s) (sym opened)
    (still-fits c.args.moment (happening c.args.event.now) c.args.self.now.state c.requires.fits)

pub handle-requires-clause-rest : goal.handle-requires-clause-rest
handle-requires-clause-rest c =
    let opened = ap (λ (s : Stepped). s.state) c.pass-passed.ensures.passed in
    subst (λ (s : State). IsAtRest s) (sym opened) (rest-opened c.args.moment c.args.self.now.state c.requires.rest)

pub returns-then-passed-clause-stepped : goal.returns-then-passed-clause-stepped
returns-then-passed-clause-stepped c =
    agent_steps c.args.moment (happening c.args.event.now) c.args.self.now.state (stepped_of c.pass-passed.new.self) (stepped_of c.handle.new.self)
    c.pass-passed.ensures.passed c.in_ok-moved.ensures.handled

pub returns-else-passed-clause-stepped : goal.returns-else-passed-clause-stepped
returns-else-passed-clause-stepped c =
    agent_steps c.args.moment (happening c.args.event.now) c.args.self.now.state (stepped_of c.pass-passed.new.self) (stepped_of c.handle.new.self)
    c.pass-passed.ensures.passed c.in_ok-moved.ensures.handled

pub returns-then-passed-clause-spared : goal.returns-then-passed-clause-spared
returns-then-passed-clause-spared c = c.in_ok-moved.ensures.spared c.args.self.now.state c.pass-passed.ensures.spared

pub returns-else-passed-clause-spared : goal.returns-else-passed-clause-spared
returns-else-passed-clause-spared c = c.in_ok-moved.ensures.spared c.args.self.now.state c.pass-passed.ensures.spared
