use Rattle.std.proofs.Common.{subst, sym}
use Rattle.agent_model.specs.Actions.{Stepped}
use Rattle.agent_model.specs.Sound.{IsTied}
use Rattle.agent_model.proofs.FatedMakeLemmas.{tied-taken}
use Rattle.agent_core.specs.Bound.{IsBound}
use Rattle.agent_core.proofs.AgentLemmas.{agent_passed, bound-taken, tied-lost}
use Rattle.agent_core.specs.Parts.{stepped_of}
use Rattle.agent_core.proofs.parts.Parts.pass_seconds.Goals as goal

pub take_in-requires : goal.take_in-requires
take_in-requires c = c.requires.second

pub lose_late-requires : goal.lose_late-requires
lose_late-requires c =
    subst (λ (s : Stepped). IsBound s.state.ports s.state.under_way) (sym c.take_in.ensures.parts)
    (bound-taken c.args.moment c.args.self.now.state c.requires)

pub end_late-requires : goal.end_late-requires
end_late-requires c =
    let taken = tied-taken c.args.moment c.args.self.now.state c.requires.tied in
    subst (λ (s : Stepped). IsTied s.state) (sym c.lose_late.ensures.parts)
    (tied-lost c.take_in.new.self.state (subst (λ (s : Stepped). IsTied s.state) (sym c.take_in.ensures.parts) taken))

pub returns-clause-parts : goal.returns-clause-parts
returns-clause-parts c =
    agent_passed c.args.moment c.args.self.now.state (stepped_of c.take_in.new.self) (stepped_of c.lose_late.new.self) (stepped_of c.end_late.new.self)
    c.take_in.ensures.parts c.lose_late.ensures.parts c.end_late.ensures.parts

pub returns-clause-spared : goal.returns-clause-spared
returns-clause-spared c =
    c.end_late.ensures.spared c.args.self.now.state (c.lose_late.ensures.spared c.args.self.now.state c.take_in.ensures.spared)
