use Rattle.std.proofs.Common.{ap, arith, ◌≡◌, ◌∙◌}
use Rattle.replay_run.specs.Drilling.{Kept}
use Rattle.replay_run.proofs.DrillLemmas.{round_by_parts}
use Rattle.replay_run.proofs.TallyLemmas.{as_short, asking_of-short}
use Rattle.replay_run.proofs.drill.drilled.Drill.round.Goals as goal

pub hear-requires : goal.hear-requires
hear-requires c =
    as_short _ _ (c.deref.ensures.value ∙ c.in_ok-client.ensures.body) (asking_of-short _ _ c.args.round _ c.ranges.round.fits)

pub help-requires : goal.help-requires
help-requires c =
    let drawn : c.draw.new.self.agent.last_port ≡ c.line.new.self.agent.last_port =
    ap (λ (k : Kept). k.agent.last_port) c.in_ok-client.ensures.drill in
    omega (arith, c.in_ok-line.ensures.ports, drawn, c.in_ok-hear.ensures.ports, c.requires)

pub returns : goal.returns
returns c =
    round_by_parts c.args.round c.args.self.now c.line.new.self c.draw.new.self c.hear.new.self c.help.new.self c.sign.new.self _ _
    c.in_ok-line.ensures.line c.in_ok-client.ensures.client (c.deref.ensures.value ∙ c.in_ok-client.ensures.body) c.in_ok-client.ensures.drill
    c.in_ok-hear.ensures.heard c.in_ok-help.ensures c.in_ok-sign.ensures
