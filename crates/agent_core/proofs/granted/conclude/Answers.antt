use Rattle.std.proofs.Common.{◌∙◌, ap, ℕ}
use Rattle.agent_model.specs.State.{Port, change_port}
use Rattle.agent_model.specs.Verdicts.{Verdict, tell}
use Rattle.agent_core.specs.Slots.{OpenPorts}
use Rattle.agent_core.proofs.AlikeLemmas.{spares-on}
use Rattle.agent_core.proofs.granted.conclude.Goals as goal

pub conclude-requires : goal.conclude-requires
conclude-requires c = λ (port : Port) found. c.requires.silent port (c.close_confirmer.ensures.left c.args.asker port found)

pub returns-clause-ports : goal.returns-clause-ports
returns-clause-ports c = λ (verdict : Verdict) told.
    c.conclude.ensures.ports verdict told
    ∙ ap (λ (v : OpenPorts). let w : OpenPorts = record v { ports = change_port c.args.asker (tell verdict) v.ports } in w)
    c.close_confirmer.ensures.ports

pub returns-clause-spared : goal.returns-clause-spared
returns-clause-spared c = spares-on c.args.ports.now c.close_confirmer.new.ports c.conclude.new.self c.close_confirmer.ensures.spared c.conclude.ensures.spared

pub returns-clause-gone : goal.returns-clause-gone
returns-clause-gone c = λ (number : ℕ) is untouched.
    (c.conclude.ensures.spared number untouched).1 ∙ c.close_confirmer.ensures.gone number is
