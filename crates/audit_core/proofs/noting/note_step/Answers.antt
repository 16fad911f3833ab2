use Rattle.agent_core.specs.Happenings.{happening}
use Rattle.agent_core.specs.Parts.{stepped_of}
use Rattle.audit_core.proofs.NewestLemmas.{noted}
use Rattle.audit_core.proofs.noting.note_step.Goals as goal

pub returns-clause-puts : goal.returns-clause-puts
returns-clause-puts c =
    noted c.args.line c.args.agent.now.state c.args.moment (happening c.args.event.now) (stepped_of c.step.new.self) c.note_since.result
    c.asks-before.result c.args.puts.now.items c.note_since.new.puts.items c.in_ok-step.ensures.stepped c.asks-before.ensures c.note_since.ensures
