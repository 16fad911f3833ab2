use Rattle.std.proofs.Common.{◌∙◌, ap}
use Rattle.agent_core.specs.Slots.{first_above, owing_of, ports_of}
use Rattle.agent_core.proofs.ports.Ports.next_owed.Goals as goal

pub returns-clause-next : goal.returns-clause-next
returns-clause-next c =
    rw (← c.self.view_is) (c.next_owing.ensures ∙ ap (λ slots. first_above c.args.after (owing_of (ports_of slots))) c.deref.ensures.value)
