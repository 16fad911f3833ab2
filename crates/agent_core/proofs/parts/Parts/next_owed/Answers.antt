use Rattle.std.proofs.Common.{◌∙◌, ap, sym}
use Rattle.confirm_desk.specs.Calls.{lesser}
use Rattle.agent_core.proofs.NextChildLemmas.{next-client-child}
use Rattle.agent_core.specs.Slots.{open_of}
use Rattle.agent_core.proofs.parts.Parts.next_owed.Goals as goal

pub returns-clause-next : goal.returns-clause-next
returns-clause-next c =
    let rest = rw (← c.self.view_is) at c.requires in
    let child = rw (← c.self.view_is) at c.next_child_owed-child.ensures.next in
    let ports = (open_of c.self.inside.ports) in
    rw (← c.self.view_is) (c.lesser.ensures
    ∙ ap (λ n. lesser n c.next_child_owed-child.result) c.next_owed-client.ensures.next
    ∙ ap (lesser _) child
    ∙ sym (next-client-child ports.ports c.self.inside.under_way ports.last rest.tied.raised rest.attended c.args.after rest.tied.rising))

pub returns-clause-steady : goal.returns-clause-steady
returns-clause-steady c =
    let rest = rw (← c.self.view_is) at c.requires in
    rw (← c.self.view_is) (record { rising = rest.tied.rising; order = rest.tied.raised.order })
