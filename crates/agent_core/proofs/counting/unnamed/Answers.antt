use Rattle.std.proofs.Common.{◌∙◌, sym}
use Rattle.agent_model.specs.State.{is_unnamed, role_of}
use Rattle.agent_core.specs.declared.slot.Slot.{Slot}
use Rattle.agent_core.proofs.CountLemmas.{few_filtered, unnamed_counted}
use Rattle.agent_core.proofs.counting.unnamed.Goals as goal

pub returns-clause-value : goal.returns-clause-value
returns-clause-value c = c.count_unnamed.ensures ∙ sym (unnamed_counted c.args.slots.now c.args.under_way.now)

pub returns-clause-few : goal.returns-clause-few
returns-clause-few c = rw c.count_unnamed.ensures (few_filtered (λ (slot : Slot). is_unnamed (role_of slot.door slot.number c.args.under_way.now)) c.args.slots.now)
