use Rattle.std.proofs.Common.{◌∙◌, sym}
use Rattle.agent_model.specs.State.{is_client}
use Rattle.agent_core.specs.declared.slot.Slot.{Slot}
use Rattle.agent_core.proofs.CountLemmas.{clients_counted, few_filtered}
use Rattle.agent_core.proofs.counting.clients.Goals as goal

pub returns-clause-value : goal.returns-clause-value
returns-clause-value c = c.count_clients.ensures ∙ sym (clients_counted c.args.slots.now)

pub returns-clause-few : goal.returns-clause-few
returns-clause-few c = rw c.count_clients.ensures (few_filtered (λ (slot : Slot). is_client slot.door) c.args.slots.now)
