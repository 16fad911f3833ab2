use Rattle.std.proofs.Common.{◌∙◌, ℕ, Option, ap, sym}
use Rattle.agent_msg.specs.Requests.{Signing}
use Rattle.agent_model.specs.KeyStates.{KeyState, after_use}
use Rattle.agent_core.specs.Served.{keys_of}
use Rattle.agent_core.proofs.HeldLemmas.{served-sign}
use Rattle.agent_core.proofs.signing.sign.Goals as goal

pub returns-clause-keys : goal.returns-clause-keys
returns-clause-keys c =
    let keys : KeyState = keys_of c.args.table.now c.args.lock.now in
    let signing : Signing = record { blob = c.args.blob.now; message = c.args.message.now; flags = c.args.flags } in
    c.count_use.ensures c.args.lock.now
    ∙ ap (λ (u : Option ℕ). after_use u keys) c.in_ok-waits.ensures.used
    ∙ sym (served-sign c.args.asker.now signing keys c.args.under_way.now)
