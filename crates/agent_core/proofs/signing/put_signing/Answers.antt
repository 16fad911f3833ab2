use Rattle.std.proofs.Common.{◌∙◌, ap, false, is_some, sym}
use Rattle.agent_model.specs.Objections.{objection}
use Rattle.agent_msg.specs.Requests.{Signing as Request}
use Rattle.agent_model.specs.Actions.{Work}
use Rattle.agent_model.specs.KeyStates.{KeyState}
use Rattle.agent_core.specs.Served.{keys_of}
use Rattle.std.specs.Prelude.{◌≡◌, IfSome, IsSome}
use Rattle.identity_table.specs.Identities.{find_number}
use Rattle.agent_core.specs.declared.signing.Signing.{Signing}
use Rattle.agent_core.proofs.HeldLemmas.{after_ok, asked_short, none_of, served-signed, undenied, used_held, value_ok}
use Rattle.agent_core.proofs.signing.put_signing.Goals as goal

pub sign_with-requires-clause-short : goal.sign_with-requires-clause-short
sign_with-requires-clause-short c =
    asked_short c.args.table.now.identities c.in-Some.key.now c.args.blob.now c.args.message.now (sym c.in-Some.ensures.value) c.in-Some.ensures.sound.short c.requires.short

pub returns-in-Some-clause-held : goal.returns-in-Some-clause-held
returns-in-Some-clause-held c =
    let table = c.args.table.now in
    let key = c.in-Some.key.now in
    value_ok (λ (s : Signing). IfSome s.used (λ n. n ≡ key.number)) (λ (s : Signing). IfSome s.used (λ n. IsSome (find_number n table.identities))) c.sign_with.result
    (λ s own. used_held s.used c.args.blob.now table.last table.identities key own c.in-Some.ensures.sound.numbers (sym c.in-Some.ensures.value))
    c.sign_with.ensures.own

pub returns-in-Some-clause-under_way : goal.returns-in-Some-clause-under_way
returns-in-Some-clause-under_way c =
    let key = c.in-Some.key.now in
    let keys : KeyState = keys_of c.args.table.now c.args.lock.now in
    let signing : Request = record { blob = c.args.blob.now; message = c.args.message.now; flags = c.args.flags } in
    let unlocked : is_some c.args.lock.now ≡ false = cc (c.is_locked.ensures.value, c.if-is_locked.false) in
    let permitted = undenied (objection key c.args.blob.now c.args.asker.now.chain.now.bindings c.args.message.now c.args.flags c.args.asker.now.wall) c.if-permits.ensures in
    after_ok c.sign_with.result
    (λ is. is ∙ ap (λ (w : Work). w.under_way) (served-signed c.args.asker.now key signing keys c.args.under_way.now (none_of c.args.lock.now unlocked) (sym c.in-Some.ensures.value) permitted))
    c.sign_with.ensures.under_way
