use Rattle.std.proofs.Common.{◌≡◌, ◌∙◌, Ok, ap, subst}
use Rattle.agent_msg.specs.Reading.{request_of}
use Rattle.agent_msg.specs.Requests.{ClientRequest, Sign, client_request}
use Rattle.agent_model.specs.Dispatch.{Served}
use Rattle.agent_model.specs.KeyStates.{KeyState}
use Rattle.agent_model.specs.Verdicts.{verdict_text, verdict_waits}
use Rattle.agent_msg.specs.declared.request.Request.{Request}
use Rattle.agent_core.specs.Served.{IsShortRequest, binds, keys_of, served_by}
use Rattle.agent_core.proofs.HeldLemmas.{served-body, short_request, usable_request}
use Rattle.agent_core.proofs.requests.answer.Goals as goal

pub take-requires-clause-short : goal.take-requires-clause-short
take-requires-clause-short c =
    short_request c.args.body.now (client_request c.in-Ok.request) c.in-Ok.ensures.found c.requires.short

pub take-requires-clause-usable : goal.take-requires-clause-usable
take-requires-clause-usable c =
    usable_request c.args.body.now (client_request c.in-Ok.request) c.in-Ok.ensures.found

pub sign-requires-clause-short : goal.sign-requires-clause-short
sign-requires-clause-short c =
    let P : Request → Type 0 = λ r. IsShortRequest (client_request r) in
    subst P c.in-Ok-Sign.field-0-is (short_request c.args.body.now (client_request c.in-Ok-Sign.field-0) c.in-Ok-Sign.ensures.found c.requires.short)

pub bind-requires : goal.bind-requires
bind-requires c =
    let P : Request → Type 0 = λ r. IsShortRequest (client_request r) in
    record {
      short = subst P c.in-Ok-Bind.field-0-is (short_request c.args.body.now (client_request c.in-Ok-Bind.field-0) c.in-Ok-Bind.ensures.found c.requires.short);
    }

pub returns-in_ok-asked-in-Ok-Sign-clause-reply : goal.returns-in_ok-asked-in-Ok-Sign-clause-reply
returns-in_ok-asked-in-Ok-Sign-clause-reply c =
    let request : ClientRequest = Sign record { blob = c.in-Ok-Sign.blob.now; message = c.in-Ok-Sign.message.now; flags = c.in-Ok-Sign.flags } in
    let keys : KeyState = keys_of c.args.table.now c.args.lock.now in
    let read : request_of c.args.body.now ≡ Ok request = c.in-Ok-Sign.ensures.exact ∙ ap (λ r. Ok (client_request r)) c.in-Ok-Sign.field-0-is in
    (c.wait.ensures (served_by c.args.asker.now request keys c.args.under_way.now).work.verdict c.in_ok-asked-in-Ok-Sign.ensures.told).0
    ∙ ap (λ (s : Served). verdict_text s.work.verdict) (served-body c.args.asker.now c.args.body.now request keys c.args.under_way.now read)

pub returns-in_ok-asked-in-Ok-Sign-clause-waits : goal.returns-in_ok-asked-in-Ok-Sign-clause-waits
returns-in_ok-asked-in-Ok-Sign-clause-waits c =
    let request : ClientRequest = Sign record { blob = c.in-Ok-Sign.blob.now; message = c.in-Ok-Sign.message.now; flags = c.in-Ok-Sign.flags } in
    let keys : KeyState = keys_of c.args.table.now c.args.lock.now in
    let read : request_of c.args.body.now ≡ Ok request = c.in-Ok-Sign.ensures.exact ∙ ap (λ r. Ok (client_request r)) c.in-Ok-Sign.field-0-is in
    (c.wait.ensures (served_by c.args.asker.now request keys c.args.under_way.now).work.verdict c.in_ok-asked-in-Ok-Sign.ensures.told).1
    ∙ ap (λ (s : Served). verdict_waits s.work.verdict) (served-body c.args.asker.now c.args.body.now request keys c.args.under_way.now read)

pub returns-in_ok-asked-in-Ok-Bind-clause-reply : goal.returns-in_ok-asked-in-Ok-Bind-clause-reply
returns-in_ok-asked-in-Ok-Bind-clause-reply c =
    let request : ClientRequest = binds c.in-Ok-Bind.host_key.now c.in-Ok-Bind.session.now c.in-Ok-Bind.signature.now c.in-Ok-Bind.forwarding in
    let keys : KeyState = keys_of c.args.table.now c.args.lock.now in
    let read : request_of c.args.body.now ≡ Ok request = c.in-Ok-Bind.ensures.exact ∙ ap (λ r. Ok (client_request r)) c.in-Ok-Bind.field-0-is in
    (c.wait-in-Ok-Bind.ensures (served_by c.args.asker.now request keys c.args.under_way.now).work.verdict (c.on_ask.ensures (served_by c.args.asker.now request keys c.args.under_way.now).work.verdict (c.in_ok-asked-in-Ok-Bind.ensures.told c.args.table.now))).0
    ∙ ap (λ (s : Served). verdict_text s.work.verdict) (served-body c.args.asker.now c.args.body.now request keys c.args.under_way.now read)

pub returns-in_ok-asked-in-Ok-Bind-clause-waits : goal.returns-in_ok-asked-in-Ok-Bind-clause-waits
returns-in_ok-asked-in-Ok-Bind-clause-waits c =
    let request : ClientRequest = binds c.in-Ok-Bind.host_key.now c.in-Ok-Bind.session.now c.in-Ok-Bind.signature.now c.in-Ok-Bind.forwarding in
    let keys : KeyState = keys_of c.args.table.now c.args.lock.now in
    let read : request_of c.args.body.now ≡ Ok request = c.in-Ok-Bind.ensures.exact ∙ ap (λ r. Ok (client_request r)) c.in-Ok-Bind.field-0-is in
    (c.wait-in-Ok-Bind.ensures (served_by c.args.asker.now request keys c.args.under_way.now).work.verdict (c.on_ask.ensures (served_by c.args.asker.now request keys c.args.under_way.now).work.verdict (c.in_ok-asked-in-Ok-Bind.ensures.told c.args.table.now))).1
    ∙ ap (λ (s : Served). verdict_waits s.work.verdict) (served-body c.args.asker.now c.args.body.now request keys c.args.under_way.now read)

pub returns-in_ok-asked-in-Ok-Sign-clause-keys : goal.returns-in_ok-asked-in-Ok-Sign-clause-keys
returns-in_ok-asked-in-Ok-Sign-clause-keys c =
    let request : ClientRequest = Sign record { blob = c.in-Ok-Sign.blob.now; message = c.in-Ok-Sign.message.now; flags = c.in-Ok-Sign.flags } in
    let keys : KeyState = keys_of c.args.table.now c.args.lock.now in
    let read : request_of c.args.body.now ≡ Ok request = c.in-Ok-Sign.ensures.exact ∙ ap (λ r. Ok (client_request r)) c.in-Ok-Sign.field-0-is in
    c.in_ok-asked-in-Ok-Sign.ensures.keys
    ∙ ap (λ (s : Served). s.held) (served-body c.args.asker.now c.args.body.now request keys c.args.under_way.now read)
