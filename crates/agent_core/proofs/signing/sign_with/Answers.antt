use Rattle.std.proofs.Common.{◌≡◌, ◌∙◌, ℕ, Bool, Option, None, IfSome, false, subst, sym, true}
use Rattle.std.specs.Option.{option_map}
use Rattle.agent_msg.specs.Requests.{Signing}
use Rattle.agent_model.specs.Errands.{ask_fault, raise_fault}
use Rattle.dest_rule.specs.Hosts.{login_host}
use Rattle.agent_core.proofs.HeldLemmas.{own_used, put_used, raise_unused}
use Rattle.agent_core.specs.Served.{TellsWait, sign_work}
use Rattle.agent_core.proofs.signing.sign_with.Goals as goal

pub returns-in_ok-job-clause-told : goal.returns-in_ok-job-clause-told
returns-in_ok-job-clause-told c =
    let confirms : c.args.key.now.confirm ≡ true = sym c.confirm.ensures ∙ c.if-confirm.true in
    let work = sign_work true c.args.asker.now c.args.key.now c.args.message.now c.args.flags c.args.under_way.now in
    let P : Bool → Type 0 = λ b. TellsWait (sign_work b c.args.asker.now c.args.key.now c.args.message.now c.args.flags c.args.under_way.now).verdict c.on_confirmation.result in
    subst P (sym confirms) (c.on_confirmation.ensures work.verdict c.in_ok-job.ensures.told)

pub returns-in_ok-ask-clause-told : goal.returns-in_ok-ask-clause-told
returns-in_ok-ask-clause-told c =
    let confirms : c.args.key.now.confirm ≡ false = sym c.confirm.ensures ∙ c.if-confirm.false in
    let work = sign_work false c.args.asker.now c.args.key.now c.args.message.now c.args.flags c.args.under_way.now in
    let P : Bool → Type 0 = λ b. TellsWait (sign_work b c.args.asker.now c.args.key.now c.args.message.now c.args.flags c.args.under_way.now).verdict c.on_ask.result in
    subst P (sym confirms) (c.on_ask.ensures work.verdict c.in_ok-ask.ensures.told)

pub returns-in_ok-job-clause-used : goal.returns-in_ok-job-clause-used
returns-in_ok-job-clause-used c =
    let confirms : c.args.key.now.confirm ≡ true = sym c.confirm.ensures ∙ c.if-confirm.true in
    let asker = c.args.asker.now in
    let signing : Signing = record { blob = c.args.key.now.blob; message = c.args.message.now; flags = c.args.flags } in
    let P : Bool → Type 0 = λ b. None ≡ (sign_work b c.args.asker.now c.args.key.now c.args.message.now c.args.flags c.args.under_way.now).used in
    subst P (sym confirms) (raise_unused (raise_fault c.args.under_way.now) c.args.key.now (login_host c.args.key.now.rules c.args.key.now.blob asker.chain.now.bindings c.args.message.now asker.wall) signing asker.port c.args.under_way.now)

pub returns-in_ok-ask-clause-used : goal.returns-in_ok-ask-clause-used
returns-in_ok-ask-clause-used c =
    let confirms : c.args.key.now.confirm ≡ false = sym c.confirm.ensures ∙ c.if-confirm.false in
    let signing : Signing = record { blob = c.args.key.now.blob; message = c.args.message.now; flags = c.args.flags } in
    let P : Bool → Type 0 = λ b. option_map (λ _. c.args.key.now.number) c.in_ok-ask.ask ≡ (sign_work b c.args.asker.now c.args.key.now c.args.message.now c.args.flags c.args.under_way.now).used in
    c.used_by.ensures
    ∙ subst P (sym confirms) (put_used (ask_fault c.args.under_way.now) c.args.key.now signing c.args.asker.now.port c.args.under_way.now c.in_ok-ask.ask c.in_ok-ask.ensures.told)

pub returns-in_ok-ask-clause-own : goal.returns-in_ok-ask-clause-own
returns-in_ok-ask-clause-own c =
    subst (λ (used : Option ℕ). IfSome used (λ n. n ≡ c.args.key.now.number)) (sym c.used_by.ensures) (own_used c.args.key.now.number c.in_ok-ask.ask)
