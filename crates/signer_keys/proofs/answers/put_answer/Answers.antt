use Rattle.std.proofs.Common.{◌∙◌, IfOk, ap, refl, sym, subst}
use Rattle.child_msg.specs.Messages.{Signing, Verification}
use Rattle.helper_core.specs.declared.answerer.Routed.TheVariants as routed
use Rattle.helper_core.specs.Routes.{IsRouted, Route}
use Rattle.signer_keys.proofs.AnswerLemmas.{route_of-confirm, route_of-none, route_of-sign, route_of-verify}
use Rattle.signer_keys.specs.declared.verifying.Verdict.{Verdict}
use Rattle.signer_keys.specs.Verifying.{verifying_route}
use Rattle.signer_keys.proofs.answers.put_answer.Goals as goal

pub returns-in-Ok-Sign : goal.returns-in-Ok-Sign
returns-in-Ok-Sign c =
    let read = rw c.in-Ok-Sign.field-0-is at c.in-Ok-Sign.ensures.exact in
    let request : Signing = record {
      ask = c.in-Ok-Sign.ask;
      private = c.in-Ok-Sign.private.now;
      blob = c.in-Ok-Sign.blob.now;
      message = c.in-Ok-Sign.message.now;
      flags = c.in-Ok-Sign.flags;
    } in
    subst (λ (r : Route). IfOk c.sign.result (λ answered. IsRouted answered r c.args.out.now.live c.sign.new.out.live)) (sym (route_of-sign c.args.body.now request read)) c.sign.ensures

pub returns-in_ok-judge-in-Ok-Verify : goal.returns-in_ok-judge-in-Ok-Verify
returns-in_ok-judge-in-Ok-Verify c =
    let read = rw c.in-Ok-Verify.field-0-is at c.in-Ok-Verify.ensures.exact in
    let request : Verification = record {
      ask = c.in-Ok-Verify.ask;
      host_key = c.in-Ok-Verify.host_key.now;
      signature = c.in-Ok-Verify.signature.now;
      session = c.in-Ok-Verify.session.now;
    } in
    subst (λ (r : Route). IfOk c.put_verdict.result (λ answered. IsRouted answered r c.args.out.now.live c.put_verdict.new.out.live))
    (ap (λ (v : Verdict). verifying_route v c.in-Ok-Verify.ask) c.in_ok-judge-in-Ok-Verify.ensures ∙ sym (route_of-verify c.args.body.now request read)) c.put_verdict.ensures

pub returns-in-Ok-Confirm : goal.returns-in-Ok-Confirm
returns-in-Ok-Confirm c =
    let read = rw c.in-Ok-Confirm.field-0-is at c.in-Ok-Confirm.ensures.exact in
    subst (λ (r : Route). IsRouted routed.NoRequest r c.args.out.now.live c.args.out.now.live)
    (sym (route_of-confirm c.args.body.now c.in-Ok-Confirm.field-0-0 c.in-Ok-Confirm.field-0-1.now read)) refl

pub returns-in-Err : goal.returns-in-Err
returns-in-Err c =
    subst (λ (r : Route). IsRouted routed.NoRequest r c.args.out.now.live c.args.out.now.live)
    (sym (route_of-none c.args.body.now c.in-Err.field-0 c.in-Err.ensures.exact)) refl
