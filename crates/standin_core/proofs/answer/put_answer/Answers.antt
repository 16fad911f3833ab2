use Rattle.std.proofs.Common.{◌∙◌, ap, refl, ◌++◌, List, ℕ, Option}
use Rattle.child_msg.specs.ChildFrames.{from_child_body}
use Rattle.child_msg.specs.Messages.{Confirm, Signing, Verification}
use Rattle.standin_core.specs.Answers.{answer_of, signed_with}
use Rattle.standin_core.specs.Requests.{signing}
use Rattle.wire_text.specs.Wire.{string}
use Rattle.standin_core.proofs.AnswerLemmas.{answer_of-message, answer_of-none, answered-sign, answered-verify, nothing_appended}
use Rattle.standin_core.proofs.answer.put_answer.Goals as goal

pub returns-in_ok-put_signature-in-Ok-Sign : goal.returns-in_ok-put_signature-in-Ok-Sign
returns-in_ok-put_signature-in-Ok-Sign c = λ hosts are.
    let read = rw c.in-Ok-Sign.field-0-is at c.in-Ok-Sign.ensures.exact in
    let request : Signing = record {
      ask = c.in-Ok-Sign.ask;
      private = c.in-Ok-Sign.private.now;
      blob = c.in-Ok-Sign.blob.now;
      message = c.in-Ok-Sign.message.now;
      flags = c.in-Ok-Sign.field-0-4;
    } in
    answered-sign hosts c.args.body.now c.args.out.now.live c.put_signature.new.out.live request read
    (c.in_ok-put_signature-in-Ok-Sign.ensures
    ∙ ap (λ (secret : Option (List ℕ)). c.args.out.now.live ++ string (from_child_body (signed_with secret (signing c.in-Ok-Sign.ask c.in-Ok-Sign.message.now)))) c.secret_in.ensures)

pub returns-in_ok-put_verdict-in-Ok-Verify : goal.returns-in_ok-put_verdict-in-Ok-Verify
returns-in_ok-put_verdict-in-Ok-Verify c = λ hosts are.
    let read = rw c.in-Ok-Verify.field-0-is at c.in-Ok-Verify.ensures.exact in
    let request : Verification = record {
      ask = c.in-Ok-Verify.ask;
      host_key = c.in-Ok-Verify.host_key.now;
      signature = c.in-Ok-Verify.signature.now;
      session = c.in-Ok-Verify.session.now;
    } in
    answered-verify hosts c.args.body.now c.args.out.now.live c.put_verdict.new.out.live request c.is_signed.result read
    (c.is_signed.ensures hosts are) c.in_ok-put_verdict-in-Ok-Verify.ensures

pub returns-in-Ok-Confirm : goal.returns-in-Ok-Confirm
returns-in-Ok-Confirm c = λ hosts are.
    let read = rw c.in-Ok-Confirm.field-0-is at c.in-Ok-Confirm.ensures.exact in
    nothing_appended (answer_of hosts c.args.body.now) c.args.out.now.live c.args.out.now.live
    (answer_of-message hosts c.args.body.now (Confirm c.in-Ok-Confirm.field-0-0 c.in-Ok-Confirm.field-0-1.now) read) refl

pub returns-in-Err : goal.returns-in-Err
returns-in-Err c = λ hosts are.
    nothing_appended (answer_of hosts c.args.body.now) c.args.out.now.live c.args.out.now.live
    (answer_of-none hosts c.args.body.now c.in-Err.field-0 c.in-Err.ensures.exact) refl
