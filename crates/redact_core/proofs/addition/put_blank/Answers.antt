use Rattle.std.proofs.Common.{length, replicate, sym, ap, ◌∙◌, ◌++◌, List, ℕ, append_assoc}
use Rattle.wire_text.specs.Wire.{string}
use Rattle.key_blob.proofs.PrincipalLemmas.{string_shorter}
use Rattle.redact_core.proofs.StepLemmas.{blank-step}
use Rattle.redact_core.proofs.FrameLemmas.{front_later, on_err}
use Rattle.redact_core.specs.Redaction.{blank}
use Rattle.redact_core.proofs.addition.put_blank.Goals as goal

pub fields-smaller : goal.fields-smaller
fields-smaller c = string_shorter c.fields.from (c.in-Ok.content.now, c.take_string.new.self) c.in-Ok.ensures.exact

pub fields-preserved : goal.fields-preserved
fields-preserved c =
    let done = c.fields.invariant.0 in
    let zeros = string (replicate (length c.in-Ok.content.now) 0) in
    let left = c.take_string.new.self in (
      done ++ zeros,
      c.in_ok-put_zeros.ensures.ok ∙ ap (λ (l : List ℕ). l ++ zeros) c.fields.invariant.1
          ∙ append_assoc c.args.out.now.items done zeros,
      append_assoc done zeros (blank left)
          ∙ ap (λ (l : List ℕ). done ++ l) (sym (blank-step c.fields.from c.in-Ok.content.now left
          c.in-Ok.ensures.exact)) ∙ c.fields.invariant.2,
    )

pub returns-in_err-put_zeros-clause-front : goal.returns-in_err-put_zeros-clause-front
returns-in_err-put_zeros-clause-front c =
    on_err (front_later c.args.out.now.items c.fields.invariant.0 c.fields.out.items c.put_zeros.new.out.items
    c.fields.invariant.1 c.in_err-put_zeros.ensures.front)
    c.from_residual.result
