use Rattle.std.proofs.Common.{◌+◌, ◌≤◌, length, arith}
use Rattle.std.proofs.lemmas.Result.{IfOk-weaker}
use Rattle.key_blob.specs.PublicKeys.{parts_of}
use Rattle.confirm_desk.proofs.PromptLemmas.{fingerprint_is_short}
use Rattle.confirm_desk.proofs.question.prompt_of_key.Goals as goal

pub returns-in_ok-shown-in-Ok-clause-short : goal.returns-in_ok-shown-in-Ok-clause-short
returns-in_ok-shown-in-Ok-clause-short c =
    let small : length c.as_bytes.result.now ≤ 71 =
    rw (c.as_bytes.ensures.value, c.in_ok-shown-in-Ok.ensures) (fingerprint_is_short (parts_of c.in-Ok.key)) in
    IfOk-weaker c.prompt.result (λ text. length text.items ≤ 292 + length c.as_bytes.result.now) (λ text. length text.items ≤ 363)
    (λ text short. omega (arith, short, small)) c.prompt.ensures.short
