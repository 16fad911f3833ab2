use Rattle.std.proofs.Common.{length, ap, ◌∙◌, ◌+◌, ◌∷◌, [], ◌++◌, refl, List, ℕ}
use Rattle.wire_text.specs.Wire.{string}
use Rattle.redact_core.proofs.FrameLemmas.{on_ok, text_frame}
use Rattle.redact_core.proofs.redact.put_text.Goals as goal

pub returns-clause-ok : goal.returns-clause-ok
returns-clause-ok c =
    let text = c.args.text.now in
    let number = c.args.number in
    let before = ap (λ (l : List ℕ). l ++ number ∷ []) c.in_ok-put_u32.ensures.ok in
    on_ok (λ last. last ∙ ap (λ (l : List ℕ). l ++ string text) (c.in_ok-put_u8.ensures.ok ∙ before)
    ∙ text_frame c.args.out.now.items text number (5 + length text) refl) c.put_string.result
    c.put_string.ensures.ok
