use Rattle.std.proofs.Common.{List, ℕ, ◌∷◌, ◌≤◌, ◌+◌, length, subst, sym}
use Rattle.std.specs.Prelude.{codes}
use Rattle.confirm_desk.specs.Prompt as Prompt
use Rattle.confirm_desk.specs.Prompt.{prompt_of}
use Rattle.confirm_desk.proofs.PromptLemmas.{parts-assoc, prompt_is_short}
use Rattle.confirm_desk.proofs.question.prompt.Goals as goal

pub returns-clause-text : goal.returns-clause-text
unfolding Prompt.prompt_of
returns-clause-text c =
    rw (
      c.in_ok-push.ensures.items,
      c.in_ok-extend_from_slice-2.ensures.items,
      c.in_ok-extend_from_slice.ensures.items,
      c.in_ok-push_shown.ensures,
      c.in_ok-text.ensures.items,
    )
    (parts-assoc (codes "Allow use of key ") (Prompt.shown_text 256 c.args.comment.now) (63 ∷ (10 ∷ codes "Key fingerprint ")) c.args.fingerprint.now (codes "."))

pub returns-clause-short : goal.returns-clause-short
returns-clause-short c =
    subst (λ (text : List ℕ). length text ≤ 292 + length c.args.fingerprint.now) (sym (returns-clause-text c))
    (prompt_is_short c.args.comment.now c.args.fingerprint.now)
