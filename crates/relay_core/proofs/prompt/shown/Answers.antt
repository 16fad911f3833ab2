use Rattle.std.proofs.Common.{◌≡◌, ◌∙◌, ap, sym, arith, true, option_map, Bor, List, ℕ, Some}
use Rattle.std.proofs.lemmas.Bool.Decides.{nat_tests}
use Rattle.relay_core.specs.Prompts.{is_plain, shown_for}
use Rattle.relay_core.proofs.PromptLemmas.{shown_text}
use Rattle.relay_core.proofs.prompt.shown.Goals as goal

pub returns : goal.returns
returns c =
    let plain : is_plain c.args.prompt.now ≡ true = sym c.is_plain.ensures ∙ c.if-not-is_plain.false in
    let shows : shown_for c.args.job c.args.number c.args.prompt.now ≡ Some c.args.prompt.now = grind (arith, nat_tests, plain) in
    ap (option_map (λ (s : Bor (List ℕ)). s.now)) c.ok.ensures.value ∙ shown_text c.args.prompt.now c.from_utf8.result _ plain c.from_utf8.ensures.cases ∙ sym shows
