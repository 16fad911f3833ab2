use Rattle.std.proofs.Common.{refl, sym, ◌∙◌, false, true}
use Rattle.pattern_core.proofs.ListLemmas.{MatchesList-tests}
use Rattle.pattern_core.proofs.list.list_matches.Goals as goal

pub returns-then-some_accepts : goal.returns-then-some_accepts
returns-then-some_accepts c =
    MatchesList-tests c.args.host.now c.args.patterns.now true _
    (sym c.if-some_accepts.true ∙ c.some_accepts.ensures) c.some_rejects.ensures

pub returns-else-some_accepts : goal.returns-else-some_accepts
returns-else-some_accepts c =
    let decides = MatchesList-tests c.args.host.now c.args.patterns.now false _
    (sym c.if-some_accepts.false ∙ c.some_accepts.ensures) refl in
    (λ h. decides.0 (sym c.if-some_accepts.false ∙ h), λ m. c.if-some_accepts.false ∙ decides.1 m)
