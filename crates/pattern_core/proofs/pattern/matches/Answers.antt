use Rattle.std.proofs.Common.{◌≡◌, sym, ◌∙◌}
use Rattle.pattern_core.specs.Patterns.{is_match}
use Rattle.pattern_core.proofs.LetterLemmas.{read_text-kept}
use Rattle.pattern_core.proofs.Theorems.{Matches_from_is_match, is_match_from_Matches}
use Rattle.pattern_core.proofs.pattern.matches.Goals as goal

-- the test by cases is what was computed
value : (c : goal.After-matches_in) → c.matches_in.result ≡ is_match c.args.text.now c.args.pattern.now
value c = rw (read_text-kept c.args.text.now, read_text-kept c.args.pattern.now) at c.matches_in.ensures

pub returns-clause-exact : goal.returns-clause-exact
returns-clause-exact c =
    (λ h. Matches_from_is_match _ _ (sym (value c) ∙ h), λ m. value c ∙ is_match_from_Matches m)

pub returns-clause-value : goal.returns-clause-value
returns-clause-value c = value c
