use Rattle.std.proofs.Common.{◌∙◌, ap, sym, arith}
use Rattle.std.proofs.lemmas.Int.{ints}
use Rattle.relay_core.specs.Verdicts.{is_consent}
use Rattle.relay_core.proofs.VerdictLemmas.{verdict-other, verdict-zero}
use Rattle.relay_core.proofs.consent.verdict.Goals as goal

pub returns-then-status-ne0 : goal.returns-then-status-ne0
returns-then-status-ne0 c = sym (verdict-other c.args.status c.args.output.now (λ zero. omega (arith, ints)))

pub returns : goal.returns
returns c = c.is_consent.ensures ∙ ap is_consent c.first_of.ensures ∙ sym (verdict-zero c.args.status c.args.output.now (omega (arith, ints)))
