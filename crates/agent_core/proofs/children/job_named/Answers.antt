use Rattle.std.proofs.Common.{◌∙◌, ap, refl, subst, sym}
use Rattle.agent_model.specs.Consents.{find_started}
use Rattle.under_way.specs.Jobs.{started_job}
use Rattle.under_way.specs.Parts.{IsFor}
use Rattle.agent_core.proofs.children.job_named.Goals as goal

pub returns-then-eq-clause-named : goal.returns-then-eq-clause-named
returns-then-eq-clause-named c =
    let going = c.args.under_way.now in
    let one = started_job c.in_ok-started.started.now in
    let found = c.in_ok-started.ensures.found in
    let kind = c.in_ok-started.ensures.kind one found in
    record {
      one = one;
      found = ap (λ n. find_started n going.started) kind.1 ∙ found;
      same = refl;
      is_for = subst (λ n. IsFor one.job.kind n going) (sym kind.1) kind.0;
    }
