use Rattle.std.proofs.Common.{◌≡◌, ℕ, ◌==◌, is_some, List, [], ◌∷◌, refl, ◌∙◌, arith, rules, tests}
use Rattle.std.proofs.lemmas.Bool.Decides.{nat_tests}
use Rattle.std.proofs.lemmas.Iterator.{YieldsList-from_slice}
use Rattle.std.proofs.lemmas.Iterator.Search.{any_from_yields_List}
use Rattle.std.specs.List.{list_any}
use Rattle.world_ports.specs.declared.Job.{Job}
use Rattle.agent_model.specs.State.{find_to_start}
use Rattle.replay_run.proofs.watch.is_among.Goals as goal

-- the test of the standard library
finds : (number : ℕ) (jobs : List Job)
    → list_any (λ (job : Job). job.number == number) jobs ≡ is_some (find_to_start number jobs)
finds number [] = refl
finds number (job ∷ jobs) = grind (arith, nat_tests, finds number jobs)

pub returns : goal.returns
returns c =
    any_from_yields_List (λ (job : Job). job.number == c.args.number) _ _ _ c.any.ensures.ran (YieldsList-from_slice c.args.jobs.now c.iter.ensures.rest) (λ x b q k. search (rules, tests))
    ∙ finds c.args.number c.args.jobs.now
