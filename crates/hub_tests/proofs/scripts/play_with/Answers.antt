use Rattle.std.proofs.Common.{arith, subst, sym, ◌≤◌}
use Rattle.agent_model.specs.State.{State, no_settings}
use Rattle.loop_model.specs.Orderly.{IsOrderly}
use Rattle.loop_model.proofs.OwedLemmas.{orderly_first}
use Rattle.hub_tests.proofs.scripts.play_with.Goals as goal

pub serve-end-requires-clause-orderly : goal.serve-end-requires-clause-orderly
serve-end-requires-clause-orderly g c = subst IsOrderly (sym c.requires) (orderly_first no_settings)

pub serve-end-requires-clause-second : goal.serve-end-requires-clause-second
serve-end-requires-clause-second g c =
    subst (λ (state : State). state.moment.mono ≤ c.new-world.result.greatest) (sym c.requires) (omega arith)
