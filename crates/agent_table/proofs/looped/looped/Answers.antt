use Rattle.std.proofs.Common.{arith, subst, sym, ◌≤◌}
use Rattle.agent_core.specs.Parts.{Moved}
use Rattle.loop_model.specs.Orderly.{IsOrderly}
use Rattle.loop_model.proofs.OwedLemmas.{orderly_first}
use Rattle.agent_table.proofs.looped.looped.Goals as goal

pub serve-end-requires-clause-orderly : goal.serve-end-requires-clause-orderly
serve-end-requires-clause-orderly g c =
    subst (λ (moved : Moved). IsOrderly moved.state) (sym c.new-agent.ensures) (orderly_first _)

pub serve-end-requires-clause-second : goal.serve-end-requires-clause-second
serve-end-requires-clause-second g c =
    subst (λ (moved : Moved). moved.state.moment.mono ≤ c.new-world.result.greatest) (sym c.new-agent.ensures)
    (omega arith)
