use Rattle.ready_loop.proofs.ServingLemmas.{opens_by}
use Rattle.ready_loop.proofs.listeners.open.Goals as goal

pub returns-clause-opened : goal.returns-clause-opened
returns-clause-opened g c = λ until_idle state.
    opens_by c.bind.result (record { path = c.args.path.now; until_idle = until_idle; state = state })
    (g.W.World.journal c.args.world.now) (g.W.World.journal c.bind.new.self) c.bind.ensures.told
