use Rattle.agent_core.proofs.agent.Agent.ports_so_far.Goals as goal

pub returns-clause-steady : goal.returns-clause-steady
returns-clause-steady c =
    let tied = c.self.invariant.rest.tied in
    rw (← c.self.view_is) (record { rising = tied.rising; order = tied.raised.order })
