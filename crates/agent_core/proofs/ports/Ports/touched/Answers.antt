use Rattle.agent_core.proofs.ports.Ports.touched.Goals as goal

pub returns-clause-rising : goal.returns-clause-rising
returns-clause-rising c = rw (← c.self.view_is) c.self.invariant.marked.rising
