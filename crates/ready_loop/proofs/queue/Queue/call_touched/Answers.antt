use Rattle.std.proofs.Common.{ap, ◌∙◌, ℕ, List, map}
use Rattle.loop_model.specs.declared.thing.Thing.TheVariants.{Read, Write}
use Rattle.ready_loop.specs.Standing.{called_each}
use Rattle.ready_loop.proofs.RecallLemmas.{called-touched}
use Rattle.ready_loop.proofs.queue.Queue.call_touched.Goals as goal

pub returns : goal.returns
returns g c =
    let state = g.A.Core.state c.args.agent.now in
    let line = c.args.self.now in
    c.in_ok-call_writes.ensures
    ∙ ap (called_each state (map Write c.touched-touched.result.now)) c.in_ok-call_reads.ensures
    ∙ ap (λ (ports : List ℕ). called_each state (map Write ports) (called_each state (map Read ports) line)) c.touched-touched.ensures.value
    ∙ called-touched state (g.A.Core.touched c.args.agent.now) line c.touched-touched.ensures.rising
    c.aside_rises.ensures.reads c.aside_rises.ensures.writes c.requires
