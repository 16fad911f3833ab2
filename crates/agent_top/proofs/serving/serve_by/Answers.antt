use Rattle.std.proofs.Common.{ap, arith, subst, sym, true, ◌∙◌, ◌≤◌, Bool, Some}
use Rattle.agent_top.specs.ServeProgram.{ServesExactly}
use Rattle.agent_top.specs.declared.status.Status.TheVariants.{Memory}
use Rattle.agent_model.specs.State.{State, first_state}
use Rattle.loop_model.specs.Orderly.{IsOrderly}
use Rattle.loop_model.proofs.OwedLemmas.{orderly_first}
use Rattle.agent_core.specs.Parts.{Moved}
use Rattle.agent_top.proofs.RecordLemmas.{unwritten}
use Rattle.agent_top.proofs.ServeFairLemmas.{serves_fairly}
use Rattle.agent_top.proofs.ServeLawLemmas.{serves_lawfully}
use Rattle.agent_top.proofs.ServeLemmas.{added-typed, no_call, serves_by, serves_words}
use Rattle.agent_top.proofs.serving.serve_by.Goals as goal

pub serve-requires-clause-orderly : goal.serve-requires-clause-orderly
serve-requires-clause-orderly g c =
    subst IsOrderly (sym (ap (λ (seen : Moved). seen.state) c.new-agent.ensures)) (orderly_first _)

pub serve-requires-clause-second : goal.serve-requires-clause-second
serve-requires-clause-second g c =
    subst (λ (state : State). state.moment.mono ≤ g.W.World.greatest c.args.world.now)
    (sym (ap (λ (seen : Moved). seen.state) c.new-agent.ensures)) (omega arith)

pub returns-clause-serves : goal.returns-clause-serves
returns-clause-serves g c setting is =
    serves_words _ c.args.words.now setting c.as_str-path.result.now c.in-Ok.served.until_idle c.in-Ok.served.life c.in-Ok.served.confirm_limit c.new-agent.result.state _
    (g.W.World.journal c.args.world.now) (g.W.World.journal c.serve.new.world) is
    (ap Some c.as_str-path.ensures.value ∙ c.in-Ok.ensures.path) c.in-Ok.ensures.until_idle c.in-Ok.ensures.life c.in-Ok.ensures.confirm_limit
    (ap (λ (seen : Moved). seen.state) c.new-agent.ensures ∙ ap first_state c.served_settings-settings.ensures)
    (rw c.status_of_serving.ensures (serves_by _ c.serve.result _ _ _ c.serve.ensures.serves))

pub returns-clause-serves_lawfully : goal.returns-clause-serves_lawfully
returns-clause-serves_lawfully g c setting is =
    serves_lawfully _ setting _ _ (added-typed _ setting _ _ _ (returns-clause-serves g c setting is)) is.state

pub returns-in-Err-Memory-clause-serves_lawfully : goal.returns-in-Err-Memory-clause-serves_lawfully
returns-in-Err-Memory-clause-serves_lawfully g c setting is =
    let journal = g.W.World.journal c.args.world.now in
    serves_lawfully _ setting journal journal (added-typed true setting Memory journal journal (no_call setting journal)) is.state

pub returns-clause-serves_fairly : goal.returns-clause-serves_fairly
returns-clause-serves_fairly g c setting is = serves_fairly setting _ _

pub returns-in-Err-Memory-clause-serves_fairly : goal.returns-in-Err-Memory-clause-serves_fairly
returns-in-Err-Memory-clause-serves_fairly g c setting is = serves_fairly setting _ _

pub returns-then-served-clause-serves : goal.returns-then-served-clause-serves
returns-then-served-clause-serves g c setting is =
    subst (λ (recorded : Bool). ServesExactly recorded setting c.serve_recorded.result (g.W.World.journal c.args.world.now) (g.W.World.journal c.serve_recorded.new.world))
    (sym c.if-served.true ∙ c.in-Ok.ensures.recorded)
    (serves_words true c.args.words.now setting c.as_str-path.result.now c.in-Ok.served.until_idle c.in-Ok.served.life c.in-Ok.served.confirm_limit c.new-agent.result.state c.serve_recorded.result
    (g.W.World.journal c.args.world.now) (g.W.World.journal c.serve_recorded.new.world) is
    (ap Some c.as_str-path.ensures.value ∙ c.in-Ok.ensures.path) c.in-Ok.ensures.until_idle c.in-Ok.ensures.life c.in-Ok.ensures.confirm_limit
    (ap (λ (seen : Moved). seen.state) c.new-agent.ensures ∙ ap first_state c.served_settings-settings.ensures) c.serve_recorded.ensures.serves)

pub returns-then-served-clause-serves_lawfully : goal.returns-then-served-clause-serves_lawfully
returns-then-served-clause-serves_lawfully g c setting is =
    serves_lawfully _ setting _ _ (added-typed _ setting _ _ _ (returns-then-served-clause-serves g c setting is)) is.state

pub returns-then-served-clause-serves_fairly : goal.returns-then-served-clause-serves_fairly
returns-then-served-clause-serves_fairly g c setting is = serves_fairly setting _ _

pub returns-in-Err-Memory-clause-records : goal.returns-in-Err-Memory-clause-records
returns-in-Err-Memory-clause-records g c setting is recorded =
    unwritten _ (g.W.World.journal c.args.world.now) (g.O.Stream.seen c.args.output.now) (g.E.Stream.seen c.args.errors.now)
