use Rattle.std.proofs.Common.{◌≡◌, ◌∙◌, ℕ, Some, ap, subst, sym}
use Rattle.confirm_desk.specs.Confirmations.{Confirmation, find_job}
use Rattle.agent_model.specs.Consents.{over}
use Rattle.agent_model.specs.KeyStates.{KeyState}
use Rattle.agent_core.specs.Slots.{OpenPorts, open_of}
use Rattle.agent_core.proofs.ConfirmerLemmas.{closed_then, found_linked, silent-kept}
use Rattle.agent_model.specs.State.{State}
use Rattle.agent_core.proofs.AlikeLemmas.{spared-still}
use Rattle.agent_core.proofs.confirmer.lose_confirmer.Goals as goal

pub end_confirmation-requires : goal.end_confirmation-requires
end_confirmation-requires c =
    let going = c.args.under_way.now in
    let one = c.in-Some.one.now in
    let found = found_linked c.args.number going.last_job going.confirmations one c.requires.order (sym c.in-Some.ensures.value) in
    record {
      silent = silent-kept c.job-job.result c.args.number c.args.ports.now.last going.confirmations c.args.ports.now.ports c.close_open.new.self.ports one
          (subst (λ job. find_job job going.confirmations ≡ Some one) (sym c.job-job.ensures) found) c.requires.quiet c.close_open.ensures.rising (ap (λ (v : OpenPorts). v.ports) c.close_open.ensures.ports);
    }

pub returns-clause-parts : goal.returns-clause-parts
returns-clause-parts c = λ (wall : ℕ) (keys : KeyState) (one : Confirmation) linked.
    let going = c.args.under_way.now in
    let both : Some c.in-Some.one.now ≡ Some one = c.in-Some.ensures.value ∙ linked in
    let same : c.in-Some.one.now ≡ one = cc in
    let job = c.job-job.ensures ∙ ap (λ (o : Confirmation). o.job) same in
    let found = found_linked c.args.number going.last_job going.confirmations one c.requires.order linked in
    c.end_confirmation.ensures.parts wall keys one (subst (λ j. find_job j going.confirmations ≡ Some one) (sym job) found)
    ∙ closed_then wall keys going (open_of c.args.ports.now) (open_of c.close_open.new.self) c.args.number (over one) c.close_open.ensures.ports

pub returns-clause-spared : goal.returns-clause-spared
returns-clause-spared c = λ (was : State) spared.
    c.end_confirmation.ensures.spared was (spared-still c.args.ports.now c.close_open.new.self c.args.under_way.now c.close_open.ensures.spared was spared)
