use Rattle.std.proofs.Common.{◌≡◌, ◌∙◌, ℕ, Some, ap, subst, sym}
use Rattle.confirm_desk.specs.Confirmations.{find_asker, find_job}
use Rattle.agent_model.specs.Children.{shut_then}
use Rattle.agent_model.specs.Consents.{over, over_if}
use Rattle.agent_model.specs.KeyStates.{KeyState}
use Rattle.agent_model.specs.State.{State}
use Rattle.agent_model.proofs.JobLemmas.{asker_own}
use Rattle.agent_core.specs.Slots.{OpenPorts, open_of}
use Rattle.agent_core.specs.Parts.{after, state_of}
use Rattle.agent_core.proofs.ConfirmerLemmas.{closed_parts, closed_then, found_asker, given_job, no_job, silent-left}
use Rattle.agent_core.proofs.AlikeLemmas.{spared-still}
use Rattle.agent_core.proofs.confirmer.lose_client.Goals as goal

pub end_confirmation-requires : goal.end_confirmation-requires
end_confirmation-requires c =
    let going = c.args.under_way.now in
    let number = c.args.number in
    let one = given_job (find_asker number going.confirmations) c.in-Some.job (sym c.in-Some.is ∙ c.job_of_asker.ensures) in
    let found = found_asker number going.last_job going.confirmations one.0 c.requires.order one.1 in
    record {
      silent = silent-left c.in-Some.job number c.args.ports.now.last going.confirmations c.args.ports.now.ports c.close_open.new.self.ports one.0
          (subst (λ job. find_job job going.confirmations ≡ Some one.0) one.2 found) (asker_own number going.confirmations one.0 one.1) c.close_open.ensures.rising (ap (λ (v : OpenPorts). v.ports) c.close_open.ensures.ports);
    }

pub returns-in-Some-clause-parts : goal.returns-in-Some-clause-parts
returns-in-Some-clause-parts c = λ (wall : ℕ) (keys : KeyState).
    let going = c.args.under_way.now in
    let number = c.args.number in
    let ports = open_of c.args.ports.now in
    let one = given_job (find_asker number going.confirmations) c.in-Some.job (sym c.in-Some.is ∙ c.job_of_asker.ensures) in
    let found = found_asker number going.last_job going.confirmations one.0 c.requires.order one.1 in
    let state : State = state_of wall keys going ports in
    c.end_confirmation.ensures.parts wall keys one.0 (subst (λ job. find_job job going.confirmations ≡ Some one.0) one.2 found)
    ∙ closed_then wall keys going ports (open_of c.close_open.new.self) number (over one.0) c.close_open.ensures.ports
    ∙ ap (λ f. after ports.closed (shut_then number (over_if f) state)) (sym one.1)

pub returns-in_default-clause-parts : goal.returns-in_default-clause-parts
returns-in_default-clause-parts c = λ (wall : ℕ) (keys : KeyState).
    let going = c.args.under_way.now in
    let number = c.args.number in
    let ports = open_of c.args.ports.now in
    let state : State = state_of wall keys going ports in
    closed_parts wall keys going ports (open_of c.close_open.new.self) number c.close_open.ensures.ports
    ∙ ap (λ f. after ports.closed (shut_then number (over_if f) state)) (sym (no_job (find_asker number going.confirmations) (sym c.in_default.is ∙ c.job_of_asker.ensures)))

pub returns-in-Some-clause-spared : goal.returns-in-Some-clause-spared
returns-in-Some-clause-spared c = λ (was : State) spared.
    c.end_confirmation.ensures.spared was (spared-still c.args.ports.now c.close_open.new.self c.args.under_way.now c.close_open.ensures.spared was spared)

pub returns-in_default-clause-spared : goal.returns-in_default-clause-spared
returns-in_default-clause-spared c = spared-still c.args.ports.now c.close_open.new.self c.args.under_way.now c.close_open.ensures.spared
