use Rattle.std.proofs.Common.{◌∙◌, ℕ, ap, refl, sym, ◌≡◌, None, Some, subst}
use Rattle.confirm_desk.specs.Confirmations.{Confirmation, find_job}
use Rattle.agent_model.specs.Consents.{without_confirmation}
use Rattle.agent_model.specs.KeyStates.{KeyState}
use Rattle.agent_model.specs.Verdicts.{NotConfirmed, Refuses}
use Rattle.agent_core.proofs.ConfirmerLemmas.{given_asker, job_own, over_parts}
use Rattle.agent_core.specs.Slots.{open_of}
use Rattle.agent_model.specs.State.{State}
use Rattle.agent_core.proofs.AlikeLemmas.{IsAsOwed, spared-by}
use Rattle.agent_core.proofs.OwingNewsLemmas.{as_owed-over}
use Rattle.agent_core.proofs.confirmer.end_confirmation.Goals as goal

pub returns-clause-parts : goal.returns-clause-parts
returns-clause-parts c = λ (wall : ℕ) (keys : KeyState) (one : Confirmation) found.
    let going = c.args.under_way.now in
    let left = c.end_confirmation-held.ensures.left ∙ ap (λ job. without_confirmation job going) (sym (job_own c.args.job going.confirmations one found)) in
    over_parts wall keys going c.end_confirmation-held.new.self (open_of c.args.ports.now) (open_of c.conclude.new.ports) one c.confirmer_of-confirmer.result c.end_confirmation-held.result.asker left
    (c.conclude.ensures.ports (Refuses NotConfirmed) (refl, refl))
    (given_asker (find_job c.args.job going.confirmations) one c.end_confirmation-held.result found c.end_confirmation-held.ensures.held)
    (c.confirmer_of-confirmer.ensures one found)

pub returns-clause-spared : goal.returns-clause-spared
returns-clause-spared c = λ (was : State).
    let going = c.args.under_way.now in
    let new = c.conclude.new.ports in
    spared-by c.args.ports.now new going c.end_confirmation-held.new.self c.conclude.ensures.spared
    (λ port at untouched there.
    subst (IsAsOwed port going) (sym c.end_confirmation-held.ensures.left)
    (as_owed-over port c.args.job c.confirmer_of-confirmer.result going c.confirmer_of-confirmer.ensures
    (λ here. let no : None ≡ Some at = sym (c.conclude.ensures.gone port here untouched) ∙ there in absurd (cc)))) was
