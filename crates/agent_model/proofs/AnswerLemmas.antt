-- The answers of the helper go to who asked, and to nobody else.
use Rattle.std.proofs.Common.{◌≡◌, ◌≢◌, ℕ, List, [], ◌∷◌, refl, ap, arith, ◌∙◌, ◌==◌, ◌||◌, Some, false}
use Rattle.std.specs.Option.{option_map}
use Rattle.std.proofs.lemmas.Bool.Decides.{nat_tests}
use Rattle.helper_link.specs.declared.answer.Settled.{Settled}
use Rattle.agent_model.specs.Answers.{Answering, answer_all, answer_by, askers_of, tell_each}
use Rattle.lists.specs.Rising.{is_among}
use Rattle.agent_model.specs.State.{Port, change_port, find_port}
use Rattle.agent_model.specs.Verdicts.{Verdict, tell}
use Rattle.agent_model.proofs.FateLemmas.{answers_as}
use Rattle.agent_model.proofs.PortsLemmas.{find_port-apart, find_port-change_port}

-- a number that isn't listed isn't the first, nor among the others
parts_of : (number other : ℕ) (others : List ℕ)
    → (number == other || is_among number others) ≡ false
    → (number ≢ other) × (is_among number others ≡ false)
parts_of number other others absent = (grind (arith, nat_tests), grind (arith, nat_tests))

-- who didn't ask is told nothing
pub others_are_told_nothing : (settled : List Settled) (before : Answering) (number : ℕ)
    → is_among number (askers_of settled) ≡ false
    → find_port number (answer_all settled before).ports ≡ find_port number before.ports
others_are_told_nothing [] before number absent = refl
others_are_told_nothing (one ∷ later) before number absent =
    let parts = parts_of number one.asker (askers_of later) absent in
    let told_as = answers_as one.answer one before in
    others_are_told_nothing later (answer_by one.answer one before) number parts.1
    ∙ ap (find_port number) told_as.ports ∙ find_port-apart number one.asker told_as.change before.ports told_as.number parts.0

-- nor is who doesn't wait for the helper that is lost
pub others_lose_nothing : (verdict : Verdict) (askers : List ℕ) (ports : List Port) (number : ℕ)
    → is_among number askers ≡ false
    → find_port number (tell_each verdict askers ports) ≡ find_port number ports
others_lose_nothing verdict [] ports number absent = refl
others_lose_nothing verdict (asker ∷ others) ports number absent =
    let parts = parts_of number asker others absent in
    others_lose_nothing verdict others (change_port asker (tell verdict) ports) number parts.1
    ∙ find_port-apart number asker (tell verdict) ports (λ p. refl) parts.0

-- who asked is told what was answered, and waits no more
pub told_found : (asker : ℕ) (verdict : Verdict) (ports : List Port) (port : Port)
    → find_port asker ports ≡ Some port
    → find_port asker (change_port asker (tell verdict) ports) ≡ Some (tell verdict port)
told_found asker verdict ports port found =
    find_port-change_port asker (tell verdict) ports (λ p. refl) ∙ ap (option_map (tell verdict)) found
