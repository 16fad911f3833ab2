use Rattle.std.proofs.Common.{◌∙◌, None, ap, refl, subst, sym}
use Rattle.agent_model.proofs.AttendedLemmas.{first-attended}
use Rattle.agent_model.proofs.FatedLemmas.{first-tied}
use Rattle.agent_model.proofs.JudgedRunLemmas.{first-judged}
use Rattle.agent_model.specs.KeyStates.{KeyState, no_keys}
use Rattle.agent_model.specs.State.{Settings, UnderWay, first_state, nothing_under_way}
use Rattle.agent_core.specs.Bound.{IsCurrent}
use Rattle.agent_core.specs.Parts.{settings_of, state_of}
use Rattle.agent_core.specs.Slots.{MarkedPorts, open_of}
use Rattle.agent_core.proofs.DueLemmas.{first-due}
use Rattle.agent_core.proofs.agent.Agent.new.Goals as goal

pub invariant_of-result : goal.invariant_of-result
invariant_of-result c =
    let settings : Settings = settings_of c.args.settings in
    let first : IsCurrent settings None (first_state settings) = record {
      rest = record { tied = first-tied settings; attended = first-attended settings; judged = first-judged settings; second = refl };
      started = refl;
      next = first-due settings;
    } in
    let of_keys : KeyState → Type 0 = λ v. IsCurrent settings None (state_of 0 v c.new-2.result (open_of c.new-3.result)) in
    let of_going : UnderWay → Type 0 = λ v. IsCurrent settings None (state_of 0 (no_keys settings.life) v (open_of c.new-3.result)) in
    let of_ports : MarkedPorts → Type 0 = λ v. IsCurrent settings None (state_of 0 (no_keys settings.life) (nothing_under_way settings.limits) (open_of v)) in
    subst of_keys (sym c.new.ensures) (subst of_going (sym (c.new-2.ensures ∙ ap nothing_under_way c.limits_of.ensures)) (subst of_ports (sym c.new-3.ensures) first))
