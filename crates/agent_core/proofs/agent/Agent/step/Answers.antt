use Rattle.std.proofs.Common.{◌∙◌, ap, subst, sym}
use Rattle.agent_model.specs.Actions.{Stepped}
use Rattle.agent_model.specs.Sound.{IsJudged, IsTied}
use Rattle.agent_model.proofs.FatedLemmas.{step-fated}
use Rattle.agent_model.specs.Asking.{IsAttended}
use Rattle.agent_model.proofs.AttendedLemmas.{step-attended}
use Rattle.agent_model.proofs.JudgedRunLemmas.{step-judged}
use Rattle.agent_core.specs.Happenings.{happening}
use Rattle.agent_core.specs.Parts.{opening, settings_in}
use Rattle.agent_core.proofs.PaceLemmas.{IsPaced, paced-step}
use Rattle.agent_core.proofs.SettingsLemmas.{step-set}
use Rattle.agent_core.proofs.agent.Agent.step.Goals as goal

pub next_due-self-inside-requires : goal.next_due-self-inside-requires
next_due-self-inside-requires c = λ still. c.self.invariant.next ∙ sym (c.in-Ok.ensures.same still)

pub invariant_of-self-2 : goal.invariant_of-self-2
invariant_of-self-2 c =
    let stepped = ap (λ (s : Stepped). s.state) c.in-Ok.ensures.stepped in
    let rest = c.self.invariant.rest in
    let fated = step-fated _ c.args.moment (happening c.args.event.now) rest.tied in
    record {
      rest = record {
        tied = subst IsTied (sym stepped) fated.tied;
        attended = subst IsAttended (sym stepped) (step-attended _ c.args.moment (happening c.args.event.now) rest.tied rest.attended);
        judged = subst IsJudged (sym stepped) (step-judged _ c.args.moment (happening c.args.event.now) rest.tied rest.judged).judged;
        second = subst IsPaced (sym stepped) (paced-step c.self.inside.parts.state c.args.moment (happening c.args.event.now));
      };
      started = c.self.invariant.started ∙ sym (ap settings_in stepped ∙ step-set c.self.inside.parts.state c.args.moment (happening c.args.event.now));
      next = c.next_due-self-inside.ensures;
    }

pub returns-in_default-clause-wiped : goal.returns-in_default-clause-wiped
returns-in_default-clause-wiped c = rw (← c.self.view_is) (c.drop.view_is ∙ c.new.ensures ∙ ap opening c.self.invariant.started)
