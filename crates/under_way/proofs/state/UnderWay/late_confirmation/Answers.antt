use Rattle.std.proofs.Common.{rules, ◌≡◌, ◌∙◌, Some, ap, slice_get, sym}
use Rattle.std.specs.Option.{option_map}
use Rattle.lists.specs.Keyed.{NeverFallBy}
use Rattle.confirm_desk.specs.Confirmations.{Confirmation, job_of, second_of}
use Rattle.agent_model.specs.State.{UnderWay as State}
use Rattle.agent_model.specs.Time.{first_late, has_lasted}
use Rattle.under_way.proofs.TimeLemmas.{never_late}
use Rattle.under_way.proofs.state.UnderWay.late_confirmation.Goals as goal

pub returns-else-has_lasted : goal.returns-else-has_lasted
returns-else-has_lasted c =
    let inside = c.self.inside in
    let one : Confirmation = c.in_ok-first.first.now in
    let there : Some one ≡ slice_get inside.desk 0 = search rules in
    let order : NeverFallBy second_of 0 inside.desk = c.as_slice.ensures.sound.seconds in
    let not_yet = ap (λ s. has_lasted inside.limits.confirmation s inside.second) (sym c.raised_at.ensures) ∙ sym c.has_lasted.ensures ∙ c.if-has_lasted.false in
    never_late inside.limits.confirmation inside.second one inside.desk order there not_yet ∙ ap (λ (v : State). option_map job_of (first_late v)) c.self.view_is
