use Rattle.std.proofs.Common.{◌≡◌, ◌∙◌, List, ap, subst, sym}
use Rattle.confirm_desk.specs.Confirmations.{Confirmation}
use Rattle.agent_model.specs.State.{UnderWay as State}
use Rattle.under_way.specs.Parts.{IsKept, IsShortIn, confirmer_told, under_way_of}
use Rattle.under_way.specs.Times.{limits_of}
use Rattle.under_way.proofs.KeepLemmas.{keeps-told, told-short, told-view}
use Rattle.under_way.proofs.state.UnderWay.confirmer_told.Goals as goal

pub invariant_of-self-2 : goal.invariant_of-self-2
invariant_of-self-2 c =
    let inside = c.self.inside in
    let u : State = under_way_of inside.link inside.to_start.items inside.started.items inside.verifications.items inside.desk inside.last_job (limits_of inside.limits) inside.second in
    let is : record u { confirmations = c.told.new.self } ≡ confirmer_told c.args.port c.args.piece.now u =
    ap (λ (desk : List Confirmation). record u { confirmations = desk }) c.in_ok-told.ensures.desk ∙ told-view u c.args.port c.args.piece.now c.self.invariant.0 in
    (subst IsKept (sym is) (keeps-told u c.args.port c.args.piece.now c.self.invariant.0), c.self.invariant.1)

pub returns-clause-under_way : goal.returns-clause-under_way
returns-clause-under_way c =
    let inside = c.self.inside in
    let u : State = under_way_of inside.link inside.to_start.items inside.started.items inside.verifications.items inside.desk inside.last_job (limits_of inside.limits) inside.second in
    ap (λ (desk : List Confirmation). record u { confirmations = desk }) c.in_ok-told.ensures.desk
    ∙ told-view u c.args.port c.args.piece.now c.self.invariant.0
    ∙ ap (confirmer_told c.args.port c.args.piece.now) c.self.view_is

pub returns-clause-short : goal.returns-clause-short
returns-clause-short c =
    let inside = c.self.inside in
    let u : State = under_way_of inside.link inside.to_start.items inside.started.items inside.verifications.items inside.desk inside.last_job (limits_of inside.limits) inside.second in
    subst IsShortIn (sym c.in_ok-told.ensures.verdict) (told-short u c.args.port c.args.piece.now c.self.invariant.0)
