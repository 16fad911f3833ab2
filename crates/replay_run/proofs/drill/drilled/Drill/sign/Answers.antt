use Rattle.std.proofs.Common.{ap, sym, ◌∙◌}
use Rattle.replay_run.specs.Drilling.{Kept}
use Rattle.replay_run.proofs.DrillLemmas.{signed_not, signed_some, taken_out}
use Rattle.replay_run.proofs.TallyLemmas.{as_short, put_behind, signed-short}
use Rattle.replay_run.proofs.drill.drilled.Drill.sign.Goals as goal

pub hear-requires : goal.hear-requires
hear-requires c =
    as_short _ _ (c.deref.ensures.value ∙ put_behind _ _ _ c.in_ok-put_signed.ensures c.new-body.ensures.items) (signed-short _ c.args.round)

pub returns-in_default : goal.returns-in_default
returns-in_default c =
    signed_not c.args.moment c.args.round c.args.self.now _
    (sym (ap (λ (k : Kept). k.ask) c.self.view_is) ∙ sym c.in_default.ensures.value)
    (taken_out _ c.args.self.now _ c.self.view_is c.in_default.ensures.after)

pub returns : goal.returns
returns c =
    signed_some c.args.moment c.args.round c.in-Some.ask _ c.args.self.now _ c.hear.new.self
    (sym (ap (λ (k : Kept). k.ask) c.self.view_is) ∙ sym c.in-Some.ensures.value)
    (taken_out _ c.args.self.now _ c.self.view_is c.in-Some.ensures.after)
    (c.deref.ensures.value ∙ put_behind _ _ _ c.in_ok-put_signed.ensures c.new-body.ensures.items) c.in_ok-hear.ensures.heard
