use Rattle.std.proofs.Common.{◌≡◌, ◌∙◌, None, Some, ap, sym}
use Rattle.helper_link.specs.HelperLink.{oldest}
use Rattle.agent_model.specs.State.{UnderWay as State}
use Rattle.agent_model.specs.Time.{is_helper_late}
use Rattle.under_way.proofs.TimeLemmas.{none_late, one_late, some_asked}
use Rattle.under_way.proofs.state.UnderWay.is_helper_late.Goals as goal

pub returns-in-Some : goal.returns-in-Some
returns-in-Some c =
    let inside = c.self.inside in
    let some : oldest inside.link.asks ≡ Some c.in-Some.put_at = sym c.oldest.ensures.value ∙ c.in-Some.is in
    record {
      value = c.has_lasted.ensures ∙ one_late inside.limits.ask inside.second c.in-Some.put_at inside.link.asks some ∙ ap is_helper_late c.self.view_is;
      some = λ late none. some_asked inside.link c.in-Some.put_at c.oldest.ensures.sound some (ap (λ (v : State). v.link.state) c.self.view_is ∙ none);
    }

pub returns-in-None : goal.returns-in-None
returns-in-None c =
    let inside = c.self.inside in
    let none : oldest inside.link.asks ≡ None = sym c.oldest.ensures.value ∙ c.in-None.is in
    record {
      value = none_late inside.limits.ask inside.second inside.link.asks none ∙ ap is_helper_late c.self.view_is;
      some = λ late. absurd (cc);
    }
