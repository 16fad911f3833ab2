use Rattle.std.proofs.Common.{rules, ◌≡◌, ◌∙◌, ap, Some, slice_get}
use Rattle.helper_link.specs.HelperLink.{HelperLink, oldest}
use Rattle.helper_link.proofs.OldestLemmas.{oldest_first}
use Rattle.helper_link.proofs.link.Link.oldest.Goals as goal

pub returns-clause-value : goal.returns-clause-value
returns-clause-value c =
    let there : Some c.in_ok-first.first.now ≡ slice_get c.self.inside.asks.items 0 = search rules in
    oldest_first c.in_ok-first.first.now c.self.inside.asks.items c.self.invariant.0.seconds there
    ∙ ap (λ (link : HelperLink). oldest link.asks) c.self.view_is
