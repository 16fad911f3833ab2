use Rattle.std.proofs.Common.{◌∙◌, List, ℕ, ap, drop, refl, subst, sym}
use Rattle.helper_link.specs.HelperLink.{HelperLink, IsLinked}
use Rattle.helper_link.specs.Settling.{Settling}
use Rattle.helper_link.specs.Sound.{link_of}
use Rattle.helper_link.proofs.SoundLemmas.{IsSound-cleared, IsSound-settled}
use Rattle.helper_link.proofs.link.Link.told.Goals as goal

pub invariant_of-self-in_default : goal.invariant_of-self-in_default
invariant_of-self-in_default c =
    let inside = c.self.inside in
    let old : HelperLink = link_of inside.state inside.asks.items inside.last inside.owed.live
    inside.heard.live inside.faults in
    let is = subst (λ (link : HelperLink). IsLinked link.state) (sym c.self.view_is) c.requires in
    rw (c.clear.ensures.items, c.wipe.ensures) (IsSound-cleared old is, refl)

pub invariant_of-self-2 : goal.invariant_of-self-2
invariant_of-self-2 c =
    let inside = c.self.inside in
    let old : HelperLink = link_of inside.state inside.asks.items inside.last inside.owed.live
    inside.heard.live inside.faults in
    let is = subst (λ (link : HelperLink). IsLinked link.state) (sym c.self.view_is) c.requires in (
      IsSound-settled c.live.result.now c.settle_stream.new.asks.items c.consume.new.self.live old is
          c.self.invariant.0
          (ap (λ (all : Settling). all.asks) c.in-Ok.ensures.settled)
          (ap (λ (all : Settling). all.heard) c.in-Ok.ensures.settled
          ∙ ap (λ (bytes : List ℕ). drop c.in-Ok.end.read bytes) c.live.ensures
          ∙ sym c.consume.ensures.live),
      c.settle_stream.ensures.sum,
    )
