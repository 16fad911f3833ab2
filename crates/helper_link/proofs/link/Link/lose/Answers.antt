use Rattle.std.proofs.Common.{[], refl}
use Rattle.helper_link.specs.Sound.{link_of}
use Rattle.helper_link.specs.declared.state.LinkState.TheVariants as states
use Rattle.helper_link.proofs.SoundLemmas.{IsSound-gone}
use Rattle.helper_link.proofs.link.Link.lose.Goals as goal

pub invariant_of-self : goal.invariant_of-self
invariant_of-self c =
    rw (c.wipe.ensures, c.wipe-2.ensures, c.replace.ensures.after, c.new-none.ensures.items) (
      IsSound-gone (link_of states.None [] c.self.inside.last [] []
          c.saturating_add-self-inside.result),
      refl,
    )
