use Rattle.std.proofs.Common.{refl}
use Rattle.helper_link.specs.HelperLink.{no_link}
use Rattle.helper_link.proofs.SoundLemmas.{IsSound-gone}
use Rattle.helper_link.proofs.link.Link.new.Goals as goal

pub invariant_of-result : goal.invariant_of-result
invariant_of-result c =
    rw (c.new.ensures.items, c.new-2.ensures, c.new-3.ensures)
    (IsSound-gone no_link, refl)
