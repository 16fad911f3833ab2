use Rattle.confirm_desk.proofs.SoundLemmas.{IsSound-linked}
use Rattle.confirm_desk.proofs.desk.Desk.linked.Goals as goal

pub invariant_of-self : goal.invariant_of-self
invariant_of-self c =
    rw c.link.ensures (IsSound-linked c.args.job c.args.port c.self.inside.confirmations.items
    (rw c.self.view_is c.requires.free) c.self.invariant)
