use Rattle.confirm_desk.proofs.SoundLemmas.{IsSound-lose}
use Rattle.confirm_desk.proofs.desk.Desk.lose.Goals as goal

pub invariant_of-self : goal.invariant_of-self
invariant_of-self c =
    rw c.end.ensures.left (IsSound-lose c.args.job c.self.inside.confirmations.items c.self.invariant)
