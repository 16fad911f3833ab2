use Rattle.confirm_desk.proofs.TellLemmas.{IsSound-took}
use Rattle.confirm_desk.proofs.desk.Desk.took.Goals as goal

pub invariant_of-self : goal.invariant_of-self
invariant_of-self c =
    rw c.take_at.ensures (IsSound-took c.args.port c.args.count c.self.inside.confirmations.items c.self.invariant)
