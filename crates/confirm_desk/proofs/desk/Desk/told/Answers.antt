use Rattle.confirm_desk.proofs.TellLemmas.{told_sound}
use Rattle.confirm_desk.proofs.desk.Desk.told.Goals as goal

pub invariant_of-self : goal.invariant_of-self
invariant_of-self c =
    told_sound c.tell.result c.args.port c.args.piece.now c.self.inside.confirmations.items c.tell.new.pending.items
    c.tell.ensures.desk c.tell.ensures.unchanged c.self.invariant
