use Rattle.std.proofs.Common.{[], refl, arith}
use Rattle.wire_text.specs.Bounds.{longest_body}
use Rattle.wire_text.proofs.FrontLemmas.{front-short}
use Rattle.confirm_desk.specs.Calls.{held_of}
use Rattle.confirm_desk.specs.Confirmations.{confirmation_of}
use Rattle.confirm_desk.proofs.SoundLemmas.{IsSound-append}
use Rattle.confirm_desk.proofs.desk.Desk.raise.Goals as goal

pub invariant_of-self-2 : goal.invariant_of-self-2
invariant_of-self-2 c =
    rw (c.in_ok-push.ensures.items, c.in_ok-one.ensures)
    (IsSound-append c.self.inside.confirmations.items (confirmation_of c.args.job (held_of c.args.held) c.args.prompt.now c.args.now)
    (omega (arith, c.if-len-ge-MAX_CONFIRMATIONS.false, c.len.ensures)) (rw c.self.view_is c.requires.job) (rw c.self.view_is c.requires.asker)
    (rw c.self.view_is c.requires.later) refl (front-short longest_body [] (omega arith)) c.self.invariant)
