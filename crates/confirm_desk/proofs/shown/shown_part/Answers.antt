use Rattle.std.proofs.Common.{sym, arith}
use Rattle.std.proofs.lemmas.List.{take_all}
use Rattle.confirm_desk.proofs.shown.shown_part.Goals as goal

pub returns-then-name-most : goal.returns-then-name-most
returns-then-name-most c = sym (take_all c.args.most c.args.name.now (omega (arith, c.if-name-most.true)))
