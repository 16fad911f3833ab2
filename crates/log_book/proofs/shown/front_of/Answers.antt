use Rattle.std.proofs.Common.{sym, arith}
use Rattle.std.proofs.lemmas.List.{take_all}
use Rattle.log_book.proofs.shown.front_of.Goals as goal

pub returns-then-text-lt-MOST_SHOWN : goal.returns-then-text-lt-MOST_SHOWN
returns-then-text-lt-MOST_SHOWN c = sym (take_all 256 c.args.text.now (omega (arith, c.if-text-lt-MOST_SHOWN.true)))
