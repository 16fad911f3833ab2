use Rattle.std.proofs.Common.{arith, sym}
use Rattle.std.proofs.lemmas.Grind.{common_steps}
use Rattle.key_file.proofs.PartLemmas.{parts-mark, parts-none}
use Rattle.filter_top.proofs.list.Lines.next_line.Goals as goal

pub returns-in-Some : goal.returns-in-Some
returns-in-Some c =
    grind (arith, common_steps, c.self.view_is, parts-mark 10 c.in_ok-rest.rest.now c.in-Some.end (sym c.in-Some.ensures))

pub returns-in-None : goal.returns-in-None
returns-in-None c =
    grind (arith, common_steps, c.self.view_is, parts-none 10 c.in_ok-rest.rest.now (sym c.in-None.ensures))
