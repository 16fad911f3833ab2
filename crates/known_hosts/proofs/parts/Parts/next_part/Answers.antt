use Rattle.std.proofs.Common.{arith, sym}
use Rattle.std.proofs.lemmas.Grind.{common_steps}
use Rattle.known_hosts.proofs.PartLemmas.{parts-mark, parts-none}
use Rattle.known_hosts.proofs.parts.Parts.next_part.Goals as goal

pub returns-in-Some : goal.returns-in-Some
returns-in-Some c =
    grind (arith, common_steps, c.self.view_is, parts-mark c.self.inside.mark c.in_ok-rest.rest.now c.in-Some.end (sym c.in-Some.ensures))

pub returns-in-None : goal.returns-in-None
returns-in-None c =
    grind (arith, common_steps, c.self.view_is, parts-none c.self.inside.mark c.in_ok-rest.rest.now (sym c.in-None.ensures))
