use Rattle.std.proofs.Common.{arith}
use Rattle.std.proofs.lemmas.Bool.Decides.{nat_tests}
use Rattle.agent_core.proofs.PlaceLemmas.{port_there}
use Rattle.agent_core.proofs.places.is_at.Goals as goal

pub returns-in-Some : goal.returns-in-Some
returns-in-Some c = λ same. port_there _ c.args.number _ c.args.place c.in-Some.slot.now c.in-Some.ensures.lookup.3.0 c.in-Some.ensures.lookup.3.1 (grind (arith, nat_tests, same)) c.requires
