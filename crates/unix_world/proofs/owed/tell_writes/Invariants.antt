use Rattle.std.proofs.Common.{◌≡◌, ◌++◌, drop, map}
use Rattle.world_ports.specs.declared.answers.Spot.TheVariants.{Port}
use Rattle.unix_world.specs.Rounds.{writable_at}
use Rattle.unix_world.proofs.owed.tell_writes.Given as goal

-- what is told, and then the ports that are left, is what was told and then all of them
abbrev pub invariant-loop-port : goal.invariant-loop-port
invariant-loop-port l =
    l.out.items ++ map (λ port. writable_at (Port port)) (drop l.port-index l.ports)
    ≡ l.fn.out.items ++ map (λ port. writable_at (Port port)) l.ports
