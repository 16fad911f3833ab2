-- Things that can be served, and sets of them (ours). A set is a test, so that no order is in it.
use Rattle.std.specs.Prelude.{Bool, true, false, List, [], ◌∷◌, ◌==◌, ◌||◌}
use Rattle.world_ports.specs.declared.events.Door.{Door}
use Rattle.world_ports.specs.declared.events.Door.TheVariants.{Clients, Children}
use Rattle.loop_model.specs.declared.thing.Thing.{Thing}
use Rattle.loop_model.specs.declared.thing.Thing.TheVariants.{Accept, Read, Write}

-- both are the same listener
abbrev pub same_door : Door → Door → Bool
same_door Clients Clients = true
same_door Children Children = true
same_door door other = false

-- both are the same thing
abbrev pub same_thing : Thing → Thing → Bool
same_thing (Accept door) (Accept other) = same_door door other
same_thing (Read port) (Read other) = port == other
same_thing (Write port) (Write other) = port == other
same_thing thing other = false

-- the set of what stands in a list
abbrev pub set_of : List Thing → Thing → Bool
set_of [] other = false
set_of (thing ∷ things) other = same_thing thing other || set_of things other
