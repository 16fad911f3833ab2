-- What is ready and can't be served, set aside under its door or port (ours).
use Rattle.std.specs.Prelude.{ℕ, List, [], ◌∷◌, ◌++◌, ◌==◌, map, not}
use Rattle.std.specs.List.{filter}
use Rattle.world_ports.specs.declared.events.Door.{Door}
use Rattle.lists.specs.Rising.{inserted}
use Rattle.agent_model.specs.State.{State}
use Rattle.loop_model.specs.Servable.{is_servable}
use Rattle.loop_model.specs.Things.{same_door}
use Rattle.loop_model.specs.declared.thing.Thing.{Thing}
use Rattle.loop_model.specs.declared.thing.Thing.TheVariants.{Accept, Read, Write}

-- listeners, ports to read and ports to write to; the numbers of the ports rise
pub record Aside : Type 0 where
  pub doors : List Door
  pub reads : List ℕ
  pub writes : List ℕ

-- all things that are set aside
abbrev pub things_aside : Aside → List Thing
things_aside aside = map Accept aside.doors ++ map Read aside.reads ++ map Write aside.writes

-- what is set aside, with this thing
abbrev pub put_aside : Thing → Aside → Aside
put_aside (Accept door) aside = record aside { doors = aside.doors ++ door ∷ [] }
put_aside (Read port) aside = record aside { reads = inserted port aside.reads }
put_aside (Write port) aside = record aside { writes = inserted port aside.writes }

-- what is set aside, without this thing
abbrev pub taken_back : Thing → Aside → Aside
taken_back (Accept door) aside = record aside { doors = filter (λ other. not (same_door door other)) aside.doors }
taken_back (Read port) aside = record aside { reads = filter (λ other. not (port == other)) aside.reads }
taken_back (Write port) aside = record aside { writes = filter (λ other. not (port == other)) aside.writes }

-- those of the set aside that can't be served in this state
abbrev pub still_aside : State → Aside → Aside
still_aside state aside = record {
  doors = filter (λ door. not (is_servable state (Accept door))) aside.doors;
  reads = filter (λ port. not (is_servable state (Read port))) aside.reads;
  writes = filter (λ port. not (is_servable state (Write port))) aside.writes;
}
