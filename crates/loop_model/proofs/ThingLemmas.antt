-- When two things are the same.
use Rattle.std.proofs.Common.{◌≡◌, true, refl, ap, not, ◌&&◌, ◌||◌, Bool}
use Rattle.std.proofs.lemmas.Bool.Decides.{Decides-eqb}
use Rattle.world_ports.specs.declared.events.Door.TheVariants.{Clients, Children}
use Rattle.loop_model.specs.Things.{same_thing}
use Rattle.loop_model.specs.declared.thing.Thing.{Thing}
use Rattle.loop_model.specs.declared.thing.Thing.TheVariants.{Accept, Read, Write}
pub use Rattle.std.proofs.lemmas.Bool.{false_from_ne_true as false_by}

-- a set with this thing
abbrev pub heated : Thing → (Thing → Bool) → Thing → Bool
heated thing hot other = same_thing thing other || hot other

-- without it
abbrev pub cooled : Thing → (Thing → Bool) → Thing → Bool
cooled thing hot other = not (same_thing thing other) && hot other

-- a thing is the same as itself
pub same_thing-refl : (thing : Thing) → same_thing thing thing ≡ true
same_thing-refl (Accept Clients) = refl
same_thing-refl (Accept Children) = refl
same_thing-refl (Read port) = (Decides-eqb port port).1 refl
same_thing-refl (Write port) = (Decides-eqb port port).1 refl

-- things that are the same are equal
pub same_thing-true : (thing other : Thing) → same_thing thing other ≡ true → thing ≡ other
same_thing-true (Accept Clients) (Accept Clients) same = refl
same_thing-true (Accept Clients) (Accept Children) same = cc
same_thing-true (Accept Children) (Accept Clients) same = cc
same_thing-true (Accept Children) (Accept Children) same = refl
same_thing-true (Accept door) (Read other) same = cc
same_thing-true (Accept door) (Write other) same = cc
same_thing-true (Read port) (Accept other) same = cc
same_thing-true (Read port) (Read other) same = ap Read ((Decides-eqb port other).0 same)
same_thing-true (Read port) (Write other) same = cc
same_thing-true (Write port) (Accept other) same = cc
same_thing-true (Write port) (Read other) same = cc
same_thing-true (Write port) (Write other) same = ap Write ((Decides-eqb port other).0 same)
