-- A queue of things, in the order in which they are served (ours).
use Rattle.std.specs.Prelude.{◌≡◌, Bool, false, List, [], ◌∷◌, Option, not}
use Rattle.std.specs.List.{filter, find}
use Rattle.std.specs.Option.{option_map_or}
use Rattle.agent_model.specs.State.{State}
use Rattle.loop_model.specs.Servable.{is_servable}
use Rattle.loop_model.specs.Things.{same_thing, set_of}
use Rattle.loop_model.specs.declared.thing.Thing.{Thing}

-- the queue without this thing
abbrev pub dropped : Thing → List Thing → List Thing
dropped thing = filter (λ other. not (same_thing thing other))

-- nothing stands twice in the queue
abbrev pub AreApart : List Thing → Type 0
AreApart [] = Unit {0}
AreApart (thing ∷ things) = (set_of things thing ≡ false) × AreApart things

-- the first thing of the queue that can be served
abbrev pub first_servable : State → List Thing → Option Thing
first_servable state queue = find (is_servable state) queue

-- nothing that can be served stands before this thing
abbrev pub is_next : State → List Thing → Thing → Bool
is_next state queue thing = option_map_or (same_thing thing) (first_servable state queue) false
