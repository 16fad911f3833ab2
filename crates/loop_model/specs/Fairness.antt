-- Who waits while others are served (ours).
use Rattle.std.specs.List.{filter}
use Rattle.std.specs.Option.{option_map_or}
use Rattle.std.specs.Prelude.{◌≡◌, Bool, true, false, List, [], ◌∷◌, ◌++◌, ◌&&◌}
use Rattle.world_ports.specs.declared.events.Job.{Job}
use Rattle.world_ports.specs.declared.entry.Entry.{Entry}
use Rattle.world_ports.specs.declared.entry.Entry.TheVariants as entry
use Rattle.loop_model.specs.Servable.{is_servable}
use Rattle.loop_model.specs.Things.{same_thing, set_of}
use Rattle.loop_model.specs.declared.thing.Thing.{Thing}
use Rattle.loop_model.specs.declared.thing.Thing.TheVariants.{Accept, Read, Write}
use Rattle.loop_model.specs.LegalJournal.{LoopState, after_if_legal, is_first_job}
use Rattle.loop_model.specs.Lines.{hot_of}

-- ---- a service

-- the call serves this thing
abbrev pub is_service : Thing → Entry → Bool
is_service thing (entry.Accept door answer) = same_thing (Accept door) thing
is_service thing (entry.Read port room bytes answer) = same_thing (Read port) thing
is_service thing (entry.Write port offered answer) = same_thing (Write port) thing
is_service thing other = false

-- the call starts the first of these jobs
abbrev pub starts_first : List Job → Entry → Bool
starts_first jobs (entry.Start job answer) = is_first_job job jobs
starts_first jobs other = false

-- this thing, where the list has it
abbrev pub only_if : Bool → Thing → List Thing
only_if true thing = thing ∷ []
only_if false thing = []

-- those of the list that it has yet keep their order, and stand before all others
pub record KeepsOrder (before after : List Thing) : Type 0 where
  pub new : List Thing
  pub order : after ≡ filter (set_of after) before ++ new

-- what was served stood first; those of the others that the list has yet keep their order, and stand before all others;
-- and what was served, where the list has it yet, stands last
pub record GoesRound (thing : Thing) (before after : List Thing) : Type 0 where
  pub others : List Thing
  pub first : before ≡ thing ∷ others
  pub new : List Thing
  pub order : after ≡ (filter (set_of after) others ++ new) ++ only_if (set_of after thing) thing

-- ---- what waits

-- the thing is ready, and can be served
abbrev pub is_waiting : Thing → LoopState → Bool
is_waiting thing reading = hot_of reading.line thing && is_servable reading.state thing

-- the thing is so there, and after each of the entries, as far as the journal reads
abbrev pub waits_on : Thing → LoopState → List Entry → Bool
waits_on thing reading [] = is_waiting thing reading
waits_on thing reading (next ∷ later) =
    is_waiting thing reading
    && option_map_or (λ after. waits_on thing after later) (after_if_legal reading next) true
