-- Who waits while others are served by `serve` (ours): `ServesFairly`. From here on down:
--   ready_loop, specs/Serving.antt: how far a run of the loop is, by its calls
--   loop_model, specs/Fairness.antt: which call serves a thing, and what waits
use Rattle.std.specs.Prelude.{◌≡◌, true, false, List, [], ◌∷◌, ◌++◌, Option, Some}
use Rattle.std.specs.List.{list_any}
use Rattle.world_ports.specs.Journal.{Grows}
use Rattle.world_ports.specs.declared.entry.Entry.{Entry}
use Rattle.agent_model.specs.State.{starts}
use Rattle.loop_model.specs.Dues.{is_free}
use Rattle.loop_model.specs.Fairness.{is_service, starts_first, waits_on}
use Rattle.loop_model.specs.LegalJournal.{LoopState}
use Rattle.loop_model.specs.Servable.{has_job}
use Rattle.loop_model.specs.Things.{same_thing}
use Rattle.loop_model.specs.declared.thing.Thing.{Thing}
use Rattle.ready_loop.specs.Serving.{Setting, Stage, Unbound, Running, ran}

-- between two services of one thing each other thing is served that is ready and can be served all the while
abbrev pub ServesEach : Setting → List Entry → Type 0
ServesEach setting calls = (thing other : Thing) (before between after : List Entry) (first last : Entry) (reading : LoopState)
    → calls ≡ before ++ first ∷ (between ++ last ∷ after)
    → is_service thing first ≡ true → is_service thing last ≡ true → same_thing thing other ≡ false
    → ran setting Unbound (before ++ first ∷ []) ≡ Some (Running reading)
    → waits_on other reading between ≡ true → list_any (is_service other) between ≡ true

-- wherever a job waits to be started and any call may come, the next call starts the first of the jobs
abbrev pub StartsFirst : Setting → List Entry → Type 0
StartsFirst setting calls = (before after : List Entry) (next : Entry) (reading : LoopState)
    → calls ≡ before ++ next ∷ after → ran setting Unbound before ≡ Some (Running reading)
    → is_free reading.due ≡ true → has_job (starts reading.state) ≡ true
    → starts_first (starts reading.state) next ≡ true

-- nobody waits while others are served, and no job while anybody is
pub record IsFair (setting : Setting) (calls : List Entry) : Type 0 where
  pub each : ServesEach setting calls
  pub jobs : StartsFirst setting calls

-- the calls that were added are fair, from the start of the loop on
abbrev pub ServesFairly : Setting → Option (List Entry) → Option (List Entry) → Type 0
ServesFairly setting old new = (calls : List Entry) (to : Stage) → Grows old new calls
    → ran setting Unbound calls ≡ Some to → IsFair setting calls
