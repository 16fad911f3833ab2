-- What becomes of a line as things are served, become ready or are set aside.
use Rattle.std.proofs.Common.{◌≡◌, ◌∙◌, Bool, true, false, List, [], ◌∷◌, Some, drop, refl, sym, ap, ◌||◌, if◌then◌else◌}
use Rattle.agent_model.specs.State.{State}
use Rattle.loop_model.specs.Things.{same_thing, set_of}
use Rattle.loop_model.specs.declared.thing.Thing.{Thing}
use Rattle.loop_model.specs.Aside.{things_aside}
use Rattle.loop_model.specs.Lines.{IsListed, Line, hot_of, in_hand}
use Rattle.loop_model.specs.Queues.{AreApart, first_servable}
use Rattle.ready_loop.specs.Standing.{IsFront, front_of}
use Rattle.loop_model.proofs.ThingLemmas.{same_thing-refl}
use Rattle.loop_model.proofs.AsideLemmas.{set_of-append}
use Rattle.loop_model.proofs.TestLemmas.{or_left}
use Rattle.ready_loop.proofs.StandingLemmas.{front-dropped}

-- ---- a line changes

-- the front is in hand
pub front-in_hand : (thing : Thing) (line : Line) (left : List Thing) → IsFront thing line.queue
    → AreApart line.queue → left ≡ drop 1 line.queue → record line { queue = left } ≡ in_hand thing line
front-in_hand thing line left front apart is =
    ap (λ (things : List Thing). record line { queue = things })
    (is ∙ sym (front-dropped thing line.queue front apart))

-- what isn't ready is in neither
pub cold-both : (thing : Thing) (line : Line) → hot_of line thing ≡ false
    → (set_of line.queue thing ≡ false) × (set_of (things_aside line.aside) thing ≡ false)
cold-both thing line cold =
    both (set_of line.queue thing) (set_of (things_aside line.aside) thing) (sym (set_of-append line.queue (things_aside line.aside) thing) ∙ cold)
  where
    both : (a b : Bool) → (a || b) ≡ false → (a ≡ false) × (b ≡ false)
    both true b none = absurd (cc)
    both false b none = (refl, none)

-- ---- the front

-- the first that can be served of a list in which all can is its front
pub front-first : (state : State) (queue : List Thing) (thing : Thing) → IsListed state queue
    → Some thing ≡ front_of queue → first_servable state queue ≡ Some thing
front-first state [] thing listed front = absurd (cc)
front-first state (first ∷ queue) thing listed front =
    ap (λ (b : Bool). if b then Some first else first_servable state queue)
    (listed first (or_left (same_thing first first) (set_of queue first) (same_thing-refl first)))
    ∙ sym front

pub first-front : (state : State) (queue : List Thing) (thing : Thing) → IsListed state queue
    → first_servable state queue ≡ Some thing → IsFront thing queue
first-front state [] thing listed found = absurd (cc)
first-front state (first ∷ queue) thing listed found =
    let is : first_servable state (first ∷ queue) ≡ Some first =
    ap (λ (b : Bool). if b then Some first else first_servable state queue)
    (listed first (or_left (same_thing first first) (set_of queue first) (same_thing-refl first))) in
    let same : Some first ≡ Some thing = sym is ∙ found in cc
