-- The queue is what is said to stand there, as things come and go.
use Rattle.std.proofs.Common.{◌≡◌, ◌∙◌, ℕ, Bool, true, false, List, [], ◌∷◌, ◌++◌, Some, cond, drop, refl, sym, ap, subst, not, ◌&&◌, ◌||◌, if◌then◌else◌}
use Rattle.agent_model.specs.State.{State}
use Rattle.loop_model.specs.Aside.{Aside, put_aside, taken_back, things_aside}
use Rattle.loop_model.specs.Lines.{Line, hot_of, placed, returned}
use Rattle.loop_model.specs.Queues.{dropped}
use Rattle.loop_model.specs.Servable.{is_servable}
use Rattle.loop_model.specs.Things.{same_thing, set_of}
use Rattle.loop_model.specs.declared.thing.Thing.{Thing}
use Rattle.loop_model.specs.declared.thing.Thing.TheVariants.{Read, Write}
use Rattle.loop_model.proofs.AheadLemmas.{gone_at}
use Rattle.loop_model.proofs.AsideLemmas.{same_sets, set_of-append, set_of-dropped, set_of-put_aside, set_of-taken_back}
use Rattle.loop_model.proofs.RoundLemmas.{stands_able}
use Rattle.loop_model.proofs.TestLemmas.{or_left}
use Rattle.loop_model.proofs.ThingLemmas.{cooled, heated, same_thing-refl}
use Rattle.ready_loop.specs.Marks.{IsMarked, Standings, forgotten, stood}
use Rattle.ready_loop.specs.Standing.{IsFront, IsOnce, listed_last}
use Rattle.ready_loop.specs.declared.marks.Standing.TheVariants as at
use Rattle.loop_model.proofs.FilterLemmas.{absent-dropped}
use Rattle.ready_loop.proofs.FilterLemmas.{absent-taken}
use Rattle.ready_loop.proofs.LineLemmas.{cold-both}
use Rattle.ready_loop.proofs.StandingLemmas.{front-dropped, once-filter, once-put, once-queued, once-taken, same_thing-swapped}

set_of-more : (thing : Thing) (queue : List Thing)
    → set_of (queue ++ thing ∷ []) ≡ heated thing (set_of queue)
set_of-more thing queue = same_sets (set_of (queue ++ thing ∷ [])) (heated thing (set_of queue)) (λ other.
    set_of-append queue (thing ∷ []) other ∙ swapped (set_of queue other) (same_thing thing other))
  where
    swapped : (there here : Bool) → (there || (here || false)) ≡ (here || there)
    swapped true true = refl
    swapped true false = refl
    swapped false true = refl
    swapped false false = refl

-- what isn't ready, or was set aside, isn't aside any more
taken-absent : (thing : Thing) (aside : Aside)
    → set_of (things_aside (taken_back thing aside)) thing ≡ false
taken-absent thing aside =
    ap (λ (hot : Thing → Bool). hot thing) (set_of-taken_back thing aside)
    ∙ ap (λ (b : Bool). not b && set_of (things_aside aside) thing) (same_thing-refl thing)

module _ (thing : Thing) (queue : List Thing) (standings : Standings) (is : IsMarked queue standings) where
  -- a thing that wasn't there stands last
  pub marked-last : set_of queue thing ≡ false
      → IsMarked (queue ++ thing ∷ []) (stood thing at.Listed standings)
  marked-last absent = record {
    once = once-queued queue (taken_back thing standings.aside) (once-taken queue standings.aside is.once thing) thing absent
        (taken-absent thing standings.aside);
    listed = set_of-put_aside thing standings.listed ∙ ap (heated thing) is.listed ∙ sym (set_of-more thing queue);
  }

  -- a thing is gone
  pub marked-dropped : IsMarked (dropped thing queue) (stood thing at.Neither standings)
  marked-dropped = record {
    once = once-taken (dropped thing queue) standings.aside
        (once-filter queue standings.aside is.once (λ other. not (same_thing thing other))) thing;
    listed = set_of-taken_back thing standings.listed ∙ ap (cooled thing) is.listed ∙ sym (set_of-dropped thing queue);
  }

  -- a thing is set aside
  pub marked-aside : IsMarked (dropped thing queue) (stood thing at.Aside standings)
  marked-aside = record {
    once = once-put thing (dropped thing queue) standings.aside
        (once-filter queue standings.aside is.once (λ other. not (same_thing thing other))) (gone_at thing queue);
    listed = set_of-taken_back thing standings.listed ∙ ap (cooled thing) is.listed ∙ sym (set_of-dropped thing queue);
  }

  -- one that wasn't in the list
  pub marked-put : set_of queue thing ≡ false → IsMarked queue (stood thing at.Aside standings)
  marked-put absent =
      subst (λ (things : List Thing). IsMarked things (stood thing at.Aside standings)) (absent-dropped thing queue absent) marked-aside

  -- the front is in hand
  pub marked-front : (left : List Thing) → IsFront thing queue → left ≡ drop 1 queue
      → IsMarked left (stood thing at.Neither standings)
  marked-front left front rest =
      subst (λ (things : List Thing). IsMarked things (stood thing at.Neither standings))
      (front-dropped thing queue front is.once.apart ∙ sym rest) marked-dropped

-- a thing that stands last is taken out again
dropped-last : (thing : Thing) (queue : List Thing) → set_of queue thing ≡ false
    → dropped thing (queue ++ thing ∷ []) ≡ queue
dropped-last thing [] absent =
    ap (λ (b : Bool). cond (not b) (thing ∷ []) []) (same_thing-refl thing)
dropped-last thing (first ∷ queue) absent =
    let apart = or_none (same_thing first thing) (set_of queue thing) absent in
    ap (λ (b : Bool). cond (not b) (first ∷ dropped thing (queue ++ thing ∷ [])) (dropped thing (queue ++ thing ∷ [])))
    (same_thing-swapped thing first ∙ apart.0)
    ∙ ap (λ (things : List Thing). first ∷ things) (dropped-last thing queue apart.1)
  where
    or_none : (a b : Bool) → (a || b) ≡ false → (a ≡ false) × (b ≡ false)
    or_none true b none = absurd (cc)
    or_none false b none = (refl, none)

-- where memory ran out
pub marked-undone : (thing : Thing) (queue : List Thing) (standings : Standings)
    → IsMarked queue standings
    → set_of queue thing ≡ false → IsMarked queue (stood thing at.Neither (stood thing at.Listed standings))
marked-undone thing queue standings is absent =
    subst (λ (things : List Thing). IsMarked things (stood thing at.Neither (stood thing at.Listed standings)))
    (dropped-last thing queue absent)
    (marked-dropped thing (queue ++ thing ∷ []) (stood thing at.Listed standings) (marked-last thing queue standings is absent))

-- a port was closed
pub marked-forgotten : (port : ℕ) (queue : List Thing) (standings : Standings)
    → IsMarked queue standings
    → IsMarked (dropped (Write port) (dropped (Read port) queue)) (forgotten port standings)
marked-forgotten port queue standings is =
    marked-dropped (Write port) (dropped (Read port) queue) (stood (Read port) at.Neither standings)
    (marked-dropped (Read port) queue standings is)

-- the front isn't aside
pub front-apart : (thing : Thing) (queue : List Thing) (aside : Aside) → IsOnce queue aside
    → IsFront thing queue
    → set_of (things_aside aside) thing ≡ false
front-apart thing [] aside once front = absurd front
front-apart thing (first ∷ queue) aside once front =
    once.either thing (or_left (same_thing first thing) (set_of queue thing) (ap (same_thing first) (sym front) ∙ same_thing-refl first))

-- ---- the line

-- what can be served stands last
module _ (state : State) (thing : Thing) (line : Line) (cold : hot_of line thing ≡ false) where
  pub listed-placed : is_servable state thing ≡ true
      → listed_last thing line ≡ placed state thing line
  listed-placed able =
      ap (λ (aside : Aside). record line { queue = line.queue ++ thing ∷ []; aside = aside })
      (absent-taken thing line.aside (cold-both thing line cold).1)
      ∙ sym (ap (λ (b : Bool). if b then record line { queue = line.queue ++ thing ∷ [] } else record line { aside = put_aside thing line.aside }) able)

  pub listed-returned : is_servable state thing ≡ true
      → listed_last thing line ≡ returned state (Some thing) line
  listed-returned able =
      listed-placed able ∙ sym (ap (λ (b : Bool). if b then placed state thing line else line) (stands_able state thing able))

-- what is ready by the standings is ready
pub marked-hot : (thing : Thing) (queue : List Thing) (standings : Standings)
    → IsMarked queue standings
    → (set_of (things_aside standings.listed) thing || set_of (things_aside standings.aside) thing)
    ≡ set_of (queue ++ things_aside standings.aside) thing
marked-hot thing queue standings is =
    ap (λ (hot : Thing → Bool). hot thing || set_of (things_aside standings.aside) thing) is.listed
    ∙ sym (set_of-append queue (things_aside standings.aside) thing)
