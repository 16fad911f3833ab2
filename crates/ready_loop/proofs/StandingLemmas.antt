-- What stands in the queue or aside, and nowhere twice.
use Rattle.std.proofs.Common.{◌≡◌, ◌∙◌, Bool, true, false, List, [], ◌∷◌, ◌++◌, drop, refl, sym, ap, cond, not, ◌&&◌, ◌||◌}
use Rattle.std.specs.List.{filter}
use Rattle.loop_model.specs.Things.{same_thing, set_of}
use Rattle.loop_model.specs.declared.thing.Thing.{Thing}
use Rattle.loop_model.specs.Aside.{Aside, put_aside, taken_back, things_aside}
use Rattle.loop_model.specs.Queues.{AreApart, dropped}
use Rattle.ready_loop.specs.Standing.{IsFront, IsOnce}
use Rattle.loop_model.proofs.TestLemmas.{alike, and_both, neither, true_false}
use Rattle.loop_model.proofs.ThingLemmas.{false_by, same_thing-refl, same_thing-true}
use Rattle.loop_model.proofs.AsideLemmas.{set_of-append, set_of-filter, set_of-put_aside, set_of-taken_back}
use Rattle.loop_model.proofs.FilterLemmas.{absent-dropped}

-- it doesn't matter which is asked of which
pub same_thing-swapped : (thing other : Thing) → same_thing thing other ≡ same_thing other thing
same_thing-swapped thing other = alike (same_thing thing other) (same_thing other thing) (turned thing other) (turned other thing)
  where
    turned : (a b : Thing) → same_thing a b ≡ true → same_thing b a ≡ true
    turned a b same = ap (same_thing b) (same_thing-true a b same) ∙ same_thing-refl b

-- ---- nothing stands twice

apart_by : (test : Bool) (first : Thing) (things : List Thing) → set_of things first ≡ false
    → AreApart things
    → AreApart (cond test (first ∷ things) things)
apart_by true first things absent apart = (absent, apart)
apart_by false first things absent apart = apart

pub apart-filter : (test : Thing → Bool) (things : List Thing) → AreApart things
    → AreApart (filter test things)
apart-filter test [] apart = tt
apart-filter test (first ∷ things) apart =
    apart_by (test first) first (filter test things)
    (set_of-filter test things first ∙ ap (λ (b : Bool). b && test first) apart.0)
    (apart-filter test things apart.1)

pub apart-more : (thing : Thing) (things : List Thing) → AreApart things
    → set_of things thing ≡ false
    → AreApart (things ++ thing ∷ [])
apart-more thing [] apart absent = (refl, tt)
apart-more thing (first ∷ things) apart absent = (
  set_of-append things (thing ∷ []) first
      ∙ neither (set_of things first) (same_thing thing first || false) apart.0
      (neither (same_thing thing first) false (same_thing-swapped thing first ∙ neither_left (same_thing first thing) (set_of things thing) absent) refl),
  apart-more thing things apart.1 (neither_right (same_thing first thing) (set_of things thing) absent),
)
  where
    neither_left : (a b : Bool) → (a || b) ≡ false → a ≡ false
    neither_left true b none = absurd (cc)
    neither_left false b none = refl

    neither_right : (a b : Bool) → (a || b) ≡ false → b ≡ false
    neither_right true b none = absurd (cc)
    neither_right false b none = none

-- ---- nor in the queue and aside

module _ (queue : List Thing) (aside : Aside) (once : IsOnce queue aside) where
  -- what is aside isn't in the queue
  pub aside-absent : (thing : Thing) → set_of (things_aside aside) thing ≡ true
      → set_of queue thing ≡ false
  aside-absent thing there = false_by (set_of queue thing) (λ also. true_false (set_of (things_aside aside) thing) there (once.either thing also))

  -- with fewer in the queue
  pub once-filter : (test : Thing → Bool) → IsOnce (filter test queue) aside
  once-filter test = record {
    apart = apart-filter test queue once.apart;
    either = λ thing there. once.either thing ((and_both (set_of queue thing) (test thing) (sym (set_of-filter test queue thing) ∙ there)).0);
  }

  -- with one thing less aside
  pub once-taken : (thing : Thing) → IsOnce queue (taken_back thing aside)
  once-taken thing = record {
    apart = once.apart;
    either = λ other there.
        ap (λ (hot : Thing → Bool). hot other) (set_of-taken_back thing aside)
        ∙ and_false (not (same_thing thing other)) (set_of (things_aside aside) other) (once.either other there);
  }
    where
      and_false : (a b : Bool) → b ≡ false → (a && b) ≡ false
      and_false true b none = none
      and_false false b none = refl

  -- with one more in the queue
  pub once-queued : (thing : Thing) → set_of queue thing ≡ false
      → set_of (things_aside aside) thing ≡ false
      → IsOnce (queue ++ thing ∷ []) aside
  once-queued thing absent also = record {
    apart = apart-more thing queue once.apart absent;
    either = λ other there. by_place (set_of queue other) other refl (sym (set_of-append queue (thing ∷ []) other) ∙ there);
  }
    where
      by_place : (before : Bool) (other : Thing) → set_of queue other ≡ before
          → (before || (same_thing thing other || false)) ≡ true → set_of (things_aside aside) other ≡ false
      by_place true other is there = once.either other is
      by_place false other is there =
          ap (set_of (things_aside aside)) (sym (same_thing-true thing other (or_first (same_thing thing other) there))) ∙ also
        where
          or_first : (a : Bool) → (a || false) ≡ true → a ≡ true
          or_first true there = refl
          or_first false there = there

-- a thing that isn't in the queue is set aside
pub once-put : (thing : Thing) (queue : List Thing) (aside : Aside) → IsOnce queue aside
    → set_of queue thing ≡ false → IsOnce queue (put_aside thing aside)
once-put thing queue aside once absent = record {
  apart = once.apart;
  either = λ other there.
      ap (λ (hot : Thing → Bool). hot other) (set_of-put_aside thing aside)
      ∙ neither (same_thing thing other) (set_of (things_aside aside) other)
      (false_by (same_thing thing other) (λ same.
      true_false (set_of queue thing) (ap (set_of queue) (same_thing-true thing other same) ∙ there) absent))
      (once.either other there);
}

-- ---- the front

-- a queue without its front
pub front-dropped : (thing : Thing) (queue : List Thing) → IsFront thing queue → AreApart queue
    → dropped thing queue ≡ drop 1 queue
front-dropped thing [] front apart = absurd front
front-dropped thing (first ∷ queue) front apart =
    ap (λ (b : Bool). cond (not b) (first ∷ dropped thing queue) (dropped thing queue))
    (ap (same_thing thing) front ∙ same_thing-refl thing)
    ∙ absent-dropped thing queue (ap (set_of queue) (sym front) ∙ apart.0)
