-- What was served is in hand: it isn't ready until its event has happened.
use Rattle.std.proofs.Common.{◌≡◌, ◌∙◌, inl, inr, ℕ, Bool, true, false, List, [], ◌∷◌, ◌++◌, Option, Some, None, refl, sym, ap, not, ◌&&◌, ◌||◌, if◌then◌else◌}
use Rattle.std.specs.List.{filter}
use Rattle.world_ports.specs.declared.events.Door.{Door}
use Rattle.agent_model.specs.State.{State}
use Rattle.loop_model.specs.Aside.{Aside, put_aside, taken_back, things_aside}
use Rattle.loop_model.specs.Lines.{IsOrdered, Line, all_aside, gone_aside, hot_of, in_hand, is_stuck, placed, queued, queued_port, recalled, settled}
use Rattle.loop_model.specs.Elsewhere.{stands}
use Rattle.loop_model.specs.Servable.{is_servable}
use Rattle.loop_model.specs.Things.{same_thing, set_of}
use Rattle.loop_model.specs.declared.thing.Thing.{Thing}
use Rattle.loop_model.specs.declared.thing.Thing.TheVariants.{Accept, Read, Write}
use Rattle.loop_model.proofs.AheadLemmas.{gone_at}
use Rattle.loop_model.proofs.AsideLemmas.{set_of-append, set_of-filter, set_of-put_aside, set_of-taken_back}
use Rattle.loop_model.proofs.BackLemmas.{calls-recalled}
use Rattle.loop_model.proofs.TestLemmas.{and_both, neither, or_either, or_left, or_right, true_false}
use Rattle.loop_model.proofs.ThingLemmas.{false_by}
use Rattle.ready_loop.specs.Standing.{IsCold, IsStirred}

-- ---- what is ready

pub hot-parts : (thing : Thing) (line : Line) → hot_of line thing
    ≡ (set_of line.queue thing || set_of (things_aside line.aside) thing)
hot-parts thing line = set_of-append line.queue (things_aside line.aside) thing

-- what isn't ready isn't where only what was ready is
cold-less : (before after : Line) (thing : Thing)
    → (hot_of after thing ≡ true → hot_of before thing ≡ true) → hot_of before thing ≡ false
    → hot_of after thing ≡ false
cold-less before after thing less cold =
    false_by (hot_of after thing) (λ hot. true_false (hot_of before thing) (less hot) cold)

-- what is in hand isn't ready
pub cold-in_hand : (state : State) (line : Line) (thing : Thing) → IsOrdered state line
    → is_servable state thing ≡ true → hot_of (in_hand thing line) thing ≡ false
cold-in_hand state line thing ordered able =
    hot-parts thing (in_hand thing line)
    ∙ ap (λ (b : Bool). b || set_of (things_aside line.aside) thing) (gone_at thing line.queue)
    ∙ false_by (set_of (things_aside line.aside) thing)
    (λ there. true_false (is_servable state thing) able (ordered.quiet thing there))

-- nor is it where another thing becomes ready
cold_placed : (able : Bool) (thing other : Thing) (line : Line) → same_thing other thing ≡ false
    → hot_of line thing ≡ false
    → hot_of (if able then record line { queue = line.queue ++ other ∷ [] } else record line { aside = put_aside other line.aside }) thing ≡ false
cold_placed true thing other line apart cold =
    let both = parts_of (set_of line.queue thing) (set_of (things_aside line.aside) thing) (sym (hot-parts thing line) ∙ cold) in
    hot-parts thing (record line { queue = line.queue ++ other ∷ [] })
    ∙ neither (set_of (line.queue ++ other ∷ []) thing) (set_of (things_aside line.aside) thing)
    (set_of-append line.queue (other ∷ []) thing
    ∙ neither (set_of line.queue thing) (same_thing other thing || false) both.0 (neither (same_thing other thing) false apart refl))
    both.1
  where
    parts_of : (a b : Bool) → (a || b) ≡ false → (a ≡ false) × (b ≡ false)
    parts_of true b none = absurd (true_false true refl none)
    parts_of false b none = (refl, none)
cold_placed false thing other line apart cold =
    let both = parts_of (set_of line.queue thing) (set_of (things_aside line.aside) thing) (sym (hot-parts thing line) ∙ cold) in
    hot-parts thing (record line { aside = put_aside other line.aside })
    ∙ neither (set_of line.queue thing) (set_of (things_aside (put_aside other line.aside)) thing) both.0
    (ap (λ (hot : Thing → Bool). hot thing) (set_of-put_aside other line.aside)
    ∙ neither (same_thing other thing) (set_of (things_aside line.aside) thing) apart both.1)
  where
    parts_of : (a b : Bool) → (a || b) ≡ false → (a ≡ false) × (b ≡ false)
    parts_of true b none = absurd (true_false true refl none)
    parts_of false b none = (refl, none)

cold-queued : (state : State) (thing other : Thing) (line : Line) → same_thing other thing ≡ false
    → hot_of line thing ≡ false → hot_of (queued state other line) thing ≡ false
cold-queued state thing other line apart cold = by_test (hot_of line other)
  where
    by_test : (there : Bool)
        → hot_of (if there then line else placed state other line) thing ≡ false
    by_test true = cold
    by_test false = cold_placed (is_servable state other) thing other line apart cold

pub cold-queued_port : (state : State) (port : ℕ) (door : Door) (line : Line)
    → hot_of line (Accept door) ≡ false
    → hot_of (queued_port state port line) (Accept door) ≡ false
cold-queued_port state port door line cold =
    cold-queued state (Accept door) (Write port) (queued state (Read port) line) refl
    (cold-queued state (Accept door) (Read port) line refl cold)

-- ---- what an event sets aside

gone-less : (ports : List ℕ) (aside : Aside) (thing : Thing)
    → set_of (things_aside (gone_aside ports aside)) thing ≡ true → set_of (things_aside aside) thing ≡ true
gone-less [] aside thing there = there
gone-less (port ∷ ports) aside thing there =
    let mid = taken_back (Read port) aside in
    let more = gone-less ports (taken_back (Write port) mid) thing there in
    let once = (and_both (not (same_thing (Write port) thing)) (set_of (things_aside mid) thing)
    (sym (ap (λ (hot : Thing → Bool). hot thing) (set_of-taken_back (Write port) mid)) ∙ more)).1 in
    (and_both (not (same_thing (Read port) thing)) (set_of (things_aside aside) thing)
    (sym (ap (λ (hot : Thing → Bool). hot thing) (set_of-taken_back (Read port) aside)) ∙ once)).1

all-either : (things : List Thing) (aside : Aside) (thing : Thing)
    → set_of (things_aside (all_aside things aside)) thing ≡ true
    → (set_of things thing || set_of (things_aside aside) thing) ≡ true
all-either [] aside thing there = there
all-either (first ∷ things) aside thing there =
    swapped (set_of things thing) (same_thing first thing) (set_of (things_aside aside) thing)
    (ap (λ (b : Bool). set_of things thing || b) (sym (ap (λ (hot : Thing → Bool). hot thing) (set_of-put_aside first aside)))
    ∙ all-either things (put_aside first aside) thing there)
  where
    swapped : (a b c : Bool) → (a || (b || c)) ≡ true → ((b || a) || c) ≡ true
    swapped true true c is = refl
    swapped true false c is = refl
    swapped false true c is = refl
    swapped false false c is = is

-- what is set aside then was aside, or is stuck
settled-either : (state : State) (closes : List ℕ) (line : Line) (thing : Thing)
    → set_of (things_aside (settled state closes line).aside) thing ≡ true
    → ((set_of line.queue thing && is_stuck state thing) || set_of (things_aside line.aside) thing) ≡ true
settled-either state closes line thing there =
    ap (λ (b : Bool). b || set_of (things_aside line.aside) thing) (sym (set_of-filter (is_stuck state) line.queue thing))
    ∙ all-either (filter (is_stuck state) line.queue) line.aside thing
    (gone-less closes (all_aside (filter (is_stuck state) line.queue) line.aside) thing there)

cold-settled : (state : State) (closes : List ℕ) (line : Line) (thing : Thing)
    → hot_of line thing ≡ false
    → hot_of (settled state closes line) thing ≡ false
cold-settled state closes line thing = cold-less line (settled state closes line) thing (λ hot.
    hot-parts thing line
    ∙ elim (or_either (set_of (settled state closes line).queue thing) (set_of (things_aside (settled state closes line).aside) thing)
    (sym (hot-parts thing (settled state closes line)) ∙ hot)) [
      | inl here ↦ or_left (set_of line.queue thing) (set_of (things_aside line.aside) thing)
          (and_both (set_of line.queue thing) (is_servable state thing) (sym (set_of-filter (is_servable state) line.queue thing) ∙ here)).0
      | inr there ↦ elim (or_either (set_of line.queue thing && is_stuck state thing) (set_of (things_aside line.aside) thing)
          (settled-either state closes line thing there)) [
            | inl stuck ↦ or_left (set_of line.queue thing) (set_of (things_aside line.aside) thing)
                (and_both (set_of line.queue thing) (is_stuck state thing) stuck).0
            | inr before ↦ or_right (set_of line.queue thing) (set_of (things_aside line.aside) thing) before
          ]
    ])

cold-recalled : (state : State) (own : Option ℕ) (line : Line) (thing : Thing)
    → hot_of line thing ≡ false
    → hot_of (recalled state own line) thing ≡ false
cold-recalled state own line thing = cold-less line (recalled state own line) thing (λ hot.
    let calls = calls-recalled state own line in
    hot-parts thing line
    ∙ elim (or_either (set_of (recalled state own line).queue thing) (set_of (things_aside (recalled state own line).aside) thing)
    (sym (hot-parts thing (recalled state own line)) ∙ hot)) [
      | inl here ↦ elim (or_either (set_of line.queue thing) (set_of calls.back.more thing)
          (sym (set_of-append line.queue calls.back.more thing) ∙ ap (λ (ts : List Thing). set_of ts thing) (sym calls.back.behind) ∙ here)) [
            | inl before ↦ or_left (set_of line.queue thing) (set_of (things_aside line.aside) thing) before
            | inr back ↦ or_right (set_of line.queue thing) (set_of (things_aside line.aside) thing) (calls.back.back thing back).0
          ]
      | inr there ↦ or_right (set_of line.queue thing) (set_of (things_aside line.aside) thing) (calls.left thing there)
    ])

-- what was served isn't ready before it is put back
pub cold-back : (state : State) (closes : List ℕ) (own : Option ℕ) (hand : Option Thing) (line : Line)
    → IsCold hand line
    → IsCold hand (recalled state own (settled state closes line))
cold-back state closes own None line cold = tt
cold-back state closes own (Some thing) line cold =
    cold-recalled state own (settled state closes line) thing (cold-settled state closes line thing cold)

-- what an event lets be served of what is set aside was aside before
pub stirred-settled : (state : State) (closes ports : List ℕ) (line : Line) → IsStirred state ports line
    → IsStirred state ports (settled state closes line)
stirred-settled state closes ports line stirred = λ thing there able.
    elim (or_either (set_of line.queue thing && is_stuck state thing) (set_of (things_aside line.aside) thing)
    (settled-either state closes line thing there)) [
      | inl stuck ↦ absurd (stuck_not (is_servable state thing) (stands thing state) able
          (and_both (set_of line.queue thing) (is_stuck state thing) stuck).1)
      | inr before ↦ stirred thing before able
    ]
  where
    stuck_not : (test stand : Bool) → test ≡ true → (not test && stand) ≡ true → ⊥
    stuck_not true stand able stuck = true_false true refl (sym stuck)
    stuck_not false stand able stuck = true_false true refl (sym able)
