-- What is ready and can be served stands in the list after an event.
use Rattle.std.proofs.Common.{◌≡◌, ◌∙◌, inl, inr, ℕ, Bool, true, false, List, [], ◌∷◌, ◌++◌, Option, Some, refl, ap, not, ◌||◌, ◌==◌, if◌then◌else◌}
use Rattle.std.specs.List.{filter}
use Rattle.std.proofs.lemmas.Bool.Decides.{Decides-eqb}
use Rattle.lists.specs.Rising.{is_among}
use Rattle.world_ports.specs.declared.events.Moment.{Moment}
use Rattle.agent_model.specs.Events.{Happening}
use Rattle.agent_model.specs.Sound.{IsRising}
use Rattle.agent_model.specs.State.{State, is_open}
use Rattle.agent_model.specs.Step.{step}
use Rattle.loop_model.specs.Aside.{Aside, put_aside, taken_back, things_aside}
use Rattle.loop_model.specs.Elsewhere.{stands}
use Rattle.loop_model.specs.Lines.{Line, after_event, all_aside, gone_aside, is_stuck, placed, recalled, returned, settled}
use Rattle.loop_model.specs.Servable.{is_servable}
use Rattle.loop_model.specs.Things.{same_thing, set_of}
use Rattle.loop_model.specs.declared.thing.Thing.{Thing}
use Rattle.loop_model.specs.declared.thing.Thing.TheVariants.{Read, Write}
use Rattle.loop_model.proofs.AddingLemmas.{adds-returned}
use Rattle.loop_model.proofs.AsideLemmas.{set_of-append, set_of-filter, set_of-put_aside, set_of-taken_back}
use Rattle.loop_model.proofs.BackLemmas.{calls-recalled}
use Rattle.loop_model.proofs.ClosedLemmas.{closed-shut}
use Rattle.loop_model.proofs.QuietLemmas.{quiet_recalled}
use Rattle.loop_model.proofs.RoundLemmas.{stands_able}
use Rattle.loop_model.proofs.TestLemmas.{both_and, false_not, or_left, or_right}
use Rattle.loop_model.proofs.ThingLemmas.{false_by, same_thing-refl, same_thing-true}

true_not : (test : Bool) → test ≡ true → test ≡ false → ⊥
true_not true is isnt = cc
true_not false is isnt = cc

-- with more behind it
stays-behind : (before news after : List Thing) (thing : Thing) → after ≡ before ++ news
    → set_of before thing ≡ true
    → set_of after thing ≡ true
stays-behind before news after thing is there =
    ap (λ (ts : List Thing). set_of ts thing) is ∙ set_of-append before news thing
    ∙ or_left (set_of before thing) (set_of news thing) there

-- ---- aside

all-stays : (things : List Thing) (aside : Aside) (thing : Thing)
    → set_of (things_aside aside) thing ≡ true
    → set_of (things_aside (all_aside things aside)) thing ≡ true
all-stays [] aside thing there = there
all-stays (first ∷ things) aside thing there =
    all-stays things (put_aside first aside) thing
    (ap (λ (hot : Thing → Bool). hot thing) (set_of-put_aside first aside)
    ∙ or_right (same_thing first thing) (set_of (things_aside aside) thing) there)

taken-stays : (gone : Thing) (aside : Aside) (thing : Thing) → same_thing gone thing ≡ false
    → set_of (things_aside aside) thing ≡ true → set_of (things_aside (taken_back gone aside)) thing ≡ true
taken-stays gone aside thing apart there =
    ap (λ (hot : Thing → Bool). hot thing) (set_of-taken_back gone aside)
    ∙ both_and (not (same_thing gone thing)) (set_of (things_aside aside) thing) (false_not (same_thing gone thing) apart)
    there

-- the thing is at none of these ports
abbrev at_none : List ℕ → Thing → Type 0
at_none [] thing = Unit {0}
at_none (port ∷ ports) thing =
    (same_thing (Read port) thing ≡ false) × (same_thing (Write port) thing ≡ false) × at_none ports thing

gone-stays : (ports : List ℕ) (aside : Aside) (thing : Thing) → at_none ports thing
    → set_of (things_aside aside) thing ≡ true → set_of (things_aside (gone_aside ports aside)) thing ≡ true
gone-stays [] aside thing none there = there
gone-stays (port ∷ ports) aside thing none there =
    let mid = taken_back (Read port) aside in
    gone-stays ports (taken_back (Write port) mid) thing none.2
    (taken-stays (Write port) mid thing none.1 (taken-stays (Read port) aside thing none.0 there))

none-at : (left : State) (ports : List ℕ) (thing : Thing) → is_servable left thing ≡ true
    → ((port : ℕ) → is_among port ports ≡ true → is_open port left ≡ false) → at_none ports thing
none-at left [] thing able shut = tt
none-at left (port ∷ ports) thing able shut =
    let first = shut port (or_left (port == port) (is_among port ports) ((Decides-eqb port port).1 refl)) in (
      false_by (same_thing (Read port) thing) (λ same.
          true_not (is_open port left)
          (ap (λ (t : Thing). stands t left) (same_thing-true (Read port) thing same) ∙ stands_able left thing able) first),
      false_by (same_thing (Write port) thing) (λ same.
          true_not (is_open port left)
          (ap (λ (t : Thing). stands t left) (same_thing-true (Write port) thing same) ∙ stands_able left thing able) first),
      none-at left ports thing able
          (λ other among. shut other (or_right (other == port) (is_among other ports) among)),
    )

-- ---- after an event

returned-stays : (left : State) (hand : Option Thing) (line : Line) (thing : Thing)
    → set_of line.queue thing ≡ true
    → set_of (returned left hand line).queue thing ≡ true
returned-stays left hand line thing there =
    let adds = adds-returned left hand line in
    stays-behind line.queue adds.news (returned left hand line).queue thing adds.queue there

pub stays-listed : (left : State) (closes : List ℕ) (own : Option ℕ) (hand : Option Thing) (line : Line) (thing : Thing)
    → set_of line.queue thing ≡ true → is_servable left thing ≡ true
    → set_of (after_event left closes own hand line).queue thing ≡ true
stays-listed left closes own hand line thing there able =
    let calm = settled left closes line in
    let back = (calls-recalled left own calm).back in
    returned-stays left hand (recalled left own calm) thing
    (stays-behind calm.queue back.more (recalled left own calm).queue thing back.behind
    (set_of-filter (is_servable left) line.queue thing
    ∙ both_and (set_of line.queue thing) (is_servable left thing) there able))

back_listed : (left : State) (own : Option ℕ) (line : Line) (thing : Thing)
    → set_of (things_aside line.aside) thing ≡ true → is_servable left thing ≡ true
    → set_of (recalled left own line).queue thing ≡ true
back_listed left own line thing there able =
    let calls = calls-recalled left own line in
    elim (calls.kept thing there) [
      | inl here ↦ ap (λ (ts : List Thing). set_of ts thing) calls.back.behind
          ∙ set_of-append line.queue calls.back.more thing
          ∙ or_right (set_of line.queue thing) (set_of calls.back.more thing) here
      | inr rest ↦ absurd (true_not (is_servable left thing) able (quiet_recalled left own line thing rest))
    ]

pub comes-listed : (state : State) (moment : Moment) (event : Happening) (own : Option ℕ) (hand : Option Thing) (line : Line)
    (thing : Thing) → IsRising 0 state.last_port state.ports → set_of (things_aside line.aside) thing ≡ true
    → is_servable (step state moment event).state thing ≡ true
    → set_of (after_event (step state moment event).state (step state moment event).closes own hand line).queue thing ≡ true
comes-listed state moment event own hand line thing rising there able =
    let left = (step state moment event).state in
    let closes = (step state moment event).closes in
    let calm = settled left closes line in
    let stuck = filter (is_stuck left) line.queue in
    returned-stays left hand (recalled left own calm) thing
    (back_listed left own calm thing
    (gone-stays closes (all_aside stuck line.aside) thing
    (none-at left closes thing able (λ port closed. closed-shut state moment event port rising closed))
    (all-stays stuck line.aside thing there)) able)

pub served-listed : (left : State) (closes : List ℕ) (own : Option ℕ) (line : Line) (thing : Thing)
    → is_servable left thing ≡ true → set_of (after_event left closes own (Some thing) line).queue thing ≡ true
served-listed left closes own line thing able =
    let mid = recalled left own (settled left closes line) in
    ap (λ (b : Bool). set_of (if b then placed left thing mid else mid).queue thing) (stands_able left thing able)
    ∙ ap (λ (b : Bool). set_of (if b then record mid { queue = mid.queue ++ thing ∷ [] } else record mid { aside = put_aside thing mid.aside }).queue thing)
    able
    ∙ set_of-append mid.queue (thing ∷ []) thing
    ∙ or_right (set_of mid.queue thing) (same_thing thing thing || false)
    (or_left (same_thing thing thing) false (same_thing-refl thing))
