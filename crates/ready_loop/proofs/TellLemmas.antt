-- What an event lets be served of what was set aside.
use Rattle.std.proofs.Common.{◌≡◌, ◌∙◌, ℕ, ◌-◌, ◌^◌, ◌<◌, ◌≤◌, Bool, true, false, List, Option, Some, refl, sym, ap, subst, not, arith}
use Rattle.std.proofs.lemmas.Bool.Decides.{Decides-ltb}
use Rattle.std.proofs.lemmas.Bool.{eqb-true}
use Rattle.world_ports.specs.declared.events.Door.{Door}
use Rattle.world_ports.specs.declared.events.Door.TheVariants.{Children, Clients}
use Rattle.world_ports.specs.declared.events.Moment.{Moment}
use Rattle.agent_model.specs.Events.{Happening, Joined, Heard, Ended, Took, Started, StartFailed, Tick}
use Rattle.agent_model.specs.Sound.{IsRising}
use Rattle.agent_model.specs.State.{State, is_open, is_some_bytes, wants_by}
use Rattle.agent_model.specs.Step.{step}
use Rattle.agent_model.proofs.RunLemmas.{step-last_port, step-rises}
use Rattle.loop_model.specs.Calls.{served_of}
use Rattle.agent_core.specs.Parts.{IsSpared}
use Rattle.lists.specs.Rising.{is_among}
use Rattle.loop_model.specs.Elsewhere.{is_joining, may_end, stands}
use Rattle.loop_model.specs.Orderly.{IsOrderly}
use Rattle.loop_model.specs.Servable.{is_servable}
use Rattle.loop_model.specs.Things.{same_door, set_of}
use Rattle.loop_model.specs.Aside.{things_aside}
use Rattle.loop_model.specs.declared.thing.Thing.{Thing}
use Rattle.loop_model.specs.declared.thing.Thing.TheVariants.{Accept, Read, Write}
use Rattle.loop_model.proofs.ClosedLemmas.{closed-shut, open-closes}
use Rattle.ready_loop.specs.Happenings.{number_after}
use Rattle.loop_model.specs.Lines.{IsListed, IsQuiet, Line, hot_of}
use Rattle.loop_model.proofs.RoundLemmas.{stands_able}
use Rattle.loop_model.proofs.StandLemmas.{servable_after}
use Rattle.loop_model.proofs.TestLemmas.{or_left, true_false}
use Rattle.loop_model.proofs.ThingLemmas.{false_by, same_thing-true}
use Rattle.ready_loop.specs.Standing.{IsCold, IsKept, IsStirred, is_at_any, is_listener}
use Rattle.ready_loop.proofs.HandLemmas.{hot-parts}

-- ---- what was set aside

-- a port at which something can be served wasn't closed
left_open : (state next : State) (closes : List ℕ) (moment : Moment) (event : Happening) (thing : Thing) (port : ℕ)
    → stands thing next ≡ is_open port next
    → next ≡ (step state moment event).state → closes ≡ (step state moment event).closes
    → IsRising 0 state.last_port state.ports → is_servable next thing ≡ true → is_among port closes ≡ false
left_open state next closes moment event thing port of is closed rising able =
    false_by (is_among port closes) (λ among.
    true_false (is_open port next) (sym of ∙ stands_able next thing able)
    (ap (is_open port) is
    ∙ closed-shut state moment event port rising (ap (is_among port) (sym closed) ∙ among)))

-- at a port that was neither closed nor touched nothing can be served that couldn't be
stirred_thing : (state next : State) (closes touched : List ℕ) (moment : Moment) (event : Happening) (thing : Thing)
    → next ≡ (step state moment event).state → closes ≡ (step state moment event).closes
    → IsSpared state (record { state = next; closes = closes; touched = touched })
    → IsRising 0 state.last_port state.ports
    → is_servable state thing ≡ false → is_servable next thing ≡ true → is_at_any touched thing ≡ true
stirred_thing state next closes touched moment event (Accept door) is closed spared rising never able =
    let below : next.last_port < 2 ^ 64 - 1 = (Decides-ltb next.last_port (2 ^ 64 - 1)).0 able in
    let rises : state.last_port ≤ next.last_port =
    subst (λ (s : State). state.last_port ≤ s.last_port) (sym is) (step-rises state moment event) in
    absurd (true_false (is_servable state (Accept door))
    ((Decides-ltb state.last_port (2 ^ 64 - 1)).1 (omega (arith, rises, below))) never)
stirred_thing state next closes touched moment event (Read port) is closed spared rising never able =
    by_touched (is_among port touched) refl
  where
    by_touched : (b : Bool) → is_among port touched ≡ b → b ≡ true
    by_touched true there = refl
    by_touched false there =
        let shut = left_open state next closes moment event (Read port) port refl is closed rising able in
        let same = spared port (shut, there) in
        absurd (true_false (is_servable state (Read port)) (sym (ap wants_by same.0) ∙ able) never)
stirred_thing state next closes touched moment event (Write port) is closed spared rising never able =
    by_touched (is_among port touched) refl
  where
    by_touched : (b : Bool) → is_among port touched ≡ b → b ≡ true
    by_touched true there = refl
    by_touched false there =
        let shut = left_open state next closes moment event (Write port) port refl is closed rising able in
        let same = spared port (shut, there) in
        absurd (true_false (is_servable state (Write port)) (sym (ap is_some_bytes same.1) ∙ able) never)

pub stirs : (state next : State) (closes touched : List ℕ) (moment : Moment) (event : Happening) (line : Line)
    → next ≡ (step state moment event).state → closes ≡ (step state moment event).closes
    → IsSpared state (record { state = next; closes = closes; touched = touched })
    → IsRising 0 state.last_port state.ports → IsQuiet state line → IsStirred next touched line
stirs state next closes touched moment event line is closed spared rising quiet = λ thing there able.
    stirred_thing state next closes touched moment event thing is closed spared rising (quiet thing there) able

-- ---- what stood in the list

-- a thing that the event may end is in hand, but for a listener
ends-hand : (event : Happening) (thing : Thing) → is_listener thing ≡ false
    → may_end event thing ≡ true
    → served_of event ≡ Some thing
ends-hand event (Accept door) other ends = absurd (cc)
ends-hand (Heard number piece) (Read port) other ends =
    ap (λ (n : ℕ). Some (Read n)) (eqb-true number port ends)
ends-hand (Joined door) (Read port) other ends = absurd (cc)
ends-hand (Ended number) (Read port) other ends = absurd (cc)
ends-hand (Took number count) (Read port) other ends = absurd (cc)
ends-hand (Started job ticket) (Read port) other ends = absurd (cc)
ends-hand (StartFailed job) (Read port) other ends = absurd (cc)
ends-hand Tick (Read port) other ends = absurd (cc)
ends-hand (Took number count) (Write port) other ends =
    ap (λ (n : ℕ). Some (Write n)) (eqb-true number port ends)
ends-hand (Joined door) (Write port) other ends = absurd (cc)
ends-hand (Heard number piece) (Write port) other ends = absurd (cc)
ends-hand (Ended number) (Write port) other ends = absurd (cc)
ends-hand (Started job ticket) (Write port) other ends = absurd (cc)
ends-hand (StartFailed job) (Write port) other ends = absurd (cc)
ends-hand Tick (Write port) other ends = absurd (cc)

joins-hand : (event : Happening) → is_joining event ≡ true
    → (door : Door) × (served_of event ≡ Some (Accept door))
joins-hand (Joined door) joins = (door, refl)
joins-hand (Heard number piece) joins = absurd (cc)
joins-hand (Ended number) joins = absurd (cc)
joins-hand (Took number count) joins = absurd (cc)
joins-hand (Started job ticket) joins = absurd (cc)
joins-hand (StartFailed job) joins = absurd (cc)
joins-hand Tick joins = absurd (cc)

-- what is in hand doesn't stand there
hand-gone : (hand : Option Thing) (thing : Thing) (line : Line) → IsCold hand line
    → hand ≡ Some thing
    → set_of line.queue thing ≡ true → ⊥
hand-gone hand thing line cold is there =
    let none : hot_of line thing ≡ false = subst (λ (h : Option Thing). IsCold h line) is cold in
    true_false (hot_of line thing)
    (hot-parts thing line ∙ or_left (set_of line.queue thing) (set_of (things_aside line.aside) thing) there) none

-- of two listeners the one that isn't this one
other_door : (door one other : Door) → same_door one door ≡ false → same_door other door ≡ false
    → one ≡ other
other_door Clients Clients other first second = absurd (cc)
other_door Clients Children Clients first second = absurd (cc)
other_door Clients Children Children first second = refl
other_door Children Clients Clients first second = refl
other_door Children Clients Children first second = absurd (cc)
other_door Children Children other first second = absurd (cc)

stood-closes : (state : State) (moment : Moment) (event : Happening) (thing : Thing)
    → IsRising 0 state.last_port state.ports
    → is_servable state thing ≡ true
    → stands thing (step state moment event).state ≡ not (is_at_any (step state moment event).closes thing)
stood-closes state moment event (Accept door) rising able = refl
stood-closes state moment event (Read port) rising able =
    open-closes state moment event port rising (stands_able state (Read port) able)
stood-closes state moment event (Write port) rising able =
    open-closes state moment event port rising (stands_able state (Write port) able)

kept_now : (state : State) (moment : Moment) (event : Happening) (line : Line) → IsOrderly state
    → IsListed state line.queue
    → IsCold (served_of event) line
    → IsKept (step state moment event).state (step state moment event).closes line.queue
kept_now state moment event line orderly listed cold = record {
  gone = λ thing there. stood-closes state moment event thing orderly.sound.rising (listed thing there);
  kept = λ thing there other opened.
      servable_after state moment event thing orderly
      (false_by (may_end event thing) (λ ends.
      hand-gone (served_of event) thing line cold (ends-hand event thing other ends) there))
      (listed thing there) opened;
  one =
      λ door other there also never. by_joining (is_joining event) refl door other there also never;
}
  where
    apart_from : (door other : Door) → served_of event ≡ Some (Accept door)
        → set_of line.queue (Accept other) ≡ true
        → same_door other door ≡ false
    apart_from door other is there = false_by (same_door other door) (λ same.
        let equal : Accept other ≡ Accept door = same_thing-true (Accept other) (Accept door) same in
        hand-gone (served_of event) (Accept other) line cold (is ∙ ap Some (sym equal)) there)

    by_joining : (joins : Bool) → is_joining event ≡ joins → (door other : Door)
        → set_of line.queue (Accept door) ≡ true
        → set_of line.queue (Accept other) ≡ true
        → is_servable (step state moment event).state (Accept door) ≡ false → door ≡ other
    by_joining true is door other there also never =
        let joined = joins-hand event is in
        other_door joined.0 door other (apart_from joined.0 door joined.1 there) (apart_from joined.0 other joined.1 also)
    by_joining false is door other there also never =
        absurd (true_false (is_servable (step state moment event).state (Accept door))
        (servable_after state moment event (Accept door) orderly is (listed (Accept door) there) refl) never)

pub kept-after : (state next : State) (closes : List ℕ) (moment : Moment) (event : Happening) (line : Line)
    → next ≡ (step state moment event).state → closes ≡ (step state moment event).closes → IsOrderly state
    → IsListed state line.queue → IsCold (served_of event) line → IsKept next closes line.queue
kept-after state next closes moment event line is closed orderly listed cold =
    subst (λ (n : State). IsKept n closes line.queue) (sym is)
    (subst (λ (ports : List ℕ). IsKept (step state moment event).state ports line.queue) (sym closed)
    (kept_now state moment event line orderly listed cold))

-- ---- numbers and seconds

-- the number of the last port after a step
pub last-stepped : (state next : State) (moment : Moment) (event : Happening)
    → next ≡ (step state moment event).state → number_after event state.last_port ≡ next.last_port
last-stepped state next moment event is =
    sym (ap (λ (s : State). s.last_port) is ∙ step-last_port state moment event)
