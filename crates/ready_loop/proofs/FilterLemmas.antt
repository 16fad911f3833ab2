-- What a test lets pass of numbers and of doors, and a thing that is taken from beside.
use Rattle.std.proofs.Common.{◌≡◌, ◌∙◌, Bool, true, false, List, [], ◌∷◌, refl, sym, ap, cond, not, ◌||◌, ℕ, ◌==◌, arith, map}
use Rattle.std.specs.List.{filter}
use Rattle.loop_model.specs.Things.{set_of, same_door}
use Rattle.loop_model.specs.declared.thing.Thing.{Thing}
use Rattle.loop_model.specs.Aside.{Aside, taken_back, things_aside}
use Rattle.std.proofs.lemmas.Bool.Decides.{nat_tests}
use Rattle.world_ports.specs.declared.events.Door.{Door}
use Rattle.lists.specs.Rising.{is_among}
use Rattle.loop_model.specs.declared.thing.Thing.TheVariants.{Accept, Read, Write}
use Rattle.loop_model.proofs.TestLemmas.{or_left, or_right}
use Rattle.loop_model.proofs.ThingLemmas.{same_thing-refl, same_thing-true}
use Rattle.loop_model.proofs.AsideLemmas.{aside-accept, aside-read, aside-write}

-- ---- of numbers

-- the number in front, where it is kept
abbrev pub kept : Bool → ℕ → List ℕ → List ℕ
kept test first ports = cond test (first ∷ ports) ports

itself_among : (first : ℕ) (ports : List ℕ) → (first == first || is_among first ports) ≡ true
itself_among first ports =
    or_left (first == first) (is_among first ports) (grind (arith, nat_tests))

-- where each passes the test, all are left
pub numbers_all : (test : ℕ → Bool) (ports : List ℕ)
    → ((port : ℕ) → is_among port ports ≡ true → test port ≡ true)
    → filter test ports ≡ ports
numbers_all test [] all = refl
numbers_all test (first ∷ ports) all =
    ap (λ (b : Bool). kept b first (filter test ports)) (all first (itself_among first ports))
    ∙ ap (λ (ps : List ℕ). first ∷ ps)
    (numbers_all test ports (λ port there. all port (or_right (port == first) (is_among port ports) there)))

-- tests that agree on the members leave the same
pub numbers_alike : (test other : ℕ → Bool) (ports : List ℕ)
    → ((port : ℕ) → is_among port ports ≡ true → test port ≡ other port) → filter test ports ≡ filter other ports
numbers_alike test other [] same = refl
numbers_alike test other (first ∷ ports) same =
    ap (λ (b : Bool). kept b first (filter test ports)) (same first (itself_among first ports))
    ∙ ap (kept (other first) first)
    (numbers_alike test other ports (λ port there. same port (or_right (port == first) (is_among port ports) there)))

-- ---- of listeners

pub doors_all : (test : Door → Bool) (doors : List Door)
    → ((door : Door) → set_of (map Accept doors) (Accept door) ≡ true → test door ≡ true)
    → filter test doors ≡ doors
doors_all test [] all = refl
doors_all test (first ∷ doors) all =
    ap (λ (b : Bool). cond b (first ∷ filter test doors) (filter test doors))
    (all first (ap (λ (b : Bool). b || set_of (map Accept doors) (Accept first)) (same_thing-refl (Accept first))))
    ∙ ap (λ (ds : List Door). first ∷ ds)
    (doors_all test doors (λ door there. all door (or_right (same_door first door) (set_of (map Accept doors) (Accept door)) there)))

without_absent : (ports : List ℕ) (port : ℕ) → is_among port ports ≡ false
    → filter (λ other. not (port == other)) ports ≡ ports
without_absent ports port absent =
    numbers_all (λ other. not (port == other)) ports (λ other there. other_than other (port == other) refl there)
  where
    other_than : (other : ℕ) (same : Bool) → (port == other) ≡ same → is_among other ports ≡ true
        → not same ≡ true
    other_than other true is there =
        let here : port ≡ other = grind (arith, nat_tests) in
        let also : is_among port ports ≡ true = ap (λ (n : ℕ). is_among n ports) here ∙ there in
        cc
    other_than other false is there = refl

without_door : (doors : List Door) (door : Door) → set_of (map Accept doors) (Accept door) ≡ false
    → filter (λ other. not (same_door door other)) doors ≡ doors
without_door doors door absent =
    doors_all (λ other. not (same_door door other)) doors (λ other there. other_than other (same_door door other) refl there)
  where
    other_than : (other : Door) (same : Bool) → same_door door other ≡ same
        → set_of (map Accept doors) (Accept other) ≡ true → not same ≡ true
    other_than other true is there =
        let here : Accept door ≡ Accept other = same_thing-true (Accept door) (Accept other) is in
        let also : set_of (map Accept doors) (Accept door) ≡ true = ap (set_of (map Accept doors)) here ∙ there in
        cc
    other_than other false is there = refl

-- ---- of what is aside

-- without what isn't there
pub absent-taken : (thing : Thing) (aside : Aside) → set_of (things_aside aside) thing ≡ false
    → taken_back thing aside ≡ aside
absent-taken (Accept door) aside absent =
    ap (λ (doors : List Door). record aside { doors = doors }) (without_door aside.doors door (sym (aside-accept aside door) ∙ absent))
absent-taken (Read port) aside absent =
    ap (λ (ports : List ℕ). record aside { reads = ports }) (without_absent aside.reads port (sym (aside-read aside port) ∙ absent))
absent-taken (Write port) aside absent =
    ap (λ (ports : List ℕ). record aside { writes = ports }) (without_absent aside.writes port (sym (aside-write aside port) ∙ absent))
