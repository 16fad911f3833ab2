-- Lists and sets of things, and what is set aside.
use Rattle.std.proofs.Common.{◌≡◌, ◌∙◌, ℕ, Bool, true, false, List, [], ◌∷◌, ◌++◌, refl, sym, ap, cond, not, ◌&&◌, ◌||◌, ◌==◌, if◌then◌else◌, arith, map}
use Rattle.std.proofs.lemmas.Bool.Decides.{nat_tests}
use Rattle.std.specs.List.{filter}
use Rattle.world_ports.specs.declared.events.Door.{Door}
use Rattle.lists.specs.Rising.{is_among}
use Rattle.lists.proofs.RisingLemmas.{is_among-inserted}
use Rattle.agent_model.specs.State.{State}
use Rattle.loop_model.specs.Servable.{is_servable}
use Rattle.loop_model.specs.Things.{same_door, same_thing, set_of}
use Rattle.loop_model.specs.declared.thing.Thing.{Thing}
use Rattle.loop_model.specs.declared.thing.Thing.TheVariants.{Accept, Read, Write}
use Rattle.loop_model.specs.Aside.{Aside, put_aside, still_aside, taken_back, things_aside}
use Rattle.loop_model.specs.Queues.{dropped}
use Rattle.loop_model.proofs.TestLemmas.{or_assoc}
use Rattle.loop_model.proofs.ThingLemmas.{cooled, heated, same_thing-true}

-- ---- tests

pub or_false : (a : Bool) → (a || false) ≡ a
or_false true = refl
or_false false = refl

-- where a test is false another stays
kept_by : (here there rest test : Bool) → (here ≡ true → test ≡ there)
    → (if there then (here || (rest && test)) else (rest && test)) ≡ ((here || rest) && test)
kept_by true true rest test is = sym (is refl)
kept_by true false rest test is = rw (is refl) (and_false rest)
  where
    and_false : (a : Bool) → (a && false) ≡ false
    and_false true = refl
    and_false false = refl
kept_by false true rest test is = refl
kept_by false false rest test is = refl

-- sets that hold of the same things are one
pub same_sets : (hot other : Thing → Bool) → ((thing : Thing) → hot thing ≡ other thing) → hot ≡ other
same_sets hot other same = λ i thing. same thing i

-- ---- the set of a list

-- the set of two lists
pub set_of-append : (first later : List Thing) (thing : Thing)
    → set_of (first ++ later) thing ≡ (set_of first thing || set_of later thing)
set_of-append [] later thing = refl
set_of-append (other ∷ first) later thing =
    ap (λ (b : Bool). same_thing other thing || b) (set_of-append first later thing)
    ∙ sym (or_assoc (same_thing other thing) (set_of first thing) (set_of later thing))

cond_at : (b : Bool) (thing other : Thing) (things : List Thing)
    → set_of (cond b (other ∷ things) things) thing ≡ (if b then (same_thing other thing || set_of things thing) else set_of things thing)
cond_at true thing other things = refl
cond_at false thing other things = refl

-- of the things that a test lets pass
pub set_of-filter : (test : Thing → Bool) (things : List Thing) (thing : Thing)
    → set_of (filter test things) thing ≡ (set_of things thing && test thing)
set_of-filter test [] thing = refl
set_of-filter test (other ∷ things) thing =
    cond_at (test other) thing other (filter test things)
    ∙ ap (λ (b : Bool). if test other then (same_thing other thing || b) else b) (set_of-filter test things thing)
    ∙ kept_by (same_thing other thing) (test other) (set_of things thing) (test thing)
    (λ same. ap test (sym (same_thing-true other thing same)))

-- ---- what is set aside, by kind

pub accepts-read : (doors : List Door) (port : ℕ) → set_of (map Accept doors) (Read port) ≡ false
accepts-read [] port = refl
accepts-read (door ∷ doors) port = accepts-read doors port

pub accepts-write : (doors : List Door) (port : ℕ) → set_of (map Accept doors) (Write port) ≡ false
accepts-write [] port = refl
accepts-write (door ∷ doors) port = accepts-write doors port

pub reads-accept : (ports : List ℕ) (door : Door) → set_of (map Read ports) (Accept door) ≡ false
reads-accept [] door = refl
reads-accept (other ∷ ports) door = reads-accept ports door

pub reads-write : (ports : List ℕ) (port : ℕ) → set_of (map Read ports) (Write port) ≡ false
reads-write [] port = refl
reads-write (other ∷ ports) port = reads-write ports port

writes-accept : (ports : List ℕ) (door : Door) → set_of (map Write ports) (Accept door) ≡ false
writes-accept [] door = refl
writes-accept (other ∷ ports) door = writes-accept ports door

writes-read : (ports : List ℕ) (port : ℕ) → set_of (map Write ports) (Read port) ≡ false
writes-read [] port = refl
writes-read (other ∷ ports) port = writes-read ports port

same_number : (a b : ℕ) → (a == b) ≡ (b == a)
same_number a b = grind (arith, nat_tests)

pub reads-read : (ports : List ℕ) (port : ℕ)
    → set_of (map Read ports) (Read port) ≡ is_among port ports
reads-read [] port = refl
reads-read (other ∷ ports) port =
    ap (λ (b : Bool). b || set_of (map Read ports) (Read port)) (same_number other port)
    ∙ ap (λ (b : Bool). (port == other) || b) (reads-read ports port)

pub writes-write : (ports : List ℕ) (port : ℕ)
    → set_of (map Write ports) (Write port) ≡ is_among port ports
writes-write [] port = refl
writes-write (other ∷ ports) port =
    ap (λ (b : Bool). b || set_of (map Write ports) (Write port)) (same_number other port)
    ∙ ap (λ (b : Bool). (port == other) || b) (writes-write ports port)

parts : (aside : Aside) (thing : Thing)
    → set_of (things_aside aside) thing
    ≡ (set_of (map Accept aside.doors) thing || (set_of (map Read aside.reads) thing || set_of (map Write aside.writes) thing))
parts aside thing =
    set_of-append (map Accept aside.doors ++ map Read aside.reads) (map Write aside.writes) thing
    ∙ ap (λ (b : Bool). b || set_of (map Write aside.writes) thing) (set_of-append (map Accept aside.doors) (map Read aside.reads) thing)
    ∙ or_assoc (set_of (map Accept aside.doors) thing) (set_of (map Read aside.reads) thing) (set_of (map Write aside.writes) thing)

-- a listener, a port to read or one to write to is set aside where it is among those
pub aside-accept : (aside : Aside) (door : Door)
    → set_of (things_aside aside) (Accept door) ≡ set_of (map Accept aside.doors) (Accept door)
aside-accept aside door =
    parts aside (Accept door)
    ∙ by_parts (set_of (map Accept aside.doors) (Accept door)) (set_of (map Read aside.reads) (Accept door))
    (set_of (map Write aside.writes) (Accept door))
    (reads-accept aside.reads door) (writes-accept aside.writes door)
  where
    by_parts : (a b c : Bool) → b ≡ false → c ≡ false → (a || (b || c)) ≡ a
    by_parts true b c second third = refl
    by_parts false b c second third = rw second third

pub aside-read : (aside : Aside) (port : ℕ)
    → set_of (things_aside aside) (Read port) ≡ is_among port aside.reads
aside-read aside port =
    parts aside (Read port)
    ∙ by_parts (set_of (map Accept aside.doors) (Read port)) (set_of (map Read aside.reads) (Read port))
    (set_of (map Write aside.writes) (Read port))
    (accepts-read aside.doors port) (writes-read aside.writes port)
    ∙ reads-read aside.reads port
  where
    by_parts : (a b c : Bool) → a ≡ false → c ≡ false → (a || (b || c)) ≡ b
    by_parts a b c first third = rw first (rw third (or_false b))

pub aside-write : (aside : Aside) (port : ℕ)
    → set_of (things_aside aside) (Write port) ≡ is_among port aside.writes
aside-write aside port =
    parts aside (Write port)
    ∙ by_parts (set_of (map Accept aside.doors) (Write port)) (set_of (map Read aside.reads) (Write port))
    (set_of (map Write aside.writes) (Write port))
    (accepts-write aside.doors port) (reads-write aside.reads port)
    ∙ writes-write aside.writes port
  where
    by_parts : (a b c : Bool) → a ≡ false → b ≡ false → (a || (b || c)) ≡ c
    by_parts a b c first second = rw first (rw second refl)

-- ---- numbers and listeners that a test lets pass

pub is_among-filter : (test : ℕ → Bool) (ports : List ℕ) (port : ℕ)
    → is_among port (filter test ports) ≡ (is_among port ports && test port)
is_among-filter test [] port = refl
is_among-filter test (other ∷ ports) port =
    cond_number (test other) port other (filter test ports)
    ∙ ap (λ (b : Bool). if test other then ((port == other) || b) else b) (is_among-filter test ports port)
    ∙ kept_by (port == other) (test other) (is_among port ports) (test port)
    (λ same. let is : port ≡ other = grind (arith, nat_tests) in ap test is)
  where
    cond_number : (b : Bool) (port other : ℕ) (ports : List ℕ)
        → is_among port (cond b (other ∷ ports) ports) ≡ (if b then ((port == other) || is_among port ports) else is_among port ports)
    cond_number true port other ports = refl
    cond_number false port other ports = refl

-- the listeners that a test lets pass, as things
accepts-filter : (test : Thing → Bool) (doors : List Door)
    → map Accept (filter (λ door. test (Accept door)) doors) ≡ filter test (map Accept doors)
accepts-filter test [] = refl
accepts-filter test (door ∷ doors) =
    let rest = accepts-filter test doors in
    grind (arith, nat_tests)

accepts-more : (doors : List Door) (door : Door) (thing : Thing)
    → set_of (map Accept (doors ++ door ∷ [])) thing ≡ (same_thing (Accept door) thing || set_of (map Accept doors) thing)
accepts-more [] door thing = refl
accepts-more (first ∷ doors) door thing =
    ap (λ (b : Bool). same_thing (Accept first) thing || b) (accepts-more doors door thing)
    ∙ swapped (same_thing (Accept first) thing) (same_thing (Accept door) thing) (set_of (map Accept doors) thing)
  where
    swapped : (there here rest : Bool) → (there || (here || rest)) ≡ (here || (there || rest))
    swapped true true rest = refl
    swapped true false rest = refl
    swapped false here rest = refl

-- ---- what is set aside changes

-- whether a thing is among those of its kind that are set aside
abbrev aside_at : Aside → Thing → Bool
aside_at aside (Accept door) = set_of (map Accept aside.doors) (Accept door)
aside_at aside (Read port) = is_among port aside.reads
aside_at aside (Write port) = is_among port aside.writes

set_of-aside : (aside : Aside) (thing : Thing)
    → set_of (things_aside aside) thing ≡ aside_at aside thing
set_of-aside aside (Accept door) = aside-accept aside door
set_of-aside aside (Read port) = aside-read aside port
set_of-aside aside (Write port) = aside-write aside port

put_at : (thing : Thing) (aside : Aside) (other : Thing)
    → set_of (things_aside (put_aside thing aside)) other ≡ heated thing (set_of (things_aside aside)) other
put_at thing aside other =
    set_of-aside (put_aside thing aside) other ∙ by_kind thing other
    ∙ sym (ap (λ (b : Bool). same_thing thing other || b) (set_of-aside aside other))
  where
    by_kind : (thing other : Thing)
        → aside_at (put_aside thing aside) other ≡ (same_thing thing other || aside_at aside other)
    by_kind (Accept door) (Accept other) = accepts-more aside.doors door (Accept other)
    by_kind (Accept door) (Read port) = refl
    by_kind (Accept door) (Write port) = refl
    by_kind (Read port) (Accept door) = refl
    by_kind (Read port) (Read other) = is_among-inserted other port aside.reads
    by_kind (Read port) (Write other) = refl
    by_kind (Write port) (Accept door) = refl
    by_kind (Write port) (Read other) = refl
    by_kind (Write port) (Write other) = is_among-inserted other port aside.writes

-- with one thing more set aside it is the set with it
pub set_of-put_aside : (thing : Thing) (aside : Aside)
    → set_of (things_aside (put_aside thing aside)) ≡ heated thing (set_of (things_aside aside))
set_of-put_aside thing aside =
    same_sets (set_of (things_aside (put_aside thing aside))) (heated thing (set_of (things_aside aside))) (put_at thing aside)

and_swapped : (a b : Bool) → (a && b) ≡ (b && a)
and_swapped true true = refl
and_swapped true false = refl
and_swapped false true = refl
and_swapped false false = refl

accepts-without : (doors : List Door) (door other : Door)
    → set_of (map Accept (filter (λ other. not (same_door door other)) doors)) (Accept other)
    ≡ (not (same_door door other) && set_of (map Accept doors) (Accept other))
accepts-without doors door other =
    ap (λ (ts : List Thing). set_of ts (Accept other)) (accepts-filter (λ thing. not (same_thing (Accept door) thing)) doors)
    ∙ set_of-filter (λ thing. not (same_thing (Accept door) thing)) (map Accept doors) (Accept other)
    ∙ and_swapped (set_of (map Accept doors) (Accept other)) (not (same_door door other))

without_number : (ports : List ℕ) (port other : ℕ)
    → is_among other (filter (λ other. not (port == other)) ports) ≡ (not (port == other) && is_among other ports)
without_number ports port other =
    is_among-filter (λ other. not (port == other)) ports other ∙ and_swapped (is_among other ports) (not (port == other))

taken_at : (thing : Thing) (aside : Aside) (other : Thing)
    → set_of (things_aside (taken_back thing aside)) other ≡ cooled thing (set_of (things_aside aside)) other
taken_at thing aside other =
    set_of-aside (taken_back thing aside) other ∙ by_kind thing other
    ∙ sym (ap (λ (b : Bool). not (same_thing thing other) && b) (set_of-aside aside other))
  where
    by_kind : (thing other : Thing)
        → aside_at (taken_back thing aside) other ≡ (not (same_thing thing other) && aside_at aside other)
    by_kind (Accept door) (Accept other) = accepts-without aside.doors door other
    by_kind (Accept door) (Read port) = refl
    by_kind (Accept door) (Write port) = refl
    by_kind (Read port) (Accept door) = refl
    by_kind (Read port) (Read other) = without_number aside.reads port other
    by_kind (Read port) (Write other) = refl
    by_kind (Write port) (Accept door) = refl
    by_kind (Write port) (Read other) = refl
    by_kind (Write port) (Write other) = without_number aside.writes port other

-- with one thing less it is the set without it
pub set_of-taken_back : (thing : Thing) (aside : Aside)
    → set_of (things_aside (taken_back thing aside)) ≡ cooled thing (set_of (things_aside aside))
set_of-taken_back thing aside =
    same_sets (set_of (things_aside (taken_back thing aside))) (cooled thing (set_of (things_aside aside))) (taken_at thing aside)

-- what stays aside is what can't be served
pub set_of-still_aside : (state : State) (aside : Aside) (thing : Thing)
    → set_of (things_aside (still_aside state aside)) thing ≡ (set_of (things_aside aside) thing && not (is_servable state thing))
set_of-still_aside state aside thing =
    set_of-aside (still_aside state aside) thing ∙ by_kind thing
    ∙ sym (ap (λ (b : Bool). b && not (is_servable state thing)) (set_of-aside aside thing))
  where
    by_kind : (thing : Thing)
        → aside_at (still_aside state aside) thing ≡ (aside_at aside thing && not (is_servable state thing))
    by_kind (Accept door) =
        ap (λ (ts : List Thing). set_of ts (Accept door)) (accepts-filter (λ thing. not (is_servable state thing)) aside.doors)
        ∙ set_of-filter (λ thing. not (is_servable state thing)) (map Accept aside.doors) (Accept door)
    by_kind (Read port) =
        is_among-filter (λ port. not (is_servable state (Read port))) aside.reads port
    by_kind (Write port) =
        is_among-filter (λ port. not (is_servable state (Write port))) aside.writes port

-- ---- where a thing is looked for and taken out

-- a thing is set aside as it is told
pub told : (there : Bool) (view aside : Aside) (thing found : Thing) → view ≡ aside → thing ≡ found
    → there ≡ set_of (things_aside view) found → there ≡ set_of (things_aside aside) thing
told there view aside thing found same is tells =
    tells ∙ ap (λ (a : Aside). set_of (things_aside a) found) same ∙ ap (set_of (things_aside aside)) (sym is)

-- the queue without a thing is the set without it
pub set_of-dropped : (thing : Thing) (queue : List Thing)
    → set_of (dropped thing queue) ≡ cooled thing (set_of queue)
set_of-dropped thing queue = same_sets (set_of (dropped thing queue)) (cooled thing (set_of queue)) (λ other.
    set_of-filter (λ third. not (same_thing thing third)) queue other
    ∙ and_swapped (set_of queue other) (not (same_thing thing other)))
