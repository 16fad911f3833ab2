-- What an event leaves in its place: all but what is at a port that was closed, and a listener once no number is left.
use Rattle.std.proofs.Common.{◌≡◌, ◌∙◌, ℕ, ◌-◌, ◌^◌, Bool, true, false, List, [], ◌∷◌, refl, sym, ap, cond, nat_lt, not, ◌&&◌, ◌||◌, ◌==◌, if◌then◌else◌, arith}
use Rattle.std.proofs.lemmas.Bool.Decides.{nat_tests}
use Rattle.std.specs.List.{filter}
use Rattle.world_ports.specs.declared.events.Door.{Door}
use Rattle.world_ports.specs.declared.events.Door.TheVariants.{Children, Clients}
use Rattle.lists.specs.Rising.{is_among}
use Rattle.agent_model.specs.State.{State}
use Rattle.loop_model.specs.Aside.{Aside, put_aside, taken_back}
use Rattle.loop_model.specs.Elsewhere.{stands}
use Rattle.loop_model.specs.Lines.{Line, all_aside, gone_aside, is_stuck, settled}
use Rattle.loop_model.specs.Queues.{AreApart, dropped}
use Rattle.loop_model.specs.Servable.{is_servable}
use Rattle.loop_model.specs.Things.{same_thing, set_of}
use Rattle.loop_model.specs.declared.thing.Thing.{Thing}
use Rattle.loop_model.specs.declared.thing.Thing.TheVariants.{Accept, Read, Write}
use Rattle.loop_model.proofs.AsideLemmas.{set_of-filter}
use Rattle.loop_model.proofs.RoundLemmas.{stands_able}
use Rattle.loop_model.proofs.TestLemmas.{alike, and_both, true_false}
use Rattle.loop_model.proofs.ThingLemmas.{false_by, same_thing-refl, same_thing-true}
use Rattle.ready_loop.specs.Standing.{IsKept, door_aside, is_at_any, is_listener, without_port, without_ports}
use Rattle.loop_model.proofs.FilterLemmas.{absent-dropped, filter_alike, filter_all, filter_none, filter_twice}

-- ---- the ports that were closed

abbrev pub left_at : List ℕ → Thing → Bool
left_at ports thing = not (is_at_any ports thing)

both_less : (a b : Bool) → ((not a && not b) ≡ not (a || b))
both_less true b = refl
both_less false b = refl

swapped : (a b : ℕ) → (a == b) ≡ (b == a)
swapped a b = grind (arith, nat_tests)

-- it is at none of them where it isn't at the first nor at the others
left_more : (port : ℕ) (ports : List ℕ) (thing : Thing)
    → ((not (same_thing (Read port) thing) && not (same_thing (Write port) thing)) && left_at ports thing)
    ≡ left_at (port ∷ ports) thing
left_more port ports (Accept door) = refl
left_more port ports (Read other) =
    ap (λ (b : Bool). (not b && true) && not (is_among other ports)) (swapped port other)
    ∙ by_test (other == port) (is_among other ports)
  where
    by_test : (a b : Bool) → ((not a && true) && not b) ≡ not (a || b)
    by_test true b = refl
    by_test false b = refl
left_more port ports (Write other) =
    ap (λ (b : Bool). (true && not b) && not (is_among other ports)) (swapped port other)
    ∙ both_less (other == port) (is_among other ports)

none_left : (thing : Thing) → left_at [] thing ≡ true
none_left (Accept door) = refl
none_left (Read port) = refl
none_left (Write port) = refl

pub ports-queue : (ports : List ℕ) (line : Line)
    → (without_ports ports line).queue ≡ filter (left_at ports) line.queue
ports-queue [] line = sym (filter_all (left_at []) line.queue (λ thing there. none_left thing))
ports-queue (port ∷ ports) line =
    ports-queue ports (without_port port line)
    ∙ ap (filter (left_at ports))
    (filter_twice (λ other. not (same_thing (Read port) other)) (λ other. not (same_thing (Write port) other)) line.queue)
    ∙ filter_twice (λ other. not (same_thing (Read port) other) && not (same_thing (Write port) other)) (left_at ports)
    line.queue
    ∙ filter_alike
    (λ other. (not (same_thing (Read port) other) && not (same_thing (Write port) other)) && left_at ports other)
    (left_at (port ∷ ports)) line.queue (λ thing there. left_more port ports thing)

pub ports-aside : (ports : List ℕ) (line : Line)
    → (without_ports ports line).aside ≡ gone_aside ports line.aside
ports-aside [] line = refl
ports-aside (port ∷ ports) line = ports-aside ports (without_port port line)

pub ports-joined : (ports : List ℕ) (line : Line) → (without_ports ports line).joined ≡ line.joined
ports-joined [] line = refl
ports-joined (port ∷ ports) line = ports-joined ports (without_port port line)

-- lines with the same parts are the same
pub same_line : (line other : Line) → line.queue ≡ other.queue → line.aside ≡ other.aside
    → line.joined ≡ other.joined → line ≡ other
same_line line other queue aside joined =
    ap (λ (ts : List Thing). let l : Line = record line { queue = ts } in l) queue
    ∙ ap (λ (a : Aside). let l : Line = record line { queue = other.queue; aside = a } in l) aside
    ∙ ap (λ (b : Bool). let l : Line = record { queue = other.queue; aside = other.aside; joined = b } in l) joined

-- ---- what stands there can be served

never_both : (a b : Bool) → a ≡ b → (not a && b) ≡ false
never_both true true is = refl
never_both true false is = refl
never_both false true is = sym is
never_both false false is = refl

-- it is no listener
abbrev no_door : Thing → Bool
no_door thing = not (same_thing (Accept Clients) thing) && not (same_thing (Accept Children) thing)

module _ (state : State) (closes : List ℕ) (queue : List Thing) (kept : IsKept state closes queue) where
  -- what isn't a listener can be served while its port is open
  able-port : (thing : Thing) → set_of queue thing ≡ true → is_listener thing ≡ false
      → is_servable state thing ≡ stands thing state
  able-port thing there other =
      alike (is_servable state thing) (stands thing state) (stands_able state thing) (kept.kept thing there other)

  -- while numbers are left
  able-left : nat_lt state.last_port (2 ^ 64 - 1) ≡ true → (thing : Thing)
      → set_of queue thing ≡ true
      → is_servable state thing ≡ stands thing state
  able-left more (Accept door) there = more
  able-left more (Read port) there = able-port (Read port) there refl
  able-left more (Write port) there = able-port (Write port) there refl

  queue-left : nat_lt state.last_port (2 ^ 64 - 1) ≡ true
      → filter (left_at closes) queue ≡ filter (is_servable state) queue
  queue-left more =
      filter_alike (left_at closes) (is_servable state) queue
      (λ thing there. sym (able-left more thing there ∙ kept.gone thing there))

  stuck-left : nat_lt state.last_port (2 ^ 64 - 1) ≡ true → filter (is_stuck state) queue ≡ []
  stuck-left more =
      filter_none (is_stuck state) queue
      (λ thing there. never_both (is_servable state thing) (stands thing state) (able-left more thing there))

  -- once none is left, of what stands there only listeners can't be served
  able-last : nat_lt state.last_port (2 ^ 64 - 1) ≡ false → (thing : Thing)
      → set_of queue thing ≡ true
      → (left_at closes thing && no_door thing) ≡ is_servable state thing
  able-last none (Accept Clients) there = sym none
  able-last none (Accept Children) there = sym none
  able-last none (Read port) there =
      and_yes (left_at closes (Read port)) ∙ sym (kept.gone (Read port) there)
      ∙ sym (able-port (Read port) there refl)
    where
      and_yes : (a : Bool) → (a && true) ≡ a
      and_yes true = refl
      and_yes false = refl
  able-last none (Write port) there =
      and_yes (left_at closes (Write port)) ∙ sym (kept.gone (Write port) there)
      ∙ sym (able-port (Write port) there refl)
    where
      and_yes : (a : Bool) → (a && true) ≡ a
      and_yes true = refl
      and_yes false = refl

  stuck-last : nat_lt state.last_port (2 ^ 64 - 1) ≡ false → (thing : Thing)
      → set_of queue thing ≡ true
      → is_stuck state thing ≡ (left_at closes thing && is_listener thing)
  stuck-last none (Accept door) there = ap (λ (b : Bool). not b && true) none
  stuck-last none (Read port) there =
      never_both (is_servable state (Read port)) (stands (Read port) state) (able-port (Read port) there refl)
      ∙ sym (and_no (left_at closes (Read port)))
    where
      and_no : (a : Bool) → (a && false) ≡ false
      and_no true = refl
      and_no false = refl
  stuck-last none (Write port) there =
      never_both (is_servable state (Write port)) (stands (Write port) state) (able-port (Write port) there refl)
      ∙ sym (and_no (left_at closes (Write port)))
    where
      and_no : (a : Bool) → (a && false) ≡ false
      and_no true = refl
      and_no false = refl

-- what is left while there are numbers
pub settles-left : (state : State) (closes : List ℕ) (line : Line) → IsKept state closes line.queue
    → nat_lt state.last_port (2 ^ 64 - 1) ≡ true → without_ports closes line ≡ settled state closes line
settles-left state closes line kept more =
    same_line (without_ports closes line) (settled state closes line)
    (ports-queue closes line ∙ queue-left state closes line.queue kept more)
    (ports-aside closes line
    ∙ ap (λ (ts : List Thing). gone_aside closes (all_aside ts line.aside))
    (sym (stuck-left state closes line.queue kept more)))
    (ports-joined closes line)

-- ---- listeners are set aside

doors-queue : (door : Door) (line : Line)
    → (door_aside door line).queue ≡ dropped (Accept door) line.queue
doors-queue door line = by_test (set_of line.queue (Accept door)) refl
  where
    by_test : (there : Bool) → set_of line.queue (Accept door) ≡ there
        → (if there then record line { queue = dropped (Accept door) line.queue; aside = put_aside (Accept door) line.aside } else line).queue
        ≡ dropped (Accept door) line.queue
    by_test true is = refl
    by_test false is = sym (absent-dropped (Accept door) line.queue is)

doors-aside : (door : Door) (line : Line) (there : Bool) → set_of line.queue (Accept door) ≡ there
    → (door_aside door line).aside ≡ (if there then put_aside (Accept door) line.aside else line.aside)
doors-aside door line true is =
    ap (λ (b : Bool). (if b then record line { queue = dropped (Accept door) line.queue; aside = put_aside (Accept door) line.aside } else line).aside) is
doors-aside door line false is =
    ap (λ (b : Bool). (if b then record line { queue = dropped (Accept door) line.queue; aside = put_aside (Accept door) line.aside } else line).aside) is

doors-joined : (door : Door) (line : Line) → (door_aside door line).joined ≡ line.joined
doors-joined door line = by_test (set_of line.queue (Accept door))
  where
    by_test : (there : Bool)
        → (if there then record line { queue = dropped (Accept door) line.queue; aside = put_aside (Accept door) line.aside } else line).joined
        ≡ line.joined
    by_test true = refl
    by_test false = refl

-- a thing that stands once is the only one that is the same
filter-same : (thing : Thing) (queue : List Thing) (there : Bool) → AreApart queue
    → set_of queue thing ≡ there
    → filter (same_thing thing) queue ≡ (if there then thing ∷ [] else [])
filter-same thing queue false apart is =
    filter_none (same_thing thing) queue (λ other also. false_by (same_thing thing other) (λ same.
    true_false (set_of queue thing) (ap (set_of queue) (same_thing-true thing other same) ∙ also) is))
filter-same thing [] true apart is = absurd (cc)
filter-same thing (first ∷ queue) true apart is =
    by_test (same_thing first thing) refl is
    (λ absent. filter-same thing queue false apart.1 absent) (λ there. filter-same thing queue true apart.1 there)
  where
    by_test : (here : Bool) → same_thing first thing ≡ here → (here || set_of queue thing) ≡ true
        → (set_of queue thing ≡ false → filter (same_thing thing) queue ≡ [])
        → (set_of queue thing ≡ true → filter (same_thing thing) queue ≡ thing ∷ [])
        → filter (same_thing thing) (first ∷ queue) ≡ thing ∷ []
    by_test true same there none one =
        let equal : first ≡ thing = same_thing-true first thing same in
        let absent : set_of queue thing ≡ false = ap (set_of queue) (sym equal) ∙ apart.0 in
        ap (λ (t : Thing). filter (same_thing t) (first ∷ queue)) (sym equal)
        ∙ ap (λ (b : Bool). cond b (first ∷ filter (same_thing first) queue) (filter (same_thing first) queue))
        (same_thing-refl first)
        ∙ ap (λ (ts : List Thing). first ∷ ts)
        (ap (λ (t : Thing). filter (same_thing t) queue) equal ∙ none absent)
        ∙ ap (λ (t : Thing). t ∷ []) equal
    by_test false other there none one =
        let apart_too : same_thing thing first ≡ false = false_by (same_thing thing first) (λ same.
        true_false (same_thing first thing) (ap (λ (t : Thing). same_thing t thing) (sym (same_thing-true thing first same)) ∙ same_thing-refl thing) other) in
        ap (λ (b : Bool). cond b (first ∷ filter (same_thing thing) queue) (filter (same_thing thing) queue)) apart_too
        ∙ one there

-- of the listeners at most one stands there
listeners : (queue : List Thing) (clients children : Bool) → AreApart queue
    → set_of queue (Accept Clients) ≡ clients → set_of queue (Accept Children) ≡ children
    → (clients ≡ true → children ≡ true → ⊥)
    → filter is_listener queue ≡ (if clients then Accept Clients ∷ [] else (if children then Accept Children ∷ [] else []))
listeners queue true true apart first other one = absurd (one refl refl)
listeners queue true false apart first other one =
    filter_alike is_listener (same_thing (Accept Clients)) queue alone
    ∙ filter-same (Accept Clients) queue true apart first
  where
    alone : (thing : Thing) → set_of queue thing ≡ true
        → is_listener thing ≡ same_thing (Accept Clients) thing
    alone (Accept Clients) there = refl
    alone (Accept Children) there = absurd (true_false (set_of queue (Accept Children)) there other)
    alone (Read port) there = refl
    alone (Write port) there = refl
listeners queue false children apart first other one =
    filter_alike is_listener (same_thing (Accept Children)) queue alone
    ∙ filter-same (Accept Children) queue children apart other
  where
    alone : (thing : Thing) → set_of queue thing ≡ true
        → is_listener thing ≡ same_thing (Accept Children) thing
    alone (Accept Clients) there = absurd (true_false (set_of queue (Accept Clients)) there first)
    alone (Accept Children) there = refl
    alone (Read port) there = refl
    alone (Write port) there = refl

-- a listener is set aside before or after
gone-put : (ports : List ℕ) (door : Door) (aside : Aside)
    → gone_aside ports (put_aside (Accept door) aside) ≡ put_aside (Accept door) (gone_aside ports aside)
gone-put [] door aside = refl
gone-put (port ∷ ports) door aside =
    gone-put ports door (taken_back (Write port) (taken_back (Read port) aside))

put-doors : (clients children : Bool) (ports : List ℕ) (aside : Aside)
    → (clients ≡ true → children ≡ true → ⊥)
    → (if children then put_aside (Accept Children) (if clients then put_aside (Accept Clients) (gone_aside ports aside) else gone_aside ports aside) else (if clients then put_aside (Accept Clients) (gone_aside ports aside) else gone_aside ports aside))
    ≡ gone_aside ports (all_aside (if clients then Accept Clients ∷ [] else (if children then Accept Children ∷ [] else [])) aside)
put-doors true true ports aside one = absurd (one refl refl)
put-doors true false ports aside one = sym (gone-put ports Clients aside)
put-doors false true ports aside one = sym (gone-put ports Children aside)
put-doors false false ports aside one = refl

-- what is left once no number is
pub settles-last : (state : State) (closes : List ℕ) (line : Line) → IsKept state closes line.queue
    → AreApart (without_ports closes line).queue → nat_lt state.last_port (2 ^ 64 - 1) ≡ false
    → door_aside Children (door_aside Clients (without_ports closes line)) ≡ settled state closes line
settles-last state closes line kept apart none =
    same_line (door_aside Children (door_aside Clients gone)) (settled state closes line)
    queue_is aside_is
    (doors-joined Children (door_aside Clients gone) ∙ doors-joined Clients gone ∙ ports-joined closes line)
  where
    gone : Line
    gone = without_ports closes line

    clients : Bool
    clients = set_of gone.queue (Accept Clients)

    children : Bool
    children = set_of gone.queue (Accept Children)

    stood : (door : Door) → set_of gone.queue (Accept door) ≡ true
        → set_of line.queue (Accept door) ≡ true
    stood door there =
        (and_both (set_of line.queue (Accept door)) (left_at closes (Accept door))
        (sym (set_of-filter (left_at closes) line.queue (Accept door))
        ∙ ap (λ (ts : List Thing). set_of ts (Accept door)) (sym (ports-queue closes line)) ∙ there)).0

    not_both : clients ≡ true → children ≡ true → ⊥
    not_both first other =
        let same : Clients ≡ Children = kept.one Clients Children (stood Clients first) (stood Children other) none in
        let no : true ≡ false = ap (λ (door : Door). same_thing (Accept Clients) (Accept door)) same in
        absurd (cc)

    queue_is : (door_aside Children (door_aside Clients gone)).queue ≡ filter (is_servable state) line.queue
    queue_is =
        doors-queue Children (door_aside Clients gone)
        ∙ ap (dropped (Accept Children)) (doors-queue Clients gone)
        ∙ filter_twice (λ other. not (same_thing (Accept Clients) other)) (λ other. not (same_thing (Accept Children) other)) gone.queue
        ∙ ap (filter (no_door)) (ports-queue closes line)
        ∙ filter_twice (left_at closes) (no_door) line.queue
        ∙ filter_alike (λ thing. left_at closes thing && no_door thing) (is_servable state) line.queue
        (able-last state closes line.queue kept none)

    stuck_is : filter (is_stuck state) line.queue ≡ filter is_listener gone.queue
    stuck_is =
        filter_alike (is_stuck state) (λ thing. left_at closes thing && is_listener thing) line.queue
        (stuck-last state closes line.queue kept none)
        ∙ sym (filter_twice (left_at closes) is_listener line.queue)
        ∙ ap (filter is_listener) (sym (ports-queue closes line))

    children_stay : set_of (door_aside Clients gone).queue (Accept Children) ≡ children
    children_stay =
        ap (λ (ts : List Thing). set_of ts (Accept Children)) (doors-queue Clients gone)
        ∙ set_of-filter (λ other. not (same_thing (Accept Clients) other)) gone.queue (Accept Children)
        ∙ and_yes children
      where
        and_yes : (a : Bool) → (a && true) ≡ a
        and_yes true = refl
        and_yes false = refl

    aside_is : (door_aside Children (door_aside Clients gone)).aside
        ≡ gone_aside closes (all_aside (filter (is_stuck state) line.queue) line.aside)
    aside_is =
        doors-aside Children (door_aside Clients gone) children children_stay
        ∙ ap (λ (a : Aside). if children then put_aside (Accept Children) a else a) (doors-aside Clients gone clients refl)
        ∙ ap (λ (a : Aside). if children then put_aside (Accept Children) (if clients then put_aside (Accept Clients) a else a) else (if clients then put_aside (Accept Clients) a else a))
        (ports-aside closes line)
        ∙ put-doors clients children closes line.aside not_both
        ∙ ap (λ (ts : List Thing). gone_aside closes (all_aside ts line.aside))
        (sym (stuck_is ∙ listeners gone.queue clients children apart refl refl not_both))
