-- Which calls leave one thing before another.
use Rattle.std.proofs.Common.{◌≡◌, ◌∙◌, ℕ, Bool, true, false, List, [], ◌∷◌, ◌++◌, Option, None, Ok, Err, sym, ap, ◌||◌, if◌then◌else◌}
use Rattle.std.specs.Option.{option_map_or}
use Rattle.world_ports.specs.declared.answers.Accepted.TheVariants as accepted
use Rattle.world_ports.specs.declared.answers.Polled.TheVariants as polled
use Rattle.world_ports.specs.declared.entry.Entry.{Entry}
use Rattle.world_ports.specs.declared.entry.Entry.TheVariants as entry
use Rattle.agent_model.specs.State.{State}
use Rattle.loop_model.specs.Aside.{put_aside}
use Rattle.loop_model.specs.Dues.{Closing, Due, Free, Nothing, NowFor, Polling, port_of}
use Rattle.loop_model.specs.Servable.{is_servable}
use Rattle.loop_model.specs.Things.{same_thing, set_of}
use Rattle.loop_model.specs.declared.thing.Thing.{Thing}
use Rattle.loop_model.specs.declared.thing.Thing.TheVariants.{Accept, Read, Write}
use Rattle.loop_model.specs.Fairness.{is_service}
use Rattle.loop_model.specs.Calls.{Move, moved, moved_on, served_of}
use Rattle.loop_model.specs.Lines.{Line, after_event, hot_of, in_hand, placed, queued, queued_all, queued_port, recalled, settled}
use Rattle.loop_model.specs.Queues.{first_servable}
use Rattle.loop_model.proofs.AddingLemmas.{Adds, adds-queued_all, adds-queued_port, adds-returned}
use Rattle.loop_model.proofs.AsideLemmas.{set_of-append}
use Rattle.loop_model.proofs.JournalLemmas.{is_in_turn}
use Rattle.loop_model.proofs.BackLemmas.{comes-recalled}
use Rattle.loop_model.proofs.ThingLemmas.{same_thing-true}
use Rattle.loop_model.proofs.AheadLemmas.{ahead, ahead_alone, ahead_filter, ahead_left, ahead_more, gone_at, left_ahead, not_first}

-- what becomes ready goes behind the other thing
ahead_adds : (other thing : Thing) (line after : Line) → Adds line after
    → ahead other thing line.queue ≡ true
    → ahead other thing after.queue ≡ true
ahead_adds other thing line after adds is =
    ap (ahead other thing) adds.queue ∙ ahead_more other thing line.queue adds.news is

-- and so does what comes back after an event
ahead_event : (state : State) (closes : List ℕ) (own : Option ℕ) (hand : Option Thing) (other thing : Thing) (line : Line)
    → is_servable state other ≡ true → ahead other thing line.queue ≡ true
    → ahead other thing (after_event state closes own hand line).queue ≡ true
ahead_event state closes own hand other thing line able is =
    let base = settled state closes line in
    let back = comes-recalled state own base in
    ahead_adds other thing (recalled state own base) (after_event state closes own hand line)
    (adds-returned state hand (recalled state own base))
    (ap (ahead other thing) back.behind
    ∙ ahead_more other thing base.queue back.more (ahead_filter (is_servable state) other thing line.queue able is))

ahead_moved : (due : Due) (left : State) (closes : List ℕ) (other thing : Thing) (line : Line)
    → is_servable left other ≡ true → ahead other thing line.queue ≡ true
    → ahead other thing (moved_on due left closes line).queue ≡ true
ahead_moved Free left closes other thing line able is = ahead_event left closes None None other thing line able is
ahead_moved (NowFor event) left closes other thing line able is =
    ahead_event left closes (port_of event left.last_port) (served_of event) other thing line able is
ahead_moved (Closing port later) left closes other thing line able is = is
ahead_moved Polling left closes other thing line able is = is
ahead_moved Nothing left closes other thing line able is = is

-- ---- a call that doesn't serve it leaves it there

pub ahead_after : (move : Move) (next : Entry) (other thing : Thing) (line : Line)
    → is_service other next ≡ false → is_servable move.left other ≡ true → ahead other thing line.queue ≡ true
    → ahead other thing (moved move next line).queue ≡ true
ahead_after move (entry.Bind door path answer) other thing line apart able is = is
ahead_after move (entry.Poll wait items (Ok polled.Some)) other thing line apart able is =
    ahead_adds other thing line (queued_all move.state items line) (adds-queued_all move.state items line) is
ahead_after move (entry.Poll wait items (Ok polled.Over)) other thing line apart able is = is
ahead_after move (entry.Poll wait items (Err fault)) other thing line apart able is = is
ahead_after move (entry.Accept door (Ok (accepted.Port number))) other thing line apart able is =
    let base = in_hand (Accept door) line in
    ahead_adds other thing base (queued_port move.state number base) (adds-queued_port move.state number base)
    (ahead_left other thing (Accept door) line.queue apart is)
ahead_after move (entry.Accept door (Ok accepted.NotNow)) other thing line apart able is =
    ahead_left other thing (Accept door) line.queue apart is
ahead_after move (entry.Accept door (Err fault)) other thing line apart able is =
    ahead_left other thing (Accept door) line.queue apart is
ahead_after move (entry.Read port room bytes answer) other thing line apart able is =
    ahead_left other thing (Read port) line.queue apart is
ahead_after move (entry.Write port offered answer) other thing line apart able is =
    ahead_left other thing (Write port) line.queue apart is
ahead_after move (entry.Close port answer) other thing line apart able is = is
ahead_after move (entry.Start job answer) other thing line apart able is = is
ahead_after move (entry.Now (Ok moment)) other thing line apart able is =
    ahead_moved move.due move.left move.closes other thing line able is
ahead_after move (entry.Now (Err want)) other thing line apart able is = is

-- ---- a service takes the thing out of the queue

lacks_more : (queue : List Thing) (thing third : Thing) → same_thing third thing ≡ false
    → set_of queue thing ≡ false
    → set_of (queue ++ third ∷ []) thing ≡ false
lacks_more queue thing third apart lacks =
    set_of-append queue (third ∷ []) thing
    ∙ ap (λ (b : Bool). b || (same_thing third thing || false)) lacks ∙ ap (λ (b : Bool). b || false) apart

lacks_placed : (able : Bool) (thing third : Thing) (line : Line) → same_thing third thing ≡ false
    → set_of line.queue thing ≡ false
    → set_of (if able then record line { queue = line.queue ++ third ∷ [] } else record line { aside = put_aside third line.aside }).queue thing ≡ false
lacks_placed true thing third line apart lacks = lacks_more line.queue thing third apart lacks
lacks_placed false thing third line apart lacks = lacks

lacks_queued : (hot : Bool) (state : State) (thing third : Thing) (line : Line)
    → same_thing third thing ≡ false
    → set_of line.queue thing ≡ false → set_of (if hot then line else placed state third line).queue thing ≡ false
lacks_queued true state thing third line apart lacks = lacks
lacks_queued false state thing third line apart lacks =
    lacks_placed (is_servable state third) thing third line apart lacks

lacks_port : (state : State) (port : ℕ) (thing : Thing) (line : Line)
    → same_thing (Read port) thing ≡ false
    → same_thing (Write port) thing ≡ false → set_of line.queue thing ≡ false
    → set_of (queued_port state port line).queue thing ≡ false
lacks_port state port thing line read write lacks =
    let mid = queued state (Read port) line in
    lacks_queued (hot_of mid (Write port)) state thing (Write port) mid write
    (lacks_queued (hot_of line (Read port)) state thing (Read port) line read lacks)

pub ahead_of_served : (move : Move) (next : Entry) (other thing : Thing) (line : Line)
    → is_service thing next ≡ true → set_of (moved move next line).queue other ≡ true
    → ahead other thing (moved move next line).queue ≡ true
ahead_of_served move (entry.Bind door path answer) other thing line service has =
    absurd (cc)
ahead_of_served move (entry.Poll wait items answer) other thing line service has =
    absurd (cc)
ahead_of_served move (entry.Accept door (Ok (accepted.Port number))) other thing line service has =
    let base = in_hand (Accept door) line in
    let is : Accept door ≡ thing = same_thing-true (Accept door) thing service in
    let lacks : set_of base.queue thing ≡ false =
    ap (λ (t : Thing). set_of base.queue t) (sym is) ∙ gone_at (Accept door) line.queue in
    ahead_alone other thing (queued_port move.state number base).queue has
    (lacks_port move.state number thing base (ap (same_thing (Read number)) (sym is)) (ap (same_thing (Write number)) (sym is))
    lacks)
ahead_of_served move (entry.Accept door (Ok accepted.NotNow)) other thing line service has =
    left_ahead other thing (Accept door) line.queue service has
ahead_of_served move (entry.Accept door (Err fault)) other thing line service has =
    left_ahead other thing (Accept door) line.queue service has
ahead_of_served move (entry.Read port room bytes answer) other thing line service has =
    left_ahead other thing (Read port) line.queue service has
ahead_of_served move (entry.Write port offered answer) other thing line service has =
    left_ahead other thing (Write port) line.queue service has
ahead_of_served move (entry.Close port answer) other thing line service has =
    absurd (cc)
ahead_of_served move (entry.Start job answer) other thing line service has =
    absurd (cc)
ahead_of_served move (entry.Now answer) other thing line service has = absurd (cc)

-- ---- what stands before it is served first

-- a call that serves this thing isn't in turn
pub out_of_turn : (state : State) (next : Entry) (other thing : Thing) (queue : List Thing)
    → is_service thing next ≡ true
    → is_servable state other ≡ true → same_thing thing other ≡ false → ahead other thing queue ≡ true
    → is_in_turn state queue next ≡ false
out_of_turn state (entry.Bind door path answer) other thing queue service waits apart is = cc
out_of_turn state (entry.Poll wait items answer) other thing queue service waits apart is = cc
out_of_turn state (entry.Accept door answer) other thing queue service waits apart is =
    ap (λ (t : Thing). option_map_or (same_thing t) (first_servable state queue) false) (same_thing-true (Accept door) thing service)
    ∙ not_first state other thing queue waits apart is
out_of_turn state (entry.Read port room bytes answer) other thing queue service waits apart is =
    ap (λ (t : Thing). option_map_or (same_thing t) (first_servable state queue) false) (same_thing-true (Read port) thing service)
    ∙ not_first state other thing queue waits apart is
out_of_turn state (entry.Write port offered answer) other thing queue service waits apart is =
    ap (λ (t : Thing). option_map_or (same_thing t) (first_servable state queue) false) (same_thing-true (Write port) thing service)
    ∙ not_first state other thing queue waits apart is
out_of_turn state (entry.Close port answer) other thing queue service waits apart is = cc
out_of_turn state (entry.Start job answer) other thing queue service waits apart is = cc
out_of_turn state (entry.Now answer) other thing queue service waits apart is = cc
