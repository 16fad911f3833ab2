-- What is in the list can be served, and what is set aside can't be.
use Rattle.std.proofs.Common.{◌≡◌, ◌∙◌, inl, inr, ℕ, Bool, true, false, List, [], ◌∷◌, ◌++◌, Option, Some, None, Ok, Err, refl, sym, ap, subst, not, ◌&&◌, if◌then◌else◌}
use Rattle.std.specs.Prelude.{option_and_then}
use Rattle.std.specs.List.{filter}
use Rattle.world_ports.specs.declared.answers.Accepted.TheVariants as accepted
use Rattle.world_ports.specs.declared.answers.Polled.TheVariants as polled
use Rattle.world_ports.specs.declared.answers.Ready.{Ready}
use Rattle.world_ports.specs.declared.answers.Spot.{Spot}
use Rattle.world_ports.specs.declared.answers.Spot.TheVariants as spot
use Rattle.world_ports.specs.declared.entry.Entry.{Entry}
use Rattle.world_ports.specs.declared.entry.Entry.TheVariants as entry
use Rattle.agent_model.specs.State.{State, is_open}
use Rattle.agent_model.specs.Step.{step}
use Rattle.loop_model.specs.Calls.{served_of}
use Rattle.loop_model.specs.Dues.{Closing, Due, Free, Nothing, NowFor, Polling, port_of}
use Rattle.loop_model.specs.Elsewhere.{stands}
use Rattle.loop_model.specs.LegalJournal.{LoopState, after_entries, after_entry, after_if_legal, closed_by, events_brought, in_state}
use Rattle.loop_model.specs.Servable.{is_servable}
use Rattle.loop_model.specs.Things.{same_thing, set_of}
use Rattle.loop_model.specs.declared.thing.Thing.{Thing}
use Rattle.loop_model.specs.declared.thing.Thing.TheVariants.{Accept, Read, Write}
use Rattle.loop_model.specs.Aside.{Aside, put_aside, things_aside}
use Rattle.loop_model.specs.Lines.{IsListed, IsOrdered, IsQuiet, Line, after_event, called_own, hot_of, in_hand, placed, queued, queued_all, queued_by, queued_if, queued_port, recalled, returned, settled}
use Rattle.loop_model.specs.Queues.{dropped}
use Rattle.loop_model.proofs.AsideLemmas.{set_of-append, set_of-dropped, set_of-filter, set_of-put_aside, set_of-still_aside}
use Rattle.loop_model.proofs.BackLemmas.{comes-recalled}
use Rattle.loop_model.proofs.JournalLemmas.{leads}
use Rattle.loop_model.proofs.TestLemmas.{and_both, not_true, or_either, or_first}
use Rattle.loop_model.proofs.ThingLemmas.{same_thing-true}

-- nothing of these can be served
abbrev IsStill : State → Aside → Type 0
IsStill state aside =
    (thing : Thing) → set_of (things_aside aside) thing ≡ true → is_servable state thing ≡ false

still-put_aside : (state : State) (thing : Thing) (aside : Aside) → is_servable state thing ≡ false
    → IsStill state aside → IsStill state (put_aside thing aside)
still-put_aside state thing aside never still other there =
    elim (or_either (same_thing thing other) (set_of (things_aside aside) other)
    (sym (ap (λ (hot : Thing → Bool). hot other) (set_of-put_aside thing aside)) ∙ there)) [
      | inl same ↦ ap (is_servable state) (sym (same_thing-true thing other same)) ∙ never
      | inr before ↦ still other before
    ]

listed-more : (state : State) (queue more : List Thing) → IsListed state queue → IsListed state more
    → IsListed state (queue ++ more)
listed-more state queue more first later thing there =
    elim (or_either (set_of queue thing) (set_of more thing) (sym (set_of-append queue more thing) ∙ there)) [
      | inl here ↦ first thing here
      | inr behind ↦ later thing behind
    ]

listed-one : (state : State) (thing : Thing) → is_servable state thing ≡ true
    → IsListed state (thing ∷ [])
listed-one state thing able other there =
    ap (is_servable state) (sym (same_thing-true thing other (or_first (same_thing thing other) false refl there))) ∙ able

placed_by : (able : Bool) (state : State) (thing : Thing) (line : Line)
    → is_servable state thing ≡ able
    → IsQuiet state line
    → IsQuiet state (if able then record line { queue = line.queue ++ thing ∷ [] } else record line { aside = put_aside thing line.aside })
placed_by true state thing line able quiet = quiet
placed_by false state thing line never quiet = still-put_aside state thing line.aside never quiet

quiet-placed : (state : State) (thing : Thing) (line : Line) → IsQuiet state line
    → IsQuiet state (placed state thing line)
quiet-placed state thing line quiet =
    placed_by (is_servable state thing) state thing line refl quiet

listed_by : (able : Bool) (state : State) (thing : Thing) (line : Line)
    → is_servable state thing ≡ able
    → IsListed state line.queue
    → IsListed state (if able then record line { queue = line.queue ++ thing ∷ [] } else record line { aside = put_aside thing line.aside }).queue
listed_by true state thing line able listed =
    listed-more state line.queue (thing ∷ []) listed (listed-one state thing able)
listed_by false state thing line never listed = listed

listed-placed : (state : State) (thing : Thing) (line : Line) → IsListed state line.queue
    → IsListed state (placed state thing line).queue
listed-placed state thing line listed =
    listed_by (is_servable state thing) state thing line refl listed

-- ---- what holds of a line, and of it with a thing placed

module _ (state : State) (Holds : Line → Type 0) (place : (thing : Thing) (line : Line) → Holds line → Holds (placed state thing line)) where
  queued_hot : (there : Bool) (thing : Thing) (line : Line) → Holds line
      → Holds (if there then line else placed state thing line)
  queued_hot true thing line holds = holds
  queued_hot false thing line holds = place thing line holds

  holds-queued : (thing : Thing) (line : Line) → Holds line → Holds (queued state thing line)
  holds-queued thing line holds = queued_hot (hot_of line thing) thing line holds

  holds-if : (test : Bool) (thing : Thing) (line : Line) → Holds line
      → Holds (queued_if test state thing line)
  holds-if true thing line holds = holds-queued thing line holds
  holds-if false thing line holds = holds

  holds-port : (port : ℕ) (line : Line) → Holds line → Holds (queued_port state port line)
  holds-port port line holds = holds-queued (Write port) (queued state (Read port) line) (holds-queued (Read port) line holds)

  holds-by : (at : Spot) (readable writable : Bool) (line : Line) → Holds line
      → Holds (queued_by state at readable writable line)
  holds-by (spot.Door door) readable writable line holds =
      holds-if readable (Accept door) line holds
  holds-by (spot.Port port) readable writable line holds =
      holds-if (writable && is_open port state) (Write port) _ (holds-if (readable && is_open port state) (Read port) line holds)

  holds-all : (items : List Ready) (line : Line) → Holds line → Holds (queued_all state items line)
  holds-all [] line holds = holds
  holds-all (item ∷ items) line holds =
      holds-all items _ (holds-by item.spot item.readable item.writable line holds)

  back_by : (there : Bool) (thing : Thing) (line : Line) → Holds line
      → Holds (if there then placed state thing line else line)
  back_by true thing line holds = place thing line holds
  back_by false thing line holds = holds

  holds-returned : (hand : Option Thing) (line : Line) → Holds line
      → Holds (returned state hand line)
  holds-returned None line holds = holds
  holds-returned (Some thing) line holds = back_by (stands thing state) thing line holds

-- ---- after an event

pub quiet_recalled : (state : State) (own : Option ℕ) (line : Line)
    → IsQuiet state (recalled state own line)
quiet_recalled state own line thing there =
    let before = called_own state own line in
    not_true (is_servable state thing)
    (and_both (set_of (things_aside before.aside) thing) (not (is_servable state thing))
    (sym (set_of-still_aside state before.aside thing) ∙ there)).1

listed_filter : (state : State) (queue : List Thing)
    → IsListed state (filter (is_servable state) queue)
listed_filter state queue thing there =
    (and_both (set_of queue thing) (is_servable state thing) (sym (set_of-filter (is_servable state) queue thing) ∙ there)).1

listed_recalled : (state : State) (own : Option ℕ) (line : Line) → IsListed state line.queue
    → IsListed state (recalled state own line).queue
listed_recalled state own line listed =
    let back = comes-recalled state own line in
    subst (IsListed state) (sym back.behind)
    (listed-more state line.queue back.more listed (λ thing there. (back.back thing there).1))

pub ordered-event : (state : State) (closes : List ℕ) (own : Option ℕ) (hand : Option Thing) (line : Line)
    → IsOrdered state (after_event state closes own hand line)
ordered-event state closes own hand line =
    let base = settled state closes line in
    record {
      listed = holds-returned state (λ l. IsListed state l.queue) (listed-placed state) hand (recalled state own base)
          (listed_recalled state own base (listed_filter state line.queue));
      quiet = holds-returned state (IsQuiet state) (quiet-placed state) hand (recalled state own base)
          (quiet_recalled state own base);
    }

-- ---- after a call

listed-hand : (state : State) (thing : Thing) (queue : List Thing) → IsListed state queue
    → IsListed state (dropped thing queue)
listed-hand state thing queue listed other there =
    listed other (and_both (not (same_thing thing other)) (set_of queue other)
    (sym (ap (λ (hot : Thing → Bool). hot other) (set_of-dropped thing queue)) ∙ there)).1

-- what placing a thing, taking it in hand and the mark of a client keep, and every event brings, an entry keeps
holds_led : (Holds : State → Line → Type 0)
    → ((state : State) (thing : Thing) (line : Line) → Holds state line → Holds state (placed state thing line))
    → ((state : State) (thing : Thing) (line : Line) → Holds state line → Holds state (in_hand thing line))
    → ((state : State) (line : Line) (joined : Bool) → Holds state line → Holds state (record line { joined = joined }))
    → ((state : State) (line : Line) → IsOrdered state line → Holds state line)
    → (state : State) (line : Line) (due : Due) (next : Entry) → Holds state line
    → let after = after_entry (in_state state line due) next in Holds after.state after.line
holds_led Holds place hand mark ordered state line due (entry.Bind door path answer) holds = holds
holds_led Holds place hand mark ordered state line due (entry.Poll wait items (Ok polled.Some)) holds =
    holds-all state (Holds state) (place state) items line holds
holds_led Holds place hand mark ordered state line due (entry.Poll wait items (Ok polled.Over)) holds = holds
holds_led Holds place hand mark ordered state line due (entry.Poll wait items (Err fault)) holds =
    holds
holds_led Holds place hand mark ordered state line due (entry.Accept door (Ok (accepted.Port number))) holds =
    mark state _ _ (holds-port state (Holds state) (place state) number (in_hand (Accept door) line) (hand state (Accept door) line holds))
holds_led Holds place hand mark ordered state line due (entry.Accept door (Ok accepted.NotNow)) holds = hand state (Accept door) line holds
holds_led Holds place hand mark ordered state line due (entry.Accept door (Err fault)) holds =
    hand state (Accept door) line holds
holds_led Holds place hand mark ordered state line due (entry.Read port room bytes answer) holds =
    hand state (Read port) line holds
holds_led Holds place hand mark ordered state line due (entry.Write port offered answer) holds =
    hand state (Write port) line holds
holds_led Holds place hand mark ordered state line due (entry.Close port answer) holds = holds
holds_led Holds place hand mark ordered state line due (entry.Start job answer) holds = holds
holds_led Holds place hand mark ordered state line (NowFor event) (entry.Now (Ok moment)) holds =
    let left = (after_entry (in_state state line (NowFor event)) (entry.Now (Ok moment))).state in
    ordered left _ (ordered-event left (step state moment event).closes (port_of event left.last_port) (served_of event) line)
holds_led Holds place hand mark ordered state line Free (entry.Now (Ok moment)) holds =
    let left = (after_entry (in_state state line Free) (entry.Now (Ok moment))).state in
    ordered left _ (ordered-event left (closed_by state (events_brought Free (entry.Now (Ok moment)))) None None line)
holds_led Holds place hand mark ordered state line (Closing port later) (entry.Now (Ok moment)) holds = holds
holds_led Holds place hand mark ordered state line Polling (entry.Now (Ok moment)) holds = holds
holds_led Holds place hand mark ordered state line Nothing (entry.Now (Ok moment)) holds = holds
holds_led Holds place hand mark ordered state line due (entry.Now (Err want)) holds = holds

-- ---- after any entries

pub quiet_taken : (from to : LoopState) (next : Entry) → after_if_legal from next ≡ Some to
    → IsQuiet from.state from.line → IsQuiet to.state to.line
quiet_taken from to next is quiet =
    subst (λ (t : LoopState). IsQuiet t.state t.line) (leads from to next is).left
    (holds_led IsQuiet quiet-placed (λ state thing line still. still) (λ state line joined still. still)
    (λ state line ordered. ordered.quiet) from.state from.line from.due next quiet)

pub ordered_taken : (from to : LoopState) (next : Entry) → after_if_legal from next ≡ Some to
    → IsOrdered from.state from.line → IsOrdered to.state to.line
ordered_taken from to next is ordered = record {
  listed = subst (λ (t : LoopState). IsListed t.state t.line.queue) (leads from to next is).left
      (holds_led (λ state line. IsListed state line.queue) listed-placed (λ state thing line. listed-hand state thing line.queue)
      (λ state line joined now. now) (λ state line now. now.listed) from.state from.line from.due next ordered.listed);
  quiet = quiet_taken from to next is ordered.quiet;
}

kept_on : (Holds : LoopState → Type 0) (found : Option LoopState) (to : LoopState) (later : List Entry)
    → option_and_then (λ after. after_entries after later) found ≡ Some to
    → ((after : LoopState) → found ≡ Some after → after_entries after later ≡ Some to → Holds to) → Holds to
kept_on Holds None to later legal rest = absurd (cc)
kept_on Holds (Some after) to later legal rest = rest after refl legal

-- what each entry keeps, any entries keep
pub holds_kept : (Holds : LoopState → Type 0)
    → ((from to : LoopState) (next : Entry) → after_if_legal from next ≡ Some to → Holds from → Holds to)
    → (from to : LoopState) (entries : List Entry) → after_entries from entries ≡ Some to → Holds from → Holds to
holds_kept Holds keeps from to [] legal holds = let same : from ≡ to = cc in subst Holds same holds
holds_kept Holds keeps from to (next ∷ later) legal holds =
    kept_on Holds (after_if_legal from next) to later legal
    (λ after is rest. holds_kept Holds keeps after to later rest (keeps from after next is holds))

pub ordered_kept : (from to : LoopState) (entries : List Entry)
    → after_entries from entries ≡ Some to
    → IsOrdered from.state from.line → IsOrdered to.state to.line
ordered_kept = holds_kept (λ (t : LoopState). IsOrdered t.state t.line) ordered_taken

pub quiet_kept : (from to : LoopState) (entries : List Entry) → after_entries from entries ≡ Some to
    → IsQuiet from.state from.line → IsQuiet to.state to.line
quiet_kept = holds_kept (λ (t : LoopState). IsQuiet t.state t.line) quiet_taken
