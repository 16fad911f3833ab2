-- A turn of the list: what is served stood first, the others keep their order, and it stands last where it can be served.
use Rattle.std.proofs.Common.{◌≡◌, ◌∙◌, ℕ, Bool, true, false, List, [], ◌∷◌, ◌++◌, Option, Some, None, refl, sym, ap, cond, is_some, not, ◌&&◌, ◌||◌, if◌then◌else◌}
use Rattle.std.specs.Option.{option_map_or}
use Rattle.std.proofs.lemmas.List.{append-nil}
use Rattle.std.specs.List.{filter}
use Rattle.agent_model.specs.State.{Port, State, UnderWay, find_port, is_some_bytes, owed_by, wants_by}
use Rattle.loop_model.specs.Aside.{put_aside, things_aside}
use Rattle.loop_model.specs.Elsewhere.{stands}
use Rattle.loop_model.specs.Servable.{is_servable}
use Rattle.loop_model.specs.Things.{same_thing, set_of}
use Rattle.loop_model.specs.declared.thing.Thing.{Thing}
use Rattle.loop_model.specs.declared.thing.Thing.TheVariants.{Accept, Read, Write}
use Rattle.loop_model.specs.Fairness.{GoesRound, KeepsOrder, only_if}
use Rattle.loop_model.specs.Lines.{IsExact, IsListed, IsOrdered, Line, after_event, hot_of, recalled, settled}
use Rattle.loop_model.specs.Queues.{AreApart, dropped, first_servable, is_next}
use Rattle.loop_model.proofs.AsideLemmas.{set_of-append, set_of-filter}
use Rattle.loop_model.proofs.BackLemmas.{comes-recalled}
use Rattle.loop_model.proofs.FilterLemmas.{absent-dropped, filter_alike}
use Rattle.loop_model.proofs.QuietLemmas.{ordered-event}
use Rattle.loop_model.proofs.TestLemmas.{alike, and_both, both_and, or_left, or_right}
use Rattle.loop_model.proofs.ThingLemmas.{false_by, same_thing-refl, same_thing-true}

-- ---- exactly

exact_by : (listed aside able : Bool) → (listed ≡ true → able ≡ true)
    → (aside ≡ true → able ≡ false)
    → listed ≡ ((listed || aside) && able)
exact_by true aside able is never = sym (is refl)
exact_by false true able is never = sym (never refl)
exact_by false false able is never = refl

-- where the list can be served, and what is set aside can't be, the list is exact
pub exact : (state : State) (line : Line) → IsOrdered state line → AreApart line.queue
    → IsExact state line
exact state line ordered apart = record {
  each = λ thing.
      exact_by (set_of line.queue thing) (set_of (things_aside line.aside) thing) (is_servable state thing)
      (ordered.listed thing) (ordered.quiet thing)
      ∙ ap (λ (b : Bool). b && is_servable state thing) (sym (set_of-append line.queue (things_aside line.aside) thing));
  once = apart;
}

able_by : (listed hot able : Bool) → listed ≡ (hot && able) → listed ≡ true → able ≡ true
able_by listed hot able is there = (and_both hot able (sym is ∙ there)).1

pub exact-listed : (state : State) (line : Line) → IsExact state line → IsListed state line.queue
exact-listed state line is thing there =
    able_by (set_of line.queue thing) (hot_of line thing) (is_servable state thing) (is.each thing) there

-- ---- what was served stands last

last_by : (stand able : Bool) (state : State) (thing : Thing) (line : Line)
    → stands thing state ≡ stand
    → is_servable state thing ≡ able → (able ≡ true → stand ≡ true)
    → (if stand then (if able then record line { queue = line.queue ++ thing ∷ [] } else record line { aside = put_aside thing line.aside }) else line).queue
    ≡ line.queue ++ only_if able thing
last_by true true state thing line stand able both = refl
last_by true false state thing line stand able both = sym (append-nil line.queue)
last_by false true state thing line stand able both =
    let no : false ≡ true = both refl in absurd (cc)
last_by false false state thing line stand able both = sym (append-nil line.queue)

-- what can be served stands
pub open_wants : (found : Option Port) → wants_by found ≡ true → is_some found ≡ true
open_wants None able = absurd (cc)
open_wants (Some at) able = refl

pub open_owed : (found : Option Port) (u : UnderWay) → is_some_bytes (owed_by found u) ≡ true
    → is_some found ≡ true
open_owed None u able = absurd (cc)
open_owed (Some at) u able = refl

pub stands_able : (state : State) (thing : Thing) → is_servable state thing ≡ true
    → stands thing state ≡ true
stands_able state (Accept door) able = refl
stands_able state (Read port) able = open_wants (find_port port state.ports) able
stands_able state (Write port) able = open_owed (find_port port state.ports) state.under_way able

module _ (left : State) (closes : List ℕ) (own : Option ℕ) (line : Line) where
  abbrev base : Line
  base = settled left closes line

  -- what comes back behind those that keep their places
  abbrev more : List Thing
  more = (comes-recalled left own base).more

  abbrev kept : List Thing
  kept = filter (is_servable left) line.queue

  -- with what was served behind them
  after-queue : (thing : Thing)
      → (after_event left closes own (Some thing) line).queue ≡ (kept ++ more) ++ only_if (is_servable left thing) thing
  after-queue thing =
      last_by (stands thing left) (is_servable left thing) left thing (recalled left own base) refl refl
      (stands_able left thing)
      ∙ ap (λ (ts : List Thing). ts ++ only_if (is_servable left thing) thing) (comes-recalled left own base).behind

  there_by : (able : Bool) (thing : Thing) (front : List Thing) → able ≡ true
      → set_of (front ++ only_if able thing) thing ≡ true
  there_by true thing front is =
      set_of-append front (thing ∷ []) thing
      ∙ or_right (set_of front thing) (set_of (thing ∷ []) thing) (or_left (same_thing thing thing) false (same_thing-refl thing))
  there_by false thing front is = absurd (cc)

  -- the list has what was served exactly where it can be served
  has-served : (thing : Thing)
      → set_of (after_event left closes own (Some thing) line).queue thing ≡ is_servable left thing
  has-served thing =
      alike (set_of (after_event left closes own (Some thing) line).queue thing) (is_servable left thing)
      ((ordered-event left closes own (Some thing) line).listed thing)
      (λ able. ap (λ (ts : List Thing). set_of ts thing) (after-queue thing)
      ∙ there_by (is_servable left thing) thing (kept ++ more) able)

  kept_there : (rest : List Thing) (thing : Thing) → set_of line.queue thing ≡ true
      → is_servable left thing ≡ true
      → set_of ((kept ++ more) ++ rest) thing ≡ true
  kept_there rest thing there able =
      set_of-append (kept ++ more) rest thing
      ∙ or_left (set_of (kept ++ more) thing) (set_of rest thing)
      (set_of-append kept more thing
      ∙ or_left (set_of kept thing) (set_of more thing)
      (set_of-filter (is_servable left) line.queue thing
      ∙ both_and (set_of line.queue thing) (is_servable left thing) there able))

  has-kept : (thing : Thing)
      → filter (set_of (after_event left closes own (Some thing) line).queue) line.queue ≡ kept
  has-kept thing =
      filter_alike (set_of (after_event left closes own (Some thing) line).queue) (is_servable left) line.queue
      (λ other there.
      alike (set_of (after_event left closes own (Some thing) line).queue other) (is_servable left other)
      ((ordered-event left closes own (Some thing) line).listed other)
      (λ able. ap (λ (ts : List Thing). set_of ts other) (after-queue thing)
      ∙ kept_there (only_if (is_servable left thing) thing) other there able))

  pub event-round : (thing : Thing) (before : List Thing) → before ≡ thing ∷ line.queue
      → GoesRound thing before (after_event left closes own (Some thing) line).queue
  event-round thing before is = record {
    others = line.queue;
    first = is;
    new = more;
    order =
        after-queue thing
        ∙ ap (λ (ts : List Thing). (ts ++ more) ++ only_if (is_servable left thing) thing) (sym (has-kept thing))
        ∙ ap (λ (b : Bool). (filter (set_of (after_event left closes own (Some thing) line).queue) line.queue ++ more) ++ only_if b thing)
        (sym (has-served thing));
  }

-- ---- nothing was served, or its port ended

module _ (left : State) (closes : List ℕ) (own : Option ℕ) (line : Line) where
  abbrev back : List Thing
  back = (comes-recalled left own (settled left closes line)).more

  abbrev stays : List Thing
  stays = filter (is_servable left) line.queue

  quiet-queue : (after_event left closes own None line).queue ≡ stays ++ back
  quiet-queue = (comes-recalled left own (settled left closes line)).behind

  stays_there : (thing : Thing) → set_of line.queue thing ≡ true → is_servable left thing ≡ true
      → set_of (after_event left closes own None line).queue thing ≡ true
  stays_there thing there able =
      ap (λ (ts : List Thing). set_of ts thing) quiet-queue
      ∙ set_of-append stays back thing
      ∙ or_left (set_of stays thing) (set_of back thing)
      (set_of-filter (is_servable left) line.queue thing
      ∙ both_and (set_of line.queue thing) (is_servable left thing) there able)

  has-stays : filter (set_of (after_event left closes own None line).queue) line.queue ≡ stays
  has-stays =
      filter_alike (set_of (after_event left closes own None line).queue) (is_servable left) line.queue
      (λ thing there.
      alike (set_of (after_event left closes own None line).queue thing) (is_servable left thing)
      ((ordered-event left closes own None line).listed thing) (stays_there thing there))

  pub event-keeps : KeepsOrder line.queue (after_event left closes own None line).queue
  event-keeps = record {
    new = back;
    order = quiet-queue ∙ ap (λ (ts : List Thing). ts ++ back) (sym has-stays);
  }

  pub event-ended : (thing : Thing) (before : List Thing) → before ≡ thing ∷ line.queue
      → is_servable left thing ≡ false → GoesRound thing before (after_event left closes own None line).queue
  unfolding event-keeps
  event-ended thing before is never =
      let after = (after_event left closes own None line).queue in
      let gone : set_of after thing ≡ false = false_by (set_of after thing) (λ there.
      let able : is_servable left thing ≡ true = (ordered-event left closes own None line).listed thing there in cc) in
      record {
        others = line.queue;
        first = is;
        new = back;
        order =
            event-keeps.order
            ∙ sym (append-nil (filter (set_of after) line.queue ++ back))
            ∙ ap (λ (b : Bool). (filter (set_of after) line.queue ++ back) ++ only_if b thing) (sym gone);
      }

-- ---- what is served stands first

-- the first that can be served is the first of a list in which all can
pub first_is : (state : State) (thing : Thing) (queue : List Thing) → IsListed state queue
    → AreApart queue
    → is_next state queue thing ≡ true → queue ≡ thing ∷ dropped thing queue
first_is state thing [] listed apart next = absurd (cc)
first_is state thing (first ∷ queue) listed apart next =
    let able : is_servable state first ≡ true =
    listed first (or_left (same_thing first first) (set_of queue first) (same_thing-refl first)) in
    let found : option_map_or (same_thing thing) (first_servable state (first ∷ queue)) false ≡ same_thing thing first =
    ap (λ (b : Bool). option_map_or (same_thing thing) (if b then Some first else first_servable state queue) false) able in
    let same : thing ≡ first = same_thing-true thing first (sym found ∙ next) in
    let rest : dropped thing (first ∷ queue) ≡ queue =
    ap (λ (t : Thing). dropped t (first ∷ queue)) same
    ∙ ap (λ (b : Bool). cond (not b) (first ∷ dropped first queue) (dropped first queue)) (same_thing-refl first)
    ∙ absent-dropped first queue apart.0 in
    ap (λ (ts : List Thing). first ∷ ts) (sym rest) ∙ ap (λ (t : Thing). t ∷ dropped thing (first ∷ queue)) (sym same)
