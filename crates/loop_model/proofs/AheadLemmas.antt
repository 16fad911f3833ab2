-- One thing stands before another in a queue.
use Rattle.std.proofs.Common.{◌≡◌, ◌∙◌, Bool, true, false, List, [], ◌∷◌, ◌++◌, Some, refl, sym, ap, cond, not, ◌&&◌, ◌||◌, if◌then◌else◌}
use Rattle.std.specs.Option.{option_map_or}
use Rattle.std.specs.List.{filter}
use Rattle.agent_model.specs.State.{State}
use Rattle.loop_model.specs.Servable.{is_servable}
use Rattle.loop_model.specs.Things.{same_thing, set_of}
use Rattle.loop_model.specs.declared.thing.Thing.{Thing}
use Rattle.loop_model.specs.Queues.{dropped, first_servable}
use Rattle.loop_model.proofs.AsideLemmas.{set_of-dropped}
use Rattle.loop_model.proofs.TestLemmas.{and_both, not_true}
use Rattle.loop_model.proofs.ThingLemmas.{false_by, same_thing-refl, same_thing-true}

-- the other stands in the queue, and this thing doesn't stand before it
abbrev pub ahead : Thing → Thing → List Thing → Bool
ahead other thing [] = false
ahead other thing (first ∷ queue) =
    if same_thing first other then true else (not (same_thing first thing) && ahead other thing queue)

-- where this thing doesn't stand at all
ahead_by : (here : Bool) (other thing first : Thing) (queue : List Thing)
    → (here || set_of queue other) ≡ true
    → (same_thing first thing || set_of queue thing) ≡ false
    → (set_of queue other ≡ true → set_of queue thing ≡ false → ahead other thing queue ≡ true)
    → (if here then true else (not (same_thing first thing) && ahead other thing queue)) ≡ true
ahead_by true other thing first queue has lacks rest = refl
ahead_by false other thing first queue has lacks rest =
    elim (same_thing first thing) as
    (λ b. (b || set_of queue thing) ≡ false → (not b && ahead other thing queue) ≡ true) [
      | true ↦ λ never. cc
      | false ↦ λ later. rest has later
    ] lacks

pub ahead_alone : (other thing : Thing) (queue : List Thing) → set_of queue other ≡ true
    → set_of queue thing ≡ false
    → ahead other thing queue ≡ true
ahead_alone other thing [] has lacks = cc
ahead_alone other thing (first ∷ queue) has lacks =
    ahead_by (same_thing first other) other thing first queue has lacks (ahead_alone other thing queue)

-- more behind it changes nothing
ahead_more_by : (here this : Bool) (front all : Bool)
    → (if here then true else (not this && front)) ≡ true
    → (front ≡ true → all ≡ true) → (if here then true else (not this && all)) ≡ true
ahead_more_by true this front all is rest = refl
ahead_more_by false true front all is rest = cc
ahead_more_by false false front all is rest = rest is

pub ahead_more : (other thing : Thing) (queue more : List Thing) → ahead other thing queue ≡ true
    → ahead other thing (queue ++ more) ≡ true
ahead_more other thing [] more is = cc
ahead_more other thing (first ∷ queue) more is =
    ahead_more_by (same_thing first other) (same_thing first thing) (ahead other thing queue)
    (ahead other thing (queue ++ more)) is
    (ahead_more other thing queue more)

-- nor does it that a third thing leaves
ahead_left_by : (gone here this : Bool) (other thing third first : Thing) (queue : List Thing)
    → same_thing third first ≡ gone → same_thing first other ≡ here → same_thing third other ≡ false
    → (if here then true else (not (same_thing first thing) && ahead other thing queue)) ≡ true
    → (ahead other thing queue ≡ true → ahead other thing (dropped third queue) ≡ true)
    → ahead other thing (cond (not gone) (first ∷ dropped third queue) (dropped third queue)) ≡ true
ahead_left_by true true this other thing third first queue gone here apart is rest =
    let same : same_thing third other ≡ true = ap (λ (t : Thing). same_thing t other)
    (same_thing-true third first gone) ∙ here in
    cc
ahead_left_by true false this other thing third first queue gone here apart is rest =
    elim (same_thing first thing) as
    (λ b. (not b && ahead other thing queue) ≡ true → ahead other thing (dropped third queue) ≡ true) [
      | true ↦ λ never. cc
      | false ↦ λ later. rest later
    ] is
ahead_left_by false here this other thing third first queue gone here_is apart is rest =
    ap (λ (b : Bool). if b then true else
    (not (same_thing first thing) && ahead other thing (dropped third queue))) here_is
    ∙ ahead_more_by here (same_thing first thing) (ahead other thing queue)
    (ahead other thing (dropped third queue)) is rest

pub ahead_left : (other thing third : Thing) (queue : List Thing) → same_thing third other ≡ false
    → ahead other thing queue ≡ true → ahead other thing (dropped third queue) ≡ true
ahead_left other thing third [] apart is = cc
ahead_left other thing third (first ∷ queue) apart is =
    ahead_left_by (same_thing third first)
    (same_thing first other) true other thing third first queue refl refl apart is
    (ahead_left other thing third queue apart)

-- nor does it that those leave that fail a test
ahead_filter_by : (kept here this : Bool) (test : Thing → Bool) (other thing first : Thing) (queue : List Thing)
    → test first ≡ kept → same_thing first other ≡ here → same_thing first thing ≡ this → test other ≡ true
    → (if here then true else (not this && ahead other thing queue)) ≡ true
    → (ahead other thing queue ≡ true → ahead other thing (filter test queue) ≡ true)
    → ahead other thing (cond kept (first ∷ filter test queue) (filter test queue)) ≡ true
ahead_filter_by true here this test other thing first queue kept here_is this_is able is rest =
    ap (λ (b : Bool). if b then true else (not (same_thing first thing) && ahead other thing (filter test queue))) here_is
    ∙ ap (λ (b : Bool). if here then true else (not b && ahead other thing (filter test queue))) this_is
    ∙ ahead_more_by here this (ahead other thing queue) (ahead other thing (filter test queue)) is rest
ahead_filter_by false true this test other thing first queue kept here_is this_is able is rest =
    let also : test first ≡ true = ap test (same_thing-true first other here_is) ∙ able in
    let no : false ≡ true = sym kept ∙ also in
    absurd (cc)
ahead_filter_by false false true test other thing first queue kept here_is this_is able is rest =
    absurd (cc)
ahead_filter_by false false false test other thing first queue kept here_is this_is able is rest =
    rest is

pub ahead_filter : (test : Thing → Bool) (other thing : Thing) (queue : List Thing)
    → test other ≡ true
    → ahead other thing queue ≡ true → ahead other thing (filter test queue) ≡ true
ahead_filter test other thing [] able is = absurd (cc)
ahead_filter test other thing (first ∷ queue) able is =
    ahead_filter_by (test first) (same_thing first other) (same_thing first thing) test other thing first queue refl refl
    refl able is (ahead_filter test other thing queue able)

-- ---- what goes to the back stands behind it

pub gone_at : (thing : Thing) (queue : List Thing) → set_of (dropped thing queue) thing ≡ false
gone_at thing queue =
    ap (λ (hot : Thing → Bool). hot thing) (set_of-dropped thing queue)
    ∙ ap (λ (b : Bool). not b && set_of queue thing) (same_thing-refl thing)

pub left_ahead : (other thing third : Thing) (queue : List Thing) → same_thing third thing ≡ true
    → set_of (dropped third queue) other ≡ true → ahead other thing (dropped third queue) ≡ true
left_ahead other thing third queue same has =
    ahead_alone other thing (dropped third queue) has
    (ap (λ (t : Thing). set_of (dropped third queue) t) (sym (same_thing-true third thing same))
    ∙ gone_at third queue)

-- ---- what stands before it is served first

-- what is the same as one of two different things isn't the other
apart_sym : (thing other first : Thing) → same_thing thing other ≡ false
    → same_thing first other ≡ true
    → same_thing thing first ≡ false
apart_sym thing other first apart here =
    ap (same_thing thing) (same_thing-true first other here) ∙ apart

apart_flip : (thing first : Thing) → same_thing first thing ≡ false → same_thing thing first ≡ false
apart_flip thing first apart = false_by (same_thing thing first) (λ same.
    let is : same_thing first thing ≡ true = ap (same_thing first) (same_thing-true thing first same)
    ∙ same_thing-refl first in cc)

not_first_by : (able here : Bool) (state : State) (other thing first : Thing) (queue : List Thing)
    → is_servable state first ≡ able → same_thing first other ≡ here → is_servable state other ≡ true
    → same_thing thing other ≡ false
    → (if here then true else (not (same_thing first thing) && ahead other thing queue)) ≡ true
    → (ahead other thing queue ≡ true → option_map_or (same_thing thing) (first_servable state queue) false ≡ false)
    → option_map_or (same_thing thing) (if able then Some first else first_servable state queue) false ≡ false
not_first_by true true state other thing first queue able here waits apart is rest =
    apart_sym thing other first apart here
not_first_by true false state other thing first queue able here waits apart is rest =
    let parts = and_both (not (same_thing first thing)) (ahead other thing queue) is in
    apart_flip thing first (not_true (same_thing first thing) parts.0)
not_first_by false true state other thing first queue able here waits apart is rest =
    let also : is_servable state first ≡ true = ap (is_servable state) (same_thing-true first other here) ∙ waits in
    cc
not_first_by false false state other thing first queue able here waits apart is rest =
    rest (and_both (not (same_thing first thing)) (ahead other thing queue) is).1

pub not_first : (state : State) (other thing : Thing) (queue : List Thing)
    → is_servable state other ≡ true
    → same_thing thing other ≡ false → ahead other thing queue ≡ true
    → option_map_or (same_thing thing) (first_servable state queue) false ≡ false
not_first state other thing [] waits apart is = cc
not_first state other thing (first ∷ queue) waits apart is =
    not_first_by (is_servable state first)
    (same_thing first other) state other thing first queue refl refl waits apart is
    (not_first state other thing queue waits apart)
