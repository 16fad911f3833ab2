-- What a test lets pass of things: all, none, or as many as another test.
use Rattle.std.proofs.Common.{◌≡◌, ◌∙◌, Bool, true, false, List, [], ◌∷◌, refl, ap, cond, not, ◌&&◌}
use Rattle.std.specs.List.{filter}
use Rattle.loop_model.specs.Queues.{dropped}
use Rattle.loop_model.specs.Things.{same_thing, set_of}
use Rattle.loop_model.specs.declared.thing.Thing.{Thing}
use Rattle.loop_model.proofs.TestLemmas.{or_left, or_right, true_false}
use Rattle.loop_model.proofs.ThingLemmas.{false_by, same_thing-refl, same_thing-true}

-- where each passes the test, all are left
pub filter_all : (test : Thing → Bool) (things : List Thing)
    → ((thing : Thing) → set_of things thing ≡ true → test thing ≡ true) → filter test things ≡ things
filter_all test [] all = refl
filter_all test (first ∷ things) all =
    ap (λ (b : Bool). cond b (first ∷ filter test things) (filter test things))
    (all first (or_left (same_thing first first) (set_of things first) (same_thing-refl first)))
    ∙ ap (λ (ts : List Thing). first ∷ ts)
    (filter_all test things (λ thing there. all thing (or_right (same_thing first thing) (set_of things thing) there)))

-- where none does, none is
pub filter_none : (test : Thing → Bool) (things : List Thing)
    → ((thing : Thing) → set_of things thing ≡ true → test thing ≡ false) → filter test things ≡ []
filter_none test [] none = refl
filter_none test (first ∷ things) none =
    ap (λ (b : Bool). cond b (first ∷ filter test things) (filter test things))
    (none first (or_left (same_thing first first) (set_of things first) (same_thing-refl first)))
    ∙ filter_none test things (λ thing there. none thing (or_right (same_thing first thing) (set_of things thing) there))

-- tests that agree on what stands there leave the same
pub filter_alike : (test other : Thing → Bool) (things : List Thing)
    → ((thing : Thing) → set_of things thing ≡ true → test thing ≡ other thing)
    → filter test things ≡ filter other things
filter_alike test other [] same = refl
filter_alike test other (first ∷ things) same =
    ap (λ (b : Bool). cond b (first ∷ filter test things) (filter test things))
    (same first (or_left (same_thing first first) (set_of things first) (same_thing-refl first)))
    ∙ ap (λ (ts : List Thing). cond (other first) (first ∷ ts) ts)
    (filter_alike test other things
    (λ thing there. same thing (or_right (same_thing first thing) (set_of things thing) there)))

-- one test after another
pub filter_twice : (first later : Thing → Bool) (things : List Thing)
    → filter later (filter first things) ≡ filter (λ thing. first thing && later thing) things
filter_twice first later [] = refl
filter_twice first later (thing ∷ things) =
    by_test (first thing) refl (filter_twice first later things)
  where
    by_test : (b : Bool) → first thing ≡ b
        → filter later (filter first things) ≡ filter (λ t. first t && later t) things
        → filter later (cond (first thing) (thing ∷ filter first things) (filter first things))
        ≡ cond (first thing && later thing) (thing ∷ filter (λ t. first t && later t) things) (filter (λ t. first t && later t) things)
    by_test true is rest =
        rw is (ap (λ (ts : List Thing). cond (later thing) (thing ∷ ts) ts) rest)
    by_test false is rest = rw is rest

-- without what isn't there
pub absent-dropped : (thing : Thing) (things : List Thing) → set_of things thing ≡ false
    → dropped thing things ≡ things
absent-dropped thing things absent = filter_all (λ other. not (same_thing thing other)) things (λ other there.
    ap not (false_by (same_thing thing other) (λ same.
    true_false (set_of things thing) (ap (set_of things) (same_thing-true thing other same) ∙ there) absent)))
