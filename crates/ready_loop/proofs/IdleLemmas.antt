-- The first thing of a queue that can be served, and that there is none.
use Rattle.std.proofs.Common.{◌≡◌, ◌∙◌, Bool, true, false, List, [], ◌∷◌, ◌++◌, Option, Some, None, ℕ, suc, length, refl, sym, ap, not, ◌&&◌, ◌||◌, ◌==◌, if◌then◌else◌, arith}
use Rattle.std.specs.Prelude.{is_some}
use Rattle.std.specs.List.{list_any}
use Rattle.std.proofs.lemmas.Bool.Decides.{nat_tests}
use Rattle.std.proofs.lemmas.List.Folds.{list_any-append}
use Rattle.world_ports.specs.declared.events.Job.{Job}
use Rattle.agent_model.specs.State.{Port, State, is_some_bytes, owed_by, starts, wants_by}
use Rattle.loop_model.specs.LegalJournal.{is_first_job}
use Rattle.loop_model.specs.Aside.{things_aside}
use Rattle.loop_model.specs.Lines.{IsListed, IsOrdered, Line, is_idle}
use Rattle.loop_model.specs.Queues.{first_servable}
use Rattle.loop_model.specs.Servable.{has_job, is_servable}
use Rattle.loop_model.specs.Things.{same_thing, set_of}
use Rattle.loop_model.specs.declared.thing.Thing.{Thing}
use Rattle.ready_loop.specs.Standing.{front_of}
use Rattle.loop_model.proofs.AsideLemmas.{or_false}
use Rattle.loop_model.proofs.TestLemmas.{or_left, or_right}
use Rattle.loop_model.proofs.ThingLemmas.{same_thing-refl}

-- ---- what was found is ready, and can be served

pub record IsFound (state : State) (queue : List Thing) (thing : Thing) : Type 0 where
  pub ready : set_of queue thing ≡ true
  pub servable : is_servable state thing ≡ true

found_by : (test : Bool) (state : State) (first : Thing) (queue : List Thing) (thing : Thing)
    → is_servable state first ≡ test
    → (first_servable state queue ≡ Some thing → IsFound state queue thing)
    → (if test then Some first else first_servable state queue) ≡ Some thing
    → IsFound state (first ∷ queue) thing
found_by true state first queue thing is rest found =
    let same : first ≡ thing = cc in record {
      ready = or_left (same_thing first thing) (set_of queue thing) (ap (λ (t : Thing). same_thing first t) (sym same) ∙ same_thing-refl first);
      servable = ap (is_servable state) (sym same) ∙ is;
    }
found_by false state first queue thing is rest found =
    let later = rest found in record {
      ready = or_right (same_thing first thing) (set_of queue thing) later.ready;
      servable = later.servable;
    }

pub first_is_found : (state : State) (queue : List Thing) (thing : Thing)
    → first_servable state queue ≡ Some thing → IsFound state queue thing
first_is_found state [] thing found = cc
first_is_found state (first ∷ queue) thing found =
    found_by (is_servable state first) state first queue thing refl (first_is_found state queue thing) found

-- a port that is to be read is open, and so is one that is owed bytes
pub wanted_is_open : (port : Option Port) → wants_by port ≡ true → is_some port ≡ true
wanted_is_open None is = cc
wanted_is_open (Some port) is = refl

pub owed_is_open : (port : Option Port) (state : State)
    → is_some_bytes (owed_by port state.under_way) ≡ true → is_some port ≡ true
owed_is_open None state is = cc
owed_is_open (Some port) state is = refl

-- ---- something can be served exactly where the list has something

any-listed : (state : State) (queue : List Thing) → IsListed state queue
    → list_any (is_servable state) queue ≡ not (length queue == 0)
any-listed state [] listed = refl
any-listed state (first ∷ queue) listed =
    ap (λ (b : Bool). b || list_any (is_servable state) queue)
    (listed first (or_left (same_thing first first) (set_of queue first) (same_thing-refl first)))
    ∙ sym (ap not (some_longer (length queue)))
  where
    some_longer : (n : ℕ) → (suc n == 0) ≡ false
    some_longer n = grind (arith, nat_tests)

none-any : (state : State) (things : List Thing)
    → ((thing : Thing) → set_of things thing ≡ true → is_servable state thing ≡ false)
    → list_any (is_servable state) things ≡ false
none-any state [] never = refl
none-any state (first ∷ things) never =
    ap (λ (b : Bool). b || list_any (is_servable state) things)
    (never first (or_left (same_thing first first) (set_of things first) (same_thing-refl first)))
    ∙ none-any state things (λ thing there. never thing (or_right (same_thing first thing) (set_of things thing) there))

servable-any : (state : State) (line : Line) → IsOrdered state line
    → list_any (is_servable state) (line.queue ++ things_aside line.aside) ≡ not (length line.queue == 0)
servable-any state line ordered =
    list_any-append (is_servable state) line.queue (things_aside line.aside)
    ∙ ap (λ (b : Bool). list_any (is_servable state) line.queue || b) (none-any state (things_aside line.aside) ordered.quiet)
    ∙ or_false (list_any (is_servable state) line.queue)
    ∙ any-listed state line.queue ordered.listed

-- ---- nothing to do

no_jobs : (jobs : List Job) → (length jobs == 0) ≡ true → has_job jobs ≡ false
no_jobs [] empty = refl
no_jobs (job ∷ jobs) empty =
    let some : (suc (length jobs) == 0) ≡ true = empty in grind (arith, nat_tests)

not_not : (b : Bool) → not (not b) ≡ b
not_not true = refl
not_not false = refl

-- a job that is the first waits
pub job-waits : (job : Job) (jobs : List Job) → is_first_job job jobs ≡ true → has_job jobs ≡ true
job-waits job [] first = absurd (cc)
job-waits job (one ∷ jobs) first = refl

-- no job waits, and the list is empty
pub idle-is : (state : State) (line : Line) (none : Bool) → IsOrdered state line
    → (length (starts state) == 0) ≡ true → (length line.queue == 0) ≡ none → none ≡ is_idle state line
idle-is state line none ordered empty found =
    sym (ap (λ (b : Bool). not b && not (list_any (is_servable state) (line.queue ++ things_aside line.aside)))
    (no_jobs (starts state) empty)
    ∙ ap not (servable-any state line ordered) ∙ not_not (length line.queue == 0) ∙ found)

-- a list without a front is empty
pub none-front : (queue : List Thing) → front_of queue ≡ None → queue ≡ []
none-front [] none = refl
none-front (first ∷ queue) none = absurd (cc)
