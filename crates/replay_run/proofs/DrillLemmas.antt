-- Lemmas on drills: what is kept of one follows its events, and few ports join.
use Rattle.std.proofs.Common.{◌≡◌, ℕ, zero, suc, ◌+◌, ◌≤◌, List, [], ◌∷◌, ◌++◌, refl, ap, sym, subst, ◌∙◌, arith, Option, Some, None, IsSome, Bool, true, false, if◌then◌else◌, is_some, rules}
use Rattle.world_ports.specs.declared.Door.TheVariants.{Clients, Children}
use Rattle.world_ports.specs.declared.Moment.{Moment}
use Rattle.wire_text.specs.Wire.{string, uint64}
use Rattle.child_msg.specs.ChildFrames.{from_child_body}
use Rattle.child_msg.specs.Messages.{Hello, Signed}
use Rattle.agent_model.specs.Events.{Happening, Timed, Heard, Joined, Started, Tick}
use Rattle.agent_model.specs.Runs.{run}
use Rattle.agent_model.specs.State.{State, find_port, find_to_start, first_state, no_settings, starts}
use Rattle.agent_model.specs.Step.{step}
use Rattle.agent_model.proofs.RunLemmas.{last_after, step-last_port}
use Rattle.replay_run.specs.Draws.{Draws, draws_of}
use Rattle.replay_run.specs.Drill.{Drilled, agent_of, drawn_asking, drilled, heard, helped, helper_port, joined, lined, moment_of, round_of, signed, signed_by, start_drill, ticket}
use Rattle.replay_run.specs.Drilling.{Keeps, Kept, kept}
use Rattle.replay_run.specs.Settling.{after_event, takings}
use Rattle.replay_run.proofs.SettlingLemmas.{settled-last_port}

-- ---- events after events

-- the first ones lead to a state, from which the others go on
pub run-append : (state : State) (some more : List Timed) → run state (some ++ more) ≡ run (run state some) more
run-append state [] more = refl
run-append state (timed ∷ some) more = run-append (step state timed.moment timed.event).state some more

-- a line's events go on from the agent before it
pub lined-agent : (moment : Moment) (event : Happening) (drill : Drilled)
    → agent_of (lined moment event drill) ≡ run (after_event moment (agent_of drill) event) (takings moment [] (after_event moment (agent_of drill) event))
unfolding lined
lined-agent moment event drill = run-append (first_state no_settings) drill.events _

-- ---- how many ports joined

-- a line lets a port join where that is its event
pub lined-last_port : (moment : Moment) (event : Happening) (drill : Drilled)
    → (agent_of (lined moment event drill)).last_port ≡ last_after event (agent_of drill).last_port
lined-last_port moment event drill =
    ap (λ (s : State). s.last_port) (lined-agent moment event drill)
    ∙ settled-last_port moment [] (after_event moment (agent_of drill) event)
    ∙ step-last_port (agent_of drill) moment event

-- by whether the port is open
abbrev pub heard_by : Bool → Moment → ℕ → List ℕ → Drilled → Drilled
heard_by there moment port body drill = if there then lined moment (Heard port (string body)) drill else drill

heard_by-last_port : (there : Bool) (moment : Moment) (port : ℕ) (body : List ℕ) (drill : Drilled)
    → (agent_of (heard_by there moment port body drill)).last_port ≡ (agent_of drill).last_port
heard_by-last_port true moment port body drill = lined-last_port moment _ drill
heard_by-last_port false moment port body drill = refl

pub heard-last_port : (moment : Moment) (port : ℕ) (body : List ℕ) (drill : Drilled)
    → (agent_of (heard moment port body drill)).last_port ≡ (agent_of drill).last_port
unfolding heard
heard-last_port moment port body drill =
    heard_by-last_port (is_some (find_port port (agent_of drill).ports)) moment port body drill

-- by whether job 1 waits
abbrev pub helped_by : Bool → Moment → Drilled → Drilled
helped_by waits moment drill =
    if waits then heard moment helper_port (from_child_body (Hello 1 ticket))
    (lined moment (Joined Children) (lined moment (Started 1 ticket) drill)) else drill

helped_by-last_port : (waits : Bool) (moment : Moment) (drill : Drilled)
    → (agent_of (helped_by waits moment drill)).last_port ≤ suc (agent_of drill).last_port
helped_by-last_port true moment drill =
    let started = lined moment (Started 1 ticket) drill in
    let child = lined moment (Joined Children) started in
    omega (
      arith,
      lined-last_port moment (Started 1 ticket) drill,
      lined-last_port moment (Joined Children) started,
      heard-last_port moment helper_port (from_child_body (Hello 1 ticket)) child,
    )
helped_by-last_port false moment drill = omega arith

helped-last_port : (moment : Moment) (drill : Drilled)
    → (agent_of (helped moment drill)).last_port ≤ suc (agent_of drill).last_port
unfolding helped
helped-last_port moment drill =
    helped_by-last_port (is_some (find_to_start 1 (starts (agent_of drill)))) moment drill

signed_by-last_port : (ask : Option ℕ) (moment : Moment) (round : ℕ) (drill : Drilled)
    → (agent_of (signed_by ask moment round drill)).last_port ≡ (agent_of drill).last_port
signed_by-last_port None moment round drill = refl
signed_by-last_port (Some ask) moment round drill =
    heard-last_port moment helper_port (from_child_body (Signed ask (uint64 round))) (record drill { ask = None })

signed-last_port : (moment : Moment) (round : ℕ) (drill : Drilled)
    → (agent_of (signed moment round drill)).last_port ≡ (agent_of drill).last_port
unfolding signed
signed-last_port moment round drill = signed_by-last_port drill.ask moment round drill

-- the round of these draws, behind the moment's line
abbrev pub round_by : Moment → ℕ → Draws → Drilled → Drilled
round_by moment round draws drill =
    let asking = drawn_asking round draws in
    signed moment round (helped moment
    (heard moment (1 + draws.one) asking.body (record drill { number = asking.number })))

-- a round lets one join at most
round_by-last_port : (moment : Moment) (round : ℕ) (draws : Draws) (drill : Drilled)
    → (agent_of (round_by moment round draws drill)).last_port ≤ suc (agent_of drill).last_port
round_by-last_port moment round draws drill =
    let asking = drawn_asking round draws in
    let before = record drill { number = asking.number } in
    let after = heard moment (1 + draws.one) asking.body before in
    omega (
      arith,
      heard-last_port moment (1 + draws.one) asking.body before,
      helped-last_port moment after,
      signed-last_port moment round (helped moment after),
    )

round_of-last_port : (round : ℕ) (drill : Drilled)
    → (agent_of (round_of round drill)).last_port ≤ suc (agent_of drill).last_port
unfolding round_of
round_of-last_port round drill =
    let timed = lined (moment_of round) Tick drill in
    omega (
      arith,
      lined-last_port (moment_of round) Tick drill,
      round_by-last_port (moment_of round) round (draws_of 8 64 8 timed.number) timed,
    )

pub joined-last_port : (count : ℕ) (drill : Drilled)
    → (agent_of (joined count drill)).last_port ≡ (agent_of drill).last_port + count
joined-last_port zero drill = omega arith
joined-last_port (suc count) drill =
    omega (arith, lined-last_port (moment_of 0) (Joined Clients) (joined count drill), joined-last_port count drill)

-- eight clients, and a helper a round at most
pub drilled-last_port : (rounds seed : ℕ) → (agent_of (drilled rounds seed)).last_port ≤ 8 + rounds
drilled-last_port zero seed = omega (arith, joined-last_port 8 (start_drill seed))
drilled-last_port (suc rounds) seed =
    omega (arith, drilled-last_port rounds seed, round_of-last_port (suc rounds) (drilled rounds seed))

-- ---- calls, one after another

one_more : (n : ℕ) → n + 1 ≡ suc n
one_more n = omega arith

pub joined-next : (count : ℕ) (drill : Drilled)
    → joined (count + 1) drill ≡ lined (moment_of 0) (Joined Clients) (joined count drill)
joined-next count drill = ap (λ (n : ℕ). joined n drill) (one_more count)

pub drilled-next : (round seed : ℕ) → drilled (round + 1) seed ≡ round_of (round + 1) (drilled round seed)
drilled-next round seed =
    ap (λ (n : ℕ). drilled n seed) (one_more round) ∙ sym (ap (λ (n : ℕ). round_of n (drilled round seed)) (one_more round))

-- a test of what is there
there : {A : Type 0} (found : Option A) → IsSome found → is_some found ≡ true
there None some = absurd (cc)
there (Some a) some = refl

not_there : {A : Type 0} (found : Option A) → ¬ (IsSome found) → is_some found ≡ false
not_there None none = refl
not_there (Some a) none = absurd (none (search rules))

pub heard_there : (moment : Moment) (port : ℕ) (body piece : List ℕ) (old new : Kept)
    → IsSome (find_port port old.agent.ports)
    → piece ≡ string body → Keeps (lined moment (Heard port piece)) old new → Keeps (heard moment port body) old new
unfolding heard
heard_there moment port body piece old new some piece_is keeps = λ drill is.
    let here : IsSome (find_port port (agent_of drill).ports) =
    subst (λ (k : Kept). IsSome (find_port port k.agent.ports)) is some in
    keeps drill is
    ∙ ap (λ (p : List ℕ). kept (lined moment (Heard port p) drill)) piece_is
    ∙ sym (ap (λ (t : Bool). kept (heard_by t moment port body drill)) (there (find_port port (agent_of drill).ports) here))

pub heard_not : (moment : Moment) (port : ℕ) (body : List ℕ) (old : Kept)
    → ¬ (IsSome (find_port port old.agent.ports)) → Keeps (heard moment port body) old old
unfolding heard
heard_not moment port body old none = λ drill is.
    let closed : ¬ (IsSome (find_port port (agent_of drill).ports)) =
    subst (λ (k : Kept). ¬ (IsSome (find_port port k.agent.ports))) is none in
    is ∙ sym (ap (λ (t : Bool). kept (heard_by t moment port body drill)) (not_there (find_port port (agent_of drill).ports) closed))

-- by whether job 1 waits
helped_if : (waits : Bool) (moment : Moment) (old new : Kept) → is_some (find_to_start 1 (starts old.agent)) ≡ waits
    → Keeps (helped_by waits moment) old new → Keeps (helped moment) old new
unfolding helped
helped_if waits moment old new test keeps = λ drill is.
    let same : is_some (find_to_start 1 (starts (agent_of drill))) ≡ waits =
    subst (λ (k : Kept). is_some (find_to_start 1 (starts k.agent)) ≡ waits) is test in
    keeps drill is ∙ sym (ap (λ (t : Bool). kept (helped_by t moment drill)) same)

pub helped_started : (moment : Moment) (body : List ℕ) (old one two new : Kept)
    → is_some (find_to_start 1 (starts old.agent)) ≡ true
    → Keeps (lined moment (Started 1 ticket)) old one → Keeps (lined moment (Joined Children)) one two
    → body ≡ from_child_body (Hello 1 ticket) → Keeps (heard moment helper_port body) two new
    → Keeps (helped moment) old new
helped_started moment body old one two new waits starts_it joins_it body_is hears_it =
    helped_if true moment old new waits (λ drill is.
    let child = lined moment (Joined Children) (lined moment (Started 1 ticket) drill) in
    hears_it child (joins_it (lined moment (Started 1 ticket) drill) (starts_it drill is))
    ∙ ap (λ (b : List ℕ). kept (heard moment helper_port b child)) body_is)

pub helped_not : (moment : Moment) (old : Kept)
    → is_some (find_to_start 1 (starts old.agent)) ≡ false → Keeps (helped moment) old old
helped_not moment old none = helped_if false moment old old none (λ drill is. is)

-- the ask is taken out of what is kept
pub taken_out : (view old : Kept) (ask : Option ℕ) → view ≡ old → ask ≡ None
    → record view { ask = ask } ≡ record old { ask = None }
taken_out view old ask same none =
    ap (λ (k : Kept). record k { ask = ask }) same ∙ ap (λ (a : Option ℕ). record old { ask = a }) none

pub signed_not : (moment : Moment) (round : ℕ) (old new : Kept) → old.ask ≡ None → new ≡ record old { ask = None }
    → Keeps (signed moment round) old new
unfolding signed
signed_not moment round old new none new_is = λ drill is.
    let same : drill.ask ≡ None = sym (ap (λ (k : Kept). k.ask) is) ∙ none in
    new_is
    ∙ ap (λ (k : Kept). record k { ask = None }) is
    ∙ sym (ap (λ (a : Option ℕ). kept (record drill { ask = a })) same)
    ∙ sym (ap (λ (a : Option ℕ). kept (signed_by a moment round drill)) same)

pub signed_some : (moment : Moment) (round ask : ℕ) (body : List ℕ) (old before new : Kept) → old.ask ≡ Some ask
    → before ≡ record old { ask = None } → body ≡ from_child_body (Signed ask (uint64 round))
    → Keeps (heard moment helper_port body) before new → Keeps (signed moment round) old new
unfolding signed
signed_some moment round ask body old before new some before_is body_is keeps = λ drill is.
    let free = record drill { ask = None } in
    let same : drill.ask ≡ Some ask = sym (ap (λ (k : Kept). k.ask) is) ∙ some in
    keeps free (before_is ∙ ap (λ (k : Kept). record k { ask = None }) is)
    ∙ ap (λ (b : List ℕ). kept (heard moment helper_port b free)) body_is
    ∙ sym (ap (λ (a : Option ℕ). kept (signed_by a moment round drill)) same)

pub round_by_parts : (round : ℕ) (old timed before one two new : Kept) (client : ℕ) (body : List ℕ)
    → Keeps (lined (moment_of round) Tick) old timed
    → client ≡ 1 + (draws_of 8 64 8 timed.number).one → body ≡ (drawn_asking round (draws_of 8 64 8 timed.number)).body
    → before ≡ record timed { number = (drawn_asking round (draws_of 8 64 8 timed.number)).number }
    → Keeps (heard (moment_of round) client body) before one → Keeps (helped (moment_of round)) one two
    → Keeps (signed (moment_of round) round) two new → Keeps (round_of round) old new
unfolding round_of
round_by_parts round old timed before one two new client body ticks client_is body_is before_is hears helps signs = λ drill is.
    let moment = moment_of round in
    let first = lined moment Tick drill in
    let draws = draws_of 8 64 8 first.number in
    let asking = drawn_asking round draws in
    let drawn = record first { number = asking.number } in
    let timed_is : timed ≡ kept first = ticks drill is in
    let client_same : client ≡ 1 + draws.one =
    client_is ∙ ap (λ (k : Kept). 1 + (draws_of 8 64 8 k.number).one) timed_is in
    let body_same : body ≡ asking.body =
    body_is ∙ ap (λ (k : Kept). (drawn_asking round (draws_of 8 64 8 k.number)).body) timed_is in
    let drawn_is : before ≡ kept drawn =
    before_is ∙ ap (λ (k : Kept). record k { number = (drawn_asking round (draws_of 8 64 8 k.number)).number }) timed_is in
    let heard_is : one ≡ kept (heard moment (1 + draws.one) asking.body drawn) =
    hears drawn drawn_is
    ∙ ap (λ (n : ℕ). kept (heard moment n body drawn)) client_same
    ∙ ap (λ (b : List ℕ). kept (heard moment (1 + draws.one) b drawn)) body_same in
    signs (helped moment (heard moment (1 + draws.one) asking.body drawn)) (helps (heard moment (1 + draws.one) asking.body drawn) heard_is)
