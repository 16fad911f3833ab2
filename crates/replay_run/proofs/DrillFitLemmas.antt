-- The events of a drill may come, each in the state that it finds.
use Rattle.std.proofs.Common.{◌≡◌, ℕ, zero, suc, ◌+◌, ◌-◌, ◌^◌, ◌<◌, ◌≤◌, List, [], ◌∷◌, ◌++◌, refl, arith, Option, Some, None, IsSome, Bool, true, false, is_some}
use Rattle.world_ports.specs.declared.Door.TheVariants.{Clients, Children}
use Rattle.world_ports.specs.declared.Moment.{Moment}
use Rattle.wire_text.specs.Wire.{string, uint64}
use Rattle.child_msg.specs.ChildFrames.{from_child_body}
use Rattle.child_msg.specs.Messages.{Hello, Signed}
use Rattle.agent_model.specs.Events.{Happening, Timed, Heard, Joined, Started, Tick}
use Rattle.agent_model.specs.Runs.{AllFit, run}
use Rattle.agent_model.specs.Sound.{IsSteady}
use Rattle.agent_model.specs.State.{Fits, State, find_port, find_to_start, first_state, no_settings, starts}
use Rattle.agent_model.specs.Step.{step}
use Rattle.replay_run.specs.Draws.{Draws, draws_of}
use Rattle.replay_run.specs.Drill.{Drilled, agent_of, drawn_asking, drilled, heard, helped, helper_port, joined, lined, moment_of, round_of, signed, signed_by, start_drill, ticket}
use Rattle.replay_run.proofs.DrillLemmas.{drilled-last_port, heard-last_port, heard_by, helped_by, joined-last_port, lined-last_port, round_by}
use Rattle.replay_run.proofs.FitLemmas.{comes-fit, first-steady, run-steady}
use Rattle.replay_run.proofs.TallyLemmas.{some_string}

fit-append : (state : State) (some more : List Timed) → AllFit state some → AllFit (run state some) more
    → AllFit state (some ++ more)
fit-append state [] more first later = later
fit-append state (timed ∷ some) more first later =
    (first.0, fit-append (step state timed.moment timed.event).state some more first.1 later)

-- the events so far may come
abbrev AreFit : Drilled → Type 0
AreFit drill = AllFit (first_state no_settings) drill.events

lined-fits : (moment : Moment) (event : Happening) (drill : Drilled) → Fits event (agent_of drill) → AreFit drill
    → AreFit (lined moment event drill)
unfolding lined
lined-fits moment event drill fits are =
    let steady : IsSteady (agent_of drill) = run-steady (first_state no_settings) drill.events (first-steady no_settings) in
    fit-append (first_state no_settings) drill.events _ are (comes-fit moment [] event (agent_of drill) steady fits)

-- what a test found is there
found : {A : Type 0} (one : Option A) → is_some one ≡ true → IsSome one
found None is = absurd (cc)
found (Some a) is = refl

heard_by-fits : (there : Bool) (moment : Moment) (port : ℕ) (body : List ℕ) (drill : Drilled)
    → is_some (find_port port (agent_of drill).ports) ≡ there → AreFit drill
    → AreFit (heard_by there moment port body drill)
heard_by-fits true moment port body drill is are =
    lined-fits moment (Heard port (string body)) drill (found (find_port port (agent_of drill).ports) is, some_string body) are
heard_by-fits false moment port body drill is are = are

heard-fits : (moment : Moment) (port : ℕ) (body : List ℕ) (drill : Drilled) → AreFit drill
    → AreFit (heard moment port body drill)
unfolding heard
heard-fits moment port body drill are =
    heard_by-fits (is_some (find_port port (agent_of drill).ports)) moment port body drill refl are

helped_by-fits : (waits : Bool) (moment : Moment) (drill : Drilled)
    → is_some (find_to_start 1 (starts (agent_of drill))) ≡ waits → (agent_of drill).last_port < 2 ^ 64 - 1
    → AreFit drill → AreFit (helped_by waits moment drill)
helped_by-fits true moment drill is few are =
    let started = lined moment (Started 1 ticket) drill in
    let child = lined moment (Joined Children) started in
    let room : (agent_of started).last_port < 2 ^ 64 - 1 =
    omega (arith, lined-last_port moment (Started 1 ticket) drill, few) in
    heard-fits moment helper_port (from_child_body (Hello 1 ticket)) child
    (lined-fits moment (Joined Children) started room
    (lined-fits moment (Started 1 ticket) drill (found (find_to_start 1 (starts (agent_of drill))) is) are))
helped_by-fits false moment drill is few are = are

helped-fits : (moment : Moment) (drill : Drilled) → (agent_of drill).last_port < 2 ^ 64 - 1 → AreFit drill
    → AreFit (helped moment drill)
unfolding helped
helped-fits moment drill few are =
    helped_by-fits (is_some (find_to_start 1 (starts (agent_of drill)))) moment drill refl few are

signed_by-fits : (ask : Option ℕ) (moment : Moment) (round : ℕ) (drill : Drilled) → AreFit drill
    → AreFit (signed_by ask moment round drill)
signed_by-fits None moment round drill are = are
signed_by-fits (Some ask) moment round drill are =
    heard-fits moment helper_port (from_child_body (Signed ask (uint64 round))) (record drill { ask = None }) are

signed-fits : (moment : Moment) (round : ℕ) (drill : Drilled) → AreFit drill → AreFit (signed moment round drill)
unfolding signed
signed-fits moment round drill are = signed_by-fits drill.ask moment round drill are

round_by-fits : (moment : Moment) (round : ℕ) (draws : Draws) (drill : Drilled)
    → (agent_of drill).last_port < 2 ^ 64 - 1 → AreFit drill → AreFit (round_by moment round draws drill)
round_by-fits moment round draws drill few are =
    let asking = drawn_asking round draws in
    let before = record drill { number = asking.number } in
    let after = heard moment (1 + draws.one) asking.body before in
    let room : (agent_of after).last_port < 2 ^ 64 - 1 =
    omega (arith, heard-last_port moment (1 + draws.one) asking.body before, few) in
    signed-fits moment round (helped moment after)
    (helped-fits moment after room (heard-fits moment (1 + draws.one) asking.body before are))

round_of-fits : (round : ℕ) (drill : Drilled) → (agent_of drill).last_port < 2 ^ 64 - 1 → AreFit drill
    → AreFit (round_of round drill)
unfolding round_of
round_of-fits round drill few are =
    let timed = lined (moment_of round) Tick drill in
    let room : (agent_of timed).last_port < 2 ^ 64 - 1 =
    omega (arith, lined-last_port (moment_of round) Tick drill, few) in
    round_by-fits (moment_of round) round (draws_of 8 64 8 timed.number) timed room
    (lined-fits (moment_of round) Tick drill tt are)

joined-fits : (count seed : ℕ) → count ≤ 8 → AreFit (joined count (start_drill seed))
joined-fits zero seed few = tt
joined-fits (suc count) seed few =
    let before = joined count (start_drill seed) in
    let room : (agent_of before).last_port < 2 ^ 64 - 1 =
    omega (arith, joined-last_port count (start_drill seed), few) in
    lined-fits (moment_of 0) (Joined Clients) before room (joined-fits count seed (omega (arith, few)))

-- whatever the seed
pub drill-fits : (rounds seed : ℕ) → rounds ≤ 100000
    → AllFit (first_state no_settings) (drilled rounds seed).events
drill-fits zero seed few = joined-fits 8 seed (omega arith)
drill-fits (suc rounds) seed few =
    let room : (agent_of (drilled rounds seed)).last_port < 2 ^ 64 - 1 =
    omega (arith, drilled-last_port rounds seed, few) in
    round_of-fits (suc rounds) (drilled rounds seed) room (drill-fits rounds seed (omega (arith, few)))
