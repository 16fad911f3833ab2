-- What the events of a drill let be heard are bytes.
use Rattle.std.proofs.Common.{ℕ, zero, suc, ◌+◌, ◌<◌, ◌≤◌, ◌^◌, List, [], ◌∷◌, ◌++◌, arith, Option, Some, None, Bool, true, false, is_some}
use Rattle.world_ports.specs.declared.Door.TheVariants.{Clients, Children}
use Rattle.world_ports.specs.declared.Moment.{Moment}
use Rattle.wire_text.specs.Wire.{IsBytes, string, uint64}
use Rattle.child_msg.specs.ChildFrames.{from_child_body}
use Rattle.child_msg.specs.Messages.{Hello, Signed}
use Rattle.agent_model.specs.Events.{Happening, Timed, Heard, Joined, Started, Tick}
use Rattle.agent_model.specs.State.{find_port, find_to_start, starts}
use Rattle.agent_secrecy.specs.Pieces.{AreOfBytes, IsOfBytes}
use Rattle.replay_run.specs.Draws.{Draws, draws_of}
use Rattle.replay_run.specs.Drill.{Drilled, agent_of, drawn_asking, drilled, heard, helped, helper_port, joined, lined, moment_of, round_of, signed, signed_by, start_drill, ticket}
use Rattle.replay_run.proofs.DrawLemmas.{asking-bytes, hello-bytes, signed-bytes as answer-bytes, string-bytes, two-small}
use Rattle.replay_run.proofs.DrillLemmas.{heard_by, helped_by, round_by}
use Rattle.replay_run.proofs.PieceLemmas.{comes-bytes}

bytes-append : (some more : List Timed) → AreOfBytes some → AreOfBytes more → AreOfBytes (some ++ more)
bytes-append [] more are also = also
bytes-append (timed ∷ some) more are also = (are.0, bytes-append some more are.1 also)

-- so of a drill so far
abbrev IsFine : Drilled → Type 0
IsFine drill = AreOfBytes drill.events

lined-bytes : (moment : Moment) (event : Happening) (drill : Drilled) → IsOfBytes event → IsFine drill
    → IsFine (lined moment event drill)
unfolding lined
lined-bytes moment event drill is are =
    bytes-append drill.events _ are (comes-bytes moment [] event (agent_of drill) is)

heard_by-bytes : (there : Bool) (moment : Moment) (port : ℕ) (body : List ℕ) (drill : Drilled) → IsBytes body
    → IsFine drill → IsFine (heard_by there moment port body drill)
heard_by-bytes true moment port body drill is are =
    lined-bytes moment (Heard port (string body)) drill (string-bytes body is) are
heard_by-bytes false moment port body drill is are = are

heard-bytes : (moment : Moment) (port : ℕ) (body : List ℕ) (drill : Drilled) → IsBytes body → IsFine drill
    → IsFine (heard moment port body drill)
unfolding heard
heard-bytes moment port body drill is are =
    heard_by-bytes (is_some (find_port port (agent_of drill).ports)) moment port body drill is are

helped_by-bytes : (waits : Bool) (moment : Moment) (drill : Drilled) → IsFine drill → IsFine (helped_by waits moment drill)
helped_by-bytes true moment drill are =
    let started = lined moment (Started 1 ticket) drill in
    let child = lined moment (Joined Children) started in
    heard-bytes moment helper_port (from_child_body (Hello 1 ticket)) child hello-bytes
    (lined-bytes moment (Joined Children) started tt (lined-bytes moment (Started 1 ticket) drill tt are))
helped_by-bytes false moment drill are = are

helped-bytes : (moment : Moment) (drill : Drilled) → IsFine drill → IsFine (helped moment drill)
unfolding helped
helped-bytes moment drill are =
    helped_by-bytes (is_some (find_to_start 1 (starts (agent_of drill)))) moment drill are

signed_by-bytes : (ask : Option ℕ) (moment : Moment) (round : ℕ) (drill : Drilled) → IsFine drill
    → IsFine (signed_by ask moment round drill)
signed_by-bytes None moment round drill are = are
signed_by-bytes (Some ask) moment round drill are =
    heard-bytes moment helper_port (from_child_body (Signed ask (uint64 round))) (record drill { ask = None })
    (answer-bytes ask round) are

signed-bytes : (moment : Moment) (round : ℕ) (drill : Drilled) → IsFine drill → IsFine (signed moment round drill)
unfolding signed
signed-bytes moment round drill are = signed_by-bytes drill.ask moment round drill are

round_by-bytes : (moment : Moment) (round : ℕ) (draws : Draws) (drill : Drilled) → draws.two < 128 → round < 2 ^ 64
    → IsFine drill → IsFine (round_by moment round draws drill)
round_by-bytes moment round draws drill small few are =
    let asking = drawn_asking round draws in
    let before = record drill { number = asking.number } in
    let after = heard moment (1 + draws.one) asking.body before in
    signed-bytes moment round (helped moment after)
    (helped-bytes moment after
    (heard-bytes moment (1 + draws.one) asking.body before (asking-bytes draws.three draws.two round draws.number small few) are))

round_of-bytes : (round : ℕ) (drill : Drilled) → round < 2 ^ 64 → IsFine drill → IsFine (round_of round drill)
unfolding round_of
round_of-bytes round drill few are =
    let timed = lined (moment_of round) Tick drill in
    round_by-bytes (moment_of round) round (draws_of 8 64 8 timed.number) timed (two-small timed.number) few
    (lined-bytes (moment_of round) Tick drill tt are)

joined-bytes : (count seed : ℕ) → IsFine (joined count (start_drill seed))
joined-bytes zero seed = tt
joined-bytes (suc count) seed =
    lined-bytes (moment_of 0) (Joined Clients) (joined count (start_drill seed)) tt (joined-bytes count seed)

-- whatever the seed
pub drill-bytes : (rounds seed : ℕ) → rounds ≤ 100000 → AreOfBytes (drilled rounds seed).events
drill-bytes zero seed few = joined-bytes 8 seed
drill-bytes (suc rounds) seed few =
    round_of-bytes (suc rounds) (drilled rounds seed) (omega (arith, few)) (drill-bytes rounds seed (omega (arith, few)))
