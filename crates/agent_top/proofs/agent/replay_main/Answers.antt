use Rattle.std.proofs.Common.{◌≡◌, ◌∙◌, Some}
use Rattle.agent_core.specs.Parts.{settings_of}
use Rattle.agent_model.specs.State.{Settings}
use Rattle.replay_run.specs.Claims.{Seen}
use Rattle.agent_top.proofs.ProgramLemmas.{replays_by, completes_by, lawful_by}
use Rattle.agent_top.proofs.agent.replay_main.Goals as goal

-- the words choose one agent's settings
same_settings : {one other : Settings} → Some one ≡ Some other → one ≡ other
same_settings same = cc

pub returns-clause-replays : goal.returns-clause-replays
returns-clause-replays g c settings replay =
    let old : Seen = record { input = g.I.Stream.seen c.args.input.now; output = g.O.Stream.seen c.args.output.now } in
    let new : Seen = record { input = g.I.Stream.seen c.run_replay-end.new.input; output = g.O.Stream.seen c.run_replay-end.new.output } in
    rw (← (same_settings (c.in-Some.ensures ∙ replay)), c.status_of_end.ensures)
    (replays_by (settings_of c.in-Some.settings) c.run_replay-end.result.0 old new c.run_replay-end.ensures.ends)

pub returns-clause-completes : goal.returns-clause-completes
returns-clause-completes g c settings replay =
    let old : Seen = record { input = g.I.Stream.seen c.args.input.now; output = g.O.Stream.seen c.args.output.now } in
    let new : Seen = record { input = g.I.Stream.seen c.run_replay-end.new.input; output = g.O.Stream.seen c.run_replay-end.new.output } in
    rw (← (same_settings (c.in-Some.ensures ∙ replay)), c.status_of_end.ensures)
    (completes_by (settings_of c.in-Some.settings) c.run_replay-end.result.0 old new c.run_replay-end.ensures.ends)

pub returns-clause-lawful : goal.returns-clause-lawful
returns-clause-lawful g c settings replay = lawful_by settings _ _
