use Rattle.std.proofs.Common.{subst, codes, refl, length}
use Rattle.replay_run.specs.Replay.{Run, parts_of}
use Rattle.audit_core.specs.Puts.{puts, puts_from}
use Rattle.audit_core.specs.Reports.{number_line, put_line}
use Rattle.audit_core.specs.Writing.{ListsAll, Stops}
use Rattle.std.specs.List.{flat_map}
use Rattle.agent_core.specs.Parts.{settings_of}
use Rattle.audit_core.proofs.WritingLemmas.{stops_before, yes_written}
use Rattle.audit_core.proofs.writing.write_yes.Goals as goal

pub returns-in-Ok-clause-writes : goal.returns-in-Ok-clause-writes
returns-in-Ok-clause-writes g c =
    let all = puts (settings_of c.args.settings) c.args.recording.now in
    let before = g.O.Stream.seen c.args.output.now in
    let mid = g.O.Stream.seen c.list_run.new.output in
    let listed = subst (λ (run : Run). ListsAll 0 c.in-Ok.count (puts_from run (parts_of c.args.recording.now)) before mid) c.new-run.ensures c.in-Ok.ensures.lists in
    yes_written c.write_total.result (codes "yes ") all c.in-Ok.count before mid (g.O.Stream.seen c.write_total.new.output) refl listed c.write_total.ensures.writes

pub returns-clause-writes : goal.returns-clause-writes
returns-clause-writes g c =
    let before = g.O.Stream.seen c.args.output.now in
    let mid = g.O.Stream.seen c.list_run.new.output in
    let all = puts (settings_of c.args.settings) c.args.recording.now in
    stops_before c.in-Err.stop (flat_map put_line all) (number_line (codes "yes ") (length all)) before mid
    (subst (λ (run : Run). Stops c.in-Err.stop (flat_map put_line (puts_from run (parts_of c.args.recording.now))) before mid) c.new-run.ensures c.in-Err.ensures.lists)
