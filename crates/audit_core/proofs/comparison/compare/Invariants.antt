use Rattle.std.proofs.Common.{◌≡◌, ◌≤◌, ◌+◌, [], true, length}
use Rattle.agent_core.specs.Parts.{settings_of}
use Rattle.audit_core.specs.Passes.{difference}
use Rattle.audit_core.specs.Reports.{first_difference}
use Rattle.audit_core.proofs.comparison.compare.Given as goal
use Rattle.replay_run.specs.Counts.{IsCounted}
use Rattle.replay_run.specs.Replay.{output_of, parts_of, printed, ran, run_of}

-- what is left leads to the same run, and to the same difference
abbrev pub invariant-lines : goal.invariant-lines
invariant-lines l = record {
  counted : IsCounted l.run;
  out : l.out.items ≡ [];
  line : l.matching.line ≤ l.matching.at + 1;
  same : difference l.matching (printed true l.run (parts_of l.rest)) l.deeds ≡ first_difference (output_of (settings_of l.fn.settings) l.text) l.deeds;
  run : ran true l.run (parts_of l.rest) ≡ run_of (settings_of l.fn.settings) l.text;
}

abbrev pub decreases-lines : goal.decreases-lines
decreases-lines l = length l.rest
