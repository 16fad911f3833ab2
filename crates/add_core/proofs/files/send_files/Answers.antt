use Rattle.std.proofs.Common.{◌+◌, ℕ, refl, ap, ◌∙◌, rules, arith}
use Rattle.add_core.specs.Sendings.{each_file}
use Rattle.add_core.specs.Steps.{nothing}
use Rattle.add_core.proofs.FileCauseLemmas.{has_cause_late}
use Rattle.add_core.proofs.FileLemmas.{lent, stopped_file, made_file, no_file}
use Rattle.add_core.proofs.StepLemmas.{nothing_made}
use Rattle.add_core.proofs.files.send_files.Goals as goal

pub paths-init : goal.paths-init
paths-init g c = record {
  place = refl;
  told = λ held replies files_known peer_known. (nothing replies, nothing_made replies _ _ peer_known, refl);
  task = refl;
  held = refl;
  failed = refl;
  files = omega arith;
  reads = omega arith;
  writes = omega arith;
  errors = omega arith;
}

pub returns-in_err-send_file-clause-told : goal.returns-in_err-send_file-clause-told
returns-in_err-send_file-clause-told g c = λ held replies files_known peer_known.
    let so_far = c.paths.invariant.told held replies files_known peer_known in
    let sent = c.in_err-send_file.ensures.told held so_far.0.left (c.paths.invariant.held ∙ files_known) so_far.1.left in
    let task = c.paths.invariant.task in
    let same_task = rw task at sent in
    let all = each_file c.args.task.now held 0 (lent c.args.paths.now) replies in
    let stops = stopped_file c.in_err-send_file.field-0.0 all so_far.0 c.args.task.now held c.paths.place c.args.paths.now c.paths.path-index _
    _ _ _ _ _ _ c.paths-test.true so_far.2 so_far.1 same_task in
    search rules

pub paths-preserved : goal.paths-preserved
paths-preserved g c =
    let sends = c.in_ok-send_file.ensures in
    record {
      place = ap (λ (n : ℕ). n + 1) c.paths.invariant.place;
      told = λ held replies files_known peer_known.
          let so_far = c.paths.invariant.told held replies files_known peer_known in
          let sent = sends.told held so_far.0.left (c.paths.invariant.held ∙ files_known) so_far.1.left in
          let task = c.paths.invariant.task in
          let same_task = rw task at sent in
          made_file (each_file c.args.task.now held 0 (lent c.args.paths.now) replies) so_far.0 c.args.task.now held c.paths.place c.args.paths.now c.paths.path-index _
          _ _ _ _ _ _ c.paths-test.true so_far.2 so_far.1 same_task;
      task = sends.task ∙ c.paths.invariant.task;
      held = sends.held ∙ c.paths.invariant.held;
      failed = sends.files.kept ∙ c.paths.invariant.failed;
      files = omega (arith, c.paths.invariant.files, sends.files.later);
      reads = omega (arith, c.paths.invariant.reads, sends.peer.reads);
      writes = omega (arith, c.paths.invariant.writes, sends.peer.writes);
      errors = omega (arith, c.paths.invariant.errors, sends.errors.writes);
    }

pub returns-clause-told : goal.returns-clause-told
returns-clause-told g c = λ held replies files_known peer_known.
    let so_far = c.paths.invariant.told held replies files_known peer_known in
    no_file (each_file c.args.task.now held 0 (lent c.args.paths.now) replies) so_far.0 c.args.task.now held c.paths.place c.args.paths.now c.paths.path-index
    _ _ _ _ c.paths-test.false so_far.2 so_far.1

pub returns-in_err-send_file-clause-files : goal.returns-in_err-send_file-clause-files
returns-in_err-send_file-clause-files g c =
    let inv = c.paths.invariant in
    has_cause_late c.from_residual.result c.in_err-send_file.field-0.0 c.args.paths.now c.paths.path-index _ c.paths.place (g.F.Files.seen c.args.files.now) _
    (g.F.Files.seen c.send_file.new.files) c.paths-test.true inv.place inv.failed inv.files c.from_residual.ensures.1 c.in_err-send_file.ensures.files
