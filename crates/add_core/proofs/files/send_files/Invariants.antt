use Rattle.std.proofs.Common.{◌≡◌, ◌≤◌, ℕ, List, Option, Some, drop, map}
use Rattle.add_core.specs.Sendings.{each_file}
use Rattle.add_core.specs.Steps.{Step, IsWhole, followed}
use Rattle.add_core.proofs.files.send_files.Given as goal

-- the steps that were made, and then those for the files that are left, are all
abbrev pub invariant-paths : goal.invariant-paths
invariant-paths g l = record {
  place : l.place ≡ l.path-index;
  told : (held : List ℕ → Option (List ℕ)) (replies : List ℕ)
      → (g.F.Files.seen l.fn.files).held ≡ Some held → (g.P.Stream.seen l.fn.peer).left ≡ Some replies
      → (made : Step) × IsWhole made (g.P.Stream.seen l.fn.peer) (g.P.Stream.seen l.peer) (g.E.Stream.seen l.fn.errors) (g.E.Stream.seen l.errors)
      × (each_file l.fn.task held 0 (map (λ path. path.now) l.paths) replies
      ≡ followed made (each_file l.fn.task held l.place (map (λ path. path.now) (drop l.path-index l.paths))));
  task : l.task ≡ l.fn.task;
  held : (g.F.Files.seen l.files).held ≡ (g.F.Files.seen l.fn.files).held;
  failed : (g.F.Files.seen l.files).failed ≡ (g.F.Files.seen l.fn.files).failed;
  files : (g.F.Files.seen l.fn.files).faults ≤ (g.F.Files.seen l.files).faults;
  reads : (g.P.Stream.seen l.fn.peer).read_faults ≤ (g.P.Stream.seen l.peer).read_faults;
  writes : (g.P.Stream.seen l.fn.peer).write_faults ≤ (g.P.Stream.seen l.peer).write_faults;
  errors : (g.E.Stream.seen l.fn.errors).write_faults ≤ (g.E.Stream.seen l.errors).write_faults;
}
