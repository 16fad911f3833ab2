use Rattle.std.proofs.Common.{◌≡◌, ◌≤◌, ℕ, List, Option, Some, drop}
use Rattle.add_core.specs.Restrictions.{hosts_held}
use Rattle.add_core.proofs.FileLemmas.{lent}
use Rattle.add_core.proofs.RestrictionLemmas.{in_front}
use Rattle.add_core.proofs.restriction.read_hosts.Given as goal

-- the texts so far, and then those of the files that are left, are all
abbrev pub invariant-paths : goal.invariant-paths
invariant-paths g l = record {
  place : l.place ≡ l.path-index;
  told : (held : List ℕ → Option (List ℕ)) → (g.F.Files.seen l.fn.files).held ≡ Some held
      → hosts_held held 0 (lent l.paths) ≡ in_front l.hosts.items (hosts_held held l.place (lent (drop l.path-index l.paths)));
  held : (g.F.Files.seen l.files).held ≡ (g.F.Files.seen l.fn.files).held;
  failed : (g.F.Files.seen l.files).failed ≡ (g.F.Files.seen l.fn.files).failed;
  files : (g.F.Files.seen l.fn.files).faults ≤ (g.F.Files.seen l.files).faults;
}
