-- A report that is written to a sink (ours).
use Rattle.std.specs.Prelude.{◌≡◌, ◌+◌, ℕ, List, ◌++◌, length, codes, Result, Ok, Err}
use Rattle.std.specs.List.{flat_map}
use Rattle.world_ports.specs.Causes.{Rose}
use Rattle.world_ports.specs.Streams.{StreamView, WritesPart}
use Rattle.replay_run.specs.Feeding.{Wrote}
use Rattle.audit_core.specs.declared.comparison.Finding.{Finding}
use Rattle.audit_core.specs.declared.comparison.Finding.TheVariants as findings
use Rattle.audit_core.specs.declared.put.Put.{Put}
use Rattle.audit_core.specs.declared.writing.Stop.{Stop}
use Rattle.audit_core.specs.declared.writing.Stop.TheVariants as stops
use Rattle.audit_core.specs.Reports.{number_line, put_line}

-- a front of the text was written and a write failed
pub record StopsAtWrite (text : List ℕ) (before after : StreamView) : Type 0 where
  pub front : WritesPart text before after
  pub cause : Rose before.write_faults after.write_faults

-- why not all of a text was written: a front of it was
abbrev pub Stops : Stop → List ℕ → StreamView → StreamView → Type 0
Stops stops.Memory text before after = WritesPart text before after
Stops stops.Write text before after = StopsAtWrite text before after

-- all of the text was written, or a front of it
abbrev pub Writes : {T : Type 0} → Result T Stop → List ℕ → StreamView → StreamView → Type 0
Writes (Ok done) text before after = Wrote before after text
Writes (Err stop) text before after = Stops stop text before after

-- ---- signing requests

-- the lines of these requests were written, and they were counted on from there
pub record ListsAll (start count : ℕ) (puts : List Put) (before after : StreamView) : Type 0 where
  pub count_is : count ≡ start + length puts
  pub wrote : Wrote before after (flat_map put_line puts)

-- or a front of the lines was
abbrev pub Lists : Result ℕ Stop → ℕ → List Put → StreamView → StreamView → Type 0
Lists (Ok count) start puts before after = ListsAll start count puts before after
Lists (Err stop) start puts before after = Stops stop (flat_map put_line puts) before after

-- the lines of the first of all these requests were written, which are so many, and these are left
pub record IsListing (all left : List Put) (count : ℕ) (before after : StreamView) : Type 0 where
  pub done : List Put
  pub whole : done ++ left ≡ all
  pub listed : ListsAll 0 count done before after

-- ---- reports

-- the report of a record that agrees with its deeds and puts these requests
abbrev pub yes_report : List Put → List ℕ
yes_report puts = flat_map put_line puts ++ number_line (codes "yes ") (length puts)

-- the report by what was found, where the record puts these requests
abbrev pub report_by : Finding → List Put → List ℕ
report_by findings.Agrees puts = yes_report puts
report_by (findings.Differs line) puts = number_line (codes "no ") line
report_by (findings.IsBad line) puts = number_line (codes "bad ") line
