-- What the program does (ours): `Audits`, a line a status. The file is read from its end; what an audit finds and
-- reports is in specs/Reports.antt, the law of which `IsLawfulRecord` speaks in agent_laws, specs/History.antt.
use Rattle.std.specs.Prelude.{◌≡◌, ◌⊎◌, ◌≤◌, ℕ, List, [], ◌∷◌, Option, Some, None, IfSome, IsSomeAnd, Result, Ok, Err, length, map}
use Rattle.world_ports.specs.Causes.{Rose}
use Rattle.world_ports.specs.Files.{FilesView, HoldsMore}
use Rattle.world_ports.specs.Journal.{Grows}
use Rattle.world_ports.specs.Streams.{StreamView}
use Rattle.agent_laws.specs.History.{HasNumbers, IsLawful}
use Rattle.agent_model.specs.Runs.{history, run}
use Rattle.agent_model.specs.State.{Settings, first_state}
use Rattle.replay_run.specs.Feeding.{Wrote}
use Rattle.replay_run.specs.Replay.{events_of, output_of, run_of, settings_of}
use Rattle.audit_core.specs.declared.comparison.Finding.{Finding}
use Rattle.audit_core.specs.declared.comparison.Finding.TheVariants as findings
use Rattle.audit_core.specs.declared.status.AuditStatus.{AuditStatus}
use Rattle.audit_core.specs.declared.status.AuditStatus.TheVariants as status
use Rattle.audit_core.specs.declared.writing.Stop.{Stop}
use Rattle.audit_core.specs.declared.writing.Stop.TheVariants as stops
use Rattle.audit_core.specs.Puts.{puts, signed_in, without_line}
use Rattle.audit_core.specs.Reports.{Differs, IsBad, Verdict, report, verdict_of}
use Rattle.audit_core.specs.Words.{Asked}
use Rattle.audit_core.specs.Writing.{Stops, yes_report}

-- ---- statuses

-- the exit status
abbrev pub code_of : AuditStatus → ℕ
code_of status.Yes = 0
code_of (status.Differs line) = 1
code_of status.Usage = 2
code_of status.FileFault = 3
code_of status.FileTooLong = 3
code_of (status.BadRecord line) = 4
code_of status.Memory = 5
code_of status.WriteFault = 6

-- by what was found, where all of the report was written
abbrev pub status_of : Finding → AuditStatus
status_of findings.Agrees = status.Yes
status_of (findings.Differs line) = status.Differs line
status_of (findings.IsBad line) = status.BadRecord line

-- by why it wasn't
abbrev pub status_at : Stop → AuditStatus
status_at stops.Memory = status.Memory
status_at stops.Write = status.WriteFault

-- by what was found, and by what became of the report
abbrev pub status_by : {T : Type 0} → Finding → Result T Stop → AuditStatus
status_by finding (Ok done) = status_of finding
status_by finding (Err stop) = status_at stop

-- ---- the audit of two texts

-- a record that is run to its end: its run is that of the events which its lines and their settlings bring; while
-- neither the numbers of asks nor those of jobs are spent, a signature is put to the helper in it exactly where what was
-- done before says so; and these requests are all that were put, in their order
pub record IsLawfulRecord (settings : Settings) (text : List ℕ) : Type 0 where
  pub accepted : (run_of settings text).refused ≡ None
  pub agent : (run_of settings text).agent ≡ run (first_state (settings_of settings text)) (events_of settings text)
  pub lawful : HasNumbers (run_of settings text).agent
      → IsLawful settings.life [] (history (first_state (settings_of settings text)) (events_of settings text))
  pub listed : map without_line (puts settings text)
      ≡ signed_in (history (first_state (settings_of settings text)) (events_of settings text))

-- the deeds are what the record prints, and all that was put in it is listed, and how much that is
pub record IsAgreed (settings : Settings) (text deeds : List ℕ) (before after : StreamView) : Type 0 where
  pub prints : output_of settings text ≡ deeds
  pub lawful : IsLawfulRecord settings text
  pub wrote : Wrote before after (yes_report (puts settings text))

-- this was found, and its line was written
pub record IsFound (verdict : Verdict) (settings : Settings) (text deeds : List ℕ) (before after : StreamView)
    : Type 0 where
  pub is : verdict_of settings text deeds ≡ verdict
  pub wrote : Wrote before after (report verdict)

-- what the end of an audit says of its texts and of the sink
abbrev pub EndsAudit : Settings → List ℕ → List ℕ → AuditStatus → StreamView → StreamView → Type 0
EndsAudit settings text deeds status.Yes before after = IsAgreed settings text deeds before after
EndsAudit settings text deeds (status.Differs line) before after = IsFound (Differs line) settings text deeds before after
EndsAudit settings text deeds status.Usage before after = ⊥
EndsAudit settings text deeds status.FileFault before after = ⊥
EndsAudit settings text deeds status.FileTooLong before after = ⊥
EndsAudit settings text deeds (status.BadRecord line) before after = IsFound (IsBad line) settings text deeds before after
-- want of memory says nothing of the texts: a front of the report is written
EndsAudit settings text deeds status.Memory before after =
    Stops stops.Memory (report (verdict_of settings text deeds)) before after
EndsAudit settings text deeds status.WriteFault before after =
    Stops stops.Write (report (verdict_of settings text deeds)) before after

-- ---- files

-- the most bytes of a file
abbrev pub longest_file : ℕ
longest_file = 268435456

-- a call on this path failed and no other did, and that was counted
pub record FailsAt (path : List ℕ) (before now : FilesView) : Type 0 where
  pub failed : Grows before.failed now.failed (path ∷ [])
  pub cause : Rose before.faults now.faults

-- the file of this path is too long, where that is told, and no call failed
pub record IsTooLong (path : List ℕ) (before now : FilesView) : Type 0 where
  pub more : HoldsMore before path longest_file
  pub failed : now.failed ≡ before.failed
  pub faults : now.faults ≡ before.faults

-- the path holds a file that is short enough, where that is told
abbrev pub HoldsShort : FilesView → List ℕ → Type 0
HoldsShort files path =
    IfSome files.held (λ at. IsSomeAnd (at path) (λ bytes. length bytes ≤ longest_file))

-- the call on the record's file failed, or behind a record that is short enough that on the file of the deeds
abbrev pub FailsInOrder : (recording deeds : List ℕ) → FilesView → FilesView → Type 0
FailsInOrder recording deeds before now =
    FailsAt recording before now ⊎ (HoldsShort before recording × FailsAt deeds before now)

-- the file of the record is too long, or behind one that is short enough that of the deeds
abbrev pub IsTooLongInOrder : (recording deeds : List ℕ) → FilesView → FilesView → Type 0
IsTooLongInOrder recording deeds before now =
    IsTooLong recording before now ⊎ (HoldsShort before recording × IsTooLong deeds before now)

-- the file is held, short enough, and this is its text
pub record IsTextOf (held : Option (List ℕ)) (text : List ℕ) : Type 0 where
  pub is : held ≡ Some text
  pub short : length text ≤ longest_file

-- so a file may end the program, whatever is held
abbrev pub IsFileEnd : AuditStatus → Type 0
IsFileEnd status.Yes = ⊥
IsFileEnd (status.Differs line) = ⊥
IsFileEnd status.Usage = ⊥
IsFileEnd status.FileFault = Unit {0}
IsFileEnd status.FileTooLong = Unit {0}
IsFileEnd (status.BadRecord line) = ⊥
IsFileEnd status.Memory = Unit {0}
IsFileEnd status.WriteFault = ⊥

-- both files were read, and the audit of their texts ended so
pub record HasAudited (held : List ℕ → Option (List ℕ)) (asked : Asked) (result : AuditStatus)
    (before after : StreamView) : Type 0 where
  pub text : List ℕ
  pub deeds : List ℕ
  pub text_is : IsTextOf (held asked.recording) text
  pub deeds_are : IsTextOf (held asked.deeds) deeds
  pub ends : EndsAudit asked.settings text deeds result before after

-- by how the program ended, where the words are of a form and the files tell what they hold: nothing was written before
-- both were read
abbrev pub Audits : (List ℕ → Option (List ℕ)) → Asked → AuditStatus → StreamView → StreamView → Type 0
Audits held asked status.Yes before after = HasAudited held asked status.Yes before after
Audits held asked (status.Differs line) before after = HasAudited held asked (status.Differs line) before after
Audits held asked status.Usage before after = ⊥
Audits held asked status.FileFault before after = after ≡ before
Audits held asked status.FileTooLong before after = after ≡ before
Audits held asked (status.BadRecord line) before after = HasAudited held asked (status.BadRecord line) before after
Audits held asked status.Memory before after = (after ≡ before) ⊎ HasAudited held asked status.Memory before after
Audits held asked status.WriteFault before after = HasAudited held asked status.WriteFault before after
