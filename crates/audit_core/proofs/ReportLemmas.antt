-- Lemmas on what the end of an audit says.
use Rattle.std.proofs.Common.{◌≡◌, ◌==◌, ℕ, suc, List, [], ◌∷◌, refl, ap, sym, subst, ◌∙◌, arith, Option, Some, None, Bool, true, false, cond, Result, Ok, Err, inr}
use Rattle.std.proofs.lemmas.Bool.Decides.{nat_tests}
use Rattle.std.proofs.lemmas.Option.{same_Some}
use Rattle.world_ports.specs.Streams.{StreamView}
use Rattle.agent_model.specs.State.{Settings}
use Rattle.schedule_text.specs.declared.fault.LineFault.{LineFault}
use Rattle.replay_run.specs.Feeding.{Wrote}
use Rattle.replay_run.specs.Replay.{output_of, run_of}
use Rattle.replay_run.proofs.BroughtLemmas.{run-schedule, schedule-lawful}
use Rattle.audit_core.specs.declared.comparison.Finding.{Finding}
use Rattle.audit_core.specs.declared.comparison.Finding.TheVariants as findings
use Rattle.audit_core.specs.declared.put.Put.{Put}
use Rattle.audit_core.specs.declared.status.AuditStatus.{AuditStatus}
use Rattle.audit_core.specs.declared.status.AuditStatus.TheVariants as status
use Rattle.audit_core.specs.declared.writing.Stop.{Stop}
use Rattle.audit_core.specs.declared.writing.Stop.TheVariants as stops
use Rattle.audit_core.specs.Passes.{finding_of, mismatch}
use Rattle.audit_core.specs.Program.{Audits, EndsAudit, IsLawfulRecord, IsTextOf, status_by, status_of}
use Rattle.audit_core.specs.Puts.{puts}
use Rattle.audit_core.specs.Reports.{Agrees, Differs, IsBad, Verdict, first_difference, report, verdict_by, verdict_of}
use Rattle.audit_core.specs.Words.{Asked}
use Rattle.audit_core.specs.Writing.{Stops, Writes, report_by}
use Rattle.audit_core.proofs.HistoryLemmas.{all_signed}
use Rattle.audit_core.proofs.MismatchLemmas.{first_by_bytes}

-- ---- texts without a difference are the same

same_texts : (line : ℕ) (text other : List ℕ) → mismatch line text other ≡ None → text ≡ other
same_texts line [] [] none = refl
same_texts line [] (byte ∷ bytes) none = absurd cc
same_texts line (byte ∷ bytes) [] none = absurd cc
same_texts line (byte ∷ bytes) (other ∷ others) none = by_test (byte == other) refl (λ l. same_texts l bytes others) none
  where
    by_test : (same : Bool) → (byte == other) ≡ same
        → ((l : ℕ) → mismatch l bytes others ≡ None → bytes ≡ others)
        → cond same (mismatch (cond (byte == 10) (suc line) line) bytes others) (Some line) ≡ None
        → byte ∷ bytes ≡ other ∷ others
    by_test true is same left =
        let this : byte ≡ other = grind (arith, nat_tests) in
        let rest : bytes ≡ others = same (cond (byte == 10) (suc line) line) left in
        cc
    by_test false is same left = absurd cc

pub same_text : (text other : List ℕ) → first_difference text other ≡ None → text ≡ other
same_text text other none = same_texts 1 text other (first_by_bytes text other ∙ none)

-- ---- what a verdict says

-- a record agrees with its deeds
record Accepted (refused : Option LineFault) (found : Option ℕ) : Type 0 where
  pub refused_is : refused ≡ None
  pub found_is : found ≡ None

agreed_by : (refused : Option LineFault) (found : Option ℕ) (line : ℕ) (puts : List Put)
    → finding_of (verdict_by refused found line puts) ≡ findings.Agrees → Accepted refused found
agreed_by (Some fault) found line puts is = absurd cc
agreed_by None (Some difference) line puts is = absurd cc
agreed_by None None line puts is = record { refused_is = refl; found_is = refl }

lawful_record : (settings : Settings) (text : List ℕ) → (run_of settings text).refused ≡ None
    → IsLawfulRecord settings text
lawful_record settings text accepted = record {
  accepted = accepted;
  agent = run-schedule settings text;
  lawful = schedule-lawful settings text;
  listed = all_signed settings text;
}

-- the report of a verdict, by what was found
reports : (refused : Option LineFault) (found : Option ℕ) (line : ℕ) (puts : List Put)
    → report (verdict_by refused found line puts) ≡ report_by (finding_of (verdict_by refused found line puts)) puts
reports (Some fault) found line puts = refl
reports None (Some difference) line puts = refl
reports None None line puts = refl

report_is : (settings : Settings) (text deeds : List ℕ)
    → report (verdict_of settings text deeds) ≡ report_by (finding_of (verdict_of settings text deeds)) (puts settings text)
report_is settings text deeds = reports (run_of settings text).refused (first_difference (output_of settings text) deeds) (run_of settings text).line (puts settings text)

differs_by : (verdict : Verdict) (line : ℕ) → findings.Differs line ≡ finding_of verdict
    → verdict ≡ Differs line
differs_by (Agrees puts) line is = absurd cc
differs_by (Differs other) line is = cc
differs_by (IsBad other) line is = absurd cc

bad_by : (verdict : Verdict) (line : ℕ) → findings.IsBad line ≡ finding_of verdict
    → verdict ≡ IsBad line
bad_by (Agrees puts) line is = absurd cc
bad_by (Differs other) line is = absurd cc
bad_by (IsBad other) line is = cc

-- ---- the end

-- the report of what was found was not all written
stops_of : (stop : Stop) (finding : Finding) (settings : Settings) (text deeds : List ℕ) (before after : StreamView)
    → finding ≡ finding_of (verdict_of settings text deeds)
    → Stops stop (report_by finding (puts settings text)) before after
    → Stops stop (report (verdict_of settings text deeds)) before after
stops_of stop finding settings text deeds before after is stopped =
    subst (λ (t : List ℕ). Stops stop t before after)
    (ap (λ (f : Finding). report_by f (puts settings text)) is ∙ sym (report_is settings text deeds)) stopped

ends_written : (finding : Finding) (settings : Settings) (text deeds : List ℕ) (before after : StreamView)
    → finding ≡ finding_of (verdict_of settings text deeds)
    → Wrote before after (report_by finding (puts settings text))
    → EndsAudit settings text deeds (status_of finding) before after
ends_written findings.Agrees settings text deeds before after is wrote =
    let both = agreed_by (run_of settings text).refused (first_difference (output_of settings text) deeds) (run_of settings text).line (puts settings text) (sym is) in
    record {
      prints = same_text (output_of settings text) deeds both.found_is;
      lawful = lawful_record settings text both.refused_is;
      wrote = wrote;
    }
ends_written (findings.Differs line) settings text deeds before after is wrote = record {
  is = differs_by (verdict_of settings text deeds) line is;
  wrote = wrote;
}
ends_written (findings.IsBad line) settings text deeds before after is wrote = record {
  is = bad_by (verdict_of settings text deeds) line is;
  wrote = wrote;
}

pub ends_audit : {T : Type 0} (finding : Finding) (written : Result T Stop) (settings : Settings) (text deeds : List ℕ) (before after : StreamView)
    → finding ≡ finding_of (verdict_of settings text deeds)
    → Writes written (report_by finding (puts settings text)) before after
    → EndsAudit settings text deeds (status_by finding written) before after
ends_audit finding (Ok done) settings text deeds before after is writes = ends_written finding settings text deeds before after is writes
ends_audit finding (Err stops.Memory) settings text deeds before after is writes = stops_of stops.Memory finding settings text deeds before after is writes
ends_audit finding (Err stops.Write) settings text deeds before after is writes = stops_of stops.Write finding settings text deeds before after is writes

-- ---- files

-- both texts are those of the files
pub audits_by : (held : List ℕ → Option (List ℕ)) (asked : Asked) (text deeds : List ℕ) (result : AuditStatus) (before after : StreamView)
    → IsTextOf (held asked.recording) text → IsTextOf (held asked.deeds) deeds
    → EndsAudit asked.settings text deeds result before after → Audits held asked result before after
audits_by held asked text deeds status.Yes before after text_is deeds_are ends =
    record { text = text; deeds = deeds; text_is = text_is; deeds_are = deeds_are; ends = ends }
audits_by held asked text deeds (status.Differs line) before after text_is deeds_are ends =
    record { text = text; deeds = deeds; text_is = text_is; deeds_are = deeds_are; ends = ends }
audits_by held asked text deeds status.Usage before after text_is deeds_are ends = absurd ends
audits_by held asked text deeds status.FileFault before after text_is deeds_are ends = absurd ends
audits_by held asked text deeds status.FileTooLong before after text_is deeds_are ends = absurd ends
audits_by held asked text deeds (status.BadRecord line) before after text_is deeds_are ends =
    record { text = text; deeds = deeds; text_is = text_is; deeds_are = deeds_are; ends = ends }
audits_by held asked text deeds status.Memory before after text_is deeds_are ends =
    inr (record { text = text; deeds = deeds; text_is = text_is; deeds_are = deeds_are; ends = ends })
audits_by held asked text deeds status.WriteFault before after text_is deeds_are ends =
    record { text = text; deeds = deeds; text_is = text_is; deeds_are = deeds_are; ends = ends }

-- what the words ask for is one thing
pub asked_once : (read asked : Asked) (found : Option Asked) → Some read ≡ found
    → found ≡ Some asked → read ≡ asked
asked_once read asked found is also = same_Some _ _ (is ∙ also)
