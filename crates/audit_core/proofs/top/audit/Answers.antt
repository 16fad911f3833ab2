use Rattle.std.proofs.Common.{subst, sym}
use Rattle.agent_core.specs.Parts.{settings_of}
use Rattle.audit_core.specs.declared.status.AuditStatus.{AuditStatus}
use Rattle.audit_core.specs.Program.{EndsAudit, status_by}
use Rattle.audit_core.specs.Reports.{report, verdict_of}
use Rattle.audit_core.proofs.ReportLemmas.{ends_audit}
use Rattle.audit_core.proofs.WritingLemmas.{nothing_written}
use Rattle.audit_core.proofs.top.audit.Goals as goal

pub returns-in-Ok-clause-ends : goal.returns-in-Ok-clause-ends
returns-in-Ok-clause-ends g c =
    let before = g.O.Stream.seen c.args.output.now in
    let after = g.O.Stream.seen c.write_report-written.new.output in
    subst (λ (s : AuditStatus). EndsAudit (settings_of c.args.settings) c.args.recording.now c.args.deeds.now s before after) {x = status_by c.in-Ok.finding c.write_report-written.result} (sym c.status_for.ensures)
    (ends_audit c.in-Ok.finding c.write_report-written.result (settings_of c.args.settings) c.args.recording.now c.args.deeds.now before after c.in-Ok.ensures c.write_report-written.ensures.writes)

pub returns-in-Err-clause-ends : goal.returns-in-Err-clause-ends
returns-in-Err-clause-ends g c = nothing_written (report (verdict_of (settings_of c.args.settings) c.args.recording.now c.args.deeds.now)) (g.O.Stream.seen c.args.output.now)
