use Rattle.std.proofs.Common.{List, ℕ, subst}
use Rattle.audit_core.specs.Program.{Audits, EndsAudit}
use Rattle.audit_core.specs.Words.{Asked, asked_in, asked_of, texts_of}
use Rattle.audit_core.proofs.ReportLemmas.{asked_once, audits_by}
use Rattle.audit_core.proofs.top.audit_main.Goals as goal

pub returns-in-Ok-clause-audits : goal.returns-in-Ok-clause-audits
returns-in-Ok-clause-audits g c = λ held asked words told.
    let read = asked_of c.in-Some.asked in
    let texts = c.in-Ok.texts in
    let before = g.O.Stream.seen c.args.output.now in
    let after = g.O.Stream.seen c.audit.new.output in
    let same = asked_once read asked (asked_in (texts_of c.args.words.now)) c.in-Some.ensures words in
    let both = c.in-Ok.ensures.read held told in
    let ends =
    subst (λ (text : List ℕ). EndsAudit read.settings text texts.deeds.items c.audit.result before after) c.deref.ensures.value
    (subst (λ (deeds : List ℕ). EndsAudit read.settings c.deref.result.now deeds c.audit.result before after) c.deref-in-Ok.ensures.value c.audit.ensures.ends) in
    subst (λ (a : Asked). Audits held a c.audit.result before after) same
    (audits_by held read texts.recording.items texts.deeds.items c.audit.result before after both.0 both.1 ends)
