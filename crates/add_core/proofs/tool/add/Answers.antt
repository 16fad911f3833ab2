use Rattle.std.proofs.Common.{List, ℕ, Result, Err, inl, inr, ap, subst, ◌∙◌, rules}
use Rattle.std.specs.Borrow.{Bor}
use Rattle.constraint_rec.specs.declared.terms.Terms.{Terms}
use Rattle.add_words.specs.Words.{plain_words}
use Rattle.add_core.specs.declared.fault.AddFault.TheVariants.{File}
use Rattle.add_core.specs.declared.fault.Stop.{Stop}
use Rattle.add_core.specs.declared.fault.Stop.TheVariants.{Fault}
use Rattle.add_core.specs.declared.sending.FileTask.TheVariants.{Add}
use Rattle.add_core.specs.Restrictions.{terms_for}
use Rattle.add_core.specs.Sendings.{each_file}
use Rattle.add_core.specs.Steps.{Follows}
use Rattle.add_core.specs.FileCauses.{FailsAmong}
use Rattle.add_core.proofs.FileCauseLemmas.{fails_among_later, same_stop}
use Rattle.add_core.proofs.FileLemmas.{lent}
use Rattle.add_core.proofs.StepLemmas.{tells_stops, tells_ok}
use Rattle.add_core.proofs.tool.add.Goals as goal

pub returns-in_err-terms-clause-told : goal.returns-in_err-terms-clause-told
returns-in_err-terms-clause-told g c = λ held replies files_known peer_known.
    let words = plain_words c.args.words.now in
    let stops = tells_stops c.in_err-terms.field-0.0 (terms_for words held) (λ (t : Terms). each_file (Add t) held 0 words.files replies)
    (g.P.Stream.seen c.args.peer.now) (g.E.Stream.seen c.args.errors.now) (c.in_err-terms.ensures.told held files_known) in
    search rules

pub returns-clause-told : goal.returns-clause-told
returns-clause-told g c = λ held replies files_known peer_known.
    let words = plain_words c.args.words.now in
    let t = c.in_ok-terms.terms in
    let p0 = g.P.Stream.seen c.args.peer.now in
    let p1 = g.P.Stream.seen c.send_files.new.peer in
    let e0 = g.E.Stream.seen c.args.errors.now in
    let e1 = g.E.Stream.seen c.send_files.new.errors in
    let sent = subst (λ (l : List (Bor (List ℕ))). Follows {T = Unit {0}} c.send_files.result (each_file (Add t) held 0 (lent l) replies) p0 p1 e0 e1)
    c.deref.ensures.value (c.send_files.ensures.told held replies (c.in_ok-terms.ensures.kept ∙ files_known) peer_known) in
    tells_ok {T = Unit {0}} c.send_files.result t (terms_for words held) (λ (x : Terms). each_file (Add x) held 0 words.files replies) p0 p1 e0 e1
    (c.in_ok-terms.ensures.told held files_known) sent

pub returns-clause-files : goal.returns-clause-files
returns-clause-files g c = λ place is.
    let words = plain_words c.args.words.now in
    let cause = c.in_ok-terms.ensures.cause in
    let f0 = g.F.Files.seen c.args.files.now in
    let f1 = g.F.Files.seen c.terms.new.files in
    let f2 = g.F.Files.seen c.send_files.new.files in
    inl (fails_among_later words.files place f0 f1 f2 cause.kept cause.later
    (subst (λ (l : List (Bor (List ℕ))). FailsAmong (lent l) place f1 f2) c.deref.ensures.value (c.send_files.ensures.files.fault place is)))

pub returns-in_err-terms-clause-files : goal.returns-in_err-terms-clause-files
returns-in_err-terms-clause-files g c = λ place is.
    let stopped = same_stop c.from_residual.result c.in_err-terms.field-0.0 (Fault (File place)) c.from_residual.ensures.1 is in
    inr (c.in_err-terms.ensures.cause.fault place (ap (λ (why : Stop). let made : Result Terms Stop = Err why in made) stopped))
