use Rattle.std.proofs.Common.{sym, subst}
use Rattle.add_core.specs.declared.fault.AddStatus.{AddStatus}
use Rattle.add_core.specs.Talk.{is_list, run_step, told_by, last_line, Ends, WritesAllOrFails}
use Rattle.add_words.specs.Words.{plain_words}
use Rattle.add_core.proofs.TalkLemmas.{run_ends}
use Rattle.add_core.proofs.tool.talk.Goals as goal

pub returns-clause-told : goal.returns-clause-told
returns-clause-told g c = λ held left replies files_known input_known peer_known.
    let words = plain_words c.args.words.now in
    let listing = is_list words.command in
    let step = run_step words held left replies in
    let p0 = g.P.Stream.seen c.args.peer.now in
    let p1 = g.P.Stream.seen c.run-answer.new.peer in
    let o0 = g.O.Stream.seen c.args.output.now in
    let o1 = g.O.Stream.seen c.run-answer.new.output in
    let e0 = g.E.Stream.seen c.args.errors.now in
    let m = g.E.Stream.seen c.run-answer.new.errors in
    let e1 = g.E.Stream.seen c.write_last.new.errors in
    let last = subst (λ (s : AddStatus). WritesAllOrFails (last_line s) m e1) c.ended-status.ensures.value c.write_last.ensures.last in
    subst (λ (s : AddStatus). Ends s (told_by listing step) p0 p1 o0 o1 e0 e1) (sym c.ended-status.ensures.value)
    (run_ends listing c.run-answer.result step p0 p1 o0 o1 e0 m e1 (c.run-answer.ensures.told held left replies files_known input_known peer_known) c.run-answer.ensures.errors last)
