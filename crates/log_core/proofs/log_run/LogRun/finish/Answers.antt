use Rattle.std.proofs.Common.{refl, subst}
use Rattle.log_book.specs.Books.{open_in}
use Rattle.log_core.proofs.EndLemmas.{finished}
use Rattle.log_core.specs.Logging.{EndsWith}
use Rattle.log_core.specs.Logs.{lines_of}
use Rattle.log_core.specs.declared.status.LogStatus.{LogStatus}
use Rattle.log_core.proofs.log_run.LogRun.finish.Goals as goal

pub returns-clause-says : goal.returns-clause-says
returns-clause-says g c settings bytes start is =
    let before = g.O.Stream.seen c.args.output.now in
    let after = g.O.Stream.seen c.end_with.new.output in
    finished settings bytes start before c.args.self.now is after c.requires.ready.told c.args.self.now.pending refl c.requires.ready.counted c.requires.ready.begun c.end_with.result
    (subst (λ (s : LogStatus). EndsWith s c.end_with.result (lines_of (open_in c.args.self.now.book)) before after) c.end.ensures c.end_with.ensures.ends)
