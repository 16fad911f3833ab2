use Rattle.audit_core.proofs.WritingLemmas.{nothing_written}
use Rattle.log_book.specs.Books.{see_all}
use Rattle.log_core.specs.Logs.{lines_of}
use Rattle.log_core.proofs.writing.log_seen.Goals as goal

pub returns-clause-writes : goal.returns-clause-writes
returns-clause-writes g c = nothing_written (lines_of (see_all c.args.sights.now c.args.book.now).told) (g.O.Stream.seen c.args.output.now)
