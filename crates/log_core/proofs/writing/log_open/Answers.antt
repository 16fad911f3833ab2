use Rattle.audit_core.proofs.WritingLemmas.{nothing_written}
use Rattle.log_book.specs.Books.{open_in}
use Rattle.log_core.specs.Logs.{lines_of}
use Rattle.log_core.proofs.writing.log_open.Goals as goal

pub returns-clause-writes : goal.returns-clause-writes
returns-clause-writes g c = nothing_written (lines_of (open_in c.args.book.now)) (g.O.Stream.seen c.args.output.now)
