use Rattle.std.proofs.Common.{arith}
use Rattle.agent_msg.specs.Requests.{Addition}
use Rattle.agent_msg.proofs.WriteLemmas.{addition_is_written}
use Rattle.agent_msg.proofs.writer.put_addition.Goals as goal

pub returns-in_err-constraints-clause-written : goal.returns-in_err-constraints-clause-written
returns-in_err-constraints-clause-written c =
    addition_is_written record { key = c.args.key.now; comment = c.args.comment.now; terms = c.args.terms.now } _
    c.requires.key (omega arith) c.constraints_of.ensures.written c.constraints_of.ensures.read_back

pub returns-clause-written : goal.returns-clause-written
returns-clause-written c =
    addition_is_written record { key = c.args.key.now; comment = c.args.comment.now; terms = c.args.terms.now } _
    c.requires.key (omega arith) c.constraints_of.ensures.written c.constraints_of.ensures.read_back
