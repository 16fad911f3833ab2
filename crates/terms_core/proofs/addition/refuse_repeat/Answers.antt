use Rattle.agent_msg.specs.Reading.{request_of}
use Rattle.terms_core.proofs.AdditionLemmas.{refused_fault}
use Rattle.terms_core.proofs.addition.refuse_repeat.Goals as goal

pub returns : goal.returns
returns c = refused_fault c.refuse_by.result c.in-Err.fault (request_of c.args.body.now) c.refuse_by.ensures.refused c.refuse_by.ensures.memory c.in-Err.ensures.exact
