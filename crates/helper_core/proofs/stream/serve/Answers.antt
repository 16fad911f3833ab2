use Rattle.std.proofs.Common.{[]}
use Rattle.helper_core.proofs.EndLemmas.{at, ends_early}
use Rattle.helper_core.proofs.stream.serve.Goals as goal

pub returns-in_default : goal.returns-in_default
returns-in_default g c = λ talk start under.
    ends_early (g.A.Answerer.route c.args.answerer.now) talk start (at (g.B.HelperBehind.seen c.args.behind.now) (g.P.Stream.seen c.args.peer.now)) [] under

pub returns-in-Some-serve_once : goal.returns-in-Some-serve_once
returns-in-Some-serve_once g c = λ talk start under.
    c.in-Some-serve_once.ensures.talk talk start (c.frames.invariant.under talk start under)
