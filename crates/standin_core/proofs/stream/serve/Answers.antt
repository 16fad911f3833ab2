use Rattle.std.proofs.Common.{[]}
use Rattle.standin_core.proofs.EndLemmas.{ends_early}
use Rattle.standin_core.proofs.stream.serve.Goals as goal

pub returns-in_default : goal.returns-in_default
returns-in_default g c = λ hosts whole start are under. ends_early hosts whole start (g.P.Stream.seen c.args.peer.now) [] under

pub returns-in-Some-serve_once : goal.returns-in-Some-serve_once
returns-in-Some-serve_once g c = λ hosts whole start are under.
    c.in-Some-serve_once.ensures.talk hosts whole start are (c.frames.invariant.under hosts whole start are under)
