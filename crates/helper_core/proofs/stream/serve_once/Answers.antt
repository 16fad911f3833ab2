use Rattle.std.proofs.Common.{◌∙◌, ap, sym}
use Rattle.wire_text.specs.Bounds.{longest_to_child}
use Rattle.wire_text.specs.Frames.{front}
use Rattle.helper_core.proofs.EndLemmas.{at, ends_bad_length}
use Rattle.helper_core.proofs.stream.serve_once.Goals as goal

pub returns-in-Bad-clause-talk : goal.returns-in-Bad-clause-talk
returns-in-Bad-clause-talk g c = λ talk start under.
    ends_bad_length (g.A.Answerer.route c.args.answerer.now) talk start (at (g.B.HelperBehind.seen c.args.behind.now) (g.P.Stream.seen c.args.peer.now)) c.args.heard.now.live c.in-Bad.announced under
    (ap (front longest_to_child) (sym c.live.ensures) ∙ sym c.in-Bad.ensures.exact)
