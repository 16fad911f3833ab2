use Rattle.std.proofs.Common.{◌∙◌, ap, sym}
use Rattle.wire_text.specs.Bounds.{longest_to_child}
use Rattle.wire_text.specs.Frames.{front}
use Rattle.standin_core.proofs.EndLemmas.{ends_bad_length}
use Rattle.standin_core.proofs.stream.serve_once.Goals as goal

pub returns-in-Bad-clause-talk : goal.returns-in-Bad-clause-talk
returns-in-Bad-clause-talk g c = λ hosts whole start are under.
    ends_bad_length hosts whole start (g.P.Stream.seen c.args.peer.now) c.args.heard.now.live c.in-Bad.announced under
    (ap (front longest_to_child) (sym c.live.ensures) ∙ sym c.in-Bad.ensures.exact)
