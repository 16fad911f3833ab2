use Rattle.std.proofs.Common.{◌≡◌, []}
use Rattle.helper_core.specs.Claims.{Seen, Talk}
use Rattle.helper_core.specs.Serving.{IsUnderWay}
use Rattle.helper_core.proofs.stream.serve.Given as goal

-- the talk is still under way, and all is sent
abbrev pub invariant-frames : goal.invariant-frames
invariant-frames g l = record {
  under : (talk : Talk) (start : Seen)
      → IsUnderWay (g.A.Answerer.route l.answerer) talk start (record { behind = g.B.HelperBehind.seen l.fn.behind; peer = g.P.Stream.seen l.fn.peer }) []
      → IsUnderWay (g.A.Answerer.route l.answerer) talk start (record { behind = g.B.HelperBehind.seen l.behind; peer = g.P.Stream.seen l.peer }) l.heard.live;
  empty : l.out.live ≡ [];
}
