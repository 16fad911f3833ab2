use Rattle.std.proofs.Common.{◌≡◌, List, ℕ, []}
use Rattle.standin_core.specs.Hosts.{Host, ArePairs}
use Rattle.standin_core.specs.Serving.{IsUnderWay}
use Rattle.standin_core.specs.Transcript.{Transcript}
use Rattle.world_ports.specs.Streams.{StreamView}
use Rattle.standin_core.proofs.stream.serve.Given as goal

-- the talk is still under way, and all is sent
abbrev pub invariant-frames : goal.invariant-frames
invariant-frames g l = record {
  under : (hosts : List Host) (whole : List ℕ → Transcript) (start : StreamView)
      → ArePairs l.pairs hosts
      → IsUnderWay hosts whole start (g.P.Stream.seen l.fn.peer) [] → IsUnderWay hosts whole start (g.P.Stream.seen l.peer) l.heard.live;
  empty : l.out.live ≡ [];
}
