use Rattle.helper_link.specs.HelperLink.{ArePutBy, IsLinked}
use Rattle.bench_tool.proofs.link.batch.Given as goal

abbrev pub invariant-asks : goal.invariant-asks
invariant-asks l = IsLinked l.link.state × ArePutBy 0 l.link.asks
