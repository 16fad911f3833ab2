use Rattle.helper_link.specs.HelperLink.{ArePutBy, IsLinked}
use Rattle.bench_tool.proofs.link.answered.Given as goal

abbrev pub invariant-batches : goal.invariant-batches
invariant-batches l = IsLinked l.link.state × ArePutBy 0 l.link.asks
