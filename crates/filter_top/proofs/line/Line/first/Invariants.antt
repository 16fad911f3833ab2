use Rattle.std.proofs.Common.{◌≡◌, drop}
use Rattle.filter_model.specs.Lines.{first_servable}
use Rattle.filter_top.proofs.line.Line.first.Given as goal

-- nothing before the index can be served
abbrev pub invariant-things : goal.invariant-things
invariant-things l = first_servable l.filter (drop l.thing-index l.thing-items) ≡ first_servable l.filter l.self
