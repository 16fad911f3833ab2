use Rattle.std.proofs.Common.{◌≡◌, drop}
use Rattle.filter_model.specs.Lines.{queued_all}
use Rattle.filter_top.proofs.line.Line.add_all.Given as goal

-- the items from the index on are to be added
abbrev pub invariant-items : goal.invariant-items
invariant-items l = queued_all l.filter (drop l.item-index l.items) l.self ≡ queued_all l.filter l.items l.fn.self
