use Rattle.std.proofs.Common.{◌≡◌, drop}
use Rattle.filter_model.specs.Filters.{has_number}
use Rattle.filter_core.proofs.filter.has_number.Given as goal

-- it isn't before the index
abbrev pub invariant-others : goal.invariant-others
invariant-others l = has_number l.number (drop l.other-index l.numbers) ≡ has_number l.number l.numbers
