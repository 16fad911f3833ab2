use Rattle.std.proofs.Common.{◌+◌, length}
use Rattle.pattern_core.proofs.tests.+matches_by_cases.Given as goal

abbrev pub decreases-matches_by_cases : goal.decreases-matches_by_cases
decreases-matches_by_cases l = length l.text.now + length l.pattern.now
