use Rattle.std.proofs.Common.{◌≡◌, drop}
use Rattle.std.specs.Prelude.{All}
use Rattle.constraint_rec.specs.Hops.{IsDestination}
use Rattle.add_rules.specs.Rules.{rules_of}
use Rattle.add_rules.proofs.RuleLemmas.{behind, lent}
use Rattle.add_rules.proofs.rules.destination_rules.Given as goal

-- the constraints so far, and then those of the words that are left, are all
abbrev pub invariant-words : goal.invariant-words
invariant-words l = record {
  made : rules_of l.files (lent l.words) ≡ behind l.rules.items (rules_of l.files (lent (drop l.word-index l.words)));
  good : All IsDestination l.rules.items;
}
