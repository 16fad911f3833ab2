use Rattle.std.proofs.Common.{◌≡◌, take}
use Rattle.add_rules.specs.Rules.{keys_of}
use Rattle.add_rules.proofs.rules.keys_of.Given as goal

-- the keys so far are those of the files so far
abbrev pub invariant-files : goal.invariant-files
invariant-files l = l.keys.items ≡ keys_of (take l.file-index l.files) l.host
