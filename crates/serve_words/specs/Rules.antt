-- clap's rules for the kinds of argument that `serve` takes.
use Rattle.std.specs.Prelude.{ℕ, Bool, List, Some}
use Rattle.clap.specs.Simple.{new_rule}
use Rattle.clap.specs.Walk.{Rule}
use Rattle.clap.specs.declared.builder.action.ArgAction.TheVariants.{Set, SetTrue}

-- `--NAME VALUE`
abbrev pub long_rule : List ℕ → Bool → Rule
long_rule name required = record (new_rule name) { long = Some name; action = Some Set; required = required }

-- `-LETTER VALUE`
abbrev pub short_rule : List ℕ → ℕ → Bool → Rule
short_rule name letter required = record (new_rule name) { short = Some letter; action = Some Set; required = required }

-- `--NAME`
abbrev pub flag_rule : List ℕ → Rule
flag_rule name = record (new_rule name) { long = Some name; action = Some SetTrue }
