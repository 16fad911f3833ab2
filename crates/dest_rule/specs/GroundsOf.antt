-- By what a chain is judged, as the code holds it.
use Rattle.std.specs.Option.{option_map}
use Rattle.dest_rule.specs.declared.grounds.Grounds.{Grounds as Held}
use Rattle.dest_rule.specs.Rules.{Grounds}

-- what the code judges a chain by, without where it lies in memory
abbrev pub grounds_of : Held → Grounds
grounds_of held = record {
  rules = held.rules.now;
  user = option_map (λ name. name.now) held.user;
  wall = held.wall;
}
