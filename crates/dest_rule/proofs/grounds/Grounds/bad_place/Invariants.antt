use Rattle.std.proofs.Common.{◌≡◌, drop}
use Rattle.std.specs.Prelude.{IfSome}
use Rattle.std.specs.Option.{option_map}
use Rattle.dest_rule.specs.GroundsOf.{grounds_of}
use Rattle.dest_rule.specs.HostKeys.{IsRead}
use Rattle.dest_rule.specs.Rules.{bad_place_in}
use Rattle.dest_rule.proofs.PlaceLemmas.{bad_place_rest}
use Rattle.dest_rule.proofs.grounds.Grounds.bad_place.Given as goal

-- the previous host key was read, and every place so far is good
abbrev pub invariant-bindings : goal.invariant-bindings
invariant-bindings l = record {
  read : IfSome l.previous IsRead;
  good : bad_place_rest (grounds_of l.self) l.place (option_map (λ host. host.blob.now) l.previous) (drop l.place l.bindings)
      ≡ bad_place_in (grounds_of l.self) l.bindings;
}
