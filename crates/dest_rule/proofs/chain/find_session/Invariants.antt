use Rattle.std.proofs.Common.{◌≡◌, drop}
use Rattle.dest_rule.specs.Chains.{find_session}
use Rattle.dest_rule.proofs.chain.find_session.Given as goal

-- none of the bindings so far is of the session
abbrev pub invariant-loop-binding : goal.invariant-loop-binding
invariant-loop-binding l =
    find_session l.session (drop l.binding-index l.bindings) ≡ find_session l.session l.bindings
