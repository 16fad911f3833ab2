use Rattle.std.proofs.Common.{◌≡◌, length, take}
use Rattle.std.specs.List.{sum_by}
use Rattle.dest_rule.proofs.chain.host_keys_len.Given as goal

-- what the host keys so far have
abbrev pub invariant-loop-binding : goal.invariant-loop-binding
invariant-loop-binding l =
    l.len ≡ sum_by (λ one. length one.host_key) (take l.binding-index l.bindings)
