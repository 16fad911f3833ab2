use Rattle.std.proofs.Common.{◌≡◌, take}
use Rattle.std.specs.List.{sum_by}
use Rattle.key_blob.specs.PublicKeys.{public_key_of}
use Rattle.dest_rule.specs.Chains.{names_len}
use Rattle.dest_rule.proofs.chain.all_names_len.Given as goal

-- what the host keys so far name
abbrev pub invariant-loop-binding : goal.invariant-loop-binding
invariant-loop-binding l =
    l.len ≡ sum_by (λ one. names_len (public_key_of one.host_key)) (take l.binding-index l.bindings)
