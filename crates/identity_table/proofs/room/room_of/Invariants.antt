use Rattle.std.proofs.Common.{◌≡◌, ◌+◌, ◌*◌, ◌-◌, ◌^◌, take, min}
use Rattle.std.specs.List.{sum_by}
use Rattle.identity_table.specs.Identities.{hop_len}
use Rattle.identity_table.proofs.room.room_of.Given as goal

-- what the private string, the purposes and the constraints so far take
abbrev pub invariant-loop-rule : goal.invariant-loop-rule
invariant-loop-rule l =
    l.room ≡ min (l.private + 320 * l.purposes + sum_by (λ rule. hop_len rule.from + hop_len rule.to) (take l.rule-index l.rules)) (2 ^ 64 - 1)
