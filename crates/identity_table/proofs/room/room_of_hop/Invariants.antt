use Rattle.std.proofs.Common.{◌≡◌, ◌+◌, ◌-◌, ◌^◌, ◌*◌, length, take, min}
use Rattle.std.specs.List.{sum_by}
use Rattle.identity_table.proofs.room.room_of_hop.Given as goal

-- what the hop takes with the keys so far
abbrev pub invariant-loop-key : goal.invariant-loop-key
invariant-loop-key l =
    l.room ≡ min (64 + length l.hop.user + 8 * length l.hop.host + sum_by (λ key. 64 + length key.blob) (take l.key-index l.hop.keys)) (2 ^ 64 - 1)
