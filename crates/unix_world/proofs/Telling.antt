-- Whom a poll tells of: each port that was owed.
use Rattle.std.proofs.Common.{◌<◌, ℕ, List, ◌++◌, Contains, map, length, ap, arith, ◌∙◌}
use Rattle.std.proofs.Math.ListN.{get_or-map}
use Rattle.std.proofs.lemmas.List.{length-map}
use Rattle.std.proofs.lemmas.List.Elements.{Contains-append_left, Contains-append_right}
use Rattle.world_ports.specs.declared.answers.Ready.{Ready}
use Rattle.world_ports.specs.declared.answers.Spot.TheVariants.{Port}
use Rattle.unix_world.specs.declared.owed.Owed.{Owed}
use Rattle.unix_world.specs.Rounds.{IsTold, readable_at, writable_at}

-- what is made of each element has what is made of an element
pub Contains-map : (f : ℕ → Ready) (xs : List ℕ) (x : ℕ) → Contains xs x → Contains (map f xs) (f x)
Contains-map f xs x h =
    let within : h.0 < length (map f xs) = omega (arith, length-map xs f, h.1) in
    (h.0, within, get_or-map f xs h.0 x ∙ ap f h.2)

-- the list of both kinds of ports tells of each
pub told_each : (owed : Owed) (before : List Ready)
    → IsTold owed ((before ++ map (λ port. readable_at (Port port)) owed.reads.items)
    ++ map (λ port. writable_at (Port port)) owed.writes.items)
told_each owed before =
    let read : ℕ → Ready = λ port. readable_at (Port port) in
    let write : ℕ → Ready = λ port. writable_at (Port port) in
    let reads : List Ready = map read owed.reads.items in
    let writes : List Ready = map write owed.writes.items in
    record {
      reads = λ port h. Contains-append_left (before ++ reads) writes (read port)
          (Contains-append_right before reads (read port) (Contains-map read owed.reads.items port h));
      writes = λ port h. Contains-append_right (before ++ reads) writes (write port)
          (Contains-map write owed.writes.items port h);
    }
