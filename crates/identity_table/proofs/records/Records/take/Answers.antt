use Rattle.std.proofs.Common.{◌≡◌, Some, None, refl, sym, arith}
use Rattle.std.proofs.lemmas.Map.Lookups.{exact_unsigned}
use Rattle.identity_table.specs.Indices.{held_at}
use Rattle.identity_table.proofs.UpdateLemmas.{bytes-changed, get-changed}
use Rattle.identity_table.proofs.records.Records.take.Goals as goal
use Rattle.identity_table.proofs.IndexLemmas.{entry_within}
use Rattle.identity_table.proofs.RemovedLemmas.{IsIndexed-removed, held-removed}
use Rattle.identity_table.proofs.RoomLemmas.{room_within}

pub entry_len_of-requires : goal.entry_len_of-requires
entry_len_of-requires c =
    (entry_within c.args.self.now c.requires.indexed c.args.place c.in-Some.identity (sym c.in-Some.ensures.value)).0

pub room_of_held-requires : goal.room_of_held-requires
room_of_held-requires c =
    (room_within c.args.self.now c.requires.indexed c.args.place c.in-Some.identity (sym c.in-Some.ensures.value)).0

pub overflow_sub-self-in-Some : goal.overflow_sub-self-in-Some
overflow_sub-self-in-Some c =
    let room = room_within c.args.self.now c.requires.indexed c.args.place c.in-Some.identity (sym c.in-Some.ensures.value) in
    omega (arith, room.1, c.room_of_held.ensures)

pub overflow_sub-self : goal.overflow_sub-self
overflow_sub-self c =
    let entry = entry_within c.args.self.now c.requires.indexed c.args.place c.in-Some.identity (sym c.in-Some.ensures.value) in
    omega (arith, entry.1, c.entry_len_of.ensures)

pub returns-in-Some-clause-indexed : goal.returns-in-Some-clause-indexed
returns-in-Some-clause-indexed c =
    let old = c.args.self.now in
    let at : held_at old c.args.place ≡ Some c.in-Some.identity = sym c.in-Some.ensures.value in
    let entry = entry_within old c.requires.indexed c.args.place c.in-Some.identity at in
    let room = room_within old c.requires.indexed c.args.place c.in-Some.identity at in
    IsIndexed-removed old _ c.args.place c.in-Some.identity c.requires.indexed at c.in-Some.ensures.ordered c.in-Some.ensures.entries
    (get-changed exact_unsigned old.places c.remove.new.self c.args.place None c.in-Some.ensures.updates)
    (rw c.blob.ensures at (bytes-changed old.blobs c.remove-in-Some.new.self (λ k. k.items) c.blob.result.now None c.remove-in-Some.ensures.updates))
    (rw c.addition.ensures at c.leave.ensures.numbers)
    (rw (c.addition.ensures, c.death.ensures) at c.leave.ensures.deaths)
    (omega (arith, entry.1, c.entry_len_of.ensures))
    (omega (arith, room.1, c.room_of_held.ensures))
    refl

pub returns-in-Some-clause-removed : goal.returns-in-Some-clause-removed
returns-in-Some-clause-removed c =
    let at : held_at c.args.self.now c.args.place ≡ Some c.in-Some.identity = sym c.in-Some.ensures.value in
    rw at (held-removed c.args.self.now c.remove.new.self c.args.place c.in-Some.identity c.requires.indexed at c.in-Some.ensures.entries)
