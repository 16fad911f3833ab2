use Rattle.std.proofs.Common.{sym, arith}
use Rattle.identity_table.proofs.records.Records.others_kept.Goals as goal
use Rattle.identity_table.proofs.RoomLemmas.{room_of_found}

pub room_of_held-requires : goal.room_of_held-requires
room_of_held-requires c =
    (room_of_found c.args.self.now c.requires c.args.blob.now c.in-Some.identity.now (sym c.in-Some.ensures)).0

pub overflow_sub-result : goal.overflow_sub-result
overflow_sub-result c =
    let room = room_of_found c.args.self.now c.requires c.args.blob.now c.in-Some.identity.now (sym c.in-Some.ensures) in
    omega (arith, room.1, c.room_of_held.ensures)

pub returns-in-Some : goal.returns-in-Some
returns-in-Some c =
    let room = room_of_found c.args.self.now c.requires c.args.blob.now c.in-Some.identity.now (sym c.in-Some.ensures) in
    omega (arith, room.1, room.2, c.room_of_held.ensures, c.requires.kept)
