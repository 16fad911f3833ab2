use Rattle.std.proofs.Common.{◌≡◌, Some, refl, sym, ◌∙◌, arith}
use Rattle.std.proofs.lemmas.Map.Lookups.{exact_unsigned}
use Rattle.identity_table.specs.Indices.{blob_key, held, held_at}
use Rattle.identity_table.proofs.UpdateLemmas.{get-changed, none_is_not}
use Rattle.identity_table.proofs.records.Records.replace.Goals as goal
use Rattle.identity_table.proofs.IndexLemmas.{entry_of_put, entry_within, next_is_free, there}
use Rattle.identity_table.proofs.ReplacedLemmas.{IsIndexed-replaced, held-replaced}
use Rattle.identity_table.proofs.RoomLemmas.{room_of_put, room_within}

pub entry_len_of-len-requires : goal.entry_len_of-len-requires
entry_len_of-len-requires c = entry_of_put c.args.identity (held c.args.self.now) c.requires.fits

pub room_of_held-room-requires : goal.room_of_held-room-requires
room_of_held-room-requires c = room_of_put c.args.identity (held c.args.self.now) c.requires.fits

pub enter-requires : goal.enter-requires
enter-requires c = record {
  number = next_is_free c.args.self.now c.requires.indexed c.addition-number.result (c.addition-number.ensures ∙ c.requires.number);
}

pub returns-in_err-old-clause-indexed : goal.returns-in_err-old-clause-indexed
returns-in_err-old-clause-indexed c =
    let at = there blob_key (held_at c.args.self.now c.args.place) c.args.identity.blob
    (c.requires.indexed.blobs.held c.args.identity.blob c.args.place c.requires.blob) in
    none_is_not (held_at c.args.self.now c.args.place) at.0 c.in_err-old.ensures.absent at.1

pub returns-in_default-clause-indexed : goal.returns-in_default-clause-indexed
returns-in_default-clause-indexed c =
    let at = there blob_key (held_at c.args.self.now c.args.place) c.args.identity.blob
    (c.requires.indexed.blobs.held c.args.identity.blob c.args.place c.requires.blob) in
    none_is_not (held_at c.args.self.now c.args.place) at.0 (sym c.in_ok-old.ensures.old ∙ c.in_default.is) at.1

pub returns-in_default-clause-err : goal.returns-in_default-clause-err
returns-in_default-clause-err c =
    let at = there blob_key (held_at c.args.self.now c.args.place) c.args.identity.blob
    (c.requires.indexed.blobs.held c.args.identity.blob c.args.place c.requires.blob) in
    none_is_not (held_at c.args.self.now c.args.place) at.0 (sym c.in_ok-old.ensures.old ∙ c.in_default.is) at.1

pub entry_len_of-requires : goal.entry_len_of-requires
entry_len_of-requires c =
    (entry_within c.args.self.now c.requires.indexed c.args.place c.in-Some.old (sym c.in_ok-old.ensures.old ∙ c.in-Some.is)).0

pub overflow_sub-self : goal.overflow_sub-self
overflow_sub-self c =
    let entry = entry_within c.args.self.now c.requires.indexed c.args.place c.in-Some.old (sym c.in_ok-old.ensures.old ∙ c.in-Some.is) in
    omega (arith, entry.1, c.entry_len_of.ensures)

pub overflow_add-self : goal.overflow_add-self
overflow_add-self c = omega (
  arith,
  c.requires.indexed.listed,
  c.requires.indexed.sound.fits,
  c.entry_len_of-len.ensures,
  entry_of_put c.args.identity (held c.args.self.now) c.requires.fits,
)

pub room_of_held-requires : goal.room_of_held-requires
room_of_held-requires c =
    (room_within c.args.self.now c.requires.indexed c.args.place c.in-Some.old (sym c.in_ok-old.ensures.old ∙ c.in-Some.is)).0

pub overflow_sub-self-2 : goal.overflow_sub-self-2
overflow_sub-self-2 c =
    let room = room_within c.args.self.now c.requires.indexed c.args.place c.in-Some.old (sym c.in_ok-old.ensures.old ∙ c.in-Some.is) in
    omega (arith, room.1, c.room_of_held.ensures)

pub overflow_add-self-2 : goal.overflow_add-self-2
overflow_add-self-2 c = omega (
  arith,
  c.requires.indexed.kept,
  c.requires.indexed.sound.small,
  c.room_of_held-room.ensures,
  room_of_put c.args.identity (held c.args.self.now) c.requires.fits,
)

pub returns-clause-indexed : goal.returns-clause-indexed
returns-clause-indexed c =
    let old = c.args.self.now in
    let at : held_at old c.args.place ≡ Some c.in-Some.old = sym c.in_ok-old.ensures.old ∙ c.in-Some.is in
    let entry = entry_within old c.requires.indexed c.args.place c.in-Some.old at in
    let room = room_within old c.requires.indexed c.args.place c.in-Some.old at in
    IsIndexed-replaced old (record old { numbers = c.enter.new.numbers; deaths = c.enter.new.deaths }) _ c.args.place
    c.args.identity c.in-Some.old c.requires.indexed c.requires.blob at c.requires.number c.requires.fits c.requires.short c.requires.usable
    c.in_ok-old.ensures.ordered c.in_ok-old.ensures.entries
    (get-changed exact_unsigned old.places c.insert.new.self c.args.place (Some c.args.identity) c.in_ok-old.ensures.updates)
    (λ key. refl)
    (rw c.addition-number.ensures at c.in_ok-enter.ensures.numbers)
    (rw c.addition.ensures at c.leave.ensures.numbers)
    (rw (c.addition-number.ensures, c.death.ensures) at c.in_ok-enter.ensures.deaths)
    (rw (c.addition.ensures, c.death-2.ensures) at c.leave.ensures.deaths)
    (omega (arith, entry.1, c.entry_len_of.ensures, c.entry_len_of-len.ensures))
    (omega (arith, room.1, c.room_of_held.ensures, c.room_of_held-room.ensures))
    c.addition-number.ensures

pub returns-clause-ok : goal.returns-clause-ok
returns-clause-ok c =
    held-replaced c.args.self.now c.insert.new.self c.args.place c.args.identity c.in-Some.old c.requires.indexed c.requires.blob
    (sym c.in_ok-old.ensures.old ∙ c.in-Some.is) c.in_ok-old.ensures.entries
