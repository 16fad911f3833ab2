use Rattle.std.proofs.Common.{◌≡◌, ◌+◌, ℕ, Some, None, refl, sym, ap, ◌∙◌, arith}
use Rattle.std.specs.BTreeMap.{get, get_by, is_at}
use Rattle.std.specs.Map.{lookup}
use Rattle.std.specs.Ordering.{nat_cmp}
use Rattle.std.specs.Cmp.Lexicographic.{slice_cmp}
use Rattle.std.proofs.lemmas.Map.Lookups.{exact_unsigned}
use Rattle.identity_table.specs.Identities.{HeldKey}
use Rattle.identity_table.specs.Indices.{death_by, death_cmp, held, place_of_blob, place_of_death, place_of_number}
use Rattle.identity_table.proofs.UpdateLemmas.{bytes-changed, get-changed, same_some, told_bytes, told_numbers, told_pairs, undone}
use Rattle.identity_table.proofs.records.Records.push.Goals as goal
use Rattle.identity_table.proofs.ChangeLemmas.{IsIndexed-same}
use Rattle.identity_table.proofs.IndexLemmas.{entry_of_put, next_death_is_free, next_is_free}
use Rattle.identity_table.proofs.PushedLemmas.{IsIndexed-pushed, held-pushed}
use Rattle.identity_table.proofs.RoomLemmas.{room_of_put}

pub entry_len_of-len-requires : goal.entry_len_of-len-requires
entry_len_of-len-requires c = entry_of_put c.args.identity (held c.args.self.now) c.requires.fits

pub room_of_held-room-requires : goal.room_of_held-room-requires
room_of_held-room-requires c = room_of_put c.args.identity (held c.args.self.now) c.requires.fits

pub enter-requires : goal.enter-requires
enter-requires c = record {
  number = next_is_free c.args.self.now c.requires.indexed c.addition-number.result (c.addition-number.ensures ∙ c.requires.number);
}

pub returns-in-Err-clause-indexed : goal.returns-in-Err-clause-indexed
returns-in-Err-clause-indexed c =
    let old = c.args.self.now in
    let number : ℕ = c.addition-number.result in
    let next : number ≡ old.last + 1 = c.addition-number.ensures ∙ c.requires.number in
    IsIndexed-same old _ c.requires.indexed refl
    (λ key. ap (lookup (is_at (λ k. slice_cmp nat_cmp key k.items))) c.in-Err.ensures.err)
    (undone told_numbers (place_of_number old) (get nat_cmp c.enter.new.numbers) (get nat_cmp c.leave.new.numbers) (Some number) number
    c.in_ok-enter.ensures.numbers c.leave.ensures.numbers
    (λ one is. ap (place_of_number old) (sym (same_some number one is)) ∙ next_is_free old c.requires.indexed number next))
    (undone told_pairs (place_of_death old) (get death_cmp c.enter.new.deaths) (get death_cmp c.leave.new.deaths)
    (death_by c.death-death.result number) number c.in_ok-enter.ensures.deaths c.leave.ensures.deaths
    (next_death_is_free old c.requires.indexed number c.death-death.result next))
    refl refl refl

pub overflow_add-self : goal.overflow_add-self
overflow_add-self c = omega (
  arith,
  c.requires.indexed.listed,
  c.requires.indexed.sound.fits,
  c.entry_len_of-len.ensures,
  entry_of_put c.args.identity (held c.args.self.now) c.requires.fits,
)

pub overflow_add-self-in-Ok : goal.overflow_add-self-in-Ok
overflow_add-self-in-Ok c = omega (
  arith,
  c.requires.indexed.kept,
  c.requires.indexed.sound.small,
  c.room_of_held-room.ensures,
  room_of_put c.args.identity (held c.args.self.now) c.requires.fits,
)

pub returns-in-Ok-clause-indexed : goal.returns-in-Ok-clause-indexed
returns-in-Ok-clause-indexed c =
    let old = c.args.self.now in
    IsIndexed-pushed old _ c.args.identity c.requires.indexed c.requires.blob c.requires.number c.requires.fits c.requires.short c.requires.usable
    c.in-Ok.ensures.ordered
    (rw c.addition-number.ensures at c.in-Ok.ensures.entries)
    (get-changed exact_unsigned old.places c.insert-2.new.self c.args.identity.number (Some c.args.identity)
    (rw c.addition-number.ensures at c.in-Ok.ensures.updates))
    (rw (c.in_ok-blob.ensures.items, c.blob.ensures, c.addition-number.ensures) at
    (bytes-changed old.blobs c.insert.new.self (λ k. k.items) c.in_ok-blob.blob.items (Some c.addition-number.result) c.in_default.ensures.updates))
    (rw c.addition-number.ensures at c.in_ok-enter.ensures.numbers)
    (rw (c.addition-number.ensures, c.death-death.ensures) at c.in_ok-enter.ensures.deaths)
    (ap (λ (len : ℕ). old.listed + len) c.entry_len_of-len.ensures)
    (ap (λ (room : ℕ). old.kept + room) c.room_of_held-room.ensures)
    c.addition-number.ensures

pub returns-in-Ok-clause-ok : goal.returns-in-Ok-clause-ok
returns-in-Ok-clause-ok c =
    held-pushed c.args.self.now c.insert-2.new.self c.args.identity c.requires.indexed c.requires.blob c.requires.number
    (rw c.addition-number.ensures at c.in-Ok.ensures.entries)

pub returns-clause-indexed : goal.returns-clause-indexed
returns-clause-indexed c =
    let old = c.args.self.now in
    let number : ℕ = c.addition-number.result in
    let next : number ≡ old.last + 1 = c.addition-number.ensures ∙ c.requires.number in
    let blob : c.in_ok-blob.blob.items ≡ c.args.identity.blob = c.in_ok-blob.ensures.items ∙ c.blob.ensures in
    let same : c.blob-in-Err-insert.result.now ≡ c.args.identity.blob =
    c.blob-in-Err-insert.ensures ∙ ap (λ (p : ℕ × HeldKey). p.1.blob) c.in-Err-insert.ensures.value_returned in
    IsIndexed-same old _ c.requires.indexed c.in-Err-insert.ensures.err
    (undone told_bytes (place_of_blob old)
    (λ key. get_by (λ k. slice_cmp nat_cmp key k.items) c.insert.new.self)
    (λ key. get_by (λ k. slice_cmp nat_cmp key k.items) c.remove.new.self)
    (Some c.args.identity.blob) number
    (rw blob at (bytes-changed old.blobs c.insert.new.self (λ k. k.items) c.in_ok-blob.blob.items (Some number) c.in_default.ensures.updates))
    (rw same at (bytes-changed c.insert.new.self c.remove.new.self (λ k. k.items) c.blob-in-Err-insert.result.now None c.remove.ensures.updates))
    (λ one is. ap (place_of_blob old) (sym (same_some c.args.identity.blob one is)) ∙ c.requires.blob))
    (undone told_numbers (place_of_number old) (get nat_cmp c.enter.new.numbers) (get nat_cmp c.leave-in-Err-insert.new.numbers) (Some number) number
    c.in_ok-enter.ensures.numbers c.leave-in-Err-insert.ensures.numbers
    (λ one is. ap (place_of_number old) (sym (same_some number one is)) ∙ next_is_free old c.requires.indexed number next))
    (undone told_pairs (place_of_death old) (get death_cmp c.enter.new.deaths) (get death_cmp c.leave-in-Err-insert.new.deaths)
    (death_by c.death-death.result number) number c.in_ok-enter.ensures.deaths c.leave-in-Err-insert.ensures.deaths
    (next_death_is_free old c.requires.indexed number c.death-death.result next))
    refl refl refl
