-- How much room one identity takes of what all take.
use Rattle.std.proofs.Common.{◌≡◌, ℕ, ◌+◌, ◌≤◌, false, List, Some, ap, arith}
use Rattle.identity_table.specs.Identities.{HeldKey, find_identity, is_full, kept_by, kept_if, kept_len, put_identity}
use Rattle.identity_table.specs.Indices.{IsIndexed, held, held_at}
use Rattle.identity_table.specs.declared.records.Records.{Records}
use Rattle.identity_table.proofs.IndexLemmas.{entry_at}
use Rattle.identity_table.proofs.KeptLemmas.{kept_len-put, kept_len-removed, not_full}

-- what is found takes a part
pub room_of_found : (records : Records) → IsIndexed records → (blob : List ℕ) (one : HeldKey) →
    find_identity blob (held records) ≡ Some one →
    (kept_by one ≤ 8388608) × (kept_by one ≤ records.kept) × (kept_if (find_identity blob (held records)) ≡ kept_by one)
room_of_found records indexed blob one found =
    let whole = kept_len-removed blob (held records) in
    let taken : kept_if (find_identity blob (held records)) ≡ kept_by one = ap kept_if found in (
      omega (arith, whole, taken, indexed.sound.small),
      omega (arith, whole, taken, indexed.kept),
      taken,
    )

-- what stands at a place takes a part
pub room_within : (records : Records) → IsIndexed records → (place : ℕ) (one : HeldKey) →
    held_at records place ≡ Some one → (kept_by one ≤ 8388608) × (kept_by one ≤ records.kept)
room_within records indexed place one at =
    let room = room_of_found records indexed one.blob one (entry_at records indexed place one at) in
    (room.0, room.1)

-- what is to be added takes a part of what all take then
pub room_of_put : (one : HeldKey) (keys : List HeldKey) → is_full (put_identity one keys) ≡ false →
    kept_by one ≤ 8388608
room_of_put one keys fits =
    omega (arith, (not_full (put_identity one keys) fits).1, kept_len-put one keys, kept_len-removed one.blob keys)
