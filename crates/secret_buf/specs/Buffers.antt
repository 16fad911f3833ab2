-- Buffers whose storage holds nothing but their live bytes (ours).
use Rattle.std.specs.Prelude.{◌≡◌, ℕ, ◌+◌, ◌-◌, ◌/◌, ◌≤◌, List, [], ◌++◌, All, drop, length, replicate, slice_range, take}

-- the bytes that were pushed and not consumed, and how many more may be pushed without memory
pub record Buffer : Type 0 where
  pub live : List ℕ
  pub spare : ℕ

-- a buffer of no bytes, without storage
abbrev pub no_bytes : Buffer
no_bytes = record { live = []; spare = 0 }

-- the live bytes and the room for more are together no fewer than they were
abbrev pub KeepsRoom : Buffer → Buffer → Type 0
KeepsRoom old new = old.spare + length old.live ≤ new.spare + length new.live

-- every byte is zero
abbrev pub IsWiped : List ℕ → Type 0
IsWiped bytes = All (λ byte. byte ≡ 0) bytes

-- storage with these bytes in the place of those from at on
abbrev pub overwritten : List ℕ → ℕ → List ℕ → List ℕ
overwritten storage at bytes = take at storage ++ bytes ++ drop (at + length bytes) storage

-- storage with zeros in the place of the bytes from start to end
abbrev pub cleared : List ℕ → ℕ → ℕ → List ℕ
cleared storage start end = take start storage ++ replicate (end - start) 0 ++ drop end storage

-- how many live bytes storage of this size may hold: a sixteenth of it stays free
abbrev pub room_in : ℕ → ℕ
room_in size = size - size / 16

-- the buffer whose live bytes are those from start to end: they may come to fill the room in the storage
abbrev pub buffer_of : List ℕ → ℕ → ℕ → Buffer
buffer_of storage start end = record {
  live = slice_range storage start end;
  spare = room_in (length storage) - (end - start);
}

-- the bytes from start to end are within the room in the storage, and all others are zero
pub record IsScrubbed (storage : List ℕ) (start end : ℕ) : Type 0 where
  pub ordered : start ≤ end
  pub within : end ≤ length storage
  pub roomy : end - start ≤ room_in (length storage)
  pub before : IsWiped (take start storage)
  pub after : IsWiped (drop end storage)
