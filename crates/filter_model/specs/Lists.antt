-- What a filter lets be used: keys, and what they may sign for (ours).
use Rattle.std.specs.Prelude.{ℕ, List, Option, Some, None}
use Rattle.key_purposes.specs.declared.purpose.Purpose.{Purpose}

-- the blobs of the keys that may be used; and what each may sign for: any message where no purposes are given
pub record Listed : Type 0 where
  pub blobs : List (List ℕ)
  pub purposes : Option (List Purpose)

-- keys that may sign any message
abbrev pub for_all : List (List ℕ) → Listed
for_all blobs = record { blobs = blobs; purposes = None }

-- keys that sign for these purposes alone
abbrev pub for_these : List Purpose → List (List ℕ) → Listed
for_these purposes blobs = record { blobs = blobs; purposes = Some purposes }
