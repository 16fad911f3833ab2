-- How a blob is found among others (ours): by a mark, for which there is a bucket with the places of the blobs that have it.
use Rattle.std.specs.Prelude.{◌≡◌, ℕ, ◌+◌, ◌*◌, ◌-◌, ◌/◌, ◌%◌, ◌<◌, Bool, true, false, List, [], length, map, get_or, slice_get, Option, Some, None, Vec}
use Rattle.std.specs.declared.alloc.Global.{Global}
use Rattle.std.specs.Str.{bytes_eq}
use Rattle.filter_model.specs.Filters.{has_number}

-- the items of vectors
abbrev pub items_of : List (Vec ℕ Global) → List (List ℕ)
items_of vectors = map (λ one. one.items) vectors

-- how many marks there are
abbrev pub most_marks : ℕ
most_marks = 1024

-- the mark of a blob: by two bytes in the middle and its last one, since the blobs of keys of one type begin alike, those
-- of security keys for one application end alike, and certificates of one authority may have the same middle
abbrev pub mark_of : List ℕ → ℕ
mark_of blob =
    (4 * (get_or blob (length blob / 2) 0 + get_or blob (length blob / 2 + 1) 0) + get_or blob (length blob - 1) 0)
    % most_marks

-- this is the blob
abbrev pub is_blob : List ℕ → Option (List ℕ) → Bool
is_blob blob None = false
is_blob blob (Some other) = bytes_eq blob other

-- the blob stands at this place
abbrev pub is_blob_at : List ℕ → List (List ℕ) → ℕ → Bool
is_blob_at blob blobs place = is_blob blob (slice_get blobs place)

-- the place of each blob stands in the bucket of its mark
pub record IsIndexed (blobs buckets : List (List ℕ)) : Type 0 where
  pub marks : length buckets ≡ most_marks
  pub each : (place : ℕ) → place < length blobs
      → has_number place (get_or buckets (mark_of (get_or blobs place [])) []) ≡ true
