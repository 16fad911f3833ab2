use Rattle.std.proofs.Common.{◌≡◌, drop}
use Rattle.std.specs.List.{list_any}
use Rattle.filter_core.specs.Index.{is_blob_at, items_of}
use Rattle.filter_core.proofs.blobs.has_at.Given as goal

-- it isn't before the index
abbrev pub invariant-places : goal.invariant-places
invariant-places l =
    list_any (is_blob_at l.blob (items_of l.blobs)) (drop l.place-index l.places) ≡ list_any (is_blob_at l.blob (items_of l.blobs)) l.places
