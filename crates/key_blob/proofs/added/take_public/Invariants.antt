use Rattle.std.proofs.Common.{◌≡◌, drop}
use Rattle.key_blob.specs.Rows.{fields_of, line_of}
use Rattle.key_blob.specs.AddedKeys.{blob_fields_at}
use Rattle.key_blob.proofs.BlobLemmas.{completed}
use Rattle.key_blob.proofs.added.take_public.Given as goal

-- what is there, completed by the fields that are left, is the whole
abbrev pub invariant-loop-field : goal.invariant-loop-field
invariant-loop-field l =
    completed (line_of l.key_type) l.strings.items (fields_of (drop l.field-index l.field-items)) l.from
    ≡ blob_fields_at (line_of l.fn.key_type) l.fn.from
