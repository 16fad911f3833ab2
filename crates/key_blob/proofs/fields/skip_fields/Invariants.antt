use Rattle.std.proofs.Common.{◌≡◌, drop}
use Rattle.key_blob.specs.Rows.{fields_of}
use Rattle.key_blob.specs.Reading.{after_fields}
use Rattle.key_blob.proofs.fields.skip_fields.Given as goal

-- what follows the fields that are left is what follows all of them
abbrev pub invariant-loop-field : goal.invariant-loop-field
invariant-loop-field l = after_fields (fields_of (drop l.field-index l.fields)) l.from ≡ after_fields (fields_of l.fn.fields) l.fn.from
