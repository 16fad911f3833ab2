-- A line of the code's table as a line of the table of KeyTypes.
use Rattle.std.specs.Prelude.{List, map}
use Rattle.key_blob.specs.declared.key_type.KeyType.{KeyType as Row}
use Rattle.key_blob.specs.declared.key_type.Field.{Field as RowField}
use Rattle.key_blob.specs.declared.key_type.Field.TheVariants as code
use Rattle.key_blob.specs.KeyTypes.{Field, KeyType, any, number, sized, text}

-- the field
abbrev pub field_of : RowField → Field
field_of code.Any = any
field_of code.Number = number
field_of (code.Sized len) = sized len
field_of (code.Text bytes) = text bytes.now

-- the fields
abbrev pub fields_of : List RowField → List Field
fields_of fields = map field_of fields

-- the line
abbrev pub line_of : Row → KeyType
line_of row = record {
  name = row.name.now;
  public = fields_of row.public.now;
  added = fields_of row.added.now;
  is_reversed = row.is_reversed;
  again = fields_of row.again.now;
  private = fields_of row.private.now;
  other_algorithms = map (λ name. name.now) row.other_algorithms.now;
  word = row.word.now;
  bits = row.bits;
}
