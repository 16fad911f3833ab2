use Rattle.wire_core.proofs.Theorems.{boolean_at-boolean, uint32_at-uint32, uint64_at-uint64, string_at-string}
use Rattle.wire_core.proofs.laws.what_was_put_is_taken.Goals as goal

pub returns : goal.returns
returns c = record {
  boolean = boolean_at-boolean;
  uint32 = uint32_at-uint32;
  uint64 = uint64_at-uint64;
  string = string_at-string;
}
