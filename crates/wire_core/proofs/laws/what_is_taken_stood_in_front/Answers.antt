use Rattle.wire_core.proofs.Theorems.{uint32_is_front, uint64_is_front, string_is_front}
use Rattle.wire_core.proofs.laws.what_is_taken_stood_in_front.Goals as goal

pub returns : goal.returns
returns c = record {
  uint32 = λ bytes value rest each taken.
      let front = uint32_is_front bytes value rest each taken in
      (front.0.parts, front.1);
  uint64 = λ bytes value rest each taken.
      let front = uint64_is_front bytes value rest each taken in
      (front.0.parts, front.1);
  string = λ bytes text rest each taken.
      let front = string_is_front bytes text rest each taken in
      (front.0.parts, front.1);
}
