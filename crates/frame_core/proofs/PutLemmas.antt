-- What a look finds in a frame that was put.
use Rattle.std.proofs.Common.{◌≡◌, ℕ, ◌+◌, ◌^◌, ◌<◌, List, ◌++◌, length, refl, ◌∙◌}
use Rattle.std.proofs.lemmas.List.{take_at, drop_at}
use Rattle.wire_text.specs.Wire.{string}
use Rattle.wire_text.specs.Frames.{front, IsBody}
use Rattle.wire_text.proofs.WireLemmas.{drop-string, length-string}
use Rattle.wire_text.proofs.FrontLemmas.{front-string}
use Rattle.frame_core.specs.declared.outcome.Look.{Look}
use Rattle.frame_core.specs.declared.outcome.Look.TheVariants as answers
use Rattle.frame_core.specs.Looks.{front_of, FindsBody}
use Rattle.frame_core.proofs.LookLemmas.{same_look}

-- a look that tells of the front of a frame and what follows finds the body, and leaves the rest
pub string_is_found : (max : ℕ) (body rest : List ℕ) (answer : Look)
    → max < 2 ^ 32 → IsBody max body
    → front_of answer ≡ front max (string body ++ rest)
    → FindsBody (string body ++ rest) answer body rest
string_is_found max body rest answer small is tells = record {
  whole = same_look answer (answers.Whole _) (tells ∙ front-string max body rest small is);
  found = rw drop-string (take_at body rest (length body) refl);
  left = drop_at (string body) rest (4 + length body) (length-string body);
}
