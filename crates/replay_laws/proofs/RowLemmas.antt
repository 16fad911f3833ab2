-- The pieces of a literal run are bytes.
use Rattle.std.proofs.Common.{◌≡◌, ℕ, ◌<◌, List, [], ◌∷◌, refl, arith, Bool, true, false, ◌&&◌, nat_lt}
use Rattle.std.proofs.lemmas.Bool.Decides.{nat_tests}
use Rattle.std.proofs.lemmas.List.Elements.{All-cons, All-nil}
use Rattle.wire_text.specs.Wire.{IsBytes}
use Rattle.agent_model.specs.ChildRows.{hello}
use Rattle.agent_model.specs.Rows.{add, sign}
use Rattle.agent_secrecy.specs.Pieces.{AreOfBytes}
use Rattle.replay_laws.specs.Rows.{late}

-- each is below 256, as a test
are_bytes : List ℕ → Bool
are_bytes [] = true
are_bytes (byte ∷ bytes) = nat_lt byte 256 && are_bytes bytes

both : (one other : Bool) → (one && other) ≡ true → (one ≡ true) × (other ≡ true)
both true true is = (refl, refl)
both true false is = absurd (cc)
both false other is = absurd (cc)

below : (byte : ℕ) → nat_lt byte 256 ≡ true → byte < 256
below byte is = grind (arith, nat_tests)

bytes_are : (bytes : List ℕ) → are_bytes bytes ≡ true → IsBytes bytes
unfolding are_bytes
bytes_are [] is = All-nil (λ byte. byte < 256)
bytes_are (byte ∷ bytes) is =
    let parts = both (nat_lt byte 256) (are_bytes bytes) is in
    All-cons (λ byte. byte < 256) byte bytes (below byte parts.0) (bytes_are bytes parts.1)

pub late_of_bytes : AreOfBytes late
unfolding are_bytes
late_of_bytes = (
  tt,
  (
    bytes_are (add 17) refl,
    (tt, (bytes_are (sign 17) refl, (tt, (tt, (bytes_are (hello 1 9) refl, (tt, tt)))))),
  ),
)
