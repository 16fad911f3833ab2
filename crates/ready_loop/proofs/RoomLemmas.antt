-- A room that was read into is wiped again.
use Rattle.std.proofs.Common.{◌≡◌, ◌∙◌, ℕ, ◌+◌, ◌-◌, ◌<◌, List, [], ◌++◌, length, drop, ap, sym}
use Rattle.std.specs.Prelude.{replicate}
use Rattle.std.proofs.lemmas.List.{drop-replicate, length-replicate, replicate-append-replicate}
use Rattle.ready_loop.specs.Rooms.{IsWiped}
use Rattle.std.proofs.lemmas.List.Elements.{All-nil}
use Rattle.wire_text.specs.Wire.{IsBytes}

-- nothing was read
pub no_bytes : IsBytes []
no_bytes = All-nil (λ byte. byte < 256)

-- so many zeros are wiped
pub zeros_are_wiped : (bytes : List ℕ) (count : ℕ) → bytes ≡ replicate count 0 → IsWiped bytes
zeros_are_wiped bytes count is =
    is ∙ ap (λ (n : ℕ). replicate n 0) (sym (ap length is ∙ length-replicate count 0))

-- zeros before what is left of zeros
pub wiped_again : (filled now before : List ℕ) (count some : ℕ) → filled ≡ replicate some 0
    → drop count now ≡ drop count before → IsWiped before → IsWiped (filled ++ drop count now)
wiped_again filled now before count some is rest wiped =
    let left : drop count now ≡ replicate (length before - count) 0 =
    rest ∙ ap (drop count) wiped ∙ drop-replicate count (length before) 0 in
    zeros_are_wiped (filled ++ drop count now) (some + (length before - count))
    (ap (λ (xs : List ℕ). xs ++ drop count now) is ∙ ap (λ (ys : List ℕ). replicate some 0 ++ ys) left
    ∙ replicate-append-replicate some (length before - count) 0)
