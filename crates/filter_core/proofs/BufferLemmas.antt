-- A frame that stands alone among the bytes that were heard.
use Rattle.std.proofs.Common.{◌≡◌, ◌∙◌, ℕ, ◌+◌, List, [], ◌++◌, length, ap, arith}
use Rattle.std.proofs.lemmas.List.{append-nil, drop_all}
use Rattle.wire_text.specs.Wire.{IsBytes, string}
use Rattle.wire_text.specs.Frames.{Whole, after_front, front, front_body}
use Rattle.wire_text.proofs.FrontLemmas.{front_is_string}

-- nothing is behind it
pub alone_leaves : (bytes : List ℕ) (body_len : ℕ) → length bytes ≡ 4 + body_len
    → after_front body_len bytes ≡ []
alone_leaves bytes body_len alone = drop_all (4 + body_len) bytes (omega (arith, alone))

-- so the bytes are the string of its body
pub alone_is_string : (max : ℕ) (bytes : List ℕ) (body_len : ℕ) → IsBytes bytes
    → front max bytes ≡ Whole body_len → length bytes ≡ 4 + body_len
    → bytes ≡ string (front_body body_len bytes)
alone_is_string max bytes body_len small found alone =
    front_is_string max bytes body_len small found
    ∙ ap (λ (l : List ℕ). string (front_body body_len bytes) ++ l) (alone_leaves bytes body_len alone)
    ∙ append-nil (string (front_body body_len bytes))
