-- Lemmas on streams that are cut into frames one after another.
use Rattle.std.proofs.Common.{◌≡◌, ℕ, List, [], ◌∷◌, ◌++◌, map, sym, ap, ◌∙◌, append_assoc}
use Rattle.std.proofs.lemmas.List.{append-nil, map-append}
use Rattle.terms_core.specs.Relays.{IsCutTo}
use Rattle.wire_text.specs.Bounds.{longest_body}
use Rattle.wire_text.specs.Frames.{Split, Whole, after_front, frames, front, front_body, split, then_split}
use Rattle.wire_text.specs.Wire.{string}
use Rattle.wire_text.proofs.SplitLemmas.{frames-append, split-append, split-whole}

-- some bodies and then others
then_split-append : (xs ys : List (List ℕ)) (after : Split) → then_split (xs ++ ys) after ≡ then_split xs (then_split ys after)
then_split-append xs ys after = ap (λ (bodies : List (List ℕ)). record { bodies = bodies; rest = after.rest }) (append_assoc xs ys after.bodies)

-- more bytes stand behind the rest
pub IsCutTo-more : (stream : List ℕ) (bodies : List (List ℕ)) (rest more : List ℕ)
    → IsCutTo stream bodies rest → IsCutTo (stream ++ more) bodies (rest ++ more)
IsCutTo-more stream bodies rest more cut =
    let parts = split longest_body rest in
    let later = split longest_body (parts.rest ++ more) in
    split-append longest_body stream more
    ∙ ap (λ (s : Split). then_split s.bodies (split longest_body (s.rest ++ more))) cut
    ∙ then_split-append bodies parts.bodies later
    ∙ ap (then_split bodies) (sym (split-append longest_body rest more))

-- the frame in front of the rest is one body more
pub IsCutTo-front : (stream : List ℕ) (bodies : List (List ℕ)) (rest : List ℕ) (body_len : ℕ)
    → IsCutTo stream bodies rest → front longest_body rest ≡ Whole body_len
    → IsCutTo stream (bodies ++ (front_body body_len rest ∷ [])) (after_front body_len rest)
IsCutTo-front stream bodies rest body_len cut found =
    cut ∙ ap (then_split bodies) (split-whole longest_body rest body_len found)
    ∙ sym (then_split-append bodies (front_body body_len rest ∷ []) (split longest_body (after_front body_len rest)))

-- the frame of one body
pub frames-one : (body : List ℕ) → frames (body ∷ []) ≡ string body
frames-one body = append-nil (string body)

-- one frame more
pub frames-last : (bodies : List (List ℕ)) (body : List ℕ) → frames (bodies ++ (body ∷ [])) ≡ frames bodies ++ string body
frames-last bodies body = frames-append bodies (body ∷ []) ∙ ap (λ (f : List ℕ). frames bodies ++ f) (frames-one body)

-- the frames of what bodies become, with one more
pub frames-map_last : (become : List ℕ → List ℕ) (bodies : List (List ℕ)) (body : List ℕ)
    → frames (map become (bodies ++ (body ∷ []))) ≡ frames (map become bodies) ++ string (become body)
frames-map_last become bodies body = ap frames (map-append become bodies (body ∷ [])) ∙ frames-last (map become bodies) (become body)
