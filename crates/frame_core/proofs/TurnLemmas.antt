-- Looks in turn split a stream.
use Rattle.std.proofs.Common.{◌≡◌, ℕ, zero, suc, ◌+◌, ◌≤◌, List, [], ◌∷◌, length, drop, refl, sym, ap, subst, ◌∙◌, arith}
use Rattle.std.proofs.lemmas.List.{drop-drop}
use Rattle.frame_core.specs.declared.outcome.Look.{Look}
use Rattle.frame_core.specs.declared.outcome.Look.TheVariants as answers
use Rattle.frame_core.specs.Looks.{front_of, TellsOfFronts, taken_from, taken_in_turn}
use Rattle.wire_text.specs.Frames.{Front, front_body, after_front, Split, then_split, split_from, split_up_to, split}
use Rattle.wire_text.proofs.SplitLemmas.{split_up_to-enough}

-- two ways to split take the same of these bytes
abbrev IsTakenAlike : (List ℕ → Split) → (List ℕ → Split) → List ℕ → Type 0
IsTakenAlike f g bytes = f bytes ≡ g bytes

-- one look takes what its front gives, where what follows is taken alike
taken_from-front : (f g : List ℕ → Split) (bytes : List ℕ) (answer : Look) → ((body_len : ℕ) → f (after_front body_len bytes) ≡ g (after_front body_len bytes)) →
    taken_from answer f bytes ≡ split_from (front_of answer) g bytes
taken_from-front f g bytes (answers.Whole body) later = ap (then_split (front_body body bytes ∷ [])) (later body)
taken_from-front f g bytes (answers.Bad announced) later = refl
taken_from-front f g bytes answers.More later = refl

-- so many looks take so many frames, from each place on
taken_in_turn-up_to : (count : ℕ) (max : ℕ) (look_at : List ℕ → Look) (stream : List ℕ) → TellsOfFronts max look_at stream → (place : ℕ) →
    taken_in_turn count look_at (drop place stream) ≡ split_up_to count max (drop place stream)
unfolding taken_in_turn split_up_to
taken_in_turn-up_to zero max look_at stream tells place = refl
taken_in_turn-up_to (suc count) max look_at stream tells place =
    let later = λ (body_len : ℕ).
    subst (IsTakenAlike (taken_in_turn count look_at) (split_up_to count max)) (sym (drop-drop (4 + body_len) place stream))
    (taken_in_turn-up_to count max look_at stream tells (place + (4 + body_len))) in
    taken_from-front (taken_in_turn count look_at) (split_up_to count max) (drop place stream) (look_at (drop place stream)) later
    ∙ ap (λ (answer : Front). split_from answer (split_up_to count max) (drop place stream)) (tells place)

-- looks in turn split the stream
pub taken_in_turn-split : (max : ℕ) (look_at : List ℕ → Look) (stream : List ℕ) (count : ℕ) → TellsOfFronts max look_at stream → length stream ≤ count →
    taken_in_turn count look_at stream ≡ split max stream
unfolding split
taken_in_turn-split max look_at stream count tells enough =
    taken_in_turn-up_to count max look_at stream tells 0 ∙ split_up_to-enough count (length stream) max stream enough (omega arith)
