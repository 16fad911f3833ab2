-- A look as the front that it tells of, and looks in turn along a stream.
use Rattle.std.specs.Prelude.{◌≡◌, ℕ, zero, suc, List, [], ◌∷◌, drop, length}
use Rattle.frame_core.specs.declared.outcome.Look.{Look}
use Rattle.frame_core.specs.declared.outcome.Look.TheVariants as answers
use Rattle.frame_core.specs.declared.outcome.Front as cuts
use Rattle.frame_core.specs.declared.outcome.Front.TheVariants as found
use Rattle.wire_text.specs.Frames.{Front, Whole, Bad, More, front, front_body, after_front, Split, unsplit, then_split}

-- the front that a look tells of
abbrev pub front_of : Look → Front
front_of (answers.Whole body) = Whole body
front_of (answers.Bad announced) = Bad announced
front_of answers.More = More

-- the front that is found, with its body's length
abbrev pub front_at : cuts.Front → Front
front_at (found.Whole body rest) = Whole (length body.now)
front_at (found.Bad announced) = Bad announced
front_at found.More = More

-- the body that is found is that of the frame in front of these bytes, and the rest is what follows the frame
abbrev pub IsCut : cuts.Front → List ℕ → Type 0
IsCut (found.Whole body rest) bytes =
    (body.now ≡ front_body (length body.now) bytes) × (rest.now ≡ after_front (length body.now) bytes)
IsCut (found.Bad announced) bytes = Unit {0}
IsCut found.More bytes = Unit {0}

-- a look at these bytes tells of the whole frame of this body, behind which the rest stands
pub record FindsBody (bytes : List ℕ) (answer : Look) (body rest : List ℕ) : Type 0 where
  pub whole : answer ≡ answers.Whole (length body)
  pub found : front_body (length body) bytes ≡ body
  pub left : after_front (length body) bytes ≡ rest

-- at each place of the stream the look tells of the front of what is left there
abbrev pub TellsOfFronts : ℕ → (List ℕ → Look) → List ℕ → Type 0
TellsOfFronts max look_at stream =
    (place : ℕ) → front_of (look_at (drop place stream)) ≡ front max (drop place stream)

-- at a whole frame its body and what is taken later, behind it; else nothing
abbrev pub taken_from : Look → (List ℕ → Split) → List ℕ → Split
taken_from (answers.Whole body) later bytes =
    then_split (front_body body bytes ∷ []) (later (after_front body bytes))
taken_from (answers.Bad announced) later bytes = unsplit bytes
taken_from answers.More later bytes = unsplit bytes

-- what at most so many looks take, each at the bytes that the one before it left
unfoldable pub taken_in_turn : ℕ → (List ℕ → Look) → List ℕ → Split
taken_in_turn zero look_at bytes = unsplit bytes
taken_in_turn (suc looks) look_at bytes =
    taken_from (look_at bytes) (taken_in_turn looks look_at) bytes
