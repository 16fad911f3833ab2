-- What the laws of a helper's talk say.
use Rattle.std.specs.Prelude.{◌≡◌, ℕ, Bool, true, false, List, [], ◌∷◌, map, length, take, filter, Option}
use Rattle.child_msg.specs.ChildFrames.{from_child_body}
use Rattle.child_msg.specs.Messages.{FromChildMessage}
use Rattle.helper_core.specs.declared.behind.Exchange.{Exchange}
use Rattle.helper_core.specs.Routes.{Route, Answered, HandedOn, NoRequest, counted}
use Rattle.wire_text.specs.Frames.{frames}

-- the answer is that of the body's route: the one that is given here, or the one that a reply gives
abbrev pub IsAnswerBy : Route → FromChildMessage → Type 0
IsAnswerBy (Answered given) answer = answer ≡ given
IsAnswerBy (HandedOn asked) answer = (reply : Option (List ℕ)) × (answer ≡ counted asked reply)
IsAnswerBy NoRequest answer = ⊥

-- the answers are to the first bodies, one to each, in their order
abbrev pub AreAnswers : (List ℕ → Route) → List (List ℕ) → List FromChildMessage → Type 0
AreAnswers route bodies [] = Unit {0}
AreAnswers route [] (answer ∷ answers) = ⊥
AreAnswers route (body ∷ bodies) (answer ∷ answers) = IsAnswerBy (route body) answer × AreAnswers route bodies answers

-- what is sent is the frames of answers to the first bodies
pub record SendsAnswers (route : List ℕ → Route) (bodies : List (List ℕ)) (sent : List ℕ) : Type 0 where
  pub answers : List FromChildMessage
  pub each : AreAnswers route bodies answers
  pub framed : sent ≡ frames (map from_child_body answers)

-- the helper behind is asked
abbrev pub is_handed_on : Route → Bool
is_handed_on (Answered answer) = false
is_handed_on (HandedOn asked) = true
is_handed_on NoRequest = false

-- the bodies for which the helper behind is asked
abbrev pub for_behind : (List ℕ → Route) → List (List ℕ) → List (List ℕ)
for_behind route bodies = filter (λ body. is_handed_on (route body)) bodies

-- the requests that were handed on
abbrev pub requests_of : List Exchange → List (List ℕ)
requests_of handed = map (λ exchange. exchange.request) handed

-- they are the first of these bodies, each once, unchanged, in their order
abbrev pub AreFirst : List (List ℕ) → List (List ℕ) → Type 0
AreFirst requests bodies = requests ≡ take (length requests) bodies
