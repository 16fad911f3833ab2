-- Lemmas on specs/Laws.antt.
use Rattle.std.proofs.Common.{◌≡◌, ℕ, ◌++◌, Bool, if◌then◌else◌, List, [], ◌∷◌, refl, ap, sym, subst}
use Rattle.child_msg.specs.ChildFrames.{from_child_body}
use Rattle.child_msg.specs.Messages.{FromChildMessage}
use Rattle.helper_core.specs.declared.status.HelperStatus.{HelperStatus}
use Rattle.helper_core.specs.Laws.{AreFirst, IsAnswerBy, SendsAnswers, for_behind, is_handed_on, requests_of}
use Rattle.helper_core.specs.Routes.{Route, Answered, HandedOn, NoRequest, counted}
use Rattle.helper_core.specs.Transcript.{Replies, Transcript, served_bodies, then_served}
use Rattle.wire_text.specs.Wire.{string}

-- nothing more is sent
sends_nothing : (route : List ℕ → Route) (bodies : List (List ℕ)) → SendsAnswers route bodies []
sends_nothing route bodies = record { answers = []; each = tt; framed = refl }

-- one answer more
sends_more : (route : List ℕ → Route) (body : List ℕ) (bodies : List (List ℕ)) (answer : FromChildMessage) (sent : List ℕ)
    → IsAnswerBy (route body) answer
    → SendsAnswers route bodies sent → SendsAnswers route (body ∷ bodies) (string (from_child_body answer) ++ sent)
sends_more route body bodies answer sent is later = record {
  answers = answer ∷ later.answers;
  each = (is, later.each);
  framed = ap (λ (s : List ℕ). string (from_child_body answer) ++ s) later.framed;
}

-- what a body sends, by its route
sends_then : (route : List ℕ → Route) (given : Route) (body : List ℕ) (bodies : List (List ℕ)) (replies : Replies) (later : Replies → Transcript)
    → route body ≡ given → ((rest : Replies) → SendsAnswers route bodies (later rest).sent)
    → SendsAnswers route (body ∷ bodies) (then_served given body replies later).sent
unfolding then_served
sends_then route (Answered answer) body bodies replies later is rest =
    sends_more route body bodies answer (later replies).sent (subst (λ (r : Route). IsAnswerBy r answer) (sym is) refl) (rest replies)
sends_then route (HandedOn asked) body bodies [] later is rest = sends_nothing route (body ∷ bodies)
sends_then route (HandedOn asked) body bodies (reply ∷ replies) later is rest =
    sends_more route body bodies (counted asked reply) (later replies).sent (subst (λ (r : Route). IsAnswerBy r (counted asked reply)) (sym is) (reply, refl)) (rest replies)
sends_then route NoRequest body bodies replies later is rest = sends_nothing route (body ∷ bodies)

pub sends_answers : (route : List ℕ → Route) (end : HelperStatus) (bodies : List (List ℕ)) (replies : Replies)
    → SendsAnswers route bodies (served_bodies route end bodies replies).sent
unfolding served_bodies
sends_answers route end [] replies = sends_nothing route []
sends_answers route end (body ∷ bodies) replies =
    sends_then route (route body) body bodies replies (served_bodies route end bodies) refl (λ rest. sends_answers route end bodies rest)

-- ---- what is handed on

-- the bodies for the helper behind, with one in front
abbrev for_behind_then : Bool → List ℕ → List (List ℕ) → List (List ℕ)
for_behind_then asks body bodies = if asks then body ∷ bodies else bodies

for_behind-cons : (route : List ℕ → Route) (body : List ℕ) (bodies : List (List ℕ))
    → for_behind route (body ∷ bodies) ≡ for_behind_then (is_handed_on (route body)) body (for_behind route bodies)
for_behind-cons route body bodies = refl

-- what a body hands on, by its route
first_then : (route : List ℕ → Route) (given : Route) (body : List ℕ) (bodies : List (List ℕ)) (replies : Replies) (later : Replies → Transcript)
    → ((rest : Replies) → AreFirst (requests_of (later rest).handed) (for_behind route bodies))
    → AreFirst (requests_of (then_served given body replies later).handed) (for_behind_then (is_handed_on given) body (for_behind route bodies))
unfolding then_served
first_then route (Answered answer) body bodies replies later rest = rest replies
first_then route (HandedOn asked) body bodies [] later rest = refl
first_then route (HandedOn asked) body bodies (reply ∷ replies) later rest = ap (λ (b : List (List ℕ)). body ∷ b) (rest replies)
first_then route NoRequest body bodies replies later rest = refl

pub are_first : (route : List ℕ → Route) (end : HelperStatus) (bodies : List (List ℕ)) (replies : Replies)
    → AreFirst (requests_of (served_bodies route end bodies replies).handed) (for_behind route bodies)
unfolding served_bodies
are_first route end [] replies = refl
are_first route end (body ∷ bodies) replies =
    subst (AreFirst (requests_of (served_bodies route end (body ∷ bodies) replies).handed)) (sym (for_behind-cons route body bodies))
    (first_then route (route body) body bodies replies (served_bodies route end bodies) (λ rest. are_first route end bodies rest))
