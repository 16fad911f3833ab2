-- The first bytes of frames are those of the first bodies.
use Rattle.std.proofs.Common.{◌≡◌, inl, inr, ℕ, ◌^◌, ◌<◌, List, [], ◌∷◌, ◌++◌, map, Ok, refl, sym, ap, subst, ◌∙◌, arith}
use Rattle.wire_text.specs.Bounds.{longest_body, longest_to_child}
use Rattle.wire_text.specs.Frames.{Split, frames, split, split_up_to}
use Rattle.wire_text.proofs.SplitLemmas.{split-append, split-string}
use Rattle.child_msg.specs.ChildFrames.{from_child_body, to_child_body}
use Rattle.child_msg.specs.Messages.{FromChildMessage, ToChildMessage}
use Rattle.child_msg.specs.Reading.{from_child_of}
use Rattle.child_msg.proofs.PrintedLemmas.{from_child_of-from_child_body}
use Rattle.helper_core.specs.Laws.{AreAnswers, SendsAnswers}
use Rattle.helper_core.specs.Routes.{Route}
use Rattle.helper_core.specs.Transcript.{Replies, served}
use Rattle.helper_core.proofs.LawLemmas.{sends_answers}
use Rattle.signer_keys.specs.Answers.{route_of}
use Rattle.signature_laws.specs.Signatures.{IsIn}
use Rattle.signature_laws.specs.Streams.{AnswersFit, AreBodies, AreHeard, AreRead, SendsSigned}

split-all : (max : ℕ) (bodies : List (List ℕ)) → max < 2 ^ 32 → AreBodies max bodies → (split max (frames bodies)).bodies ≡ bodies
unfolding split split_up_to
split-all max [] bound fit = refl
split-all max (body ∷ bodies) bound fit =
    ap (λ (s : Split). s.bodies) (split-string max body (frames bodies) bound fit.0)
    ∙ ap (λ (l : List (List ℕ)). body ∷ l) (split-all max bodies bound fit.1)

-- what is split off a front, and off what follows it
split-off : (max : ℕ) (some more : List ℕ) (bodies : List (List ℕ)) → max < 2 ^ 32 → AreBodies max bodies
    → some ++ more ≡ frames bodies
    → (split max some).bodies ++ (split max ((split max some).rest ++ more)).bodies ≡ bodies
split-off max some more bodies bound fit same =
    sym (ap (λ (s : Split). s.bodies) (split-append max some more))
    ∙ (ap (λ (l : List ℕ). (split max l).bodies) same ∙ split-all max bodies bound fit)

-- answers to the first bodies, where more follow
are-more : (route : List ℕ → Route) (some more : List (List ℕ)) (answers : List FromChildMessage)
    → AreAnswers route some answers → AreAnswers route (some ++ more) answers
are-more route some more [] are = tt
are-more route [] more (answer ∷ answers) are = absurd are
are-more route (body ∷ some) more (answer ∷ answers) are = (are.0, are-more route some more answers are.1)

what-is-sent : (replies : Replies) (stream : List ℕ)
    → SendsAnswers route_of (split longest_to_child stream).bodies (served route_of replies stream).sent
unfolding served
what-is-sent replies stream = sends_answers route_of _ _ replies

pub sends-signed : (messages : List ToChildMessage) (stream : List ℕ) (replies : Replies) → AreRead messages stream
    → SendsSigned messages (served route_of replies stream).sent
sends-signed messages stream replies read =
    let sends = what-is-sent replies stream in
    let whole = split-off longest_to_child stream read.unread (map to_child_body messages) (omega arith) read.bodies read.front in
    record {
      answers = sends.answers;
      by = record {
        fit = read.fit;
        each = subst (λ (l : List (List ℕ)). AreAnswers route_of l sends.answers) whole
            (are-more route_of (split longest_to_child stream).bodies (split longest_to_child ((split longest_to_child stream).rest ++ read.unread)).bodies sends.answers sends.each);
      };
      framed = sends.framed;
    }

pub in-ahead : {A : Type 0} (one : A) (some more : List A) → IsIn one some → IsIn one (some ++ more)
in-ahead one [] more there = absurd there
in-ahead one (first ∷ some) more (inl same) = inl same
in-ahead one (first ∷ some) more (inr there) = inr (in-ahead one some more there)

-- a body of one of these answers reads as that answer
in-answers : (answers : List FromChildMessage) (body : List ℕ) (message : FromChildMessage) → AnswersFit answers
    → IsIn body (map from_child_body answers) → from_child_of body ≡ Ok message → IsIn message answers
in-answers [] body message fit there read = absurd there
in-answers (answer ∷ answers) body message fit (inl same) read =
    let printed : from_child_of (from_child_body answer) ≡ Ok answer = from_child_of-from_child_body answer fit.0 in
    let again : from_child_of (from_child_body answer) ≡ Ok message = ap from_child_of same ∙ read in
    let equal : answer ≡ message = cc in
    inl equal
in-answers (answer ∷ answers) body message fit (inr there) read = inr (in-answers answers body message fit.1 there read)

pub heard-in : (answers : List FromChildMessage) (heard body : List ℕ) (message : FromChildMessage) → AreHeard answers heard
    → IsIn body (split longest_body heard).bodies → from_child_of body ≡ Ok message → IsIn message answers
heard-in answers heard body message are there read =
    let whole = split-off longest_body heard are.unheard (map from_child_body answers) (omega arith) are.bodies are.front in
    in-answers answers body message are.fit
    (subst (IsIn body) whole (in-ahead body (split longest_body heard).bodies (split longest_body ((split longest_body heard).rest ++ are.unheard)).bodies there)) read
