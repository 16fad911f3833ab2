-- Lemmas on specs/Transcript.antt: what is served of a stream, one frame after another.
use Rattle.std.proofs.Common.{◌≡◌, ℕ, ◌+◌, ◌&&◌, Bool, List, [], ◌∷◌, ◌++◌, drop, map, Option, Some, None, is_some, if◌then◌else◌, refl, ap, sym, ◌∙◌, append_assoc}
use Rattle.std.proofs.lemmas.List.{append-nil, drop-append-le}
use Rattle.child_msg.specs.ChildFrames.{from_child_body}
use Rattle.child_msg.specs.Messages.{FromChildMessage}
use Rattle.wire_text.specs.Bounds.{longest_to_child}
use Rattle.wire_text.proofs.SplitLemmas.{front_body-append}
use Rattle.wire_text.proofs.FrontLemmas.{whole_within}
use Rattle.standin_core.specs.Answers.{answer_of}
use Rattle.standin_core.specs.Hosts.{Host}
use Rattle.standin_core.specs.Transcript.{Transcript, after, answers_to, are_requests, ended, served, served_split, status_at, then_answers, torn_or_done}
use Rattle.standin_core.specs.declared.status.HelperStatus.{HelperStatus}
use Rattle.standin_core.specs.declared.status.HelperStatus.TheVariants.{BadFrame}
use Rattle.wire_text.specs.Frames.{Front, Whole, Bad, More, Split, after_front, front, front_body, frames, split, then_split, unsplit}
use Rattle.wire_text.specs.Wire.{string}
use Rattle.wire_text.proofs.FrontLemmas.{front-append_whole, front-append_bad}
use Rattle.wire_text.proofs.SplitLemmas.{split-whole, split-bad, split-more}

-- ---- transcripts

pub after-after : (a b : List ℕ) (later : Transcript)
    → after a (after b later) ≡ after (a ++ b) later
after-after a b later = ap (λ (s : List ℕ). transcript s later.status) (sym (append_assoc a b later.sent))
  where
    transcript : List ℕ → HelperStatus → Transcript
    transcript sent status = record { sent = sent; status = status }

pub after-ended : (sent : List ℕ) (status : HelperStatus)
    → after sent (ended status) ≡ record { sent = sent; status = status }
after-ended sent status = ap (λ (s : List ℕ). transcript s) (append-nil sent)
  where
    transcript : List ℕ → Transcript
    transcript s = record { sent = s; status = status }

-- ---- a whole frame in front

-- the stream behind the frame
frame-split : (s t : List ℕ) (body_len : ℕ) → front longest_to_child s ≡ Whole body_len
    → split longest_to_child (s ++ t) ≡ then_split (front_body body_len s ∷ []) (split longest_to_child (drop (4 + body_len) s ++ t))
frame-split s t body_len found =
    let fits = whole_within longest_to_child s body_len found in
    split-whole longest_to_child (s ++ t) body_len (front-append_whole longest_to_child s t body_len found)
    ∙ ap (λ (b : List ℕ). then_split (b ∷ []) (split longest_to_child (after_front body_len (s ++ t)))) (front_body-append longest_to_child s t body_len found)
    ∙ ap (λ (r : List ℕ). then_split (front_body body_len s ∷ []) (split longest_to_child r)) (drop-append-le (4 + body_len) s t fits)

-- a body, and what is served of a split, by the answer to the body
one_body : Option FromChildMessage → List FromChildMessage → Bool → List ℕ → Transcript
one_body given answers requests rest = record {
  sent = frames (map from_child_body (then_answers given answers));
  status =
      if is_some given && requests then status_at (front longest_to_child rest) rest else BadFrame;
}

body-served : (hosts : List Host) (body : List ℕ) (parts : Split)
    → served_split hosts (then_split (body ∷ []) parts) ≡ one_body (answer_of hosts body) (answers_to hosts parts.bodies) (are_requests hosts parts.bodies) parts.rest
unfolding answers_to are_requests one_body
body-served hosts body parts = refl

answered-served : (hosts : List Host) (answer : FromChildMessage) (parts : Split)
    → one_body (Some answer) (answers_to hosts parts.bodies) (are_requests hosts parts.bodies) parts.rest ≡ after (string (from_child_body answer)) (served_split hosts parts)
unfolding one_body
answered-served hosts answer parts = refl

refused-served : (answers : List FromChildMessage) (requests : Bool) (rest : List ℕ)
    → one_body None answers requests rest ≡ ended BadFrame
unfolding one_body
refused-served answers requests rest = refl

-- it is a request
pub served-request : (hosts : List Host) (heard more : List ℕ) (body_len : ℕ) (answer : FromChildMessage)
    → front longest_to_child heard ≡ Whole body_len
    → answer_of hosts (front_body body_len heard) ≡ Some answer
    → served hosts (heard ++ more) ≡ after (string (from_child_body answer)) (served hosts (drop (4 + body_len) heard ++ more))
unfolding served
served-request hosts heard more body_len answer found is =
    let parts = split longest_to_child (drop (4 + body_len) heard ++ more) in
    ap (served_split hosts) (frame-split heard more body_len found)
    ∙ body-served hosts (front_body body_len heard) parts
    ∙ ap (λ (given : Option FromChildMessage). one_body given (answers_to hosts parts.bodies) (are_requests hosts parts.bodies) parts.rest) is
    ∙ answered-served hosts answer parts

-- it is none
pub served-no_request : (hosts : List Host) (heard more : List ℕ) (body_len : ℕ)
    → front longest_to_child heard ≡ Whole body_len
    → answer_of hosts (front_body body_len heard) ≡ None → served hosts (heard ++ more) ≡ ended BadFrame
unfolding served
served-no_request hosts heard more body_len found is =
    let parts = split longest_to_child (drop (4 + body_len) heard ++ more) in
    ap (served_split hosts) (frame-split heard more body_len found)
    ∙ body-served hosts (front_body body_len heard) parts
    ∙ ap (λ (given : Option FromChildMessage). one_body given (answers_to hosts parts.bodies) (are_requests hosts parts.bodies) parts.rest) is
    ∙ refused-served (answers_to hosts parts.bodies) (are_requests hosts parts.bodies) parts.rest

-- ---- no whole frame in front

-- nothing is split off
unsplit-served : (hosts : List Host) (rest : List ℕ)
    → served_split hosts (unsplit rest) ≡ ended (status_at (front longest_to_child rest) rest)
unfolding answers_to are_requests
unsplit-served hosts rest = refl

-- a bad length
pub served-bad : (hosts : List Host) (heard more : List ℕ) (announced : ℕ)
    → front longest_to_child heard ≡ Bad announced → served hosts (heard ++ more) ≡ ended BadFrame
unfolding served
served-bad hosts heard more announced found =
    let bad = front-append_bad longest_to_child heard more announced found in
    ap (served_split hosts) (split-bad longest_to_child (heard ++ more) announced bad) ∙ unsplit-served hosts (heard ++ more)
    ∙ ap (λ (f : Front). ended (status_at f (heard ++ more))) bad

-- unfinished bytes, and nothing behind them
pub served-more : (hosts : List Host) (heard : List ℕ) → front longest_to_child heard ≡ More
    → served hosts heard ≡ ended (torn_or_done heard)
unfolding served
served-more hosts heard found =
    ap (served_split hosts) (split-more longest_to_child heard found) ∙ unsplit-served hosts heard ∙ ap (λ (f : Front). ended (status_at f heard)) found
