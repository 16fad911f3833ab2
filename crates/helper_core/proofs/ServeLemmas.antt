-- Lemmas on specs/Transcript.antt: what is served of a stream, one frame after another.
use Rattle.std.proofs.Common.{◌≡◌, ℕ, ◌+◌, List, [], ◌∷◌, ◌++◌, drop, refl, ap, ◌∙◌}
use Rattle.std.proofs.lemmas.List.{drop-append-le}
use Rattle.helper_core.specs.declared.status.HelperStatus.TheVariants.{BadFrame}
use Rattle.helper_core.specs.Routes.{Route}
use Rattle.helper_core.specs.Transcript.{Replies, ended, served, served_bodies, served_split, status_at, then_served, torn_or_done}
use Rattle.wire_text.specs.Bounds.{longest_to_child}
use Rattle.wire_text.specs.Frames.{Front, Whole, Bad, More, Split, after_front, front, front_body, split, then_split, unsplit}
use Rattle.wire_text.proofs.FrontLemmas.{front-append_whole, front-append_bad, whole_within}
use Rattle.wire_text.proofs.SplitLemmas.{front_body-append, split-whole, split-bad, split-more}

-- ---- a whole frame in front

-- the stream behind the frame
frame-split : (s t : List ℕ) (body_len : ℕ) → front longest_to_child s ≡ Whole body_len
    → split longest_to_child (s ++ t) ≡ then_split (front_body body_len s ∷ []) (split longest_to_child (drop (4 + body_len) s ++ t))
frame-split s t body_len found =
    let fits = whole_within longest_to_child s body_len found in
    split-whole longest_to_child (s ++ t) body_len (front-append_whole longest_to_child s t body_len found)
    ∙ ap (λ (b : List ℕ). then_split (b ∷ []) (split longest_to_child (after_front body_len (s ++ t)))) (front_body-append longest_to_child s t body_len found)
    ∙ ap (λ (r : List ℕ). then_split (front_body body_len s ∷ []) (split longest_to_child r)) (drop-append-le (4 + body_len) s t fits)

-- what the frame's body brings, and then what follows it
body-served : (route : List ℕ → Route) (body : List ℕ) (parts : Split) (replies : Replies)
    → served_split route (then_split (body ∷ []) parts) replies ≡ then_served (route body) body replies (λ r. served_split route parts r)
unfolding served_bodies
body-served route body parts replies = refl

pub served-front : (route : List ℕ → Route) (heard more : List ℕ) (body_len : ℕ) (replies : Replies)
    → front longest_to_child heard ≡ Whole body_len
    → served route replies (heard ++ more) ≡ then_served (route (front_body body_len heard)) (front_body body_len heard) replies (λ r. served route r (drop (4 + body_len) heard ++ more))
unfolding served
served-front route heard more body_len replies found =
    ap (λ (parts : Split). served_split route parts replies) (frame-split heard more body_len found)
    ∙ body-served route (front_body body_len heard) (split longest_to_child (drop (4 + body_len) heard ++ more)) replies

-- ---- no whole frame in front

-- nothing is split off
unsplit-served : (route : List ℕ → Route) (rest : List ℕ) (replies : Replies)
    → served_split route (unsplit rest) replies ≡ ended (status_at (front longest_to_child rest) rest)
unfolding served_bodies
unsplit-served route rest replies = refl

-- a bad length
pub served-bad : (route : List ℕ → Route) (heard more : List ℕ) (announced : ℕ) (replies : Replies)
    → front longest_to_child heard ≡ Bad announced
    → served route replies (heard ++ more) ≡ ended BadFrame
unfolding served
served-bad route heard more announced replies found =
    let bad = front-append_bad longest_to_child heard more announced found in
    ap (λ (parts : Split). served_split route parts replies) (split-bad longest_to_child (heard ++ more) announced bad) ∙ unsplit-served route (heard ++ more) replies
    ∙ ap (λ (f : Front). ended (status_at f (heard ++ more))) bad

-- unfinished bytes, and nothing behind them
pub served-more : (route : List ℕ → Route) (heard : List ℕ) (replies : Replies)
    → front longest_to_child heard ≡ More
    → served route replies heard ≡ ended (torn_or_done heard)
unfolding served
served-more route heard replies found =
    ap (λ (parts : Split). served_split route parts replies) (split-more longest_to_child heard found) ∙ unsplit-served route heard replies
    ∙ ap (λ (f : Front). ended (status_at f heard)) found
