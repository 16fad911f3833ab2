-- Every stream has a split and only one, and it does not matter how the stream is cut.
use Rattle.std.proofs.Common.{◌≡◌, ℕ, zero, suc, ◌+◌, ◌^◌, ◌<◌, ◌≤◌, List, [], ◌∷◌, ◌++◌, length, take, drop, refl, sym, ap, subst, ◌∙◌, append_assoc, arith}
use Rattle.std.specs.Prelude.{All}
use Rattle.std.proofs.lemmas.List.{length-drop, take_at, drop_at, take-append-le, drop-append-le}
use Rattle.std.proofs.lemmas.List.Concat.{flat_map-append}
use Rattle.std.proofs.lemmas.List.Elements.{All-nil, All-cons, All-head, All-tail, All-drop}
use Rattle.wire_text.specs.Wire.{IsBytes, string, announced_len}
use Rattle.wire_text.specs.Frames.{IsBody, frames, Front, Whole, Bad, More, front, StartsWithFrame, StartsBadly, Splits, Split, unsplit, then_split, front_body, after_front, split_from, split_up_to, split}
use Rattle.wire_text.proofs.WireLemmas.{length-string, drop-string}
use Rattle.wire_text.proofs.FrontLemmas.{FrontIs, front-is, front_says, front-append_whole, StartsBadly-append, bad_is_no_frame, IsBody-front_body, front_is_string, front-string}

-- a split of these parts
abbrev record_of : List (List ℕ) → List ℕ → Split
record_of bodies rest = record { bodies = bodies; rest = rest }

-- ---- the equations of split

-- a frame has at least five bytes, so fewer are left behind it
pub length-after_front : (max : ℕ) (bytes : List ℕ) (body_len : ℕ) → front max bytes ≡ Whole body_len → length (after_front body_len bytes) + 5 ≤ length bytes
length-after_front max bytes body_len found =
    let is = front_says max bytes (Whole body_len) found in
    let some : 0 < announced_len bytes = is.0.some in
    let follows : 4 + announced_len bytes ≤ length bytes = is.0.follows in
    let same : body_len ≡ announced_len bytes = is.1 in
    omega (arith, length-drop (4 + body_len) bytes)

-- two ways to split what follows a frame at the front are one, where they agree there
same_from : (max : ℕ) (bytes : List ℕ) (f g : List ℕ → Split) (answer : Front) → front max bytes ≡ answer →
    ((body_len : ℕ) → front max bytes ≡ Whole body_len → f (after_front body_len bytes) ≡ g (after_front body_len bytes)) →
    split_from answer f bytes ≡ split_from answer g bytes
same_from max bytes f g (Whole body_len) found later = ap (then_split (front_body body_len bytes ∷ [])) (later body_len found)
same_from max bytes f g (Bad announced) found later = refl
same_from max bytes f g More found later = refl

-- nothing is split off where no frame stands at the front
none_from : (max : ℕ) (bytes : List ℕ) (f : List ℕ → Split) (answer : Front) → FrontIs max bytes answer → (StartsWithFrame max bytes → ⊥) → split_from answer f bytes ≡ unsplit bytes
none_from max bytes f (Whole body_len) is no_frame = absurd (no_frame is.0)
none_from max bytes f (Bad announced) is no_frame = refl
none_from max bytes f More is no_frame = refl

-- fewer than five bytes are no frame
too_short : (max : ℕ) (bytes : List ℕ) → length bytes ≤ 0 → StartsWithFrame max bytes → ⊥
too_short max bytes short starts = let header : 4 ≤ length bytes = starts.header in omega arith

-- a count past the number of bytes changes nothing
pub split_up_to-enough : (count more : ℕ) (max : ℕ) (bytes : List ℕ) → length bytes ≤ count → length bytes ≤ more → split_up_to count max bytes ≡ split_up_to more max bytes
unfolding split_up_to
split_up_to-enough zero zero max bytes fits fits_more = refl
split_up_to-enough zero (suc more) max bytes fits fits_more =
    sym (none_from max bytes (split_up_to more max) (front max bytes) (front-is max bytes) (too_short max bytes fits))
split_up_to-enough (suc count) zero max bytes fits fits_more =
    none_from max bytes (split_up_to count max) (front max bytes) (front-is max bytes) (too_short max bytes fits_more)
split_up_to-enough (suc count) (suc more) max bytes fits fits_more =
    same_from max bytes (split_up_to count max) (split_up_to more max) (front max bytes) refl
    (λ body_len found.
    let less = length-after_front max bytes body_len found in
    split_up_to-enough count more max (after_front body_len bytes) (omega arith) (omega arith))

-- the split is taken from the front, and goes on behind it
pub split-front : (max : ℕ) (bytes : List ℕ) → split max bytes ≡ split_from (front max bytes) (split max) bytes
unfolding split split_up_to
split-front max [] = sym (none_from max [] (split max) (front max []) (front-is max []) (too_short max [] (omega arith)))
split-front max (byte ∷ bytes) =
    same_from max (byte ∷ bytes) (split_up_to (length bytes) max) (split max) (front max (byte ∷ bytes)) refl
    (λ body_len found.
    let less = length-after_front max (byte ∷ bytes) body_len found in
    split_up_to-enough (length bytes) (length (after_front body_len (byte ∷ bytes))) max (after_front body_len (byte ∷ bytes)) (omega arith) (omega arith))

-- a frame at the front gives its body and the split behind it
pub split-whole : (max : ℕ) (bytes : List ℕ) (body_len : ℕ) → front max bytes ≡ Whole body_len →
    split max bytes ≡ then_split (front_body body_len bytes ∷ []) (split max (after_front body_len bytes))
split-whole max bytes body_len found = split-front max bytes ∙ ap (λ (answer : Front). split_from answer (split max) bytes) found

-- a bad length gives nothing
pub split-bad : (max : ℕ) (bytes : List ℕ) (announced : ℕ) → front max bytes ≡ Bad announced → split max bytes ≡ unsplit bytes
split-bad max bytes announced found = split-front max bytes ∙ ap (λ (answer : Front). split_from answer (split max) bytes) found

-- unfinished bytes give nothing
pub split-more : (max : ℕ) (bytes : List ℕ) → front max bytes ≡ More → split max bytes ≡ unsplit bytes
split-more max bytes found = split-front max bytes ∙ ap (λ (answer : Front). split_from answer (split max) bytes) found

-- where no frame stands at the front, nothing is split off
pub split-no_frame : (max : ℕ) (bytes : List ℕ) → (StartsWithFrame max bytes → ⊥) → split max bytes ≡ unsplit bytes
split-no_frame max bytes no_frame = split-front max bytes ∙ none_from max bytes (split max) (front max bytes) (front-is max bytes) no_frame

-- a body's string gives the body, and then the split of what follows
pub split-string : (max : ℕ) (body rest : List ℕ) → max < 2 ^ 32 → IsBody max body → split max (string body ++ rest) ≡ then_split (body ∷ []) (split max rest)
split-string max body rest bound fits =
    let body-is : front_body (length body) (string body ++ rest) ≡ body = ap (take (length body)) (drop-string body rest) ∙ take_at body rest (length body) refl in
    let rest-is : after_front (length body) (string body ++ rest) ≡ rest =
    drop_at (string body) rest (4 + length body) (length-string body) in
    split-whole max (string body ++ rest) (length body) (front-string max body rest bound fits)
    ∙ ap (λ (b : List ℕ). then_split (b ∷ []) (split max (after_front (length body) (string body ++ rest)))) body-is
    ∙ ap (λ (r : List ℕ). then_split (body ∷ []) (split max r)) rest-is

-- ---- cuts

-- two streams, one after the other, are the stream of both
pub frames-append : (xs ys : List (List ℕ)) → frames (xs ++ ys) ≡ frames xs ++ frames ys
frames-append xs ys = flat_map-append string xs ys

-- bytes t behind bytes s are split as s was, and then as its rest and t are
abbrev GoesOn : ℕ → List ℕ → List ℕ → Split → Type 0
GoesOn max s t first = split max (s ++ t) ≡ then_split first.bodies (split max (first.rest ++ t))

-- the body at a whole front is there before what follows
pub front_body-append : (max : ℕ) (s t : List ℕ) (body_len : ℕ) → front max s ≡ Whole body_len → front_body body_len (s ++ t) ≡ front_body body_len s
front_body-append max s t body_len found =
    let less = length-after_front max s body_len found in
    let is = front_says max s (Whole body_len) found in
    let follows : 4 + announced_len s ≤ length s = is.0.follows in
    let same : body_len ≡ announced_len s = is.1 in
    ap (take body_len) (drop-append-le 4 s t (omega arith))
    ∙ take-append-le body_len (drop 4 s) t (omega (arith, length-drop 4 s))

-- what follows a whole front goes on with what follows
pub after_front-append : (max : ℕ) (s t : List ℕ) (body_len : ℕ) → front max s ≡ Whole body_len → after_front body_len (s ++ t) ≡ after_front body_len s ++ t
after_front-append max s t body_len found =
    let is = front_says max s (Whole body_len) found in
    let follows : 4 + announced_len s ≤ length s = is.0.follows in
    let same : body_len ≡ announced_len s = is.1 in
    drop-append-le (4 + body_len) s t (omega arith)

-- one frame more
goes_on_from : (max : ℕ) (s t : List ℕ) (answer : Front) → front max s ≡ answer →
    ((body_len : ℕ) → front max s ≡ Whole body_len → GoesOn max (after_front body_len s) t (split max (after_front body_len s))) →
    GoesOn max s t (split_from answer (split max) s)
goes_on_from max s t (Whole body_len) found later =
    split-whole max (s ++ t) body_len (front-append_whole max s t body_len found)
    ∙ ap (λ (b : List ℕ). then_split (b ∷ []) (split max (after_front body_len (s ++ t)))) (front_body-append max s t body_len found)
    ∙ ap (λ (r : List ℕ). then_split (front_body body_len s ∷ []) (split max r)) (after_front-append max s t body_len found)
    ∙ ap (then_split (front_body body_len s ∷ [])) (later body_len found)
goes_on_from max s t (Bad announced) found later = refl
goes_on_from max s t More found later = refl

-- by the number of bytes
goes_on : (count : ℕ) (max : ℕ) (s t : List ℕ) → length s ≤ count → GoesOn max s t (split max s)
goes_on zero max s t fits = subst (GoesOn max s t) (sym (split-no_frame max s (too_short max s fits))) refl
goes_on (suc count) max s t fits =
    subst (GoesOn max s t) (sym (split-front max s))
    (goes_on_from max s t (front max s) refl
    (λ body_len found.
    let less = length-after_front max s body_len found in
    goes_on count max (after_front body_len s) t (omega arith)))

-- the split of a longer stream is that of the shorter one, and then of its rest and what followed
pub split-append : (max : ℕ) (s t : List ℕ) → split max (s ++ t) ≡ then_split (split max s).bodies (split max ((split max s).rest ++ t))
split-append max s t = goes_on (length s) max s t (omega arith)

-- ---- what a split is

-- a fact of each frame that is split off, and of the rest
pub record IsCut (max : ℕ) (stream : List ℕ) (bodies : List (List ℕ)) (rest : List ℕ) : Type 0 where
  pub each : All (IsBody max) bodies
  pub left : StartsWithFrame max rest → ⊥
  pub shorter : length rest ≤ length stream
  pub whole : IsBytes stream → stream ≡ frames bodies ++ rest

-- one frame more
is_cut_from : (max : ℕ) (s : List ℕ) (answer : Front) → front max s ≡ answer →
    ((body_len : ℕ) → front max s ≡ Whole body_len → IsCut max (after_front body_len s) (split max (after_front body_len s)).bodies (split max (after_front body_len s)).rest) →
    IsCut max s (split_from answer (split max) s).bodies (split_from answer (split max) s).rest
is_cut_from max s (Whole body_len) found later =
    let is = later body_len found in
    let less = length-after_front max s body_len found in
    let body = front_body body_len s in
    let after = split max (after_front body_len s) in
    record {
      each = All-cons (IsBody max) body after.bodies (IsBody-front_body max s body_len found) is.each;
      left = is.left;
      shorter = omega (arith, is.shorter);
      whole = λ small.
          front_is_string max s body_len small found
          ∙ ap (λ (r : List ℕ). string body ++ r) (is.whole (All-drop (λ byte. byte < 256) (4 + body_len) s small))
          ∙ sym (append_assoc (string body) (frames after.bodies) after.rest);
    }
is_cut_from max s (Bad announced) found later =
    record {
      each = All-nil (IsBody max);
      left = bad_is_no_frame max s (front_says max s (Bad announced) found).0;
      shorter = omega arith;
      whole = λ small. refl;
    }
is_cut_from max s More found later =
    record {
      each = All-nil (IsBody max);
      left = (front_says max s More found).no_frame;
      shorter = omega arith;
      whole = λ small. refl;
    }

-- the same of a split
abbrev IsCutBy : ℕ → List ℕ → Split → Type 0
IsCutBy max s parts = IsCut max s parts.bodies parts.rest

-- by the number of bytes
is_cut : (count : ℕ) (max : ℕ) (s : List ℕ) → length s ≤ count → IsCut max s (split max s).bodies (split max s).rest
is_cut zero max s fits =
    subst (IsCutBy max s) (sym (split-no_frame max s (too_short max s fits)))
    (record { each = All-nil (IsBody max); left = too_short max s fits; shorter = omega arith; whole = λ small. refl })
is_cut (suc count) max s fits =
    subst (IsCutBy max s) (sym (split-front max s))
    (is_cut_from max s (front max s) refl
    (λ body_len found.
    let less = length-after_front max s body_len found in
    is_cut count max (after_front body_len s) (omega arith)))

-- every stream of bytes has a split
pub split-Splits : (max : ℕ) (stream : List ℕ) → IsBytes stream → Splits max stream (split max stream).bodies (split max stream).rest
split-Splits max stream small =
    let is = is_cut (length stream) max stream (omega arith) in
    record { whole = is.whole small; each = is.each; left = is.left }

-- at the front of the rest stands no whole frame, whatever the stream
pub rest_has_no_frame : (max : ℕ) (stream : List ℕ) → StartsWithFrame max (split max stream).rest → ⊥
rest_has_no_frame max stream = (is_cut (length stream) max stream (omega arith)).left

-- each body has 1 to max bytes, whatever the stream
pub All-IsBody-split : (max : ℕ) (stream : List ℕ) → All (IsBody max) (split max stream).bodies
All-IsBody-split max stream = (is_cut (length stream) max stream (omega arith)).each

-- behind a bad rest no body is found, whatever follows
pub split-append_bad : (max : ℕ) (s t : List ℕ) → StartsBadly max (split max s).rest →
    split max (s ++ t) ≡ then_split (split max s).bodies (unsplit ((split max s).rest ++ t))
split-append_bad max s t bad =
    let rest = (split max s).rest in
    let stays = split-no_frame max (rest ++ t) (bad_is_no_frame max (rest ++ t) (StartsBadly-append max rest t bad)) in
    split-append max s t ∙ ap (then_split (split max s).bodies) stays

-- a split is what the function gives
split_is_from : (max : ℕ) (bodies : List (List ℕ)) (rest : List ℕ) → max < 2 ^ 32 → All (IsBody max) bodies → (StartsWithFrame max rest → ⊥) →
    split max (frames bodies ++ rest) ≡ record_of bodies rest
split_is_from max [] rest bound each left = split-no_frame max rest left
split_is_from max (body ∷ bodies) rest bound each left =
    ap (split max) (append_assoc (string body) (frames bodies) rest)
    ∙ split-string max body (frames bodies ++ rest) bound (All-head (IsBody max) body bodies each)
    ∙ ap (then_split (body ∷ [])) (split_is_from max bodies rest bound (All-tail (IsBody max) body bodies each) left)

-- a stream of frames and a rest with none at its front is split into these
pub split-frames : (max : ℕ) (stream : List ℕ) (bodies : List (List ℕ)) (rest : List ℕ) → max < 2 ^ 32 → Splits max stream bodies rest →
    split max stream ≡ record { bodies = bodies; rest = rest }
split-frames max stream bodies rest bound splits =
    ap (split max) splits.whole ∙ split_is_from max bodies rest bound splits.each splits.left

-- a stream has one split
pub split_is_unique : (max : ℕ) (stream : List ℕ) (xs ys : List (List ℕ)) (r q : List ℕ) → max < 2 ^ 32 → Splits max stream xs r → Splits max stream ys q → (xs ≡ ys) × (r ≡ q)
split_is_unique max stream xs ys r q bound one other =
    let same = sym (split-frames max stream xs r bound one) ∙ split-frames max stream ys q bound other in
    (ap (λ (s : Split). s.bodies) same, ap (λ (s : Split). s.rest) same)
