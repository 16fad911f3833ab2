-- The function front, the three relations, and what follows a front.
use Rattle.std.proofs.Common.{◌≡◌, ℕ, ◌+◌, ◌^◌, ◌<◌, ◌≤◌, List, ◌++◌, length, drop, refl, sym, ap, subst, ◌∙◌, arith, inl, inr}
use Rattle.std.specs.Prelude.{◌↔◌}
use Rattle.std.proofs.lemmas.Bool.{cases_lt}
use Rattle.std.proofs.lemmas.Bool.Decides.{nat_tests}
use Rattle.std.proofs.lemmas.List.{length-append, length-take, length-drop}
use Rattle.wire_text.specs.Wire.{IsBytes, string, announced_len}
use Rattle.wire_text.specs.Frames.{IsBody, Front, Whole, Bad, More, front, front_body, after_front, StartsWithFrame, StartsBadly, IsUnfinished}
use Rattle.wire_text.proofs.WireLemmas.{announced_len-append, announced_len-string, length-string, string-announced}

-- ---- which front it is

-- a whole frame is found
pub front-whole : (max : ℕ) (bytes : List ℕ) → StartsWithFrame max bytes → front max bytes ≡ Whole (announced_len bytes)
unfolding front
front-whole max bytes starts = grind (arith, nat_tests)

-- a bad length is found
pub front-bad : (max : ℕ) (bytes : List ℕ) → StartsBadly max bytes → front max bytes ≡ Bad (announced_len bytes)
unfolding front
front-bad max bytes starts =
    let header : 4 ≤ length bytes = starts.header in
    elim starts.refused [
      | inl none ↦ grind (arith, nat_tests)
      | inr above ↦ grind (arith, nat_tests)
    ]

-- fewer than four bytes decide nothing
pub front-short : (max : ℕ) (bytes : List ℕ) → length bytes < 4 → front max bytes ≡ More
unfolding front
front-short max bytes short = grind (arith, nat_tests)

-- a body that is not there yet decides nothing
pub front-waits : (max : ℕ) (bytes : List ℕ) → 4 ≤ length bytes → 0 < announced_len bytes → announced_len bytes ≤ max → length bytes < 4 + announced_len bytes → front max bytes ≡ More
unfolding front
front-waits max bytes header some within waits = grind (arith, nat_tests)

-- the facts that a front stands for
abbrev pub FrontIs : ℕ → List ℕ → Front → Type 0
FrontIs max bytes (Whole body_len) = StartsWithFrame max bytes × (body_len ≡ announced_len bytes)
FrontIs max bytes (Bad announced) = StartsBadly max bytes × (announced ≡ announced_len bytes)
FrontIs max bytes More = IsUnfinished max bytes

-- what begins badly begins with no frame
pub bad_is_no_frame : (max : ℕ) (bytes : List ℕ) → StartsBadly max bytes → StartsWithFrame max bytes → ⊥
bad_is_no_frame max bytes bad whole =
    let some : 0 < announced_len bytes = whole.some in
    let within : announced_len bytes ≤ max = whole.within in
    elim bad.refused [ inl none ↦ omega arith | inr above ↦ omega arith ]

-- neither is there in fewer than four bytes
short_is_more : (max : ℕ) (bytes : List ℕ) → length bytes < 4 → FrontIs max bytes (front max bytes)
short_is_more max bytes short =
    subst (FrontIs max bytes) (sym (front-short max bytes short)) (record {
      no_frame = λ starts. let header : 4 ≤ length bytes = starts.header in omega arith;
      not_bad = λ starts. let header : 4 ≤ length bytes = starts.header in omega arith;
    })

-- nor in a part of a frame
waits_is_more : (max : ℕ) (bytes : List ℕ) → 4 ≤ length bytes → 0 < announced_len bytes → announced_len bytes ≤ max → length bytes < 4 + announced_len bytes → FrontIs max bytes (front max bytes)
waits_is_more max bytes header some within waits =
    subst (FrontIs max bytes) (sym (front-waits max bytes header some within waits)) (record {
      no_frame = λ starts. let follows : 4 + announced_len bytes ≤ length bytes = starts.follows in omega arith;
      not_bad = λ starts. elim starts.refused [ inl none ↦ omega arith | inr above ↦ omega arith ];
    })

-- a whole frame, by its facts
whole_is : (max : ℕ) (bytes : List ℕ) → StartsWithFrame max bytes → FrontIs max bytes (front max bytes)
whole_is max bytes starts = subst (FrontIs max bytes) (sym (front-whole max bytes starts)) (starts, refl)

-- a bad length, by its facts
bad_is : (max : ℕ) (bytes : List ℕ) → StartsBadly max bytes → FrontIs max bytes (front max bytes)
bad_is max bytes starts = subst (FrontIs max bytes) (sym (front-bad max bytes starts)) (starts, refl)

-- the function answers what holds
pub front-is : (max : ℕ) (bytes : List ℕ) → FrontIs max bytes (front max bytes)
front-is max bytes =
    elim (cases_lt (length bytes) 4) [
      | inl short ↦ short_is_more max bytes short
      | inr header ↦ elim (cases_lt max (announced_len bytes)) [
        | inl above ↦ bad_is max bytes (record { header = header; refused = inr above })
        | inr within ↦ elim (cases_lt 0 (announced_len bytes)) [
          | inr none ↦ bad_is max bytes (record { header = header; refused = inl (omega arith) })
          | inl some ↦ elim (cases_lt (length bytes) (4 + announced_len bytes)) [
            | inl waits ↦ waits_is_more max bytes header some within waits
            | inr follows ↦ whole_is max bytes (record { header = header; some = some; within = within; follows = follows })
          ]
        ]
      ]
    ]

-- what an answer of the function says
pub front_says : (max : ℕ) (bytes : List ℕ) (answer : Front) → front max bytes ≡ answer → FrontIs max bytes answer
front_says max bytes answer same = subst (FrontIs max bytes) same (front-is max bytes)

-- an answer of the function that is not More, by which relation fails
more_from : (max : ℕ) (bytes : List ℕ) (answer : Front) → FrontIs max bytes answer → IsUnfinished max bytes → answer ≡ More
more_from max bytes (Whole n) is unfinished = absurd (unfinished.no_frame is.0)
more_from max bytes (Bad n) is unfinished = absurd (unfinished.not_bad is.0)
more_from max bytes More is unfinished = refl

-- an unfinished front is found
pub front-more : (max : ℕ) (bytes : List ℕ) → IsUnfinished max bytes → front max bytes ≡ More
front-more max bytes unfinished = more_from max bytes (front max bytes) (front-is max bytes) unfinished

-- a whole frame is found exactly where one stands
pub front-whole_iff : (max : ℕ) (bytes : List ℕ) → (front max bytes ≡ Whole (announced_len bytes)) ↔ StartsWithFrame max bytes
front-whole_iff max bytes = (λ found. (front_says max bytes (Whole (announced_len bytes)) found).0, front-whole max bytes)

-- a bad length is found exactly where one stands
pub front-bad_iff : (max : ℕ) (bytes : List ℕ) → (front max bytes ≡ Bad (announced_len bytes)) ↔ StartsBadly max bytes
front-bad_iff max bytes = (λ found. (front_says max bytes (Bad (announced_len bytes)) found).0, front-bad max bytes)

-- unfinished is answered exactly where it is neither
pub front-more_iff : (max : ℕ) (bytes : List ℕ) → (front max bytes ≡ More) ↔ IsUnfinished max bytes
front-more_iff max bytes = (front_says max bytes More, front-more max bytes)

-- ---- what follows a front

-- a frame at the front stays whatever follows
pub StartsWithFrame-append : (max : ℕ) (s t : List ℕ) → StartsWithFrame max s → StartsWithFrame max (s ++ t)
StartsWithFrame-append max s t starts =
    let same = announced_len-append s t starts.header in
    let header : 4 ≤ length s = starts.header in
    let some : 0 < announced_len s = starts.some in
    let within : announced_len s ≤ max = starts.within in
    let follows : 4 + announced_len s ≤ length s = starts.follows in
    record {
      header = omega (arith, length-append s t);
      some = omega (arith, same);
      within = omega (arith, same);
      follows = omega (arith, same, length-append s t);
    }

-- a bad length stays bad whatever follows
pub StartsBadly-append : (max : ℕ) (s t : List ℕ) → StartsBadly max s → StartsBadly max (s ++ t)
StartsBadly-append max s t starts =
    let same = announced_len-append s t starts.header in
    let header : 4 ≤ length s = starts.header in
    record {
      header = omega (arith, length-append s t);
      refused = elim starts.refused [ inl none ↦ inl (same ∙ none) | inr above ↦ inr (omega (arith, same)) ];
    }

-- the front of a stream is found before the rest of the stream is there
pub front-append_whole : (max : ℕ) (s t : List ℕ) (body_len : ℕ) → front max s ≡ Whole body_len → front max (s ++ t) ≡ Whole body_len
front-append_whole max s t body_len found =
    let is = front_says max s (Whole body_len) found in
    front-whole max (s ++ t) (StartsWithFrame-append max s t is.0)
    ∙ ap Whole (announced_len-append s t is.0.header ∙ sym is.1)

-- likewise a bad length
pub front-append_bad : (max : ℕ) (s t : List ℕ) (announced : ℕ) → front max s ≡ Bad announced → front max (s ++ t) ≡ Bad announced
front-append_bad max s t announced found =
    let is = front_says max s (Bad announced) found in
    front-bad max (s ++ t) (StartsBadly-append max s t is.0)
    ∙ ap Bad (announced_len-append s t is.0.header ∙ sym is.1)

-- ---- a frame and its string

-- a body's string is a whole frame
pub StartsWithFrame-string : (max : ℕ) (body rest : List ℕ) → max < 2 ^ 32 → IsBody max body → StartsWithFrame max (string body ++ rest)
StartsWithFrame-string max body rest bound fits =
    let some : 0 < length body = fits.some in
    let within : length body ≤ max = fits.within in
    let same = announced_len-string body rest (omega arith) in
    let long = length-append (string body) rest ∙ ap (λ (n : ℕ). n + length rest) (length-string body) in
    record {
      header = omega (arith, long);
      some = omega (arith, same);
      within = omega (arith, same);
      follows = omega (arith, same, long);
    }

-- and it is found, with the body's length
pub front-string : (max : ℕ) (body rest : List ℕ) → max < 2 ^ 32 → IsBody max body → front max (string body ++ rest) ≡ Whole (length body)
front-string max body rest bound fits =
    let within : length body ≤ max = fits.within in
    front-whole max (string body ++ rest) (StartsWithFrame-string max body rest bound fits)
    ∙ ap Whole (announced_len-string body rest (omega arith))

-- the body at a whole front has the length that is announced
pub length-front_body : (max : ℕ) (bytes : List ℕ) (body_len : ℕ) → front max bytes ≡ Whole body_len → length (front_body body_len bytes) ≡ body_len
length-front_body max bytes body_len found =
    let is = front_says max bytes (Whole body_len) found in
    let follows : 4 + announced_len bytes ≤ length bytes = is.0.follows in
    let same : body_len ≡ announced_len bytes = is.1 in
    omega (arith, length-take body_len (drop 4 bytes), length-drop 4 bytes)

-- and it is a body
pub IsBody-front_body : (max : ℕ) (bytes : List ℕ) (body_len : ℕ) → front max bytes ≡ Whole body_len → IsBody max (front_body body_len bytes)
IsBody-front_body max bytes body_len found =
    let is = front_says max bytes (Whole body_len) found in
    let some : 0 < announced_len bytes = is.0.some in
    let within : announced_len bytes ≤ max = is.0.within in
    let same : body_len ≡ announced_len bytes = is.1 in
    let long = length-front_body max bytes body_len found in
    record { some = omega (arith, long); within = omega (arith, long) }

-- a whole front is the body's string, and then what follows the frame
pub front_is_string : (max : ℕ) (bytes : List ℕ) (body_len : ℕ) → IsBytes bytes → front max bytes ≡ Whole body_len →
    bytes ≡ string (front_body body_len bytes) ++ after_front body_len bytes
front_is_string max bytes body_len small found =
    let is = front_says max bytes (Whole body_len) found in
    sym (string-announced bytes small is.0.follows)
    ∙ ap (λ (n : ℕ). string (front_body n bytes) ++ after_front n bytes) (sym is.1)

-- ---- a whole frame within its bytes

-- it is there as a whole
pub whole_within : (max : ℕ) (bytes : List ℕ) (body_len : ℕ) → front max bytes ≡ Whole body_len → 4 + body_len ≤ length bytes
whole_within max bytes body_len found =
    let is = front_says max bytes (Whole body_len) found in
    omega (arith, is.0.follows, is.1)

-- its body isn't longer than the bound
pub body_within : (max : ℕ) (bytes : List ℕ) (body_len : ℕ) → front max bytes ≡ Whole body_len → length (front_body body_len bytes) ≤ max
body_within max bytes body_len found = (IsBody-front_body max bytes body_len found).within
