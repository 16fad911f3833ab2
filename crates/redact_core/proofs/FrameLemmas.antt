-- Frames that are appended part by part, and what a refused call leaves in front.
use Rattle.std.proofs.Common.{◌≡◌, ℕ, ◌+◌, List, [], ◌∷◌, ◌++◌, length, take, drop, Result, Ok, Err, refl, sym, ap, ◌∙◌, arith, append_assoc}
use Rattle.std.specs.Prelude.{OnErr, OnOk, is_ok, if◌then◌else◌}
use Rattle.std.proofs.lemmas.List.{length-append, take-append-drop, take_at}
use Rattle.wire_text.specs.Wire.{uint32, string}
use Rattle.wire_text.proofs.WireLemmas.{length-string}

-- what follows from it holds where the call succeeds
pub on_ok : {A E P Q : Type 0} → (P → Q) → (result : Result A E) → OnOk result P → OnOk result Q
on_ok f (Ok x) is = f is
on_ok f (Err e) is = tt

-- a body of a number and a text
pub text_frame : (out text : List ℕ) (number len : ℕ) → len ≡ 5 + length text
    → ((out ++ uint32 len) ++ number ∷ []) ++ string text ≡ out ++ string (number ∷ string text)
unfolding string
text_frame out text number len is =
    let long : len ≡ length (number ∷ string text) = is ∙ omega (arith, length-string text) in
    ap (λ n. ((out ++ uint32 n) ++ number ∷ []) ++ string text) long
    ∙ append_assoc (out ++ uint32 (length (number ∷ string text))) (number ∷ []) (string text)
    ∙ append_assoc out (uint32 (length (number ∷ string text))) (number ∷ string text)

-- a body of a number, a key in two parts and what follows it
pub key_frame : (out public private rest : List ℕ) (number len : ℕ)
    → len ≡ 1 + length (public ++ private) + length rest
    → ((((out ++ uint32 len) ++ number ∷ []) ++ public) ++ private) ++ rest ≡ out ++ string
    (number ∷ ((public ++ private) ++ rest))
unfolding string
key_frame out public private rest number len is =
    let body = number ∷ ((public ++ private) ++ rest) in
    let long : len ≡ length body = is ∙ omega (arith, length-append (public ++ private) rest) in
    let front = out ++ uint32 (length body) in
    ap (λ n. ((((out ++ uint32 n) ++ number ∷ []) ++ public) ++ private) ++ rest) long
    ∙ ap (λ l. l ++ rest) (append_assoc (front ++ number ∷ []) public private)
    ∙ append_assoc (front ++ number ∷ []) (public ++ private) rest
    ∙ append_assoc front (number ∷ []) ((public ++ private) ++ rest)
    ∙ append_assoc out (uint32 (length body)) body

-- what stood there stands in front
pub front_stays : (out more : List ℕ) → take (length out) (out ++ more) ≡ out
front_stays out more = take_at out more (length out) refl

-- so it does behind a later call that keeps what it found
pub front_later : (out done middle new : List ℕ) → middle ≡ out ++ done → take (length middle) new ≡ middle
    → take (length out) new ≡ out
front_later out done middle new is kept =
    let left = drop (length middle) new in
    let whole : new ≡ out ++ (done ++ left) =
    sym (take-append-drop (length middle) new) ∙ ap (λ (l : List ℕ). l ++ left) (kept ∙ is)
    ∙ append_assoc out done left in
    ap (take (length out)) whole ∙ front_stays out (done ++ left)

-- what holds anyway holds where a call is refused
pub on_err : {A E P : Type 0} → P → (result : Result A E) → OnErr result P
on_err is (Ok x) = tt
on_err is (Err e) = is

-- a vector that was extended, where that succeeded
pub extended : {A E : Type 0} (result : Result A E) (old new more : List ℕ)
    → new ≡ (if is_ok result then old ++ more else old)
    → OnOk result (new ≡ old ++ more)
extended (Ok x) old new more is = is
extended (Err e) old new more is = tt
