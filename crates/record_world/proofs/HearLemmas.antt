-- Lines that tell of bytes, one after another.
use Rattle.std.proofs.Common.{◌≡◌, ℕ, zero, suc, ◌+◌, ◌-◌, ◌≤◌, ◌<◌, ◌⊎◌, inl, inr, List, [], ◌∷◌, ◌++◌, length, take, drop, map, min, refl, sym, ap, subst, ◌∙◌, arith, append_assoc, append-nil, length-drop, Bool, true, false, Result, Ok, Err, OnOk}
use Rattle.std.proofs.lemmas.Bool.{cases_lt}
use Rattle.std.proofs.lemmas.List.{take_all, drop_all}
use Rattle.std.specs.List.{flat_map}
use Rattle.schedule_text.specs.declared.step.Step.{Step}
use Rattle.schedule_text.specs.declared.step.Step.TheVariants as steps
use Rattle.schedule_text.specs.Steps.{step_line}
use Rattle.record_world.specs.Recording.{hear_steps, hold_steps, hold_text, lines, longest_piece, pieces, pieces_up_to}

-- so many pieces are enough
pieces-enough : (count more : ℕ) (bytes : List ℕ) → length bytes ≤ count → length bytes ≤ more → pieces_up_to count bytes ≡ pieces_up_to more bytes
pieces-enough zero zero bytes few many = refl
pieces-enough zero (suc more) [] few many = refl
pieces-enough zero (suc more) (byte ∷ bytes) few many = absurd (omega (arith, few))
pieces-enough (suc count) zero [] few many = refl
pieces-enough (suc count) zero (byte ∷ bytes) few many = absurd (omega (arith, many))
pieces-enough (suc count) (suc more) [] few many = refl
pieces-enough (suc count) (suc more) (byte ∷ bytes) few many =
    let left = length-drop longest_piece (byte ∷ bytes) in
    ap (λ (ps : List (List ℕ)). take longest_piece (byte ∷ bytes) ∷ ps)
    (pieces-enough count more (drop longest_piece (byte ∷ bytes)) (omega (arith, few, left)) (omega (arith, many, left)))

-- the first piece, and those of the rest
pieces-next : (bytes : List ℕ) → 0 < length bytes → pieces bytes ≡ take longest_piece bytes ∷ pieces (drop longest_piece bytes)
pieces-next [] some = absurd (omega (arith, some))
pieces-next (byte ∷ bytes) some =
    let left = length-drop longest_piece (byte ∷ bytes) in
    ap (λ (ps : List (List ℕ)). take longest_piece (byte ∷ bytes) ∷ ps)
    (pieces-enough (length bytes) (length (drop longest_piece (byte ∷ bytes))) (drop longest_piece (byte ∷ bytes)) (omega (arith, left)) (omega arith))

-- a cut behind the end is one at the end
pub cut_front : (bytes : List ℕ) (n : ℕ) → n ≡ min (length bytes) longest_piece → take n bytes ≡ take longest_piece bytes
cut_front bytes n is = elim (cases_lt (length bytes) longest_piece) [
  | inl short ↦ take_all n bytes (omega (arith, is, short)) ∙ sym (take_all longest_piece bytes (omega (arith, short)))
  | inr long ↦ (let whole : n ≡ longest_piece = omega (arith, is, long) in ap (λ (k : ℕ). take k bytes) whole)
]

pub cut_rest : (bytes : List ℕ) (n : ℕ) → n ≡ min (length bytes) longest_piece → drop n bytes ≡ drop longest_piece bytes
cut_rest bytes n is = elim (cases_lt (length bytes) longest_piece) [
  | inl short ↦ drop_all n bytes (omega (arith, is, short)) ∙ sym (drop_all longest_piece bytes (omega (arith, short)))
  | inr long ↦ (let whole : n ≡ longest_piece = omega (arith, is, long) in ap (λ (k : ℕ). drop k bytes) whole)
]

-- the lines so far and those of the rest are those of all
pub hears_next : (port : ℕ) (bytes later text more all : List ℕ) → 0 < length bytes → later ≡ drop longest_piece bytes
    → more ≡ text ++ step_line (steps.Hear port (take longest_piece bytes))
    → text ++ lines (hear_steps port bytes) ≡ all → more ++ lines (hear_steps port later) ≡ all
hears_next port bytes later text more all some is_later is_more so_far =
    ap (λ (l : List ℕ). l ++ lines (hear_steps port later)) is_more
    ∙ append_assoc text (step_line (steps.Hear port (take longest_piece bytes))) (lines (hear_steps port later))
    ∙ ap (λ (l : List ℕ). text ++ (step_line (steps.Hear port (take longest_piece bytes)) ++ lines (hear_steps port l))) is_later
    ∙ sym (ap (λ (ps : List (List ℕ)). text ++ lines (map (λ piece. steps.Hear port piece) ps)) (pieces-next bytes some))
    ∙ so_far

-- with none left they are all
pub hears_end : (port : ℕ) (rest text all : List ℕ) → rest ≡ [] → text ++ lines (hear_steps port rest) ≡ all → text ≡ all
hears_end port rest text all none so_far =
    sym (append-nil text) ∙ sym (ap (λ (l : List ℕ). text ++ lines (hear_steps port l)) none) ∙ so_far

-- a port is held before its first
hold_lines : (is_held : Bool) (port : ℕ) (bytes : List ℕ) → 0 < length bytes → lines (hold_steps is_held port bytes) ≡ hold_text is_held port ++ lines (hear_steps port bytes)
hold_lines is_held port [] some = absurd (omega (arith, some))
hold_lines true port (byte ∷ bytes) some = refl
hold_lines false port (byte ∷ bytes) some = refl

pub hold_ok : {T E : Type 0} (result : Result T E) (is_held : Bool) (port : ℕ) (bytes old mid new : List ℕ) → 0 < length bytes → mid ≡ old ++ hold_text is_held port
    → OnOk result (new ≡ mid ++ lines (hear_steps port bytes)) → OnOk result (new ≡ old ++ lines (hold_steps is_held port bytes))
hold_ok (Err want) is_held port bytes old mid new some is_mid is_new = tt
hold_ok (Ok value) is_held port bytes old mid new some is_mid is_new =
    is_new ∙ ap (λ (l : List ℕ). l ++ lines (hear_steps port bytes)) is_mid
    ∙ append_assoc old (hold_text is_held port) (lines (hear_steps port bytes))
    ∙ ap (λ (l : List ℕ). old ++ l) (sym (hold_lines is_held port bytes some))
