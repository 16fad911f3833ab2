-- Lemmas on specs/Verdicts.antt.
use Rattle.std.proofs.Common.{◌≡◌, ◌&&◌, ℕ, ℤ, pos, Bool, true, false, List, refl, ap}
use Rattle.std.proofs.lemmas.Bool.Decides.{Decides-int_eq}
use Rattle.std.specs.Ordering.{int_eq}
use Rattle.relay_core.specs.Verdicts.{first_line, is_consent, verdict_of}

-- a test that fails
refuted : (test : Bool) → (test ≡ true → ⊥) → test ≡ false
refuted true wrong = absurd (wrong refl)
refuted false wrong = refl

-- another status
pub verdict-other : (status : ℤ) (output : List ℕ) → (status ≡ pos 0 → ⊥)
    → verdict_of status output ≡ false
unfolding verdict_of
verdict-other status output other =
    ap (λ (b : Bool). b && is_consent (first_line output)) (refuted (int_eq status (pos 0)) (λ same. other ((Decides-int_eq status (pos 0)).0 same)))

-- the status 0
pub verdict-zero : (status : ℤ) (output : List ℕ) → status ≡ pos 0
    → verdict_of status output ≡ is_consent (first_line output)
unfolding verdict_of
verdict-zero status output zero = ap (λ (b : Bool). b && is_consent (first_line output)) ((Decides-int_eq status (pos 0)).1 zero)
