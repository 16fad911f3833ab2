-- What it says of a key's purposes and destination constraints that nothing stands against a signature.
use Rattle.std.proofs.Common.{◌≡◌, Bool, true, false, Option, Some, None, refl, ap, ◌∙◌, if◌then◌else◌}
use Rattle.std.specs.Option.{option_map}
use Rattle.dest_rule.specs.declared.denial.Denial.{Denial}
use Rattle.agent_model.specs.Verdicts.{DestinationDenied, OtherPurpose}

-- both permit it
pub both_permit : (lets : Bool) (denial : Option Denial) → (if lets then option_map DestinationDenied denial else Some OtherPurpose) ≡ None → (lets ≡ true) × (denial ≡ None)
both_permit true None is = (refl, refl)
both_permit true (Some denial) is = absurd cc
both_permit false denial is = absurd cc

-- nothing stands against it where both permit it
pub none_objects : (lets : Bool) (denial : Option Denial) → lets ≡ true → denial ≡ None → (if lets then option_map DestinationDenied denial else Some OtherPurpose) ≡ None
none_objects lets denial suits permitted =
    ap (λ b. if b then option_map DestinationDenied denial else Some OtherPurpose) suits
    ∙ ap (option_map DestinationDenied) permitted
