use Rattle.std.proofs.Common.{◌++◌, List, ℕ, ap, refl, replicate, ◌∙◌}
use Rattle.signer_keys.proofs.NumberLemmas.{joined}
use Rattle.signer_keys.proofs.p521_signatures.joined.Goals as goal

pub returns : goal.returns
returns c =
    joined 66 c.copy_from_slice.new.self c.copy_from_slice-2.new.self (replicate 66 0) c.copy_from_slice.ensures.len refl
    ∙ ap (λ (f : List ℕ). f ++ c.copy_from_slice-2.new.self) c.copy_from_slice.ensures.after
    ∙ ap (λ (b : List ℕ). c.args.r.now ++ b) c.copy_from_slice-2.ensures.after
