use Rattle.std.proofs.Common.{ℕ, [], ◌∷◌, ap}
use Rattle.child_msg.proofs.WriteLemmas.{length-to_child_body}
use Rattle.helper_link.specs.HelperLink.{ask_of, sign_request}
use Rattle.helper_link.specs.declared.ask.AskKind.TheVariants.{Signing}
use Rattle.helper_link.proofs.rows.bodies_fill_the_places.Goals as goal

pub returns-clause-size : goal.returns-clause-size
returns-clause-size c =
    ap (λ (size : ℕ). ask_of 1 70 Signing [] 5 size ∷ []) (length-to_child_body (sign_request [] [] [] 0 1))
