use Rattle.std.proofs.Common.{◌∙◌, ◌++◌, ◌∷◌, [], ◌+◌, List, ap, arith, subst, sym}
use Rattle.filter_model.specs.Pairs.{new_pair}
use Rattle.filter_model.specs.Filters.{Numbered, State}
use Rattle.filter_core.specs.Slots.{IsKept, pairs_of}
use Rattle.filter_core.proofs.SlotLemmas.{kept-joined, pairs_of-push}
use Rattle.filter_core.proofs.filter.Filter.admit.Goals as goal

pub invariant_of-self-2 : goal.invariant_of-self-2
invariant_of-self-2 c =
    let last = ap (λ (s : State). s.last_pair) c.self.view_is in
    subst (λ (pairs : List Numbered). IsKept pairs (c.self.inside.last + 1))
    (sym (ap pairs_of c.in_ok-push.ensures.items ∙ pairs_of-push _ _ ∙ ap (λ (n : Numbered). pairs_of c.self.inside.slots.items ++ n ∷ []) c.new.ensures))
    (kept-joined _ _ new_pair (omega (arith, c.requires.last, last)) c.self.invariant)
