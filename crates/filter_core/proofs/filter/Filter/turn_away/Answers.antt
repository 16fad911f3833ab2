use Rattle.std.proofs.Common.{ap, arith}
use Rattle.filter_model.specs.Filters.{State}
use Rattle.filter_core.proofs.SlotLemmas.{kept-numbered}
use Rattle.filter_core.proofs.filter.Filter.turn_away.Goals as goal

pub invariant_of-self-2 : goal.invariant_of-self-2
invariant_of-self-2 c =
    let last = ap (λ (s : State). s.last_pair) c.self.view_is in
    kept-numbered _ _ (omega (arith, c.requires.last, last)) c.self.invariant
