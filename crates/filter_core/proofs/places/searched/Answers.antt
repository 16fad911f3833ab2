use Rattle.std.proofs.Common.{rules}
use Rattle.std.proofs.lemmas.List.Sorted.{answers_always}
use Rattle.filter_core.proofs.PlaceLemmas.{searched_pairs}
use Rattle.filter_core.proofs.places.searched.Goals as goal

-- the closure gives a slot's number
pub returns : goal.returns
returns c =
    let facts = c.binary_search_by_key.ensures in
    let by_key = facts.position (λ slot. slot.number) (answers_always _ _ _ (λ f a r g called. search rules)) in
    rw c.ok.ensures.value (searched_pairs _ c.args.number _ _ facts.bound by_key c.requires)
