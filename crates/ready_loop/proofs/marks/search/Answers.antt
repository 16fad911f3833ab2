use Rattle.std.proofs.Common.{rules}
use Rattle.std.proofs.lemmas.List.Sorted.{answers_always}
use Rattle.ready_loop.specs.declared.marks.Mark.{Mark}
use Rattle.ready_loop.proofs.MarkLemmas.{searched_marks}
use Rattle.ready_loop.proofs.marks.search.Goals as goal

-- the closure gives a mark's port
pub returns : goal.returns
returns c =
    let facts = c.binary_search_by_key.ensures in
    let by_key = facts.position (λ (mark : Mark). mark.port) (answers_always _ _ _ (λ f a r g called. search rules)) in
    searched_marks c.args.port _ _ facts.bound by_key c.requires
