use Rattle.std.proofs.Common.{◌++◌, ◌∙◌, ℕ, List, ap, append_assoc, codes}
use Rattle.log_book.specs.Shown.{quoted}
use Rattle.log_book.proofs.ListLemmas.{on_ok}
use Rattle.log_book.proofs.reading.put_namespace.Goals as goal

pub returns : goal.returns
returns c =
    let shown = quoted c.args.namespace.now in
    on_ok c.put_quoted.result
    (λ is. is ∙ ap (λ (text : List ℕ). text ++ shown) c.in_ok-extend_from_slice.ensures.items
    ∙ append_assoc c.args.out.now.items (codes "file in namespace ") shown)
    c.put_quoted.ensures
