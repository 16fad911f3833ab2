use Rattle.std.proofs.Common.{◌++◌, ◌∙◌, ℕ, List, ap, append_assoc}
use Rattle.log_book.specs.Lines.{bytes_text}
use Rattle.log_book.proofs.ListLemmas.{on_ok}
use Rattle.log_book.proofs.reading.put_size.Goals as goal

pub returns : goal.returns
returns c =
    let rest = bytes_text c.args.size in
    on_ok c.put_bytes.result
    (λ is. is ∙ ap (λ (text : List ℕ). text ++ rest) c.in_ok-extend_from_slice.ensures.items
    ∙ append_assoc c.args.out.now.items c.args.words.now rest)
    c.put_bytes.ensures
