use Rattle.std.proofs.Common.{◌∙◌, ap, sym, Some}
use Rattle.log_book.proofs.ListLemmas.{comment_there}
use Rattle.log_book.proofs.list.comment_of.Goals as goal

pub returns : goal.returns
returns c =
    ap Some (c.in_ok-copied.ensures ∙ c.as_slice.ensures)
    ∙ sym (comment_there c.args.blob.now c.args.keys.now c.in-Some.place c.index-keys-place.result c.in-Some.ensures)
