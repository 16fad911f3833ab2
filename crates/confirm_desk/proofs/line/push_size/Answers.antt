use Rattle.std.specs.Prelude.{codes, decimal}
use Rattle.confirm_desk.proofs.PromptLemmas.{three-assoc}
use Rattle.confirm_desk.proofs.line.push_size.Goals as goal

pub returns : goal.returns
returns c =
    rw (c.in_ok-extend_from_slice-2.ensures.items, c.in_ok-push_number.ensures, c.in_ok-extend_from_slice.ensures.items)
    (three-assoc c.args.text.now.items c.args.words.now (decimal c.args.len) (codes " bytes."))
