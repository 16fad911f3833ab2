use Rattle.std.proofs.Common.{◌∙◌, ◌<◌, arith, sym}
use Rattle.std.proofs.lemmas.List.Elements.{All-from_get_or}
use Rattle.filter_core.proofs.CutLemmas.{holds_so, passed}
use Rattle.filter_core.proofs.cut.lists_listed.Goals as goal

pub returns-then-number-eq12 : goal.returns-then-number-eq12
returns-then-number-eq12 c =
    let each = All-from_get_or (λ byte. byte < 256) c.args.answer.now 0 (λ i within. omega (arith, c.type_inv.answer i)) in
    λ holds. passed c.args.listed.now c.args.answer.now c.take_u8.new.self c.in-Ok.number each (sym c.new-cursor.ensures ∙ c.in-Ok.ensures.found) (omega arith)
    (sym c.counts_listed.ensures ∙ holds_so c.counts_listed.result holds)
