use Rattle.std.proofs.Common.{◌≤◌, length, get_or, ◌∙◌, rules}
use Rattle.add_words.proofs.CountLemmas.{count_read}
use Rattle.add_words.proofs.count.read_count.Goals as goal

pub returns-in-49-to-57 : goal.returns-in-49-to-57
returns-in-49-to-57 c =
    let word = c.args.word.now in
    let some : 1 ≤ length word = search rules in
    let low : 49 ≤ get_or word 0 0 = search rules in
    let high : get_or word 0 0 ≤ 57 = search rules in
    c.ok.ensures.value ∙ count_read word c.parse.result c.parse.ensures.value.0 some low high
