use Rattle.std.proofs.Common.{◌≡◌, ◌∙◌, Ok, ap, map, sym}
use Rattle.std.proofs.lemmas.List.{drop_all}
use Rattle.key_purposes.specs.Purposes.{with_words}
use Rattle.add_words.specs.Purposes.{purposes_named}
use Rattle.add_words.proofs.PurposeLemmas.{named_are}
use Rattle.add_words.proofs.purposes.named_purposes.Goals as goal

pub returns-clause-named : goal.returns-clause-named
returns-clause-named c =
    let held = c.words.purposes.items in
    let none = drop_all c.words.word-index c.args.words.now c.words-test.false in
    let read : purposes_named (map (λ word. word.now) c.args.words.now) ≡ Ok held =
    c.words.invariant ∙ ap (λ l. with_words held (map (λ word. word.now) l)) none in
    named_are _ _ (read ∙ ap Ok (sym c.from_vec.ensures))
