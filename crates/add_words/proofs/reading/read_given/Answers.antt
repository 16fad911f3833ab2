use Rattle.std.proofs.Common.{◌≡◌, ◌∙◌, Some, ap, map, string_bytes}
use Rattle.std.proofs.lemmas.List.{drop_all}
use Rattle.add_words.specs.Given.{given_of, nothing_given}
use Rattle.add_words.specs.Words.{after_words}
use Rattle.add_words.proofs.UsesLemmas.{words_counted}
use Rattle.add_words.proofs.reading.read_given.Goals as goal

pub returns-clause-uses : goal.returns-clause-uses
returns-clause-uses c =
    let given = given_of c.words.given in
    let none = drop_all c.words.word-index c.args.words.now c.words-test.false in
    let read : after_words nothing_given (map string_bytes c.args.words.now) ≡ Some given =
    c.words.invariant ∙ ap (λ l. after_words given (map string_bytes l)) none in
    words_counted (map string_bytes c.args.words.now) nothing_given given read tt
