use Rattle.std.proofs.Common.{sym, rules}
use Rattle.child_peer.proofs.WordLemmas.{words_of-three, words_of-four, words_of-other}
use Rattle.child_peer.proofs.words.read_words.Goals as goal

pub returns-in-3 : goal.returns-in-3
returns-in-3 c =
    let three = words_of-three c.args.words.now c.index-words-1.result c.index-words-2.result c.in-3.is c.index-words-1.is c.index-words-2.is in
    cc (three, c.told.ensures, c.as_str.ensures.value, c.as_str-in-3.ensures.value)

pub returns-in-4 : goal.returns-in-4
returns-in-4 c =
    let four = words_of-four c.args.words.now c.index-words-1-in-4.result c.index-words-2-in-4.result c.index-words-3.result c.in-4.is c.index-words-1-in-4.is c.index-words-2-in-4.is c.index-words-3.is in
    cc (four, c.told-in-4.ensures, c.as_str-in-4.ensures.value, c.as_str-in-4-2.ensures.value, c.as_str-in-4-3.ensures.value)

pub returns-in_default : goal.returns-in_default
returns-in_default c = sym (words_of-other c.args.words.now (λ three. search rules) (λ four. search rules))
