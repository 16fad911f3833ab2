use Rattle.std.proofs.Common.{◌≡◌, drop, map, string_bytes}
use Rattle.add_words.specs.Given.{given_of, nothing_given}
use Rattle.add_words.specs.Words.{after_words}
use Rattle.add_words.proofs.reading.read_given.Given as goal

-- the words that are left, behind those so far, are all
abbrev pub invariant-words : goal.invariant-words
invariant-words l =
    after_words nothing_given (map string_bytes l.words) ≡ after_words (given_of l.given) (map string_bytes (drop l.word-index l.words))
