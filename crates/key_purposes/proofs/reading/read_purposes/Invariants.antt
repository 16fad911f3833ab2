use Rattle.std.proofs.Common.{◌≡◌, [], drop, map, string_bytes}
use Rattle.key_purposes.specs.Purposes.{with_words}
use Rattle.key_purposes.proofs.reading.read_purposes.Given as goal

-- the purposes so far, with those of the words that are left, are all
abbrev pub invariant-words : goal.invariant-words
invariant-words l =
    with_words [] (map string_bytes l.words) ≡ with_words l.purposes.items (map string_bytes (drop l.word-index l.words))
