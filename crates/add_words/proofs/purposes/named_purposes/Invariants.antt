use Rattle.std.proofs.Common.{◌≡◌, drop, map}
use Rattle.add_words.specs.Purposes.{purposes_named}
use Rattle.key_purposes.specs.Purposes.{with_words}
use Rattle.add_words.proofs.purposes.named_purposes.Given as goal

-- the purposes so far, with those of the words that are left, are all
abbrev pub invariant-words : goal.invariant-words
invariant-words l =
    purposes_named (map (λ word. word.now) l.words) ≡ with_words l.purposes.items (map (λ word. word.now) (drop l.word-index l.words))
