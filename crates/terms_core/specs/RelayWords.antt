-- The words of the program (ours): docs/PROTOCOL.md, "Terms for every key".
use Rattle.std.specs.Prelude.{◌≡◌, ◌&&◌, ◌||◌, ℕ, not, Bool, true, List, [], ◌∷◌, Option, Some, Ok, is_some, is_none}
use Rattle.add_words.specs.Purposes.{purposes_named}
use Rattle.add_words.specs.Words.{PlainWords, has_some, words_of}
use Rattle.constraint_rec.specs.Constraints.{no_terms}
use Rattle.constraint_rec.specs.Writing.{constraints_bytes}
use Rattle.constraint_rec.specs.declared.terms.Terms.{Terms}
use Rattle.key_purposes.specs.declared.purpose.Purpose.{Purpose}

-- a number of uses and purposes alone
abbrev pub terms_with : Option ℕ → List Purpose → Terms
terms_with uses purposes = record no_terms { uses = uses; purposes = purposes }

-- the words add keys, with terms of ours and none of ssh-add's
abbrev pub asks_terms : PlainWords → Bool
asks_terms words =
    (is_some words.uses || has_some words.purposes)
    && not words.confirm && is_none words.life && not (has_some words.destinations) && not (has_some words.hosts)

-- the terms are the text of the number of uses and of the purposes that the words name
pub record IsTextOf (words : PlainWords) (terms : List ℕ) : Type 0 where
  pub purposes : List Purpose
  pub named : purposes_named words.purposes ≡ Ok purposes
  pub is : terms ≡ constraints_bytes (terms_with words.uses purposes)

-- the words ask for these terms, a client at this path, and the agent at that
pub record Asks (words : List (List ℕ)) (terms path agent : List ℕ) : Type 0 where
  pub given : PlainWords
  pub read : words_of words ≡ Some given
  pub only : asks_terms given ≡ true
  pub text : IsTextOf given terms
  pub places : given.files ≡ path ∷ agent ∷ []
