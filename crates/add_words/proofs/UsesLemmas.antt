-- A number of uses that words say is one that may be given.
use Rattle.std.proofs.Common.{◌≡◌, ℕ, ◌^◌, nat_lt, Bool, true, false, cond, ◌&&◌, List, [], ◌∷◌, Option, None, Some, is_some, refl, ap, subst, arith}
use Rattle.std.proofs.lemmas.Bool.Decides.{nat_tests}
use Rattle.std.specs.Str.{all_ascii_digits}
use Rattle.std.specs.Prelude.{option_and_then}
use Rattle.add_words.specs.declared.option.Wanted.{Wanted}
use Rattle.add_words.specs.declared.option.Wanted.TheVariants.{Life, Uses, Destination, Hosts, Purpose}
use Rattle.add_words.specs.declared.option.Word.{Word}
use Rattle.add_words.specs.declared.option.Word.TheVariants.{Does, Confirm, Wants, Ends, Unknown, File}
use Rattle.world_ports.specs.Life.{life_of}
use Rattle.add_words.specs.Counts.{number_after, is_shortest, some_count, count_of, IsCount}
use Rattle.add_words.specs.Given.{Given, with_life, with_uses, after_value, after_kind, after_unwanted, after_wanted, after_word}
use Rattle.add_words.specs.Options.{option_of}
use Rattle.add_words.specs.Words.{after_words}

-- a number that may be given is one
some_counted : (number uses : ℕ) (test : Bool) → (nat_lt 0 number && nat_lt number (2 ^ 32)) ≡ test → cond test (Some number) None ≡ Some uses → IsCount (Some uses)
some_counted number uses true is same =
    let e : number ≡ uses = cc in
    (grind (arith, nat_tests, is, e), grind (arith, nat_tests, is, e))
some_counted number uses false is same = absurd cc

counted : (word : List ℕ) (uses : ℕ) (test : Bool) → cond test (some_count (number_after 0 word)) None ≡ Some uses → IsCount (Some uses)
counted word uses true is = some_counted (number_after 0 word) uses (nat_lt 0 (number_after 0 word) && nat_lt (number_after 0 word) (2 ^ 32)) refl is
counted word uses false is = absurd cc

-- what a value adds
by_life : (given after : Given) (life : Option ℕ) → with_life given life ≡ Some after → given.uses ≡ after.uses
by_life given after None is = absurd cc
by_life given after (Some life) is = let e : record given { wanted = None; life = Some life } ≡ after = cc in ap (λ (g : Given). g.uses) e

by_uses : (given after : Given) (word : List ℕ) (uses : Option ℕ) → count_of word ≡ uses → with_uses given uses ≡ Some after → IsCount after.uses
by_uses given after word None read is = absurd cc
by_uses given after word (Some uses) read is =
    let e : record given { wanted = None; uses = Some uses } ≡ after = cc in
    subst (λ (g : Given). IsCount g.uses) e (counted word uses (is_shortest word && all_ascii_digits word) read)

-- ---- one word after another

abbrev uses_in : Option Given → Option ℕ
uses_in None = None
uses_in (Some given) = given.uses

unless : (test : Bool) (made after : Given) → cond test None (Some made) ≡ Some after → made.uses ≡ after.uses
unless true made after is = absurd cc
unless false made after is = ap uses_in is

by_value : (wanted : Wanted) (given after : Given) (word : List ℕ) → after_value wanted given word ≡ Some after → IsCount given.uses → IsCount after.uses
by_value Life given after word is count = subst IsCount (by_life given after (life_of word) is) count
by_value Uses given after word is count = by_uses given after word (count_of word) refl is
by_value Destination given after word is count = subst IsCount (ap uses_in is) count
by_value Hosts given after word is count = subst IsCount (ap uses_in is) count
by_value Purpose given after word is count = subst IsCount (ap uses_in is) count

by_kind : (kind : Word) (given after : Given) (word : List ℕ) → after_kind kind given word ≡ Some after → IsCount given.uses → IsCount after.uses
by_kind (Does command) given after word is count = subst IsCount (unless (is_some given.command) (record given { command = Some command }) after is) count
by_kind Confirm given after word is count = subst IsCount (unless given.confirm (record given { confirm = true }) after is) count
by_kind (Wants Life) given after word is count = subst IsCount (unless (is_some given.life) (record given { wanted = Some Life }) after is) count
by_kind (Wants Uses) given after word is count = subst IsCount (unless (is_some given.uses) (record given { wanted = Some Uses }) after is) count
by_kind (Wants Destination) given after word is count = subst IsCount (ap uses_in is) count
by_kind (Wants Hosts) given after word is count = subst IsCount (ap uses_in is) count
by_kind (Wants Purpose) given after word is count = subst IsCount (ap uses_in is) count
by_kind Ends given after word is count = subst IsCount (ap uses_in is) count
by_kind Unknown given after word is count = absurd cc
by_kind File given after word is count = subst IsCount (ap uses_in is) count

by_unwanted : (ended : Bool) (given after : Given) (word : List ℕ) → after_unwanted ended given word ≡ Some after → IsCount given.uses → IsCount after.uses
by_unwanted true given after word is count = subst IsCount (ap uses_in is) count
by_unwanted false given after word is count = by_kind (option_of word) given after word is count

by_wanted : (wanted : Option Wanted) (given after : Given) (word : List ℕ) → after_wanted wanted given word ≡ Some after → IsCount given.uses → IsCount after.uses
by_wanted (Some wanted) given after word is count = by_value wanted given after word is count
by_wanted None given after word is count = by_unwanted given.ended given after word is count

next_there : (next : Option Given) (words : List (List ℕ)) (after : Given) → option_and_then (λ (g : Given). after_words g words) next ≡ Some after →
    (given : Given) × (next ≡ Some given) × (after_words given words ≡ Some after)
next_there None words after is = absurd cc
next_there (Some given) words after is = (given, refl, is)

-- what words add to words that have such a number, or none, has one or none
pub words_counted : (words : List (List ℕ)) (given after : Given) → after_words given words ≡ Some after → IsCount given.uses → IsCount after.uses
words_counted [] given after is count = subst IsCount (ap uses_in is) count
words_counted (word ∷ words) given after is count =
    let first = next_there (after_word given word) words after is in
    words_counted words first.0 after first.2 (by_wanted given.wanted given first.0 word first.1 count)
