-- The words of `ssh-add` as a whole: what is to be done (ssh-add(1); that options may follow files is
-- ours).
use Rattle.std.specs.Prelude.{ℕ, ◌==◌, ◌&&◌, not, Bool, true, false, List, [], ◌∷◌, map, Option, Some, None, is_none, if◌then◌else◌, option_and_then}
use Rattle.add_words.specs.declared.command.Command.{Command}
use Rattle.add_words.specs.declared.command.Command.TheVariants as does
use Rattle.add_words.specs.declared.command.AddWords.{AddWords}
use Rattle.add_words.specs.Given.{Given, nothing_given, after_word}

-- what the words say
pub record PlainWords : Type 0 where
  pub command : Command
  pub confirm : Bool
  pub life : Option ℕ
  pub uses : Option ℕ
  pub destinations : List (List ℕ)
  pub hosts : List (List ℕ)
  pub purposes : List (List ℕ)
  pub files : List (List ℕ)

-- the code's value, with lists in the place of vectors
abbrev pub plain_words : AddWords → PlainWords
plain_words words = record {
  command = words.command;
  confirm = words.confirm;
  life = words.life;
  uses = words.uses;
  destinations = map (λ word. word.now) words.destinations.items;
  hosts = map (λ word. word.now) words.hosts.items;
  purposes = map (λ word. word.now) words.purposes.items;
  files = map (λ word. word.now) words.files.items;
}

-- one word after another, as far as none is refused
abbrev pub after_words : Given → List (List ℕ) → Option Given
after_words given [] = Some given
after_words given (word ∷ words) =
    option_and_then (λ (after : Given). after_words after words) (after_word given word)

-- without a word that says so, keys are added
abbrev pub command_of : Option Command → Command
command_of None = does.Add
command_of (Some command) = command

-- a lifetime of 0 is none
abbrev pub some_life : Option ℕ → Option ℕ
some_life None = None
some_life (Some seconds) = if seconds == 0 then None else Some seconds

-- the list has an element
abbrev pub has_some : {A : Type 0} → List A → Bool
has_some [] = false
has_some (x ∷ xs) = true

-- no constraint is asked for
abbrev pub is_unconstrained : Given → Bool
is_unconstrained given =
    not given.confirm && is_none given.life && is_none given.uses
    && not (has_some given.destinations) && not (has_some given.hosts) && not (has_some given.purposes)

-- the words that there are go together with the command: files to add and to remove and nowhere
-- else, constraints where keys are added, and files of known hosts where there are destinations
abbrev pub goes_with : Command → Given → Bool
goes_with does.Add given =
    has_some given.files && (if has_some given.destinations then has_some given.hosts else true)
goes_with does.Remove given = has_some given.files && is_unconstrained given
goes_with does.List given = not (has_some given.files) && is_unconstrained given
goes_with does.ListKeys given = not (has_some given.files) && is_unconstrained given
goes_with does.RemoveAll given = not (has_some given.files) && is_unconstrained given
goes_with does.Lock given = not (has_some given.files) && is_unconstrained given
goes_with does.Unlock given = not (has_some given.files) && is_unconstrained given

-- what is given says what is to be done, where no value is missing
abbrev pub words_of_given : Given → Option PlainWords
words_of_given given =
    if is_none given.wanted && goes_with (command_of given.command) given
    then Some record {
      command = command_of given.command;
      confirm = given.confirm;
      life = some_life given.life;
      uses = given.uses;
      destinations = given.destinations;
      hosts = given.hosts;
      purposes = given.purposes;
      files = given.files;
    }
    else None

-- what the words say, or nothing where they aren't of the tool's form
abbrev pub words_of : List (List ℕ) → Option PlainWords
words_of words = option_and_then words_of_given (after_words nothing_given words)
