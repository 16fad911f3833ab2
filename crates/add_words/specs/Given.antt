-- What words say, read from the left.
use Rattle.std.specs.Prelude.{ℕ, Bool, true, false, List, [], ◌∷◌, ◌++◌, map, Option, Some, None, is_some, if◌then◌else◌}
use Rattle.world_ports.specs.Life.{life_of}
use Rattle.add_words.specs.declared.command.Command.{Command}
use Rattle.add_words.specs.declared.given.Given.{Given as CodeGiven}
use Rattle.add_words.specs.declared.option.Wanted.{Wanted}
use Rattle.add_words.specs.declared.option.Wanted.TheVariants.{Life, Uses, Destination, Hosts, Purpose}
use Rattle.add_words.specs.declared.option.Word.{Word}
use Rattle.add_words.specs.declared.option.Word.TheVariants.{Does, Confirm, Wants, Ends, Unknown, File}
use Rattle.add_words.specs.Counts.{count_of}
use Rattle.add_words.specs.Options.{option_of}

-- what the words so far say, which value the next word is, and whether only files follow
pub record Given : Type 0 where
  pub command : Option Command
  pub confirm : Bool
  pub life : Option ℕ
  pub uses : Option ℕ
  pub destinations : List (List ℕ)
  pub hosts : List (List ℕ)
  pub purposes : List (List ℕ)
  pub files : List (List ℕ)
  pub wanted : Option Wanted
  pub ended : Bool

-- the code's value, with lists in the place of vectors
abbrev pub given_of : CodeGiven → Given
given_of given = record {
  command = given.command;
  confirm = given.confirm;
  life = given.life;
  uses = given.uses;
  destinations = map (λ word. word.now) given.destinations.items;
  hosts = map (λ word. word.now) given.hosts.items;
  purposes = map (λ word. word.now) given.purposes.items;
  files = map (λ word. word.now) given.files.items;
  wanted = given.wanted;
  ended = given.ended;
}

-- no word
abbrev pub nothing_given : Given
nothing_given = record {
  command = None;
  confirm = false;
  life = None;
  uses = None;
  destinations = [];
  hosts = [];
  purposes = [];
  files = [];
  wanted = None;
  ended = false;
}

-- ---- the next word, or nothing where it is refused

-- what is given and a lifetime, where the word was read as one
abbrev pub with_life : Given → Option ℕ → Option Given
with_life given None = None
with_life given (Some life) = Some record given { wanted = None; life = Some life }

-- what is given and a number of uses, where the word was read as one
abbrev pub with_uses : Given → Option ℕ → Option Given
with_uses given None = None
with_uses given (Some uses) = Some record given { wanted = None; uses = Some uses }

-- what a word adds as the value of the option before it
abbrev pub after_value : Wanted → Given → List ℕ → Option Given
after_value Life given word = with_life given (life_of word)
after_value Uses given word = with_uses given (count_of word)
after_value Destination given word =
    Some record given { wanted = None; destinations = given.destinations ++ word ∷ [] }
after_value Hosts given word = Some record given { wanted = None; hosts = given.hosts ++ word ∷ [] }
after_value Purpose given word = Some record given { wanted = None; purposes = given.purposes ++ word ∷ [] }

-- what is given and one more file
abbrev pub with_file : Given → List ℕ → Option Given
with_file given word = Some record given { files = given.files ++ word ∷ [] }

-- what a word adds that is an option or a file: a command, `-c`, a lifetime and a number of
-- uses may stand only once
abbrev pub after_kind : Word → Given → List ℕ → Option Given
after_kind (Does command) given word =
    if is_some given.command then None else Some record given { command = Some command }
after_kind Confirm given word = if given.confirm then None else Some record given { confirm = true }
after_kind (Wants Life) given word =
    if is_some given.life then None else Some record given { wanted = Some Life }
after_kind (Wants Uses) given word =
    if is_some given.uses then None else Some record given { wanted = Some Uses }
after_kind (Wants Destination) given word = Some record given { wanted = Some Destination }
after_kind (Wants Hosts) given word = Some record given { wanted = Some Hosts }
after_kind (Wants Purpose) given word = Some record given { wanted = Some Purpose }
after_kind Ends given word = Some record given { ended = true }
after_kind Unknown given word = None
after_kind File given word = with_file given word

-- what a word adds, by which option it is or else as a file
abbrev pub after_option : Given → List ℕ → Option Given
after_option given word = after_kind (option_of word) given word

-- what a word adds where no value is wanted, by whether only files follow
abbrev pub after_unwanted : Bool → Given → List ℕ → Option Given
after_unwanted true given word = with_file given word
after_unwanted false given word = after_option given word

-- what a word adds, by the value that is wanted, where one is
abbrev pub after_wanted : Option Wanted → Given → List ℕ → Option Given
after_wanted (Some wanted) given word = after_value wanted given word
after_wanted None given word = after_unwanted given.ended given word

-- what the next word adds to what is given
abbrev pub after_word : Given → List ℕ → Option Given
after_word given word = after_wanted given.wanted given word
