-- The options of `ssh-add`, each a word of its own: letters that are grouped are none (ours).
use Rattle.std.specs.Prelude.{ℕ, nat_eq, List, codes, if◌then◌else◌}
use Rattle.std.specs.List.{starts_with}
use Rattle.std.specs.Str.{bytes_eq}
use Rattle.add_words.specs.declared.command.Command.TheVariants.{List as ListIdentities, ListKeys, Remove, RemoveAll, Lock, Unlock}
use Rattle.add_words.specs.declared.option.Wanted.TheVariants.{Life, Uses, Destination, Hosts, Purpose}
use Rattle.add_words.specs.declared.option.Word.{Word}
use Rattle.add_words.specs.declared.option.Word.TheVariants.{Does, Confirm, Wants, Ends, Unknown, File}

-- what a word is that is no value of the word before it
unfoldable pub option_of : List ℕ → Word
option_of word =
    if bytes_eq word (codes "-l") then Does ListIdentities
    else if bytes_eq word (codes "-L") then Does ListKeys
    else if bytes_eq word (codes "-d") then Does Remove
    else if bytes_eq word (codes "-D") then Does RemoveAll
    else if bytes_eq word (codes "-x") then Does Lock
    else if bytes_eq word (codes "-X") then Does Unlock
    else if bytes_eq word (codes "-c") then Confirm
    else if bytes_eq word (codes "-t") then Wants Life
    else if bytes_eq word (codes "-u") then Wants Uses
    else if bytes_eq word (codes "-h") then Wants Destination
    else if bytes_eq word (codes "-H") then Wants Hosts
    else if bytes_eq word (codes "-p") then Wants Purpose
    else if bytes_eq word (codes "--") then Ends
    else if starts_with nat_eq word (codes "-") then Unknown
    else File
