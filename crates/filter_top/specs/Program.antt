-- What the program does (ours). Read from the end.
use Rattle.std.specs.Prelude.{◌≡◌, ◌⊎◌, ◌≤◌, ℕ, List, [], ◌∷◌, Option, Some, None, Result, Ok, Err, Vec, length, map}
use Rattle.std.specs.BTreeSet.{BTreeSet}
use Rattle.std.specs.String.{string_bytes}
use Rattle.std.specs.declared.string.String.{String}
use Rattle.std.specs.declared.alloc.Global.{Global}
use Rattle.key_file.specs.declared.fault.PubFault.{PubFault}
use Rattle.world_ports.specs.declared.answers.Polled.TheVariants as polled
use Rattle.world_ports.specs.declared.answers.WorldFault.TheVariants as fault
use Rattle.world_ports.specs.Causes.{Rose}
use Rattle.world_ports.specs.Files.{FilesView, HoldsMore}
use Rattle.world_ports.specs.Journal.{Grows}
use Rattle.pair_ports.specs.declared.entry.PairEntry.{PairEntry}
use Rattle.filter_model.specs.Lists.{Listed}
use Rattle.filter_model.specs.Answered.{Reading}
use Rattle.filter_model.specs.LegalPairs.{first_reading}
use Rattle.filter_core.specs.Slots.{blobs_of}
use Rattle.filter_top.specs.declared.words.Words.{Words}
use Rattle.filter_top.specs.declared.status.FilterStatus.{FilterStatus}
use Rattle.filter_top.specs.declared.status.FilterStatus.TheVariants as status
use Rattle.filter_top.specs.Lists.{blobs_in, longest_list}
use Rattle.filter_top.specs.Purposes.{IsPurposeEnd, purposes_named}
use Rattle.filter_top.specs.Moves.{BindEnds, PollEnds, Stops}

-- the words, as text
abbrev pub texts_of : List (String Global) → List (List ℕ)
texts_of words = map string_bytes words

-- what the program is asked for: the file of the list, the agent behind, where to listen, and a word for each purpose
pub record Asked : Type 0 where
  pub list : List ℕ
  pub upstream : List ℕ
  pub path : List ℕ
  pub purposes : List (List ℕ)

-- what these words ask for, where there are three or more
abbrev pub asked_in : List (List ℕ) → Option Asked
asked_in [] = None
asked_in (list ∷ []) = None
asked_in (list ∷ upstream ∷ []) = None
asked_in (list ∷ upstream ∷ path ∷ purposes) =
    Some record { list = list; upstream = upstream; path = path; purposes = purposes }

-- the words ask for this
abbrev pub IsAsked : List (String Global) → Asked → Type 0
IsAsked words asked = asked_in (texts_of words) ≡ Some asked

-- there are fewer than three words
abbrev pub IsUsage : List (String Global) → Type 0
IsUsage words = asked_in (texts_of words) ≡ None

-- the words of the code
abbrev pub asked_of : Words → Asked
asked_of words = record {
  list = words.list.now;
  upstream = words.upstream.now;
  path = words.path.now;
  purposes = texts_of words.purposes.now;
}

-- what the end of the loop says of the calls that it made
abbrev pub Serves : FilterStatus → Reading → Option (List PairEntry) → Option (List PairEntry) → Type 0
-- the pairs told that nothing will become ready any more
Serves status.Done from old new = PollEnds from old new (Ok polled.Over)
Serves (status.BadList line fault) from old new = ⊥
Serves status.Usage from old new = ⊥
Serves status.BindFault from old new = BindEnds from old new
Serves status.PollFault from old new = PollEnds from old new (Err fault.Failed)
Serves status.Memory from old new = Stops from old new
Serves status.FileFault from old new = ⊥
Serves status.FileTooLong from old new = ⊥
Serves (status.BadPurpose fault) from old new = ⊥

-- the file of the list is held, short enough, and these are its blobs
abbrev pub IsListOf : Option (List ℕ) → List (List ℕ) → Type 0
IsListOf None blobs = ⊥
IsListOf (Some text) blobs = (length text ≤ longest_list) × (blobs_in text ≡ Ok blobs)

-- the file of the list is held, short enough, and these are its blobs; and the words name these purposes
pub record IsListed (held : Option (List ℕ)) (words : List (List ℕ)) (listed : Listed) : Type 0 where
  pub list : IsListOf held listed.blobs
  pub named : purposes_named words ≡ Ok listed.purposes

-- the file is held, short enough, and this line is the first of it that is refused
abbrev pub IsBadAt : Option (List ℕ) → ℕ → PubFault → Type 0
IsBadAt None line fault = ⊥
IsBadAt (Some text) line fault = (length text ≤ longest_list) × (blobs_in text ≡ Err (line, fault))

-- a call on this path failed and on no other, and that was counted
pub record FailsAt (path : List ℕ) (before now : FilesView) : Type 0 where
  pub failed : Grows before.failed now.failed (path ∷ [])
  pub cause : Rose before.faults now.faults

-- the list at this path is too long, where that is told, and no call failed
pub record IsTooLong (path : List ℕ) (before now : FilesView) : Type 0 where
  pub more : HoldsMore before path longest_list
  pub failed : now.failed ≡ before.failed
  pub faults : now.faults ≡ before.faults

-- so the program may end at its list
abbrev pub IsRefusedBy : FilterStatus → Option (List ℕ) → Type 0
IsRefusedBy status.Done held = ⊥
IsRefusedBy (status.BadList line fault) held = IsBadAt held line fault
IsRefusedBy status.Usage held = ⊥
IsRefusedBy status.BindFault held = ⊥
IsRefusedBy status.PollFault held = ⊥
IsRefusedBy status.Memory held = Unit {0}
IsRefusedBy status.FileFault held = Unit {0}
IsRefusedBy status.FileTooLong held = Unit {0}
IsRefusedBy (status.BadPurpose fault) held = ⊥

-- so it may end before its loop: at the words of its purposes, or else at its list
abbrev pub IsRefused : FilterStatus → Option (List ℕ) → List (List ℕ) → Type 0
IsRefused status held words = IsPurposeEnd status words ⊎ IsRefusedBy status held

-- the program ends so at its list, whatever is held
abbrev pub IsListEnd : FilterStatus → Type 0
IsListEnd status.Done = ⊥
IsListEnd (status.BadList line fault) = Unit {0}
IsListEnd status.Usage = ⊥
IsListEnd status.BindFault = ⊥
IsListEnd status.PollFault = ⊥
IsListEnd status.Memory = Unit {0}
IsListEnd status.FileFault = Unit {0}
IsListEnd status.FileTooLong = Unit {0}
IsListEnd (status.BadPurpose fault) = ⊥

-- it ends so without its loop, whatever is held and named
abbrev pub IsEarlyEnd : FilterStatus → Type 0
IsEarlyEnd status.Done = ⊥
IsEarlyEnd (status.BadList line fault) = Unit {0}
IsEarlyEnd status.Usage = ⊥
IsEarlyEnd status.BindFault = ⊥
IsEarlyEnd status.PollFault = ⊥
IsEarlyEnd status.Memory = Unit {0}
IsEarlyEnd status.FileFault = Unit {0}
IsEarlyEnd status.FileTooLong = Unit {0}
IsEarlyEnd (status.BadPurpose fault) = Unit {0}

-- by what a text was read as
abbrev pub IsReadAs : List ℕ → Result (BTreeSet (Vec ℕ Global)) FilterStatus → Type 0
IsReadAs text (Ok blobs) = blobs_in text ≡ Ok (blobs_of blobs)
IsReadAs text (Err (status.BadList line fault)) = blobs_in text ≡ Err (line, fault)
IsReadAs text (Err status.Memory) = Unit {0}
IsReadAs text (Err other) = ⊥

-- the words and the list were read, and the loop began with what they let be used
pub record Begins (held : List ℕ → Option (List ℕ)) (asked : Asked) (result : FilterStatus) (old new : Option (List PairEntry)) : Type 0 where
  pub listed : Listed
  pub is : IsListed (held asked.list) asked.purposes listed
  pub serves : Serves result (first_reading listed asked.path asked.upstream) old new

-- by how the program ended, where there are words enough and the files tell what they hold: no call was made before the
-- words and the list were read
abbrev pub Runs : (List ℕ → Option (List ℕ)) → Asked → FilterStatus → Option (List PairEntry) → Option (List PairEntry) → Type 0
Runs held asked status.Done old new = Begins held asked status.Done old new
Runs held asked (status.BadList line fault) old new = IsBadAt (held asked.list) line fault × (new ≡ old)
Runs held asked status.Usage old new = ⊥
Runs held asked status.BindFault old new = Begins held asked status.BindFault old new
Runs held asked status.PollFault old new = Begins held asked status.PollFault old new
Runs held asked status.Memory old new = (new ≡ old) ⊎ Begins held asked status.Memory old new
Runs held asked status.FileFault old new = new ≡ old
Runs held asked status.FileTooLong old new = new ≡ old
Runs held asked (status.BadPurpose fault) old new = (purposes_named asked.purposes ≡ Err fault) × (new ≡ old)
