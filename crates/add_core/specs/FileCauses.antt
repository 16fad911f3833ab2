-- Which file stopped the tool (ours): a call on its path failed, and the fault's place is the
-- path's.
use Rattle.std.specs.Prelude.{◌≡◌, ◌⊎◌, ◌≤◌, ℕ, List, [], ◌∷◌, ◌++◌, length, Some, Result, Err, OnOk}
use Rattle.world_ports.specs.Causes.{Rose}
use Rattle.world_ports.specs.Files.{FilesView}
use Rattle.world_ports.specs.Journal.{Grows}
use Rattle.add_words.specs.Words.{PlainWords, words_of}
use Rattle.add_core.specs.declared.fault.AddFault.TheVariants.{File}
use Rattle.add_core.specs.declared.fault.Stop.{Stop}
use Rattle.add_core.specs.declared.fault.Stop.TheVariants.{Fault}
use Rattle.add_core.specs.Sendings.{place_of}

-- a call on this path failed and no other did, and that was counted
pub record FailsAt (path : List ℕ) (before now : FilesView) : Type 0 where
  pub failed : Grows before.failed now.failed (path ∷ [])
  pub cause : Rose before.faults now.faults

-- the path that stands at this place among these failed
pub record FailsAmong (paths : List (List ℕ)) (place : ℕ) (before now : FilesView) : Type 0 where
  pub earlier : List (List ℕ)
  pub path : List ℕ
  pub later : List (List ℕ)
  pub stands : paths ≡ earlier ++ path ∷ later
  pub place_is : place ≡ place_of (length earlier)
  pub fails : FailsAt path before now

-- the path at this place among the words' files of keys failed, or among those of known hosts
abbrev pub FailsIn : PlainWords → ℕ → FilesView → FilesView → Type 0
FailsIn words place before now =
    FailsAmong words.files place before now ⊎ FailsAmong words.hosts place before now

-- the same of words as they are typed
pub record FailsByWords (words : List (List ℕ)) (place : ℕ) (before now : FilesView) : Type 0 where
  pub read : PlainWords
  pub of_words : words_of words ≡ Some read
  pub fails : FailsIn read place before now

-- ---- what steps say

-- a file at one place: its call failed, or none did, and no fault is forgotten
pub record HasCauseAt {T : Type 0} (path : List ℕ) (place : ℕ) (result : Result T Stop)
    (before now : FilesView) : Type 0 where
  pub later : before.faults ≤ now.faults
  pub kept : OnOk result (now.failed ≡ before.failed)
  pub fault : (at : ℕ) → result ≡ Err (Fault (File at))
      → (at ≡ place_of place) × FailsAt path before now

-- the same of files one after another
pub record HasFileCause {T : Type 0} (paths : List (List ℕ)) (result : Result T Stop)
    (before now : FilesView) : Type 0 where
  pub later : before.faults ≤ now.faults
  pub kept : OnOk result (now.failed ≡ before.failed)
  pub fault : (place : ℕ) → result ≡ Err (Fault (File place)) → FailsAmong paths place before now
