-- Files as programs see them (ours): what each path holds, at which paths calls failed, how often.
use Rattle.std.specs.Prelude.{◌≡◌, ◌<◌, ◌≤◌, ℕ, List, [], ◌∷◌, Option, Some, None, IfSome, IsSomeAnd, length, if◌then◌else◌}
use Rattle.std.specs.Str.{bytes_eq}
use Rattle.world_ports.specs.Causes.{Rose}
use Rattle.world_ports.specs.Journal.{Grows}
use Rattle.world_ports.specs.declared.files.FileFault.{FileFault}
use Rattle.world_ports.specs.declared.files.FileFault.TheVariants.{Failed, TooLong, Memory}

-- what is known of files at one time. `None` claims nothing
pub record FilesView : Type 0 where
  pub held : Option (List ℕ → Option (List ℕ))
  pub failed : Option (List (List ℕ))
  pub faults : ℕ

-- the path holds these bytes, where that is told
abbrev pub Holds : FilesView → List ℕ → List ℕ → Type 0
Holds files path bytes = IfSome files.held (λ at. at path ≡ Some bytes)

-- the path holds more than so many bytes, where that is told
abbrev pub HoldsMore : FilesView → List ℕ → ℕ → Type 0
HoldsMore files path most = IfSome files.held (λ at. IsSomeAnd (at path) (λ bytes. most < length bytes))

-- what a refusal says: a file is too long where it holds more
abbrev pub RefusesFile : FileFault → FilesView → List ℕ → ℕ → Type 0
RefusesFile TooLong files path most = HoldsMore files path most
RefusesFile Failed files path most = Unit {0}
RefusesFile Memory files path most = Unit {0}

-- a failed call's path was told, and no other
abbrev pub TellsFailed : FileFault → List ℕ → FilesView → FilesView → Type 0
TellsFailed Failed path before now = Grows before.failed now.failed (path ∷ [])
TellsFailed TooLong path before now = now.failed ≡ before.failed
TellsFailed Memory path before now = now.failed ≡ before.failed

-- the call failed, and the object counted that
abbrev pub CountsFile : FileFault → ℕ → ℕ → Type 0
CountsFile Failed before now = Rose before now
CountsFile TooLong before now = now ≡ before
CountsFile Memory before now = before ≤ now

-- each path holds what it held, and no failed call is forgotten
pub record OnlyReadsFiles (before now : FilesView) : Type 0 where
  pub held : now.held ≡ before.held
  pub later : before.faults ≤ now.faults

-- what the first file with a path holds, of files by path and bytes
abbrev pub held_at : List (List ℕ × List ℕ) → List ℕ → Option (List ℕ)
held_at [] path = None
held_at (file ∷ files) path = if bytes_eq file.0 path then Some file.1 else held_at files path
