-- What the steps of reading the data file say (ours).
use Rattle.std.specs.Prelude.{◌≡◌, ℕ, Bool, true, false, List, [], ◌∷◌, ◌++◌, Option, Some, None, option_map, Result, Ok, Err, IfSome}
use Rattle.secret_buf.specs.Buffers.{Buffer}
use Rattle.standin_core.specs.Hosts.{Host, ArePairs, host_at, hosts_of, secret_for}
use Rattle.standin_core.specs.Transcript.{hosts_at}
use Rattle.standin_core.specs.declared.fault.DataFault.{DataFault}
use Rattle.standin_core.specs.declared.fault.DataFault.TheVariants as fault
use Rattle.standin_core.specs.declared.status.HelperStatus.TheVariants.{FileTooLong, BadFile}
use Rattle.standin_core.specs.declared.status.HelperStatus.{HelperStatus}
use Rattle.world_ports.specs.Causes.{Rose}
use Rattle.world_ports.specs.Files.{FilesView}
use Rattle.world_ports.specs.Journal.{Grows}

-- a line is that of the host with this tag and this secret
pub record HoldsPair (line tag secret : List ℕ) : Type 0 where
  pub host : Host
  pub read : host_at line ≡ Some host
  pub tag_is : host.tag ≡ tag
  pub secret_is : host.secret ≡ secret

-- what a reading of a line says
abbrev pub ReadsLine : Bool → List ℕ → List ℕ → List ℕ → Type 0
ReadsLine true line tag secret = HoldsPair line tag secret
ReadsLine false line tag secret = host_at line ≡ None

-- the pairs are those of the hosts that the text has
pub record HoldsHosts (text pairs : List ℕ) : Type 0 where
  pub hosts : List Host
  pub read : hosts_of text ≡ Some hosts
  pub are : ArePairs pairs hosts

-- the pairs are those of the lines before the rest of a text
pub record IsReading (text rest pairs : List ℕ) : Type 0 where
  pub before : List Host
  pub are : ArePairs pairs before
  pub goes : hosts_of text ≡ option_map (λ later. before ++ later) (hosts_of rest)

-- the first host of the tag among those of the pairs is the first of them in the rest
pub record IsLooking (hosts : List Host) (tag rest : List ℕ) : Type 0 where
  pub left : List Host
  pub are : ArePairs rest left
  pub same : secret_for tag hosts ≡ secret_for tag left

-- what a reading of a text says
abbrev pub ReadsText : Result Buffer DataFault → List ℕ → Type 0
ReadsText (Ok pairs) text = HoldsHosts text pairs.live
ReadsText (Err fault.Bad) text = hosts_of text ≡ None
ReadsText (Err fault.Failed) text = ⊥
ReadsText (Err fault.TooLong) text = ⊥
ReadsText (Err fault.Memory) text = Unit {0}

-- ---- the file

-- files that hold this at each path, where that is told, have these hosts at the path
pub record HoldsPairs (path : Option (List ℕ)) (old : FilesView) (pairs : List ℕ) : Type 0 where
  pub held : List ℕ → Option (List ℕ)
  pub told : IfSome old.held (λ at. at ≡ held)
  pub hosts : List Host
  pub read : hosts_at path held ≡ Ok hosts
  pub are : ArePairs pairs hosts

-- they have none, for this reason
pub record HoldsNone (path : Option (List ℕ)) (old : FilesView) (why : HelperStatus) : Type 0 where
  pub held : List ℕ → Option (List ℕ)
  pub told : IfSome old.held (λ at. at ≡ held)
  pub read : hosts_at path held ≡ Err why

-- the file could not be read
pub record FailsAt (path : Option (List ℕ)) (old new : FilesView) : Type 0 where
  pub name : List ℕ
  pub named : path ≡ Some name
  pub failed : Grows old.failed new.failed (name ∷ [])
  pub cause : Rose old.faults new.faults

-- what a reading of the data file says
abbrev pub ReadsData : Result Buffer DataFault → Option (List ℕ) → FilesView → FilesView → Type 0
ReadsData (Ok pairs) path old new = HoldsPairs path old pairs.live × (new.faults ≡ old.faults)
ReadsData (Err fault.Bad) path old new = HoldsNone path old BadFile × (new.faults ≡ old.faults)
ReadsData (Err fault.TooLong) path old new = HoldsNone path old FileTooLong × (new.faults ≡ old.faults)
ReadsData (Err fault.Failed) path old new = FailsAt path old new
ReadsData (Err fault.Memory) path old new = Unit {0}
