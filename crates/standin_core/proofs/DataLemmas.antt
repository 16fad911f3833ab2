-- Lemmas on specs/Reading.antt: the data file.
use Rattle.std.proofs.Common.{◌≡◌, ℕ, suc, ◌<◌, ◌≤◌, List, [], length, replicate, Option, Some, None, IfSome, Result, Ok, Err, refl, ap, ◌∙◌, arith}
use Rattle.std.specs.Prelude.{IsSomeAnd, ok_or}
use Rattle.std.proofs.lemmas.Bool.Decides.{nat_tests}
use Rattle.std.proofs.lemmas.List.{length-replicate}
use Rattle.secret_buf.specs.Buffers.{Buffer}
use Rattle.standin_core.specs.Hosts.{Host, hosts_of}
use Rattle.standin_core.specs.Reading.{HoldsHosts, HoldsNone, HoldsPairs, ReadsData, ReadsText}
use Rattle.standin_core.specs.Transcript.{hosts_at, hosts_or_fault, text_held}
use Rattle.standin_core.specs.declared.fault.DataFault.{DataFault}
use Rattle.standin_core.specs.declared.fault.DataFault.TheVariants as fault
use Rattle.standin_core.specs.declared.status.HelperStatus.TheVariants.{FileTooLong, BadFile}
use Rattle.standin_core.proofs.HostLemmas.{ArePairs-nil}
use Rattle.world_ports.specs.Files.{FilesView, Holds, HoldsMore}

-- what files hold, where that is told, and else what this function says
agreed : (told : Option (List ℕ → Option (List ℕ))) (P : (List ℕ → Option (List ℕ)) → Type 0)
    → IfSome told P → (default : List ℕ → Option (List ℕ)) → P default
    → (held : List ℕ → Option (List ℕ)) × IfSome told (λ at. at ≡ held) × P held
agreed None P holds default other = (default, tt, other)
agreed (Some at) P holds default other = (at, refl, holds)

anything : (told : Option (List ℕ → Option (List ℕ))) → IfSome told (λ held. Unit {0})
anything None = tt
anything (Some at) = tt

-- what files hold, where that is told
pub files_agree : (told : Option (List ℕ → Option (List ℕ)))
    → (held : List ℕ → Option (List ℕ)) × IfSome told (λ at. at ≡ held)
files_agree told =
    let at = agreed told (λ held. Unit {0}) (anything told) (λ name. None) tt in (at.0, at.1)

-- a text of more bytes
longer : (most : ℕ) → (text : List ℕ) × (most < length text)
longer most = (replicate (suc most) 0, omega (arith, length-replicate {A = ℕ} (suc most) 0))

-- a text that isn't too long
text_held-within : (text : List ℕ) → length text ≤ 1048576 → text_held (Some text) ≡ Ok text
text_held-within text within = grind (arith, nat_tests)

text_held-long : (held : Option (List ℕ)) → IsSomeAnd held (λ text. 1048576 < length text)
    → text_held held ≡ Err FileTooLong
text_held-long None long = absurd long
text_held-long (Some text) long = grind (arith, nat_tests, long)

-- no file is named
pub holds_no_file : (path : Option (List ℕ)) (old : FilesView) (pairs : List ℕ) → path ≡ None
    → pairs ≡ [] → HoldsPairs path old pairs
unfolding hosts_at
holds_no_file path old pairs none empty =
    let at = agreed old.held (λ held. Unit {0}) (anything old.held) (λ name. None) tt in
    record {
      held = at.0;
      told = at.1;
      hosts = [];
      read = ap (λ (p : Option (List ℕ)). hosts_at p at.0) none;
      are = rw empty ArePairs-nil;
    }

-- the file holds this text
file_text : (path : Option (List ℕ)) (name text : List ℕ) (held : List ℕ → Option (List ℕ))
    → path ≡ Some name → held name ≡ Some text → length text ≤ 1048576
    → hosts_at path held ≡ ok_or (hosts_of text) BadFile
unfolding hosts_at
file_text path name text held named holds within =
    ap (λ (p : Option (List ℕ)). hosts_at p held) named ∙ ap (λ (h : Option (List ℕ)). hosts_or_fault (text_held h)) holds ∙ ap hosts_or_fault (text_held-within text within)

pub holds_file : (path : Option (List ℕ)) (name text pairs : List ℕ) (old : FilesView)
    → path ≡ Some name → Holds old name text → length text ≤ 1048576
    → HoldsHosts text pairs → HoldsPairs path old pairs
holds_file path name text pairs old named holds within hosts =
    let at = agreed old.held (λ held. held name ≡ Some text) holds (λ n. Some text) refl in
    record {
      held = at.0;
      told = at.1;
      hosts = hosts.hosts;
      read = file_text path name text at.0 named at.2 within ∙ ap (λ (h : Option (List Host)). ok_or h BadFile) hosts.read;
      are = hosts.are;
    }

pub holds_bad : (path : Option (List ℕ)) (name text : List ℕ) (old : FilesView) → path ≡ Some name
    → Holds old name text → length text ≤ 1048576
    → hosts_of text ≡ None → HoldsNone path old BadFile
holds_bad path name text old named holds within none =
    let at = agreed old.held (λ held. held name ≡ Some text) holds (λ n. Some text) refl in
    record {
      held = at.0;
      told = at.1;
      read = file_text path name text at.0 named at.2 within ∙ ap (λ (h : Option (List Host)). ok_or h BadFile) none;
    }

-- a file that is too long gives no hosts
no_hosts_of_long : (path : Option (List ℕ)) (name : List ℕ) (held : List ℕ → Option (List ℕ))
    → path ≡ Some name → IsSomeAnd (held name) (λ text. 1048576 < length text)
    → hosts_at path held ≡ Err FileTooLong
unfolding hosts_at
no_hosts_of_long path name held named more =
    ap (λ (p : Option (List ℕ)). hosts_at p held) named ∙ ap hosts_or_fault (text_held-long (held name) more)

pub holds_long : (path : Option (List ℕ)) (name : List ℕ) (old : FilesView) → path ≡ Some name
    → HoldsMore old name 1048576 → HoldsNone path old FileTooLong
holds_long path name old named more =
    let long = longer 1048576 in
    let at = agreed old.held (λ held. IsSomeAnd (held name) (λ text. 1048576 < length text)) more (λ n. Some long.0) long.1 in
    record {
      held = at.0;
      told = at.1;
      read = no_hosts_of_long path name at.0 named at.2;
    }

-- what a reading of the text says of the file
pub reads_by_text : (result : Result Buffer DataFault) (path : Option (List ℕ)) (name text : List ℕ) (old new : FilesView)
    → path ≡ Some name → Holds old name text
    → length text ≤ 1048576 → new.faults ≡ old.faults → ReadsText result text → ReadsData result path old new
reads_by_text (Ok pairs) path name text old new named holds within same read =
    (holds_file path name text pairs.live old named holds within read, same)
reads_by_text (Err fault.Bad) path name text old new named holds within same read =
    (holds_bad path name text old named holds within read, same)
reads_by_text (Err fault.Failed) path name text old new named holds within same read = absurd read
reads_by_text (Err fault.TooLong) path name text old new named holds within same read = absurd read
reads_by_text (Err fault.Memory) path name text old new named holds within same read = tt
