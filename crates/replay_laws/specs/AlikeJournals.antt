-- Journals of a world that differ in secrets alone: in the contents of private fields of added keys, and in which
-- passphrases they have (ours). Read from the end.
use Rattle.std.specs.Prelude.{◌≡◌, ◌≢◌, ◌⊎◌, ℕ, false, List, [], ◌∷◌, ◌++◌, Option, Some, None, Result, Ok, Err}
use Rattle.world_ports.specs.declared.Door.{Door}
use Rattle.world_ports.specs.declared.Door.TheVariants.{Clients, Children}
use Rattle.world_ports.specs.declared.answers.Got.{Got}
use Rattle.world_ports.specs.declared.answers.Got.TheVariants as got
use Rattle.world_ports.specs.declared.answers.WorldFault.{WorldFault}
use Rattle.world_ports.specs.declared.entry.Entry.{Entry}
use Rattle.world_ports.specs.declared.entry.Entry.TheVariants as entry
use Rattle.wire_text.specs.Bounds.{longest_body}
use Rattle.wire_text.specs.Frames.{Split, front, split}
use Rattle.agent_msg.specs.Reading.{request_of}
use Rattle.agent_msg.specs.Requests.{IsText, Lock, Unlock}
use Rattle.record_world.specs.Frames.{rest_bytes}
use Rattle.record_world.specs.Recording.{Port, Recording, after, find_port, first_recording}
use Rattle.agent_secrecy.specs.Alike.{AreAlikeAdditions}

-- ---- bodies

-- the body is no lock and no unlock
pub record HasNoPassphrase (body : List ℕ) : Type 0 where
  pub lock : (passphrase : List ℕ) → request_of body ≢ Ok (Lock passphrase)
  pub unlock : (passphrase : List ℕ) → request_of body ≢ Ok (Unlock passphrase)

-- both are the same body, without a passphrase
pub record AreOneBody (one other : List ℕ) : Type 0 where
  pub same : one ≡ other
  pub bare : HasNoPassphrase one

-- both are locks or unlocks, with a passphrase and with its other name
pub record AreRelocked (rename : List ℕ → List ℕ) (one other : List ℕ) : Type 0 where
  pub number : ℕ
  pub locks : (number ≡ 22) ⊎ (number ≡ 23)
  pub passphrase : List ℕ
  pub left : IsText number one passphrase
  pub right : IsText number other (rename passphrase)

-- two bodies: equal ones without a passphrase, additions that differ in the contents of private fields alone, or locks
abbrev pub AreAlikeBodies : (List ℕ → List ℕ) → List ℕ → List ℕ → Type 0
AreAlikeBodies rename one other = AreOneBody one other ⊎ (AreAlikeAdditions one other ⊎ AreRelocked rename one other)

-- as many bodies in both lists, and each is alike the one at its place
abbrev pub AreAllAlike : (List ℕ → List ℕ) → List (List ℕ) → List (List ℕ) → Type 0
AreAllAlike rename [] [] = Unit {0}
AreAllAlike rename [] (other ∷ others) = ⊥
AreAllAlike rename (one ∷ ones) [] = ⊥
AreAllAlike rename (one ∷ ones) (other ∷ others) = AreAlikeBodies rename one other × AreAllAlike rename ones others

-- ---- what clients sent

-- as many bodies, each alike, and both rests are unfinished, or begin with the same bad length
pub record AreAlikeSplits (rename : List ℕ → List ℕ) (one other : Split) : Type 0 where
  pub bodies : AreAllAlike rename one.bodies other.bodies
  pub fronts : front longest_body one.rest ≡ front longest_body other.rest
  pub heads : rest_bytes (front longest_body one.rest) one.rest ≡ rest_bytes (front longest_body other.rest) other.rest

-- what comes to a port behind what isn't recorded yet of it: of a client alike, unless its bytes came to a bad length, and
-- of a child process the same
abbrev pub ComesAlike : (List ℕ → List ℕ) → Door → (port other_port : Port) → (piece other_piece : List ℕ) → Type 0
ComesAlike rename Clients port other_port piece other_piece = port.is_bad ≡ false
    → AreAlikeSplits rename (split longest_body (port.unrecorded ++ piece)) (split longest_body (other_port.unrecorded ++ other_piece))
ComesAlike rename Children port other_port piece other_piece = piece ≡ other_piece

-- ---- calls

-- the port that a call read, and what it read there
abbrev pub read_by : ℕ → List ℕ → Result Got WorldFault → Option (ℕ × List ℕ)
read_by port bytes (Ok (got.Bytes count)) = Some (port, bytes)
read_by port bytes (Ok got.End) = None
read_by port bytes (Ok got.NotNow) = None
read_by port bytes (Err fault) = None

-- the port that a call read bytes from, and these
abbrev pub piece_of : Entry → Option (ℕ × List ℕ)
piece_of (entry.Bind door path answer) = None
piece_of (entry.Poll wait items answer) = None
piece_of (entry.Accept door answer) = None
piece_of (entry.Read port room bytes answer) = read_by port bytes answer
piece_of (entry.Write port offered answer) = None
piece_of (entry.Close port answer) = None
piece_of (entry.Start job answer) = None
piece_of (entry.Now answer) = None

-- both calls read bytes of one port, alike behind what two recorders keep of it
pub record AreAlikeReads (rename : List ℕ → List ℕ) (kept other_kept : Recording) (one other : ℕ × List ℕ) : Type 0 where
  pub port : one.0 ≡ other.0
  pub bytes : (found other_found : Port) → find_port one.0 kept.ports ≡ Some found
      → find_port other.0 other_kept.ports ≡ Some other_found
      → ComesAlike rename found.door found other_found one.1 other.1

-- both calls are the same, but for the bytes that they read
abbrev pub AreAlikeBy : (List ℕ → List ℕ) → Recording → Recording → Entry → Entry → Option (ℕ × List ℕ) → Option (ℕ × List ℕ) → Type 0
AreAlikeBy rename kept other_kept one other None None = one ≡ other
AreAlikeBy rename kept other_kept one other None (Some piece) = ⊥
AreAlikeBy rename kept other_kept one other (Some piece) None = ⊥
AreAlikeBy rename kept other_kept one other (Some piece) (Some other_piece) =
    AreAlikeReads rename kept other_kept piece other_piece

-- the calls are alike one by one, from what is kept in both on
abbrev pub AreAlikeFrom : (List ℕ → List ℕ) → Recording → Recording → List Entry → List Entry → Type 0
AreAlikeFrom rename kept other_kept [] [] = Unit {0}
AreAlikeFrom rename kept other_kept [] (other ∷ others) = ⊥
AreAlikeFrom rename kept other_kept (one ∷ ones) [] = ⊥
AreAlikeFrom rename kept other_kept (one ∷ ones) (other ∷ others) =
    AreAlikeBy rename kept other_kept one other (piece_of one) (piece_of other)
    × AreAlikeFrom rename (after one kept) (after other other_kept) ones others

-- two journals that differ in private fields and in the names of passphrases alone
abbrev pub AreAlikeJournals : (List ℕ → List ℕ) → List Entry → List Entry → Type 0
AreAlikeJournals rename one other = AreAlikeFrom rename first_recording first_recording one other
