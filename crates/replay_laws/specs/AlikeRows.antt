-- Journals that are written out, for the law of src/secrets.rt (ours).
use Rattle.std.specs.Prelude.{ℕ, List, [], ◌∷◌, length, Ok}
use Rattle.world_ports.specs.declared.Door.TheVariants.{Clients}
use Rattle.world_ports.specs.declared.answers.Accepted.TheVariants as accepted
use Rattle.world_ports.specs.declared.answers.Got.TheVariants as got
use Rattle.world_ports.specs.declared.entry.Entry.{Entry}
use Rattle.world_ports.specs.declared.entry.Entry.TheVariants as entry

-- each byte twice: another name of a passphrase
abbrev pub doubled : List ℕ → List ℕ
doubled [] = []
doubled (byte ∷ bytes) = byte ∷ byte ∷ doubled bytes

-- a client connects and sends these bytes
abbrev pub sending : List ℕ → List Entry
sending bytes =
    entry.Accept Clients (Ok (accepted.Port 1)) ∷ entry.Read 1 16384 bytes (Ok (got.Bytes (length bytes))) ∷ []

-- a lock with "a"
abbrev pub lock_a : List ℕ
lock_a = 0 ∷ 0 ∷ 0 ∷ 6 ∷ 22 ∷ 0 ∷ 0 ∷ 0 ∷ 1 ∷ 97 ∷ []

-- a lock with "aa"
abbrev pub lock_aa : List ℕ
lock_aa = 0 ∷ 0 ∷ 0 ∷ 7 ∷ 22 ∷ 0 ∷ 0 ∷ 0 ∷ 2 ∷ 97 ∷ 97 ∷ []
