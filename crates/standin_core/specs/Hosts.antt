-- The hosts that the data file tells (ours): docs/PROTOCOL.md, "Messages of child processes".
use Rattle.std.specs.Prelude.{◌≡◌, ℕ, zero, suc, ◌==◌, ◌&&◌, if◌then◌else◌, List, [], ◌∷◌, ◌++◌, length, take, drop, slice_index, All, Option, Some, None}
use Rattle.std.specs.List.{flat_map}
use Rattle.std.specs.Result.{result_ok}
use Rattle.std.specs.Str.{bytes_eq}
use Rattle.hex.specs.Hex.{decode_sized}

-- the tag of a host's key, and its secret
pub record Host : Type 0 where
  pub tag : List ℕ
  pub secret : List ℕ

-- the host of these two
abbrev pub host_with : Option (List ℕ) → Option (List ℕ) → Option Host
host_with (Some tag) (Some secret) = Some record { tag = tag; secret = secret }
host_with (Some tag) None = None
host_with None secret = None

-- the 32 bytes that hexadecimal digits write, in either case
abbrev pub key_bytes : List ℕ → Option (List ℕ)
key_bytes digits = result_ok (decode_sized digits 32)

-- the host of a line: 64 digits of the tag, a space, 64 digits of the secret, LF
unfoldable pub host_at : List ℕ → Option Host
host_at line =
    if (slice_index line 64 == 32) && (slice_index line 129 == 10)
    then host_with (key_bytes (take 64 line)) (key_bytes (take 64 (drop 65 line))) else None

-- one host more
abbrev pub then_hosts : Option Host → Option (List Host) → Option (List Host)
then_hosts (Some host) (Some hosts) = Some (host ∷ hosts)
then_hosts (Some host) None = None
then_hosts None hosts = None

-- the hosts of at most so many lines
unfoldable pub hosts_up_to : ℕ → List ℕ → Option (List Host)
hosts_up_to count [] = Some []
hosts_up_to zero (byte ∷ text) = None
hosts_up_to (suc count) (byte ∷ text) =
    then_hosts (host_at (byte ∷ text)) (hosts_up_to count (drop 130 (byte ∷ text)))

-- the hosts of a text of lines of 130 bytes, or None where one is no line of a host
unfoldable pub hosts_of : List ℕ → Option (List Host)
hosts_of text = hosts_up_to (length text) text

-- the secret of the first host with this tag
abbrev pub secret_for : List ℕ → List Host → Option (List ℕ)
secret_for tag [] = None
secret_for tag (host ∷ hosts) = if bytes_eq host.tag tag then Some host.secret else secret_for tag hosts

-- ---- how they are kept

-- a host's tag and secret have 32 bytes each
pub record IsSized (host : Host) : Type 0 where
  pub tag : length host.tag ≡ 32
  pub secret : length host.secret ≡ 32

-- the tag and then the secret
abbrev pub pair_of : Host → List ℕ
pair_of host = host.tag ++ host.secret

-- the bytes are those of the hosts, one after another
pub record ArePairs (pairs : List ℕ) (hosts : List Host) : Type 0 where
  pub whole : pairs ≡ flat_map pair_of hosts
  pub sized : All IsSized hosts
