-- What is told of what is seen (ours: docs/PROTOCOL.md, "A log"). The file is read from its end.
use Rattle.std.specs.Prelude.{ℕ, List, [], ◌∷◌, ◌++◌, ◌==◌, Bool, Option, None, Some, if◌then◌else◌}
use Rattle.std.specs.Option.{option_map, option_and_then}
use Rattle.std.specs.List.{find, flat_map}
use Rattle.std.specs.Str.{bytes_eq}
use Rattle.lists.specs.Firsts.{remove_first}
use Rattle.lists.specs.Keyed.{change_by, find_by, remove_by}
use Rattle.log_book.specs.declared.told.Asked.{Asked}
use Rattle.log_book.specs.declared.told.Asked.TheVariants as asked
use Rattle.log_book.specs.declared.told.Course.{Course}
use Rattle.log_book.specs.declared.told.Fate.{Fate}
use Rattle.log_book.specs.declared.told.Fate.TheVariants.{Signed, Refused, HelperRefused, HelperLost, Left, Open}
use Rattle.log_book.specs.declared.told.Told.{Told}
use Rattle.log_book.specs.declared.sight.Sight.{Sight}
use Rattle.log_book.specs.declared.sight.What.{What}
use Rattle.log_book.specs.declared.sight.What.TheVariants as what
use Rattle.log_book.specs.declared.list.NamedKey.{NamedKey}
use Rattle.log_book.specs.declared.peer.Ended.{Ended}
use Rattle.log_book.specs.Peers.{Peer, answered, ended_by, looked, new_peer, put_at, raised_at, sent_more}

-- the clients whose ports are open and that were seen, and the keys that were added
pub record Book : Type 0 where
  pub peers : List Peer
  pub keys : List NamedKey

-- nothing was seen yet
abbrev pub new_book : Book
new_book = record { peers = []; keys = [] }

-- what is left, and what was told, in order
pub record Seen : Type 0 where
  pub book : Book
  pub told : List Told

-- nothing is told
abbrev pub untold : Book → Seen
untold book = record { book = book; told = [] }

-- ---- keys

-- the key has this blob
abbrev pub is_key : List ℕ → NamedKey → Bool
is_key blob key = bytes_eq key.blob blob

-- the comment of a key
abbrev pub comment_in : NamedKey → List ℕ
comment_in key = key.comment

-- the comment of a key, where it was added
unfoldable pub comment_of : List ℕ → List NamedKey → Option (List ℕ)
comment_of blob keys = option_map comment_in (find (is_key blob) keys)

-- the keys with one that is added: its last comment counts
unfoldable pub named : List ℕ → List ℕ → List NamedKey → List NamedKey
named blob comment keys =
    remove_first (is_key blob) keys ++ record { blob = blob; comment = comment } ∷ []

-- the request that SUCCESS answers added a key
abbrev pub named_by : Asked → ℕ → List NamedKey → List NamedKey
named_by asked.Nothing reply keys = keys
named_by (asked.Signing blob message) reply keys = keys
named_by (asked.Adding blob comment) reply keys = if reply == 6 then named blob comment keys else keys
named_by asked.Other reply keys = keys

-- ---- requests and fates

-- a request that was refused: put to the helper, when so many were lost, or never
abbrev pub refused_by : Option ℕ → ℕ → Fate
refused_by None faults = Refused
refused_by (Some before) faults = if before == faults then HelperRefused else HelperLost

-- the fate of a signing request by the number of its reply: SIGN_RESPONSE is 14
abbrev pub fate_by : ℕ → Course → ℕ → Fate
fate_by reply course faults = if reply == 14 then Signed else refused_by course.put faults

-- a signing request is told, another one isn't
abbrev pub told_by : ℕ → ℕ → Asked → Course → Fate → List NamedKey → List Told
told_by wall port asked.Nothing course fate keys = []
told_by wall port (asked.Signing blob message) course fate keys = record {
  wall = wall;
  port = port;
  blob = blob;
  comment = comment_of blob keys;
  message = message;
  course = course;
  fate = fate;
} ∷ []
told_by wall port (asked.Adding blob comment) course fate keys = []
told_by wall port asked.Other course fate keys = []

-- ---- clients

-- the port of a client
abbrev pub port_of : Peer → ℕ
port_of peer = peer.port

-- the client at a port
abbrev pub find_peer : ℕ → List Peer → Option Peer
find_peer port peers = find_by port_of port peers

-- the clients, that at the port changed by f
abbrev pub change_peer : ℕ → (Peer → Peer) → List Peer → List Peer
change_peer port f peers = change_by port_of port f peers

-- the client at a port is changed by f, a new one where none is there
abbrev pub sends_by : (Peer → Peer) → ℕ → Option Peer → List Peer → List Peer
sends_by f port None peers = peers ++ f (new_peer port) ∷ []
sends_by f port (Some peer) peers = change_peer port f peers

-- a client sends; one that wasn't seen before is new
abbrev pub sends : ℕ → ℕ → List ℕ → List Peer → List Peer
sends wall port piece peers =
    sends_by (λ peer. looked wall (sent_more piece peer)) port (find_peer port peers) peers

-- the request that a reply ended is told, where it was to sign; a key that was added has its comment from there on
abbrev pub concludes : ℕ → ℕ → ℕ → Option Ended → Book → Seen
concludes wall faults port None book = untold book
concludes wall faults port (Some ended) book = record {
  book = record book { keys = named_by ended.asked ended.reply book.keys };
  told = told_by wall port ended.asked ended.course (fate_by ended.reply ended.course faults) book.keys;
}

-- the request that bytes end which a client is given
abbrev pub ends_at : List ℕ → Option Peer → Option Ended
ends_at bytes found = option_and_then (ended_by bytes) found

-- a client is given bytes
abbrev pub gives : ℕ → ℕ → ℕ → List ℕ → Book → Seen
gives wall faults port bytes book = concludes wall faults port
    (ends_at bytes (find_peer port book.peers))
    record book { peers = change_peer port (answered wall bytes) book.peers }

-- the request for whose answer a client waits, where its port is closed
abbrev pub told_leaving : ℕ → List NamedKey → Option Peer → List Told
told_leaving wall keys None = []
told_leaving wall keys (Some peer) = told_by wall peer.port peer.asked peer.course Left keys

-- a port was closed
abbrev pub leaves : ℕ → ℕ → Book → Seen
leaves wall port book = record {
  book = record book { peers = remove_by port_of port book.peers };
  told = told_leaving wall book.keys (find_peer port book.peers);
}

-- one thing is seen
abbrev pub see_what : ℕ → ℕ → What → Book → Seen
see_what wall faults (what.Sent port piece) book =
    untold record book { peers = sends wall port piece book.peers }
see_what wall faults (what.Given port bytes) book =
    gives wall faults port bytes book
see_what wall faults (what.Raised port) book =
    untold record book { peers = change_peer port raised_at book.peers }
see_what wall faults (what.Put port) book =
    untold record book { peers = change_peer port (put_at faults) book.peers }
see_what wall faults (what.Closed port) book = leaves wall port book

-- one thing is seen, at its second
unfoldable pub see : Sight → Book → Seen
see sight book = see_what sight.wall sight.faults sight.what book

-- ---- a whole run

-- one thing after another is seen
abbrev pub then_seen : List Told → Seen → Seen
then_seen told later = record { book = later.book; told = told ++ later.told }

-- what all of these bring, in their order
unfoldable pub see_all : List Sight → Book → Seen
see_all [] book = untold book
see_all (sight ∷ sights) book = then_seen (see sight book).told (see_all sights (see sight book).book)

-- the request that a client waits for in the end has no fate
abbrev pub open_of : List NamedKey → Peer → List Told
open_of keys peer = told_by peer.course.since peer.port peer.asked peer.course Open keys

-- those of all clients that are left
unfoldable pub open_in : Book → List Told
open_in book = flat_map (open_of book.keys) book.peers

-- all signing requests of a run of which this was seen: those with a fate in the order of their fates, and behind them
-- those without
abbrev pub told_of : List Sight → List Told
told_of sights = (see_all sights new_book).told ++ open_in (see_all sights new_book).book
