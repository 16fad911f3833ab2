-- Literal journals and their records (ours).
use Rattle.std.specs.Prelude.{ℕ, List, [], ◌∷◌, ◌++◌, replicate, codes, take, drop, None, Some, Ok, Err}
use Rattle.world_ports.specs.declared.Door.TheVariants.{Clients, Children}
use Rattle.world_ports.specs.declared.answers.Accepted.TheVariants as accepted
use Rattle.world_ports.specs.declared.answers.Got.TheVariants as got
use Rattle.world_ports.specs.declared.answers.Polled.TheVariants as polled
use Rattle.world_ports.specs.declared.answers.WorldFault.TheVariants.{Failed}
use Rattle.world_ports.specs.declared.answers.Wrote.TheVariants as wrote
use Rattle.world_ports.specs.declared.entry.Entry.{Entry}
use Rattle.world_ports.specs.declared.entry.Entry.TheVariants as entry
use Rattle.world_ports.specs.declared.JobKind.TheVariants.{Helper}
use Rattle.record_world.specs.Recording.{record_of}

-- the clocks are read
abbrev pub now_at : ℕ → ℕ → Entry
now_at mono wall = entry.Now (Ok (record { mono = mono; wall = wall }))

-- bytes are read from port 1, and the moment behind it
abbrev pub read_of : ℕ → List ℕ → List Entry
read_of count bytes = entry.Read 1 16384 bytes (Ok (got.Bytes count)) ∷ now_at 5 9 ∷ []

-- both listeners are bound, a client joins, what it sends, and five bytes of its reply are taken
abbrev pub journal : List Entry → List Entry
journal reads =
    entry.Bind Clients (codes "s") (Ok tt) ∷ entry.Bind Children (codes "s.children") (Ok tt) ∷ now_at 0 0
    ∷ entry.Poll None [] (Ok polled.Some) ∷ entry.Accept Clients (Ok (accepted.Port 1)) ∷ now_at 5 9
    ∷ (reads ++ entry.Write 1 (0 ∷ 0 ∷ 0 ∷ 1 ∷ 6 ∷ []) (Ok (wrote.Took 5)) ∷ now_at 5 9 ∷ [])

-- SSH_AGENTC_LOCK with two bytes, and an addition
abbrev pub lock : List ℕ
lock = 0 ∷ 0 ∷ 0 ∷ 7 ∷ 22 ∷ 0 ∷ 0 ∷ 0 ∷ 2 ∷ 112 ∷ 119 ∷ []

-- a key of tag 17 with this byte as its secret, and a comment
abbrev pub added : ℕ → List ℕ
added secret = 0 ∷ 0 ∷ 0 ∷ 24 ∷ (codes "keyed-sha256@example.com" ++ 0 ∷ 0 ∷ 0 ∷ 32 ∷ (replicate 32 17
    ++ 0 ∷ 0 ∷ 0 ∷ 32 ∷ (replicate 32 secret ++ 0 ∷ 0 ∷ 0 ∷ 3 ∷ codes "one")))

-- SSH_AGENTC_ADD_IDENTITY of that key
abbrev pub add : List ℕ
add = 0 ∷ 0 ∷ 0 ∷ 108 ∷ 17 ∷ added 33

-- the record of a lock, and that of an addition in two pieces
abbrev pub lock_record : List ℕ
lock_record = record_of (journal (read_of 11 lock))

-- the record of that addition in two pieces
abbrev pub add_record : List ℕ
add_record = record_of (journal (read_of 10 (take 10 add) ++ read_of 102 (drop 10 add)))

-- their texts
abbrev pub lock_text : List ℕ
lock_text = codes "schedule 2\nat 0 0\nat 5 9\njoin client\nat 5 9\nhold 1\nhear 1 00000006160000000131\nat 5 9\ntake 1 5\n"

-- its text: the secret's bytes are zeros
abbrev pub add_text : List ℕ
add_text = codes "schedule 2\nat 0 0\nat 5 9\njoin client\nat 5 9\nat 5 9\nhold 1\nhear 1 0000006c11000000186b657965642d736861323536406578616d706c652e636f6d000000201111111111111111111111111111111111111111111111111111111111111111000000200000000000000000000000000000000000000000000000000000000000000000000000036f6e65\nat 5 9\ntake 1 5\n"

-- a bad length, and what comes behind it
abbrev pub bad_record : List ℕ
bad_record = record_of (journal (read_of 6 (0 ∷ 0 ∷ 0 ∷ 0 ∷ 9 ∷ 9 ∷ []) ++ read_of 11 lock))

-- its text: four bytes of the bad length, and nothing behind it
abbrev pub bad_text : List ℕ
bad_text = codes "schedule 2\nat 0 0\nat 5 9\njoin client\nat 5 9\nhold 1\nhear 1 00000000\nat 5 9\nat 5 9\ntake 1 5\n"

-- a child that sends two bytes, one at a time, and can't be written to, and another that can't be started
abbrev pub child_record : List ℕ
child_record = record_of (entry.Bind Clients (codes "s") (Ok tt) ∷ entry.Accept Children (Ok (accepted.Port 1)) ∷ now_at 1 2
    ∷ entry.Read 1 16384 (7 ∷ []) (Ok (got.Bytes 1)) ∷ now_at 1 2 ∷ entry.Read 1 16384 (8 ∷ []) (Ok (got.Bytes 1)) ∷ now_at 1 2
    ∷ entry.Write 1 (0 ∷ []) (Err Failed) ∷ now_at 1 2 ∷ entry.Close 1 (Ok tt)
    ∷ entry.Start (record { number = 3; kind = Helper }) (Err Failed) ∷ now_at 2 2 ∷ [])

-- its text
abbrev pub child_text : List ℕ
child_text = codes "schedule 2\nat 1 2\njoin child\nat 1 2\nhold 1\nhear 1 07\nat 1 2\nhear 1 08\nat 1 2\nend 1\nat 2 2\nfailed 3\n"
