-- Literal records, deeds and reports (ours).
use Rattle.std.specs.Prelude.{ℕ, List, codes, None}
use Rattle.replay_run.specs.Choices.{served_with}
use Rattle.audit_core.specs.Reports.{report, verdict_of}

-- the report of a record and deeds
abbrev pub audit : List ℕ → List ℕ → List ℕ
audit text deeds = report (verdict_of (served_with None None) text deeds)

-- a client adds a key and asks for a signature with it
abbrev pub used : List ℕ
used = codes "join client\nhear 1 0000006c11000000186b657965642d736861323536406578616d706c652e636f6d000000201111111111111111111111111111111111111111111111111111111111111111000000202121212121212121212121212121212121212121212121212121212121212121000000036f6e65\nhear 1 000000500d00000040000000186b657965642d736861323536406578616d706c652e636f6d0000002011111111111111111111111111111111111111111111111111111111111111110000000361626300000000\n"

-- a line of a port that isn't open
abbrev pub bad : List ℕ
bad = codes "join client\nhear 7 00\n"

-- what the first one prints
abbrev pub deeds : List ℕ
deeds = codes "to 1 0000000106\nstart 1 helper\nend\n"

-- the same, as if the user had been asked
abbrev pub other_deeds : List ℕ
other_deeds = codes "to 1 0000000106\nstart 1 confirm\nend\n"

-- the same without its last byte
abbrev pub cut_deeds : List ℕ
cut_deeds = codes "to 1 0000000106\nstart 1 helper\nend"

-- the report of the signature
abbrev pub yes : List ℕ
yes = codes "sign 3 ask 1 port 1 key 000000186b657965642d736861323536406578616d706c652e636f6d000000201111111111111111111111111111111111111111111111111111111111111111\nyes 1\n"
