-- Lists of events that are alike but in secrets.
use Rattle.std.specs.Prelude.{◌≡◌, ℕ, suc, ◌==◌, ◌⊎◌, List, [], ◌∷◌, ◌++◌, length, take, if◌then◌else◌}
use Rattle.world_ports.specs.declared.Door.{Door}
use Rattle.world_ports.specs.declared.Door.TheVariants.{Clients, Children}
use Rattle.wire_text.specs.Frames.{Split, split}
use Rattle.key_blob.specs.declared.added.AddedKey.{AddedKey}
use Rattle.agent_model.specs.Events.{Happening, Timed, Joined, Heard, Ended, Took, Started, StartFailed, Tick}
use Rattle.agent_model.specs.Runs.{last_after}
use Rattle.wire_text.specs.Bounds.{longest_body}
use Rattle.agent_secrecy.specs.Secrets.{AreAlikeKeys, blank}

-- ---- bodies

-- two additions that differ in the contents of private fields alone: the number of one of the two requests, alike keys,
-- and what follows them
pub record AreAlikeAdditions (one other : List ℕ) : Type 0 where
  pub number : ℕ
  pub adds : (number ≡ 17) ⊎ (number ≡ 25)
  pub key : AddedKey
  pub other_key : AddedKey
  pub keys : AreAlikeKeys key other_key
  pub rest : List ℕ
  pub left : one ≡ number ∷ (key.private ++ rest)
  pub right : other ≡ number ∷ (other_key.private ++ rest)

-- two bodies are equal, or alike additions
abbrev pub AreAlikeBodies : List ℕ → List ℕ → Type 0
AreAlikeBodies one other = (one ≡ other) ⊎ AreAlikeAdditions one other

-- ---- streams

-- as many bodies in both lists, and each is alike the one at its place
abbrev pub AreAllAlike : List (List ℕ) → List (List ℕ) → Type 0
AreAllAlike [] [] = Unit {0}
AreAllAlike [] (other ∷ others) = ⊥
AreAllAlike (one ∷ ones) [] = ⊥
AreAllAlike (one ∷ ones) (other ∷ others) = AreAlikeBodies one other × AreAllAlike ones others

-- two splits with as many bodies, each alike, and rests of equal lengths that agree in their first four bytes
pub record AreAlikeSplits (one other : Split) : Type 0 where
  pub bodies : AreAllAlike one.bodies other.bodies
  pub lengths : length one.rest ≡ length other.rest
  pub heads : take 4 one.rest ≡ take 4 other.rest

-- two streams of clients: as many bodies, each alike, and rests of equal lengths that agree in their first four bytes
abbrev pub AreAlikeStreams : List ℕ → List ℕ → Type 0
AreAlikeStreams one other = AreAlikeSplits (split longest_body one) (split longest_body other)

-- ---- events

-- the bytes that are heard at this port
abbrev pub heard_in : ℕ → Happening → List ℕ
heard_in number (Joined door) = []
heard_in number (Heard port piece) = if number == port then piece else []
heard_in number (Ended port) = []
heard_in number (Took port count) = []
heard_in number (Started job ticket) = []
heard_in number (StartFailed job) = []
heard_in number Tick = []

-- the bytes that are heard at this port in all events, one after another
abbrev pub stream_of : ℕ → List Timed → List ℕ
stream_of number [] = []
stream_of number (timed ∷ later) = heard_in number timed.event ++ stream_of number later

-- a piece of a client blanked
abbrev pub hide_piece : Door → List ℕ → List ℕ
hide_piece Clients piece = blank piece
hide_piece Children piece = piece

-- an event without what a client sent; behind a number stands the door through which its port joined
abbrev pub shape : (ℕ → Door) → Happening → Happening
shape door (Joined through) = Joined through
shape door (Heard port piece) = Heard port (hide_piece (door port) piece)
shape door (Ended port) = Ended port
shape door (Took port count) = Took port count
shape door (Started job ticket) = Started job ticket
shape door (StartFailed job) = StartFailed job
shape door Tick = Tick

-- the ports that join from this number on come through these doors
abbrev pub JoinsThrough : (ℕ → Door) → ℕ → Happening → Type 0
JoinsThrough door last (Joined through) = door (suc last) ≡ through
JoinsThrough door last (Heard port piece) = Unit {0}
JoinsThrough door last (Ended port) = Unit {0}
JoinsThrough door last (Took port count) = Unit {0}
JoinsThrough door last (Started job ticket) = Unit {0}
JoinsThrough door last (StartFailed job) = Unit {0}
JoinsThrough door last Tick = Unit {0}

-- each port that joins in these events, from this number on, comes through the door behind its number
abbrev pub JoinThrough : (ℕ → Door) → ℕ → List Timed → Type 0
JoinThrough door last [] = Unit {0}
JoinThrough door last (timed ∷ later) =
    JoinsThrough door last timed.event × JoinThrough door (last_after timed.event last) later

-- both lists have the same moments and events in the same order, but for the bytes of clients, in pieces of equal lengths
abbrev pub AreOfOneShape : (ℕ → Door) → List Timed → List Timed → Type 0
AreOfOneShape door [] [] = Unit {0}
AreOfOneShape door [] (other ∷ others) = ⊥
AreOfOneShape door (one ∷ ones) [] = ⊥
AreOfOneShape door (one ∷ ones) (other ∷ others) =
    (one.moment ≡ other.moment) × (shape door one.event ≡ shape door other.event) × AreOfOneShape door ones others

-- alike lists of events
pub record AreAlike (one other : List Timed) : Type 0 where
  pub door : ℕ → Door
  pub joins : JoinThrough door 0 one
  pub shapes : AreOfOneShape door one other
  pub streams : (number : ℕ) → door number ≡ Clients → AreAlikeStreams (stream_of number one) (stream_of number other)
