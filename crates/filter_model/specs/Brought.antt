-- What calls on pairs bring and move: the events of the filter, and the bytes of a pair's sides; and what these have to
-- be (ours). Read from the end.
use Rattle.std.specs.Prelude.{◌≡◌, ℕ, ◌==◌, ◌&&◌, List, [], ◌∷◌, Some, Result, Ok, Err, take, if◌then◌else◌}
use Rattle.std.specs.List.{flat_map}
use Rattle.world_ports.specs.declared.answers.Accepted.{Accepted}
use Rattle.world_ports.specs.declared.answers.Accepted.TheVariants as accepted
use Rattle.world_ports.specs.declared.answers.Got.{Got}
use Rattle.world_ports.specs.declared.answers.Got.TheVariants as got
use Rattle.world_ports.specs.declared.answers.WorldFault.{WorldFault}
use Rattle.world_ports.specs.declared.answers.WorldFault.TheVariants.{Failed, Memory}
use Rattle.world_ports.specs.declared.answers.Wrote.{Wrote}
use Rattle.world_ports.specs.declared.answers.Wrote.TheVariants as wrote
use Rattle.pair_ports.specs.declared.entry.Linked.{Linked}
use Rattle.pair_ports.specs.declared.entry.Linked.TheVariants as linked
use Rattle.pair_ports.specs.declared.entry.PairEntry.{PairEntry}
use Rattle.pair_ports.specs.declared.entry.PairEntry.TheVariants as entry
use Rattle.pair_ports.specs.declared.side.Side.{Side}
use Rattle.pair_ports.specs.declared.side.Side.TheVariants.{Client, Upstream}
use Rattle.filter_model.specs.Answered.{Reading, end_of}
use Rattle.filter_model.specs.Lists.{Listed}
use Rattle.filter_model.specs.Pairs.{Pair}
use Rattle.filter_model.specs.Filters.{AllFit, Connected, Ended, Happening, Heard, Joined, Numbered, Took, find_pair, first_state, run}
use Rattle.filter_model.specs.LegalPairs.{first_reading, read_on}
use Rattle.filter_model.specs.Lines.{same_side}
use Rattle.filter_model.specs.Places.{AreFew}
use Rattle.filter_model.specs.KeptPurposes.{KeepsPurposes}
use Rattle.filter_model.specs.Watching.{IsExact, Stream, Watched}

-- ---- events

-- a client was accepted
abbrev pub joined_by : Result Accepted WorldFault → List Happening
joined_by (Ok (accepted.Port number)) = Joined ∷ []
joined_by (Ok accepted.NotNow) = []
joined_by (Err fault) = []

-- a pair was connected; a connection that the outside refused ends it
abbrev pub connected_by : ℕ → Result Linked WorldFault → List Happening
connected_by pair (Ok linked.Made) = Connected pair ∷ []
connected_by pair (Ok linked.NotNow) = []
connected_by pair (Err Failed) = Ended pair ∷ []
connected_by pair (Err Memory) = []

-- bytes came, or the end; a read that the outside refused ends the side
abbrev pub heard_by : ℕ → Side → List ℕ → Result Got WorldFault → List Happening
heard_by pair side bytes (Ok (got.Bytes n)) = Heard pair side bytes ∷ []
heard_by pair side bytes (Ok got.End) = end_of side pair ∷ []
heard_by pair side bytes (Ok got.NotNow) = []
heard_by pair side bytes (Err Failed) = end_of side pair ∷ []
heard_by pair side bytes (Err Memory) = []

-- bytes went; a write that the outside refused ends the side
abbrev pub took_by : ℕ → Side → Result Wrote WorldFault → List Happening
took_by pair side (Ok (wrote.Took n)) = Took pair side n ∷ []
took_by pair side (Ok wrote.NotNow) = []
took_by pair side (Err Failed) = end_of side pair ∷ []
took_by pair side (Err Memory) = []

-- what a call brings
abbrev pub events_of : PairEntry → List Happening
events_of (entry.Bind path upstream answer) = []
events_of (entry.Poll items answer) = []
events_of (entry.Accept answer) = joined_by answer
events_of (entry.Connect pair answer) = connected_by pair answer
events_of (entry.Read pair side room bytes answer) = heard_by pair side bytes answer
events_of (entry.Write pair side offered answer) = took_by pair side answer
events_of (entry.Disconnect pair answer) = []
events_of (entry.Close pair answer) = []

-- what calls bring
abbrev pub events_brought : List PairEntry → List Happening
events_brought calls = flat_map events_of calls

-- ---- bytes

-- the bytes that a read gave
abbrev pub bytes_got : List ℕ → Result Got WorldFault → List ℕ
bytes_got bytes (Ok (got.Bytes n)) = bytes
bytes_got bytes (Ok got.End) = []
bytes_got bytes (Ok got.NotNow) = []
bytes_got bytes (Err fault) = []

-- the bytes that a write moved: the first of those that were offered
abbrev pub bytes_taken : List ℕ → Result Wrote WorldFault → List ℕ
bytes_taken offered (Ok (wrote.Took n)) = take n offered
bytes_taken offered (Ok wrote.NotNow) = []
bytes_taken offered (Err fault) = []

-- what a call read from this side of the pair of this number
abbrev pub read_by : ℕ → Side → PairEntry → List ℕ
read_by number side (entry.Bind path upstream answer) = []
read_by number side (entry.Poll items answer) = []
read_by number side (entry.Accept answer) = []
read_by number side (entry.Connect pair answer) = []
read_by number side (entry.Read pair other room bytes answer) =
    if (number == pair) && same_side side other then bytes_got bytes answer else []
read_by number side (entry.Write pair other offered answer) = []
read_by number side (entry.Disconnect pair answer) = []
read_by number side (entry.Close pair answer) = []

-- what a call wrote to this side of the pair of this number
abbrev pub written_by : ℕ → Side → PairEntry → List ℕ
written_by number side (entry.Bind path upstream answer) = []
written_by number side (entry.Poll items answer) = []
written_by number side (entry.Accept answer) = []
written_by number side (entry.Connect pair answer) = []
written_by number side (entry.Read pair other room bytes answer) = []
written_by number side (entry.Write pair other offered answer) =
    if (number == pair) && same_side side other then bytes_taken offered answer else []
written_by number side (entry.Disconnect pair answer) = []
written_by number side (entry.Close pair answer) = []

-- all that calls read from this side of the pair of this number, and all that they wrote to it
abbrev pub stream_by : ℕ → Side → List PairEntry → Stream
stream_by number side calls = record {
  heard = flat_map (read_by number side) calls;
  sent = flat_map (written_by number side) calls;
}

-- ---- what they have to be

-- the bytes of both sides of the pair of this number are those of a pair that is exact: each request that may pass was
-- written upstream, or is owed, in order, and no other; and the client was written, or is owed, one reply to each. Where
-- purposes are given, each signing request that was written upstream is for one of them. The pair is that of the
-- number, where it is open, so what is owed is what it is owed there
pub record IsPassed (listed : Listed) (calls : List PairEntry) (pairs : List Numbered) (number : ℕ) : Type 0 where
  pub watched : Watched
  pub own : (pair : Pair) → find_pair number pairs ≡ Some pair → watched.pair ≡ pair
  pub client : watched.client ≡ stream_by number Client calls
  pub upstream : watched.upstream ≡ stream_by number Upstream calls
  pub exact : IsExact listed watched
  pub kept : KeepsPurposes listed watched

-- the events that calls bring may come, they lead to the state that the calls lead to, each pair is exact, and there are
-- few connections to the agent behind
pub record Passes (listed : Listed) (calls : List PairEntry) (to : Reading) : Type 0 where
  pub fit : AllFit (first_state listed) (events_brought calls)
  pub state : to.state ≡ run (first_state listed) (events_brought calls)
  pub each : (number : ℕ) → IsPassed listed calls to.state.pairs number
  pub few : AreFew to.state

-- the law
abbrev pub EachPasses : Type 0
EachPasses = (listed : Listed) (path upstream : List ℕ) (calls : List PairEntry) (to : Reading)
    → read_on (first_reading listed path upstream) calls ≡ Some to → Passes listed calls to
