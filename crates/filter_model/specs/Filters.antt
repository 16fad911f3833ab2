-- The filter: its open pairs, and what each event makes of them (ours). The file is read from its end.
use Rattle.std.specs.Prelude.{ℕ, suc, ◌^◌, ◌-◌, ◌<◌, ◌≤◌, Bool, true, false, List, [], ◌∷◌, ◌++◌, length, Option, Some, None, IsSome, nat_lt, ◌==◌, ◌&&◌, ◌||◌, not, IsTrue, if◌then◌else◌}
use Rattle.std.specs.List.{filter, list_any}
use Rattle.pair_ports.specs.declared.side.Side.{Side}
use Rattle.pair_ports.specs.declared.side.Side.TheVariants.{Upstream}
use Rattle.filter_model.specs.Lists.{Listed}
use Rattle.filter_model.specs.Pairs.{Pair, change_half, half_of, heard_more, is_some_bytes, is_spare, new_pair, reaches, sent_some, unlinked, wants_half}
use Rattle.filter_model.specs.Looking.{Looked, ends, looked, lost, stays}

-- an event, with its bytes as a plain list
pub data Happening : Type 0 where
  Joined : Happening
  Connected : (number : ℕ) → Happening
  Heard : (number : ℕ) → (side : Side) → (piece : List ℕ) → Happening
  Took : (number : ℕ) → (side : Side) → (count : ℕ) → Happening
  Lost : (number : ℕ) → Happening
  Ended : (number : ℕ) → Happening

-- an open pair and its number
pub record Numbered : Type 0 where
  pub number : ℕ
  pub pair : Pair

-- what may be used, the open pairs by rising numbers, the number of the last pair that joined, the pairs whose
-- connection to the agent behind is spare, the one first of which it is so longest, the pairs that the last event
-- closed, and those whose connection to the agent behind it gave back
pub record State : Type 0 where
  pub listed : Listed
  pub pairs : List Numbered
  pub last_pair : ℕ
  pub spares : List ℕ
  pub closes : List ℕ
  pub parts : List ℕ

-- the filter before its first event
abbrev pub first_state : Listed → State
first_state listed = record {
  listed = listed;
  pairs = [];
  last_pair = 0;
  spares = [];
  closes = [];
  parts = [];
}

-- the most pairs
abbrev pub most_pairs : ℕ
most_pairs = 128

-- the most connections to the agent behind
abbrev pub most_links : ℕ
most_links = 64

-- the most of these that are spare
abbrev pub most_spares : ℕ
most_spares = 16

-- ---- pairs by their numbers

-- the open pair of this number
abbrev pub find_pair : ℕ → List Numbered → Option Pair
find_pair number [] = None
find_pair number (one ∷ others) = if number == one.number then Some one.pair else find_pair number others

-- the pairs, that of this number being this one
abbrev pub put_pair : ℕ → Pair → List Numbered → List Numbered
put_pair number pair [] = []
put_pair number pair (one ∷ others) =
    if number == one.number then record { number = number; pair = pair } ∷ others else one ∷ put_pair number pair others

-- the pairs without that of this number
abbrev pub remove_pair : ℕ → List Numbered → List Numbered
remove_pair number [] = []
remove_pair number (one ∷ others) =
    if number == one.number then remove_pair number others else one ∷ remove_pair number others

-- the pairs, that of this number without its connection to the agent behind
abbrev pub unlinked_by : Option Pair → ℕ → List Numbered → List Numbered
unlinked_by None number pairs = pairs
unlinked_by (Some pair) number pairs = put_pair number (unlinked pair) pairs

-- the same, where it is open
abbrev pub unlinked_in : ℕ → List Numbered → List Numbered
unlinked_in number pairs = unlinked_by (find_pair number pairs) number pairs

-- the number is one of these
abbrev pub has_number : ℕ → List ℕ → Bool
has_number number numbers = list_any (λ other. number == other) numbers

-- these without that one
abbrev pub without : ℕ → List ℕ → List ℕ
without number numbers = filter (λ other. not (number == other)) numbers

-- what a side of this pair is owed: nothing where it isn't open
abbrev pub owed_by : Option Pair → Side → List ℕ
owed_by None side = []
owed_by (Some pair) side = (half_of side pair).owed

-- what a side of the pair of this number is owed in this state
abbrev pub owed_of : ℕ → Side → State → List ℕ
owed_of number side state = owed_by (find_pair number state.pairs) side

-- the side of this pair is there, and is to be read
abbrev pub wants_by : Option Pair → Side → Bool
wants_by None side = false
wants_by (Some pair) side = reaches side pair && wants_half (half_of side pair)

-- the side of the pair of this number is to be read in this state
abbrev pub wants : ℕ → Side → State → Bool
wants number side state = wants_by (find_pair number state.pairs) side

-- there is a connection to the side of this pair
abbrev pub reached_by : Option Pair → Side → Bool
reached_by None side = false
reached_by (Some pair) side = reaches side pair

-- there is a connection to the side of the pair of this number in this state
abbrev pub is_reached : ℕ → Side → State → Bool
is_reached number side state = reached_by (find_pair number state.pairs) side

-- how many pairs have a connection to the agent behind
abbrev pub links : List Numbered → ℕ
links pairs = length (filter (λ one. one.pair.is_linked) pairs)

-- one more may have one
abbrev pub has_place : State → Bool
has_place state = nat_lt (links state.pairs) most_links

-- the side of this pair is owed bytes, and there is a connection to it or may be one
abbrev pub sends_by : Option Pair → Side → Bool → Bool
sends_by None side place = false
sends_by (Some pair) side place = is_some_bytes (half_of side pair).owed && (reaches side pair || place)

-- the side of the pair of this number can be sent bytes in this state
abbrev pub can_send : ℕ → Side → State → Bool
can_send number side state = sends_by (find_pair number state.pairs) side (has_place state)

-- ---- which events may come

-- the event may come in this state: a number is left for who joins; who is connected owes bytes to the agent behind, has
-- no connection yet, and there is a place; bytes come from a side that is connected, no more is taken than is owed, and
-- what is lost is a connection
abbrev pub Fits : Happening → State → Type 0
Fits Joined state = state.last_pair < 2 ^ 64 - 1
Fits (Connected number) state = IsTrue (can_send number Upstream state) × IsTrue (not (is_reached number Upstream state))
Fits (Heard number side piece) state = IsTrue (is_reached number side state) × (0 < length piece)
Fits (Took number side count) state =
    IsTrue (is_reached number side state) × ((0 < count) × (count ≤ length (owed_of number side state)))
Fits (Lost number) state = IsTrue (is_reached number Upstream state)
Fits (Ended number) state = IsSome (find_pair number state.pairs)

-- ---- a step

-- the number of a pair, where it gave its connection back
abbrev pub parted : ℕ → Bool → Bool → List ℕ
parted number was_linked is_linked = if was_linked && not is_linked then number ∷ [] else []

-- the pairs with a spare connection, that of this number among them or not, and behind the others where it is new
abbrev pub spares_if : Bool → ℕ → List ℕ → List ℕ
spares_if true number spares = if has_number number spares then spares else spares ++ number ∷ []
spares_if false number spares = without number spares

-- the pair stays as it was left, or is closed
abbrev pub settled : Bool → ℕ → Pair → Pair → State → State
settled true number was after state = record state {
  pairs = put_pair number after state.pairs;
  spares = spares_if (is_spare after) number state.spares;
  closes = [];
  parts = parted number was.is_linked after.is_linked;
}
settled false number was after state = record state {
  pairs = remove_pair number state.pairs;
  spares = without number state.spares;
  closes = number ∷ [];
  parts = [];
}

-- what an event of an open pair makes of it
abbrev pub told : Happening → Listed → Pair → Looked
told Joined listed pair = looked listed pair
told (Connected number) listed pair = stays (record pair { is_linked = true })
told (Heard number side piece) listed pair = looked listed (change_half side (heard_more piece) pair)
told (Took number side count) listed pair = looked listed (change_half side (sent_some count) pair)
told (Lost number) listed pair = lost pair
told (Ended number) listed pair = ends pair

-- where the pair is open
abbrev pub at_pair : Option Pair → ℕ → Happening → State → State
at_pair None number event state = record state { closes = []; parts = [] }
at_pair (Some pair) number event state =
    let after = told event state.listed pair in settled after.is_open number pair after.pair state

-- a pair joins: it gets the next number, and where too many are open it is closed at once
abbrev pub joined : Bool → State → State
joined true state = record state {
  pairs = state.pairs ++ (record { number = suc state.last_pair; pair = new_pair } ∷ []);
  last_pair = suc state.last_pair;
  closes = [];
  parts = [];
}
joined false state = record state {
  last_pair = suc state.last_pair;
  closes = suc state.last_pair ∷ [];
  parts = [];
}

-- what an event makes of the filter, with however many spare connections
abbrev pub happened : State → Happening → State
happened state Joined = joined (nat_lt (length state.pairs) most_pairs) state
happened state (Connected number) = at_pair (find_pair number state.pairs) number (Connected number) state
happened state (Heard number side piece) =
    at_pair (find_pair number state.pairs) number (Heard number side piece) state
happened state (Took number side count) =
    at_pair (find_pair number state.pairs) number (Took number side count) state
happened state (Lost number) = at_pair (find_pair number state.pairs) number (Lost number) state
happened state (Ended number) = at_pair (find_pair number state.pairs) number (Ended number) state

-- more connections are spare than may be, or no place is left for one that is needed
abbrev pub is_crowded : State → Bool
is_crowded state = nat_lt most_spares (length state.spares) || not (has_place state)

-- then the first spare one of these is given back, where there is one
abbrev pub trimmed_by : Bool → List ℕ → State → State
trimmed_by true [] state = state
trimmed_by true (oldest ∷ later) state = record state {
  pairs = unlinked_in oldest state.pairs;
  spares = without oldest state.spares;
  parts = state.parts ++ oldest ∷ [];
}
trimmed_by false spares state = state

-- the state with no more spare connections than may be
abbrev pub trimmed : State → State
trimmed state = trimmed_by (is_crowded state) state.spares state

-- what an event makes of the filter
abbrev pub step : State → Happening → State
step state event = trimmed (happened state event)

-- the state that these events lead to, the first one first
abbrev pub run : State → List Happening → State
run state [] = state
run state (event ∷ later) = run (step state event) later

-- each event may come in the state that those before it lead to
abbrev pub AllFit : State → List Happening → Type 0
AllFit state [] = Unit {0}
AllFit state (event ∷ later) = Fits event state × AllFit (step state event) later
