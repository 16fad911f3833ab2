-- What is ready, in the order in which it is served (ours). Read from the end.
use Rattle.std.specs.Prelude.{ℕ, ◌-◌, ◌^◌, ◌==◌, ◌&&◌, Bool, true, false, List, [], ◌∷◌, ◌++◌, Option, Some, None, is_some, nat_lt, not, if◌then◌else◌}
use Rattle.std.specs.List.{filter, list_any}
use Rattle.pair_ports.specs.declared.entry.PairReady.{PairReady}
use Rattle.pair_ports.specs.declared.side.Side.{Side}
use Rattle.pair_ports.specs.declared.side.Side.TheVariants.{Client, Upstream}
use Rattle.filter_model.specs.declared.thing.Thing.{Thing}
use Rattle.filter_model.specs.declared.thing.Thing.TheVariants.{Accept, Read, Write}
use Rattle.filter_model.specs.Filters.{State, can_send, find_pair, wants}

-- ---- things

-- both are the same side of a pair
abbrev pub same_side : Side → Side → Bool
same_side Client Client = true
same_side Client Upstream = false
same_side Upstream Client = false
same_side Upstream Upstream = true

-- both are the same thing to be served
abbrev pub same_thing : Thing → Thing → Bool
same_thing Accept Accept = true
same_thing Accept (Read pair side) = false
same_thing Accept (Write pair side) = false
same_thing (Read pair side) Accept = false
same_thing (Read pair side) (Read other otherside) = (pair == other) && same_side side otherside
same_thing (Read pair side) (Write other otherside) = false
same_thing (Write pair side) Accept = false
same_thing (Write pair side) (Read other otherside) = false
same_thing (Write pair side) (Write other otherside) = (pair == other) && same_side side otherside

-- it is of this pair
abbrev pub is_of : ℕ → Thing → Bool
is_of pair Accept = false
is_of pair (Read other side) = pair == other
is_of pair (Write other side) = pair == other

-- ---- a line of things

-- the thing stands there
abbrev pub has_thing : Thing → List Thing → Bool
has_thing thing line = list_any (same_thing thing) line

-- without this thing, which isn't ready any more
abbrev pub dropped : Thing → List Thing → List Thing
dropped thing line = filter (λ other. not (same_thing thing other)) line

-- with this thing behind all others: it was served, and is ready still
abbrev pub sent_back : Thing → List Thing → List Thing
sent_back thing line = dropped thing line ++ thing ∷ []

-- without those of this pair
abbrev pub without_pair : ℕ → List Thing → List Thing
without_pair pair line = filter (λ thing. not (is_of pair thing)) line

-- with this thing, behind the others where it is new
abbrev pub queued : Thing → List Thing → List Thing
queued thing line = if has_thing thing line then line else line ++ thing ∷ []

-- the line with this thing, where the test holds
abbrev pub queued_if : Bool → Thing → List Thing → List Thing
queued_if true thing line = queued thing line
queued_if false thing line = line

-- both directions of a new pair's client, and what it is to send to the agent behind
abbrev pub queued_pair : ℕ → List Thing → List Thing
queued_pair pair line = queued (Write pair Upstream) (queued (Write pair Client) (queued (Read pair Client) line))

-- what a poll's item makes ready: what is told of a pair that isn't open is passed over
abbrev pub queued_by : State → Option ℕ → Side → Bool → Bool → List Thing → List Thing
queued_by state None side readable writable line = queued_if readable Accept line
queued_by state (Some pair) side readable writable line =
    let is_open = is_some (find_pair pair state.pairs) in
    queued_if (writable && is_open) (Write pair side) (queued_if (readable && is_open) (Read pair side) line)

-- what all items make ready
abbrev pub queued_all : State → List PairReady → List Thing → List Thing
queued_all state [] line = line
queued_all state (item ∷ items) line =
    queued_all state items (queued_by state item.pair item.side item.readable item.writable line)

-- ---- what can be served

-- the door while numbers are left, a side that is to be read, and one that is owed bytes, with a connection to it or a
-- place for one
abbrev pub is_servable : State → Thing → Bool
is_servable state Accept = nat_lt state.last_pair (2 ^ 64 - 1)
is_servable state (Read pair side) = wants pair side state
is_servable state (Write pair side) = can_send pair side state

-- the first thing of the line that can be served
abbrev pub first_servable : State → List Thing → Option Thing
first_servable state [] = None
first_servable state (thing ∷ things) =
    if is_servable state thing then Some thing else first_servable state things

-- there is a thing, and it is this one
abbrev pub is_thing : Thing → Option Thing → Bool
is_thing thing None = false
is_thing thing (Some other) = same_thing thing other

-- it is this one
abbrev pub is_next : State → List Thing → Thing → Bool
is_next state line thing = is_thing thing (first_servable state line)

-- nothing that is ready can be served
abbrev pub is_idle : State → List Thing → Bool
is_idle state line = not (is_some (first_servable state line))
