-- Journals of pairs that are written out (ours).
use Rattle.std.specs.Prelude.{ℕ, Bool, true, false, List, [], ◌∷◌, Some, None, is_some, Ok, Err}
use Rattle.world_ports.specs.declared.answers.Accepted.TheVariants as accepted
use Rattle.world_ports.specs.declared.answers.Got.TheVariants as got
use Rattle.world_ports.specs.declared.answers.Polled.TheVariants as polled
use Rattle.world_ports.specs.declared.answers.WorldFault.TheVariants.{Failed}
use Rattle.world_ports.specs.declared.answers.Wrote.TheVariants as wrote
use Rattle.pair_ports.specs.declared.entry.Linked.TheVariants as linked
use Rattle.pair_ports.specs.declared.entry.PairEntry.{PairEntry}
use Rattle.pair_ports.specs.declared.entry.PairEntry.TheVariants as entry
use Rattle.pair_ports.specs.declared.side.Side.{Side}
use Rattle.pair_ports.specs.declared.side.Side.TheVariants.{Client, Upstream}
use Rattle.filter_model.specs.LegalPairs.{first_reading, read_on}
use Rattle.filter_model.specs.Lists.{for_all}
use Rattle.filter_model.specs.Rows.{blob, failed, list}

-- the journal may be one of a filter whose list has the key of tag 17
abbrev pub is_legal : List PairEntry → Bool
is_legal entries = is_some (read_on (first_reading (for_all (blob 17 ∷ [])) (1 ∷ []) (2 ∷ [])) entries)

-- the listener is bound
abbrev pub bind : PairEntry
bind = entry.Bind (1 ∷ []) (2 ∷ []) (Ok tt)

-- a poll tells that a client may be accepted
abbrev pub poll_door : PairEntry
poll_door = entry.Poll (record { pair = None; side = Client; readable = true; writable = false } ∷ []) (Ok polled.Some)

-- a poll tells of nothing
abbrev pub poll_nothing : PairEntry
poll_nothing = entry.Poll [] (Ok polled.Some)

-- a client is accepted as the pair of this number
abbrev pub accept_as : ℕ → PairEntry
accept_as number = entry.Accept (Ok (accepted.Port number))

-- no client is there to be accepted
abbrev pub accept_none : PairEntry
accept_none = entry.Accept (Ok accepted.NotNow)

-- a read of pair 1 finds nothing yet
abbrev pub read_none : Side → PairEntry
read_none side = entry.Read 1 side 16384 [] (Ok got.NotNow)

-- a read of pair 1 finds that this side has ended
abbrev pub read_end : Side → PairEntry
read_end side = entry.Read 1 side 16384 [] (Ok got.End)

-- a read of pair 1 gives these bytes
abbrev pub read_of : Side → ℕ → List ℕ → PairEntry
read_of side count bytes = entry.Read 1 side 16384 bytes (Ok (got.Bytes count))

-- pair 1 is connected to the agent behind
abbrev pub connect_made : PairEntry
connect_made = entry.Connect 1 (Ok linked.Made)

-- the agent behind has no place for pair 1 yet
abbrev pub connect_none : PairEntry
connect_none = entry.Connect 1 (Ok linked.NotNow)

-- pair 1 can't be connected
abbrev pub connect_failed : PairEntry
connect_failed = entry.Connect 1 (Err Failed)

-- the connection of the pair of this number is given back
abbrev pub disconnect_of : ℕ → PairEntry
disconnect_of pair = entry.Disconnect pair (Ok tt)

-- a poll tells that the agent behind answered pair 1
abbrev pub poll_reply : PairEntry
poll_reply = entry.Poll (record { pair = Some 1; side = Upstream; readable = true; writable = false } ∷ []) (Ok polled.Some)

-- a write to pair 1 offers these bytes, of which so many are taken
abbrev pub write_of : Side → ℕ → List ℕ → PairEntry
write_of side count bytes = entry.Write 1 side bytes (Ok (wrote.Took count))

-- the pair of this number is closed
abbrev pub close_of : ℕ → PairEntry
close_of pair = entry.Close pair (Ok tt)

-- a pair joins behind a poll
abbrev pub joins : List PairEntry → List PairEntry
joins later = bind ∷ poll_door ∷ accept_as 1 ∷ later

-- the client of a new pair asks for the list, and it is sent to the agent behind
abbrev pub asks_list : List PairEntry → List PairEntry
asks_list later =
    read_of Client 5 list ∷ connect_made ∷ accept_none ∷ read_none Client ∷ write_of Upstream 5 list ∷ later

-- the agent behind answers FAILURE, and the client is sent that
abbrev pub gets_reply : List PairEntry → List PairEntry
gets_reply later = poll_reply ∷ read_of Upstream 5 failed ∷ write_of Client 5 failed ∷ later
