-- Which journals of pairs are legal for the filter (ours): a fold over their entries. Each thing is served in its turn:
-- what is served is the first thing of the line that can be served. Each answer is one that `Pairs` may give. Read from
-- the end.
use Rattle.std.specs.Prelude.{ℕ, ◌==◌, ◌&&◌, not, List, [], ◌∷◌, Option, Some, None, option_and_then}
use Rattle.std.specs.Str.{bytes_eq}
use Rattle.pair_ports.specs.declared.entry.PairEntry.{PairEntry}
use Rattle.pair_ports.specs.declared.entry.PairEntry.TheVariants as entry
use Rattle.pair_ports.specs.declared.side.Side.TheVariants.{Upstream}
use Rattle.filter_model.specs.declared.thing.Thing.{Thing}
use Rattle.filter_model.specs.declared.thing.Thing.TheVariants.{Accept, Read, Write}
use Rattle.filter_model.specs.Lists.{Listed}
use Rattle.filter_model.specs.Filters.{State, first_state, is_reached, owed_of}
use Rattle.filter_model.specs.Lines.{is_idle, is_next}
use Rattle.filter_model.specs.Answered.{Binding, Closing, Due, Free, Nothing, Parting, Reading, after_accept, after_bind, after_close, after_connect, after_disconnect, after_poll, after_read, after_write, at, only_if}
use Rattle.filter_model.specs.Possible.{is_got, is_numbered, is_taken}
use Rattle.world_ports.specs.Worlds.{read_room}

-- where the door has to be bound, at these paths
abbrev pub allowed_bind : List ℕ → List ℕ → State → List Thing → PairEntry → Option Reading
allowed_bind path upstream state line (entry.Bind one other answer) =
    only_if (bytes_eq one path && bytes_eq other upstream) (after_bind answer state line)
allowed_bind path upstream state line (entry.Poll items answer) = None
allowed_bind path upstream state line (entry.Accept answer) = None
allowed_bind path upstream state line (entry.Connect pair answer) = None
allowed_bind path upstream state line (entry.Read pair side room bytes answer) = None
allowed_bind path upstream state line (entry.Write pair side offered answer) = None
allowed_bind path upstream state line (entry.Disconnect pair answer) = None
allowed_bind path upstream state line (entry.Close pair answer) = None

-- where nothing has to come: the first thing that can be served, or a poll where nothing can
abbrev pub allowed_free : State → List Thing → PairEntry → Option Reading
allowed_free state line (entry.Bind path upstream answer) = None
allowed_free state line (entry.Poll items answer) = only_if (is_idle state line) (after_poll items state line answer)
allowed_free state line (entry.Accept answer) =
    only_if (is_next state line Accept && is_numbered state.last_pair answer) (after_accept state line answer)
allowed_free state line (entry.Connect pair answer) =
    only_if (is_next state line (Write pair Upstream) && not (is_reached pair Upstream state))
    (after_connect pair state line answer)
allowed_free state line (entry.Read pair side room bytes answer) =
    only_if (is_next state line (Read pair side) && ((room == read_room) && is_got room bytes answer))
    (after_read pair side bytes state line answer)
allowed_free state line (entry.Write pair side offered answer) =
    only_if (is_next state line (Write pair side)
    && (is_reached pair side state && (bytes_eq offered (owed_of pair side state) && is_taken offered answer)))
    (after_write pair side state line answer)
allowed_free state line (entry.Disconnect pair answer) = None
allowed_free state line (entry.Close pair answer) = None

-- where a pair has to be closed
abbrev pub allowed_close : ℕ → List ℕ → List ℕ → State → List Thing → PairEntry → Option Reading
allowed_close number later parts state line (entry.Bind path upstream answer) = None
allowed_close number later parts state line (entry.Poll items answer) = None
allowed_close number later parts state line (entry.Accept answer) = None
allowed_close number later parts state line (entry.Connect pair answer) = None
allowed_close number later parts state line (entry.Read pair side room bytes answer) = None
allowed_close number later parts state line (entry.Write pair side offered answer) = None
allowed_close number later parts state line (entry.Disconnect pair answer) = None
allowed_close number later parts state line (entry.Close pair answer) =
    only_if (pair == number) (after_close number later parts state line answer)

-- where a pair's connection to the agent behind has to be given back
abbrev pub allowed_part : ℕ → List ℕ → State → List Thing → PairEntry → Option Reading
allowed_part number later state line (entry.Bind path upstream answer) = None
allowed_part number later state line (entry.Poll items answer) = None
allowed_part number later state line (entry.Accept answer) = None
allowed_part number later state line (entry.Connect pair answer) = None
allowed_part number later state line (entry.Read pair side room bytes answer) = None
allowed_part number later state line (entry.Write pair side offered answer) = None
allowed_part number later state line (entry.Disconnect pair answer) =
    only_if (pair == number) (after_disconnect number later state line answer)
allowed_part number later state line (entry.Close pair answer) = None

-- by what has to come
abbrev pub allowed_at : Due → State → List Thing → PairEntry → Option Reading
allowed_at (Binding path upstream) state line next = allowed_bind path upstream state line next
allowed_at Free state line next = allowed_free state line next
allowed_at (Closing pair later parts) state line next = allowed_close pair later parts state line next
allowed_at (Parting pair later) state line next = allowed_part pair later state line next
allowed_at Nothing state line next = None

-- the entry may come, and this is how the journal reads then
abbrev pub allowed : Reading → PairEntry → Option Reading
allowed reading next = allowed_at reading.due reading.state reading.line next

-- the entries may come one after another
abbrev pub read_on : Reading → List PairEntry → Option Reading
read_on reading [] = Some reading
read_on reading (next ∷ later) = option_and_then (λ after. read_on after later) (allowed reading next)

-- before the first entry: where the filter is to listen, and the agent behind it
abbrev pub first_reading : Listed → List ℕ → List ℕ → Reading
first_reading listed path upstream = at (first_state listed) [] (Binding path upstream)
