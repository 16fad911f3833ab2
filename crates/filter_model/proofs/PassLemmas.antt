-- Calls move the bytes of exact pairs.
use Rattle.std.proofs.Common.{◌≡◌, ◌∙◌, ◌++◌, ◌∷◌, ◌&&◌, ◌==◌, ◌<◌, ◌≤◌, ◌^◌, ◌-◌, ℕ, suc, Bool, true, false, List, [], All, Option, Some, None, Result, Ok, Err, length, take, refl, sym, ap, subst, arith, append_assoc, append-nil, if◌then◌else◌, nat_lt}
use Rattle.std.specs.List.{flat_map}
use Rattle.std.specs.Option.{IfSome}
use Rattle.std.specs.Prelude.{IsSome, IsTrue, not}
use Rattle.std.specs.Str.{bytes_eq}
use Rattle.std.specs.declared.alloc.AllocError.{AllocError}
use Rattle.std.specs.Cmp.Lexicographic.{bytes_decides}
use Rattle.std.proofs.lemmas.Bool.{eqb-true}
use Rattle.std.proofs.lemmas.Bool.Decides.{Decides-ltb}
use Rattle.std.proofs.lemmas.List.Elements.{All-append, All-cons, All-nil}
use Rattle.world_ports.specs.declared.answers.Accepted.{Accepted}
use Rattle.world_ports.specs.declared.answers.Accepted.TheVariants as accepted
use Rattle.world_ports.specs.declared.answers.Got.{Got}
use Rattle.world_ports.specs.declared.answers.Got.TheVariants as got
use Rattle.world_ports.specs.declared.answers.Polled.{Polled}
use Rattle.world_ports.specs.declared.answers.Polled.TheVariants as polled
use Rattle.world_ports.specs.declared.answers.WorldFault.{WorldFault}
use Rattle.world_ports.specs.declared.answers.WorldFault.TheVariants.{Failed, Memory}
use Rattle.world_ports.specs.declared.answers.Wrote.{Wrote}
use Rattle.world_ports.specs.declared.answers.Wrote.TheVariants as wrote
use Rattle.world_ports.specs.Worlds.{read_room}
use Rattle.wire_text.specs.Wire.{IsBytes}
use Rattle.pair_ports.specs.declared.entry.Linked.{Linked}
use Rattle.pair_ports.specs.declared.entry.Linked.TheVariants as linked
use Rattle.pair_ports.specs.declared.entry.PairEntry.{PairEntry}
use Rattle.pair_ports.specs.declared.entry.PairEntry.TheVariants as entry
use Rattle.pair_ports.specs.declared.entry.PairReady.{PairReady}
use Rattle.pair_ports.specs.declared.side.Side.{Side}
use Rattle.pair_ports.specs.declared.side.Side.TheVariants.{Client, Upstream}
use Rattle.filter_model.specs.declared.thing.Thing.{Thing}
use Rattle.filter_model.specs.declared.thing.Thing.TheVariants.{Accept, Read, Write}
use Rattle.filter_model.specs.Lists.{Listed}
use Rattle.filter_model.specs.Pairs.{Pair, half_of, reaches, wants_half}
use Rattle.filter_model.specs.Filters.{AllFit, Connected, Ended, Fits, Happening, Heard, Joined, Lost, Numbered, State, Took, can_send, find_pair, has_place, has_number, first_state, is_reached, owed_by, owed_of, reached_by, run, sends_by, step, wants_by}
use Rattle.filter_model.specs.Lines.{first_servable, is_idle, is_next, is_servable, is_thing, same_side}
use Rattle.filter_model.specs.Answered.{Due, Binding, Closing, Free, Nothing, Parting, Reading, after_accept, after_bind, after_close, after_connect, after_disconnect, after_poll, after_read, after_write, end_of}
use Rattle.filter_model.specs.LegalPairs.{allowed, allowed_at, first_reading, read_on}
use Rattle.filter_model.specs.Possible.{are_bytes, is_got, is_numbered, is_piece, is_taken}
use Rattle.filter_model.specs.Places.{AreFew}
use Rattle.filter_model.specs.KeptPurposes.{KeepsPurposes}
use Rattle.filter_model.specs.Watching.{IsExact, IsInRange, Stream, Watched, new_watched, no_stream, seen_at, watch, watch_if, watch_open, watched_of, watched_on}
use Rattle.filter_model.specs.Brought.{EachPasses, IsPassed, events_brought, events_of, read_by, stream_by, written_by}
use Rattle.filter_model.proofs.FairLemmas.{same_is, two}
use Rattle.filter_model.proofs.JournalLemmas.{only_some, then_some}
use Rattle.filter_model.proofs.FewLemmas.{each_holds_few}
use Rattle.filter_model.proofs.PurposeLemmas.{each_keeps_purposes, keeps}
use Rattle.filter_model.proofs.WatchLemmas.{Good, GoodAt, each_is_exact, listed-run, new-holds, run-good}

-- ---- what can be served

next_by : (test : Bool) (state : State) (thing first : Thing) (line : List Thing) → is_servable state first ≡ test → is_thing thing (if test then Some first else first_servable state line) ≡ true
    → (is_thing thing (first_servable state line) ≡ true → is_servable state thing ≡ true) → is_servable state thing ≡ true
next_by true state thing first line able next rest = ap (is_servable state) (same_is thing first next) ∙ able
next_by false state thing first line able next rest = rest next

next-servable : (state : State) (thing : Thing) (line : List Thing) → is_next state line thing ≡ true → is_servable state thing ≡ true
next-servable state thing [] next = cc
next-servable state thing (first ∷ line) next =
    next_by (is_servable state first) state thing first line refl next (next-servable state thing line)

wanted_is_reached : (found : Option Pair) (side : Side) → wants_by found side ≡ true → reached_by found side ≡ true
wanted_is_reached None side wanted = cc
wanted_is_reached (Some pair) side wanted = (two (reaches side pair) (wants_half (half_of side pair)) wanted).0

reached_is_open : (found : Option Pair) (side : Side) → reached_by found side ≡ true → IsSome found
reached_is_open None side reached = cc
reached_is_open (Some pair) side reached = refl

sent_is_open : (found : Option Pair) (side : Side) (place : Bool) → sends_by found side place ≡ true → IsSome found
sent_is_open None side place sends = cc
sent_is_open (Some pair) side place sends = refl

-- ---- answers that may come

bytes_are : (bytes : List ℕ) → are_bytes bytes ≡ true → IsBytes bytes
bytes_are [] small = All-nil _
bytes_are (byte ∷ bytes) small =
    let both = two (nat_lt byte 256) (are_bytes bytes) small in
    All-cons (λ (b : ℕ). b < 256) byte bytes ((Decides-ltb byte 256).0 both.0) (bytes_are bytes both.1)

piece_is : (count most : ℕ) → is_piece count most ≡ true → (0 < count) × (count ≤ most)
piece_is count most is =
    let both = two (nat_lt 0 count) (nat_lt count (suc most)) is in
    let above = (Decides-ltb count (suc most)).0 both.1 in
    ((Decides-ltb 0 count).0 both.0, omega (arith, above))

-- ---- streams

abbrev stream_of : Side → Watched → Stream
stream_of Client watched = watched.client
stream_of Upstream watched = watched.upstream

-- none where nothing is watched
abbrev stream_at : Side → Option Watched → Stream
stream_at side None = no_stream
stream_at side (Some watched) = stream_of side watched

-- a stream with more
abbrev with_more : List ℕ → List ℕ → Stream → Stream
with_more heard sent stream = record { heard = stream.heard ++ heard; sent = stream.sent ++ sent }

nothing-more : (stream : Stream) → stream ≡ with_more [] [] stream
nothing-more stream =
    ap (λ (h : List ℕ). record { heard = h; sent = stream.sent }) (sym (append-nil stream.heard))
    ∙ ap (λ (s : List ℕ). record { heard = stream.heard ++ []; sent = s }) (sym (append-nil stream.sent))

none_if : (test : Bool) → ◌≡◌ {A = List ℕ} [] (if test then [] else [])
none_if true = refl
none_if false = refl

-- what nothing is added to
quiet-stream : (heard sent : List ℕ) (stream : Stream) → [] ≡ heard → [] ≡ sent → stream ≡ with_more heard sent stream
quiet-stream heard sent stream no_heard no_sent =
    nothing-more stream ∙ ap (λ (h : List ℕ). with_more h [] stream) no_heard ∙ ap (λ (s : List ℕ). with_more heard s stream) no_sent

more-heard : (piece : List ℕ) (stream : Stream) → record { heard = stream.heard ++ piece; sent = stream.sent } ≡ with_more piece [] stream
more-heard piece stream = ap (λ (s : List ℕ). record { heard = stream.heard ++ piece; sent = s }) (sym (append-nil stream.sent))

more-sent : (piece : List ℕ) (stream : Stream) → record { heard = stream.heard; sent = stream.sent ++ piece } ≡ with_more [] piece stream
more-sent piece stream = ap (λ (h : List ℕ). record { heard = h; sent = stream.sent ++ piece }) (sym (append-nil stream.heard))

-- an event of an open pair
module _ (listed : Listed) (watched : Watched) where
  heard-open : (found : Option Pair) (number : ℕ) (side there : Side) (piece : List ℕ) → IsSome found
      → stream_of side (watch_open found listed (Heard number there piece) watched)
      ≡ with_more (if same_side side there then piece else []) [] (stream_of side watched)
  heard-open None number side there piece is = cc
  heard-open (Some pair) number Client Client piece is = more-heard piece watched.client
  heard-open (Some pair) number Client Upstream piece is = nothing-more watched.client
  heard-open (Some pair) number Upstream Client piece is = nothing-more watched.upstream
  heard-open (Some pair) number Upstream Upstream piece is = more-heard piece watched.upstream

  took-open : (found : Option Pair) (number : ℕ) (side there : Side) (count : ℕ) → IsSome found
      → stream_of side (watch_open found listed (Took number there count) watched)
      ≡ with_more [] (if same_side side there then take count (owed_by found there) else []) (stream_of side watched)
  took-open None number side there count is = cc
  took-open (Some pair) number Client Client count is = more-sent (take count pair.client.owed) watched.client
  took-open (Some pair) number Client Upstream count is = nothing-more watched.client
  took-open (Some pair) number Upstream Client count is = nothing-more watched.upstream
  took-open (Some pair) number Upstream Upstream count is = more-sent (take count pair.upstream.owed) watched.upstream

  linked-open : (found : Option Pair) (number : ℕ) (side : Side) → stream_of side (watch_open found listed (Connected number) watched) ≡ stream_of side watched
  linked-open None number side = refl
  linked-open (Some pair) number Client = refl
  linked-open (Some pair) number Upstream = refl

  ended-open : (found : Option Pair) (number : ℕ) (side : Side) → stream_of side (watch_open found listed (Ended number) watched) ≡ stream_of side watched
  ended-open None number side = refl
  ended-open (Some pair) number Client = refl
  ended-open (Some pair) number Upstream = refl

  lost-open : (found : Option Pair) (number : ℕ) (side : Side) → stream_of side (watch_open found listed (Lost number) watched) ≡ stream_of side watched
  lost-open None number side = refl
  lost-open (Some pair) number Client = refl
  lost-open (Some pair) number Upstream = refl

unopen : (found : Option Pair) → IsSome found → found ≡ None → ⊥
unopen None is none = cc
unopen (Some pair) is none = cc

-- an event of a pair that is open, by what is known of one pair
module _ (state : State) (number other : ℕ) (is_open : IsSome (find_pair other state.pairs)) where
  own_open : (number == other) ≡ true → IsSome (find_pair number state.pairs)
  own_open same = subst (λ (n : ℕ). IsSome (find_pair n state.pairs)) (sym (eqb-true number other same)) is_open

  heard-watch : (test : Bool) (side there : Side) (piece : List ℕ) (watched : Option Watched) → (number == other) ≡ test → GoodAt number state watched
      → stream_at side (watch_if test state number (Heard other there piece) watched)
      ≡ with_more (if test && same_side side there then piece else []) [] (stream_at side watched)
  heard-watch true side there piece None same good = absurd (unopen (find_pair number state.pairs) (own_open same) good)
  heard-watch true side there piece (Some watched) same good = heard-open state.listed watched (find_pair number state.pairs) other side there piece (own_open same)
  heard-watch false side there piece watched same good = nothing-more (stream_at side watched)

  took-watch : (test : Bool) (side there : Side) (count : ℕ) (watched : Option Watched) → (number == other) ≡ test → GoodAt number state watched
      → stream_at side (watch_if test state number (Took other there count) watched)
      ≡ with_more [] (if test && same_side side there then take count (owed_of other there state) else []) (stream_at side watched)
  took-watch true side there count None same good = absurd (unopen (find_pair number state.pairs) (own_open same) good)
  took-watch true side there count (Some watched) same good =
      took-open state.listed watched (find_pair number state.pairs) other side there count (own_open same)
      ∙ ap (λ (n : ℕ). with_more [] (if same_side side there then take count (owed_of n there state) else []) (stream_of side watched)) (eqb-true number other same)
  took-watch false side there count watched same good = nothing-more (stream_at side watched)

  linked-watch : (test : Bool) (side : Side) (watched : Option Watched) → stream_at side (watch_if test state number (Connected other) watched) ≡ stream_at side watched
  linked-watch true side None = refl
  linked-watch true side (Some watched) = linked-open state.listed watched (find_pair number state.pairs) other side
  linked-watch false side watched = refl

  ended-watch : (test : Bool) (side : Side) (watched : Option Watched) → stream_at side (watch_if test state number (Ended other) watched) ≡ stream_at side watched
  ended-watch true side None = refl
  ended-watch true side (Some watched) = ended-open state.listed watched (find_pair number state.pairs) other side
  ended-watch false side watched = refl

  lost-watch : (test : Bool) (side : Side) (watched : Option Watched) → stream_at side (watch_if test state number (Lost other) watched) ≡ stream_at side watched
  lost-watch true side None = refl
  lost-watch true side (Some watched) = lost-open state.listed watched (find_pair number state.pairs) other side
  lost-watch false side watched = refl

  end-watch : (there side : Side) (watched : Option Watched) → stream_at side (watch state number watched (end_of there other)) ≡ stream_at side watched
  end-watch Client side watched = ended-watch (number == other) side watched
  end-watch Upstream side watched = lost-watch (number == other) side watched

new-none : (side : Side) → stream_of side new_watched ≡ no_stream
new-none Client = refl
new-none Upstream = refl

unjoined-none : (listed : Listed) (number last : ℕ) (found : Option Pair) (spare : Bool) (side : Side) (watched : Option Watched) → number ≡ suc last → Good listed number last found spare watched
    → stream_at side watched ≡ no_stream
unjoined-none listed number last found spare side None is good = refl
unjoined-none listed number last found spare side (Some watched) is good = absurd (omega (arith, good.0))

joined-watch : (test : Bool) (state : State) (number : ℕ) (side : Side) (watched : Option Watched) → (number == suc state.last_pair) ≡ test → GoodAt number state watched
    → stream_at side (if test then Some new_watched else watched) ≡ stream_at side watched
joined-watch true state number side watched same good =
    new-none side ∙ sym (unjoined-none state.listed number state.last_pair (find_pair number state.pairs) (has_number number state.spares) side watched (eqb-true number (suc state.last_pair) same) good)
joined-watch false state number side watched same good = refl

-- ---- a call

-- what is known of a pair after some events is known with what a call moved
abbrev Streams : State → PairEntry → List Happening → Type 0
Streams state next events = (number : ℕ) (side : Side) (watched : Option Watched) → GoodAt number state watched
    → stream_at side (watched_on number state watched events)
    ≡ with_more (read_by number side next) (written_by number side next) (stream_at side watched)

-- a call's events fit, are of bytes, lead to this state, and move its bytes
record Brings (state : State) (next : PairEntry) (after : State) : Type 0 where
  fit : AllFit state (events_of next)
  range : All IsInRange (events_of next)
  leads : after ≡ run state (events_of next)
  streams : Streams state next (events_of next)

-- what is seen of a pair moves nothing
seen-stream : (side : Side) (found : Option Pair) (watched : Option Watched) → stream_at side (seen_at found watched) ≡ stream_at side watched
seen-stream side None watched = refl
seen-stream side (Some pair) None = refl
seen-stream Client (Some pair) (Some watched) = refl
seen-stream Upstream (Some pair) (Some watched) = refl

-- one event
one-streams : (state : State) (next : PairEntry) (event : Happening)
    → ((number : ℕ) (side : Side) (watched : Option Watched) → GoodAt number state watched
    → stream_at side (watch state number watched event) ≡ with_more (read_by number side next) (written_by number side next) (stream_at side watched))
    → Streams state next (event ∷ [])
one-streams state next event streams = λ number side watched good.
    seen-stream side (find_pair number (step state event).pairs) (watch state number watched event) ∙ streams number side watched good

one_in_range : (event : Happening) → IsInRange event → All IsInRange (event ∷ [])
one_in_range event range = All-cons IsInRange event [] range (All-nil _)

-- the answer of an accept
module _ (state : State) (line : List Thing) where
  accept-brings : (answer : Result Accepted WorldFault) → is_servable state Accept ≡ true → Brings state (entry.Accept answer) (after_accept state line answer).state
  accept-brings (Ok (accepted.Port number)) able = record {
    fit = ((Decides-ltb state.last_pair (2 ^ 64 - 1)).0 able, tt);
    range = one_in_range Joined tt;
    leads = refl;
    streams = one-streams state (entry.Accept (Ok (accepted.Port number))) Joined (λ number side watched good.
        joined-watch (number == suc state.last_pair) state number side watched refl good ∙ nothing-more (stream_at side watched));
  }
  accept-brings (Ok accepted.NotNow) able = record { fit = tt; range = All-nil _; leads = refl; streams = λ number side watched good. nothing-more (stream_at side watched) }
  accept-brings (Err Failed) able = record { fit = tt; range = All-nil _; leads = refl; streams = λ number side watched good. nothing-more (stream_at side watched) }
  accept-brings (Err Memory) able = record { fit = tt; range = All-nil _; leads = refl; streams = λ number side watched good. nothing-more (stream_at side watched) }

  poll-brings : (items : List PairReady) (answer : Result Polled WorldFault) → Brings state (entry.Poll items answer) (after_poll items state line answer).state
  poll-brings items (Ok polled.Some) = record { fit = tt; range = All-nil _; leads = refl; streams = λ number side watched good. nothing-more (stream_at side watched) }
  poll-brings items (Ok polled.Over) = record { fit = tt; range = All-nil _; leads = refl; streams = λ number side watched good. nothing-more (stream_at side watched) }
  poll-brings items (Err fault) = record { fit = tt; range = All-nil _; leads = refl; streams = λ number side watched good. nothing-more (stream_at side watched) }

  bind-brings : (path upstream : List ℕ) (answer : Result Unit WorldFault) → Brings state (entry.Bind path upstream answer) (after_bind answer state line).state
  bind-brings path upstream (Ok done) = record { fit = tt; range = All-nil _; leads = refl; streams = λ number side watched good. nothing-more (stream_at side watched) }
  bind-brings path upstream (Err fault) = record { fit = tt; range = All-nil _; leads = refl; streams = λ number side watched good. nothing-more (stream_at side watched) }

  part-brings : {E : Type 0} (pair number : ℕ) (later : List ℕ) (answer : Result Unit E) (told : Result Unit AllocError) → Brings state (entry.Disconnect pair told) (after_disconnect number later state line answer).state
  part-brings pair number later (Ok done) told = record { fit = tt; range = All-nil _; leads = refl; streams = λ number side watched good. nothing-more (stream_at side watched) }
  part-brings pair number later (Err want) told = record { fit = tt; range = All-nil _; leads = refl; streams = λ number side watched good. nothing-more (stream_at side watched) }

  close-brings : {E : Type 0} (pair number : ℕ) (later gone : List ℕ) (answer : Result Unit E) (told : Result Unit AllocError) → Brings state (entry.Close pair told) (after_close number later gone state line answer).state
  close-brings pair number later gone (Ok done) told = record { fit = tt; range = All-nil _; leads = refl; streams = λ number side watched good. nothing-more (stream_at side watched) }
  close-brings pair number later gone (Err want) told = record { fit = tt; range = All-nil _; leads = refl; streams = λ number side watched good. nothing-more (stream_at side watched) }

  -- no bytes, and no event
  read-quiet : (pair : ℕ) (there : Side) (number : ℕ) (side : Side) (watched : Option Watched)
      → stream_at side watched ≡ with_more (if (number == pair) && same_side side there then [] else []) [] (stream_at side watched)
  read-quiet pair there number side watched = quiet-stream _ [] (stream_at side watched) (none_if ((number == pair) && same_side side there)) refl

  write-quiet : (pair : ℕ) (there : Side) (number : ℕ) (side : Side) (watched : Option Watched)
      → stream_at side watched ≡ with_more [] (if (number == pair) && same_side side there then [] else []) (stream_at side watched)
  write-quiet pair there number side watched = quiet-stream [] _ (stream_at side watched) refl (none_if ((number == pair) && same_side side there))

  read-ends : (pair : ℕ) (there : Side) → IsSome (find_pair pair state.pairs) → (number : ℕ) (side : Side) (watched : Option Watched)
      → stream_at side (watch state number watched (end_of there pair))
      ≡ with_more (if (number == pair) && same_side side there then [] else []) [] (stream_at side watched)
  read-ends pair there is_open number side watched = end-watch state number pair is_open there side watched ∙ read-quiet pair there number side watched

  write-ends : (pair : ℕ) (there : Side) → IsSome (find_pair pair state.pairs) → (number : ℕ) (side : Side) (watched : Option Watched)
      → stream_at side (watch state number watched (end_of there pair))
      ≡ with_more [] (if (number == pair) && same_side side there then [] else []) (stream_at side watched)
  write-ends pair there is_open number side watched = end-watch state number pair is_open there side watched ∙ write-quiet pair there number side watched

  -- the end of a side that is reached
  end-fits : (pair : ℕ) (there : Side) → is_reached pair there state ≡ true → IsSome (find_pair pair state.pairs) → Fits (end_of there pair) state
  end-fits pair Client reached is_open = is_open
  end-fits pair Upstream reached is_open = reached

  end-range : (pair : ℕ) (there : Side) → IsInRange (end_of there pair)
  end-range pair Client = tt
  end-range pair Upstream = tt

  connect-brings : (pair : ℕ) (answer : Result Linked WorldFault) → IsTrue (can_send pair Upstream state) → IsTrue (not (is_reached pair Upstream state)) → IsSome (find_pair pair state.pairs)
      → Brings state (entry.Connect pair answer) (after_connect pair state line answer).state
  connect-brings pair (Ok linked.Made) sends apart is_open = record {
    fit = ((sends, apart), tt);
    range = one_in_range (Connected pair) tt;
    leads = refl;
    streams = one-streams state (entry.Connect pair (Ok linked.Made)) (Connected pair) (λ number side watched good.
        linked-watch state number pair is_open (number == pair) side watched ∙ nothing-more (stream_at side watched));
  }
  connect-brings pair (Ok linked.NotNow) sends apart is_open = record { fit = tt; range = All-nil _; leads = refl; streams = λ number side watched good. nothing-more (stream_at side watched) }
  connect-brings pair (Err Failed) sends apart is_open = record {
    fit = (is_open, tt);
    range = one_in_range (Ended pair) tt;
    leads = refl;
    streams = one-streams state (entry.Connect pair (Err Failed)) (Ended pair) (λ number side watched good.
        ended-watch state number pair is_open (number == pair) side watched ∙ nothing-more (stream_at side watched));
  }
  connect-brings pair (Err Memory) sends apart is_open = record { fit = tt; range = All-nil _; leads = refl; streams = λ number side watched good. nothing-more (stream_at side watched) }

  read-brings : (pair : ℕ) (there : Side) (room : ℕ) (bytes : List ℕ) (answer : Result Got WorldFault) → is_reached pair there state ≡ true → IsSome (find_pair pair state.pairs) → is_got room bytes answer ≡ true
      → Brings state (entry.Read pair there room bytes answer) (after_read pair there bytes state line answer).state
  read-brings pair there room bytes (Ok (got.Bytes n)) reached is_open may =
      let parts = two (n == length bytes) (is_piece n room && are_bytes bytes) may in
      let later = two (is_piece n room) (are_bytes bytes) parts.1 in
      let some = (piece_is n room later.0).0 in
      record {
        fit = ((reached, subst (λ (m : ℕ). 0 < m) (eqb-true n (length bytes) parts.0) some), tt);
        range = one_in_range (Heard pair there bytes) (bytes_are bytes later.1);
        leads = refl;
        streams = one-streams state (entry.Read pair there room bytes (Ok (got.Bytes n))) (Heard pair there bytes)
            (λ number side watched good. heard-watch state number pair is_open (number == pair) side there bytes watched refl good);
      }
  read-brings pair there room bytes (Ok got.End) reached is_open may = record {
    fit = (end-fits pair there reached is_open, tt);
    range = one_in_range (end_of there pair) (end-range pair there);
    leads = refl;
    streams = one-streams state (entry.Read pair there room bytes (Ok got.End)) (end_of there pair) (λ number side watched good. read-ends pair there is_open number side watched);
  }
  read-brings pair there room bytes (Ok got.NotNow) reached is_open may = record { fit = tt; range = All-nil _; leads = refl; streams = λ number side watched good. read-quiet pair there number side watched }
  read-brings pair there room bytes (Err Failed) reached is_open may = record {
    fit = (end-fits pair there reached is_open, tt);
    range = one_in_range (end_of there pair) (end-range pair there);
    leads = refl;
    streams = one-streams state (entry.Read pair there room bytes (Err Failed)) (end_of there pair) (λ number side watched good. read-ends pair there is_open number side watched);
  }
  read-brings pair there room bytes (Err Memory) reached is_open may = record { fit = tt; range = All-nil _; leads = refl; streams = λ number side watched good. read-quiet pair there number side watched }

  write-brings : (pair : ℕ) (there : Side) (offered : List ℕ) (answer : Result Wrote WorldFault) → is_reached pair there state ≡ true → IsSome (find_pair pair state.pairs) → offered ≡ owed_of pair there state → is_taken offered answer ≡ true
      → Brings state (entry.Write pair there offered answer) (after_write pair there state line answer).state
  write-brings pair there offered (Ok (wrote.Took n)) reached is_open owed may =
      let piece = piece_is n (length offered) may in
      record {
        fit = ((reached, (piece.0, subst (λ (bytes : List ℕ). n ≤ length bytes) owed piece.1)), tt);
        range = one_in_range (Took pair there n) tt;
        leads = refl;
        streams = one-streams state (entry.Write pair there offered (Ok (wrote.Took n))) (Took pair there n) (λ number side watched good.
            took-watch state number pair is_open (number == pair) side there n watched refl good
            ∙ ap (λ (bytes : List ℕ). with_more [] (if (number == pair) && same_side side there then take n bytes else []) (stream_at side watched)) (sym owed));
      }
  write-brings pair there offered (Ok wrote.NotNow) reached is_open owed may = record { fit = tt; range = All-nil _; leads = refl; streams = λ number side watched good. write-quiet pair there number side watched }
  write-brings pair there offered (Err Failed) reached is_open owed may = record {
    fit = (end-fits pair there reached is_open, tt);
    range = one_in_range (end_of there pair) (end-range pair there);
    leads = refl;
    streams = one-streams state (entry.Write pair there offered (Err Failed)) (end_of there pair) (λ number side watched good. write-ends pair there is_open number side watched);
  }
  write-brings pair there offered (Err Memory) reached is_open owed may = record { fit = tt; range = All-nil _; leads = refl; streams = λ number side watched good. write-quiet pair there number side watched }

  lands : (next : PairEntry) (reading to : Reading) → reading ≡ to → Brings state next reading.state → Brings state next to.state
  lands next reading to same brings = subst (λ (r : Reading). Brings state next r.state) same brings

  free-brings : (next : PairEntry) (to : Reading) → allowed_at Free state line next ≡ Some to → Brings state next to.state
  free-brings (entry.Bind path upstream answer) to legal = cc
  free-brings (entry.Poll items answer) to legal =
      lands (entry.Poll items answer) (after_poll items state line answer) to (only_some (is_idle state line) (after_poll items state line answer) to legal).1 (poll-brings items answer)
  free-brings (entry.Accept answer) to legal =
      let passed = only_some (is_next state line Accept && is_numbered state.last_pair answer) (after_accept state line answer) to legal in
      let next = (two (is_next state line Accept) (is_numbered state.last_pair answer) passed.0).0 in
      lands (entry.Accept answer) (after_accept state line answer) to passed.1 (accept-brings answer (next-servable state Accept line next))
  free-brings (entry.Connect pair answer) to legal =
      let thing = Write pair Upstream in
      let apart = not (is_reached pair Upstream state) in
      let passed = only_some (is_next state line thing && apart) (after_connect pair state line answer) to legal in
      let parts = two (is_next state line thing) apart passed.0 in
      let sends = next-servable state thing line parts.0 in
      lands (entry.Connect pair answer) (after_connect pair state line answer) to passed.1
      (connect-brings pair answer sends parts.1 (sent_is_open (find_pair pair state.pairs) Upstream (has_place state) sends))
  free-brings (entry.Read pair side room bytes answer) to legal =
      let thing = Read pair side in
      let tests = (room == read_room) && is_got room bytes answer in
      let passed = only_some (is_next state line thing && tests) (after_read pair side bytes state line answer) to legal in
      let parts = two (is_next state line thing) tests passed.0 in
      let reached = wanted_is_reached (find_pair pair state.pairs) side (next-servable state thing line parts.0) in
      lands (entry.Read pair side room bytes answer) (after_read pair side bytes state line answer) to passed.1
      (read-brings pair side room bytes answer reached (reached_is_open (find_pair pair state.pairs) side reached)
      (two (room == read_room) (is_got room bytes answer) parts.1).1)
  free-brings (entry.Write pair side offered answer) to legal =
      let thing = Write pair side in
      let offers = bytes_eq offered (owed_of pair side state) && is_taken offered answer in
      let tests = is_reached pair side state && offers in
      let passed = only_some (is_next state line thing && tests) (after_write pair side state line answer) to legal in
      let parts = two (is_next state line thing) tests passed.0 in
      let there = two (is_reached pair side state) offers parts.1 in
      let more = two (bytes_eq offered (owed_of pair side state)) (is_taken offered answer) there.1 in
      lands (entry.Write pair side offered answer) (after_write pair side state line answer) to passed.1
      (write-brings pair side offered answer there.0 (reached_is_open (find_pair pair state.pairs) side there.0)
      ((bytes_decides offered (owed_of pair side state)).0 more.0) more.1)
  free-brings (entry.Disconnect pair answer) to legal = cc
  free-brings (entry.Close pair answer) to legal = cc

  binding-brings : (path upstream : List ℕ) (next : PairEntry) (to : Reading) → allowed_at (Binding path upstream) state line next ≡ Some to → Brings state next to.state
  binding-brings path upstream (entry.Bind one another answer) to legal =
      lands (entry.Bind one another answer) (after_bind answer state line) to (only_some (bytes_eq one path && bytes_eq another upstream) (after_bind answer state line) to legal).1 (bind-brings one another answer)
  binding-brings path upstream (entry.Poll items answer) to legal = cc
  binding-brings path upstream (entry.Accept answer) to legal = cc
  binding-brings path upstream (entry.Connect pair answer) to legal = cc
  binding-brings path upstream (entry.Read pair side room bytes answer) to legal = cc
  binding-brings path upstream (entry.Write pair side offered answer) to legal = cc
  binding-brings path upstream (entry.Disconnect pair answer) to legal = cc
  binding-brings path upstream (entry.Close pair answer) to legal = cc

  closing-brings : (number : ℕ) (later gone : List ℕ) (next : PairEntry) (to : Reading) → allowed_at (Closing number later gone) state line next ≡ Some to → Brings state next to.state
  closing-brings number later gone (entry.Bind one another answer) to legal = cc
  closing-brings number later gone (entry.Poll items answer) to legal = cc
  closing-brings number later gone (entry.Accept answer) to legal = cc
  closing-brings number later gone (entry.Connect pair answer) to legal = cc
  closing-brings number later gone (entry.Read pair side room bytes answer) to legal = cc
  closing-brings number later gone (entry.Write pair side offered answer) to legal = cc
  closing-brings number later gone (entry.Disconnect pair answer) to legal = cc
  closing-brings number later gone (entry.Close pair answer) to legal =
      lands (entry.Close pair answer) (after_close number later gone state line answer) to (only_some (pair == number) (after_close number later gone state line answer) to legal).1
      (close-brings pair number later gone answer answer)

  parting-brings : (number : ℕ) (later : List ℕ) (next : PairEntry) (to : Reading) → allowed_at (Parting number later) state line next ≡ Some to → Brings state next to.state
  parting-brings number later (entry.Bind one another answer) to legal = cc
  parting-brings number later (entry.Poll items answer) to legal = cc
  parting-brings number later (entry.Accept answer) to legal = cc
  parting-brings number later (entry.Connect pair answer) to legal = cc
  parting-brings number later (entry.Read pair side room bytes answer) to legal = cc
  parting-brings number later (entry.Write pair side offered answer) to legal = cc
  parting-brings number later (entry.Disconnect pair answer) to legal =
      lands (entry.Disconnect pair answer) (after_disconnect number later state line answer) to (only_some (pair == number) (after_disconnect number later state line answer) to legal).1
      (part-brings pair number later answer answer)
  parting-brings number later (entry.Close pair answer) to legal = cc

  brings : (due : Due) (next : PairEntry) (to : Reading) → allowed_at due state line next ≡ Some to → Brings state next to.state
  brings (Binding path upstream) next to legal = binding-brings path upstream next to legal
  brings Free next to legal = free-brings next to legal
  brings (Closing pair later gone) next to legal = closing-brings pair later gone next to legal
  brings (Parting pair later) next to legal = parting-brings pair later next to legal
  brings Nothing next to legal = cc

-- ---- all calls

run-append : (state : State) (some more : List Happening) → run state (some ++ more) ≡ run (run state some) more
run-append state [] more = refl
run-append state (event ∷ some) more = run-append (step state event) some more

fit-append : (state : State) (some more : List Happening) → AllFit state some → AllFit (run state some) more → AllFit state (some ++ more)
fit-append state [] more fit later = later
fit-append state (event ∷ some) more fit later = (fit.0, fit-append (step state event) some more fit.1 later)

watched-append : (number : ℕ) (state : State) (watched : Option Watched) (some more : List Happening)
    → watched_on number state watched (some ++ more) ≡ watched_on number (run state some) (watched_on number state watched some) more
watched-append number state watched [] more = refl
watched-append number state watched (event ∷ some) more =
    watched-append number (step state event) (seen_at (find_pair number (step state event).pairs) (watch state number watched event)) some more

-- what calls from one reading on bring
record CallsBring (from to : Reading) (calls : List PairEntry) : Type 0 where
  fit : AllFit from.state (events_brought calls)
  range : All IsInRange (events_brought calls)
  leads : to.state ≡ run from.state (events_brought calls)
  streams : (number : ℕ) (side : Side) (watched : Option Watched) → GoodAt number from.state watched
      → stream_at side (watched_on number from.state watched (events_brought calls))
      ≡ with_more (flat_map (read_by number side) calls) (flat_map (written_by number side) calls) (stream_at side watched)

more-onto : (heard sent : List ℕ) (more_heard more_sent : List ℕ) (stream : Stream) → with_more more_heard more_sent (with_more heard sent stream) ≡ with_more (heard ++ more_heard) (sent ++ more_sent) stream
more-onto heard sent more_heard more_sent stream =
    ap (λ (h : List ℕ). record { heard = h; sent = (stream.sent ++ sent) ++ more_sent }) (append_assoc stream.heard heard more_heard)
    ∙ ap (λ (s : List ℕ). record { heard = stream.heard ++ (heard ++ more_heard); sent = s }) (append_assoc stream.sent sent more_sent)

calls-bring : (from to : Reading) (calls : List PairEntry) → read_on from calls ≡ Some to → CallsBring from to calls
calls-bring from to [] legal = let same : from ≡ to = cc in record {
  fit = tt;
  range = All-nil _;
  leads = ap (λ (r : Reading). r.state) (sym same);
  streams = λ number side watched good. nothing-more (stream_at side watched);
}
calls-bring from to (next ∷ calls) legal =
    let one = then_some (λ (after : Reading). read_on after calls) (allowed from next) to legal in
    let first = brings from.state from.line from.due next one.0 one.1 in
    let rest = calls-bring one.0 to calls one.2 in
    record {
      fit = fit-append from.state (events_of next) (events_brought calls) first.fit (subst (λ (s : State). AllFit s (events_brought calls)) first.leads rest.fit);
      range = All-append IsInRange (events_of next) (events_brought calls) first.range rest.range;
      leads = rest.leads ∙ ap (λ (s : State). run s (events_brought calls)) first.leads ∙ sym (run-append from.state (events_of next) (events_brought calls));
      streams = λ number side watched good.
          let between = watched_on number from.state watched (events_of next) in
          let after = run from.state (events_of next) in
          let good_then = run-good number from.state watched (events_of next) first.range first.fit good in
          ap (stream_at side) (watched-append number from.state watched (events_of next) (events_brought calls))
          ∙ ap (λ (s : State). stream_at side (watched_on number s between (events_brought calls))) (sym first.leads)
          ∙ rest.streams number side between (subst (λ (s : State). GoodAt number s between) (sym first.leads) good_then)
          ∙ ap (with_more (flat_map (read_by number side) calls) (flat_map (written_by number side) calls)) (first.streams number side watched good)
          ∙ more-onto (read_by number side next) (written_by number side next) (flat_map (read_by number side) calls) (flat_map (written_by number side) calls) (stream_at side watched);
    }

-- ---- the law

passed : (listed : Listed) (calls : List PairEntry) (number last : ℕ) (pairs : List Numbered) (spare : Bool) (watched : Option Watched)
    → Good listed number last (find_pair number pairs) spare watched → IfSome watched (IsExact listed) → IfSome watched (KeepsPurposes listed)
    → ((side : Side) → stream_at side watched ≡ stream_by number side calls) → IsPassed listed calls pairs number
passed listed calls number last pairs spare None good exact kept streams = record {
  watched = new_watched;
  own = λ pair is. absurd (let none = good in cc);
  client = streams Client;
  upstream = streams Upstream;
  exact = (new-holds listed).exact;
  kept = keeps listed new_watched (new-holds listed);
}
passed listed calls number last pairs spare (Some watched) good exact kept streams =
    record { watched = watched; own = good.1.same; client = streams Client; upstream = streams Upstream; exact = exact; kept = kept }

pub each_passes : EachPasses
each_passes listed path upstream calls to legal =
    let bring = calls-bring (first_reading listed path upstream) to calls legal in
    let after : State = run (first_state listed) (events_brought calls) in
    record {
      fit = bring.fit;
      state = bring.leads;
      few = subst AreFew (sym bring.leads) (each_holds_few listed (events_brought calls) bring.fit);
      each = λ number. passed listed calls number after.last_pair to.state.pairs (has_number number after.spares) (watched_of number listed (events_brought calls))
          (subst (λ (s : State). Good listed number after.last_pair (find_pair number s.pairs) (has_number number after.spares) (watched_of number listed (events_brought calls)))
          (sym bring.leads)
          (subst (λ l. Good l number after.last_pair (find_pair number after.pairs) (has_number number after.spares) (watched_of number listed (events_brought calls)))
          (listed-run (first_state listed) (events_brought calls)) (run-good number (first_state listed) None (events_brought calls) bring.range bring.fit refl)))
          (each_is_exact listed (events_brought calls) number bring.range bring.fit) (each_keeps_purposes listed (events_brought calls) number bring.range bring.fit) (λ side. bring.streams number side None refl);
    }
