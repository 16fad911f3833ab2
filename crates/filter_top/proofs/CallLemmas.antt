-- What each call leaves of a reading, by its answer.
use Rattle.std.proofs.Common.{◌≡◌, ◌∙◌, ℕ, suc, All, nat_lt, ◌≤◌, ◌+◌, ◌-◌, ◌^◌, ◌<◌, Bool, true, false, List, [], ◌∷◌, length, drop, get_or, Option, Some, None, Result, Ok, refl, sym, ap, not, ◌&&◌, ◌==◌, if◌then◌else◌, add-one, arith}
use Rattle.std.proofs.Math.Seq.{drop-cons}
use Rattle.std.specs.Prelude.{IsSome, ◌||◌, is_some}
use Rattle.std.specs.declared.alloc.AllocError.{AllocError}
use Rattle.std.specs.Str.{bytes_eq}
use Rattle.std.specs.Cmp.Lexicographic.{bytes_decides}
use Rattle.std.proofs.lemmas.Bool.Decides.{Decides-eqb, Decides-ltb}
use Rattle.world_ports.specs.declared.answers.Accepted.{Accepted}
use Rattle.world_ports.specs.declared.answers.Got.{Got}
use Rattle.world_ports.specs.declared.answers.Polled.{Polled}
use Rattle.world_ports.specs.declared.answers.WorldFault.{WorldFault}
use Rattle.world_ports.specs.declared.answers.Wrote.{Wrote}
use Rattle.pair_ports.specs.declared.entry.Linked.{Linked}
use Rattle.pair_ports.specs.declared.entry.PairEntry.TheVariants as entry
use Rattle.pair_ports.specs.declared.entry.PairReady.{PairReady}
use Rattle.pair_ports.specs.declared.side.Side.{Side}
use Rattle.pair_ports.specs.declared.side.Side.TheVariants.{Client, Upstream}
use Rattle.filter_model.specs.declared.thing.Thing.{Thing}
use Rattle.filter_model.specs.declared.thing.Thing.TheVariants.{Accept, Read, Write}
use Rattle.filter_model.specs.Pairs.{Pair, half_of, is_some_bytes, reaches, wants_half}
use Rattle.filter_model.specs.Filters.{Connected, Fits, Heard, Joined, State, find_pair, happened, has_place, is_crowded, is_reached, most_pairs, owed_by, owed_of, reached_by, sends_by, step, trimmed, trimmed_by, wants_by}
use Rattle.filter_model.specs.Lines.{first_servable, is_idle, is_next, is_servable, is_thing, same_side, same_thing}
use Rattle.filter_model.specs.Answered.{Binding, Closing, Free, Parting, after_accept, after_bind, after_close, after_connect, after_disconnect, after_poll, after_read, after_write, at, due_of, only_if}
use Rattle.filter_model.specs.LegalPairs.{allowed}
use Rattle.world_ports.specs.Worlds.{GotWithin, NumbersPort, TookWithin, read_room}
use Rattle.world_ports.specs.declared.answers.Accepted.TheVariants as accepted
use Rattle.world_ports.specs.declared.answers.Got.TheVariants as got
use Rattle.world_ports.specs.declared.answers.Wrote.TheVariants as wrote
use Rattle.std.proofs.lemmas.List.Elements.{All-head, All-tail}
use Rattle.filter_model.specs.Possible.{are_bytes, is_got, is_numbered, is_piece, is_taken}
use Rattle.filter_model.proofs.WatchLemmas.{last-at, last-joined}

-- ---- things

same_side-refl : (side : Side) → same_side side side ≡ true
same_side-refl Client = refl
same_side-refl Upstream = refl

both : (here there : Bool) → here ≡ true → there ≡ true → (here && there) ≡ true
both true there is also = also
both false there is also = cc

same_thing-refl : (thing : Thing) → same_thing thing thing ≡ true
same_thing-refl Accept = refl
same_thing-refl (Read pair side) = both (pair == pair) (same_side side side) ((Decides-eqb pair pair).1 refl) (same_side-refl side)
same_thing-refl (Write pair side) = both (pair == pair) (same_side side side) ((Decides-eqb pair pair).1 refl) (same_side-refl side)

-- ---- the first thing that can be served

next_is : (state : State) (line : List Thing) (thing : Thing) → first_servable state line ≡ Some thing → is_next state line thing ≡ true
next_is state line thing found = ap (is_thing thing) found ∙ same_thing-refl thing

servable_by : (test : Bool) (state : State) (first : Thing) (line : List Thing) (thing : Thing) → is_servable state first ≡ test → (first_servable state line ≡ Some thing → is_servable state thing ≡ true) → (if test then Some first else first_servable state line) ≡ Some thing → is_servable state thing ≡ true
servable_by true state first line thing is rest found = let same : first ≡ thing = cc in ap (is_servable state) (sym same) ∙ is
servable_by false state first line thing is rest found = rest found

can_serve : (state : State) (line : List Thing) (thing : Thing) → first_servable state line ≡ Some thing → is_servable state thing ≡ true
can_serve state [] thing found = cc
can_serve state (first ∷ line) thing found = servable_by (is_servable state first) state first line thing refl (can_serve state line thing) found

pub nothing_is : (state : State) (line : List Thing) → first_servable state line ≡ None → is_idle state line ≡ true
nothing_is state line none = ap (λ (o : Option Thing). not (is_some o)) none

-- ---- what fits

pub joined_fits : (state : State) (line : List Thing) → first_servable state line ≡ Some Accept → state.last_pair < 2 ^ 64 - 1
joined_fits state line found = (Decides-ltb state.last_pair (2 ^ 64 - 1)).0 (can_serve state line Accept found)

two : (here there : Bool) → (here && there) ≡ true → (here ≡ true) × (there ≡ true)
two true there is = (refl, is)
two false there is = cc

wanted_is_reached : (found : Option Pair) (side : Side) → wants_by found side ≡ true → reached_by found side ≡ true
wanted_is_reached None side wanted = cc
wanted_is_reached (Some pair) side wanted = (two (reaches side pair) (wants_half (half_of side pair)) wanted).0

reached_is_open : (found : Option Pair) (side : Side) → reached_by found side ≡ true → IsSome found
reached_is_open None side reached = cc
reached_is_open (Some pair) side reached = refl

sent_is_open : (found : Option Pair) (side : Side) (place : Bool) → sends_by found side place ≡ true → IsSome found
sent_is_open None side place sends = cc
sent_is_open (Some pair) side place sends = refl

sent_is_owed : (found : Option Pair) (side : Side) (place : Bool) → sends_by found side place ≡ true → is_some_bytes (owed_by found side) ≡ true
sent_is_owed None side place sends = cc
sent_is_owed (Some pair) side place sends = (two (is_some_bytes (half_of side pair).owed) (reaches side pair || place) sends).0

pub read_reached : (state : State) (line : List Thing) (pair : ℕ) (side : Side) → first_servable state line ≡ Some (Read pair side) → is_reached pair side state ≡ true
read_reached state line pair side found = wanted_is_reached (find_pair pair state.pairs) side (can_serve state line (Read pair side) found)

pub read_open : (state : State) (line : List Thing) (pair : ℕ) (side : Side) → first_servable state line ≡ Some (Read pair side) → IsSome (find_pair pair state.pairs)
read_open state line pair side found = reached_is_open (find_pair pair state.pairs) side (read_reached state line pair side found)

pub write_open : (state : State) (line : List Thing) (pair : ℕ) (side : Side) → first_servable state line ≡ Some (Write pair side) → IsSome (find_pair pair state.pairs)
write_open state line pair side found = sent_is_open (find_pair pair state.pairs) side (has_place state) (can_serve state line (Write pair side) found)

pub write_some : (state : State) (line : List Thing) (pair : ℕ) (side : Side) → first_servable state line ≡ Some (Write pair side) → 0 < length (owed_of pair side state)
write_some state line pair side found =
    (Decides-ltb 0 (length (owed_of pair side state))).0 (sent_is_owed (find_pair pair state.pairs) side (has_place state) (can_serve state line (Write pair side) found))

-- what may be sent upstream where there is no connection makes one
pub connected_fits : (state : State) (line : List Thing) (pair : ℕ) → first_servable state line ≡ Some (Write pair Upstream) → is_reached pair Upstream state ≡ false → Fits (Connected pair) state
connected_fits state line pair found apart = (can_serve state line (Write pair Upstream) found, ap not apart)

-- there always is a connection to a client
pub unreached_upstream : (state : State) (line : List Thing) (pair : ℕ) (side : Side) → first_servable state line ≡ Some (Write pair side) → is_reached pair side state ≡ false
    → (side ≡ Upstream)
unreached_upstream state line pair Upstream found apart = refl
unreached_upstream state line pair Client found apart = by_found (find_pair pair state.pairs) (write_open state line pair Client found) apart
  where
    by_found : (known : Option Pair) → IsSome known → reached_by known Client ≡ false → Client ≡ Upstream
    by_found None open_yet unreached = cc
    by_found (Some one) open_yet unreached = cc

-- ---- the number of the last pair

trimmed_last : (test : Bool) (spares : List ℕ) (state : State) → (trimmed_by test spares state).last_pair ≡ state.last_pair
trimmed_last true [] state = refl
trimmed_last true (oldest ∷ later) state = refl
trimmed_last false spares state = refl

-- to give a connection back makes no pair
last_trimmed : (state : State) → (trimmed state).last_pair ≡ state.last_pair
last_trimmed state = trimmed_last (is_crowded state) state.spares state

pub last_joined : (state : State) → (step state Joined).last_pair ≡ state.last_pair + 1
last_joined state =
    last_trimmed (happened state Joined) ∙ last-joined (nat_lt (length state.pairs) most_pairs) state ∙ sym (add-one state.last_pair)

pub last_heard : (state : State) (pair : ℕ) (side : Side) (piece : List ℕ) → (step state (Heard pair side piece)).last_pair ≡ state.last_pair
last_heard state pair side piece =
    last_trimmed (happened state (Heard pair side piece)) ∙ last-at (find_pair pair state.pairs) pair (Heard pair side piece) state

-- ---- answers that may come

-- a client that was accepted has the next number
pub numbered : (last before now number : ℕ) → before ≡ last → NumbersPort (Ok (accepted.Port number)) before now → is_numbered last (Ok (accepted.Port number)) ≡ true
numbered last before now number same is = (Decides-eqb number (suc last)).1 (is.0 ∙ ap (λ (n : ℕ). n + 1) same ∙ add-one last)

piece : (count most : ℕ) → 0 < count → count ≤ most → is_piece count most ≡ true
piece count most some within =
    both (nat_lt 0 count) (nat_lt count (suc most)) ((Decides-ltb 0 count).1 some) ((Decides-ltb count (suc most)).1 (omega (arith, within)))

bytes_are : (bytes : List ℕ) → All (λ byte. byte < 256) bytes → are_bytes bytes ≡ true
bytes_are [] small = refl
bytes_are (byte ∷ bytes) small =
    both (nat_lt byte 256) (are_bytes bytes) ((Decides-ltb byte 256).1 (All-head (λ (b : ℕ). b < 256) byte bytes small)) (bytes_are bytes (All-tail (λ (b : ℕ). b < 256) byte bytes small))

-- what was read is what there was room for
pub got_is : (room n : ℕ) (bytes : List ℕ) → n ≡ length bytes → GotWithin (Ok (got.Bytes n)) room → All (λ byte. byte < 256) bytes → is_got room bytes (Ok (got.Bytes n)) ≡ true
got_is room n bytes same within small =
    both (n == length bytes) (is_piece n room && are_bytes bytes) ((Decides-eqb n (length bytes)).1 same)
    (both (is_piece n room) (are_bytes bytes) (piece n room within.0 within.1) (bytes_are bytes small))

-- what was taken was offered
pub taken_is : (offered : List ℕ) (n : ℕ) → TookWithin (Ok (wrote.Took n)) (length offered) → is_taken offered (Ok (wrote.Took n)) ≡ true
taken_is offered n within = piece n (length offered) within.0 within.1

-- ---- calls

pub bind_any : (state : State) (line : List Thing) (path upstream : List ℕ) (answer : Result Unit WorldFault) → allowed (at state line (Binding path upstream)) (entry.Bind path upstream answer) ≡ Some (after_bind answer state line)
bind_any state line path upstream answer =
    ap (λ (b : Bool). only_if b (after_bind answer state line)) (both (bytes_eq path path) (bytes_eq upstream upstream) ((bytes_decides path path).1 refl) ((bytes_decides upstream upstream).1 refl))

pub poll_any : (state : State) (line : List Thing) (items : List PairReady) (answer : Result Polled WorldFault) → is_idle state line ≡ true → allowed (at state line Free) (entry.Poll items answer) ≡ Some (after_poll items state line answer)
poll_any state line items answer idle = ap (λ (b : Bool). only_if b (after_poll items state line answer)) idle

pub accept_any : (state : State) (line : List Thing) (answer : Result Accepted WorldFault) → first_servable state line ≡ Some Accept → is_numbered state.last_pair answer ≡ true → allowed (at state line Free) (entry.Accept answer) ≡ Some (after_accept state line answer)
accept_any state line answer found may =
    ap (λ (b : Bool). only_if b (after_accept state line answer)) (both (is_next state line Accept) (is_numbered state.last_pair answer) (next_is state line Accept found) may)

pub read_any : (state : State) (line : List Thing) (pair : ℕ) (side : Side) (room : ℕ) (bytes : List ℕ) (answer : Result Got WorldFault) → first_servable state line ≡ Some (Read pair side) → room ≡ read_room → is_got room bytes answer ≡ true → allowed (at state line Free) (entry.Read pair side room bytes answer) ≡ Some (after_read pair side bytes state line answer)
read_any state line pair side room bytes answer found is may =
    ap (λ (b : Bool). only_if b (after_read pair side bytes state line answer)) (both (is_next state line (Read pair side)) ((room == read_room) && is_got room bytes answer) (next_is state line (Read pair side) found)
    (both (room == read_room) (is_got room bytes answer) ((Decides-eqb room read_room).1 is) may))

pub connect_any : (state : State) (line : List Thing) (pair : ℕ) (answer : Result Linked WorldFault) → first_servable state line ≡ Some (Write pair Upstream) → is_reached pair Upstream state ≡ false → allowed (at state line Free) (entry.Connect pair answer) ≡ Some (after_connect pair state line answer)
connect_any state line pair answer found apart =
    ap (λ (b : Bool). only_if b (after_connect pair state line answer)) (both (is_next state line (Write pair Upstream)) (not (is_reached pair Upstream state)) (next_is state line (Write pair Upstream) found) (ap not apart))

pub write_any : (state : State) (line : List Thing) (pair : ℕ) (side : Side) (offered : List ℕ) (answer : Result Wrote WorldFault) → first_servable state line ≡ Some (Write pair side) → is_reached pair side state ≡ true → offered ≡ owed_of pair side state → is_taken offered answer ≡ true → allowed (at state line Free) (entry.Write pair side offered answer) ≡ Some (after_write pair side state line answer)
write_any state line pair side offered answer found reached is may =
    let offers = bytes_eq offered (owed_of pair side state) && is_taken offered answer in
    ap (λ (b : Bool). only_if b (after_write pair side state line answer)) (both (is_next state line (Write pair side)) (is_reached pair side state && offers) (next_is state line (Write pair side) found)
    (both (is_reached pair side state) offers reached
    (both (bytes_eq offered (owed_of pair side state)) (is_taken offered answer) ((bytes_decides offered (owed_of pair side state)).1 is) may)))

pub close_any : (state : State) (line : List Thing) (pair : ℕ) (later parts : List ℕ) (answer : Result Unit AllocError) → allowed (at state line (Closing pair later parts)) (entry.Close pair answer) ≡ Some (after_close pair later parts state line answer)
close_any state line pair later parts answer = ap (λ (b : Bool). only_if b (after_close pair later parts state line answer)) ((Decides-eqb pair pair).1 refl)

pub part_any : (state : State) (line : List Thing) (pair : ℕ) (later : List ℕ) (answer : Result Unit AllocError) → allowed (at state line (Parting pair later)) (entry.Disconnect pair answer) ≡ Some (after_disconnect pair later state line answer)
part_any state line pair later answer = ap (λ (b : Bool). only_if b (after_disconnect pair later state line answer)) ((Decides-eqb pair pair).1 refl)

-- what is left to close, from an index on
pub due-drop : (pairs parts : List ℕ) (index : ℕ) → index < length pairs → due_of (drop index pairs) parts ≡ Closing (get_or pairs index 0) (drop (index + 1) pairs) parts
due-drop pairs parts index below =
    ap (λ (l : List ℕ). due_of l parts) (drop-cons pairs index 0 below)
    ∙ ap (λ (n : ℕ). Closing (get_or pairs index 0) (drop n pairs) parts) (sym (add-one index))

-- and to give back
pub part-drop : (pairs : List ℕ) (index : ℕ) → index < length pairs → due_of [] (drop index pairs) ≡ Parting (get_or pairs index 0) (drop (index + 1) pairs)
part-drop pairs index below =
    ap (due_of []) (drop-cons pairs index 0 below)
    ∙ ap (λ (n : ℕ). Parting (get_or pairs index 0) (drop n pairs)) (sym (add-one index))
