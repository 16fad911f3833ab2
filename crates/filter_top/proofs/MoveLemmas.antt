-- Calls one after another.
use Rattle.std.proofs.Common.{◌≡◌, ◌∙◌, inl, inr, Bool, true, false, List, [], ◌∷◌, ◌++◌, Option, Some, None, Result, Ok, Err, refl, sym, ap, subst, append_assoc}
use Rattle.std.proofs.lemmas.List.{append-nil}
use Rattle.std.specs.Prelude.{OnOk}
use Rattle.world_ports.specs.declared.answers.Polled.{Polled}
use Rattle.world_ports.specs.declared.answers.WorldFault.{WorldFault}
use Rattle.world_ports.specs.Journal.{Grows, Tells, is_short}
use Rattle.pair_ports.specs.declared.entry.PairEntry.{PairEntry}
use Rattle.pair_ports.specs.declared.entry.PairEntry.TheVariants as entry
use Rattle.filter_model.specs.Answered.{Reading}
use Rattle.filter_model.specs.LegalPairs.{allowed, read_on}
use Rattle.filter_model.proofs.JournalLemmas.{read_both, read_one}
use Rattle.filter_top.specs.declared.status.FilterStatus.{FilterStatus}
use Rattle.filter_top.specs.declared.status.FilterStatus.TheVariants as status
use Rattle.filter_top.specs.Moves.{BindEnds, Goes, GoesOn, Moves, MovesOn, MovesUpTo, PollEnds, Stops, Turns, served_by}
use Rattle.filter_top.specs.Program.{Serves}
use Rattle.filter_top.specs.declared.turn.Turn.{Turn}
use Rattle.filter_top.specs.declared.turn.Turn.TheVariants as turns

-- ---- the journal grows

grows_more : (old mid new : Option (List PairEntry)) (first later : List PairEntry) → Grows old mid first → Grows mid new later → Grows old new (first ++ later)
grows_more None mid new first later told more = tt
grows_more (Some before) None new first later told more = absurd told
grows_more (Some before) (Some between) None first later told more = absurd more
grows_more (Some before) (Some between) (Some now) first later told more =
    more ∙ ap (λ (es : List PairEntry). es ++ later) told ∙ append_assoc before first later

-- ---- calls one after another

-- no call
pub no_call : (from : Reading) (journal : Option (List PairEntry)) → Moves from journal journal from
no_call from journal = record {
  added = [];
  told = elim journal as (λ j. Grows j j []) [ None ↦ tt | Some entries ↦ sym (append-nil entries) ];
  legal = refl;
}

-- one call
pub one_call : (from to : Reading) (old new : Option (List PairEntry)) (next : PairEntry) → allowed from next ≡ Some to → Grows old new (next ∷ []) → Moves from old new to
one_call from to old new next is told = record { added = next ∷ []; told = told; legal = read_one from to next is }

-- the same, by which it moved
pub first_call : (from to : Reading) (old new : Option (List PairEntry)) (next : PairEntry) → allowed from next ≡ Some to → Grows old new (next ∷ []) → MovesOn from old new to
first_call from to old new next is told = record { next = next; later = []; told = told; legal = read_one from to next is }

-- what made a call, moved
pub moves_of : {from to : Reading} {old new : Option (List PairEntry)} → MovesOn from old new to → Moves from old new to
moves_of {from} {to} {old} {new} moves = record { added = moves.next ∷ moves.later; told = moves.told; legal = moves.legal }

-- some calls, and then others
pub moves_on : {from mid to : Reading} {old between new : Option (List PairEntry)} → Moves from old between mid → Moves mid between new to → Moves from old new to
moves_on {from} {mid} {to} {old} {between} {new} first later = record {
  added = first.added ++ later.added;
  told = grows_more old between new first.added later.added first.told later.told;
  legal = read_both from mid to first.added later.added first.legal later.legal;
}

-- they lead to the same reading
pub lands_at : {from : Reading} {old new : Option (List PairEntry)} (to other : Reading) → to ≡ other → Moves from old new to → Moves from old new other
lands_at {from} {old} {new} to other is moves = subst (Moves from old new) is moves

-- what moves, stops there
pub stops_there : {from to : Reading} {old new : Option (List PairEntry)} → Moves from old new to → Stops from old new
stops_there {from} {to} moves = record { to = to; moves = moves }

-- some calls, and then a stop
pub stops_later : {from mid : Reading} {old between new : Option (List PairEntry)} → Moves from old between mid → Stops mid between new → Stops from old new
stops_later first later = record { to = later.to; moves = moves_on first later.moves }

-- a call that may be missing from the journal
pub stops_short : (from to : Reading) (old new : Option (List PairEntry)) (short : Bool) (next : PairEntry) → allowed from next ≡ Some to → Tells old new short next → Stops from old new
stops_short from to old new false next is told = stops_there (one_call from to old new next is told)
stops_short from to old new true next is (inl told) = stops_there (one_call from to old new next is told)
stops_short from to old new true next is (inr told) = record { to = from; moves = record { added = []; told = told; legal = refl } }

-- what was told of a call, at the answer that it had
pub told_at : {T : Type 0} (of : Result T WorldFault → PairEntry) (old new : Option (List PairEntry)) {result answer : Result T WorldFault} → result ≡ answer → Tells old new (is_short result) (of result) → Tells old new (is_short answer) (of answer)
told_at of old new is told = subst (λ r. Tells old new (is_short r) (of r)) is told

-- ---- ends

-- a last call
pub up_to : (from to : Reading) (old new : Option (List PairEntry)) (last : PairEntry) → allowed from last ≡ Some to → Grows old new (last ∷ []) → MovesUpTo from old new last
up_to from to old new last is told = record { to = to; before = []; told = told; legal = read_one from to last is }

-- some calls, and then others up to a last one
up_to_later : {from mid : Reading} {old between new : Option (List PairEntry)} (last : PairEntry) → Moves from old between mid → MovesUpTo mid between new last → MovesUpTo from old new last
up_to_later {from} {mid} {old} {between} {new} last first later = record {
  to = later.to;
  before = first.added ++ later.before;
  told = subst (Grows old new) (sym (append_assoc first.added later.before (last ∷ [])))
      (grows_more old between new first.added (later.before ++ last ∷ []) first.told later.told);
  legal = ap (read_on from) (append_assoc first.added later.before (last ∷ []))
      ∙ read_both from mid later.to first.added (later.before ++ last ∷ []) first.legal later.legal;
}

poll_later : {from mid : Reading} {old between new : Option (List PairEntry)} (answer : Result Polled WorldFault) → Moves from old between mid → PollEnds mid between new answer → PollEnds from old new answer
poll_later answer first later = record { items = later.items; moves = up_to_later (entry.Poll later.items answer) first later.moves }

bind_later : {from mid : Reading} {old between new : Option (List PairEntry)} → Moves from old between mid → BindEnds mid between new → BindEnds from old new
bind_later first later = record { path = later.path; upstream = later.upstream; moves = up_to_later _ first later.moves }

-- some calls, and then the end of the loop
pub serves_later : (result : FilterStatus) (from mid : Reading) (old between new : Option (List PairEntry)) → Moves from old between mid → Serves result mid between new → Serves result from old new
serves_later status.Done from mid old between new first later = poll_later _ first later
serves_later (status.BadList line fault) from mid old between new first later = absurd later
serves_later status.Usage from mid old between new first later = absurd later
serves_later status.BindFault from mid old between new first later = bind_later first later
serves_later status.PollFault from mid old between new first later = poll_later _ first later
serves_later status.Memory from mid old between new first later = stops_later first later
serves_later status.FileFault from mid old between new first later = absurd later
serves_later status.FileTooLong from mid old between new first later = absurd later
serves_later (status.BadPurpose fault) from mid old between new first later = absurd later

-- a turn that served something
pub served_turns : {E : Type 0} (result : Result Unit E) (from to : Reading) (old new : Option (List PairEntry)) → GoesOn result from old new to → Turns (served_by result) from old new to
served_turns (Ok done) from to old new goes = goes
served_turns (Err want) from to old new goes = goes

-- one call, and then others while memory suffices
pub call_then : {E : Type 0} (result : Result Unit E) (from mid to : Reading) (old between new : Option (List PairEntry)) (next : PairEntry) → allowed from next ≡ Some mid → Grows old between (next ∷ []) → Goes result mid between new to → GoesOn result from old new to
call_then (Ok done) from mid to old between new next is told later = record {
  next = next;
  later = later.added;
  told = grows_more old between new (next ∷ []) later.added told later.told;
  legal = read_both from mid to (next ∷ []) later.added (read_one from mid next is) later.legal;
}
call_then (Err want) from mid to old between new next is told later = stops_later (one_call from mid old between next is told) later

-- as far as it came
pub goes_stops : {E : Type 0} (result : Result Unit E) (from to : Reading) (old new : Option (List PairEntry)) → Goes result from old new to → Stops from old new
goes_stops (Ok done) from to old new goes = stops_there goes
goes_stops (Err want) from to old new goes = goes

-- some calls, and then others while memory suffices
pub goes_then : {E : Type 0} (result : Result Unit E) (from mid to : Reading) (old between new : Option (List PairEntry)) → Moves from old between mid → Goes result mid between new to → Goes result from old new to
goes_then (Ok done) from mid to old between new first later = moves_on first later
goes_then (Err want) from mid to old between new first later = stops_later first later

-- what holds, holds where memory sufficed
pub on_ok : {T E : Type 0} {P : Type 0} (result : Result T E) → P → OnOk result P
on_ok (Ok value) holds = holds
on_ok (Err want) holds = tt

-- a turn that served something found memory
pub served_ok : {E : Type 0} {P : Type 0} (result : Result Unit E) (turn : Turn) → turn ≡ served_by result → OnOk result P → turn ≡ turns.Served → P
served_ok (Ok done) turn is holds served = holds
served_ok (Err want) turn is holds served = absurd (cc)

-- and the outside refused no poll
pub never_refused : {E : Type 0} (result : Result Unit E) (turn : Turn) → turn ≡ served_by result → turn ≡ turns.Refused → ⊥
never_refused (Ok done) turn is refused = cc
never_refused (Err want) turn is refused = cc
