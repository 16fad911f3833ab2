-- Calls one after another.
use Rattle.std.proofs.Common.{◌≡◌, ◌∙◌, ◌⊎◌, inl, inr, ℕ, Bool, true, false, List, [], ◌∷◌, ◌++◌, Option, Some, None, Result, Ok, Err, refl, sym, ap, subst, append_assoc, length-append, arith}
use Rattle.std.proofs.lemmas.List.{append-nil}
use Rattle.std.specs.Prelude.{option_and_then, ◌||◌}
use Rattle.std.specs.List.{list_any}
use Rattle.world_ports.specs.declared.events.Moment.{Moment}
use Rattle.world_ports.specs.declared.answers.Polled.{Polled}
use Rattle.world_ports.specs.declared.answers.Polled.TheVariants as polled
use Rattle.world_ports.specs.declared.answers.WorldFault.TheVariants.{Failed, Memory}
use Rattle.world_ports.specs.Journal.{Grows, Tells, is_short}
use Rattle.world_ports.specs.declared.answers.Ready.{Ready}
use Rattle.world_ports.specs.declared.answers.WorldFault.{WorldFault}
use Rattle.world_ports.specs.declared.entry.Entry.{Entry}
use Rattle.world_ports.specs.declared.entry.Entry.TheVariants as entry
use Rattle.loop_model.specs.Dues.{Free}
use Rattle.loop_model.specs.Fitting.{AreTyped, IsMoment, IsTyped}
use Rattle.loop_model.specs.LegalJournal.{LoopState, after_entries, after_if_legal, in_state}
use Rattle.agent_model.specs.State.{State}
use Rattle.ready_loop.specs.declared.outcome.HubFault.{HubFault}
use Rattle.ready_loop.specs.declared.outcome.HubFault.TheVariants as faults
use Rattle.ready_loop.specs.declared.outcome.Turn.{Turn}
use Rattle.ready_loop.specs.declared.outcome.Turn.TheVariants as turns
use Rattle.loop_model.specs.Lines.{Line}
use Rattle.loop_model.proofs.JournalLemmas.{after_entries-append}
use Rattle.ready_loop.specs.Moves.{AddsAnyPoll, AddsPoll, Advances, AdvancesBy, AdvancesOrStops, Continues, ContinuesBy, ContinuesOrStops, PollsOrStops, Stops, Turns, is_poll}

-- ---- the journal grows

pub grows_more : (old mid new : Option (List Entry)) (first later : List Entry)
    → Grows old mid first → Grows mid new later → Grows old new (first ++ later)
grows_more None mid new first later told more = tt
grows_more (Some before) None new first later told more = absurd told
grows_more (Some before) (Some between) None first later told more = absurd more
grows_more (Some before) (Some between) (Some now) first later told more =
    more ∙ ap (λ (es : List Entry). es ++ later) told ∙ append_assoc before first later

-- ---- the fold over two parts

turned_on : (from mid to : LoopState) (first later : List Entry)
    → after_entries from first ≡ Some mid → after_entries mid later ≡ Some to
    → after_entries from (first ++ later) ≡ Some to
turned_on from mid to first later legal more =
    after_entries-append from first later ∙ ap (option_and_then (λ (after : LoopState). after_entries after later)) legal ∙ more

turned_one : (from to : LoopState) (next : Entry) → after_if_legal from next ≡ Some to
    → after_entries from (next ∷ []) ≡ Some to
turned_one from to next is = ap (option_and_then (λ (after : LoopState). after_entries after [])) is

-- ---- none of them is a poll

quiet_by : (here : Bool) (first later : Bool) → (here || first) ≡ false
    → (first ≡ false → later ≡ false) → (here || later) ≡ false
quiet_by true first later quiet rest = cc
quiet_by false first later quiet rest = rest quiet

quiet_both : (first later : List Entry) → list_any is_poll first ≡ false
    → list_any is_poll later ≡ false → list_any is_poll (first ++ later) ≡ false
quiet_both [] later quiet more = more
quiet_both (next ∷ first) later quiet more =
    quiet_by (is_poll next) (list_any is_poll first) (list_any is_poll (first ++ later)) quiet (λ rest. quiet_both first later rest more)

quiet_one : (next : Entry) → is_poll next ≡ false → list_any is_poll (next ∷ []) ≡ false
quiet_one next quiet = ap (λ (b : Bool). b || false) quiet

-- ---- they have the numbers of their types

pub typed_both : (first later : List Entry) → AreTyped first → AreTyped later → AreTyped (first ++ later)
typed_both [] later typed more = more
typed_both (next ∷ first) later typed more = (typed.0, typed_both first later typed.1 more)

-- ---- calls one after another

-- no call
pub no_call : (from : LoopState) (journal : Option (List Entry))
    → Continues from journal journal from
no_call from journal = record {
  added = [];
  told =
      elim journal as (λ j. Grows j j []) [ None ↦ tt | Some entries ↦ sym (append-nil entries) ];
  legal = refl;
  typed = tt;
  quiet = refl;
}

-- one call
pub one_call : (from to : LoopState) (old new : Option (List Entry)) (next : Entry)
    → is_poll next ≡ false → IsTyped next → after_if_legal from next ≡ Some to → Grows old new (next ∷ [])
    → Continues from old new to
one_call from to old new next quiet typed is told = record {
  added = next ∷ [];
  told = told;
  legal = turned_one from to next is;
  typed = (typed, tt);
  quiet = quiet_one next quiet;
}

-- some calls, and then others
pub goes_on : {from mid to : LoopState} {old between new : Option (List Entry)}
    → Continues from old between mid → Continues mid between new to → Continues from old new to
goes_on {from} {mid} {to} {old} {between} {new} first later = record {
  added = first.added ++ later.added;
  told = grows_more old between new first.added later.added first.told later.told;
  legal = turned_on from mid to first.added later.added first.legal later.legal;
  typed = typed_both first.added later.added first.typed later.typed;
  quiet = quiet_both first.added later.added first.quiet later.quiet;
}

-- one call, and then others
pub advances : {from mid to : LoopState} {old between new : Option (List Entry)} (next : Entry)
    → is_poll next ≡ false → IsTyped next → after_if_legal from next ≡ Some mid → Grows old between (next ∷ [])
    → Continues mid between new to → Advances from old new to
unfolding goes_on one_call
advances {from} {mid} {to} {old} {between} {new} next quiet typed is told later = record {
  calls = goes_on (one_call from mid old between next quiet typed is told) later;
  some = omega (arith, length-append (next ∷ []) later.added);
}

-- one call alone
pub advances_once : (from to : LoopState) (old new : Option (List Entry)) (next : Entry)
    → is_poll next ≡ false → IsTyped next → after_if_legal from next ≡ Some to → Grows old new (next ∷ [])
    → Advances from old new to
unfolding one_call
advances_once from to old new next quiet typed is told = record {
  calls = one_call from to old new next quiet typed is told;
  some = omega arith;
}

-- what was told of a call, at the answer that it had
pub told_at : {T : Type 0} (of : Result T WorldFault → Entry) (old new : Option (List Entry)) {result answer : Result T WorldFault}
    → result ≡ answer → Tells old new (is_short result) (of result)
    → Tells old new (is_short answer) (of answer)
told_at of old new is told = subst (λ r. Tells old new (is_short r) (of r)) is told

-- what continues, stops there
pub stops_there : {from to : LoopState} {old new : Option (List Entry)} → Continues from old new to
    → Stops from old new
stops_there {from} {to} calls = record { to = to; calls = calls }

-- a call that may be missing from the journal
pub stops_short : (from to : LoopState) (old new : Option (List Entry)) (short : Bool) (next : Entry)
    → is_poll next ≡ false → IsTyped next → after_if_legal from next ≡ Some to → Tells old new short next
    → Stops from old new
stops_short from to old new false next quiet typed is told =
    stops_there (one_call from to old new next quiet typed is told)
stops_short from to old new true next quiet typed is (inl told) =
    stops_there (one_call from to old new next quiet typed is told)
stops_short from to old new true next quiet typed is (inr told) =
    stops_there (record { added = []; told = told; legal = refl; typed = tt; quiet = refl })

-- some calls, and then a stop
pub stops_later : {from mid : LoopState} {old between new : Option (List Entry)}
    → Continues from old between mid → Stops mid between new → Stops from old new
stops_later first later = record { to = later.to; calls = goes_on first later.calls }

-- the readings that calls lead to are the same
pub lands_at : {from : LoopState} {old new : Option (List Entry)} (to other : LoopState)
    → to ≡ other → Continues from old new to → Continues from old new other
lands_at {from} {old} {new} to other is calls = subst (Continues from old new) is calls

-- ---- by whether memory sufficed

stops_by : {T E : Type 0} (result : Result T E) (from to : LoopState) (old new : Option (List Entry))
    → ContinuesBy result from old new to → Stops from old new
stops_by (Ok value) from to old new goes = stops_there goes
stops_by (Err fault) from to old new goes = goes

-- what goes on where memory sufficed, stops otherwise
pub goes_stops : {T E : Type 0} {result : Result T E} {from to : LoopState} {old new : Option (List Entry)}
    → ContinuesOrStops result from old new to → Stops from old new
goes_stops {T} {E} {result} {from} {to} {old} {new} goes = stops_by result from to old new goes.by

goes_by : {T E : Type 0} (result : Result T E) (from mid to : LoopState) (old between new : Option (List Entry))
    → Continues from old between mid → ContinuesBy result mid between new to
    → ContinuesBy result from old new to
goes_by (Ok value) from mid to old between new first later = goes_on first later
goes_by (Err fault) from mid to old between new first later = stops_later first later

-- one call, and then others while memory suffices
pub goes_then : {T E : Type 0} {result : Result T E} {from mid to : LoopState} {old between new : Option (List Entry)} (next : Entry)
    → is_poll next ≡ false → IsTyped next → after_if_legal from next ≡ Some mid → Grows old between (next ∷ [])
    → ContinuesOrStops result mid between new to → ContinuesOrStops result from old new to
goes_then {T} {E} {result} {from} {mid} {to} {old} {between} {new} next quiet typed is told later = record {
  by = goes_by result from mid to old between new (one_call from mid old between next quiet typed is told) later.by;
}

serves_by : {T E : Type 0} (result : Result T E) (from mid to : LoopState) (old between new : Option (List Entry)) (next : Entry)
    → is_poll next ≡ false → IsTyped next → after_if_legal from next ≡ Some mid → Grows old between (next ∷ [])
    → ContinuesBy result mid between new to → AdvancesBy result from old new to
serves_by (Ok value) from mid to old between new next quiet typed is told later =
    advances next quiet typed is told later
serves_by (Err fault) from mid to old between new next quiet typed is told later =
    stops_later (one_call from mid old between next quiet typed is told) later

-- the same, by one call at least
pub serves_then : {T E : Type 0} {result : Result T E} {from mid to : LoopState} {old between new : Option (List Entry)} (next : Entry)
    → is_poll next ≡ false → IsTyped next → after_if_legal from next ≡ Some mid → Grows old between (next ∷ [])
    → ContinuesOrStops result mid between new to → AdvancesOrStops result from old new to
serves_then {T} {E} {result} {from} {mid} {to} {old} {between} {new} next quiet typed is told later = record {
  by = serves_by result from mid to old between new next quiet typed is told later.by;
}

-- ---- a look, and then a poll

waits_by : (moment : Moment) (from mid to : LoopState) (old between new : Option (List Entry)) (answer : Result Polled WorldFault)
    → IsMoment moment → after_if_legal from (entry.Now (Ok moment)) ≡ Some mid
    → Grows old between (entry.Now (Ok moment) ∷ []) → AddsPoll [] mid between new answer to
    → AddsPoll (entry.Now (Ok moment) ∷ []) from old new answer to
waits_by moment from mid to old between new answer typed is told later =
    let look = entry.Now (Ok moment) ∷ [] in
    let poll = entry.Poll later.wait later.items answer ∷ [] in
    record {
      wait = later.wait;
      items = later.items;
      told = grows_more old between new look poll told later.told;
      legal = turned_on from mid to look poll (turned_one from mid (entry.Now (Ok moment)) is) later.legal;
      typed = (typed, later.typed);
    }

-- one call that looks at the clock, and then a poll
pub looks_by : (result : Result Turn HubFault) (moment : Moment) (from mid : LoopState) (old between new : Option (List Entry)) (state : State) (line : Line)
    → IsMoment moment → after_if_legal from (entry.Now (Ok moment)) ≡ Some mid
    → Grows old between (entry.Now (Ok moment) ∷ []) → PollsOrStops result mid between new state line
    → Turns result from old new state line
looks_by (Ok turns.Served) moment from mid old between new state line typed is told polls = absurd polls
looks_by (Ok turns.Polled) moment from mid old between new state line typed is told polls = record {
  moment = moment;
  polls = waits_by moment from mid (in_state state line Free) old between new (Ok polled.Some) typed is told polls;
}
looks_by (Ok turns.Over) moment from mid old between new state line typed is told polls = record {
  moment = moment;
  polls = record { to = polls.to; waits = waits_by moment from mid polls.to old between new (Ok polled.Over) typed is told polls.waits };
}
looks_by (Err faults.Poll) moment from mid old between new state line typed is told polls = record {
  moment = moment;
  polls = record { to = polls.to; waits = waits_by moment from mid polls.to old between new (Err Failed) typed is told polls.waits };
}
looks_by (Err faults.Memory) moment from mid old between new state line typed is told (inl stops) =
    inl (stops_later (one_call from mid old between (entry.Now (Ok moment)) refl typed is told) stops)
looks_by (Err faults.Memory) moment from mid old between new state line typed is told (inr polls) = inr (record {
  moment = moment;
  polls = record {
    answer = polls.answer;
    last = record { to = polls.last.to; waits = waits_by moment from mid polls.last.to old between new polls.answer typed is told polls.last.waits };
  };
})

-- a poll alone
pub waits_once : (from to : LoopState) (old new : Option (List Entry)) (wait : Option ℕ) (items : List Ready) (answer : Result Polled WorldFault)
    → after_if_legal from (entry.Poll wait items answer) ≡ Some to
    → Grows old new (entry.Poll wait items answer ∷ []) → AddsPoll [] from old new answer to
waits_once from to old new wait items answer is told = record {
  wait = wait;
  items = items;
  told = told;
  legal = turned_one from to (entry.Poll wait items answer) is;
  typed = (tt, tt);
}

-- a poll that wants memory
pub waits_short : (from to : LoopState) (old new : Option (List Entry)) (wait : Option ℕ) (items : List Ready)
    → after_if_legal from (entry.Poll wait items (Err Memory)) ≡ Some to
    → Tells old new true (entry.Poll wait items (Err Memory))
    → Stops from old new ⊎ AddsAnyPoll [] from old new
waits_short from to old new wait items is (inl told) = inr (record {
  answer = Err Memory;
  last = record { to = to; waits = waits_once from to old new wait items (Err Memory) is told };
})
waits_short from to old new wait items is (inr told) =
    inl (stops_there (record { added = []; told = told; legal = refl; typed = tt; quiet = refl }))
