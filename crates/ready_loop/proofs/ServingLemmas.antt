-- A whole run, from the listeners on.
use Rattle.std.proofs.Common.{◌≡◌, ◌∙◌, ◌⊎◌, inl, inr, ℕ, Bool, true, false, List, [], ◌∷◌, ◌++◌, Option, Some, None, Result, Ok, Err, refl, ap, subst, append_assoc, not, ◌==◌, ◌&&◌, ◌||◌, if◌then◌else◌, nat_eq}
use Rattle.std.specs.Option.{option_eq}
use Rattle.std.specs.Prelude.{option_and_then, option_map}
use Rattle.std.specs.List.{list_any}
use Rattle.std.specs.Str.{bytes_eq}
use Rattle.std.specs.Cmp.Lexicographic.{bytes_decides}
use Rattle.world_ports.specs.Journal.{Grows, Tells, is_short}
use Rattle.world_ports.specs.declared.answers.Polled.{Polled}
use Rattle.world_ports.specs.declared.answers.Polled.TheVariants as polled
use Rattle.world_ports.specs.declared.answers.WorldFault.{WorldFault}
use Rattle.world_ports.specs.declared.answers.WorldFault.TheVariants.{Failed, Memory}
use Rattle.world_ports.specs.declared.entry.Entry.{Entry}
use Rattle.world_ports.specs.declared.entry.Entry.TheVariants as entry
use Rattle.world_ports.specs.declared.answers.Ready.{Ready}
use Rattle.world_ports.specs.declared.events.Door.TheVariants.{Clients}
use Rattle.world_ports.specs.declared.events.Moment.{Moment}
use Rattle.agent_model.specs.Events.{Tick}
use Rattle.agent_model.specs.Sound.{IsRising}
use Rattle.agent_model.specs.State.{State, client_count}
use Rattle.agent_model.specs.Step.{step}
use Rattle.loop_model.specs.Dues.{Free, due_look, is_polling, wait_of}
use Rattle.loop_model.specs.Fitting.{IsTyped}
use Rattle.loop_model.specs.Lines.{Line, is_idle}
use Rattle.loop_model.specs.LegalJournal.{LoopState, after_entries, after_entry, after_if, after_if_legal, in_state}
use Rattle.ready_loop.specs.Moves.{Advances, LooksAndPolls, Stops, Turns, is_poll}
use Rattle.ready_loop.specs.Serving.{Opens, Refused, Running, Runs, RunsUpTo, Serves, Setting, Stage, Unbound, begun, gone_on, is_deserted, may_come, ran}
use Rattle.ready_loop.specs.declared.outcome.HubFault.{HubFault}
use Rattle.ready_loop.specs.declared.outcome.HubFault.TheVariants as faults
use Rattle.ready_loop.specs.declared.outcome.Turn.{Turn}
use Rattle.ready_loop.specs.declared.outcome.ServeEnd.{ServeEnd}
use Rattle.ready_loop.specs.declared.outcome.ServeEnd.TheVariants as ends
use Rattle.ready_loop.specs.declared.outcome.Turn.TheVariants as turns
use Rattle.loop_model.proofs.ClientsLemmas.{no_clients}
use Rattle.ready_loop.proofs.TurningLemmas.{grows_more, typed_both}

-- ---- one part after another

ran_by : (setting : Setting) (going : Option Stage) (first later : List Entry)
    → ((stage : Stage) → ran setting stage (first ++ later) ≡ option_and_then (λ after. ran setting after later) (ran setting stage first))
    → option_and_then (λ after. ran setting after (first ++ later)) going ≡ option_and_then (λ after. ran setting after later) (option_and_then (λ after. ran setting after first) going)
ran_by setting None first later rest = refl
ran_by setting (Some stage) first later rest = rest stage

pub ran-append : (setting : Setting) (from : Stage) (first later : List Entry)
    → ran setting from (first ++ later) ≡ option_and_then (λ after. ran setting after later) (ran setting from first)
ran-append setting from [] later = refl
ran-append setting from (next ∷ first) later =
    ran_by setting (gone_on setting from next) first later (λ stage. ran-append setting stage first later)

ran_on : (setting : Setting) (from mid to : Stage) (first later : List Entry)
    → ran setting from first ≡ Some mid → ran setting mid later ≡ Some to
    → ran setting from (first ++ later) ≡ Some to
ran_on setting from mid to first later legal more =
    ran-append setting from first later ∙ ap (option_and_then (λ (after : Stage). ran setting after later)) legal ∙ more

-- a run, and then more of it
pub runs_more : {setting : Setting} {from mid to : Stage} {old between new : Option (List Entry)}
    → Runs setting from old between mid → Runs setting mid between new to
    → Runs setting from old new to
runs_more {setting} {from} {mid} {to} {old} {between} {new} first later = record {
  added = first.added ++ later.added;
  told = grows_more old between new first.added later.added first.told later.told;
  legal = ran_on setting from mid to first.added later.added first.legal later.legal;
  typed = typed_both first.added later.added first.typed later.typed;
}

upto_more : {setting : Setting} {from mid : Stage} {old between new : Option (List Entry)} {last : Entry}
    → Runs setting from old between mid → RunsUpTo setting mid between new last
    → RunsUpTo setting from old new last
upto_more {setting} {from} {mid} {old} {between} {new} {last} first later = record {
  to = later.to;
  before = first.added ++ later.before;
  told = rw (append_assoc first.added later.before (last ∷ []))
      (grows_more old between new first.added (later.before ++ last ∷ []) first.told later.told);
  legal = rw (append_assoc first.added later.before (last ∷ []))
      (ran_on setting from mid later.to first.added (later.before ++ last ∷ []) first.legal later.legal);
  typed = rw (append_assoc first.added later.before (last ∷ []))
      (typed_both first.added (later.before ++ last ∷ []) first.typed later.typed);
}

-- a run, and then its end
pub serves_more : (result : ServeEnd) (setting : Setting) (from mid : Stage) (old between new : Option (List Entry))
    → Runs setting from old between mid → Serves result setting mid between new
    → Serves result setting from old new
serves_more ends.Over setting from mid old between new first later =
    record { wait = later.wait; items = later.items; calls = upto_more first later.calls }
serves_more ends.Idle setting from mid old between new first later = record {
  reading = later.reading;
  calls = runs_more first later.calls;
  asked = later.asked;
  deserted = later.deserted;
  idle = later.idle;
}
serves_more ends.BindFault setting from mid old between new first later = upto_more first later
serves_more ends.PollFault setting from mid old between new first later =
    record { wait = later.wait; items = later.items; calls = upto_more first later.calls }
serves_more ends.Memory setting from mid old between new first later =
    record { to = later.to; calls = runs_more first later.calls }

-- ---- calls without a poll

or_false : (here there : Bool) → (here || there) ≡ false → (here ≡ false) × (there ≡ false)
or_false true there none = cc
or_false false there none = (refl, none)

quiet_step : (setting : Setting) (from to : LoopState) (next : Entry) (later : List Entry) (found : Option LoopState)
    → is_poll next ≡ false → after_if_legal from next ≡ found
    → option_and_then (λ after. after_entries after later) found ≡ Some to
    → ((after : LoopState) → after_entries after later ≡ Some to → ran setting (Running after) later ≡ Some (Running to))
    → option_and_then (λ after. ran setting after later) (gone_on setting (Running from) next) ≡ Some (Running to)
quiet_step setting from to next later None quiet is legal rest = cc
quiet_step setting from to next later (Some after) quiet is legal rest =
    ap (λ (b : Bool). option_and_then (λ (s : Stage). ran setting s later) (if not (b && (setting.until_idle && is_deserted from)) then option_map Running (after_if_legal from next) else None)) quiet
    ∙ ap (λ (t : Option LoopState). option_and_then (λ (s : Stage). ran setting s later) (option_map Running t)) is
    ∙ rest after legal

-- what the loop turns through is a run
quiet_runs : (setting : Setting) (from to : LoopState) (entries : List Entry)
    → list_any is_poll entries ≡ false → after_entries from entries ≡ Some to
    → ran setting (Running from) entries ≡ Some (Running to)
quiet_runs setting from to [] quiet legal = ap (option_map Running) legal
quiet_runs setting from to (next ∷ later) quiet legal =
    let parts = or_false (is_poll next) (list_any is_poll later) quiet in
    quiet_step setting from to next later (after_if_legal from next) parts.0 refl legal (λ after rest. quiet_runs setting after to later parts.1 rest)

-- ---- a look and a poll

poll_step : (setting : Setting) (mid to : LoopState) (poll : Entry) (found : Option LoopState) (may : Bool)
    → may ≡ true → after_if_legal mid poll ≡ found
    → option_and_then (λ after. after_entries after []) found ≡ Some to
    → option_and_then (λ after. ran setting after []) (if may then option_map Running (after_if_legal mid poll) else None) ≡ Some (Running to)
poll_step setting mid to poll found may may_is is legal =
    ap (λ (b : Bool). option_and_then (λ (s : Stage). ran setting s []) (if b then option_map Running (after_if_legal mid poll) else None)) may_is
    ∙ ap (λ (t : Option LoopState). option_and_then (λ (s : Stage). ran setting s []) (option_map Running t)) is
    ∙ (elim found as (λ t. option_and_then (λ (after : LoopState). after_entries after []) t ≡ Some to → option_and_then (λ (s : Stage). ran setting s []) (option_map Running t) ≡ Some (Running to)) [
      | None ↦ λ none. cc
      | Some after ↦ λ some. ap (option_map Running) some
    ]) legal

looked : State → Line → Moment → Bool → Option LoopState
looked state line moment idle = after_if idle (in_state state line Free) (entry.Now (Ok moment))

-- a poll comes only where the look closed nothing
polls_at : (polling same : Bool) (mid to : LoopState) (poll : Entry)
    → option_and_then (λ after. after_entries after []) (after_if (polling && same) mid poll) ≡ Some to
    → polling ≡ true
polls_at true same mid to poll legal = refl
polls_at false same mid to poll legal = cc

none_closed : (closes : List ℕ) (idle : Bool) → is_polling (due_look closes idle) ≡ true
    → closes ≡ []
none_closed [] idle is = refl
none_closed (port ∷ later) idle is = cc

-- so the loop isn't to end behind it either
on_still : (asked joined before after : Bool) → (after ≡ true → before ≡ true)
    → (asked && ((joined && before) && true)) ≡ false → not (asked && (joined && after)) ≡ true
on_still false joined before after stays done = refl
on_still true false before after stays done = refl
on_still true true before false stays done = refl
on_still true true true true stays done = absurd (cc)
on_still true true false true stays done = stays refl

look_step : (setting : Setting) (state : State) (line : Line) (moment : Moment) (wait : Option ℕ) (items : List Ready) (answer : Result Polled WorldFault) (to : LoopState) (idle : Bool)
    → IsRising 0 state.last_port state.ports
    → (setting.until_idle && (is_deserted (in_state state line Free) && idle)) ≡ false
    → option_and_then (λ after. after_entries after (entry.Poll wait items answer ∷ [])) (looked state line moment idle) ≡ Some to
    → option_and_then (λ after. ran setting after (entry.Poll wait items answer ∷ [])) (option_map Running (looked state line moment idle)) ≡ Some (Running to)
unfolding looked
look_step setting state line moment wait items answer to false rising done legal = cc
look_step setting state line moment wait items answer to true rising done legal =
    let mid : LoopState = after_entry (in_state state line Free) (entry.Now (Ok moment)) in
    let poll = entry.Poll wait items answer in
    let polls : is_polling mid.due ≡ true = polls_at (is_polling mid.due) (option_eq nat_eq wait (wait_of mid.state)) mid to poll legal in
    let none : (step state moment Tick).closes ≡ [] = none_closed (step state moment Tick).closes (is_idle mid.state mid.line) polls in
    let may : may_come setting.until_idle mid poll ≡ true =
    on_still setting.until_idle line.joined (client_count state.ports == 0) (client_count mid.state.ports == 0)
    (no_clients state moment rising none) done in
    poll_step setting mid to poll (after_if_legal mid poll) (may_come setting.until_idle mid poll) may refl legal

-- what a look and a poll add is a run, where the loop isn't to end there
pub looks_run : (setting : Setting) (state : State) (line : Line) (moment : Moment) (wait : Option ℕ) (items : List Ready) (answer : Result Polled WorldFault) (to : LoopState)
    → IsRising 0 state.last_port state.ports
    → (setting.until_idle && (is_deserted (in_state state line Free) && is_idle state line)) ≡ false
    → after_entries (in_state state line Free) (entry.Now (Ok moment) ∷ entry.Poll wait items answer ∷ []) ≡ Some to
    → ran setting (Running (in_state state line Free)) (entry.Now (Ok moment) ∷ entry.Poll wait items answer ∷ []) ≡ Some (Running to)
unfolding looked
looks_run setting state line moment wait items answer to rising done legal =
    look_step setting state line moment wait items answer to (is_idle state line) rising done legal

-- ---- turns

-- the loop isn't to end here
abbrev pub IsOn : Setting → State → Line → Type 0
IsOn setting state line =
    (setting.until_idle && (is_deserted (in_state state line Free) && is_idle state line)) ≡ false

pub served_runs : {old new : Option (List Entry)} (setting : Setting) (from to : LoopState)
    → Advances from old new to → Runs setting (Running from) old new (Running to)
served_runs setting from to turn = record {
  added = turn.calls.added;
  told = turn.calls.told;
  legal = quiet_runs setting from to turn.calls.added turn.calls.quiet turn.calls.legal;
  typed = turn.calls.typed;
}

pub polled_runs : {old new : Option (List Entry)} (setting : Setting) (state next : State) (line after : Line)
    → IsRising 0 state.last_port state.ports → IsOn setting state line
    → LooksAndPolls (Ok turns.Polled) (in_state state line Free) old new next after
    → Runs setting (Running (in_state state line Free)) old new (Running (in_state next after Free))
polled_runs setting state next line after rising on looks = record {
  added = entry.Now (Ok looks.moment) ∷ entry.Poll looks.polls.wait looks.polls.items (Ok polled.Some) ∷ [];
  told = looks.polls.told;
  legal = looks_run setting state line looks.moment looks.polls.wait looks.polls.items (Ok polled.Some) (in_state next after Free) rising on looks.polls.legal;
  typed = looks.polls.typed;
}

pub over_ends : {old new : Option (List Entry)} (setting : Setting) (state next : State) (line after : Line)
    → IsRising 0 state.last_port state.ports → IsOn setting state line
    → LooksAndPolls (Ok turns.Over) (in_state state line Free) old new next after
    → Serves ends.Over setting (Running (in_state state line Free)) old new
over_ends setting state next line after rising on looks = let waits = looks.polls.waits in record {
  wait = waits.wait;
  items = waits.items;
  calls = record {
    to = Running looks.polls.to;
    before = entry.Now (Ok looks.moment) ∷ [];
    told = waits.told;
    legal = looks_run setting state line looks.moment waits.wait waits.items (Ok polled.Over) looks.polls.to rising on waits.legal;
    typed = waits.typed;
  };
}

pub fault_ends : {old new : Option (List Entry)} (setting : Setting) (state next : State) (line after : Line)
    → IsRising 0 state.last_port state.ports → IsOn setting state line
    → LooksAndPolls (Err faults.Poll) (in_state state line Free) old new next after
    → Serves ends.PollFault setting (Running (in_state state line Free)) old new
fault_ends setting state next line after rising on looks = let waits = looks.polls.waits in record {
  wait = waits.wait;
  items = waits.items;
  calls = record {
    to = Running looks.polls.to;
    before = entry.Now (Ok looks.moment) ∷ [];
    told = waits.told;
    legal = looks_run setting state line looks.moment waits.wait waits.items (Err Failed) looks.polls.to rising on waits.legal;
    typed = waits.typed;
  };
}

pub memory_ends : {old new : Option (List Entry)} (setting : Setting) (state next : State) (line after : Line)
    → IsRising 0 state.last_port state.ports → IsOn setting state line
    → (Stops (in_state state line Free) old new ⊎ LooksAndPolls (Err faults.Memory) (in_state state line Free) old new next after)
    → Serves ends.Memory setting (Running (in_state state line Free)) old new
memory_ends setting state next line after rising on (inl stops) = record {
  to = Running stops.to;
  calls = record {
    added = stops.calls.added;
    told = stops.calls.told;
    legal = quiet_runs setting (in_state state line Free) stops.to stops.calls.added stops.calls.quiet stops.calls.legal;
    typed = stops.calls.typed;
  };
}
memory_ends setting state next line after rising on (inr looks) =
    let waits = looks.polls.last.waits in
    let answer = looks.polls.answer in
    record {
      to = Running looks.polls.last.to;
      calls = record {
        added = entry.Now (Ok looks.moment) ∷ entry.Poll waits.wait waits.items answer ∷ [];
        told = waits.told;
        legal = looks_run setting state line looks.moment waits.wait waits.items answer looks.polls.last.to rising on waits.legal;
        typed = waits.typed;
      };
    }

-- what a turn did, by how it ended
pub turn_at : {result answer : Result Turn HubFault} (from : LoopState) (old new : Option (List Entry)) (state : State) (line : Line)
    → result ≡ answer → Turns result from old new state line → Turns answer from old new state line
turn_at from old new state line is turn =
    subst (λ (r : Result Turn HubFault). Turns r from old new state line) is turn

-- ---- the listener

bytes_same : (bytes : List ℕ) → bytes_eq bytes bytes ≡ true
bytes_same bytes = (bytes_decides bytes bytes).1 refl

first_bind : (setting : Setting) (stage : Stage)
    → (if bytes_eq setting.path setting.path then Some stage else None) ≡ Some stage
first_bind setting stage = ap (λ (b : Bool). if b then Some stage else None) (bytes_same setting.path)

ran_one : (setting : Setting) (from to : Stage) (next : Entry) → gone_on setting from next ≡ Some to
    → ran setting from (next ∷ []) ≡ Some to
ran_one setting from to next is = ap (option_and_then (λ (after : Stage). ran setting after [])) is

runs_one : (setting : Setting) (from to : Stage) (old new : Option (List Entry)) (next : Entry)
    → gone_on setting from next ≡ Some to → IsTyped next → Grows old new (next ∷ []) → Runs setting from old new to
runs_one setting from to old new next is typed told =
    record { added = next ∷ []; told = told; legal = ran_one setting from to next is; typed = (typed, tt) }

-- the clients' listener couldn't be bound
opens_not : (fault : WorldFault) (setting : Setting) (old new : Option (List Entry))
    → Tells old new (is_short {T = Unit {0}} (Err fault)) (entry.Bind Clients setting.path (Err fault))
    → Opens (Err fault) setting old new
opens_not Failed setting old new told = record {
  to = Refused;
  before = [];
  told = told;
  legal = ran_one setting Unbound Refused (entry.Bind Clients setting.path (Err Failed)) (first_bind setting Refused);
  typed = (tt, tt);
}
opens_not Memory setting old new (inl told) = record {
  to = Refused;
  calls = runs_one setting Unbound Refused old new (entry.Bind Clients setting.path (Err Memory)) (first_bind setting Refused) tt told;
}
opens_not Memory setting old new (inr told) = record {
  to = Unbound;
  calls = record { added = []; told = told; legal = refl; typed = tt };
}

-- by whether the clients' listener was bound
pub opens_by : (result : Result Unit WorldFault) (setting : Setting) (old new : Option (List Entry))
    → Tells old new (is_short result) (entry.Bind Clients setting.path result)
    → Opens result setting old new
opens_by (Ok unit) setting old new told =
    runs_one setting Unbound (begun setting) old new (entry.Bind Clients setting.path (Ok unit)) (first_bind setting (begun setting)) tt told
opens_by (Err fault) setting old new told = opens_not fault setting old new told
