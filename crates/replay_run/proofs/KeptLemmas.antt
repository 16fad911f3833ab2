-- Lemmas on what is kept of a drill: it follows the drill's events, an event and a settling at a time.
use Rattle.std.proofs.Common.{◌≡◌, ℕ, ◌+◌, ◌<◌, List, [], ◌∷◌, ◌++◌, length, count_by, refl, ap, sym, ◌∙◌, append_assoc, arith, Option, Some, None, Bool, true, false, cond, if◌then◌else◌, not}
use Rattle.std.proofs.lemmas.List.{append-nil, take_all}
use Rattle.std.proofs.lemmas.List.Sums.{sum_by-append}
use Rattle.world_ports.specs.declared.Moment.{Moment}
use Rattle.wire_text.specs.Bounds.{longest_to_child}
use Rattle.wire_text.specs.Frames.{split}
use Rattle.child_msg.specs.Reading.{to_child_of}
use Rattle.agent_core.specs.Owing.{is_client_at}
use Rattle.agent_model.specs.Budget.{budget}
use Rattle.agent_model.specs.Events.{Happening, Timed, Joined, Heard, Ended, Started, StartFailed, Tick, Took}
use Rattle.agent_model.specs.Runs.{run}
use Rattle.agent_model.specs.Sound.{IsSteady}
use Rattle.agent_model.specs.State.{Port, State, find_port, first_state, next_owed, no_settings, owed_of}
use Rattle.agent_model.specs.Step.{step}
use Rattle.agent_model.proofs.RunLemmas.{last_after, step-last_port}
use Rattle.replay_run.specs.Drill.{Drilled, Tally, agent_of, ask_of, counts_of, has_number, is_child_at, last_ask, lined, replies, taken, taken_at}
use Rattle.replay_run.specs.Drilling.{Keeps, Kept, TakesNothing, counts_with, kept, kept_after, noted}
use Rattle.replay_run.specs.Settling.{after_event, at_moment, comes, delivered, next_to_take, takings}
use Rattle.replay_run.proofs.DrillLemmas.{run-append}
use Rattle.replay_run.proofs.HoldingLemmas.{unheld_none, unheld_some}
use Rattle.replay_run.proofs.SettlingLemmas.{delivered_lowers, owed_some, settled-last_port, taking, takings_none, takings_some}

-- ---- some messages, and then others

count_by-append : (p : List ℕ → Bool) (some more : List (List ℕ))
    → count_by p (some ++ more) ≡ count_by p some + count_by p more
count_by-append p some more = sum_by-append (λ body. cond (p body) 1 0) some more

-- tallies of the same numbers are the same
same_tally : (one other : Tally) → one.successes ≡ other.successes → one.failures ≡ other.failures
    → one.lists ≡ other.lists → one.signatures ≡ other.signatures → one ≡ other
same_tally one other successes failures lists signatures = rw (successes, failures, lists, signatures) refl

pub counts-append : (some more : List (List ℕ)) (counts : Tally)
    → counts_with (some ++ more) counts ≡ counts_with more (counts_with some counts)
counts-append some more counts =
    same_tally (counts_with (some ++ more) counts) (counts_with more (counts_with some counts))
    (omega (arith, count_by-append (has_number 6) some more)) (omega (arith, count_by-append (has_number 5) some more))
    (omega (arith, count_by-append (has_number 12) some more)) (omega (arith, count_by-append (has_number 14) some more))

counts_of-append : (some more : List (List ℕ)) → counts_of (some ++ more) ≡ counts_with more (counts_of some)
counts_of-append some more =
    same_tally (counts_of (some ++ more)) (counts_with more (counts_of some))
    (count_by-append (has_number 6) some more) (count_by-append (has_number 5) some more)
    (count_by-append (has_number 12) some more) (count_by-append (has_number 14) some more)

counts-none : (counts : Tally) → counts_with [] counts ≡ counts
counts-none counts = same_tally (counts_with [] counts) counts (omega arith) (omega arith) (omega arith) (omega arith)

last_ask-append : (some more : List (List ℕ)) (before : Option ℕ)
    → last_ask (some ++ more) before ≡ last_ask more (last_ask some before)
last_ask-append [] more before = refl
last_ask-append (body ∷ some) more before = last_ask-append some more (ask_of (to_child_of body) before)

taken-append : (is_theirs : Option Port → Bool) (state : State) (some more : List Timed)
    → taken is_theirs state (some ++ more) ≡ taken is_theirs state some ++ taken is_theirs (run state some) more
taken-append is_theirs state [] more = refl
taken-append is_theirs state (timed ∷ some) more =
    let after = (step state timed.moment timed.event).state in
    let here = taken_at is_theirs state timed.event in
    ap (λ (later : List (List ℕ)). here ++ later) (taken-append is_theirs after some more)
    ∙ sym (append_assoc here (taken is_theirs after some) (taken is_theirs (run after some) more))

-- ---- some events, and then others

-- what is kept, put together
abbrev keep : State → Tally → Option ℕ → ℕ → Kept
keep agent counts ask number = record { agent = agent; counts = counts; ask = ask; number = number }

same_kept : {agent other : State} {counts tally : Tally} {ask last : Option ℕ} (number : ℕ) → agent ≡ other
    → counts ≡ tally → ask ≡ last → keep agent counts ask number ≡ keep other tally last number
same_kept number agent_is counts_is ask_is = rw (agent_is, counts_is, ask_is) refl

counts-then : (state : State) (some more : List Timed) (counts : Tally)
    → counts_with (taken is_client_at state (some ++ more)) counts
    ≡ counts_with (taken is_client_at (run state some) more) (counts_with (taken is_client_at state some) counts)
counts-then state some more counts =
    ap (λ (bodies : List (List ℕ)). counts_with bodies counts) (taken-append is_client_at state some more)
    ∙ counts-append (taken is_client_at state some) (taken is_client_at (run state some) more) counts

ask-then : (state : State) (some more : List Timed) (ask : Option ℕ)
    → last_ask (taken is_child_at state (some ++ more)) ask
    ≡ last_ask (taken is_child_at (run state some) more) (last_ask (taken is_child_at state some) ask)
ask-then state some more ask =
    ap (λ (bodies : List (List ℕ)). last_ask bodies ask) (taken-append is_child_at state some more)
    ∙ last_ask-append (taken is_child_at state some) (taken is_child_at (run state some) more) ask

kept_after-append : (some more : List Timed) (before : Kept)
    → kept_after (some ++ more) before ≡ kept_after more (kept_after some before)
kept_after-append some more before =
    same_kept before.number (run-append before.agent some more) (counts-then before.agent some more before.counts)
    (ask-then before.agent some more before.ask)

-- these events come too
abbrev with_events : List Timed → Drilled → Drilled
with_events events drill = record drill {
  events = drill.events ++ events;
  ask = last_ask (taken is_child_at (agent_of drill) events) drill.ask;
}

-- what is kept of a drill to which events come
kept-with : (events : List Timed) (drill : Drilled) → kept (with_events events drill) ≡ kept_after events (kept drill)
kept-with events drill =
    let first = first_state no_settings in
    same_kept drill.number (run-append first drill.events events)
    (ap counts_of (taken-append is_client_at first drill.events events)
    ∙ counts_of-append (replies drill) (taken is_client_at (agent_of drill) events)) refl

-- ---- takings

-- no port is held: the next one that is owed bytes takes them
next_taking : (state : State) (port : ℕ) → next_owed 0 state ≡ Some port
    → next_to_take [] state ≡ Some port
next_taking state port next = unheld_some state.under_way 0 [] state.ports port next refl

-- it is owed some
pub next_owed_some : (state : State) (port : ℕ) → IsSteady state → next_owed 0 state ≡ Some port
    → 0 < length (owed_of port state)
next_owed_some state port steady next = owed_some [] port state steady (next_taking state port next)

-- a taking lowers the budget
pub next_lowers : (moment : Moment) (port : ℕ) (state : State) → IsSteady state → next_owed 0 state ≡ Some port
    → budget (delivered moment port state) < budget state
next_lowers moment port state steady next = delivered_lowers moment [] port state steady (next_taking state port next)

-- these bytes are noted where a port took them, by whether it is a client's
abbrev note_of : Bool → List ℕ → State → Kept → Kept
note_of client bytes agent old =
    keep agent
    (counts_with ((if client then (split longest_to_child bytes).bodies else []) ++ []) old.counts)
    (last_ask ((if not client then (split longest_to_child bytes).bodies else []) ++ []) old.ask)
    old.number

noted_by : (client : Bool) (bytes : List ℕ) (agent : State) (old : Kept)
    → record (noted client bytes old) { agent = agent } ≡ note_of client bytes agent old
unfolding noted
noted_by true bytes agent old =
    ap (λ (bodies : List (List ℕ)). keep agent (counts_with bodies old.counts) old.ask old.number)
    (sym (append-nil (split longest_to_child bytes).bodies))
noted_by false bytes agent old =
    same_kept old.number refl (sym (counts-none old.counts))
    (ap (λ (bodies : List (List ℕ)). last_ask bodies old.ask) (sym (append-nil (split longest_to_child bytes).bodies)))

-- a port's bytes are noted, and then it takes them
pub taking_by : (moment : Moment) (port count : ℕ) (old mid : Kept)
    → mid ≡ noted (is_client_at (find_port port old.agent.ports)) (owed_of port old.agent) old → mid.agent ≡ old.agent
    → count ≡ length (owed_of port old.agent)
    → record mid { agent = after_event moment mid.agent (Took port count) }
    ≡ kept_after (at_moment moment (Took port (length (owed_of port old.agent))) ∷ []) old
taking_by moment port count old mid mid_is agent_is count_is =
    let client = is_client_at (find_port port old.agent.ports) in
    let owed = owed_of port old.agent in
    let state : after_event moment mid.agent (Took port count) ≡ delivered moment port old.agent =
    ap (λ (s : State). after_event moment s (Took port count)) agent_is ∙ ap (λ (n : ℕ). after_event moment old.agent (Took port n)) count_is in
    ap (λ (s : State). record mid { agent = s }) state
    ∙ ap (λ (k : Kept). record k { agent = delivered moment port old.agent }) mid_is
    ∙ noted_by client owed (delivered moment port old.agent) old
    ∙ sym (ap (λ (bytes : List ℕ). note_of client bytes (delivered moment port old.agent) old) (take_all (length owed) owed (omega arith)))

-- where nothing is owed, settling does nothing
pub settled_none : (moment : Moment) (before : Kept) → next_owed 0 before.agent ≡ None
    → kept_after (takings moment [] before.agent) before ≡ before
settled_none moment before none =
    ap (λ (events : List Timed). kept_after events before)
    (takings_none moment [] before.agent (unheld_none before.agent.under_way 0 [] before.agent.ports none))
    ∙ ap (λ (counts : Tally). keep before.agent counts before.ask before.number) (counts-none before.counts)

-- else the next port takes all that it is owed, and the rest is settled
pub settled_some : (moment : Moment) (port : ℕ) (before after : Kept) → IsSteady before.agent
    → next_owed 0 before.agent ≡ Some port → after ≡ kept_after (taking moment port before.agent ∷ []) before
    → kept_after (takings moment [] after.agent) after ≡ kept_after (takings moment [] before.agent) before
settled_some moment port before after steady next after_is =
    let later = takings moment [] (delivered moment port before.agent) in
    ap (λ (k : Kept). kept_after (takings moment [] k.agent) k) after_is
    ∙ sym (kept_after-append (taking moment port before.agent ∷ []) later before)
    ∙ sym (ap (λ (events : List Timed). kept_after events before) (takings_some moment [] port before.agent steady (next_taking before.agent port next)))

-- ---- a line

none_taken : (is_theirs : Option Port → Bool) (state : State) (event : Happening) → TakesNothing event
    → taken_at is_theirs state event ≡ []
none_taken is_theirs state (Joined door) quiet = refl
none_taken is_theirs state (Heard port piece) quiet = refl
none_taken is_theirs state (Ended port) quiet = refl
none_taken is_theirs state (Took port count) quiet = absurd quiet
none_taken is_theirs state (Started job ticket) quiet = refl
none_taken is_theirs state (StartFailed job) quiet = refl
none_taken is_theirs state Tick quiet = refl

-- an event at which no port takes anything changes the agent alone
quiet_event : (moment : Moment) (event : Happening) (old : Kept) → TakesNothing event
    → record old { agent = after_event moment old.agent event } ≡ kept_after (at_moment moment event ∷ []) old
quiet_event moment event old quiet =
    let agent = after_event moment old.agent event in
    sym (ap (λ (bodies : List (List ℕ)). keep agent (counts_with (bodies ++ []) old.counts) (last_ask (taken_at is_child_at old.agent event ++ []) old.ask) old.number)
    (none_taken is_client_at old.agent event quiet)
    ∙ ap (λ (bodies : List (List ℕ)). keep agent (counts_with [] old.counts) (last_ask (bodies ++ []) old.ask) old.number)
    (none_taken is_child_at old.agent event quiet)
    ∙ ap (λ (counts : Tally). keep agent counts old.ask old.number) (counts-none old.counts))

-- an event comes, and then the settling
pub line_keeps : (moment : Moment) (event : Happening) (old mid new : Kept) → TakesNothing event
    → mid ≡ record old { agent = after_event moment old.agent event }
    → new ≡ kept_after (takings moment [] mid.agent) mid → Keeps (lined moment event) old new
unfolding lined
line_keeps moment event old mid new quiet mid_is new_is = λ drill is.
    let first : mid ≡ kept_after (at_moment moment event ∷ []) old = mid_is ∙ quiet_event moment event old quiet in
    let later = takings moment [] (after_event moment old.agent event) in
    new_is
    ∙ ap (λ (k : Kept). kept_after (takings moment [] k.agent) k) first
    ∙ sym (kept_after-append (at_moment moment event ∷ []) later old)
    ∙ ap (λ (k : Kept). kept_after (comes moment [] k.agent event) k) is
    ∙ sym (kept-with (comes moment [] (agent_of drill) event) drill)

-- and lets a port join where that is its event
pub line-last_port : (moment : Moment) (event : Happening) (old mid new : Kept)
    → mid ≡ record old { agent = after_event moment old.agent event }
    → new ≡ kept_after (takings moment [] mid.agent) mid → new.agent.last_port ≡ last_after event old.agent.last_port
line-last_port moment event old mid new mid_is new_is =
    ap (λ (k : Kept). k.agent.last_port) new_is
    ∙ settled-last_port moment [] mid.agent
    ∙ ap (λ (k : Kept). k.agent.last_port) mid_is
    ∙ step-last_port old.agent moment event
