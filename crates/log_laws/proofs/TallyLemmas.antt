-- How many helpers were lost when a client's request was put, as a book has it, and since then, as the history has it.
use Rattle.std.proofs.Common.{◌≡◌, ◌≢◌, ◌<◌, ◌≤◌, ℕ, ◌+◌, ◌-◌, ◌^◌, ◌==◌, ◌||◌, List, [], ◌∷◌, ◌++◌, length, map, refl, ap, arith, sym, subst, ◌∙◌, append_assoc, Bool, true, false, Option, Some, None, inl, inr, min}
use Rattle.std.proofs.lemmas.Bool.Decides.{nat_tests}
use Rattle.std.proofs.lemmas.List.{append-nil, map-append}
use Rattle.std.proofs.lemmas.List.Sums.{sum_by-append}
use Rattle.std.specs.List.{cons_option, filter_map}
use Rattle.std.specs.Option.{option_map, option_or}
use Rattle.std.specs.Prelude.{is_some}
use Rattle.lists.specs.Rising.{is_among}
use Rattle.world_ports.specs.declared.Door.TheVariants.{Clients}
use Rattle.world_ports.specs.declared.Moment.{Moment}
use Rattle.agent_laws.specs.Answered.{WaitsFor, loses_by, times_lost}
use Rattle.agent_laws.proofs.LossLemmas.{run-losses}
use Rattle.agent_laws.proofs.WaitingLemmas.{step-waiting}
use Rattle.agent_model.specs.Actions.{Action, Answered, Asked, Asking, ForBinding, ForSignature, Granted, Lost, Outcome, Over, Proved, Purpose, Raised, Requested}
use Rattle.agent_model.specs.Events.{Happening, Timed, Took}
use Rattle.agent_model.specs.Fates.{actions_of}
use Rattle.agent_model.specs.Grants.{IsAmong}
use Rattle.agent_model.specs.Runs.{Stamped, run, stamped}
use Rattle.agent_model.specs.Sound.{IsTied}
use Rattle.agent_model.specs.State.{Fits, Nothing, OnAsk, Port, Settings, State, find_port, first_state, owed_as, owed_by, owed_of, role_of}
use Rattle.agent_model.specs.Step.{step}
use Rattle.agent_model.specs.Time.{at_moment}
use Rattle.agent_model.proofs.ActionLemmas.{Each}
use Rattle.log_book.specs.Books.{Book, fate_by, see_all}
use Rattle.log_book.specs.Peers.{Peer, put_at, raised_at}
use Rattle.log_book.specs.declared.sight.Sight.{Sight}
use Rattle.log_book.specs.declared.told.Asked.TheVariants as asks
use Rattle.log_laws.specs.Ends.{Came, End, Left, Request, action_of, ask_in, came_told, last_request, went_by, went_told}
use Rattle.log_laws.specs.Refusals.{AreCounted, Reason, reason_told, reason_with, reasons_at, reasons_told}
use Rattle.log_laws.specs.Sights.{came_of, event_sights, goes_over, put_for, put_in, raised_in}
use Rattle.log_laws.proofs.AgreeLemmas.{Matches, nobody, open-after, somebody}
use Rattle.log_laws.proofs.BookLemmas.{at_port, peer_or}
use Rattle.log_laws.proofs.ClientLemmas.{Client, IsBrief, idle, taking, waiting}
use Rattle.log_laws.proofs.FareLemmas.{Fared, IsPut}
use Rattle.log_laws.proofs.FineLemmas.{Ends, Fine}
use Rattle.log_laws.proofs.PastLemmas.{actions-stamps, ask-more, ask-there, behind_it, last-more, more_done}
use Rattle.log_laws.proofs.ReadLemmas.{IsOther}
use Rattle.log_laws.proofs.RefusalLemmas.{reason-reply, reasons-are, said-event, said-over, unanswered-kept}
use Rattle.log_laws.proofs.SightsLemmas.{book-append}
use Rattle.log_laws.proofs.WentLemmas.{at-came, marked_by, peer-went}

-- ---- the count of losses

-- how many helpers were lost in a past
abbrev pub losses : List Stamped → ℕ
losses past = times_lost (map action_of past)

actions-after : (past : List Stamped) (outcome : Outcome)
    → map action_of (past ++ stamped outcome) ≡ map action_of past ++ outcome.actions
actions-after past outcome =
    map-append action_of past (stamped outcome)
    ∙ ap (λ (l : List Action). map action_of past ++ l) (actions-stamps outcome.state.moment outcome.actions)

losses-after : (past : List Stamped) (outcome : Outcome) → losses (past ++ stamped outcome) ≡ losses past + times_lost outcome.actions
losses-after past outcome = ap times_lost (actions-after past outcome) ∙ sum_by-append loses_by (map action_of past) outcome.actions

-- the agent counts, in this state behind this past and behind all events from there on
abbrev pub Counts : List Stamped → State → Type 0
Counts past state = (events : List Timed)
    → (run state events).under_way.link.faults ≡ min (times_lost (map action_of past ++ actions_of state events)) (2 ^ 64 - 1)

none-more : (count : ℕ) → 0 + count ≡ count
none-more count = omega arith

pub counts-first : (settings : Settings) → Counts [] (first_state settings)
counts-first settings = λ events.
    run-losses settings events ∙ ap (λ n. min n (2 ^ 64 - 1)) (none-more (times_lost (actions_of (first_state settings) events)))

pub counts-after : (past : List Stamped) (state : State) (timed : Timed) → Counts past state
    → Counts (past ++ stamped (step state timed.moment timed.event)) (step state timed.moment timed.event).state
counts-after past state timed counts = λ events.
    let outcome = step state timed.moment timed.event in
    counts (timed ∷ events)
    ∙ ap (λ l. min (times_lost l) (2 ^ 64 - 1))
    (sym (append_assoc (map action_of past) outcome.actions (actions_of outcome.state events))
    ∙ ap (λ (l : List Action). l ++ actions_of outcome.state events) (sym (actions-after past outcome)))

pub counts-now : (past : List Stamped) (state : State) → Counts past state → AreCounted past
    → state.under_way.link.faults ≡ losses past
counts-now past state counts few =
    let now : state.under_way.link.faults ≡ min (losses past) (2 ^ 64 - 1) =
    counts [] ∙ ap (λ l. min (times_lost l) (2 ^ 64 - 1)) (append-nil (map action_of past)) in
    omega (arith, now, few)

module _ (number : ℕ) where
  -- ---- an ask of the client

  -- a request of the client that is put is an ask of the client
  record Puts (actions : List Action) : Type 0 where
    asking : Asking
    among : IsAmong (Asked asking) actions
    its : asking.port ≡ number

  puts-later : (action : Action) {later : List Action} → Puts later → Puts (action ∷ later)
  puts-later action puts = record { asking = puts.asking; among = inr puts.among; its = puts.its }

  puts-there : (actions : List Action) → is_among number (put_in actions) ≡ true → Puts actions
  puts-there [] is = absurd (cc)
  puts-there (Requested requesting ∷ later) is = puts-later (Requested requesting) (puts-there later is)
  puts-there (Asked asking ∷ later) is = by_purpose asking.purpose is (puts-there later)
    where
      by_test : (test : Bool) → (number == asking.port) ≡ test → (test || is_among number (put_in later)) ≡ true
          → (is_among number (put_in later) ≡ true → Puts later) → Puts (Asked asking ∷ later)
      by_test true same is_there rest =
          let own : asking.port ≡ number = grind (arith, nat_tests) in
          record { asking = asking; among = inl refl; its = own }
      by_test false other is_there rest = puts-later (Asked asking) (rest is_there)

      by_purpose : (purpose : Purpose) → is_among number (cons_option (put_for asking.port purpose) (put_in later)) ≡ true
          → (is_among number (put_in later) ≡ true → Puts later) → Puts (Asked asking ∷ later)
      by_purpose (ForSignature signing) is_there rest = by_test (number == asking.port) refl is_there rest
      by_purpose (ForBinding binding) is_there rest = puts-later (Asked asking) (rest is_there)
  puts-there (Answered settled ∷ later) is = puts-later (Answered settled) (puts-there later is)
  puts-there (Proved proving ∷ later) is = puts-later (Proved proving) (puts-there later is)
  puts-there (Raised raising ∷ later) is = puts-later (Raised raising) (puts-there later is)
  puts-there (Granted job ∷ later) is = puts-later (Granted job) (puts-there later is)
  puts-there (Over job ∷ later) is = puts-later (Over job) (puts-there later is)
  puts-there (Lost ∷ later) is = puts-later Lost (puts-there later is)

  -- ---- the tally

  -- the helpers that were lost before the client's request was put and behind it are all
  abbrev pub Tallies : List Stamped → Peer → Type 0
  Tallies past peer = peer.asked ≢ asks.Nothing → (request : Request) → last_request number past ≡ Some request
      → (before : ℕ) → peer.course.put ≡ Some before → (put : Asking × List Action) → ask_in number request.later ≡ Some put
      → before + times_lost put.1 ≡ losses past

  -- marks at a port
  unput-marks : (faults : ℕ) (raised put : Bool) (found : Option Peer) → put ≡ false
      → ((peer_or number (marked_by number (put_at faults) put (marked_by number raised_at raised found))).course.put ≡ (peer_or number found).course.put)
      × ((peer_or number (marked_by number (put_at faults) put (marked_by number raised_at raised found))).asked ≡ (peer_or number found).asked)
  unput-marks faults raised true found is = absurd (cc)
  unput-marks faults raised false None is = (refl, refl)
  unput-marks faults true false (Some peer) is = (refl, refl)
  unput-marks faults false false (Some peer) is = (refl, refl)

  put-marks : (faults : ℕ) (raised put : Bool) (found : Option Peer) → put ≡ true → (before : ℕ)
      → (peer_or number (marked_by number (put_at faults) put (marked_by number raised_at raised found))).course.put ≡ Some before
      → before ≡ faults
  put-marks faults raised false found is before put = absurd (cc)
  put-marks faults raised true None is before put = let no : None ≡ Some before = put in absurd (cc)
  put-marks faults raised true (Some peer) is before put = let same : Some faults ≡ Some before = put in cc

  module _ (past : List Stamped) (state : State) (moment : Moment) (event : Happening) (tied : IsTied state) (book : Book) (fine : Fine number past state book) (fits : Fits event state) (brief_then : IsBrief (at_moment moment state)) (brief_after : IsBrief (step state moment event).state) (done : Ends number past state moment event tied book fine fits brief_then brief_after) (counts : Counts past state) (tallied : AreCounted past → Tallies past (peer_or number (at_port number book))) where
    abbrev timed : Timed
    timed = record { moment = moment; event = event }

    abbrev outcome : Outcome
    outcome = step state moment event

    abbrev over : List Sight
    over = goes_over moment state event

    abbrev past_after : List Stamped
    past_after = past ++ stamped outcome

    abbrev book_after : Book
    book_after = (see_all (event_sights state timed) book).book

    abbrev peer : Peer
    peer = peer_or number (at_port number book)

    abbrev met : Peer
    met = peer_or number (at_port number (see_all over book).book)

    counted-before : AreCounted past_after → AreCounted past
    counted-before few = let sum = losses-after past outcome in omega (arith, sum, few)

    -- what was put for a client that waits is an ask of it
    asked-there : (request : Request) → went_told peer.course ≡ went_by number request.later → (before : ℕ)
        → peer.course.put ≡ Some before → ask_in number request.later ≢ None
    asked-there request went before put none =
        let is : is_among number (put_in request.later) ≡ true = sym (ap (λ w. w.put) went) ∙ ap is_some put in
        let puts = puts-there request.later is in
        ask-there number request.later puts.asking puts.its puts.among none

    -- the client at its port
    record Here : Type 0 where
      port : Port
      found : find_port number state.ports ≡ Some port
      door : port.door ≡ Clients
      client : Client port peer

    here : peer.asked ≢ asks.Nothing → Here
    here busy = by_match refl fine.matches
      where
        by_match : {who : Option Peer} → at_port number book ≡ who → Matches number (find_port number state.ports) who → Here
        by_match is (nobody there) = absurd (busy (ap (λ o. (peer_or number o).asked) is))
        by_match is (somebody port who found door client) =
            record { port = port; found = found; door = door; client = subst (λ o. Client port (peer_or number o)) (sym is) client }

    -- ---- what is told

    pub reasons-event : AreCounted past
        → reasons_told number (see_all (event_sights state timed) book).told ≡ reasons_at number past state timed
    reasons-event few =
        reasons-are number f (see_all (event_sights state timed) book).told
        (said-event number f (left (last_request number past)) moment.wall over outcome book (said-over number f moment state event book says))
        ∙ ap (filter_map (λ (end : End). f end.came)) done.ends_are
      where
        f : Came → Option Reason
        f = reason_with number (last_request number past)

        left : (last : Option Request) → reason_with number last Left ≡ None
        left None = refl
        left (Some request) = refl

        says : (count : ℕ) → event ≡ Took number count → (one : Peer) → at_port number book ≡ Some one → one.asked ≢ asks.Nothing
            → (reply : ℕ) → reason_told (fate_by reply one.course state.under_way.link.faults)
            ≡ f (came_told (fate_by reply one.course state.under_way.link.faults))
        says count is one there one_busy reply =
            subst (λ (p : Peer). reason_told (fate_by reply p.course state.under_way.link.faults) ≡ f (came_told (fate_by reply p.course state.under_way.link.faults))) same
            (reason-reply (ask_in number fared.request.later) peer.course state.under_way.link.faults reply (fared.taking nothing).0
            (asked-there fared.request (peer-went number (at_port number book) (went_by number fared.request.later) (fine.goes it.port it.found it.door busy fared.request fared.last)))
            (λ before put at asked. tallied few busy fared.request fared.last before at put asked ∙ sym (counts-now past state counts few))
            ∙ sym (ap (λ last. reason_with number last (came_told (fate_by reply peer.course state.under_way.link.faults))) fared.last))
          where
            same : peer ≡ one
            same = ap (peer_or number) there

            busy : peer.asked ≢ asks.Nothing
            busy none = one_busy (sym (ap (λ (p : Peer). p.asked) same) ∙ none)

            it : Here
            it = here busy

            fared : Fared number past it.port peer
            fared = fine.fares it.port it.found it.door busy

            nothing : it.port.waits ≡ Nothing
            nothing = by_client it.client (subst (λ e. Fits e state) is fits)
              where
                owed-is : owed_of number state ≡ it.port.owed
                owed-is = ap (λ o. owed_by o state.under_way) it.found ∙ ap (λ d. owed_as (role_of d it.port.number state.under_way) it.port state.under_way) it.door

                no_owed : (0 < count) × (count ≤ length (owed_of number state)) → it.port.owed ≡ [] → ⊥
                no_owed fit none =
                    let zero : length (owed_of number state) ≡ 0 = ap length (owed-is ∙ none) in
                    let some : 0 < count = fit.0 in
                    let within : count ≤ length (owed_of number state) = fit.1 in
                    omega (arith, zero, some, within)

                by_client : Client it.port peer → (0 < count) × (count ≤ length (owed_of number state)) → it.port.waits ≡ Nothing
                by_client (idle idle_now unowed sent given none more) fit = idle_now
                by_client (waiting on unowed sent given asking) fit = absurd (no_owed fit unowed)
                by_client (taking body nothing_now owes sent asking body_fits text) fit = nothing_now

    -- ---- behind the event

    -- it was put by the event
    now-put : (port : Port) → find_port number outcome.state.ports ≡ Some port → port.door ≡ Clients
        → (peer_or number (at_port number book_after)).asked ≢ asks.Nothing → is_among number (put_in outcome.actions) ≡ true
        → (request : Request) → last_request number past_after ≡ Some request → (put : Asking × List Action)
        → ask_in number request.later ≡ Some put → times_lost put.1 ≡ 0
    now-put port found door busy among request last put there =
        let puts = puts-there outcome.actions among in
        let waits : WaitsFor puts.asking.port puts.asking.ask outcome.state = step-waiting state moment event puts.asking tied puts.among in
        let same_port : Some waits.port ≡ Some port = sym waits.found ∙ ap (λ n. find_port n outcome.state.ports) puts.its ∙ found in
        let equal : waits.port ≡ port = cc in
        let on : port.waits ≡ OnAsk puts.asking.ask = ap (λ (p : Port). p.waits) (sym equal) ∙ waits.waits in
        let fared : Fared number past_after port (peer_or number (at_port number book_after)) = done.fine_after.fares port found door busy in
        let both : Some fared.request ≡ Some request = sym fared.last ∙ last in
        let same : fared.request ≡ request = cc in
        let asked : IsPut number puts.asking.ask fared.request.later = fared.asked puts.asking.ask on in
        let one : Some asked.put ≡ Some put = sym asked.is ∙ ap (λ (r : Request). ask_in number r.later) same ∙ there in
        let it : asked.put ≡ put = cc in
        subst (λ (p : Asking × List Action). times_lost p.1 ≡ 0) it (unanswered-kept asked.put.0.ask asked.put.1 asked.open_yet)

    -- it was put before
    was-put : AreCounted past → (before : ℕ) → met.course.put ≡ Some before → met.asked ≢ asks.Nothing → (request : Request)
        → last_request number past_after ≡ Some request → (put : Asking × List Action) → ask_in number request.later ≡ Some put
        → before + times_lost put.1 ≡ losses past_after
    was-put few before marked met_busy request last put there = by_old (ask_in number fared.request.later) refl
      where
        kept : (met.course ≡ peer.course) × (peer.asked ≢ asks.Nothing) × Each (IsOther number) outcome.actions
        kept = done.keeps before marked met_busy

        busy : peer.asked ≢ asks.Nothing
        busy = kept.1

        it : Here
        it = here busy

        fared : Fared number past it.port peer
        fared = fine.fares it.port it.found it.door busy

        peer_put : peer.course.put ≡ Some before
        peer_put = sym (ap (λ c. c.put) kept.0) ∙ marked

        last_is : last_request number past_after ≡ Some (more_done outcome.actions fared.request)
        last_is =
            last-more number past outcome.state.moment outcome.actions kept.2
            ∙ ap (option_map (more_done outcome.actions)) fared.last

        whole : option_or (option_map (behind_it outcome.actions) (ask_in number fared.request.later)) (ask_in number outcome.actions) ≡ Some put
        whole =
            let both : Some (more_done outcome.actions fared.request) ≡ Some request = sym last_is ∙ last in
            let same : more_done outcome.actions fared.request ≡ request = cc in
            sym (ask-more number fared.request.later outcome.actions) ∙ ap (λ (r : Request). ask_in number r.later) same ∙ there

        by_old : (old : Option (Asking × List Action)) → ask_in number fared.request.later ≡ old → before + times_lost put.1 ≡ losses past_after
        by_old None none =
            absurd (asked-there fared.request (peer-went number (at_port number book) (went_by number fared.request.later) (fine.goes it.port it.found it.door busy fared.request fared.last)) before peer_put none)
        by_old (Some old) is =
            let all : Some (behind_it outcome.actions old) ≡ Some put =
            sym (ap (λ o. option_or (option_map (behind_it outcome.actions) o) (ask_in number outcome.actions)) is) ∙ whole in
            let same : behind_it outcome.actions old ≡ put = cc in
            let times : times_lost put.1 ≡ times_lost old.1 + times_lost outcome.actions =
            ap (λ (p : Asking × List Action). times_lost p.1) (sym same) ∙ sum_by-append loses_by old.1 outcome.actions in
            let was : before + times_lost old.1 ≡ losses past = tallied few busy fared.request fared.last before peer_put old is in
            let sum = losses-after past outcome in
            omega (arith, times, was, sum)

    pub tallied-after : AreCounted past_after → Tallies past_after (peer_or number (at_port number book_after))
    tallied-after few busy request last before marked put there = by_match refl done.fine_after.matches
      where
        faults : ℕ
        faults = outcome.state.under_way.link.faults

        raised_now : Bool
        raised_now = is_among number (raised_in outcome.actions)

        seen : Option Peer
        seen = at_port number (see_all over book).book

        by_put : (port : Port) → find_port number outcome.state.ports ≡ Some port → port.door ≡ Clients → (now : Bool)
            → is_among number (put_in outcome.actions) ≡ now
            → at_port number book_after ≡ marked_by number (put_at faults) now (marked_by number raised_at raised_now seen)
            → before + times_lost put.1 ≡ losses past_after
        by_put port found door true among is =
            let now : before ≡ faults = put-marks faults raised_now true seen refl before (ap (λ o. (peer_or number o).course.put) (sym is) ∙ marked) in
            let none : times_lost put.1 ≡ 0 = now-put port found door busy among request last put there in
            let all : faults ≡ losses past_after = counts-now past_after outcome.state (counts-after past state timed counts) few in
            omega (arith, now, none, all)
        by_put port found door false among is =
            let same = unput-marks faults raised_now false seen refl in
            was-put (counted-before few) before
            (sym same.0 ∙ ap (λ o. (peer_or number o).course.put) (sym is) ∙ marked)
            (λ none. busy (ap (λ o. (peer_or number o).asked) is ∙ same.1 ∙ none)) request last put there

        by_match : {who : Option Peer} → at_port number book_after ≡ who → Matches number (find_port number outcome.state.ports) who
            → before + times_lost put.1 ≡ losses past_after
        by_match is (nobody gone) = absurd (busy (ap (λ o. (peer_or number o).asked) is))
        by_match is (somebody port who found door client) =
            by_put port found door (is_among number (put_in outcome.actions)) refl
            (ap (at_port number) (book-append number over (came_of moment.wall outcome) book)
            ∙ at-came number moment.wall outcome (see_all over book).book (open-after number state moment event tied port found))
