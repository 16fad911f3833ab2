-- Over a run: each event tells what it ends, as the history says that it ended.
use Rattle.std.proofs.Common.{◌≡◌, ◌≢◌, ◌⊎◌, ◌==◌, ◌&&◌, ℕ, ◌<◌, ◌≤◌, List, [], ◌∷◌, ◌++◌, length, map, take, refl, ap, arith, sym, subst, ◌∙◌, append_assoc, Bool, true, false, Option, Some, None, inl, inr, if◌then◌else◌}
use Rattle.std.proofs.lemmas.Bool.{cases_eq}
use Rattle.std.proofs.lemmas.Bool.Decides.{nat_tests}
use Rattle.std.proofs.lemmas.List.{append-nil, map-append}
use Rattle.std.specs.Option.{option_map}
use Rattle.lists.specs.Rising.{is_among}
use Rattle.world_ports.specs.declared.Door.TheVariants.{Clients, Children}
use Rattle.world_ports.specs.declared.Moment.{Moment}
use Rattle.agent_model.specs.Actions.{Action, Outcome}
use Rattle.agent_model.specs.Children.{heard_more}
use Rattle.agent_model.specs.Events.{Happening, Timed, Joined, Heard, Ended, Took, Started, StartFailed, Tick}
use Rattle.agent_model.specs.Runs.{Stamped, stamped}
use Rattle.agent_model.specs.Sound.{IsTied}
use Rattle.agent_model.specs.State.{Fits, Port, State, find_port, is_client, owed_as, owed_by, owed_of, role_of}
use Rattle.agent_model.specs.Step.{handle, step, took_some}
use Rattle.agent_model.specs.Time.{at_moment, time_passes}
use Rattle.agent_model.proofs.ActionLemmas.{Each, each-append}
use Rattle.agent_model.proofs.FatedLemmas.{step-fated}
use Rattle.agent_model.proofs.MakeLemmas.{Change, IsOf, hears, takes}
use Rattle.agent_model.proofs.TimeKeptLemmas.{keeps_time-handle}
use Rattle.agent_model.proofs.TimeLemmas.{AreEnds, time_passes-ends}
use Rattle.log_book.specs.Books.{Book, ends_at as ends_in, see_all}
use Rattle.log_book.specs.Peers.{Peer, answered, answered_by, ended_by, looked, looked_by, read_next, sent_more}
use Rattle.log_book.specs.Requests.{next_in}
use Rattle.log_book.specs.declared.sight.Sight.{Sight}
use Rattle.log_book.specs.declared.sight.What.TheVariants as what
use Rattle.log_book.specs.declared.told.Asked.{Asked}
use Rattle.log_book.specs.declared.told.Asked.TheVariants as asks
use Rattle.log_laws.specs.Ends.{Came, End, Left, Request, Went, ask_in, came_at, came_by, ended_at, ends_at, ends_with, is_busy, last_request, readings_of, went_by, went_told}
use Rattle.log_laws.specs.Ends as law
use Rattle.log_laws.specs.Reads.{Reading}
use Rattle.log_laws.specs.Sights.{came_of, event_sights, goes_over, is_of_client, of_client, seen_at}
use Rattle.log_laws.proofs.AgreeLemmas.{Matches, bytes-apart, came-brings, closed-after, nobody, open-after, somebody}
use Rattle.log_laws.proofs.BookLemmas.{AreAlike, Brings, IsAlone, alike-then, at_port, claim_by, claim_of, ended_claim, peer_or, sees-given, sees-sent}
use Rattle.log_laws.proofs.CameLemmas.{busy-is, came-idle, came-none, ended-or, ends-child, ends-none, ends-some, fares-alike, idle-not, left-none}
use Rattle.log_laws.proofs.ClientLemmas.{Client, IsBrief, client-turned, idle, taking, waiting}
use Rattle.log_laws.proofs.EndLemmas.{ended_ends, ends, ends-event, ends-given, ends-one, ends-over, left_ends}
use Rattle.log_laws.proofs.FareLemmas.{Fared, Fares, goes}
use Rattle.log_laws.proofs.LookLemmas.{claim}
use Rattle.log_laws.proofs.OwnLemmas.{Looks, heard-looks, took-takes}
use Rattle.log_laws.proofs.PastLemmas.{last-more, more_done, others-step, stamps}
use Rattle.log_laws.proofs.ReadLemmas.{IsOther, ends-others}
use Rattle.log_laws.proofs.SightsLemmas.{book-append, brings-one}
use Rattle.log_laws.proofs.StayLemmas.{ended-gone}
use Rattle.log_laws.proofs.TellLemmas.{step-wall, told-event}
use Rattle.log_laws.proofs.TurnLemmas.{Turns, gets, leaves, rests, time-turns}
use Rattle.log_laws.proofs.WentLemmas.{GoesSo, asked-alike, at-given, at-over, at-sent, book-one, goes-append, goes_on, peer-went, unmarked, unmarked-ends, went-append, went-came, went_or, wents}
use Rattle.log_laws.proofs.WhyLemmas.{unmarked-gone}

-- ---- a client that waits yet for an answer to what was put

abbrev IsSame : (old new : Peer) → Type 0
IsSame old new = (before : ℕ) → new.course.put ≡ Some before → new.asked ≢ asks.Nothing
    → (new.course ≡ old.course) × (old.asked ≢ asks.Nothing)

looked-same : (wall : ℕ) (peer : Peer) → IsSame peer (looked wall peer)
unfolding looked
looked-same wall peer = by_asked peer.asked refl
  where
    by_next : (next : Option (List ℕ × List ℕ)) → peer.asked ≡ asks.Nothing → IsSame peer (read_next wall next peer)
    by_next None none before put busy = absurd (busy none)
    by_next (Some next) none before put busy = let no : None ≡ Some before = put in absurd (cc)

    by_asked : (asked : Asked) → peer.asked ≡ asked → IsSame peer (looked_by wall asked peer)
    by_asked asks.Nothing is before put busy = by_next (next_in peer.sent) is before put busy
    by_asked (asks.Signing blob message) is before put busy = (refl, busy)
    by_asked (asks.Adding blob comment) is before put busy = (refl, busy)
    by_asked asks.Other is before put busy = (refl, busy)

answered-same : (wall : ℕ) (bytes : List ℕ) (peer : Peer) → IsSame peer (answered wall bytes peer)
unfolding answered
answered-same wall bytes peer = by_next (next_in (peer.given ++ bytes))
  where
    by_next : (next : Option (List ℕ × List ℕ)) → IsSame peer (answered_by wall (peer.given ++ bytes) next peer)
    by_next None before put busy = (refl, busy)
    by_next (Some next) before put busy =
        let freed : Peer = record peer { given = next.1; asked = asks.Nothing } in
        absurd ((looked-same wall freed before put busy).1 refl)

module _ (number : ℕ) where
  -- what a book and a past have of a client is what the agent has
  pub record Fine (past : List Stamped) (state : State) (book : Book) : Type 0 where
    pub alone : IsAlone number book.peers
    pub matches : Matches number (find_port number state.ports) (at_port number book)
    pub fares : (port : Port) → find_port number state.ports ≡ Some port → port.door ≡ Clients
        → Fares number past port (peer_or number (at_port number book))
    pub goes : (port : Port) → find_port number state.ports ≡ Some port → port.door ≡ Clients
        → (peer_or number (at_port number book)).asked ≢ asks.Nothing → (request : Request)
        → last_request number past ≡ Some request → wents (at_port number book) ≡ Some (went_by number request.later)

  pub claim-or : (found : Option Peer) → claim_of found ≡ claim (peer_or number found)
  claim-or None = refl
  claim-or (Some peer) = refl

  -- ---- an event

  module _ (past : List Stamped) (state : State) (moment : Moment) (event : Happening) (tied : IsTied state) (book : Book) (fine : Fine past state book) (fits : Fits event state) (brief_then : IsBrief (at_moment moment state)) (brief_after : IsBrief (step state moment event).state) where
    abbrev timed : Timed
    timed = record { moment = moment; event = event }

    abbrev outcome : Outcome
    outcome = step state moment event

    abbrev opened : State
    opened = at_moment moment state

    abbrev wall : ℕ
    wall = moment.wall

    abbrev over : List Sight
    over = goes_over moment state event

    abbrev past_after : List Stamped
    past_after = past ++ stamped outcome

    abbrev book_after : Book
    book_after = (see_all (event_sights state timed) book).book

    abbrev peer : Peer
    peer = peer_or number (at_port number book)

    -- a client that waits, behind the bytes that go over its socket, for an answer to what was put did so before, and
    -- the event reads no request of it
    abbrev pub Keeps : Option Peer → Type 0
    Keeps found = (before : ℕ) → (peer_or number found).course.put ≡ Some before → (peer_or number found).asked ≢ asks.Nothing
        → ((peer_or number found).course ≡ peer.course) × (peer.asked ≢ asks.Nothing) × Each (IsOther number) outcome.actions

    pub record Ends : Type 0 where
      pub ends_are : ends number (see_all (event_sights state timed) book).told ≡ ends_at number past state timed
      pub fine_after : Fine past_after outcome.state book_after
      pub keeps : Keeps (at_port number (see_all over book).book)

    -- how far the request of a client goes by the event
    abbrev goes_to : Option Peer → Option Went
    goes_to found = option_map (goes_on number outcome.actions) (wents found)

    -- by what the bytes tell that go over the client's socket, and what they leave
    finish : (first : List Reading) (found : Option Peer) (now : List End) → Brings number first found (see_all over book)
        → at_port number (see_all over book).book ≡ found
        → ends number (see_all over book).told ≡ now
        → now ++ left_ends wall (is_among number outcome.closes) (went_or (goes_to found)) found ≡ ends_at number past state timed
        → ((port : Port) → find_port number outcome.state.ports ≡ Some port → port.door ≡ Clients → Fares number past_after port (peer_or number found))
        → ((port : Port) → find_port number outcome.state.ports ≡ Some port → port.door ≡ Clients
        → (peer_or number found).asked ≢ asks.Nothing → (request : Request) → last_request number past_after ≡ Some request
        → goes_to found ≡ Some (went_by number request.later))
        → Keeps found → Ends
    finish first found now bytes exact tells total fares goes keeps =
        let told = told-event number state moment event tied book fine.alone brief_then brief_after fine.matches fits in
        record {
          ends_are = ends-event number wall over outcome book found bytes.alone bytes.found (ap wents exact)
              ∙ ap (λ (l : List End). l ++ left_ends wall (is_among number outcome.closes) (went_or (goes_to found)) found) tells
              ∙ total;
          fine_after = record {
            alone = told.apart;
            matches = told.matches;
            fares = λ port there door. fares-alike number past_after port (alike port there) (fares port there door);
            goes = λ port there door busy request last.
                ap (λ b. wents (at_port number b)) (book-append number over (came_of wall outcome) book)
                ∙ went-came number wall outcome (see_all over book).book (open-after number state moment event tied port there)
                ∙ ap (option_map (goes_on number outcome.actions)) (ap wents exact)
                ∙ goes port there door (asked-alike number (alike port there) busy) request last;
          };
          keeps = subst Keeps (sym exact) keeps;
        }
      where
        alike : (port : Port) → find_port number outcome.state.ports ≡ Some port → AreAlike found (at_port number book_after)
        alike port there =
            let seen : Book = (see_all over book).book in
            let came = came-brings number state moment event tied book fine.alone seen bytes.alone false (open-after number state moment event tied port there) in
            subst (λ b. AreAlike found (at_port number b)) (sym (book-append number over (came_of wall outcome) book)) (alike-then bytes.found came.found)

    -- ---- nobody is there

    nobody-ends : ((port : Port) → find_port number state.ports ≡ Some port → port.door ≡ Children) → at_port number book ≡ None → Ends
    nobody-ends there none =
        finish [] None []
        (subst (λ o. Brings number [] o (see_all over book)) none (bytes-apart number state moment event tied book fine.alone (λ of. silent)))
        (at-over number moment state event book (λ piece is. silent) (λ count is. silent) ∙ none)
        (ends-over number moment state event book (λ count is. silent))
        (left-none wall (is_among number outcome.closes) (went_or (goes_to None)) None refl
        ∙ sym (ends-child number timed (find_port number state.ports) (last_request number past) there))
        (λ port found door busy. absurd (busy refl))
        (λ port found door busy. absurd (busy refl))
        (λ before put busy. absurd (busy refl))
      where
        by_found : (found : Option Port) → ((port : Port) → found ≡ Some port → port.door ≡ Children) → is_of_client found ≡ false
        by_found None child = refl
        by_found (Some port) child = ap is_client (child port refl)

        silent : is_of_client (find_port number state.ports) ≡ false
        silent = by_found (find_port number state.ports) there

    -- ---- a client is there

    module _ (port : Port) (found : find_port number state.ports ≡ Some port) (door : port.door ≡ Clients) (client : Client port peer) where
      ends-is : ends_at number past state timed ≡ ends_with number timed (Some port) (last_request number past)
      ends-is = ap (λ o. ends_with number timed o (last_request number past)) found

      -- its port behind the moment
      record Now : Type 0 where
        now : Port
        there : find_port number opened.ports ≡ Some now
        is_client : now.door ≡ Clients
        has : Client now peer

      behind-moment : Now
      behind-moment = by_turn (find_port number opened.ports) refl ((time-turns number moment state tied).turns port found door)
        where
          by_turn : (after : Option Port) → find_port number opened.ports ≡ after → Turns ⊥ port after → Now
          by_turn after there rests = record { now = port; there = there; is_client = door; has = client }
          by_turn after there (gets new verdict waits owed client_there heard owes on any) = record {
            now = new;
            there = there;
            is_client = client_there;
            has = client-turned {may = ⊥} client (gets new verdict waits owed client_there heard owes on any) (brief_then number new there client_there);
          }
          by_turn after there (leaves may) = absurd may

      no_tick : {f : Port → Port} → Change Tick number f → ⊥
      no_tick (hears piece is) = absurd (cc)
      no_tick (takes count is) = absurd (cc)

      abbrev past_then : List Stamped
      past_then = past ++ stamped (step state moment Tick)

      fares-then : Fares number past_then behind-moment.now peer
      fares-then busy =
          let gone = goes number past state moment Tick tied (λ of. no_tick of.1) (λ is. absurd (cc)) brief_then port peer found door client busy (fine.fares port found door busy) in
          let it : Some gone.new ≡ Some behind-moment.now = sym gone.found ∙ behind-moment.there in
          let same : gone.new ≡ behind-moment.now = cc in
          subst (λ p. Fared number past_then p peer) same gone.fared

      -- how far its request went by then
      goes-then : GoesSo number past_then [] peer
      goes-then busy request last =
          let fared = fine.fares port found door busy in
          let tick = (step state moment Tick).actions in
          let none : AreEnds tick = subst AreEnds (sym (append-nil (time_passes moment state).actions)) (time_passes-ends moment state) in
          let last_is : last_request number past_then ≡ Some (more_done tick fared.request) =
          last-more number past (step state moment Tick).state.moment tick (others-step number state moment Tick tied (λ of. no_tick of.1))
          ∙ ap (option_map (more_done tick)) fared.last in
          let it : Some (more_done tick fared.request) ≡ Some request = sym last_is ∙ last in
          let same : more_done tick fared.request ≡ request = cc in
          unmarked number [] (went_told peer.course) refl refl
          ∙ peer-went number (at_port number book) (went_by number fared.request.later) (fine.goes port found door busy fared.request fared.last)
          ∙ sym (went-append number fared.request.later tick ∙ unmarked-ends number (went_by number fared.request.later) none)
          ∙ ap (λ (r : Request). went_by number r.later) same

      past-is : past_after ≡ past_then ++ stamps outcome.state.moment (handle event opened).actions
      past-is =
          let moments : outcome.state.moment ≡ opened.moment = (keeps_time-handle event opened).moment in
          ap (λ l. past ++ l) (map-append (λ action. record { moment = outcome.state.moment; action = action }) (time_passes moment state).actions (handle event opened).actions)
          ∙ ap (λ m. past ++ (stamps m (time_passes moment state).actions ++ stamps outcome.state.moment (handle event opened).actions)) moments
          ∙ ap (λ l. past ++ (stamps opened.moment l ++ stamps outcome.state.moment (handle event opened).actions)) (sym (append-nil (time_passes moment state).actions))
          ∙ sym (append_assoc past (stamps opened.moment ((time_passes moment state).actions ++ [])) (stamps outcome.state.moment (handle event opened).actions))

      -- of an event of others
      module _ (foreign : IsOf event number → ⊥) where
        bytes : Brings number [] (at_port number book) (see_all over book)
        bytes = bytes-apart number state moment event tied book fine.alone (λ of. absurd (foreign of))

        tells : ends number (see_all over book).told ≡ []
        tells = ends-over number moment state event book (λ count is. absurd (foreign (took_some count, takes count is)))

        exact : at_port number (see_all over book).book ≡ at_port number book
        exact = at-over number moment state event book
            (λ piece is. absurd (foreign (heard_more piece, hears piece is))) (λ count is. absurd (foreign (took_some count, takes count is)))

        keeps : Keeps (at_port number book)
        keeps before put busy = (refl, busy, others-step number state moment event tied foreign)

        idle-ends : is_busy port.waits port.owed ≡ false → peer.asked ≡ asks.Nothing → claim peer ≡ [] → Ends
        idle-ends idle_port none unclaimed =
            finish [] (at_port number book) [] bytes exact tells
            (left-none wall (is_among number outcome.closes) (went_or (goes_to (at_port number book))) (at_port number book) (claim-or (at_port number book) ∙ unclaimed)
            ∙ sym (ends-is ∙ ends-none number timed port (last_request number past) (came-idle number port event foreign idle_port)))
            (λ other there client_there busy. absurd (busy none))
            (λ other there client_there busy. absurd (busy none))
            keeps

        left-ends : event ≡ Ended number → peer.asked ≢ asks.Nothing → Ends
        left-ends is busy =
            let gone : find_port number outcome.state.ports ≡ None =
            ap (λ e. find_port number (handle e opened).state.ports) is
            ∙ ended-gone number behind-moment.now opened behind-moment.there behind-moment.is_client (step-fated state moment Tick tied).tied.rising in
            let fared = fine.fares port found door busy in
            let itself : (number == number) ≡ true = grind (arith, nat_tests) in
            let came : came_at number port fared.request.later event ≡ Some Left =
            ap (came_at number port fared.request.later) is
            ∙ ap (λ b. if b && is_busy port.waits port.owed then Some Left else None) itself
            ∙ ap (λ b. if b then Some Left else None) (busy-is port peer client busy) in
            let went : went_or (goes_to (at_port number book)) ≡ went_by number fared.request.later =
            ap (λ w. went_or (option_map (goes_on number outcome.actions) w)) (fine.goes port found door busy fared.request fared.last)
            ∙ unmarked-gone number state moment event tied foreign gone (went_by number fared.request.later) in
            finish [] (at_port number book) [] bytes exact tells
            (ap (λ b. left_ends wall b (went_or (goes_to (at_port number book))) (at_port number book)) (closed-after number state moment event tied port found gone)
            ∙ ap (map (ended_at wall Left (went_or (goes_to (at_port number book))))) (claim-or (at_port number book) ∙ fared.reads)
            ∙ ap (λ w. map (ended_at wall Left w) (readings_of fared.request)) went
            ∙ sym (ends-is ∙ ap (ends_with number timed (Some port)) fared.last ∙ ends-some number timed port fared.request Left door came))
            (λ other there client_there. let no : None ≡ Some other = sym gone ∙ there in absurd (cc))
            (λ other there client_there. let no : None ≡ Some other = sym gone ∙ there in absurd (cc))
            keeps

        goes-ends : event ≢ Ended number → peer.asked ≢ asks.Nothing → Ends
        goes-ends open_yet busy =
            let now = goes number past state moment event tied foreign open_yet brief_after port peer found door client busy (fine.fares port found door busy) in
            let fared = fine.fares port found door busy in
            let last_is : last_request number past_after ≡ Some (more_done outcome.actions fared.request) =
            last-more number past outcome.state.moment outcome.actions (others-step number state moment event tied foreign)
            ∙ ap (option_map (more_done outcome.actions)) fared.last in
            finish [] (at_port number book) [] bytes exact tells
            (ap (λ b. left_ends wall b (went_or (goes_to (at_port number book))) (at_port number book)) (open-after number state moment event tied now.new now.found)
            ∙ sym (ends-is ∙ ends-none number timed port (last_request number past) (came-none number port event foreign open_yet)))
            (λ other there client_there still_busy.
            let it : Some now.new ≡ Some other = sym now.found ∙ there in
            let same : now.new ≡ other = cc in
            subst (λ p. Fared number past_after p peer) same now.fared)
            (λ other there client_there still_busy request last.
            let it : Some (more_done outcome.actions fared.request) ≡ Some request = sym last_is ∙ last in
            let same : more_done outcome.actions fared.request ≡ request = cc in
            ap (option_map (goes_on number outcome.actions)) (fine.goes port found door busy fared.request fared.last)
            ∙ ap Some (sym (went-append number fared.request.later outcome.actions))
            ∙ ap (λ (r : Request). Some (went_by number r.later)) same)
            keeps

        busy-ends : peer.asked ≢ asks.Nothing → (event ≡ Ended number) ⊎ (event ≢ Ended number) → Ends
        busy-ends busy (inl is) = left-ends is busy
        busy-ends busy (inr open_yet) = goes-ends open_yet busy

        others-ends : Ends
        others-ends = by_client client
          where
            by_client : Client port peer → Ends
            by_client (idle nothing unowed sent given none more) =
                idle-ends (idle-not port nothing unowed) none (ap (λ a. claim_by a peer.course.since) none)
            by_client (waiting on unowed sent given asking) = busy-ends asking (ended-or number event)
            by_client (taking body nothing owes sent asking fits text) = busy-ends asking (ended-or number event)

      is-client : is_of_client (find_port number state.ports) ≡ true
      is-client = ap is_of_client found ∙ ap is_client door

      -- behind a look
      looked-total : (new : Peer) → Looks number wall past_then outcome.state.moment (step-wall state moment event) new (handle event opened)
          → left_ends wall (is_among number outcome.closes) (went_or (goes_to (Some new))) (Some new) ≡ []
      looked-total new looks = by_found (find_port number outcome.state.ports) refl
        where
          by_found : (after : Option Port) → find_port number outcome.state.ports ≡ after
              → left_ends wall (is_among number outcome.closes) (went_or (goes_to (Some new))) (Some new) ≡ []
          by_found None is = left-none wall (is_among number outcome.closes) (went_or (goes_to (Some new))) (Some new) (looks.gone is)
          by_found (Some other) is = ap (λ b. left_ends wall b (went_or (goes_to (Some new))) (Some new)) (open-after number state moment event tied other is)

      looked-fares : (new : Peer) → Looks number wall past_then outcome.state.moment (step-wall state moment event) new (handle event opened)
          → (other : Port) → find_port number outcome.state.ports ≡ Some other → other.door ≡ Clients → Fares number past_after other new
      looked-fares new looks other there client_there =
          subst (λ l. Fares number l other new) (sym past-is) (looks.fares other there (brief_after number other there client_there))

      looked-goes : (new : Peer) → Looks number wall past_then outcome.state.moment (step-wall state moment event) new (handle event opened)
          → (other : Port) → find_port number outcome.state.ports ≡ Some other → other.door ≡ Clients
          → new.asked ≢ asks.Nothing → (request : Request) → last_request number past_after ≡ Some request
          → goes_to (Some new) ≡ Some (went_by number request.later)
      looked-goes new looks other there client_there busy request last =
          ap Some (goes-append number (handle event opened).actions (went_told new.course) (time_passes-ends moment state)
          ∙ looks.goes busy request (sym (ap (last_request number) past-is) ∙ last))

      -- what is left of a client behind a look
      looked-keeps : (new : Peer) → Looks number wall past_then outcome.state.moment (step-wall state moment event) new (handle event opened)
          → ((before : ℕ) → new.course.put ≡ Some before → new.asked ≢ asks.Nothing → (new.course ≡ peer.course) × (peer.asked ≢ asks.Nothing))
          → Keeps (Some new)
      looked-keeps new looks same before put busy =
          let was = same before put busy in (
            was.0,
            was.1,
            each-append (IsOther number) (time_passes moment state).actions (handle event opened).actions
                (ends-others number (time_passes-ends moment state))
                (subst (Each (IsOther number)) (sym (looks.unread before put busy)) tt),
          )

      heard-ends : (piece : List ℕ) → event ≡ Heard number piece → Ends
      heard-ends piece is =
          finish [] (Some new) [] bytes exact
          (ends-over number moment state event book (λ count took. let no : Heard number piece ≡ Took number count = sym is ∙ took in absurd (cc)))
          (looked-total new looks ∙ sym (ends-is ∙ ends-none number timed port (last_request number past) (λ later. ap (came_at number port later) is)))
          (looked-fares new looks)
          (looked-goes new looks)
          (looked-keeps new looks (looked-same wall (sent_more piece peer)))
        where
          new : Peer
          new = looked wall (sent_more piece peer)

          exact : at_port number (see_all over book).book ≡ Some new
          exact =
              let sight : Sight = seen_at wall state.under_way.link.faults (what.Sent number piece) in
              ap (λ e. at_port number (see_all (goes_over moment state e) book).book) is
              ∙ ap (λ b. at_port number (see_all (of_client b sight) book).book) is-client
              ∙ ap (at_port number) (book-one number sight book)
              ∙ at-sent number wall state.under_way.link.faults book piece

          bytes : Brings number [] (Some new) (see_all over book)
          bytes =
              subst (λ e. Brings number [] (Some new) (see_all (goes_over moment state e) book)) (sym is)
              (subst (λ b. Brings number [] (Some new) (see_all (of_client b (seen_at wall state.under_way.link.faults (what.Sent number piece))) book)) (sym is-client)
              (brings-one number [] _ (seen_at wall state.under_way.link.faults (what.Sent number piece)) book (sees-sent number wall state.under_way.link.faults book fine.alone piece)))

          looks : Looks number wall past_then outcome.state.moment (step-wall state moment event) new (handle event opened)
          looks =
              subst (λ e. Looks number wall past_then outcome.state.moment (step-wall state moment event) new (handle e opened)) (sym is)
              (heard-looks number wall past_then outcome.state.moment (step-wall state moment event) opened behind-moment.now peer behind-moment.there behind-moment.is_client piece behind-moment.has fares-then goes-then)

      took-ends : (count : ℕ) → event ≡ Took number count → (0 < count) → count ≤ length (owed_of number state) → Ends
      took-ends count is some there_are = by_client client
        where
          owed-is : owed_of number state ≡ port.owed
          owed-is = ap (λ o. owed_by o state.under_way) found ∙ ap (λ d. owed_as (role_of d port.number state.under_way) port state.under_way) door

          within : count ≤ length port.owed
          within = subst (λ owed. count ≤ length owed) owed-is there_are

          no_owed : port.owed ≡ [] → ⊥
          no_owed none = let zero : length port.owed ≡ 0 = ap length none in omega (arith, zero, some, within)

          given : List ℕ
          given = take count port.owed

          sight : Sight
          sight = seen_at wall state.under_way.link.faults (what.Given number given)

          over-is : over ≡ sight ∷ []
          over-is =
              ap (goes_over moment state) is
              ∙ ap (λ b. of_client b (seen_at wall state.under_way.link.faults (what.Given number (take count (owed_of number state))))) is-client
              ∙ ap (λ owed. seen_at wall state.under_way.link.faults (what.Given number (take count owed)) ∷ []) owed-is

          by_peer : (who : Option Peer) → at_port number book ≡ who → peer.asked ≢ asks.Nothing
              → Brings number (ended_claim (ended_by given peer)) (Some (answered wall given peer)) (see_all over book)
              × (ends number (see_all over book).told ≡ ended_ends wall (ended_by given peer))
              × (at_port number (see_all over book).book ≡ Some (answered wall given peer))
          by_peer None who busy = absurd (busy (ap (λ o. (peer_or number o).asked) who))
          by_peer (Some one) who busy =
              let same : peer ≡ one = ap (peer_or number) who in
              let in_book : ends_in given (at_port number book) ≡ ended_by given peer = ap (ends_in given) who ∙ ap (ended_by given) (sym same) in
              let left : option_map (answered wall given) (at_port number book) ≡ Some (answered wall given peer) = ap (option_map (answered wall given)) who ∙ ap (λ p. Some (answered wall given p)) (sym same) in
              let brings = brings-one number _ _ sight book (sees-given number wall state.under_way.link.faults book fine.alone given) in (
                subst (λ l. Brings number (ended_claim (ended_by given peer)) (Some (answered wall given peer)) (see_all l book)) (sym over-is)
                    (subst (λ o. Brings number (ended_claim (ended_by given peer)) o (see_all (sight ∷ []) book)) left
                    (subst (λ e. Brings number (ended_claim e) (option_map (answered wall given) (at_port number book)) (see_all (sight ∷ []) book)) in_book brings)),
                ap (λ l. ends number (see_all l book).told) over-is
                    ∙ ends-one number sight book
                    ∙ ends-given number wall state.under_way.link.faults book given
                    ∙ ap (ended_ends wall) in_book,
                ap (λ l. at_port number (see_all l book).book) over-is
                    ∙ ap (at_port number) (book-one number sight book)
                    ∙ at-given number wall state.under_way.link.faults book given
                    ∙ left,
              )

          by_client : Client port peer → Ends
          by_client (idle nothing unowed sent given_none none more) = absurd (no_owed unowed)
          by_client (waiting on unowed sent given_none asking) = absurd (no_owed unowed)
          by_client (taking body nothing owes sent asking body_fits text) =
              by_now (find_port number opened.ports) refl ((time-turns number moment state tied).turns port found door)
            where
              fared : Fared number past port peer
              fared = fine.fares port found door asking

              before : List Action
              before = fared.request.later

              itself : (number == number) ≡ true
              itself = grind (arith, nat_tests)

              told_as : Went → List End
              told_as went = map (ended_at wall (came_by went.put (ask_in number before)) went) (claim peer)

              came : Came
              came = came_by (went_by number before).put (ask_in number before)

              its : went_told peer.course ≡ went_by number before
              its = peer-went number (at_port number book) (went_by number before) (fine.goes port found door asking fared.request fared.last)

              by_size : (whole : Bool) → (count == length port.owed) ≡ whole
                  → (if count == length port.owed then told_as (went_told peer.course) else [])
                  ≡ ends_with number timed (Some port) (Some fared.request)
              by_size whole size =
                  ap (λ b. if b then told_as (went_told peer.course) else []) size
                  ∙ by_whole whole (ap (came_at number port before) is
                  ∙ ap (λ b. if b && (count == length port.owed) then Some came else None) itself
                  ∙ ap (λ b. if b then Some came else None) size)
                where
                  by_whole : (all : Bool) → came_at number port before event ≡ (if all then Some came else None)
                      → (if all then told_as (went_told peer.course) else [])
                      ≡ ends_with number timed (Some port) (Some fared.request)
                  by_whole true ended =
                      ap told_as its
                      ∙ ap (map (ended_at wall came (went_by number before))) fared.reads
                      ∙ sym (ends-some number timed port fared.request came door ended)
                  by_whole false ended =
                      sym (ap (λ d. if is_client d then law.ended_by wall (came_at number port before event) (went_by number before) (readings_of fared.request) else []) door
                      ∙ ap (λ c. law.ended_by wall c (went_by number before) (readings_of fared.request)) ended)

              by_now : (after : Option Port) → find_port number opened.ports ≡ after → Turns ⊥ port after → Ends
              by_now after there (gets new verdict waits owed client_there heard owes_it on any) = absurd (waits nothing)
              by_now after there (leaves may) = absurd may
              by_now after there rests =
                  let same_port : Some behind-moment.now ≡ Some port = sym behind-moment.there ∙ there in
                  let same : behind-moment.now ≡ port = cc in
                  let fares_now : Fares number past_then port peer = subst (λ p. Fares number past_then p peer) same fares-then in
                  let takes_it = took-takes number wall past_then outcome.state.moment (step-wall state moment event) opened port peer there door count some within body nothing sent asking body_fits text fares_now goes-then before (fared.taking nothing).1 in
                  let looks = subst (λ e. Looks number wall past_then outcome.state.moment (step-wall state moment event) (answered wall given peer) (handle e opened)) (sym is) takes_it.looks in
                  let brought = by_peer (at_port number book) refl asking in
                  finish (ended_claim (ended_by given peer)) (Some (answered wall given peer)) _ brought.0 brought.2 (brought.1 ∙ takes_it.ends)
                  (ap (λ (l : List End). (if count == length port.owed then told_as (went_told peer.course) else []) ++ l) (looked-total (answered wall given peer) looks)
                  ∙ append-nil _
                  ∙ by_size (count == length port.owed) refl
                  ∙ sym (ends-is ∙ ap (ends_with number timed (Some port)) fared.last))
                  (looked-fares (answered wall given peer) looks)
                  (looked-goes (answered wall given peer) looks)
                  (looked-keeps (answered wall given peer) looks (answered-same wall given peer))

      client-ends : Ends
      client-ends = by_event_of event refl fits
        where
          foreign-unless : ((piece : List ℕ) → event ≡ Heard number piece → ⊥) → ((count : ℕ) → event ≡ Took number count → ⊥)
              → IsOf event number → ⊥
          foreign-unless heard took of = by_change of.1
            where
              by_change : {f : Port → Port} → Change event number f → ⊥
              by_change (hears piece is) = heard piece is
              by_change (takes count is) = took count is

          by_event_of : (one : Happening) → event ≡ one → Fits one state → Ends
          by_event_of (Joined joined) is fit =
              others-ends (foreign-unless (λ piece same. absurd (let it = sym is ∙ same in cc)) (λ count same. absurd (let it = sym is ∙ same in cc)))
          by_event_of (Heard at piece) is fit = elim (cases_eq number at) [
            | inl equal ↦ heard-ends piece (is ∙ ap (λ n. Heard n piece) (sym equal))
            | inr other ↦ others-ends (foreign-unless
                (λ more same. let it : Heard at piece ≡ Heard number more = sym is ∙ same in let equal : number ≡ at = cc in other equal)
                (λ count same. absurd (let it = sym is ∙ same in cc)))
          ]
          by_event_of (Ended at) is fit =
              others-ends (foreign-unless (λ piece same. absurd (let it = sym is ∙ same in cc)) (λ count same. absurd (let it = sym is ∙ same in cc)))
          by_event_of (Took at count) is fit = elim (cases_eq number at) [
            | inl equal ↦
                (let fits_it = subst (λ n. Fits (Took n count) state) (sym equal) fit in
                took-ends count (is ∙ ap (λ n. Took n count) (sym equal)) fits_it.0 fits_it.1)
            | inr other ↦ others-ends (foreign-unless
                (λ piece same. absurd (let it = sym is ∙ same in cc))
                (λ more same. let it : Took at count ≡ Took number more = sym is ∙ same in let equal : number ≡ at = cc in other equal))
          ]
          by_event_of (Started job ticket) is fit =
              others-ends (foreign-unless (λ piece same. absurd (let it = sym is ∙ same in cc)) (λ count same. absurd (let it = sym is ∙ same in cc)))
          by_event_of (StartFailed job) is fit =
              others-ends (foreign-unless (λ piece same. absurd (let it = sym is ∙ same in cc)) (λ count same. absurd (let it = sym is ∙ same in cc)))
          by_event_of Tick is fit =
              others-ends (foreign-unless (λ piece same. absurd (let it = sym is ∙ same in cc)) (λ count same. absurd (let it = sym is ∙ same in cc)))

    pub event-ends : Ends
    event-ends = by_match refl fine.matches
      where
        by_match : {who : Option Peer} → at_port number book ≡ who → Matches number (find_port number state.ports) who → Ends
        by_match is (nobody there) = nobody-ends there is
        by_match is (somebody port who found door client) =
            client-ends port found door (subst (λ o. Client port (peer_or number o)) (sym is) client)
