-- An event as the agent takes it and as a book sees it: what was read of a client, and what is told and will be told of it.
use Rattle.std.proofs.Common.{◌≡◌, ◌==◌, ◌||◌, ℕ, suc, ◌<◌, ◌≤◌, List, [], ◌∷◌, ◌++◌, length, map, take, refl, ap, arith, sym, subst, ◌∙◌, append_assoc, Option, Some, None, Bool, true, false, inl, inr, if◌then◌else◌}
use Rattle.std.proofs.lemmas.Bool.{cases_eq}
use Rattle.std.proofs.lemmas.Bool.Decides.{nat_tests}
use Rattle.std.proofs.lemmas.List.{append-nil}
use Rattle.std.specs.List.{filter_map}
use Rattle.std.specs.Option.{option_map}
use Rattle.std.specs.Prelude.{is_some}
use Rattle.lists.specs.Rising.{is_among}
use Rattle.world_ports.specs.declared.Door.{Door}
use Rattle.world_ports.specs.declared.Door.TheVariants.{Clients, Children}
use Rattle.world_ports.specs.declared.Moment.{Moment}
use Rattle.wire_text.specs.Bounds.{longest_body}
use Rattle.wire_text.specs.Frames.{front}
use Rattle.wire_text.proofs.FrontLemmas.{front-short}
use Rattle.agent_model.specs.Actions.{Outcome}
use Rattle.agent_model.specs.Closings.{joined_between}
use Rattle.agent_model.specs.Events.{Happening, Timed, Joined, Heard, Ended, Took, Started, StartFailed, Tick}
use Rattle.agent_model.specs.NumberLists.{without}
use Rattle.agent_model.specs.Sound.{IsTied}
use Rattle.agent_model.specs.State.{Port, State, find_port, is_client, new_port, numbers, owed_as, owed_by, owed_of, role_of}
use Rattle.agent_model.specs.Step.{admitted, handle, has_room, step, took_some}
use Rattle.agent_model.specs.Children.{heard_more}
use Rattle.agent_model.specs.Time.{at_moment}
use Rattle.agent_model.proofs.ClosesLemmas.{closes-closed, is_among-open}
use Rattle.agent_model.proofs.FatedLemmas.{tied-opened}
use Rattle.agent_model.proofs.FatedMakeLemmas.{found_still}
use Rattle.agent_model.proofs.LeadLemmas.{follows-makes, same}
use Rattle.agent_model.proofs.MakeLemmas.{IsOf, by_event, hears, takes}
use Rattle.agent_model.proofs.RunLemmas.{at_moment-follows, leads-found}
use Rattle.agent_model.proofs.TieLemmas.{found_joined}
use Rattle.log_book.specs.Books.{Book, ends_at, see, see_all}
use Rattle.log_book.specs.Peers.{Peer, answered, ended_by, looked, sent_more}
use Rattle.log_book.specs.declared.sight.Sight.{Sight}
use Rattle.log_book.specs.declared.sight.What.TheVariants as what
use Rattle.log_laws.specs.Reads.{Reading, read_in}
use Rattle.log_laws.specs.Sights.{came_of, closed_sight, event_sights, goes_over, is_of_client, of_client, put_in, put_sight, raised_in, raised_sight, seen_at}
use Rattle.log_laws.proofs.BookLemmas.{AreAlike, Brings, IsAlone, alike-then, at_port, both, claim-alike, claim_of, ended_claim, neither, peer_or, sees-given, sees-given_apart, sees-sent, sees-sent_apart, tells}
use Rattle.log_laws.proofs.ClientLemmas.{Client, IsBrief, client-alike, client-turned, idle, taking, waiting}
use Rattle.log_laws.proofs.LookLemmas.{LooksAt, claim, ends, own-heard, own-took, stays}
use Rattle.log_laws.proofs.ReadLemmas.{IsForeign, others-makes, others-none, reads-step}
use Rattle.log_laws.proofs.SightsLemmas.{brings-append, brings-closed, brings-none, brings-one, brings-put, brings-raised}
use Rattle.log_laws.proofs.TurnLemmas.{Turns, gets, leaves, rests, time-turns, turn-makes, turn-then}

-- what the agent has at a port, and what a book has
pub data Matches (number : ℕ) (found : Option Port) : Option Peer → Type 0 where
  nobody : ((port : Port) → found ≡ Some port → port.door ≡ Children) → Matches number found None
  somebody : (port : Port) (peer : Option Peer) → found ≡ Some port → port.door ≡ Clients
      → Client port (peer_or number peer) → Matches number found peer

matches-alike : {number : ℕ} {found : Option Port} {one other : Option Peer} → AreAlike one other
    → Matches number found one → Matches number found other
matches-alike neither match = match
matches-alike (both one other is) (somebody port peer found door client) =
    somebody port (Some other) found door (client-alike is client)

-- ---- which ports an event closes

among-front : (x : ℕ) (xs ys : List ℕ) → is_among x xs ≡ true → is_among x (xs ++ ys) ≡ true
among-front x [] ys there = absurd (cc)
among-front x (z ∷ xs) ys there = by_test (x == z) there (λ later. among-front x xs ys later)
  where
    by_test : (test : Bool) → (test || is_among x xs) ≡ true → (is_among x xs ≡ true → is_among x (xs ++ ys) ≡ true)
        → (test || is_among x (xs ++ ys)) ≡ true
    by_test true is rest = refl
    by_test false is rest = rest is

without-kept : (x : ℕ) (xs ys : List ℕ) → is_among x ys ≡ true → is_among x (without xs ys) ≡ false
without-kept x [] ys kept = refl
without-kept x (z ∷ xs) ys kept = by_test (is_among z ys) refl (without-kept x xs ys kept)
  where
    by_test : (test : Bool) → is_among z ys ≡ test → is_among x (without xs ys) ≡ false
        → is_among x (if test then without xs ys else z ∷ without xs ys) ≡ false
    by_test true is rest = rest
    by_test false is rest = elim (cases_eq x z) [
      | inl equal ↦ absurd (let no : true ≡ false = sym kept ∙ ap (λ n. is_among n ys) equal ∙ is in cc)
      | inr apart ↦ (let fails : (x == z) ≡ false = grind (arith, nat_tests) in ap (λ b. b || is_among x (without xs ys)) fails ∙ rest)
    ]

without-gone : (x : ℕ) (xs ys : List ℕ) → is_among x xs ≡ true → is_among x ys ≡ false
    → is_among x (without xs ys) ≡ true
without-gone x [] ys there gone = absurd (cc)
without-gone x (z ∷ xs) ys there gone = elim (cases_eq x z) [
  | inl equal ↦
      (let out : is_among z ys ≡ false = ap (λ n. is_among n ys) (sym equal) ∙ gone in
      let its : (x == z) ≡ true = grind (arith, nat_tests) in
      ap (λ b. is_among x (if b then without xs ys else z ∷ without xs ys)) out
      ∙ ap (λ b. b || is_among x (without xs ys)) its)
  | inr apart ↦
      (let fails : (x == z) ≡ false = grind (arith, nat_tests) in
      let later : is_among x xs ≡ true = sym (ap (λ b. b || is_among x xs) fails) ∙ there in
      by_test (is_among z ys) fails (without-gone x xs ys later gone))
]
  where
    by_test : (test : Bool) → (x == z) ≡ false → is_among x (without xs ys) ≡ true
        → is_among x (if test then without xs ys else z ∷ without xs ys) ≡ true
    by_test true fails rest = rest
    by_test false fails rest = ap (λ b. b || is_among x (without xs ys)) fails ∙ rest

module _ (number : ℕ) (state : State) (moment : Moment) (event : Happening) (tied : IsTied state) where
  abbrev outcome : Outcome
  outcome = step state moment event

  -- a port that is open afterwards wasn't closed
  pub open-after : (port : Port) → find_port number outcome.state.ports ≡ Some port → is_among number outcome.closes ≡ false
  open-after port found =
      ap (is_among number) (closes-closed state moment event tied.rising)
      ∙ without-kept number _ (numbers outcome.state.ports)
      (is_among-open number outcome.state.ports ∙ ap is_some found)

  -- and one that was open and isn't was
  pub closed-after : (port : Port) → find_port number state.ports ≡ Some port → find_port number outcome.state.ports ≡ None
      → is_among number outcome.closes ≡ true
  closed-after port found gone =
      ap (is_among number) (closes-closed state moment event tied.rising)
      ∙ without-gone number (numbers state.ports ++ joined_between state.last_port outcome.state.last_port) (numbers outcome.state.ports)
      (among-front number (numbers state.ports) (joined_between state.last_port outcome.state.last_port) (is_among-open number state.ports ∙ ap is_some found))
      (is_among-open number outcome.state.ports ∙ ap is_some gone)

  module _ (book : Book) (alone : IsAlone number book.peers) where
    abbrev wall : ℕ
    wall = moment.wall

    abbrev timed : Timed
    timed = record { moment = moment; event = event }

    -- ---- what is seen of it

    -- what came of the event, by whether it closed the port
    pub came-brings : (seen : Book) → IsAlone number seen.peers → (is : Bool) → is_among number outcome.closes ≡ is
        → Brings number (if is then claim_of (at_port number seen) else []) (if is then None else at_port number seen) (see_all (came_of wall outcome) seen)
    came-brings seen seen_alone is among =
        let faults = outcome.state.under_way.link.faults in
        let raised = brings-raised number wall faults (raised_in outcome.actions) seen seen_alone in
        let second : Book = (see_all (map (raised_sight wall faults) (raised_in outcome.actions)) seen).book in
        let put = brings-put number wall faults (put_in outcome.actions) second raised.alone in
        let third : Book = (see_all (map (put_sight wall faults) (put_in outcome.actions)) second).book in
        let closed = brings-closed number wall faults is outcome.closes third put.alone among in
        let alike = alike-then raised.found put.found in
        by_test third is alike
        (brings-append number [] _ (at_port number seen) _ (map (raised_sight wall faults) (raised_in outcome.actions)) _ seen raised
        (brings-append number [] _ (at_port number second) _ (map (put_sight wall faults) (put_in outcome.actions)) (map (closed_sight wall faults) outcome.closes) second put closed))
      where
        by_test : (third : Book) (test : Bool) → AreAlike (at_port number seen) (at_port number third)
            → Brings number (if test then claim_of (at_port number third) else []) (if test then None else at_port number third) (see_all (came_of wall outcome) seen)
            → Brings number (if test then claim_of (at_port number seen) else []) (if test then None else at_port number seen) (see_all (came_of wall outcome) seen)
        by_test third true alike brings =
            subst (λ l. Brings number l None (see_all (came_of wall outcome) seen)) (claim-alike alike) brings
        by_test third false alike brings = record {
          told = brings.told;
          found = alike-then alike brings.found;
          alone = brings.alone;
        }

    -- what is told of the client by the event, and what will be, is what was to be told and what was read; and the book
    -- has of the client what the agent has
    pub record Told : Type 0 where
      pub told : tells number (see_all (event_sights state timed) book).told ++ claim_of (at_port number (see_all (event_sights state timed) book).book)
          ≡ claim_of (at_port number book) ++ filter_map (read_in wall number) outcome.actions
      pub apart : IsAlone number (see_all (event_sights state timed) book).book.peers
      pub matches : Matches number (find_port number outcome.state.ports) (at_port number (see_all (event_sights state timed) book).book)

    -- by what the bytes bring that go over the client's socket
    finish : (first before read : List Reading) (found : Option Peer)
        → Brings number first found (see_all (goes_over moment state event) book)
        → first ++ before ≡ claim_of (at_port number book) → claim_of found ≡ before ++ read
        → read ≡ filter_map (read_in wall number) outcome.actions → (is : Bool) → is_among number outcome.closes ≡ is
        → Matches number (find_port number outcome.state.ports) (if is then None else found) → Told
    finish first before read found bytes split claims reads is among match =
        by_test is (came-brings seen bytes.alone is among) match
      where
        seen : Book
        seen = (see_all (goes_over moment state event) book).book

        total : claim_of found ≡ before ++ read → first ++ claim_of found ≡ claim_of (at_port number book) ++ filter_map (read_in wall number) outcome.actions
        total is =
            ap (λ (l : List Reading). first ++ l) is ∙ sym (append_assoc first before read)
            ∙ ap (λ (l : List Reading). l ++ read) split ∙ ap (λ (l : List Reading). claim_of (at_port number book) ++ l) reads

        by_test : (test : Bool)
            → Brings number (if test then claim_of (at_port number seen) else []) (if test then None else at_port number seen) (see_all (came_of wall outcome) seen)
            → Matches number (find_port number outcome.state.ports) (if test then None else found) → Told
        by_test true came is_match =
            let all = brings-append number first (claim_of (at_port number seen)) found None (goes_over moment state event) (came_of wall outcome) book bytes came in
            record {
              told = ap (λ (l : List Reading). l ++ claim_of (at_port number (see_all (event_sights state timed) book).book)) all.told
                  ∙ ap (λ (l : List Reading). (first ++ claim_of (at_port number seen)) ++ l) (claim-alike all.found)
                  ∙ append-nil (first ++ claim_of (at_port number seen))
                  ∙ ap (λ (l : List Reading). first ++ l) (claim-alike bytes.found)
                  ∙ total claims;
              apart = all.alone;
              matches = matches-alike all.found is_match;
            }
        by_test false came is_match =
            let all = brings-append number first [] found (at_port number seen) (goes_over moment state event) (came_of wall outcome) book bytes came in
            let alike = alike-then bytes.found all.found in
            record {
              told = ap (λ (l : List Reading). l ++ claim_of (at_port number (see_all (event_sights state timed) book).book)) (all.told ∙ append-nil first)
                  ∙ ap (λ (l : List Reading). first ++ l) (claim-alike alike)
                  ∙ total claims;
              apart = all.alone;
              matches = matches-alike alike is_match;
            }

    -- ---- an event of others

    -- the bytes that go over other sockets tell nothing of it
    pub bytes-apart : (IsOf event number → is_of_client (find_port number state.ports) ≡ false)
        → Brings number [] (at_port number book) (see_all (goes_over moment state event) book)
    bytes-apart silent = by_event_of event refl silent
      where
        by_client : (sight : Sight) (is : Bool) → Brings number [] (at_port number book) (see sight book)
            → Brings number [] (at_port number book) (see_all (of_client is sight) book)
        by_client sight true brings = brings-one number [] (at_port number book) sight book brings
        by_client sight false brings = brings-none number book alone

        by_event_of : (what : Happening) → event ≡ what → (IsOf event number → is_of_client (find_port number state.ports) ≡ false)
            → Brings number [] (at_port number book) (see_all (goes_over moment state what) book)
        by_event_of (Joined door) is quiet = brings-none number book alone
        by_event_of (Heard port piece) is quiet = elim (cases_eq number port) [
          | inl equal ↦ subst (λ b. Brings number [] (at_port number book) (see_all (of_client b (seen_at wall state.under_way.link.faults (what.Sent port piece))) book))
              (sym (ap (λ n. is_of_client (find_port n state.ports)) (sym equal) ∙ quiet (heard_more piece, hears piece (is ∙ ap (λ n. Heard n piece) (sym equal)))))
              (brings-none number book alone)
          | inr other ↦ by_client (seen_at wall state.under_way.link.faults (what.Sent port piece)) (is_of_client (find_port port state.ports))
              (sees-sent_apart number wall state.under_way.link.faults book alone port piece other)
        ]
        by_event_of (Ended port) is quiet = brings-none number book alone
        by_event_of (Took port count) is quiet = elim (cases_eq number port) [
          | inl equal ↦ subst (λ b. Brings number [] (at_port number book) (see_all (of_client b (seen_at wall state.under_way.link.faults (what.Given port (take count (owed_of port state))))) book))
              (sym (ap (λ n. is_of_client (find_port n state.ports)) (sym equal) ∙ quiet (took_some count, takes count (is ∙ ap (λ n. Took n count) (sym equal)))))
              (brings-none number book alone)
          | inr other ↦ by_client (seen_at wall state.under_way.link.faults (what.Given port (take count (owed_of port state)))) (is_of_client (find_port port state.ports))
              (sees-given_apart number wall state.under_way.link.faults book alone port (take count (owed_of port state)) other)
        ]
        by_event_of (Started job ticket) is quiet = brings-none number book alone
        by_event_of (StartFailed job) is quiet = brings-none number book alone
        by_event_of Tick is quiet = brings-none number book alone

    abbrev opened : State
    opened = at_moment moment state

    tied-then : IsTied opened
    tied-then = tied-opened moment state tied

    -- nothing is read of it
    none-read : IsForeign number event opened.ports → [] ≡ filter_map (read_in wall number) outcome.actions
    none-read foreign =
        sym (reads-step number state moment event wall
        ∙ by_event (λ made. filter_map (read_in wall number) made.actions ≡ []) event opened (λ door. refl)
        (λ made makes. others-none number wall made.actions (others-makes number makes tied-then foreign)))

    -- ---- no client is at the port

    module _ (nobody_there : (port : Port) → find_port number state.ports ≡ Some port → port.door ≡ Children) where
      nobody-opened : (port : Port) → find_port number opened.ports ≡ Some port → port.door ≡ Children
      nobody-opened port found =
          let was = leads-found number 0 state.last_port state.ports port (at_moment-follows moment state).ports tied.rising found in
          was.2 ∙ nobody_there was.0 was.1

      -- a client that joins has sent nothing yet
      fresh : (door : Door) (port : Port) (ports : List Port) → find_port number (ports ++ new_port (suc opened.last_port) door ∷ []) ≡ Some port
          → port ≡ new_port (suc opened.last_port) door → Matches number (find_port number (ports ++ new_port (suc opened.last_port) door ∷ [])) None
      fresh Clients port ports found is =
          somebody port None found (ap (λ (p : Port). p.door) is)
          (idle (ap (λ (p : Port). p.waits) is) (ap (λ (p : Port). p.owed) is) (sym (ap (λ (p : Port). p.heard) is)) refl refl
          (ap (λ (p : Port). front longest_body p.heard) is ∙ front-short longest_body [] (omega arith)))
      fresh Children port ports found is =
          nobody (λ other there.
          let same_port : Some other ≡ Some port = sym there ∙ found in
          let equal : other ≡ port = cc in
          ap (λ (p : Port). p.door) (equal ∙ is))

      joins : (door : Door) (room : Bool) → Matches number (find_port number (admitted room (suc opened.last_port) door opened.ports)) None
      joins door false = nobody nobody-opened
      joins door true = by_found (find_port number (opened.ports ++ new_port (suc opened.last_port) door ∷ [])) refl
        where
          by_found : (found : Option Port) → find_port number (opened.ports ++ new_port (suc opened.last_port) door ∷ []) ≡ found
              → Matches number (find_port number (opened.ports ++ new_port (suc opened.last_port) door ∷ [])) None
          by_found None is = nobody (λ port there. let gone : None ≡ Some port = sym is ∙ there in absurd (cc))
          by_found (Some port) is = elim (found_joined number (suc opened.last_port) door opened.ports port is) [
            | inl was ↦ nobody (λ other there.
                let same_port : Some other ≡ Some port = sym there ∙ is in
                let equal : other ≡ port = cc in
                ap (λ (p : Port). p.door) equal ∙ nobody-opened port was)
            | inr new ↦ fresh door port opened.ports is new
          ]

      nobody-after : Matches number (find_port number outcome.state.ports) None
      nobody-after =
          by_event (λ made. Matches number (find_port number made.state.ports) None) event opened (λ door. joins door (has_room door opened.ports opened.under_way))
          (λ made makes. nobody (λ port found.
          let was = leads-found number 0 opened.last_port opened.ports port (follows-makes event opened makes record { last = refl; ports = same }).ports tied-then.rising found in
          was.2 ∙ nobody-opened was.0 was.1))

      pub event-nobody : at_port number book ≡ None → Told
      event-nobody none =
          finish [] [] [] None
          (subst (λ o. Brings number [] o (see_all (goes_over moment state event) book)) none (bytes-apart (λ of. by_found (find_port number state.ports) nobody_there)))
          (sym (ap claim_of none)) refl (none-read (λ of. nobody-opened)) (is_among number outcome.closes) refl
          (either (is_among number outcome.closes))
        where
          either : (is : Bool) → Matches number (find_port number outcome.state.ports) (if is then None else None)
          either true = nobody-after
          either false = nobody-after

          by_found : (found : Option Port) → ((port : Port) → found ≡ Some port → port.door ≡ Children) → is_of_client found ≡ false
          by_found None child = refl
          by_found (Some port) child = ap is_client (child port refl)

    -- ---- a client is at the port

    module _ (port : Port) (found : find_port number state.ports ≡ Some port) (door : port.door ≡ Clients) (client : Client port (peer_or number (at_port number book))) (brief_then : IsBrief opened) (brief_after : IsBrief outcome.state) where
      -- an event of others
      widened : {old : Port} {after : Option Port} → Turns ⊥ old after → Turns (Unit {0}) old after
      widened rests = rests
      widened (gets new verdict waits owed there heard owes on any) = gets new verdict waits owed there heard owes on any
      widened (leaves is) = absurd is

      turned : (IsOf event number → ⊥) → Turns (Unit {0}) port (find_port number outcome.state.ports)
      turned foreign =
          let time = time-turns number moment state tied in
          turn-then (widened (time.turns port found door)) door
          (λ now there is_client_there.
          by_event (λ made. Turns (Unit {0}) now (find_port number made.state.ports)) event opened
          (λ joined_door. joined now there (has_room joined_door opened.ports opened.under_way) joined_door)
          (λ made makes. turn-makes number (Unit {0}) event foreign tt now makes tied-then (there, is_client_there)))
          (λ gone. absurd (open-yet (find_port number opened.ports) (time.turns port found door) gone))
        where
          open-yet : (after : Option Port) → Turns ⊥ port after → after ≡ None → ⊥
          open-yet after rests is = absurd (cc)
          open-yet after (gets new verdict waits owed there heard owes on any) is = absurd (cc)
          open-yet after (leaves is) gone = is

          joined : (now : Port) → find_port number opened.ports ≡ Some now → (room : Bool) (joined_door : Door)
              → Turns (Unit {0}) now (find_port number (admitted room (suc opened.last_port) joined_door opened.ports))
          joined now there true joined_door = subst (Turns (Unit {0}) now) (sym (found_still number now opened.ports (new_port (suc opened.last_port) joined_door ∷ []) there)) rests
          joined now there false joined_door = subst (Turns (Unit {0}) now) (sym there) rests

      pub event-others : (IsOf event number → ⊥) → Told
      event-others foreign = by_turn (find_port number outcome.state.ports) refl (turned foreign)
        where
          told_by : (is : Bool) → is_among number outcome.closes ≡ is
              → Matches number (find_port number outcome.state.ports) (if is then None else at_port number book) → Told
          told_by is among match =
              finish [] (claim_of (at_port number book)) [] (at_port number book)
              (bytes-apart (λ of. absurd (foreign of))) refl (sym (append-nil (claim_of (at_port number book))))
              (none-read (λ of. absurd (foreign of))) is among match

          by_turn : (after : Option Port) → find_port number outcome.state.ports ≡ after → Turns (Unit {0}) port after → Told
          by_turn after is rests =
              told_by false (open-after port is) (somebody port (at_port number book) is door client)
          by_turn after is (gets new verdict waits owed there heard owes on any) =
              told_by false (open-after new is)
              (somebody new (at_port number book) is there (client-turned {may = Unit {0}} client (gets new verdict waits owed there heard owes on any) (brief_after number new is there)))
          by_turn after is (leaves may) =
              told_by true (closed-after port found is) (nobody (λ other there. let gone : None ≡ Some other = sym is ∙ there in absurd (cc)))

      -- ---- an event of the client

      -- by what a look brings
      finish-looks : (first before : List Reading) (new : Peer)
          → Brings number first (Some new) (see_all (goes_over moment state event) book)
          → first ++ before ≡ claim_of (at_port number book) → LooksAt number wall before new (handle event opened) → Told
      finish-looks first before new bytes split (stays after is there has eq) =
          finish first before (filter_map (read_in wall number) (handle event opened).actions) (Some new) bytes split eq
          (sym (reads-step number state moment event wall)) false (open-after after is)
          (somebody after (Some new) is there (has (brief_after number after is there)))
      finish-looks first before new bytes split (ends gone eq) =
          finish first before (filter_map (read_in wall number) (handle event opened).actions) (Some new) bytes split eq
          (sym (reads-step number state moment event wall)) true (closed-after port found gone)
          (nobody (λ other there. let none : None ≡ Some other = sym gone ∙ there in absurd (cc)))

      is-client : is_of_client (find_port number state.ports) ≡ true
      is-client = ap is_of_client found ∙ ap is_client door

      claim-or : (what : Option Peer) → claim_of what ≡ claim (peer_or number what)
      claim-or None = refl
      claim-or (Some peer) = refl

      pub event-heard : (piece : List ℕ) → event ≡ Heard number piece → Told
      event-heard piece is = by_turn (find_port number opened.ports) refl ((time-turns number moment state tied).turns port found door)
        where
          bytes : Brings number [] (Some (looked wall (sent_more piece (peer_or number (at_port number book))))) (see_all (goes_over moment state event) book)
          bytes =
              subst (λ e. Brings number [] (Some (looked wall (sent_more piece (peer_or number (at_port number book))))) (see_all (goes_over moment state e) book)) (sym is)
              (subst (λ b. Brings number [] (Some (looked wall (sent_more piece (peer_or number (at_port number book))))) (see_all (of_client b (seen_at wall state.under_way.link.faults (what.Sent number piece))) book)) (sym is-client)
              (brings-one number [] _ (seen_at wall state.under_way.link.faults (what.Sent number piece)) book (sees-sent number wall state.under_way.link.faults book alone piece)))

          by_client : (now : Port) → find_port number opened.ports ≡ Some now → now.door ≡ Clients
              → Client now (peer_or number (at_port number book)) → Told
          by_client now there is_client_there has =
              finish-looks [] (claim (peer_or number (at_port number book))) (looked wall (sent_more piece (peer_or number (at_port number book)))) bytes (sym (claim-or (at_port number book)))
              (subst (λ e. LooksAt number wall (claim (peer_or number (at_port number book))) (looked wall (sent_more piece (peer_or number (at_port number book)))) (handle e opened)) (sym is)
              (own-heard number wall opened now (peer_or number (at_port number book)) there is_client_there tied-then.rising piece has))

          by_turn : (after : Option Port) → find_port number opened.ports ≡ after → Turns ⊥ port after → Told
          by_turn after there rests = by_client port there door client
          by_turn after there (gets new verdict waits owed is_client_there heard owes on any) =
              by_client new there is_client_there (client-turned {may = ⊥} client (gets new verdict waits owed is_client_there heard owes on any) (brief_then number new there is_client_there))
          by_turn after there (leaves may) = absurd may

      pub event-took : (count : ℕ) → event ≡ Took number count → (0 < count) → count ≤ length (owed_of number state) → Told
      event-took count is some there_are = by_peer (at_port number book) refl client ((time-turns number moment state tied).turns port found door)
        where
          owed-is : owed_of number state ≡ port.owed
          owed-is = ap (λ o. owed_by o state.under_way) found ∙ ap (λ d. owed_as (role_of d port.number state.under_way) port state.under_way) door

          within : count ≤ length port.owed
          within = subst (λ owed. count ≤ length owed) owed-is there_are

          no_owed : port.owed ≡ [] → ⊥
          no_owed none = let zero : length port.owed ≡ 0 = ap length none in omega (arith, zero, some, within)

          bytes : (peer : Peer) → at_port number book ≡ Some peer
              → Brings number (ended_claim (ended_by (take count port.owed) peer)) (Some (answered wall (take count port.owed) peer)) (see_all (goes_over moment state event) book)
          bytes peer there =
              subst (λ e. Brings number (ended_claim (ended_by (take count port.owed) peer)) (Some (answered wall (take count port.owed) peer)) (see_all (goes_over moment state e) book)) (sym is)
              (subst (λ b. Brings number (ended_claim (ended_by (take count port.owed) peer)) (Some (answered wall (take count port.owed) peer)) (see_all (of_client b (seen_at wall state.under_way.link.faults (what.Given number (take count (owed_of number state))))) book)) (sym is-client)
              (subst (λ owed. Brings number (ended_claim (ended_by (take count port.owed) peer)) (Some (answered wall (take count port.owed) peer)) (see_all (seen_at wall state.under_way.link.faults (what.Given number (take count owed)) ∷ []) book)) (sym owed-is)
              (brings-one number _ _ (seen_at wall state.under_way.link.faults (what.Given number (take count port.owed))) book
              (subst (λ o. Brings number (ended_claim (ends_at (take count port.owed) o)) (option_map (answered wall (take count port.owed)) o) (see (seen_at wall state.under_way.link.faults (what.Given number (take count port.owed))) book)) there
              (sees-given number wall state.under_way.link.faults book alone (take count port.owed))))))

          by_time : (peer : Peer) → at_port number book ≡ Some peer → Client port peer → (after : Option Port) → find_port number opened.ports ≡ after → Turns ⊥ port after → Told
          by_time peer there has after at rests =
              let takes_it = own-took number wall count opened port peer at door tied-then.rising some within has in
              finish-looks (ended_claim (ended_by (take count port.owed) peer)) takes_it.before (answered wall (take count port.owed) peer) (bytes peer there)
              (takes_it.split ∙ sym (ap claim_of there))
              (subst (λ e. LooksAt number wall takes_it.before (answered wall (take count port.owed) peer) (handle e opened)) (sym is) takes_it.end)
          by_time peer there has after at (gets new verdict waits owed is_client_there heard owes on any) = absurd (no_owed owed)
          by_time peer there has after at (leaves may) = absurd may

          by_peer : (what : Option Peer) → at_port number book ≡ what → Client port (peer_or number what) → Turns ⊥ port (find_port number opened.ports) → Told
          by_peer None there (idle nothing unowed sent given none more) turns = absurd (no_owed unowed)
          by_peer None there (waiting on unowed sent given asking) turns = absurd (no_owed unowed)
          by_peer None there (taking body nothing owes sent asking fits text) turns = absurd (asking refl)
          by_peer (Some peer) there has turns = by_time peer there has (find_port number opened.ports) refl turns
