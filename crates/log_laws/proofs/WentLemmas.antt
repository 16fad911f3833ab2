-- How far a client's request went in a book, as things are seen one after another, and in a history.
use Rattle.std.proofs.Common.{◌≡◌, ◌≢◌, ◌==◌, ◌||◌, ℕ, List, [], ◌∷◌, ◌++◌, map, take, refl, ap, arith, sym, ◌∙◌, Bool, true, false, cond, Option, Some, None, inl, inr, if◌then◌else◌}
use Rattle.std.proofs.lemmas.Bool.{cases_eq}
use Rattle.std.proofs.lemmas.Bool.Decides.{nat_tests}
use Rattle.std.proofs.lemmas.List.Elements.{filter_map-append}
use Rattle.std.proofs.lemmas.List.Folds.{find-append}
use Rattle.std.specs.Option.{option_map, option_or}
use Rattle.lists.specs.Keyed.{has_key}
use Rattle.lists.specs.Rising.{is_among}
use Rattle.lists.proofs.KeyedLemmas.{find_by-change, find_by-change_apart, find_by-remove_apart}
use Rattle.world_ports.specs.declared.Moment.{Moment}
use Rattle.agent_model.specs.Actions.{Action, Answered, Asked, Asking, ForBinding, ForSignature, Granted, Lost, Outcome, Over, Proved, Purpose, Raised, Raising, Requested}
use Rattle.agent_model.specs.Events.{Happening, Joined, Heard, Ended, Took, Started, StartFailed, Tick}
use Rattle.agent_model.specs.Grants.{IsAmong}
use Rattle.agent_model.specs.Runs.{Stamped}
use Rattle.agent_model.specs.State.{State, find_port, owed_of}
use Rattle.agent_model.proofs.TimeLemmas.{AreEnds, end, loss, no_more, one_more}
use Rattle.log_book.specs.Books.{Book, change_peer, concludes, ends_at, find_peer, port_of, see, see_all, sends_by}
use Rattle.log_book.specs.Peers.{Peer, answered, looked, new_peer, put_at, raised_at, sent_more}
use Rattle.log_book.specs.declared.peer.Ended.{Ended as EndedRequest}
use Rattle.log_book.specs.declared.sight.Sight.{Sight}
use Rattle.log_book.specs.declared.sight.What.TheVariants as what
use Rattle.log_book.specs.declared.told.Asked.TheVariants as asks
use Rattle.log_laws.specs.Ends.{Request, Went, last_request, went_by, went_told}
use Rattle.log_laws.specs.Sights.{came_of, closed_sight, goes_over, is_of_client, of_client, put_by, put_in, put_sight, raised_by, raised_in, raised_sight, seen_at}
use Rattle.log_laws.proofs.BookLemmas.{AreAlike, at_port, both, neither, peer_or, port-answered, port-looked}
use Rattle.log_laws.proofs.SightsLemmas.{book-append}

-- how far the request of a client went, as a book has it
abbrev pub wents : Option Peer → Option Went
wents found = option_map (λ (peer : Peer). went_told peer.course) found

-- where there is none, it went nowhere
abbrev pub went_or : Option Went → Went
went_or None = record { raised = false; put = false }
went_or (Some went) = went

or-false : (is : Bool) → (is || false) ≡ is
or-false true = refl
or-false false = refl

or-true : (is : Bool) → (is || true) ≡ true
or-true true = refl
or-true false = refl

or-later : (a b c : Bool) → ((a || b) || c) ≡ (a || (b || c))
or-later true b c = refl
or-later false b c = refl

among-append : (number : ℕ) (some more : List ℕ) → is_among number (some ++ more) ≡ (is_among number some || is_among number more)
among-append number [] more = refl
among-append number (other ∷ some) more =
    ap (λ b. (number == other) || b) (among-append number some more)
    ∙ sym (or-later (number == other) (is_among number some) (is_among number more))

-- actions at which the user is asked about no request, and none is put
ends-unmarked : {actions : List Action} → AreEnds actions → (raised_in actions ≡ []) × (put_in actions ≡ [])
ends-unmarked no_more = (refl, refl)
ends-unmarked (one_more action later loss ends) = ends-unmarked ends
ends-unmarked (one_more action later (end job) ends) = ends-unmarked ends

module _ (number : ℕ) where
  -- ---- in a history

  -- a request goes on by actions
  abbrev pub goes_on : List Action → Went → Went
  goes_on actions went = record {
    raised = went.raised || is_among number (raised_in actions);
    put = went.put || is_among number (put_in actions);
  }

  pub went-append : (some more : List Action) → went_by number (some ++ more) ≡ goes_on more (went_by number some)
  went-append some more =
      let raised : is_among number (raised_in (some ++ more)) ≡ (is_among number (raised_in some) || is_among number (raised_in more)) =
      ap (is_among number) (filter_map-append raised_by some more) ∙ among-append number (raised_in some) (raised_in more) in
      let put : is_among number (put_in (some ++ more)) ≡ (is_among number (put_in some) || is_among number (put_in more)) =
      ap (is_among number) (filter_map-append put_by some more) ∙ among-append number (put_in some) (put_in more) in
      ap (λ r. let went : Went = record { raised = r; put = is_among number (put_in (some ++ more)) } in went) raised
      ∙ ap (λ p. let went : Went = record { raised = is_among number (raised_in some) || is_among number (raised_in more); put = p } in went) put

  -- none of these marks it
  pub unmarked : (actions : List Action) (went : Went) → is_among number (raised_in actions) ≡ false
      → is_among number (put_in actions) ≡ false → goes_on actions went ≡ went
  unmarked actions went raised put =
      ap (λ r. let other : Went = record { raised = went.raised || r; put = went.put || is_among number (put_in actions) } in other) raised
      ∙ ap (λ p. let other : Went = record { raised = went.raised || false; put = went.put || p } in other) put
      ∙ ap (λ r. let other : Went = record { raised = r; put = went.put || false } in other) (or-false went.raised)
      ∙ ap (λ p. let other : Went = record { raised = went.raised; put = p } in other) (or-false went.put)

  pub unmarked-ends : {actions : List Action} (went : Went) → AreEnds actions → goes_on actions went ≡ went
  unmarked-ends {actions = actions} went ends =
      let none = ends-unmarked ends in
      unmarked actions went (ap (is_among number) none.0) (ap (is_among number) none.1)

  pub goes-append : {some : List Action} (more : List Action) (went : Went) → AreEnds some
      → goes_on (some ++ more) went ≡ goes_on more went
  goes-append {some = some} more went ends =
      let none = ends-unmarked ends in
      let raised : raised_in (some ++ more) ≡ raised_in more = filter_map-append raised_by some more ∙ ap (λ (l : List ℕ). l ++ raised_in more) none.0 in
      let put : put_in (some ++ more) ≡ put_in more = filter_map-append put_by some more ∙ ap (λ (l : List ℕ). l ++ put_in more) none.1 in
      ap (λ r. let other : Went = record { raised = went.raised || is_among number r; put = went.put || is_among number (put_in (some ++ more)) } in other) raised
      ∙ ap (λ p. let other : Went = record { raised = went.raised || is_among number (raised_in more); put = went.put || is_among number p } in other) put

  -- what a book has of a client's request is what a past has of it, but for these actions
  abbrev pub GoesSo : List Stamped → List Action → Peer → Type 0
  GoesSo past actions peer = peer.asked ≢ asks.Nothing → (request : Request) → last_request number past ≡ Some request
      → goes_on actions (went_told peer.course) ≡ went_by number request.later

  -- where no question is about the client, and no ask is for it
  other-false : (one : ℕ) (rest : Bool) → one ≢ number → rest ≡ false → ((number == one) || rest) ≡ false
  other-false one rest other none =
      let fails : (number == one) ≡ false = grind (arith, nat_tests) in
      ap (λ b. b || rest) fails ∙ none

  pub unraised : (actions : List Action) → ((raising : Raising) → IsAmong (Raised raising) actions → raising.port ≢ number)
      → is_among number (raised_in actions) ≡ false
  unraised [] none = refl
  unraised (Requested requesting ∷ later) none = unraised later (λ raising there. none raising (inr there))
  unraised (Asked asking ∷ later) none = unraised later (λ raising there. none raising (inr there))
  unraised (Answered settled ∷ later) none = unraised later (λ raising there. none raising (inr there))
  unraised (Proved proving ∷ later) none = unraised later (λ raising there. none raising (inr there))
  unraised (Raised raising ∷ later) none =
      other-false raising.port _ (none raising (inl refl)) (unraised later (λ other there. none other (inr there)))
  unraised (Granted job ∷ later) none = unraised later (λ raising there. none raising (inr there))
  unraised (Over job ∷ later) none = unraised later (λ raising there. none raising (inr there))
  unraised (Lost ∷ later) none = unraised later (λ raising there. none raising (inr there))

  pub unput : (actions : List Action) → ((asking : Asking) → IsAmong (Asked asking) actions → asking.port ≢ number)
      → is_among number (put_in actions) ≡ false
  unput [] none = refl
  unput (Requested requesting ∷ later) none = unput later (λ asking there. none asking (inr there))
  unput (Asked asking ∷ later) none =
      by_purpose asking.purpose refl (none asking (inl refl)) (unput later (λ other there. none other (inr there)))
    where
      by_purpose : (purpose : Purpose) → asking.purpose ≡ purpose → asking.port ≢ number → is_among number (put_in later) ≡ false
          → is_among number (put_in (Asked asking ∷ later)) ≡ false
      by_purpose (ForSignature signing) is other rest = rw is (other-false asking.port _ other rest)
      by_purpose (ForBinding binding) is other rest = rw is rest
  unput (Answered settled ∷ later) none = unput later (λ asking there. none asking (inr there))
  unput (Proved proving ∷ later) none = unput later (λ asking there. none asking (inr there))
  unput (Raised raising ∷ later) none = unput later (λ asking there. none asking (inr there))
  unput (Granted job ∷ later) none = unput later (λ asking there. none asking (inr there))
  unput (Over job ∷ later) none = unput later (λ asking there. none asking (inr there))
  unput (Lost ∷ later) none = unput later (λ asking there. none asking (inr there))

  -- ---- in a book

  pub asked-alike : {one other : Option Peer} → AreAlike one other → (peer_or number other).asked ≢ asks.Nothing
      → (peer_or number one).asked ≢ asks.Nothing
  asked-alike neither busy = busy
  asked-alike (both one other is) busy = λ none. busy (is.asked ∙ none)

  pub peer-went : (found : Option Peer) (went : Went) → wents found ≡ Some went → went_told (peer_or number found).course ≡ went
  peer-went None went is = absurd (cc)
  peer-went (Some peer) went is = cc

  -- ---- marks

  its_number : (number == number) ≡ true
  its_number = grind (arith, nat_tests)

  -- the client is changed by f where this is so
  abbrev pub marked_by : (Peer → Peer) → Bool → Option Peer → Option Peer
  marked_by f is found = option_map (λ (peer : Peer). if is then f peer else peer) found

  by-not : (f : Peer → Peer) (found : Option Peer) → marked_by f false found ≡ found
  by-not f None = refl
  by-not f (Some peer) = refl

  changed : (port : ℕ) (f : Peer → Peer) → ((p : Peer) → (f p).port ≡ p.port) → (peers : List Peer)
      → find_peer number (change_peer port f peers) ≡ marked_by f (number == port) (find_peer number peers)
  changed port f keeps peers = elim (cases_eq number port) [
    | inl equal ↦
        (let is : (number == port) ≡ true = grind (arith, nat_tests) in
        ap (λ n. find_peer number (change_peer n f peers)) (sym equal)
        ∙ find_by-change port_of number f peers keeps
        ∙ by_found (find_peer number peers)
        ∙ sym (ap (λ b. marked_by f b (find_peer number peers)) is))
    | inr other ↦
        (let is : (number == port) ≡ false = grind (arith, nat_tests) in
        find_by-change_apart port_of number port f peers keeps other
        ∙ sym (ap (λ b. marked_by f b (find_peer number peers)) is ∙ by-not f (find_peer number peers)))
  ]
    where
      by_found : (found : Option Peer) → option_map f found ≡ marked_by f true found
      by_found None = refl
      by_found (Some peer) = refl

  raise-one : (wall faults port : ℕ) (book : Book)
      → at_port number (see (raised_sight wall faults port) book).book ≡ marked_by raised_at (number == port) (at_port number book)
  unfolding see
  raise-one wall faults port book = changed port raised_at (λ p. refl) book.peers

  put-one : (wall faults port : ℕ) (book : Book)
      → at_port number (see (put_sight wall faults port) book).book ≡ marked_by (put_at faults) (number == port) (at_port number book)
  unfolding see
  put-one wall faults port book = changed port (put_at faults) (λ p. refl) book.peers

  both-marked : (f : Peer → Peer) → ((p : Peer) → f (f p) ≡ f p) → (a b : Bool) (found : Option Peer)
      → marked_by f b (marked_by f a found) ≡ marked_by f (a || b) found
  both-marked f same a b None = refl
  both-marked f same true true (Some peer) = ap Some (same peer)
  both-marked f same true false (Some peer) = refl
  both-marked f same false true (Some peer) = refl
  both-marked f same false false (Some peer) = refl

  marks : (g : ℕ → Sight) (f : Peer → Peer) → ((p : Peer) → f (f p) ≡ f p)
      → ((port : ℕ) (book : Book) → at_port number (see (g port) book).book ≡ marked_by f (number == port) (at_port number book))
      → (ports : List ℕ) (book : Book)
      → at_port number (see_all (map g ports) book).book ≡ marked_by f (is_among number ports) (at_port number book)
  unfolding see_all
  marks g f same one [] book = sym (by-not f (at_port number book))
  marks g f same one (port ∷ ports) book =
      marks g f same one ports (see (g port) book).book
      ∙ ap (marked_by f (is_among number ports)) (one port book)
      ∙ both-marked f same (number == port) (is_among number ports) (at_port number book)

  -- questions and requests that are put
  abbrev pub marked : ℕ → ℕ → List Action → Book → Book
  marked wall faults actions book = (see_all (map (put_sight wall faults) (put_in actions))
      (see_all (map (raised_sight wall faults) (raised_in actions)) book).book).book

  -- the client behind them
  abbrev pub marked_at : ℕ → List Action → Option Peer → Option Peer
  marked_at faults actions found =
      marked_by (put_at faults) (is_among number (put_in actions)) (marked_by raised_at (is_among number (raised_in actions)) found)

  at-marked : (wall faults : ℕ) (actions : List Action) (book : Book)
      → at_port number (marked wall faults actions book) ≡ marked_at faults actions (at_port number book)
  at-marked wall faults actions book =
      marks (put_sight wall faults) (put_at faults) (λ p. refl) (put-one wall faults) (put_in actions) (see_all (map (raised_sight wall faults) (raised_in actions)) book).book
      ∙ ap (marked_by (put_at faults) (is_among number (put_in actions)))
      (marks (raised_sight wall faults) raised_at (λ p. refl) (raise-one wall faults) (raised_in actions) book)

  pub went-marked : (wall faults : ℕ) (actions : List Action) (book : Book)
      → wents (at_port number (marked wall faults actions book)) ≡ option_map (goes_on actions) (wents (at_port number book))
  went-marked wall faults actions book =
      ap wents (at-marked wall faults actions book)
      ∙ by_marks (is_among number (raised_in actions)) (is_among number (put_in actions)) (at_port number book)
    where
      by_marks : (a b : Bool) (found : Option Peer)
          → wents (marked_by (put_at faults) b (marked_by raised_at a found))
          ≡ option_map (λ (went : Went). let other : Went = record { raised = went.raised || a; put = went.put || b } in other) (wents found)
      by_marks a b None = refl
      by_marks true true (Some peer) =
          sym (ap (λ r. let other : Went = record { raised = r; put = (went_told peer.course).put || true } in Some other) (or-true peer.course.raised)
          ∙ ap (λ p. let other : Went = record { raised = true; put = p } in Some other) (or-true (went_told peer.course).put))
      by_marks true false (Some peer) =
          sym (ap (λ r. let other : Went = record { raised = r; put = (went_told peer.course).put || false } in Some other) (or-true peer.course.raised)
          ∙ ap (λ p. let other : Went = record { raised = true; put = p } in Some other) (or-false (went_told peer.course).put))
      by_marks false true (Some peer) =
          sym (ap (λ r. let other : Went = record { raised = r; put = (went_told peer.course).put || true } in Some other) (or-false peer.course.raised)
          ∙ ap (λ p. let other : Went = record { raised = peer.course.raised; put = p } in Some other) (or-true (went_told peer.course).put))
      by_marks false false (Some peer) =
          sym (ap (λ r. let other : Went = record { raised = r; put = (went_told peer.course).put || false } in Some other) (or-false peer.course.raised)
          ∙ ap (λ p. let other : Went = record { raised = peer.course.raised; put = p } in Some other) (or-false (went_told peer.course).put))

  -- ---- ports of others are closed

  pub closed-same : (wall faults port : ℕ) (book : Book) → number ≢ port
      → at_port number (see (closed_sight wall faults port) book).book ≡ at_port number book
  unfolding see
  closed-same wall faults port book other = find_by-remove_apart port_of number port book.peers other

  closed-others : (wall faults : ℕ) (ports : List ℕ) (book : Book) → is_among number ports ≡ false
      → at_port number (see_all (map (closed_sight wall faults) ports) book).book ≡ at_port number book
  unfolding see_all
  closed-others wall faults [] book none = refl
  closed-others wall faults (port ∷ ports) book none =
      by_test (number == port) refl none (λ rest. closed-others wall faults ports (see (closed_sight wall faults port) book).book rest)
    where
      by_test : (test : Bool) → (number == port) ≡ test → (test || is_among number ports) ≡ false
          → (is_among number ports ≡ false → at_port number (see_all (map (closed_sight wall faults) ports) (see (closed_sight wall faults port) book).book).book ≡ at_port number (see (closed_sight wall faults port) book).book)
          → at_port number (see_all (map (closed_sight wall faults) ports) (see (closed_sight wall faults port) book).book).book ≡ at_port number book
      by_test true is some rest = absurd (cc)
      by_test false is some rest =
          let apart : number ≢ port = λ equal. let no : (number == port) ≡ true = grind (arith, nat_tests) in absurd (cc) in
          rest some ∙ closed-same wall faults port book apart

  -- what came of an event that leaves its port open
  came-marked : (wall : ℕ) (outcome : Outcome) (book : Book) → is_among number outcome.closes ≡ false
      → at_port number (see_all (came_of wall outcome) book).book
      ≡ at_port number (marked wall outcome.state.under_way.link.faults outcome.actions book)
  came-marked wall outcome book open_yet =
      let faults = outcome.state.under_way.link.faults in
      let raises = map (raised_sight wall faults) (raised_in outcome.actions) in
      let put = map (put_sight wall faults) (put_in outcome.actions) in
      let closes = map (closed_sight wall faults) outcome.closes in
      ap (at_port number) (book-append number raises (put ++ closes) book ∙ book-append number put closes (see_all raises book).book)
      ∙ closed-others wall faults outcome.closes (marked wall faults outcome.actions book) open_yet

  pub at-came : (wall : ℕ) (outcome : Outcome) (book : Book) → is_among number outcome.closes ≡ false
      → at_port number (see_all (came_of wall outcome) book).book
      ≡ marked_at outcome.state.under_way.link.faults outcome.actions (at_port number book)
  at-came wall outcome book open_yet =
      came-marked wall outcome book open_yet ∙ at-marked wall outcome.state.under_way.link.faults outcome.actions book

  pub went-came : (wall : ℕ) (outcome : Outcome) (book : Book) → is_among number outcome.closes ≡ false
      → wents (at_port number (see_all (came_of wall outcome) book).book) ≡ option_map (goes_on outcome.actions) (wents (at_port number book))
  went-came wall outcome book open_yet =
      ap wents (came-marked wall outcome book open_yet) ∙ went-marked wall outcome.state.under_way.link.faults outcome.actions book

  -- ---- bytes

  module _ (wall faults : ℕ) (book : Book) where
    -- a client sends
    pub at-sent : (piece : List ℕ)
        → at_port number (see (seen_at wall faults (what.Sent number piece)) book).book
        ≡ Some (looked wall (sent_more piece (peer_or number (at_port number book))))
    unfolding see
    at-sent piece = by_found (at_port number book) refl
      where
        f : Peer → Peer
        f peer = looked wall (sent_more piece peer)

        keeps : (peer : Peer) → (f peer).port ≡ peer.port
        keeps peer = port-looked wall (sent_more piece peer)

        by_found : (found : Option Peer) → at_port number book ≡ found
            → find_peer number (sends_by f number (at_port number book) book.peers) ≡ Some (f (peer_or number found))
        by_found None is =
            ap (λ o. find_peer number (sends_by f number o book.peers)) is
            ∙ find-append (has_key port_of number) book.peers (f (new_peer number) ∷ [])
            ∙ ap (λ o. option_or o (cond (has_key port_of number (f (new_peer number))) (Some (f (new_peer number))) None)) is
            ∙ ap (λ n. cond (n == number) (Some (f (new_peer number))) None) (keeps (new_peer number))
            ∙ ap (λ b. cond b (Some (f (new_peer number))) None) its_number
        by_found (Some peer) is =
            ap (λ o. find_peer number (sends_by f number o book.peers)) is
            ∙ find_by-change port_of number f book.peers keeps
            ∙ ap (option_map f) is

    sent-apart : (port : ℕ) (piece : List ℕ) → number ≢ port
        → at_port number (see (seen_at wall faults (what.Sent port piece)) book).book ≡ at_port number book
    unfolding see
    sent-apart port piece other = by_found (find_peer port book.peers)
      where
        f : Peer → Peer
        f peer = looked wall (sent_more piece peer)

        not_it : has_key port_of number (f (new_peer port)) ≡ false
        not_it =
            let fails : (port == number) ≡ false = grind (arith, nat_tests) in
            ap (λ n. n == number) (port-looked wall (sent_more piece (new_peer port))) ∙ fails

        or_none : (found : Option Peer) → option_or found None ≡ found
        or_none None = refl
        or_none (Some peer) = refl

        by_found : (found : Option Peer) → find_peer number (sends_by f port found book.peers) ≡ at_port number book
        by_found None =
            find-append (has_key port_of number) book.peers (f (new_peer port) ∷ [])
            ∙ ap (λ b. option_or (at_port number book) (cond b (Some (f (new_peer port))) None)) not_it
            ∙ or_none (at_port number book)
        by_found (Some peer) =
            find_by-change_apart port_of number port f book.peers (λ p. port-looked wall (sent_more piece p)) other

    -- a client is given bytes
    gift : (port : ℕ) (bytes : List ℕ) (ended : Option EndedRequest)
        → find_peer number (concludes wall faults port ended record book { peers = change_peer port (answered wall bytes) book.peers }).book.peers
        ≡ find_peer number (change_peer port (answered wall bytes) book.peers)
    gift port bytes None = refl
    gift port bytes (Some ended) = refl

    pub at-given : (bytes : List ℕ)
        → at_port number (see (seen_at wall faults (what.Given number bytes)) book).book ≡ option_map (answered wall bytes) (at_port number book)
    unfolding see
    at-given bytes =
        gift number bytes (ends_at bytes (at_port number book))
        ∙ find_by-change port_of number (answered wall bytes) book.peers (port-answered wall bytes)

    given-apart : (port : ℕ) (bytes : List ℕ) → number ≢ port
        → at_port number (see (seen_at wall faults (what.Given port bytes)) book).book ≡ at_port number book
    unfolding see
    given-apart port bytes other =
        gift port bytes (ends_at bytes (find_peer port book.peers))
        ∙ find_by-change_apart port_of number port (answered wall bytes) book.peers (port-answered wall bytes) other

  -- one thing
  pub book-one : (sight : Sight) (book : Book) → (see_all (sight ∷ []) book).book ≡ (see sight book).book
  unfolding see_all
  book-one sight book = refl

  book-none : (book : Book) → (see_all [] book).book ≡ book
  unfolding see_all
  book-none book = refl

  -- the bytes that go over other sockets leave it
  pub at-over : (moment : Moment) (state : State) (event : Happening) (book : Book)
      → ((piece : List ℕ) → event ≡ Heard number piece → is_of_client (find_port number state.ports) ≡ false)
      → ((count : ℕ) → event ≡ Took number count → is_of_client (find_port number state.ports) ≡ false)
      → at_port number (see_all (goes_over moment state event) book).book ≡ at_port number book
  at-over moment state event book unheard untaken = by_event_of event refl
    where
      by_client : (sight : Sight) (is : Bool) → at_port number (see sight book).book ≡ at_port number book
          → at_port number (see_all (of_client is sight) book).book ≡ at_port number book
      by_client sight true same = ap (at_port number) (book-one sight book) ∙ same
      by_client sight false same = ap (at_port number) (book-none book)

      silent : (sight : Sight) (is : Bool) → is ≡ false → at_port number (see_all (of_client is sight) book).book ≡ at_port number book
      silent sight is none = ap (λ b. at_port number (see_all (of_client b sight) book).book) none ∙ ap (at_port number) (book-none book)

      by_event_of : (one : Happening) → event ≡ one → at_port number (see_all (goes_over moment state one) book).book ≡ at_port number book
      by_event_of (Joined door) is = ap (at_port number) (book-none book)
      by_event_of (Heard port piece) is = elim (cases_eq number port) [
        | inl equal ↦ silent _ (is_of_client (find_port port state.ports))
            (ap (λ n. is_of_client (find_port n state.ports)) (sym equal) ∙ unheard piece (is ∙ ap (λ n. Heard n piece) (sym equal)))
        | inr other ↦ by_client _ (is_of_client (find_port port state.ports)) (sent-apart moment.wall state.under_way.link.faults book port piece other)
      ]
      by_event_of (Ended port) is = ap (at_port number) (book-none book)
      by_event_of (Took port count) is = elim (cases_eq number port) [
        | inl equal ↦ silent _ (is_of_client (find_port port state.ports))
            (ap (λ n. is_of_client (find_port n state.ports)) (sym equal) ∙ untaken count (is ∙ ap (λ n. Took n count) (sym equal)))
        | inr other ↦ by_client _ (is_of_client (find_port port state.ports))
            (given-apart moment.wall state.under_way.link.faults book port (take count (owed_of port state)) other)
      ]
      by_event_of (Started job ticket) is = ap (at_port number) (book-none book)
      by_event_of (StartFailed job) is = ap (at_port number) (book-none book)
      by_event_of Tick is = ap (at_port number) (book-none book)
