-- Whether a told refusal behind an ask is told as the helper's or for its loss, as the history has it.
use Rattle.std.proofs.Common.{◌≡◌, ◌≢◌, ℕ, ◌+◌, ◌==◌, nat_lt, List, [], ◌∷◌, ◌++◌, map, take, refl, ap, arith, sym, subst, ◌∙◌, Bool, true, false, Option, Some, None, if◌then◌else◌}
use Rattle.std.proofs.lemmas.Bool.Decides.{nat_tests}
use Rattle.std.proofs.lemmas.List.Sums.{sum_by-cons}
use Rattle.std.specs.List.{cons_option, filter_map}
use Rattle.std.specs.Option.{option_map}
use Rattle.world_ports.specs.declared.Moment.{Moment}
use Rattle.agent_laws.specs.Answered.{loses_by, times_lost}
use Rattle.agent_model.specs.Actions.{Action, Answered, Asked, Asking, Granted, Lost, Outcome, Over, Proved, Raised, Requested}
use Rattle.agent_model.specs.Events.{Happening, Joined, Heard, Ended, Took, Started, StartFailed, Tick}
use Rattle.agent_model.specs.Fates.{Fails, Fate, Gets, Unanswered, fate_of, or_later}
use Rattle.agent_model.specs.State.{State, find_port, owed_of}
use Rattle.log_book.specs.Books.{Book, concludes, ends_at, fate_by, find_peer, refused_by, see, see_all, told_by, told_leaving}
use Rattle.log_book.specs.Peers.{Peer, ended_by, ended_with}
use Rattle.log_book.specs.Requests.{next_in}
use Rattle.log_book.specs.declared.list.NamedKey.{NamedKey}
use Rattle.log_book.specs.declared.sight.Sight.{Sight}
use Rattle.log_book.specs.declared.sight.What.TheVariants as what
use Rattle.log_book.specs.declared.told.Asked.{Asked as AskedFor}
use Rattle.log_book.specs.declared.told.Asked.TheVariants as asks
use Rattle.log_book.specs.declared.told.Course.{Course}
use Rattle.log_book.specs.declared.told.Fate.{Fate as ToldFate}
use Rattle.log_book.specs.declared.told.Fate.TheVariants as told
use Rattle.log_book.specs.declared.told.Told.{Told}
use Rattle.log_laws.specs.Ends.{Came, End, Left, came_told, ends_told, went_told}
use Rattle.log_laws.specs.Refusals.{Answer, Loss, Reason, reason_by, reason_of, reason_told, reasons_told}
use Rattle.log_laws.specs.Sights.{came_of, closed_sight, goes_over, is_of_client, of_client, put_in, put_sight, raised_in, raised_sight, seen_at}
use Rattle.log_laws.proofs.BookLemmas.{at_port}
use Rattle.log_laws.proofs.FareLemmas.{IsSettled}
use Rattle.log_laws.proofs.SightsLemmas.{told-append}

-- ---- losses

-- an action that settles nothing of an ask
losses-more : (action : Action) (later : List Action) → loses_by action ≡ 0 → times_lost later ≡ 0 → times_lost (action ∷ later) ≡ 0
losses-more action later none rest = omega (arith, sum_by-cons loses_by action later, none, rest)

losses-rest : (action : Action) (later : List Action) → times_lost (action ∷ later) ≡ 0 → times_lost later ≡ 0
losses-rest action later none = omega (arith, sum_by-cons loses_by action later, none)

-- behind an ask that is unanswered the helper wasn't lost
pub unanswered-kept : (ask : ℕ) (actions : List Action) → fate_of ask actions ≡ Unanswered → times_lost actions ≡ 0
unanswered-kept ask [] is = refl
unanswered-kept ask (Requested requesting ∷ later) is = losses-more (Requested requesting) later refl (unanswered-kept ask later is)
unanswered-kept ask (Asked asking ∷ later) is = losses-more (Asked asking) later refl (unanswered-kept ask later is)
unanswered-kept ask (Answered one ∷ later) is =
    losses-more (Answered one) later refl (by_test (one.ask == ask) is (λ rest. unanswered-kept ask later rest))
  where
    by_test : (test : Bool) → or_later (if test then Gets one.answer else Unanswered) (fate_of ask later) ≡ Unanswered
        → (fate_of ask later ≡ Unanswered → times_lost later ≡ 0) → times_lost later ≡ 0
    by_test true got rest = absurd (cc)
    by_test false open_yet rest = rest open_yet
unanswered-kept ask (Proved proving ∷ later) is = losses-more (Proved proving) later refl (unanswered-kept ask later is)
unanswered-kept ask (Raised raising ∷ later) is = losses-more (Raised raising) later refl (unanswered-kept ask later is)
unanswered-kept ask (Granted job ∷ later) is = losses-more (Granted job) later refl (unanswered-kept ask later is)
unanswered-kept ask (Over job ∷ later) is = losses-more (Over job) later refl (unanswered-kept ask later is)
unanswered-kept ask (Lost ∷ later) is = absurd (cc)

-- nor behind one that didn't fail
kept-stands : (ask : ℕ) (actions : List Action) → times_lost actions ≡ 0 → fate_of ask actions ≢ Fails
kept-stands ask [] none is = absurd (cc)
kept-stands ask (Requested requesting ∷ later) none is = kept-stands ask later (losses-rest (Requested requesting) later none) is
kept-stands ask (Asked asking ∷ later) none is = kept-stands ask later (losses-rest (Asked asking) later none) is
kept-stands ask (Answered one ∷ later) none is =
    by_test (one.ask == ask) is (λ rest. kept-stands ask later (losses-rest (Answered one) later none) rest)
  where
    by_test : (test : Bool) → or_later (if test then Gets one.answer else Unanswered) (fate_of ask later) ≡ Fails
        → (fate_of ask later ≡ Fails → ⊥) → ⊥
    by_test true got rest = absurd (cc)
    by_test false failed rest = rest failed
kept-stands ask (Proved proving ∷ later) none is = kept-stands ask later (losses-rest (Proved proving) later none) is
kept-stands ask (Raised raising ∷ later) none is = kept-stands ask later (losses-rest (Raised raising) later none) is
kept-stands ask (Granted job ∷ later) none is = kept-stands ask later (losses-rest (Granted job) later none) is
kept-stands ask (Over job ∷ later) none is = kept-stands ask later (losses-rest (Over job) later none) is
kept-stands ask (Lost ∷ later) none is = omega (arith, sum_by-cons loses_by Lost later, none)

-- ---- a reply

-- what is told of a reply, by how many helpers were lost when the request was put and are now
pub reason-reply : (put : Option (Asking × List Action)) (course : Course) (faults reply : ℕ) → IsSettled put
    → ((before : ℕ) → course.put ≡ Some before → put ≢ None)
    → ((before : ℕ) (one : Asking × List Action) → course.put ≡ Some before → put ≡ Some one → before + times_lost one.1 ≡ faults)
    → reason_told (fate_by reply course faults) ≡ reason_of put (came_told (fate_by reply course faults))
reason-reply put course faults reply settled some counts = by_test (reply == 14)
  where
    Says : ToldFate → Type 0
    Says fate = reason_told fate ≡ reason_of put (came_told fate)

    answered : (one : Asking × List Action) → put ≡ Some one → times_lost one.1 ≡ 0 → Some Answer ≡ reason_of put (came_told told.HelperRefused)
    answered one is none =
        let kept : nat_lt 0 (times_lost one.1) ≡ false = grind (arith, nat_tests) in
        sym (ap (λ p. reason_of p (came_told told.HelperRefused)) is ∙ ap (λ b. reason_by b (fate_of one.0.ask one.1)) kept
        ∙ by_fate (fate_of one.0.ask one.1) refl)
      where
        by_fate : (fate : Fate) → fate_of one.0.ask one.1 ≡ fate → reason_by false fate ≡ Some Answer
        by_fate Unanswered open_yet = absurd ((subst IsSettled is settled) open_yet)
        by_fate (Gets answer) got = refl
        by_fate Fails failed = absurd (kept-stands one.0.ask one.1 none failed)

    lost : (one : Asking × List Action) → put ≡ Some one → times_lost one.1 ≢ 0 → Some Loss ≡ reason_of put (came_told told.HelperLost)
    lost one is some_lost =
        let gone : nat_lt 0 (times_lost one.1) ≡ true = grind (arith, nat_tests) in
        sym (ap (λ p. reason_of p (came_told told.HelperLost)) is ∙ ap (λ b. reason_by b (fate_of one.0.ask one.1)) gone)

    by_equal : (before : ℕ) (one : Asking × List Action) → put ≡ Some one → before + times_lost one.1 ≡ faults
        → (is : Bool) → (before == faults) ≡ is → Says (if is then told.HelperRefused else told.HelperLost)
    by_equal before one is sum true same =
        let equal : before ≡ faults = grind (arith, nat_tests) in
        answered one is (omega (arith, equal, sum))
    by_equal before one is sum false other =
        lost one is (λ none. let equal : before ≡ faults = omega (arith, none, sum) in let no : (before == faults) ≡ true = grind (arith, nat_tests) in absurd (cc))

    by_found : (before : ℕ) (found : Option (Asking × List Action)) → course.put ≡ Some before → put ≡ found
        → Says (if before == faults then told.HelperRefused else told.HelperLost)
    by_found before None is none = absurd (some before is none)
    by_found before (Some one) is there = by_equal before one there (counts before one is there) (before == faults) refl

    by_put : (at : Option ℕ) → course.put ≡ at → Says (refused_by at faults)
    by_put None is = refl
    by_put (Some before) is = by_found before put is refl

    by_test : (is : Bool) → Says (if is then told.Signed else refused_by course.put faults)
    by_test true = refl
    by_test false = by_put course.put refl

-- ---- what is told of a client

module _ (number : ℕ) where
  -- each told request of the client says so by what came of it
  abbrev pub AreSaid : (Came → Option Reason) → List Told → Type 0
  AreSaid f [] = Unit {0}
  AreSaid f (one ∷ later) = (one.port ≡ number → reason_told one.fate ≡ f (came_told one.fate)) × AreSaid f later

  pub reasons-are : (f : Came → Option Reason) (told : List Told) → AreSaid f told
      → reasons_told number told ≡ filter_map (λ (end : End). f end.came) (ends_told number told)
  reasons-are f [] said = refl
  reasons-are f (one ∷ later) said = by_test (one.port == number) refl (reasons-are f later said.1)
    where
      an_end : End
      an_end = record {
        reading = record { since = one.course.since; blob = one.blob; message = one.message };
        wall = one.wall;
        came = came_told one.fate;
        went = went_told one.course;
      }

      by_test : (test : Bool) → (one.port == number) ≡ test
          → reasons_told number later ≡ filter_map (λ (end : End). f end.came) (ends_told number later)
          → cons_option (if test then reason_told one.fate else None) (reasons_told number later)
          ≡ filter_map (λ (end : End). f end.came) (cons_option (if test then Some an_end else None) (ends_told number later))
      by_test true is rest =
          let own : one.port ≡ number = grind (arith, nat_tests) in
          ap (λ o. cons_option o (reasons_told number later)) (said.0 own) ∙ ap (cons_option (f (came_told one.fate))) rest
      by_test false is rest = rest

  said-append : (f : Came → Option Reason) (some more : List Told) → AreSaid f some → AreSaid f more → AreSaid f (some ++ more)
  said-append f [] more first rest = rest
  said-append f (one ∷ some) more first rest = (first.0, said-append f some more first.1 rest)

  module _ (f : Came → Option Reason) where
    said-one : (wall port : ℕ) (asked : AskedFor) (course : Course) (fate : ToldFate) (keys : List NamedKey)
        → (asked ≢ asks.Nothing → port ≡ number → reason_told fate ≡ f (came_told fate))
        → AreSaid f (told_by wall port asked course fate keys)
    said-one wall port asks.Nothing course fate keys says = tt
    said-one wall port (asks.Signing blob message) course fate keys says = (says (λ none. absurd (cc)), tt)
    said-one wall port (asks.Adding blob comment) course fate keys says = tt
    said-one wall port asks.Other course fate keys says = tt

    -- ---- what came of an event

    said-map : (g : ℕ → Sight) → ((port : ℕ) (b : Book) → AreSaid f (see (g port) b).told) → (ports : List ℕ) (book : Book)
        → AreSaid f (see_all (map g ports) book).told
    unfolding see_all
    said-map g each [] book = tt
    said-map g each (port ∷ ports) book =
        said-append f (see (g port) book).told _ (each port book) (said-map g each ports (see (g port) book).book)

    said-raised : (wall faults port : ℕ) (book : Book) → AreSaid f (see (raised_sight wall faults port) book).told
    unfolding see
    said-raised wall faults port book = tt

    said-put : (wall faults port : ℕ) (book : Book) → AreSaid f (see (put_sight wall faults port) book).told
    unfolding see
    said-put wall faults port book = tt

    said-closed : f Left ≡ None → (wall faults port : ℕ) (book : Book) → AreSaid f (see (closed_sight wall faults port) book).told
    unfolding see
    said-closed left wall faults port book = by_found (find_peer port book.peers)
      where
        by_found : (found : Option Peer) → AreSaid f (told_leaving wall book.keys found)
        by_found None = tt
        by_found (Some peer) = said-one wall peer.port peer.asked peer.course told.Left book.keys (λ busy own. sym left)

    said-both : (xs ys : List Sight) (book : Book) → AreSaid f (see_all xs book).told
        → AreSaid f (see_all ys (see_all xs book).book).told → AreSaid f (see_all (xs ++ ys) book).told
    said-both xs ys book first rest =
        subst (AreSaid f) (sym (told-append 0 xs ys book)) (said-append f (see_all xs book).told (see_all ys (see_all xs book).book).told first rest)

    said-came : f Left ≡ None → (wall : ℕ) (outcome : Outcome) (book : Book) → AreSaid f (see_all (came_of wall outcome) book).told
    said-came left wall outcome book =
        let faults = outcome.state.under_way.link.faults in
        let raises = map (raised_sight wall faults) (raised_in outcome.actions) in
        let puts = map (put_sight wall faults) (put_in outcome.actions) in
        let closes = map (closed_sight wall faults) outcome.closes in
        said-both raises (puts ++ closes) book (said-map (raised_sight wall faults) (said-raised wall faults) (raised_in outcome.actions) book)
        (said-both puts closes (see_all raises book).book (said-map (put_sight wall faults) (said-put wall faults) (put_in outcome.actions) _)
        (said-map (closed_sight wall faults) (said-closed left wall faults) outcome.closes _))

    -- ---- bytes

    said-none : (book : Book) → AreSaid f (see_all [] book).told
    unfolding see_all
    said-none book = tt

    said-seen : (sight : Sight) (book : Book) → AreSaid f (see sight book).told → AreSaid f (see_all (sight ∷ []) book).told
    unfolding see_all
    said-seen sight book said = said-append f (see sight book).told [] said tt

    said-sent : (wall faults port : ℕ) (piece : List ℕ) (book : Book) → AreSaid f (see (seen_at wall faults (what.Sent port piece)) book).told
    unfolding see
    said-sent wall faults port piece book = tt

    -- by what is said of a reply to a client that waits
    said-given : (wall faults port : ℕ) (bytes : List ℕ) (book : Book)
        → ((peer : Peer) → port ≡ number → find_peer port book.peers ≡ Some peer → peer.asked ≢ asks.Nothing → (reply : ℕ)
        → reason_told (fate_by reply peer.course faults) ≡ f (came_told (fate_by reply peer.course faults)))
        → AreSaid f (see (seen_at wall faults (what.Given port bytes)) book).told
    unfolding see ended_by
    said-given wall faults port bytes book says = by_found (find_peer port book.peers) refl _
      where
        by_next : (peer : Peer) → find_peer port book.peers ≡ Some peer → (next : Option (List ℕ × List ℕ)) (later : Book)
            → AreSaid f (concludes wall faults port (option_map (ended_with peer) next) later).told
        by_next peer there None later = tt
        by_next peer there (Some next) later =
            said-one wall port peer.asked peer.course _ later.keys (λ busy own. says peer own there busy _)

        by_found : (found : Option Peer) → find_peer port book.peers ≡ found → (later : Book)
            → AreSaid f (concludes wall faults port (ends_at bytes found) later).told
        by_found None there later = tt
        by_found (Some peer) there later = by_next peer there (next_in (peer.given ++ bytes)) later

    -- of all of it
    pub said-over : (moment : Moment) (state : State) (event : Happening) (book : Book)
        → ((count : ℕ) → event ≡ Took number count → (peer : Peer) → at_port number book ≡ Some peer → peer.asked ≢ asks.Nothing
        → (reply : ℕ) → reason_told (fate_by reply peer.course state.under_way.link.faults)
        ≡ f (came_told (fate_by reply peer.course state.under_way.link.faults)))
        → AreSaid f (see_all (goes_over moment state event) book).told
    said-over moment state event book says = by_event event refl
      where
        by_client : (sight : Sight) (is : Bool) → AreSaid f (see sight book).told → AreSaid f (see_all (of_client is sight) book).told
        by_client sight true said = said-seen sight book said
        by_client sight false said = said-none book

        by_event : (one : Happening) → event ≡ one → AreSaid f (see_all (goes_over moment state one) book).told
        by_event (Joined door) is = said-none book
        by_event (Heard port piece) is =
            by_client _ (is_of_client (find_port port state.ports)) (said-sent moment.wall state.under_way.link.faults port piece book)
        by_event (Ended port) is = said-none book
        by_event (Took port count) is =
            by_client _ (is_of_client (find_port port state.ports))
            (said-given moment.wall state.under_way.link.faults port (take count (owed_of port state)) book
            (λ peer own there busy reply. says count (is ∙ ap (λ n. Took n count) own) peer (ap (λ n. find_peer n book.peers) (sym own) ∙ there) busy reply))
        by_event (Started job ticket) is = said-none book
        by_event (StartFailed job) is = said-none book
        by_event Tick is = said-none book

    -- and of an event
    pub said-event : f Left ≡ None → (wall : ℕ) (over : List Sight) (outcome : Outcome) (book : Book)
        → AreSaid f (see_all over book).told → AreSaid f (see_all (over ++ came_of wall outcome) book).told
    said-event left wall over outcome book first =
        said-both over (came_of wall outcome) book first (said-came left wall outcome (see_all over book).book)
