-- What is told of one client's requests that end, as things are seen one after another and when all was seen.
use Rattle.std.proofs.Common.{◌≡◌, ◌≢◌, ℕ, ◌==◌, ◌||◌, List, [], ◌∷◌, ◌++◌, map, take, refl, ap, arith, sym, subst, ◌∙◌, Bool, true, false, cond, Option, Some, None, is_some, inl, inr, if◌then◌else◌}
use Rattle.std.proofs.lemmas.Bool.{cases_eq}
use Rattle.std.proofs.lemmas.Bool.Decides.{nat_tests}
use Rattle.std.proofs.lemmas.List.{append-nil}
use Rattle.std.proofs.lemmas.List.Elements.{filter_map-append}
use Rattle.std.specs.List.{flat_map}
use Rattle.std.specs.Option.{option_map}
use Rattle.lists.specs.Keyed.{has_key}
use Rattle.lists.specs.Rising.{is_among}
use Rattle.lists.proofs.FirstLemmas.{some_or_later}
use Rattle.lists.proofs.KeyedLemmas.{found_key}
use Rattle.world_ports.specs.declared.Moment.{Moment}
use Rattle.agent_model.specs.Actions.{Outcome}
use Rattle.agent_model.specs.Events.{Happening, Joined, Heard, Ended, Took, Started, StartFailed, Tick}
use Rattle.agent_model.specs.State.{State, find_port, owed_of}
use Rattle.log_book.specs.Books.{Book, concludes, fate_by, find_peer, open_in, open_of, port_of, refused_by, see, see_all, told_by, told_leaving}
use Rattle.log_book.specs.Books as books
use Rattle.log_book.specs.Peers.{Peer}
use Rattle.log_book.specs.declared.list.NamedKey.{NamedKey}
use Rattle.log_book.specs.declared.peer.Ended.{Ended as EndedRequest}
use Rattle.log_book.specs.declared.sight.Sight.{Sight}
use Rattle.log_book.specs.declared.sight.What.TheVariants as what
use Rattle.log_book.specs.declared.told.Asked.{Asked}
use Rattle.log_book.specs.declared.told.Asked.TheVariants as asked
use Rattle.log_book.specs.declared.told.Course.{Course}
use Rattle.log_book.specs.declared.told.Fate.{Fate}
use Rattle.log_book.specs.declared.told.Fate.TheVariants as fate
use Rattle.log_book.specs.declared.told.Told.{Told}
use Rattle.log_laws.specs.Ends.{Came, End, Failed, Left, Signed, Went, came_told, end_told, ended_at, ends_told, refused_as, waiting, went_told}
use Rattle.log_laws.specs.Sights.{came_of, closed_sight, goes_over, is_of_client, of_client, put_in, put_sight, raised_in, raised_sight, seen_at}
use Rattle.log_laws.proofs.BookLemmas.{AreAlike, IsAlone, at_port, claim-alike, claim_by, claim_of, neither, sees-closed, sees-closed_apart}
use Rattle.log_laws.proofs.SightsLemmas.{brings-put, brings-raised, told-append}
use Rattle.log_laws.proofs.WentLemmas.{closed-same, goes_on, went-marked, went_or, wents}

-- a reply with this number is a signature, or else a refusal
abbrev pub came_reply : Bool → ℕ → Came
came_reply was_put reply = if reply == 14 then Signed else refused_as was_put

pub came-fate : (reply : ℕ) (course : Course) (faults : ℕ)
    → came_told (fate_by reply course faults) ≡ came_reply (is_some course.put) reply
came-fate reply course faults = by_test (reply == 14)
  where
    by_equal : (is : Bool) → came_told (if is then fate.HelperRefused else fate.HelperLost) ≡ Failed
    by_equal true = refl
    by_equal false = refl

    by_put : (put : Option ℕ) → came_told (refused_by put faults) ≡ refused_as (is_some put)
    by_put None = refl
    by_put (Some before) = by_equal (before == faults)

    by_test : (is : Bool)
        → came_told (if is then fate.Signed else refused_by course.put faults) ≡ (if is then Signed else refused_as (is_some course.put))
    by_test true = refl
    by_test false = by_put course.put

-- of a request that bytes end
abbrev pub ended_ends : ℕ → Option EndedRequest → List End
ended_ends wall None = []
ended_ends wall (Some ended) =
    map (ended_at wall (came_reply (is_some ended.course.put) ended.reply) (went_told ended.course)) (claim_by ended.asked ended.course.since)

-- of one whose port is closed, or isn't
abbrev pub left_ends : ℕ → Bool → Went → Option Peer → List End
left_ends wall true went found = map (ended_at wall Left went) (claim_of found)
left_ends wall false went found = []

-- how far the request of a client went
abbrev pub went_at : Option Peer → Went
went_at found = went_or (wents found)

module _ (number : ℕ) where
  abbrev pub ends : List Told → List End
  ends told = ends_told number told

  its_number : (number == number) ≡ true
  its_number = grind (arith, nat_tests)

  pub ends-append : (one other : List Told) → ends (one ++ other) ≡ ends one ++ ends other
  ends-append one other = filter_map-append (end_told number) one other

  ends-own : (wall : ℕ) (asks : Asked) (course : Course) (came : Fate) (keys : List NamedKey)
      → ends (told_by wall number asks course came keys) ≡ map (ended_at wall (came_told came) (went_told course)) (claim_by asks course.since)
  ends-own wall asked.Nothing course came keys = refl
  ends-own wall (asked.Signing blob message) course came keys = rw its_number refl
  ends-own wall (asked.Adding blob comment) course came keys = refl
  ends-own wall asked.Other course came keys = refl

  ends-apart : (wall port : ℕ) (asks : Asked) (course : Course) (came : Fate) (keys : List NamedKey) → port ≢ number
      → ends (told_by wall port asks course came keys) ≡ []
  ends-apart wall port asked.Nothing course came keys other = refl
  ends-apart wall port (asked.Signing blob message) course came keys other =
      let fails : (port == number) ≡ false = grind (arith, nat_tests) in
      rw fails refl
  ends-apart wall port (asked.Adding blob comment) course came keys other = refl
  ends-apart wall port asked.Other course came keys other = refl

  -- ---- one thing

  module _ (wall faults : ℕ) (book : Book) where
    concludes-own : (found : Option EndedRequest) (later : Book) → ends (concludes wall faults number found later).told ≡ ended_ends wall found
    concludes-own None later = refl
    concludes-own (Some ended) later =
        ends-own wall ended.asked ended.course (fate_by ended.reply ended.course faults) later.keys
        ∙ ap (λ came. map (ended_at wall came (went_told ended.course)) (claim_by ended.asked ended.course.since)) (came-fate ended.reply ended.course faults)

    pub ends-given : (bytes : List ℕ)
        → ends (see (seen_at wall faults (what.Given number bytes)) book).told ≡ ended_ends wall (books.ends_at bytes (at_port number book))
    unfolding see
    ends-given bytes = concludes-own (books.ends_at bytes (at_port number book)) _

    concludes-apart : (port : ℕ) (found : Option EndedRequest) (later : Book) → number ≢ port
        → ends (concludes wall faults port found later).told ≡ []
    concludes-apart port None later other = refl
    concludes-apart port (Some ended) later other =
        ends-apart wall port ended.asked ended.course (fate_by ended.reply ended.course faults) later.keys (λ same. other (sym same))

    ends-given_apart : (port : ℕ) (bytes : List ℕ) → number ≢ port
        → ends (see (seen_at wall faults (what.Given port bytes)) book).told ≡ []
    unfolding see
    ends-given_apart port bytes other = concludes-apart port (books.ends_at bytes (find_peer port book.peers)) _ other

    ends-sent : (port : ℕ) (piece : List ℕ) → ends (see (seen_at wall faults (what.Sent port piece)) book).told ≡ []
    unfolding see
    ends-sent port piece = refl

    none-raised : (port : ℕ) → (see (raised_sight wall faults port) book).told ≡ []
    unfolding see
    none-raised port = refl

    none-put : (port : ℕ) → (see (put_sight wall faults port) book).told ≡ []
    unfolding see
    none-put port = refl

    left-own : (found : Option Peer) → at_port number book ≡ found
        → ends (told_leaving wall book.keys found) ≡ map (ended_at wall Left (went_at found)) (claim_of found)
    left-own None is = refl
    left-own (Some peer) is =
        let own : peer.port ≡ number = found_key port_of number book.peers peer is in
        ap (λ n. ends (told_by wall n peer.asked peer.course fate.Left book.keys)) own
        ∙ ends-own wall peer.asked peer.course fate.Left book.keys

    ends-closed_own : ends (see (closed_sight wall faults number) book).told ≡ map (ended_at wall Left (went_at (at_port number book))) (claim_of (at_port number book))
    unfolding see
    ends-closed_own = left-own (at_port number book) refl

    left-apart : (port : ℕ) (found : Option Peer) → find_peer port book.peers ≡ found → number ≢ port
        → ends (told_leaving wall book.keys found) ≡ []
    left-apart port None is other = refl
    left-apart port (Some peer) is other =
        let its : peer.port ≡ port = found_key port_of port book.peers peer is in
        ends-apart wall peer.port peer.asked peer.course fate.Left book.keys (λ same. other (sym same ∙ its))

    ends-closed_apart : (port : ℕ) → number ≢ port → ends (see (closed_sight wall faults port) book).told ≡ []
    unfolding see
    ends-closed_apart port other = left-apart port (find_peer port book.peers) refl other

  -- ---- one thing after another

  ends-then : (sight : Sight) (sights : List Sight) (book : Book)
      → ends (see_all (sight ∷ sights) book).told ≡ ends (see sight book).told ++ ends (see_all sights (see sight book).book).told
  unfolding see_all
  ends-then sight sights book = ends-append (see sight book).told (see_all sights (see sight book).book).told

  ends-none : (book : Book) → ends (see_all [] book).told ≡ []
  unfolding see_all
  ends-none book = refl

  pub ends-one : (sight : Sight) (book : Book) → ends (see_all (sight ∷ []) book).told ≡ ends (see sight book).told
  ends-one sight book =
      ends-then sight [] book
      ∙ ap (λ (l : List End). ends (see sight book).told ++ l) (ends-none (see sight book).book)
      ∙ append-nil (ends (see sight book).told)

  -- marks tell nothing
  ends-marks : (f : ℕ → Sight) (ports : List ℕ) (book : Book) → ((port : ℕ) (b : Book) → (see (f port) b).told ≡ [])
      → ends (see_all (map f ports) book).told ≡ []
  ends-marks f [] book none = ends-none book
  ends-marks f (port ∷ ports) book none =
      ends-then (f port) (map f ports) book
      ∙ ap (λ (l : List Told). ends l ++ ends (see_all (map f ports) (see (f port) book).book).told) (none port book)
      ∙ ends-marks f ports (see (f port) book).book none

  left-nobody : (wall : ℕ) (is : Bool) (went : Went) (found : Option Peer) → AreAlike None found → left_ends wall is went found ≡ []
  left-nobody wall true went found neither = refl
  left-nobody wall false went found alike = refl

  left-alike : (wall : ℕ) (is : Bool) (went : Went) (one other : Option Peer) → AreAlike one other
      → left_ends wall is went other ≡ left_ends wall is went one
  left-alike wall true went one other alike = ap (map (ended_at wall Left went)) (claim-alike alike)
  left-alike wall false went one other alike = refl

  -- once it is closed
  abbrev Gone : (wall faults : ℕ) → Book → ℕ → Type 0
  Gone wall faults book port =
      (ends (see (closed_sight wall faults port) book).told ≡ map (ended_at wall Left (went_at (at_port number book))) (claim_of (at_port number book)))
      × IsAlone number (see (closed_sight wall faults port) book).book.peers
      × AreAlike None (at_port number (see (closed_sight wall faults port) book).book)

  -- ports are closed
  ends-closed : (wall faults : ℕ) (ports : List ℕ) (book : Book) → IsAlone number book.peers
      → ends (see_all (map (closed_sight wall faults) ports) book).told
      ≡ left_ends wall (is_among number ports) (went_at (at_port number book)) (at_port number book)
  ends-closed wall faults [] book alone = ends-none book
  ends-closed wall faults (port ∷ ports) book alone =
      ends-then (closed_sight wall faults port) (map (closed_sight wall faults) ports) book
      ∙ by_test (number == port) refl (λ next_alone. ends-closed wall faults ports (see (closed_sight wall faults port) book).book next_alone)
    where
      next : Book
      next = (see (closed_sight wall faults port) book).book

      by_test : (test : Bool) → (number == port) ≡ test
          → (IsAlone number next.peers → ends (see_all (map (closed_sight wall faults) ports) next).told
          ≡ left_ends wall (is_among number ports) (went_at (at_port number next)) (at_port number next))
          → ends (see (closed_sight wall faults port) book).told ++ ends (see_all (map (closed_sight wall faults) ports) next).told
          ≡ left_ends wall (test || is_among number ports) (went_at (at_port number book)) (at_port number book)
      by_test true is rest =
          let equal : number ≡ port = grind (arith, nat_tests) in
          let closed = sees-closed number wall faults book alone in
          let gone : Gone wall faults book port = subst (Gone wall faults book) equal (ends-closed_own wall faults book, closed.alone, closed.found) in
          ap (λ (l : List End). l ++ ends (see_all (map (closed_sight wall faults) ports) next).told) gone.0
          ∙ ap (λ (l : List End). map (ended_at wall Left (went_at (at_port number book))) (claim_of (at_port number book)) ++ l)
          (rest gone.1 ∙ left-nobody wall (is_among number ports) (went_at (at_port number next)) (at_port number next) gone.2)
          ∙ append-nil (map (ended_at wall Left (went_at (at_port number book))) (claim_of (at_port number book)))
      by_test false is rest =
          let apart : number ≢ port = λ equal. let no : (number == port) ≡ true = grind (arith, nat_tests) in absurd (cc) in
          let closed = sees-closed_apart number wall faults book alone port apart in
          ap (λ (l : List End). l ++ ends (see_all (map (closed_sight wall faults) ports) next).told) (ends-closed_apart wall faults book port apart)
          ∙ rest closed.alone
          ∙ ap (λ found. left_ends wall (is_among number ports) (went_at found) found) (closed-same number wall faults port book apart)

  -- ---- an event

  ends-behind : (xs ys : List Sight) (book : Book)
      → ends (see_all (xs ++ ys) book).told ≡ ends (see_all xs book).told ++ ends (see_all ys (see_all xs book).book).told
  ends-behind xs ys book =
      ap ends (told-append number xs ys book) ∙ ends-append (see_all xs book).told (see_all ys (see_all xs book).book).told

  -- what came of it
  ends-came : (wall : ℕ) (outcome : Outcome) (book : Book) → IsAlone number book.peers
      → ends (see_all (came_of wall outcome) book).told
      ≡ left_ends wall (is_among number outcome.closes) (went_or (option_map (goes_on number outcome.actions) (wents (at_port number book)))) (at_port number book)
  ends-came wall outcome book alone =
      let faults = outcome.state.under_way.link.faults in
      let raises = map (raised_sight wall faults) (raised_in outcome.actions) in
      let puts = map (put_sight wall faults) (put_in outcome.actions) in
      let closes = map (closed_sight wall faults) outcome.closes in
      let raised = brings-raised number wall faults (raised_in outcome.actions) book alone in
      let second : Book = (see_all raises book).book in
      let put = brings-put number wall faults (put_in outcome.actions) second raised.alone in
      let third : Book = (see_all puts second).book in
      ends-behind raises (puts ++ closes) book
      ∙ ap (λ (l : List End). l ++ ends (see_all (puts ++ closes) second).told) (ends-marks (raised_sight wall faults) (raised_in outcome.actions) book (λ port b. none-raised wall faults b port))
      ∙ ends-behind puts closes second
      ∙ ap (λ (l : List End). l ++ ends (see_all closes third).told) (ends-marks (put_sight wall faults) (put_in outcome.actions) second (λ port b. none-put wall faults b port))
      ∙ ends-closed wall faults outcome.closes third put.alone
      ∙ left-alike wall (is_among number outcome.closes) (went_at (at_port number third)) (at_port number second) (at_port number third) put.found
      ∙ left-alike wall (is_among number outcome.closes) (went_at (at_port number third)) (at_port number book) (at_port number second) raised.found
      ∙ ap (λ found. left_ends wall (is_among number outcome.closes) (went_or found) (at_port number book)) (went-marked number wall faults outcome.actions book)

  -- all of it, by what the bytes tell that go over the client's socket, and what they leave
  pub ends-event : (wall : ℕ) (over : List Sight) (outcome : Outcome) (book : Book) (found : Option Peer)
      → IsAlone number (see_all over book).book.peers → AreAlike found (at_port number (see_all over book).book)
      → wents (at_port number (see_all over book).book) ≡ wents found
      → ends (see_all (over ++ came_of wall outcome) book).told
      ≡ ends (see_all over book).told ++ left_ends wall (is_among number outcome.closes) (went_or (option_map (goes_on number outcome.actions) (wents found))) found
  ends-event wall over outcome book found alone alike went =
      ends-behind over (came_of wall outcome) book
      ∙ ap (λ (l : List End). ends (see_all over book).told ++ l)
      (ends-came wall outcome (see_all over book).book alone
      ∙ ap (λ w. left_ends wall (is_among number outcome.closes) (went_or (option_map (goes_on number outcome.actions) w)) (at_port number (see_all over book).book)) went
      ∙ left-alike wall (is_among number outcome.closes) (went_or (option_map (goes_on number outcome.actions) (wents found))) found (at_port number (see_all over book).book) alike)

  -- bytes that a client sends, and those that go over other sockets, tell nothing of it
  pub ends-over : (moment : Moment) (state : State) (event : Happening) (book : Book)
      → ((count : ℕ) → event ≡ Took number count → is_of_client (find_port number state.ports) ≡ false)
      → ends (see_all (goes_over moment state event) book).told ≡ []
  ends-over moment state event book silent = by_event_of event refl
    where
      by_client : (sight : Sight) (is : Bool) → ends (see sight book).told ≡ [] → ends (see_all (of_client is sight) book).told ≡ []
      by_client sight true none = ends-one sight book ∙ none
      by_client sight false none = ends-none book

      by_event_of : (one : Happening) → event ≡ one → ends (see_all (goes_over moment state one) book).told ≡ []
      by_event_of (Joined door) is = ends-none book
      by_event_of (Heard port piece) is =
          by_client _ (is_of_client (find_port port state.ports)) (ends-sent moment.wall state.under_way.link.faults book port piece)
      by_event_of (Ended port) is = ends-none book
      by_event_of (Took port count) is = elim (cases_eq number port) [
        | inl equal ↦ subst (λ b. ends (see_all (of_client b (seen_at moment.wall state.under_way.link.faults (what.Given port (take count (owed_of port state))))) book).told ≡ [])
            (sym (ap (λ n. is_of_client (find_port n state.ports)) (sym equal) ∙ silent count (is ∙ ap (λ n. Took n count) (sym equal))))
            (ends-none book)
        | inr other ↦ by_client _ (is_of_client (find_port port state.ports))
            (ends-given_apart moment.wall state.under_way.link.faults book port (take count (owed_of port state)) other)
      ]
      by_event_of (Started job ticket) is = ends-none book
      by_event_of (StartFailed job) is = ends-none book
      by_event_of Tick is = ends-none book

  -- ---- the end

  abbrev waits : Option Peer → List End
  waits found = map (waiting (went_at found)) (claim_of found)

  ends-waiting : (asks : Asked) (course : Course) (keys : List NamedKey)
      → ends (told_by course.since number asks course fate.Open keys) ≡ map (waiting (went_told course)) (claim_by asks course.since)
  ends-waiting asked.Nothing course keys = refl
  ends-waiting (asked.Signing blob message) course keys = rw its_number refl
  ends-waiting (asked.Adding blob comment) course keys = refl
  ends-waiting asked.Other course keys = refl

  none-left : (keys : List NamedKey) (peers : List Peer) → find_peer number peers ≡ None
      → ends (flat_map (open_of keys) peers) ≡ []
  none-left keys [] none = refl
  none-left keys (peer ∷ peers) none =
      let both = some_or_later (has_key port_of number peer) peer (find_peer number peers) none in
      let other : peer.port ≢ number = λ same. let no : (peer.port == number) ≡ true = grind (arith, nat_tests) in let fails : (peer.port == number) ≡ false = both.0 in absurd (cc) in
      ends-append (open_of keys peer) (flat_map (open_of keys) peers)
      ∙ ap (λ (l : List End). l ++ ends (flat_map (open_of keys) peers)) (ends-apart peer.course.since peer.port peer.asked peer.course fate.Open keys other)
      ∙ none-left keys peers both.1

  open-left : (keys : List NamedKey) (peers : List Peer) → IsAlone number peers
      → ends (flat_map (open_of keys) peers) ≡ waits (find_peer number peers)
  open-left keys [] alone = refl
  open-left keys (peer ∷ peers) alone =
      ends-append (open_of keys peer) (flat_map (open_of keys) peers)
      ∙ by_test (has_key port_of number peer) refl (open-left keys peers alone.1)
    where
      by_test : (test : Bool) → has_key port_of number peer ≡ test
          → ends (flat_map (open_of keys) peers) ≡ waits (find_peer number peers)
          → ends (open_of keys peer) ++ ends (flat_map (open_of keys) peers) ≡ waits (cond test (Some peer) (find_peer number peers))
      by_test true is rest =
          let own : peer.port ≡ number = grind (arith, nat_tests) in
          ap (λ (l : List End). ends (open_of keys peer) ++ l) (none-left keys peers (alone.0 is))
          ∙ append-nil (ends (open_of keys peer))
          ∙ ap (λ n. ends (told_by peer.course.since n peer.asked peer.course fate.Open keys)) own
          ∙ ends-waiting peer.asked peer.course keys
      by_test false is rest =
          let other : peer.port ≢ number = λ same. let no : (peer.port == number) ≡ true = grind (arith, nat_tests) in absurd (cc) in
          ap (λ (l : List End). l ++ ends (flat_map (open_of keys) peers)) (ends-apart peer.course.since peer.port peer.asked peer.course fate.Open keys other)
          ∙ rest

  -- those that wait when all was seen
  pub ends-open : (book : Book) → IsAlone number book.peers → ends (open_in book) ≡ waits (at_port number book)
  unfolding open_in
  ends-open book alone = open-left book.keys book.peers alone
