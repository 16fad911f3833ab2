-- Each pair stays exact, whatever the filter is told.
use Rattle.std.proofs.Common.{◌≡◌, ◌==◌, ◌&&◌, ◌||◌, not, if◌then◌else◌, ◌≤◌, ℕ, suc, Bool, true, false, List, [], ◌∷◌, length, All, refl, sym, ap, subst, ◌∙◌, arith, nat_lt, Option, Some, None}
use Rattle.std.specs.Option.{IfSome}
use Rattle.std.proofs.lemmas.Bool.{eqb-true}
use Rattle.std.proofs.lemmas.List.Elements.{All-nil, All-head, All-tail}
use Rattle.std.proofs.lemmas.Option.{none-some, same_Some}
use Rattle.std.specs.Prelude.{IsTrue}
use Rattle.pair_ports.specs.declared.side.Side.{Side}
use Rattle.pair_ports.specs.declared.side.Side.TheVariants.{Upstream}
use Rattle.filter_model.specs.Lists.{Listed}
use Rattle.filter_model.specs.Pairs.{Pair, change_half, heard_more, is_spare, is_through, new_pair, reaches, sent_some, unlinked}
use Rattle.filter_model.specs.Looking.{and_then, client_looked, looked, lost_if, upstream_looked}
use Rattle.filter_model.specs.Filters.{AllFit, Connected, Ended, Fits, Happening, Heard, Joined, Lost, Numbered, State, Took, at_pair, find_pair, first_state, happened, has_number, is_crowded, is_reached, joined, most_pairs, reached_by, run, settled, step, told, trimmed_by, unlinked_in, without}
use Rattle.filter_model.specs.Watching.{EachIsExact, IsExact, IsInRange, Watched, new_watched, seen_at, streamed, watch, watch_if, watch_old, watch_open, watched_of, watched_on}
use Rattle.filter_model.proofs.NumberLemmas.{found-append, found-new, found-put, found-unlinked, gone-remove, gone-without, kept-put, kept-remove, kept-unlinked, kept-without, none-unlinked, same-number, spares-other, spares-own}
use Rattle.filter_model.proofs.PairLemmas.{Holds, heard-holds, left_at, linked-holds, looked-holds, lost-holds, took-holds, unlinked-holds}

-- ---- what is known of a pair

-- the watched pair is the open one, where it is open, and a spare connection of it isn't used
pub record IsWatched (listed : Listed) (found : Option Pair) (spare : Bool) (watched : Watched) : Type 0 where
  pub holds : Holds listed watched
  pub same : (pair : Pair) → found ≡ Some pair → watched.pair ≡ pair
  pub free : spare ≡ true → watched.pair.is_used ≡ false

-- nothing is watched before the pair joined, and what is watched is the pair
abbrev pub Good : Listed → ℕ → ℕ → Option Pair → Bool → Option Watched → Type 0
Good listed number last found spare None = found ≡ None
Good listed number last found spare (Some watched) = (number ≤ last) × IsWatched listed found spare watched

abbrev pub GoodAt : ℕ → State → Option Watched → Type 0
GoodAt number state watched = Good state.listed number state.last_pair (find_pair number state.pairs) (has_number number state.spares) watched

pub new-holds : (listed : Listed) → Holds listed new_watched
new-holds listed = record {
  exact = record {
    taken = [];
    exchanges = [];
    pending = [];
    parts = refl;
    from_client = refl;
    from_upstream = refl;
    to_upstream = refl;
    to_client = refl;
    are_bodies = All-nil _;
    are_answers = All-nil _;
    each = All-nil _;
    last = refl;
    bound = refl;
    unused = λ apart. refl;
    apart = λ unused. record { unheard = refl; whole = refl; unbound = refl };
  };
  fated = All-nil _;
  heard_bytes = All-nil _;
  client_bytes = All-nil _;
  upstream_bytes = All-nil _;
}

-- bytes of an event move over a connection of this pair, and what is connected wasn't
abbrev Reaches : Happening → Pair → Type 0
Reaches Joined pair = Unit {0}
Reaches (Connected number) pair = pair.is_linked ≡ false
Reaches (Heard number side piece) pair = reaches side pair ≡ true
Reaches (Took number side count) pair = reaches side pair ≡ true
Reaches (Lost number) pair = Unit {0}
Reaches (Ended number) pair = Unit {0}

-- an event of this very pair
told-holds : (event : Happening) (listed : Listed) (watched : Watched) → IsInRange event → Reaches event watched.pair → Holds listed watched
    → Holds listed (left_at (told event listed watched.pair).pair (streamed event watched.pair watched))
told-holds Joined listed watched range reached holds = looked-holds listed watched holds
told-holds (Connected number) listed watched range reached holds = linked-holds listed watched reached holds
told-holds (Heard number side piece) listed watched range reached holds = looked-holds listed _ (heard-holds listed watched side piece range reached holds)
told-holds (Took number side count) listed watched range reached holds = looked-holds listed _ (took-holds listed watched side count reached holds)
told-holds (Lost number) listed watched range reached holds = lost-holds listed watched holds
told-holds (Ended number) listed watched range reached holds = holds

spare-free : (linked used bound through : Bool) → (linked && (not bound && through)) ≡ true → (used && (bound || not through)) ≡ false
spare-free false used bound through spare = cc
spare-free true used true through spare = cc
spare-free true used false false spare = cc
spare-free true true false true spare = refl
spare-free true false false true spare = refl

looked-free : (listed : Listed) (pair : Pair) → is_spare (looked listed pair).pair ≡ true → (looked listed pair).pair.is_used ≡ false
looked-free listed pair spare =
    let after = (and_then (client_looked listed pair) (upstream_looked listed)).pair in
    spare-free after.is_linked after.is_used after.is_bound (is_through after) spare

lost-free : (used : Bool) (pair : Pair) → pair.is_used ≡ used → (lost_if used pair).is_open ≡ true → (lost_if used pair).pair.is_used ≡ false
lost-free true pair is open_yet = cc
lost-free false pair is open_yet = is

-- a connection that an event leaves spare isn't used
told-free : (event : Happening) (listed : Listed) (pair : Pair) → Reaches event pair → (pair.is_linked ≡ false → pair.is_used ≡ false)
    → (told event listed pair).is_open ≡ true → is_spare (told event listed pair).pair ≡ true → (told event listed pair).pair.is_used ≡ false
told-free Joined listed pair reached unused open_yet spare = looked-free listed pair spare
told-free (Connected number) listed pair reached unused open_yet spare = unused reached
told-free (Heard number side piece) listed pair reached unused open_yet spare = looked-free listed (change_half side (heard_more piece) pair) spare
told-free (Took number side count) listed pair reached unused open_yet spare = looked-free listed (change_half side (sent_some count) pair) spare
told-free (Lost number) listed pair reached unused open_yet spare = lost-free pair.is_used pair refl open_yet
told-free (Ended number) listed pair reached unused open_yet spare = cc

free-settled : (open_yet : Bool) (number : ℕ) (was after : Pair) (state : State) → (open_yet ≡ true → is_spare after ≡ true → after.is_used ≡ false)
    → has_number number (settled open_yet number was after state).spares ≡ true → after.is_used ≡ false
free-settled true number was after state free has = free refl (sym (spares-own (is_spare after) number state.spares) ∙ has)
free-settled false number was after state free has = let none = gone-without number state.spares in cc

-- what the filter finds after it
found-settled : (open_yet : Bool) (number : ℕ) (after was : Pair) (state : State) → find_pair number state.pairs ≡ Some was
    → (pair : Pair) → find_pair number (settled open_yet number was after state).pairs ≡ Some pair → after ≡ pair
found-settled true number after was state found pair is = same_Some _ _ (sym (found-put number after was state.pairs found) ∙ is)
found-settled false number after was state found pair is = absurd (none-some _ (sym (gone-remove number state.pairs) ∙ is))

kept-settled : (open_yet : Bool) (number other : ℕ) (was after : Pair) (state : State) → (number == other) ≡ false
    → find_pair number (settled open_yet other was after state).pairs ≡ find_pair number state.pairs
kept-settled true number other was after state apart = kept-put number other after state.pairs apart
kept-settled false number other was after state apart = kept-remove number other state.pairs apart

kept-at : (found : Option Pair) (number other : ℕ) (event : Happening) (state : State) → (number == other) ≡ false
    → find_pair number (at_pair found other event state).pairs ≡ find_pair number state.pairs
kept-at None number other event state apart = refl
kept-at (Some pair) number other event state apart = kept-settled (told event state.listed pair).is_open number other pair (told event state.listed pair).pair state apart

spares-settled : (open_yet : Bool) (number other : ℕ) (was after : Pair) (state : State) → (number == other) ≡ false
    → has_number number (settled open_yet other was after state).spares ≡ has_number number state.spares
spares-settled true number other was after state apart = spares-other (is_spare after) number other state.spares apart
spares-settled false number other was after state apart = kept-without number other state.spares apart

spares-at : (found : Option Pair) (number other : ℕ) (event : Happening) (state : State) → (number == other) ≡ false
    → has_number number (at_pair found other event state).spares ≡ has_number number state.spares
spares-at None number other event state apart = refl
spares-at (Some pair) number other event state apart = spares-settled (told event state.listed pair).is_open number other pair (told event state.listed pair).pair state apart

last-settled : (open_yet : Bool) (number : ℕ) (was after : Pair) (state : State) → (settled open_yet number was after state).last_pair ≡ state.last_pair
last-settled true number was after state = refl
last-settled false number was after state = refl

pub last-at : (found : Option Pair) (number : ℕ) (event : Happening) (state : State) → (at_pair found number event state).last_pair ≡ state.last_pair
last-at None number event state = refl
last-at (Some pair) number event state = last-settled (told event state.listed pair).is_open number pair (told event state.listed pair).pair state

listed-settled : (open_yet : Bool) (number : ℕ) (was after : Pair) (state : State) → (settled open_yet number was after state).listed ≡ state.listed
listed-settled true number was after state = refl
listed-settled false number was after state = refl

listed-at : (found : Option Pair) (number : ℕ) (event : Happening) (state : State) → (at_pair found number event state).listed ≡ state.listed
listed-at None number event state = refl
listed-at (Some pair) number event state = listed-settled (told event state.listed pair).is_open number pair (told event state.listed pair).pair state

-- an event of a pair keeps what is known of it good
module _ (number : ℕ) (event : Happening) (state : State) (range : IsInRange event) (reached : (pair : Pair) → find_pair number state.pairs ≡ Some pair → Reaches event pair) where
  own-open : (found : Option Pair) → find_pair number state.pairs ≡ found → (watched : Watched) → IsWatched state.listed found (has_number number state.spares) watched
      → IsWatched state.listed (find_pair number (at_pair found number event state).pairs) (has_number number (at_pair found number event state).spares) (watch_open found state.listed event watched)
  own-open None found watched is = record { holds = is.holds; same = λ pair open_yet. absurd (none-some _ (sym found ∙ open_yet)); free = is.free }
  own-open (Some pair) found watched is =
      let here : watched.pair ≡ pair = is.same pair refl in
      record {
        holds = subst (λ p. Holds state.listed (left_at (told event state.listed p).pair (streamed event p watched))) here (told-holds event state.listed watched range (subst (Reaches event) (sym here) (reached pair found)) is.holds);
        same = found-settled (told event state.listed pair).is_open number (told event state.listed pair).pair pair state found;
        free = free-settled (told event state.listed pair).is_open number pair (told event state.listed pair).pair state
            (told-free event state.listed pair (reached pair found) (subst (λ p. p.is_linked ≡ false → p.is_used ≡ false) here is.holds.exact.unused));
      }

  own : (watched : Option Watched) → GoodAt number state watched → GoodAt number (at_pair (find_pair number state.pairs) number event state) (watch_old state number event watched)
  own None good = by_none (find_pair number state.pairs) refl
    where
      by_none : (found : Option Pair) → find_pair number state.pairs ≡ found → find_pair number (at_pair found number event state).pairs ≡ None
      by_none None is = is
      by_none (Some pair) is = absurd (none-some _ (sym good ∙ is))
  own (Some watched) good = (
    subst (λ last. number ≤ last) (sym (last-at (find_pair number state.pairs) number event state)) good.0,
    subst (λ listed. IsWatched listed (find_pair number (at_pair (find_pair number state.pairs) number event state).pairs) (has_number number (at_pair (find_pair number state.pairs) number event state).spares) (watch_open (find_pair number state.pairs) state.listed event watched)) (sym (listed-at (find_pair number state.pairs) number event state)) (own-open (find_pair number state.pairs) refl watched good.1),
  )

-- in another state, where the pair is found as before
moved : (number : ℕ) (state after : State) (watched : Option Watched) → after.listed ≡ state.listed → after.last_pair ≡ state.last_pair
    → find_pair number after.pairs ≡ find_pair number state.pairs → has_number number after.spares ≡ has_number number state.spares → GoodAt number state watched → GoodAt number after watched
moved number state after watched listed last found spare good =
    subst (λ l. Good l number after.last_pair (find_pair number after.pairs) (has_number number after.spares) watched) (sym listed)
    (subst (λ n. Good state.listed number n (find_pair number after.pairs) (has_number number after.spares) watched) (sym last)
    (subst (λ f. Good state.listed number state.last_pair f (has_number number after.spares) watched) (sym found)
    (subst (λ s. Good state.listed number state.last_pair (find_pair number state.pairs) s watched) (sym spare) good)))

-- an event of another pair
other-good : (number other : ℕ) (event : Happening) (state : State) (watched : Option Watched) → (number == other) ≡ false → GoodAt number state watched
    → GoodAt number (at_pair (find_pair other state.pairs) other event state) watched
other-good number other event state watched apart good =
    moved number state (at_pair (find_pair other state.pairs) other event state) watched (listed-at (find_pair other state.pairs) other event state)
    (last-at (find_pair other state.pairs) other event state) (kept-at (find_pair other state.pairs) number other event state apart)
    (spares-at (find_pair other state.pairs) number other event state apart) good

-- by whether it is this pair's
told-good : (same : Bool) (number other : ℕ) (event : Happening) (state : State) (watched : Option Watched) → (number == other) ≡ same → IsInRange event
    → ((pair : Pair) → find_pair other state.pairs ≡ Some pair → Reaches event pair) → GoodAt number state watched → GoodAt number (at_pair (find_pair other state.pairs) other event state) (watch_if same state number event watched)
told-good true number other event state watched is range reached good =
    subst (λ n. GoodAt number (at_pair (find_pair n state.pairs) n event state) (watch_old state number event watched)) (eqb-true number other is)
    (own number event state range (λ pair found. reached pair (ap (λ n. find_pair n state.pairs) (sym (eqb-true number other is)) ∙ found)) watched good)
told-good false number other event state watched is range reached good = other-good number other event state watched is good

-- ---- a pair joins

unjoined : (listed : Listed) (number last : ℕ) (found : Option Pair) (spare : Bool) (watched : Option Watched) → number ≡ suc last → Good listed number last found spare watched → found ≡ None
unjoined listed number last found spare None is good = good
unjoined listed number last found spare (Some watched) is good = absurd (omega (arith, good.0))

joined-new : (room : Bool) (number : ℕ) (state : State) → number ≡ suc state.last_pair → find_pair number state.pairs ≡ None
    → IsWatched state.listed (find_pair number (joined room state).pairs) (has_number number (joined room state).spares) new_watched
joined-new true number state is none = record {
  holds = new-holds state.listed;
  same = λ pair found. same_Some _ _ (sym (found-new number state.pairs (record { number = suc state.last_pair; pair = new_pair }) is none) ∙ found);
  free = λ spare. refl;
}
joined-new false number state is none = record {
  holds = new-holds state.listed;
  same = λ pair found. absurd (none-some _ (sym none ∙ found));
  free = λ spare. refl;
}

kept-joined : (room : Bool) (number : ℕ) (state : State) → (number == suc state.last_pair) ≡ false → find_pair number (joined room state).pairs ≡ find_pair number state.pairs
kept-joined true number state apart = found-append number state.pairs (record { number = suc state.last_pair; pair = new_pair }) apart
kept-joined false number state apart = refl

pub last-joined : (room : Bool) (state : State) → (joined room state).last_pair ≡ suc state.last_pair
last-joined true state = refl
last-joined false state = refl

listed-joined : (room : Bool) (state : State) → (joined room state).listed ≡ state.listed
listed-joined true state = refl
listed-joined false state = refl

spares-joined : (room : Bool) (state : State) → (joined room state).spares ≡ state.spares
spares-joined true state = refl
spares-joined false state = refl

good-later : (listed : Listed) (number last : ℕ) (found : Option Pair) (spare : Bool) (watched : Option Watched) → (number == suc last) ≡ false → Good listed number last found spare watched
    → Good listed number (suc last) found spare watched
good-later listed number last found spare None apart good = good
good-later listed number last found spare (Some watched) apart good = (omega (arith, good.0), good.1)

joined-good : (same room : Bool) (number : ℕ) (state : State) (watched : Option Watched) → (number == suc state.last_pair) ≡ same → GoodAt number state watched
    → GoodAt number (joined room state) (if same then Some new_watched else watched)
joined-good true room number state watched is good =
    let here : number ≡ suc state.last_pair = eqb-true number (suc state.last_pair) is in
    subst (λ listed. Good listed number (joined room state).last_pair (find_pair number (joined room state).pairs) (has_number number (joined room state).spares) (Some new_watched)) (sym (listed-joined room state))
    (subst (λ last. Good state.listed number last (find_pair number (joined room state).pairs) (has_number number (joined room state).spares) (Some new_watched)) (sym (last-joined room state))
    (omega (arith, here), joined-new room number state here (unjoined state.listed number state.last_pair (find_pair number state.pairs) (has_number number state.spares) watched here good)))
joined-good false room number state watched is good =
    subst (λ listed. Good listed number (joined room state).last_pair (find_pair number (joined room state).pairs) (has_number number (joined room state).spares) watched) (sym (listed-joined room state))
    (subst (λ last. Good state.listed number last (find_pair number (joined room state).pairs) (has_number number (joined room state).spares) watched) (sym (last-joined room state))
    (subst (λ found. Good state.listed number (suc state.last_pair) found (has_number number (joined room state).spares) watched) (sym (kept-joined room number state is))
    (subst (λ spares. Good state.listed number (suc state.last_pair) (find_pair number state.pairs) (has_number number spares) watched) (sym (spares-joined room state))
    (good-later state.listed number state.last_pair (find_pair number state.pairs) (has_number number state.spares) watched is good))))

-- ---- too many are spare

-- what is watched is as the filter has it
seen-good : (listed : Listed) (number last : ℕ) (found : Option Pair) (spare : Bool) (watched : Option Watched) → Good listed number last found spare watched
    → Good listed number last found spare (seen_at found watched)
seen-good listed number last None spare watched good = good
seen-good listed number last (Some pair) spare None good = absurd (none-some _ (sym good))
seen-good listed number last (Some pair) spare (Some watched) good =
    let here : watched.pair ≡ pair = good.1.same pair refl in (
      good.0,
      record {
        holds = subst (λ p. Holds listed (left_at p watched)) here good.1.holds;
        same = λ other is. same_Some pair other is;
        free = λ is. ap (λ (p : Pair). p.is_used) (sym here) ∙ good.1.free is;
      },
    )

-- the pair of this number gives its spare connection back
taken-good : (listed : Listed) (number last : ℕ) (pairs : List Numbered) (spares : List ℕ) (found : Option Pair) (watched : Option Watched) → find_pair number pairs ≡ found → has_number number spares ≡ true
    → Good listed number last found true watched
    → Good listed number last (find_pair number (unlinked_in number pairs)) (has_number number (without number spares)) (seen_at (find_pair number (unlinked_in number pairs)) watched)
taken-good listed number last pairs spares None watched is has good =
    let none = none-unlinked number pairs is in
    let gone = gone-without number spares in
    subst (λ f. Good listed number last f (has_number number (without number spares)) (seen_at f watched)) (sym none)
    (subst (λ b. Good listed number last None b watched) (sym gone) (forgets watched good))
  where
    forgets : (watched : Option Watched) → Good listed number last None true watched → Good listed number last None false watched
    forgets None good = good
    forgets (Some watched) good = (good.0, record { holds = good.1.holds; same = good.1.same; free = λ is. cc })
taken-good listed number last pairs spares (Some pair) None is has good = absurd (none-some _ (sym good))
taken-good listed number last pairs spares (Some pair) (Some watched) is has good =
    let here : watched.pair ≡ pair = good.1.same pair refl in
    let found = found-unlinked number pair pairs is in
    subst (λ f. Good listed number last f (has_number number (without number spares)) (seen_at f (Some watched))) (sym found) (
      good.0,
      record {
        holds = subst (λ p. Holds listed (left_at (unlinked p) watched)) here (unlinked-holds listed watched (good.1.free refl) good.1.holds);
        same = λ other same. same_Some (unlinked pair) other same;
        free = λ spare. ap (λ (p : Pair). p.is_used) (sym here) ∙ good.1.free refl;
      },
    )

first-has : (number : ℕ) (later : List ℕ) → has_number number (number ∷ later) ≡ true
first-has number later = ap (λ b. b || has_number number later) (same-number number)

-- by whether it is this pair's
trimmed-good : (same : Bool) (number oldest : ℕ) (later : List ℕ) (state : State) (watched : Option Watched) → (number == oldest) ≡ same → state.spares ≡ oldest ∷ later → GoodAt number state watched
    → GoodAt number (trimmed_by true (oldest ∷ later) state) (seen_at (find_pair number (unlinked_in oldest state.pairs)) watched)
trimmed-good true number oldest later state watched is spares good =
    let here : number ≡ oldest = eqb-true number oldest is in
    let has : has_number number state.spares ≡ true = ap (has_number number) (spares ∙ ap (λ n. n ∷ later) (sym here)) ∙ first-has number later in
    subst (λ n. Good state.listed number state.last_pair (find_pair number (unlinked_in n state.pairs)) (has_number number (without n state.spares)) (seen_at (find_pair number (unlinked_in n state.pairs)) watched)) here
    (taken-good state.listed number state.last_pair state.pairs state.spares (find_pair number state.pairs) watched refl has
    (subst (λ b. Good state.listed number state.last_pair (find_pair number state.pairs) b watched) has good))
trimmed-good false number oldest later state watched is spares good =
    let after = trimmed_by true (oldest ∷ later) state in
    seen-good after.listed number after.last_pair (find_pair number after.pairs) (has_number number after.spares) watched
    (moved number state after watched refl refl (kept-unlinked number oldest state.pairs is) (kept-without number oldest state.spares is) good)

trim-good : (test : Bool) (spares : List ℕ) (number : ℕ) (state : State) (watched : Option Watched) → state.spares ≡ spares → GoodAt number state watched
    → GoodAt number (trimmed_by test spares state) (seen_at (find_pair number (trimmed_by test spares state).pairs) watched)
trim-good true [] number state watched is good =
    seen-good state.listed number state.last_pair (find_pair number state.pairs) (has_number number state.spares) watched good
trim-good true (oldest ∷ later) number state watched is good = trimmed-good (number == oldest) number oldest later state watched refl is good
trim-good false spares number state watched is good =
    seen-good state.listed number state.last_pair (find_pair number state.pairs) (has_number number state.spares) watched good

-- ---- all events

reached_is : (number : ℕ) (side : Side) (state : State) → IsTrue (is_reached number side state) → (pair : Pair) → find_pair number state.pairs ≡ Some pair → reaches side pair ≡ true
reached_is number side state is pair found = ap (λ f. reached_by f side) (sym found) ∙ is

unreached_is : (number : ℕ) (state : State) → IsTrue (not (is_reached number Upstream state)) → (pair : Pair) → find_pair number state.pairs ≡ Some pair → pair.is_linked ≡ false
unreached_is number state is pair found = not-is pair.is_linked (ap (λ f. not (reached_by f Upstream)) (sym found) ∙ is)
  where
    not-is : (b : Bool) → not b ≡ true → b ≡ false
    not-is true is = cc
    not-is false is = refl

happened-good : (number : ℕ) (state : State) (event : Happening) (watched : Option Watched) → IsInRange event → Fits event state → GoodAt number state watched
    → GoodAt number (happened state event) (watch state number watched event)
happened-good number state Joined watched range fits good = joined-good (number == suc state.last_pair) (nat_lt (length state.pairs) most_pairs) number state watched refl good
happened-good number state (Connected other) watched range fits good = told-good (number == other) number other (Connected other) state watched refl range (unreached_is other state fits.1) good
happened-good number state (Heard other side piece) watched range fits good =
    told-good (number == other) number other (Heard other side piece) state watched refl range (reached_is other side state fits.0) good
happened-good number state (Took other side count) watched range fits good =
    told-good (number == other) number other (Took other side count) state watched refl range (reached_is other side state fits.0) good
happened-good number state (Lost other) watched range fits good = told-good (number == other) number other (Lost other) state watched refl range (λ pair found. tt) good
happened-good number state (Ended other) watched range fits good = told-good (number == other) number other (Ended other) state watched refl range (λ pair found. tt) good

step-good : (number : ℕ) (state : State) (event : Happening) (watched : Option Watched) → IsInRange event → Fits event state → GoodAt number state watched
    → GoodAt number (step state event) (seen_at (find_pair number (step state event).pairs) (watch state number watched event))
step-good number state event watched range fits good =
    let after = happened state event in
    trim-good (is_crowded after) after.spares number after (watch state number watched event) refl (happened-good number state event watched range fits good)

pub run-good : (number : ℕ) (state : State) (watched : Option Watched) (events : List Happening) → All IsInRange events → AllFit state events → GoodAt number state watched
    → GoodAt number (run state events) (watched_on number state watched events)
run-good number state watched [] range fit good = good
run-good number state watched (event ∷ later) range fit good =
    run-good number (step state event) (seen_at (find_pair number (step state event).pairs) (watch state number watched event)) later (All-tail IsInRange event later range) fit.1
    (step-good number state event watched (All-head IsInRange event later range) fit.0 good)

listed-happened : (state : State) (event : Happening) → (happened state event).listed ≡ state.listed
listed-happened state Joined = listed-joined (nat_lt (length state.pairs) most_pairs) state
listed-happened state (Connected other) = listed-at (find_pair other state.pairs) other (Connected other) state
listed-happened state (Heard other side piece) = listed-at (find_pair other state.pairs) other (Heard other side piece) state
listed-happened state (Took other side count) = listed-at (find_pair other state.pairs) other (Took other side count) state
listed-happened state (Lost other) = listed-at (find_pair other state.pairs) other (Lost other) state
listed-happened state (Ended other) = listed-at (find_pair other state.pairs) other (Ended other) state

listed-trimmed : (test : Bool) (spares : List ℕ) (state : State) → (trimmed_by test spares state).listed ≡ state.listed
listed-trimmed true [] state = refl
listed-trimmed true (oldest ∷ later) state = refl
listed-trimmed false spares state = refl

listed-step : (state : State) (event : Happening) → (step state event).listed ≡ state.listed
listed-step state event =
    let after = happened state event in
    listed-trimmed (is_crowded after) after.spares after ∙ listed-happened state event

pub listed-run : (state : State) (events : List Happening) → (run state events).listed ≡ state.listed
listed-run state [] = refl
listed-run state (event ∷ later) = listed-run (step state event) later ∙ listed-step state event

good-exact : (listed : Listed) (number last : ℕ) (found : Option Pair) (spare : Bool) (watched : Option Watched) → Good listed number last found spare watched → IfSome watched (IsExact listed)
good-exact listed number last found spare None good = tt
good-exact listed number last found spare (Some watched) good = good.1.holds.exact

pub each_is_exact : EachIsExact
each_is_exact listed events number range fit =
    good-exact listed number (run (first_state listed) events).last_pair (find_pair number (run (first_state listed) events).pairs) (has_number number (run (first_state listed) events).spares) _
    (subst (λ l. Good l number (run (first_state listed) events).last_pair (find_pair number (run (first_state listed) events).pairs) (has_number number (run (first_state listed) events).spares) (watched_of number listed events)) (listed-run (first_state listed) events)
    (run-good number (first_state listed) None events range fit refl))
