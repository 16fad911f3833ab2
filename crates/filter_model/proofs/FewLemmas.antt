-- There are few connections to the agent behind, and each is needed or one of the spare ones.
use Rattle.std.proofs.Common.{◌≡◌, ◌∙◌, ◌==◌, ◌&&◌, ◌||◌, ◌+◌, ◌≤◌, if◌then◌else◌, ℕ, suc, Bool, true, false, not, List, [], ◌∷◌, ◌++◌, length, Option, Some, None, refl, sym, ap, subst, cond, arith, nat_lt}
use Rattle.std.specs.List.{filter}
use Rattle.std.specs.Prelude.{IsTrue}
use Rattle.std.specs.Option.{IfSome}
use Rattle.std.proofs.lemmas.Bool.{eqb-true}
use Rattle.std.proofs.lemmas.Bool.Decides.{Decides-ltb, nat_tests}
use Rattle.std.proofs.lemmas.Option.{none-some, same_Some}
use Rattle.wire_text.specs.Bounds.{longest_body}
use Rattle.wire_text.specs.Frames.{Front, Whole, Bad, More, after_front, front, front_body}
use Rattle.pair_ports.specs.declared.side.Side.{Side}
use Rattle.pair_ports.specs.declared.side.Side.TheVariants.{Client, Upstream}
use Rattle.filter_model.specs.declared.waits.Waits.{Waits}
use Rattle.filter_model.specs.declared.waits.Waits.TheVariants.{Nothing, OnList, OnBind, OnReply}
use Rattle.filter_model.specs.Lists.{Listed}
use Rattle.filter_model.specs.Pairs.{Pair, change_half, heard_more, is_none, is_quiet, is_some_bytes, is_spare, is_through, new_pair, sent_some, unlinked}
use Rattle.filter_model.specs.Filters.{AllFit, Connected, Ended, Fits, Happening, Heard, Joined, Lost, Numbered, State, Took, at_pair, find_pair, first_state, happened, has_number, has_place, is_crowded, joined, links, most_links, most_pairs, most_spares, put_pair, reached_by, remove_pair, run, sends_by, settled, spares_if, step, told, trimmed_by, unlinked_by, unlinked_in, without}
use Rattle.filter_model.specs.Looking.{and_then_if, answered, client_front, client_looked, client_owed, client_waits, fate_of, looked, lost, lost_if, nothing_left, reply_for, taken_as, upstream_front, upstream_looked, upstream_waits}
use Rattle.filter_model.specs.Places.{AreFew, EachHoldsFew, IsIdle, IsIdleAt, IsNeeded}
use Rattle.filter_model.proofs.FairLemmas.{two}
use Rattle.filter_model.proofs.NumberLemmas.{found-append, found-more, found-new, found-put, found-unlinked, gone-remove, gone-without, kept-put, kept-remove, kept-unlinked, kept-without, length-spares, length-tail, length-without, same-number, spares-other, spares-own}

-- ---- how many there are

abbrev one_if : Bool → ℕ
one_if true = 1
one_if false = 0

-- of a list with one more
abbrev links_by : Bool → Numbered → List Numbered → ℕ
links_by test one others = length (cond test (one ∷ filter (λ each. each.pair.is_linked) others) (filter (λ each. each.pair.is_linked) others))

counted : (test : Bool) (one : Numbered) (others : List Numbered) → links_by test one others ≡ one_if test + links others
counted true one others = omega arith
counted false one others = omega arith

links-cons : (one : Numbered) (others : List Numbered) → links (one ∷ others) ≡ one_if one.pair.is_linked + links others
links-cons one others = counted one.pair.is_linked one others

links-append : (pairs : List Numbered) (new : Numbered) → links (pairs ++ new ∷ []) ≡ links pairs + one_if new.pair.is_linked
links-append [] new = omega (arith, links-cons new [])
links-append (one ∷ others) new =
    omega (arith, links-cons one (others ++ new ∷ []), links-cons one others, links-append others new)

put-by : (test : Bool) (number : ℕ) (was after : Pair) (one : Numbered) (others : List Numbered) → (if test then Some one.pair else find_pair number others) ≡ Some was
    → (find_pair number others ≡ Some was → links (put_pair number after others) + one_if was.is_linked ≡ links others + one_if after.is_linked)
    → links (if test then record { number = number; pair = after } ∷ others else one ∷ put_pair number after others) + one_if was.is_linked
    ≡ links (one ∷ others) + one_if after.is_linked
put-by true number was after one others found rest =
    let same = ap (λ (pair : Pair). one_if pair.is_linked) (same_Some one.pair was found) in
    omega (arith, links-cons (record { number = number; pair = after }) others, links-cons one others, same)
put-by false number was after one others found rest =
    omega (arith, links-cons one (put_pair number after others), links-cons one others, rest found)

-- a pair in another's place
links-put : (number : ℕ) (was after : Pair) (pairs : List Numbered) → find_pair number pairs ≡ Some was
    → links (put_pair number after pairs) + one_if was.is_linked ≡ links pairs + one_if after.is_linked
links-put number was after [] found = absurd (none-some _ found)
links-put number was after (one ∷ others) found =
    put-by (number == one.number) number was after one others found (links-put number was after others)

remove-by : (test : Bool) (number : ℕ) (one : Numbered) (others : List Numbered) → links (remove_pair number others) ≤ links others
    → links (if test then remove_pair number others else one ∷ remove_pair number others) ≤ links (one ∷ others)
remove-by true number one others rest = omega (arith, links-cons one others, rest)
remove-by false number one others rest =
    omega (arith, links-cons one others, links-cons one (remove_pair number others), rest)

links-remove : (number : ℕ) (pairs : List Numbered) → links (remove_pair number pairs) ≤ links pairs
links-remove number [] = omega arith
links-remove number (one ∷ others) = remove-by (number == one.number) number one others (links-remove number others)

-- ---- a look

abbrev Same : Pair → Pair → Type 0
Same after pair = after.is_linked ≡ pair.is_linked

taken-same : (fate : Waits) (body : List ℕ) (pair : Pair) → Same (taken_as fate body pair) pair
taken-same Nothing body pair = refl
taken-same OnList body pair = refl
taken-same OnBind body pair = refl
taken-same OnReply body pair = refl

module _ (listed : Listed) (pair : Pair) where
  client_front-same : (answer : Front) → Same (client_front answer listed pair).pair pair
  client_front-same (Whole body_len) =
      taken-same (fate_of listed (front_body body_len pair.client.heard)) (front_body body_len pair.client.heard) _
  client_front-same (Bad announced) = refl
  client_front-same More = refl

  client_owed-same : (client upstream : List ℕ) → Same (client_owed client upstream listed pair).pair pair
  client_owed-same [] [] = client_front-same (front longest_body pair.client.heard)
  client_owed-same [] (byte ∷ bytes) = refl
  client_owed-same (byte ∷ bytes) upstream = refl

  client-same : (waits : Waits) → Same (client_waits waits listed pair).pair pair
  client-same Nothing = client_owed-same pair.client.owed pair.upstream.owed
  client-same OnList = refl
  client-same OnBind = refl
  client-same OnReply = refl

  nothing_left-same : (rest : List ℕ) (after : Pair) → Same (nothing_left rest after).pair after
  nothing_left-same [] after = refl
  nothing_left-same (byte ∷ bytes) after = refl

  answered-same : (reply : Option (List ℕ)) (body_len : ℕ) → Same (answered reply body_len pair).pair pair
  answered-same None body_len = refl
  answered-same (Some reply) body_len = nothing_left-same (after_front body_len pair.upstream.heard) _

  upstream_front-same : (answer : Front) → Same (upstream_front answer listed pair).pair pair
  upstream_front-same (Whole body_len) = answered-same (reply_for pair.waits listed (front_body body_len pair.upstream.heard)) body_len
  upstream_front-same (Bad announced) = refl
  upstream_front-same More = refl

  upstream-same : (waits : Waits) → Same (upstream_waits waits listed pair).pair pair
  upstream-same Nothing = nothing_left-same pair.upstream.heard pair
  upstream-same OnList = upstream_front-same (front longest_body pair.upstream.heard)
  upstream-same OnBind = upstream_front-same (front longest_body pair.upstream.heard)
  upstream-same OnReply = upstream_front-same (front longest_body pair.upstream.heard)

then-same : (listed : Listed) (test : Bool) (pair : Pair) → Same (and_then_if test pair (upstream_looked listed)).pair pair
then-same listed true pair = upstream-same listed pair pair.waits
then-same listed false pair = refl

-- no look makes a connection, and none takes one
looked-same : (listed : Listed) (pair : Pair) → Same (looked listed pair).pair pair
looked-same listed pair =
    let first = client_looked listed pair in
    then-same listed first.is_open first.pair ∙ client-same listed pair pair.waits

heard-same : (side : Side) (piece : List ℕ) (pair : Pair) → Same (change_half side (heard_more piece) pair) pair
heard-same Client piece pair = refl
heard-same Upstream piece pair = refl

sent-same : (side : Side) (count : ℕ) (pair : Pair) → Same (change_half side (sent_some count) pair) pair
sent-same Client count pair = refl
sent-same Upstream count pair = refl

lost-same : (used : Bool) (pair : Pair) → (lost_if used pair).is_open ≡ true → (lost_if used pair).pair.is_linked ≡ false
lost-same true pair open_yet = cc
lost-same false pair open_yet = refl

not-is : (b : Bool) → IsTrue (not b) → b ≡ false
not-is true is = cc
not-is false is = refl

at-most-one : (b : Bool) → one_if b ≤ 1
at-most-one true = omega arith
at-most-one false = omega arith

-- ---- an event

-- one that leaves as many connections
as-many : (pairs : List Numbered) (number : ℕ) (was after : Pair) → find_pair number pairs ≡ Some was → Same after was → links pairs ≤ most_links
    → links (put_pair number after pairs) ≤ most_links
as-many pairs number was after found same few =
    let equal = ap one_if same in
    omega (arith, links-put number was after pairs found, equal, few)

-- one that leaves the pair without a connection
no-more : (pairs : List Numbered) (number : ℕ) (was after : Pair) → find_pair number pairs ≡ Some was → after.is_linked ≡ false → links pairs ≤ most_links
    → links (put_pair number after pairs) ≤ most_links
no-more pairs number was after found apart few =
    let none = ap one_if apart in
    omega (arith, links-put number was after pairs found, none, few)

-- a connection is made
one-more : (state : State) (number : ℕ) (was : Pair) → find_pair number state.pairs ≡ Some was → Fits (Connected number) state
    → links (put_pair number (record was { is_linked = true }) state.pairs) ≤ most_links
one-more state number was found fits =
    let sends : sends_by (Some was) Upstream (has_place state) ≡ true = ap (λ (f : Option Pair). sends_by f Upstream (has_place state)) (sym found) ∙ fits.0 in
    let apart : was.is_linked ≡ false = ap (λ (f : Option Pair). reached_by f Upstream) (sym found) ∙ not-is _ fits.1 in
    let both = two (is_some_bytes was.upstream.owed) (was.is_linked || has_place state) sends in
    let place : has_place state ≡ true = ap (λ (b : Bool). b || has_place state) (sym apart) ∙ both.1 in
    let below = (Decides-ltb (links state.pairs) most_links).0 place in
    omega (arith, links-put number was (record was { is_linked = true }) state.pairs found, below)

-- what an event leaves of an open pair, in links
abbrev KeepsFew : State → ℕ → Happening → Type 0
KeepsFew state number event = (was : Pair) → find_pair number state.pairs ≡ Some was → (told event state.listed was).is_open ≡ true
    → links (put_pair number (told event state.listed was).pair state.pairs) ≤ most_links

-- ---- what holds before spare ones are given back: one more may be spare

record AreNearlyFew (state : State) : Type 0 where
  within : links state.pairs ≤ most_links
  few : length state.spares ≤ 17
  needed : (number : ℕ) → IfSome (find_pair number state.pairs) (IsNeeded number state.spares)
  idle : (number : ℕ) → has_number number state.spares ≡ true → IsIdleAt (find_pair number state.pairs)

-- a fact of a pair and its number, and whether it is spare
abbrev Needed : ℕ → Bool → Pair → Type 0
Needed number spare pair = pair.waits ≡ Nothing → pair.upstream.heard ≡ [] → pair.upstream.owed ≡ [] → pair.is_linked ≡ true → (pair.is_bound || spare) ≡ true

through-is : (waits : Waits) (heard owed : List ℕ) → waits ≡ Nothing → heard ≡ [] → owed ≡ [] → (is_quiet waits && (is_none heard && is_none owed)) ≡ true
through-is waits heard owed quiet unheard empty =
    ap (λ (w : Waits). is_quiet w && (is_none heard && is_none owed)) quiet
    ∙ ap (λ (h : List ℕ). is_none h && is_none owed) unheard ∙ ap is_none empty

or-spare : (linked bound through : Bool) → through ≡ true → linked ≡ true → (bound || (linked && (not bound && through))) ≡ true
or-spare linked true through is there = refl
or-spare true false true is there = refl
or-spare true false false is there = cc
or-spare false false through is there = cc

-- a pair's own event tells whether it is spare
own-needed : (number : ℕ) (pair : Pair) → Needed number (is_spare pair) pair
own-needed number pair quiet unheard empty linked =
    or-spare pair.is_linked pair.is_bound (is_through pair) (through-is pair.waits pair.upstream.heard pair.upstream.owed quiet unheard empty) linked

none-is : (bytes : List ℕ) → is_none bytes ≡ true → bytes ≡ []
none-is [] is = refl
none-is (byte ∷ bytes) is = cc

quiet-is : (waits : Waits) → is_quiet waits ≡ true → waits ≡ Nothing
quiet-is Nothing is = refl
quiet-is OnList is = cc
quiet-is OnBind is = cc
quiet-is OnReply is = cc

own-idle : (pair : Pair) → is_spare pair ≡ true → IsIdle pair
own-idle pair is =
    let here = two pair.is_linked (not pair.is_bound && is_through pair) is in
    let rest = two (not pair.is_bound) (is_through pair) here.1 in
    let through = two (is_quiet pair.waits) (is_none pair.upstream.heard && is_none pair.upstream.owed) rest.1 in
    let bytes = two (is_none pair.upstream.heard) (is_none pair.upstream.owed) through.1 in
    record {
      linked = here.0;
      unbound = not-is pair.is_bound rest.0;
      quiet = quiet-is pair.waits through.0;
      unheard = none-is pair.upstream.heard bytes.0;
      empty = none-is pair.upstream.owed bytes.1;
    }

-- a pair is found, and what is known of it
needed-found : (number : ℕ) (pair : Pair) (pairs : List Numbered) (spares : List ℕ) (spare : Bool) → find_pair number pairs ≡ Some pair → has_number number spares ≡ spare → Needed number spare pair
    → IfSome (find_pair number pairs) (IsNeeded number spares)
needed-found number pair pairs spares spare found has needed =
    subst (λ (f : Option Pair). IfSome f (IsNeeded number spares)) (sym found)
    (subst (λ (b : Bool). Needed number b pair) (sym has) needed)

-- another pair is found as before, and is as spare
needed-kept : (number : ℕ) (pairs after : List Numbered) (spares left : List ℕ) → find_pair number after ≡ find_pair number pairs → has_number number left ≡ has_number number spares
    → IfSome (find_pair number pairs) (IsNeeded number spares) → IfSome (find_pair number after) (IsNeeded number left)
needed-kept number pairs after spares left found has needed =
    subst (λ (f : Option Pair). IfSome f (IsNeeded number left)) (sym found)
    (subst (λ (b : Bool). IfSome (find_pair number pairs) (Needed number b)) (sym has) needed)

idle-kept : (number : ℕ) (pairs after : List Numbered) (spares left : List ℕ) → find_pair number after ≡ find_pair number pairs → has_number number left ≡ has_number number spares
    → (has_number number spares ≡ true → IsIdleAt (find_pair number pairs)) → has_number number left ≡ true → IsIdleAt (find_pair number after)
idle-kept number pairs after spares left found has idle is = subst IsIdleAt (sym found) (idle (sym has ∙ is))

-- ---- the pair of this number was left so, or is closed

module _ (number : ℕ) (was after : Pair) (state : State) (few : AreFew state) (found : find_pair number state.pairs ≡ Some was) where
  abbrev left : List ℕ
  left = spares_if (is_spare after) number state.spares

  put-needed : (other : ℕ) (same : Bool) → (other == number) ≡ same → IfSome (find_pair other (put_pair number after state.pairs)) (IsNeeded other left)
  put-needed other true is =
      let here : other ≡ number = eqb-true other number is in
      subst (λ (n : ℕ). IfSome (find_pair n (put_pair number after state.pairs)) (IsNeeded n left)) (sym here)
      (needed-found number after (put_pair number after state.pairs) left (is_spare after) (found-put number after was state.pairs found)
      (spares-own (is_spare after) number state.spares) (own-needed number after))
  put-needed other false is =
      needed-kept other state.pairs (put_pair number after state.pairs) state.spares left (kept-put other number after state.pairs is)
      (spares-other (is_spare after) other number state.spares is) (few.needed other)

  put-idle : (other : ℕ) (same : Bool) → (other == number) ≡ same → has_number other left ≡ true → IsIdleAt (find_pair other (put_pair number after state.pairs))
  put-idle other true is has =
      let here : other ≡ number = eqb-true other number is in
      let spare : is_spare after ≡ true = sym (spares-own (is_spare after) number state.spares) ∙ ap (λ (n : ℕ). has_number n left) (sym here) ∙ has in
      subst (λ (n : ℕ). IsIdleAt (find_pair n (put_pair number after state.pairs))) (sym here)
      (subst IsIdleAt (sym (found-put number after was state.pairs found)) (own-idle after spare))
  put-idle other false is has =
      idle-kept other state.pairs (put_pair number after state.pairs) state.spares left (kept-put other number after state.pairs is)
      (spares-other (is_spare after) other number state.spares is) (few.idle other) has

  gone-needed : (other : ℕ) (same : Bool) → (other == number) ≡ same → IfSome (find_pair other (remove_pair number state.pairs)) (IsNeeded other (without number state.spares))
  gone-needed other true is =
      let here : other ≡ number = eqb-true other number is in
      subst (λ (n : ℕ). IfSome (find_pair n (remove_pair number state.pairs)) (IsNeeded n (without number state.spares))) (sym here)
      (subst (λ (f : Option Pair). IfSome f (IsNeeded number (without number state.spares))) (sym (gone-remove number state.pairs)) tt)
  gone-needed other false is =
      needed-kept other state.pairs (remove_pair number state.pairs) state.spares (without number state.spares) (kept-remove other number state.pairs is)
      (kept-without other number state.spares is) (few.needed other)

  gone-idle : (other : ℕ) (same : Bool) → (other == number) ≡ same → has_number other (without number state.spares) ≡ true → IsIdleAt (find_pair other (remove_pair number state.pairs))
  gone-idle other true is has =
      let here : other ≡ number = eqb-true other number is in
      let none = gone-without number state.spares in
      let there = ap (λ (n : ℕ). has_number n (without number state.spares)) here in
      cc
  gone-idle other false is has =
      idle-kept other state.pairs (remove_pair number state.pairs) state.spares (without number state.spares) (kept-remove other number state.pairs is)
      (kept-without other number state.spares is) (few.idle other) has

  settled-few : (open_yet : Bool) → (open_yet ≡ true → links (put_pair number after state.pairs) ≤ most_links) → AreNearlyFew (settled open_yet number was after state)
  settled-few true within = record {
    within = within refl;
    few = let more = length-spares (is_spare after) number state.spares in let some = few.few in omega (arith, more, some);
    needed = λ other. put-needed other (other == number) refl;
    idle = λ other. put-idle other (other == number) refl;
  }
  settled-few false within = record {
    within = omega (arith, links-remove number state.pairs, few.within);
    few = let less = length-without number state.spares in let some = few.few in omega (arith, less, some);
    needed = λ other. gone-needed other (other == number) refl;
    idle = λ other. gone-idle other (other == number) refl;
  }

nearly : (state : State) → AreFew state → AreNearlyFew (record state { closes = []; parts = [] })
nearly state few = record { within = few.within; few = (let some = few.few in omega (arith, some)); needed = few.needed; idle = few.idle }

-- an event of the pair of this number
at-few : (state : State) (number : ℕ) (event : Happening) → AreFew state → KeepsFew state number event
    → (found : Option Pair) → find_pair number state.pairs ≡ found → AreNearlyFew (at_pair found number event state)
at-few state number event few keeps None found = nearly state few
at-few state number event few keeps (Some was) found =
    settled-few number was (told event state.listed was).pair state few found (told event state.listed was).is_open (keeps was found)

-- ---- a pair joins

joined-needed : (number : ℕ) (state : State) (new : Numbered) (found : Option Pair) → find_pair number state.pairs ≡ found → new.pair.is_linked ≡ false → IfSome found (IsNeeded number state.spares)
    → (other : Option Pair) → find_pair number (state.pairs ++ new ∷ []) ≡ other → IfSome other (IsNeeded number state.spares)
joined-needed number state new found is apart needed None there = tt
joined-needed number state new (Some pair) is apart needed (Some other) there =
    let same : pair ≡ other = same_Some pair other (sym (found-more number pair state.pairs new is) ∙ there) in
    subst (IsNeeded number state.spares) same needed
joined-needed number state new None is apart needed (Some other) there = by_number (number == new.number) refl
  where
    by_number : (same : Bool) → (number == new.number) ≡ same → IsNeeded number state.spares other
    by_number true here =
        let new_found = found-new number state.pairs new (eqb-true number new.number here) is in
        let same : new.pair ≡ other = same_Some new.pair other (sym new_found ∙ there) in
        λ quiet unheard empty linked. let bad : true ≡ false = sym linked ∙ ap (λ (p : Pair). p.is_linked) (sym same) ∙ apart in cc
    by_number false here = absurd (none-some other (sym (found-append number state.pairs new here ∙ is) ∙ there))

joined-idle : (number : ℕ) (state : State) (new : Numbered) (found : Option Pair) → find_pair number state.pairs ≡ found → IsIdleAt found → IsIdleAt (find_pair number (state.pairs ++ new ∷ []))
joined-idle number state new None is idle = absurd idle
joined-idle number state new (Some pair) is idle = subst IsIdleAt (sym (found-more number pair state.pairs new is)) idle

joined-few : (room : Bool) (state : State) → AreFew state → AreNearlyFew (joined room state)
joined-few true state few =
    let new : Numbered = record { number = suc state.last_pair; pair = new_pair } in
    record {
      within = omega (arith, links-append state.pairs new, few.within);
      few = let some = few.few in omega (arith, some);
      needed = λ number. joined-needed number state new (find_pair number state.pairs) refl refl (few.needed number) (find_pair number (state.pairs ++ new ∷ [])) refl;
      idle = λ number has. joined-idle number state new (find_pair number state.pairs) refl (few.idle number has);
    }
joined-few false state few = record { within = few.within; few = (let some = few.few in omega (arith, some)); needed = few.needed; idle = few.idle }

happened-few : (state : State) (event : Happening) → Fits event state → AreFew state → AreNearlyFew (happened state event)
happened-few state Joined fits few = joined-few (nat_lt (length state.pairs) most_pairs) state few
happened-few state (Connected number) fits few =
    at-few state number (Connected number) few (λ was found open_yet. one-more state number was found fits) (find_pair number state.pairs) refl
happened-few state (Heard number side piece) fits few =
    at-few state number (Heard number side piece) few (λ was found open_yet.
    as-many state.pairs number was (looked state.listed (change_half side (heard_more piece) was)).pair found
    (looked-same state.listed (change_half side (heard_more piece) was) ∙ heard-same side piece was) few.within)
    (find_pair number state.pairs) refl
happened-few state (Took number side count) fits few =
    at-few state number (Took number side count) few (λ was found open_yet.
    as-many state.pairs number was (looked state.listed (change_half side (sent_some count) was)).pair found
    (looked-same state.listed (change_half side (sent_some count) was) ∙ sent-same side count was) few.within)
    (find_pair number state.pairs) refl
happened-few state (Lost number) fits few =
    at-few state number (Lost number) few (λ was found open_yet.
    no-more state.pairs number was (lost was).pair found (lost-same was.is_used was open_yet) few.within)
    (find_pair number state.pairs) refl
happened-few state (Ended number) fits few =
    at-few state number (Ended number) few (λ was found open_yet. cc) (find_pair number state.pairs) refl

-- ---- too many are spare

crowded-not : (many place : Bool) → (many || not place) ≡ false → (many ≡ false) × (place ≡ true)
crowded-not true place is = cc
crowded-not false true is = (refl, refl)
crowded-not false false is = cc

idle-linked : (found : Option Pair) → IsIdleAt found → (pair : Pair) × (found ≡ Some pair) × (pair.is_linked ≡ true)
idle-linked None idle = absurd idle
idle-linked (Some pair) idle = (pair, refl, idle.linked)

-- the first is given back
module _ (state : State) (oldest : ℕ) (later : List ℕ) (spares : state.spares ≡ oldest ∷ later) (few : AreNearlyFew state) where
  abbrev gone : List Numbered
  gone = unlinked_in oldest state.pairs

  abbrev rest : List ℕ
  rest = without oldest state.spares

  oldest-has : has_number oldest state.spares ≡ true
  oldest-has = ap (has_number oldest) spares ∙ ap (λ (b : Bool). b || has_number oldest later) (same-number oldest)

  one-less : suc (links gone) ≤ links state.pairs
  one-less =
      let is = idle-linked (find_pair oldest state.pairs) (few.idle oldest oldest-has) in
      let pair : Pair = is.0 in
      let put : gone ≡ put_pair oldest (unlinked pair) state.pairs = ap (λ (f : Option Pair). unlinked_by f oldest state.pairs) is.1 in
      let count = links-put oldest pair (unlinked pair) state.pairs is.1 in
      let was = ap one_if is.2 in
      let same = ap links put in
      omega (arith, count, was, same)

  rest-few : length rest ≤ most_spares
  rest-few =
      let less = length-tail oldest later in
      let same = ap (λ (l : List ℕ). length (without oldest l)) spares in
      let whole = ap length spares in
      let some = few.few in
      omega (arith, less, same, whole, some)

  rest-needed : (other : ℕ) (same : Bool) → (other == oldest) ≡ same → IfSome (find_pair other gone) (IsNeeded other rest)
  rest-needed other true is =
      let here : other ≡ oldest = eqb-true other oldest is in
      let found = idle-linked (find_pair oldest state.pairs) (few.idle oldest oldest-has) in
      subst (λ (n : ℕ). IfSome (find_pair n gone) (IsNeeded n rest)) (sym here)
      (subst (λ (f : Option Pair). IfSome f (IsNeeded oldest rest)) (sym (found-unlinked oldest found.0 state.pairs found.1))
      (λ quiet unheard empty linked. cc))
  rest-needed other false is =
      needed-kept other state.pairs gone state.spares rest (kept-unlinked other oldest state.pairs is) (kept-without other oldest state.spares is) (few.needed other)

  rest-idle : (other : ℕ) (same : Bool) → (other == oldest) ≡ same → has_number other rest ≡ true → IsIdleAt (find_pair other gone)
  rest-idle other true is has =
      let here : other ≡ oldest = eqb-true other oldest is in
      let none = gone-without oldest state.spares in
      let there = ap (λ (n : ℕ). has_number n rest) here in
      cc
  rest-idle other false is has =
      idle-kept other state.pairs gone state.spares rest (kept-unlinked other oldest state.pairs is) (kept-without other oldest state.spares is) (few.idle other) has

  full-not : {A : Type 0} → nat_lt (links gone) most_links ≡ false → A
  full-not full =
      let place = (Decides-ltb (links gone) most_links).1 (let less = one-less in let within = few.within in omega (arith, less, within)) in
      let bad : true ≡ false = sym place ∙ full in
      cc

  given-back-few : AreFew (trimmed_by true (oldest ∷ later) state)
  given-back-few = record {
    within = let less = one-less in let within = few.within in omega (arith, less, within);
    few = rest-few;
    free = λ full. full-not full;
    needed = λ other. rest-needed other (other == oldest) refl;
    idle = λ other. rest-idle other (other == oldest) refl;
  }

trimmed-few : (test : Bool) (spares : List ℕ) (state : State) → is_crowded state ≡ test → state.spares ≡ spares → AreNearlyFew state → AreFew (trimmed_by test spares state)
trimmed-few true [] state crowded is few = record {
  within = few.within;
  few = let none = ap length is in omega (arith, none);
  free = λ full. is;
  needed = few.needed;
  idle = few.idle;
}
trimmed-few true (oldest ∷ later) state crowded is few = given-back-few state oldest later is few
trimmed-few false spares state crowded is few =
    let parts = crowded-not (nat_lt most_spares (length state.spares)) (has_place state) crowded in
    record {
      within = few.within;
      few = not-more (length state.spares) parts.0;
      free = λ full. (let bad : true ≡ false = sym parts.1 ∙ full in cc);
      needed = few.needed;
      idle = few.idle;
    }
  where
    not-more : (count : ℕ) → nat_lt most_spares count ≡ false → count ≤ most_spares
    not-more count is = grind (arith, nat_tests)

step-few : (state : State) (event : Happening) → Fits event state → AreFew state → AreFew (step state event)
step-few state event fits few =
    let after = happened state event in
    trimmed-few (is_crowded after) after.spares after refl refl (happened-few state event fits few)

run-few : (state : State) (events : List Happening) → AllFit state events → AreFew state → AreFew (run state events)
run-few state [] fit few = few
run-few state (event ∷ later) fit few = run-few (step state event) later fit.1 (step-few state event fit.0 few)

pub each_holds_few : EachHoldsFew
each_holds_few listed events fit = run-few (first_state listed) events fit (record {
  within = omega arith;
  few = omega arith;
  free = λ full. refl;
  needed = λ number. tt;
  idle = λ number has. cc;
})
