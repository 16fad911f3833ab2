-- What is ready keeps its place before what was served later.
use Rattle.std.proofs.Common.{◌≡◌, ◌∙◌, ◌++◌, ◌∷◌, ◌&&◌, ◌||◌, ◌==◌, ℕ, Bool, true, false, List, [], Option, Some, None, Result, Ok, Err, not, refl, sym, ap, subst, if◌then◌else◌, cond}
use Rattle.std.specs.List.{filter, list_any}
use Rattle.std.specs.Prelude.{is_some, option_and_then}
use Rattle.world_ports.specs.declared.answers.Accepted.{Accepted}
use Rattle.world_ports.specs.declared.answers.Accepted.TheVariants as accepted
use Rattle.world_ports.specs.declared.answers.Got.{Got}
use Rattle.world_ports.specs.declared.answers.Got.TheVariants as got
use Rattle.world_ports.specs.declared.answers.Polled.{Polled}
use Rattle.world_ports.specs.declared.answers.Polled.TheVariants as polled
use Rattle.world_ports.specs.declared.answers.WorldFault.{WorldFault}
use Rattle.world_ports.specs.declared.answers.WorldFault.TheVariants.{Failed, Memory}
use Rattle.world_ports.specs.declared.answers.Wrote.{Wrote}
use Rattle.world_ports.specs.declared.answers.Wrote.TheVariants as wrote
use Rattle.pair_ports.specs.declared.entry.Linked.{Linked}
use Rattle.pair_ports.specs.declared.entry.Linked.TheVariants as linked
use Rattle.pair_ports.specs.declared.entry.PairEntry.{PairEntry}
use Rattle.pair_ports.specs.declared.entry.PairEntry.TheVariants as entry
use Rattle.pair_ports.specs.declared.entry.PairReady.{PairReady}
use Rattle.pair_ports.specs.declared.side.Side.{Side}
use Rattle.pair_ports.specs.declared.side.Side.TheVariants.{Client, Upstream}
use Rattle.filter_model.specs.declared.thing.Thing.{Thing}
use Rattle.filter_model.specs.declared.thing.Thing.TheVariants.{Accept, Read, Write}
use Rattle.filter_model.specs.Filters.{State, find_pair}
use Rattle.filter_model.specs.Fairness.{EachIsFair, if_any, is_service, waits_on}
use Rattle.filter_model.specs.Lines.{dropped, first_servable, has_thing, is_next, is_of, is_servable, is_thing, queued, queued_all, queued_by, queued_if, queued_pair, same_side, same_thing, sent_back}
use Rattle.std.proofs.lemmas.Bool.{eqb-true}
use Rattle.std.proofs.Common.{◌⊎◌, inl, inr}
use Rattle.std.proofs.lemmas.List.Folds.{list_any-append}
use Rattle.filter_model.specs.Answered.{Reading, Due, Binding, Closing, Free, Nothing, Parting, after_accept, after_bind, after_close, after_connect, after_disconnect, after_poll, after_read, after_write, only_if}
use Rattle.filter_model.proofs.JournalLemmas.{only_some, read_apart, then_some}
use Rattle.filter_model.specs.LegalPairs.{allowed, allowed_at, first_reading, read_on}

-- ---- things

same_side_is : (side other : Side) → same_side side other ≡ true → side ≡ other
same_side_is Client Client is = refl
same_side_is Client Upstream is = cc
same_side_is Upstream Client is = cc
same_side_is Upstream Upstream is = refl

pub two : (here there : Bool) → (here && there) ≡ true → (here ≡ true) × (there ≡ true)
two true there is = (refl, is)
two false there is = cc

pub same_is : (thing other : Thing) → same_thing thing other ≡ true → thing ≡ other
same_is Accept Accept is = refl
same_is Accept (Read other there) is = cc
same_is Accept (Write other there) is = cc
same_is (Read pair side) Accept is = cc
same_is (Read pair side) (Read other there) is =
    let both = two (pair == other) (same_side side there) is in
    ap (λ (n : ℕ). Read n side) (eqb-true pair other both.0) ∙ ap (Read other) (same_side_is side there both.1)
same_is (Read pair side) (Write other there) is = cc
same_is (Write pair side) Accept is = cc
same_is (Write pair side) (Read other there) is = cc
same_is (Write pair side) (Write other there) is =
    let both = two (pair == other) (same_side side there) is in
    ap (λ (n : ℕ). Write n side) (eqb-true pair other both.0) ∙ ap (Write other) (same_side_is side there both.1)

pub true_false : {A : Type 0} → true ≡ false → A
true_false is = cc

-- ---- which of two comes first

-- by whether an element is the one, or the other
abbrev ahead_by : Bool → Bool → Bool → Bool
ahead_by true there rest = true
ahead_by false true rest = false
ahead_by false false rest = rest

-- no such thing stands before the first such other
abbrev ahead : Thing → Thing → List Thing → Bool
ahead other thing [] = true
ahead other thing (x ∷ xs) = ahead_by (same_thing other x) (same_thing thing x) (ahead other thing xs)

next_by : (own : Bool) (is here : Bool) (state : State) (other thing x : Thing) (xs : List Thing) → same_thing other x ≡ is → same_thing thing x ≡ here → is_servable state x ≡ own
    → is_servable state other ≡ true → same_thing thing other ≡ false → ahead_by is here (ahead other thing xs) ≡ true
    → (ahead other thing xs ≡ true → is_thing thing (first_servable state xs) ≡ false)
    → is_thing thing (if own then Some x else first_servable state xs) ≡ false
next_by true true here state other thing x xs same there servable able apart first rest =
    ap (same_thing thing) (sym (same_is other x same)) ∙ apart
next_by true false true state other thing x xs same there servable able apart first rest = true_false (sym first)
next_by true false false state other thing x xs same there servable able apart first rest = there
next_by false true here state other thing x xs same there servable able apart first rest =
    true_false (sym able ∙ ap (is_servable state) (same_is other x same) ∙ servable)
next_by false false true state other thing x xs same there servable able apart first rest = true_false (sym first)
next_by false false false state other thing x xs same there servable able apart first rest = rest first

-- what stands ahead and can be served is served first
not_next : (state : State) (other thing : Thing) (line : List Thing) → is_servable state other ≡ true → same_thing thing other ≡ false
    → ahead other thing line ≡ true → is_next state line thing ≡ false
not_next state other thing [] able apart first = refl
not_next state other thing (x ∷ xs) able apart first =
    next_by (is_servable state x) (same_thing other x) (same_thing thing x) state other thing x xs refl refl refl able apart first
    (not_next state other thing xs able apart)

-- ---- lines

kept_by : (own is here : Bool) (p : Thing → Bool) (other thing x : Thing) (xs : List Thing) → p x ≡ own → same_thing other x ≡ is → same_thing thing x ≡ here
    → p other ≡ true → ahead_by is here (ahead other thing xs) ≡ true → (ahead other thing xs ≡ true → ahead other thing (filter p xs) ≡ true)
    → ahead other thing (cond own (x ∷ filter p xs) (filter p xs)) ≡ true
kept_by true true here p other thing x xs own is there keeps first rest = ap (λ (b : Bool). ahead_by b (same_thing thing x) (ahead other thing (filter p xs))) is
kept_by true false true p other thing x xs own is there keeps first rest = true_false (sym first)
kept_by true false false p other thing x xs own is there keeps first rest =
    ap (λ (b : Bool). ahead_by b (same_thing thing x) (ahead other thing (filter p xs))) is
    ∙ ap (λ (b : Bool). ahead_by false b (ahead other thing (filter p xs))) there ∙ rest first
kept_by false true here p other thing x xs own is there keeps first rest =
    true_false (sym keeps ∙ ap p (same_is other x is) ∙ own)
kept_by false false true p other thing x xs own is there keeps first rest = true_false (sym first)
kept_by false false false p other thing x xs own is there keeps first rest = rest first

-- without some others
kept : (p : Thing → Bool) (other thing : Thing) (line : List Thing) → p other ≡ true → ahead other thing line ≡ true → ahead other thing (filter p line) ≡ true
kept p other thing [] keeps first = refl
kept p other thing (x ∷ xs) keeps first =
    kept_by (p x) (same_thing other x) (same_thing thing x) p other thing x xs refl refl refl keeps first (kept p other thing xs keeps)

behind_by : (is here : Bool) (other thing : Thing) (xs more : List Thing) → (is || has_thing other xs) ≡ true → ahead_by is here (ahead other thing xs) ≡ true
    → (has_thing other xs ≡ true → ahead other thing xs ≡ true → ahead other thing (xs ++ more) ≡ true)
    → ahead_by is here (ahead other thing (xs ++ more)) ≡ true
behind_by true here other thing xs more has first rest = refl
behind_by false true other thing xs more has first rest = first
behind_by false false other thing xs more has first rest = rest has first

-- with more behind them
behind : (other thing : Thing) (line more : List Thing) → has_thing other line ≡ true → ahead other thing line ≡ true → ahead other thing (line ++ more) ≡ true
behind other thing [] more has first = cc
behind other thing (x ∷ xs) more has first =
    behind_by (same_thing other x) (same_thing thing x) other thing xs more has first (behind other thing xs more)

gone_by : (is here : Bool) (other thing x : Thing) (xs : List Thing) → same_thing other x ≡ is → same_thing thing x ≡ here → ahead other thing xs ≡ true
    → ahead other thing (cond (not here) (x ∷ xs) xs) ≡ true
gone_by is true other thing x xs same there rest = rest
gone_by true false other thing x xs same there rest = ap (λ (b : Bool). ahead_by b (same_thing thing x) (ahead other thing xs)) same
gone_by false false other thing x xs same there rest =
    ap (λ (b : Bool). ahead_by b (same_thing thing x) (ahead other thing xs)) same
    ∙ ap (λ (b : Bool). ahead_by false b (ahead other thing xs)) there ∙ rest

-- without the thing itself
gone : (other thing : Thing) (line : List Thing) → ahead other thing (dropped thing line) ≡ true
gone other thing [] = refl
gone other thing (x ∷ xs) =
    gone_by (same_thing other x) (same_thing thing x) other thing x (dropped thing xs) refl refl (gone other thing xs)

left_by : (own is : Bool) (p : Thing → Bool) (other x : Thing) (xs : List Thing) → p x ≡ own → same_thing other x ≡ is
    → has_thing other (cond own (x ∷ filter p xs) (filter p xs)) ≡ true → (has_thing other (filter p xs) ≡ true → p other ≡ true) → p other ≡ true
left_by true true p other x xs own is has rest = ap p (same_is other x is) ∙ own
left_by true false p other x xs own is has rest = rest (sym (ap (λ (b : Bool). b || has_thing other (filter p xs)) is) ∙ has)
left_by false is p other x xs own same has rest = rest has

-- what is left passes the test
left : (p : Thing → Bool) (other : Thing) (line : List Thing) → has_thing other (filter p line) ≡ true → p other ≡ true
left p other [] has = cc
left p other (x ∷ xs) has = left_by (p x) (same_thing other x) p other x xs refl refl has (left p other xs)

left-ahead : (p : Thing → Bool) (other thing : Thing) (line : List Thing) → ahead other thing line ≡ true → has_thing other (filter p line) ≡ true
    → ahead other thing (filter p line) ≡ true
left-ahead p other thing line first has = kept p other thing line (left p other line has) first

either : (here there : Bool) → (here || (there || false)) ≡ true → there ≡ false → here ≡ true
either true there is none = refl
either false true is none = true_false none
either false false is none = is

-- it stands before what was sent back
in_front : (other served : Thing) (line : List Thing) → same_thing other served ≡ false → has_thing other (sent_back served line) ≡ true
    → has_thing other (dropped served line) ≡ true
in_front other served line apart has =
    either (has_thing other (dropped served line)) (same_thing other served)
    (sym (list_any-append (same_thing other) (dropped served line) (served ∷ [])) ∙ has) apart

sent-ahead : (other thing served : Thing) (line : List Thing) → same_thing other served ≡ false → ahead other thing line ≡ true
    → has_thing other (sent_back served line) ≡ true → ahead other thing (sent_back served line) ≡ true
sent-ahead other thing served line apart first has =
    let here = in_front other served line apart has in
    behind other thing (dropped served line) (served ∷ []) here
    (left-ahead (λ (x : Thing). not (same_thing served x)) other thing line first here)

-- ---- what a poll or an accept makes ready

-- it is there, and ahead
abbrev Stands : Thing → Thing → List Thing → Type 0
Stands other thing line = (has_thing other line ≡ true) × (ahead other thing line ≡ true)

more_by : (here : Bool) (other thing new : Thing) (line : List Thing) → Stands other thing line → Stands other thing (if here then line else line ++ new ∷ [])
more_by true other thing new line is = is
more_by false other thing new line is = (
  list_any-append (same_thing other) line (new ∷ []) ∙ ap (λ (b : Bool). b || list_any (same_thing other) (new ∷ [])) is.0,
  behind other thing line (new ∷ []) is.0 is.1,
)

more : (other thing new : Thing) (line : List Thing) → Stands other thing line → Stands other thing (queued new line)
more other thing new line is = more_by (has_thing new line) other thing new line is

more_if : (test : Bool) (other thing new : Thing) (line : List Thing) → Stands other thing line → Stands other thing (queued_if test new line)
more_if true other thing new line is = more other thing new line is
more_if false other thing new line is = is

more_pair : (other thing : Thing) (pair : ℕ) (line : List Thing) → Stands other thing line → Stands other thing (queued_pair pair line)
more_pair other thing pair line is =
    more other thing (Write pair Upstream) (queued (Write pair Client) (queued (Read pair Client) line))
    (more other thing (Write pair Client) (queued (Read pair Client) line)
    (more other thing (Read pair Client) line is))

more_of : (other thing : Thing) (state : State) (pair : Option ℕ) (side : Side) (readable writable : Bool) (line : List Thing) → Stands other thing line
    → Stands other thing (queued_by state pair side readable writable line)
more_of other thing state None side readable writable line is = more_if readable other thing Accept line is
more_of other thing state (Some pair) side readable writable line is =
    let is_open = is_some (find_pair pair state.pairs) in
    more_if (writable && is_open) other thing (Write pair side) (queued_if (readable && is_open) (Read pair side) line)
    (more_if (readable && is_open) other thing (Read pair side) line is)

more_all : (other thing : Thing) (state : State) (items : List PairReady) (line : List Thing) → Stands other thing line → Stands other thing (queued_all state items line)
more_all other thing state [] line is = is
more_all other thing state (item ∷ items) line is =
    more_all other thing state items (queued_by state item.pair item.side item.readable item.writable line) (more_of other thing state item.pair item.side item.readable item.writable line is)

-- ---- a call

-- a fact of the line of a reading
abbrev OfLine : (List Thing → Type 0) → Reading → Type 0
OfLine fact reading = fact reading.line

-- while it waits, it stays ahead
abbrev IsAhead : Thing → Thing → List Thing → Type 0
IsAhead other thing line = has_thing other line ≡ true → ahead other thing line ≡ true

-- other calls keep it ahead
module _ (other thing : Thing) (state : State) (line : List Thing) (is : Stands other thing line) where
  bind-ahead : (answer : Result Unit WorldFault) → IsAhead other thing (after_bind answer state line).line
  bind-ahead (Ok done) has = is.1
  bind-ahead (Err fault) has = is.1

  poll-ahead : (items : List PairReady) (answer : Result Polled WorldFault) → IsAhead other thing (after_poll items state line answer).line
  poll-ahead items (Ok polled.Some) has = (more_all other thing state items line is).1
  poll-ahead items (Ok polled.Over) has = is.1
  poll-ahead items (Err fault) has = is.1

  dropped-ahead : (served : Thing) → IsAhead other thing (dropped served line)
  dropped-ahead served has = left-ahead (λ (x : Thing). not (same_thing served x)) other thing line is.1 has

  accept-ahead : (answer : Result Accepted WorldFault) → same_thing other Accept ≡ false → IsAhead other thing (after_accept state line answer).line
  accept-ahead (Ok (accepted.Port number)) apart has =
      sent-ahead other thing Accept (queued_pair number line) apart (more_pair other thing number line is).1 has
  accept-ahead (Ok accepted.NotNow) apart has = dropped-ahead Accept has
  accept-ahead (Err Failed) apart has = dropped-ahead Accept has
  accept-ahead (Err Memory) apart has = is.1

  connect-ahead : (pair : ℕ) (answer : Result Linked WorldFault) → same_thing other (Write pair Upstream) ≡ false
      → IsAhead other thing (after_connect pair state line answer).line
  connect-ahead pair (Ok linked.Made) apart has = sent-ahead other thing (Write pair Upstream) line apart is.1 has
  connect-ahead pair (Ok linked.NotNow) apart has = dropped-ahead (Write pair Upstream) has
  connect-ahead pair (Err Failed) apart has = dropped-ahead (Write pair Upstream) has
  connect-ahead pair (Err Memory) apart has = is.1

  read-ahead : (pair : ℕ) (side : Side) (bytes : List ℕ) (answer : Result Got WorldFault) → same_thing other (Read pair side) ≡ false
      → IsAhead other thing (after_read pair side bytes state line answer).line
  read-ahead pair side bytes (Ok (got.Bytes n)) apart has = sent-ahead other thing (Read pair side) line apart is.1 has
  read-ahead pair side bytes (Ok got.End) apart has = dropped-ahead (Read pair side) has
  read-ahead pair side bytes (Ok got.NotNow) apart has = dropped-ahead (Read pair side) has
  read-ahead pair side bytes (Err Failed) apart has = dropped-ahead (Read pair side) has
  read-ahead pair side bytes (Err Memory) apart has = is.1

  write-ahead : (pair : ℕ) (side : Side) (answer : Result Wrote WorldFault) → same_thing other (Write pair side) ≡ false
      → IsAhead other thing (after_write pair side state line answer).line
  write-ahead pair side (Ok (wrote.Took n)) apart has = sent-ahead other thing (Write pair side) line apart is.1 has
  write-ahead pair side (Ok wrote.NotNow) apart has = dropped-ahead (Write pair side) has
  write-ahead pair side (Err Failed) apart has = dropped-ahead (Write pair side) has
  write-ahead pair side (Err Memory) apart has = is.1

  close-ahead : {E : Type 0} (pair : ℕ) (later parts : List ℕ) (answer : Result Unit E) → IsAhead other thing (after_close pair later parts state line answer).line
  close-ahead pair later parts (Ok done) has = left-ahead (λ (x : Thing). not (is_of pair x)) other thing line is.1 has
  close-ahead pair later parts (Err want) has = is.1

  part-ahead : {E : Type 0} (pair : ℕ) (later : List ℕ) (answer : Result Unit E) → IsAhead other thing (after_disconnect pair later state line answer).line
  part-ahead pair later (Ok done) has = (more other thing (Write pair Upstream) line is).1
  part-ahead pair later (Err want) has = is.1

  led : (test : Bool) (reading to : Reading) → only_if test reading ≡ Some to → IsAhead other thing reading.line → IsAhead other thing to.line
  led test reading to legal holds = subst (OfLine (IsAhead other thing)) (only_some test reading to legal).1 holds

  free-ahead : (next : PairEntry) (to : Reading) → allowed_at Free state line next ≡ Some to → is_service other next ≡ false → IsAhead other thing to.line
  free-ahead (entry.Bind path upstream answer) to legal unserved = cc
  free-ahead (entry.Poll items answer) to legal unserved = led _ (after_poll items state line answer) to legal (poll-ahead items answer)
  free-ahead (entry.Accept answer) to legal unserved = led _ (after_accept state line answer) to legal (accept-ahead answer unserved)
  free-ahead (entry.Connect pair answer) to legal unserved = led _ (after_connect pair state line answer) to legal (connect-ahead pair answer unserved)
  free-ahead (entry.Read pair side room bytes answer) to legal unserved =
      led _ (after_read pair side bytes state line answer) to legal (read-ahead pair side bytes answer unserved)
  free-ahead (entry.Write pair side offered answer) to legal unserved =
      led _ (after_write pair side state line answer) to legal (write-ahead pair side answer unserved)
  free-ahead (entry.Disconnect pair answer) to legal unserved = cc
  free-ahead (entry.Close pair answer) to legal unserved = cc

  bind-only : (path upstream : List ℕ) (next : PairEntry) (to : Reading) → allowed_at (Binding path upstream) state line next ≡ Some to → IsAhead other thing to.line
  bind-only path upstream (entry.Bind one another answer) to legal = led _ (after_bind answer state line) to legal (bind-ahead answer)
  bind-only path upstream (entry.Poll items answer) to legal = cc
  bind-only path upstream (entry.Accept answer) to legal = cc
  bind-only path upstream (entry.Connect pair answer) to legal = cc
  bind-only path upstream (entry.Read pair side room bytes answer) to legal = cc
  bind-only path upstream (entry.Write pair side offered answer) to legal = cc
  bind-only path upstream (entry.Disconnect pair answer) to legal = cc
  bind-only path upstream (entry.Close pair answer) to legal = cc

  close-only : (number : ℕ) (later parts : List ℕ) (next : PairEntry) (to : Reading) → allowed_at (Closing number later parts) state line next ≡ Some to → IsAhead other thing to.line
  close-only number later parts (entry.Bind one another answer) to legal = cc
  close-only number later parts (entry.Poll items answer) to legal = cc
  close-only number later parts (entry.Accept answer) to legal = cc
  close-only number later parts (entry.Connect pair answer) to legal = cc
  close-only number later parts (entry.Read pair side room bytes answer) to legal = cc
  close-only number later parts (entry.Write pair side offered answer) to legal = cc
  close-only number later parts (entry.Disconnect pair answer) to legal = cc
  close-only number later parts (entry.Close pair answer) to legal = led _ (after_close number later parts state line answer) to legal (close-ahead number later parts answer)

  part-only : (number : ℕ) (later : List ℕ) (next : PairEntry) (to : Reading) → allowed_at (Parting number later) state line next ≡ Some to → IsAhead other thing to.line
  part-only number later (entry.Bind one another answer) to legal = cc
  part-only number later (entry.Poll items answer) to legal = cc
  part-only number later (entry.Accept answer) to legal = cc
  part-only number later (entry.Connect pair answer) to legal = cc
  part-only number later (entry.Read pair side room bytes answer) to legal = cc
  part-only number later (entry.Write pair side offered answer) to legal = cc
  part-only number later (entry.Disconnect pair answer) to legal = led _ (after_disconnect number later state line answer) to legal (part-ahead number later answer)
  part-only number later (entry.Close pair answer) to legal = cc

  stays-ahead : (due : Due) (next : PairEntry) (to : Reading) → allowed_at due state line next ≡ Some to → is_service other next ≡ false → IsAhead other thing to.line
  stays-ahead (Binding path upstream) next to legal unserved = bind-only path upstream next to legal
  stays-ahead Free next to legal unserved = free-ahead next to legal unserved
  stays-ahead (Closing pair later parts) next to legal unserved = close-only pair later parts next to legal
  stays-ahead (Parting pair later) next to legal unserved = part-only pair later next to legal
  stays-ahead Nothing next to legal unserved = cc

-- ---- a service

-- it was ahead of what was served, which stands last or isn't ready; or nothing may come any more
abbrev Overtakes : Thing → Thing → Reading → Type 0
Overtakes other thing reading = (reading.due ≡ Nothing) ⊎ IsAhead other thing reading.line

sent-last : (other thing : Thing) (line : List Thing) → same_thing other thing ≡ false → IsAhead other thing (sent_back thing line)
sent-last other thing line apart has =
    behind other thing (dropped thing line) (thing ∷ []) (in_front other thing line apart has) (gone other thing line)

-- what a call serves is the first thing that can be served
module _ (state : State) (line : List Thing) where
  -- what a service of this thing is and leaves
  abbrev Leaves : Thing → Reading → Type 0
  Leaves thing to = (is_next state line thing ≡ true) × ((other : Thing) → same_thing other thing ≡ false → Overtakes other thing to)

  after_accept-leaves : (answer : Result Accepted WorldFault) (other : Thing) → same_thing other Accept ≡ false → Overtakes other Accept (after_accept state line answer)
  after_accept-leaves (Ok (accepted.Port number)) other apart = inr (sent-last other Accept (queued_pair number line) apart)
  after_accept-leaves (Ok accepted.NotNow) other apart = inr (λ has. gone other Accept line)
  after_accept-leaves (Err Failed) other apart = inr (λ has. gone other Accept line)
  after_accept-leaves (Err Memory) other apart = inl refl

  after_connect-leaves : (pair : ℕ) (answer : Result Linked WorldFault) (other : Thing) → same_thing other (Write pair Upstream) ≡ false
      → Overtakes other (Write pair Upstream) (after_connect pair state line answer)
  after_connect-leaves pair (Ok linked.Made) other apart = inr (sent-last other (Write pair Upstream) line apart)
  after_connect-leaves pair (Ok linked.NotNow) other apart = inr (λ has. gone other (Write pair Upstream) line)
  after_connect-leaves pair (Err Failed) other apart = inr (λ has. gone other (Write pair Upstream) line)
  after_connect-leaves pair (Err Memory) other apart = inl refl

  after_read-leaves : (pair : ℕ) (side : Side) (bytes : List ℕ) (answer : Result Got WorldFault) (other : Thing) → same_thing other (Read pair side) ≡ false
      → Overtakes other (Read pair side) (after_read pair side bytes state line answer)
  after_read-leaves pair side bytes (Ok (got.Bytes n)) other apart = inr (sent-last other (Read pair side) line apart)
  after_read-leaves pair side bytes (Ok got.End) other apart = inr (λ has. gone other (Read pair side) line)
  after_read-leaves pair side bytes (Ok got.NotNow) other apart = inr (λ has. gone other (Read pair side) line)
  after_read-leaves pair side bytes (Err Failed) other apart = inr (λ has. gone other (Read pair side) line)
  after_read-leaves pair side bytes (Err Memory) other apart = inl refl

  after_write-leaves : (pair : ℕ) (side : Side) (answer : Result Wrote WorldFault) (other : Thing) → same_thing other (Write pair side) ≡ false
      → Overtakes other (Write pair side) (after_write pair side state line answer)
  after_write-leaves pair side (Ok (wrote.Took n)) other apart = inr (sent-last other (Write pair side) line apart)
  after_write-leaves pair side (Ok wrote.NotNow) other apart = inr (λ has. gone other (Write pair side) line)
  after_write-leaves pair side (Err Failed) other apart = inr (λ has. gone other (Write pair side) line)
  after_write-leaves pair side (Err Memory) other apart = inl refl

  left_there : (test more_tests : Bool) (thing served : Thing) (reading to : Reading) → same_thing thing served ≡ true → is_next state line served ≡ test
      → only_if (test && more_tests) reading ≡ Some to → ((other : Thing) → same_thing other served ≡ false → Overtakes other served reading) → Leaves thing to
  left_there test more_tests thing served reading to same next legal leaves =
      let passed = only_some (test && more_tests) reading to legal in
      subst (λ (t : Thing). Leaves t to) (sym (same_is thing served same))
      (next ∙ (two test more_tests passed.0).0, subst (λ (r : Reading). (other : Thing) → same_thing other served ≡ false → Overtakes other served r) passed.1 leaves)

  free-leaves : (thing : Thing) (next : PairEntry) (to : Reading) → allowed_at Free state line next ≡ Some to → is_service thing next ≡ true → Leaves thing to
  free-leaves thing (entry.Bind path upstream answer) to legal served = cc
  free-leaves thing (entry.Poll items answer) to legal served = true_false (sym served)
  free-leaves thing (entry.Accept answer) to legal served =
      left_there (is_next state line Accept) _ thing Accept (after_accept state line answer) to served refl legal (after_accept-leaves answer)
  free-leaves thing (entry.Connect pair answer) to legal served =
      left_there (is_next state line (Write pair Upstream)) _ thing (Write pair Upstream) (after_connect pair state line answer) to served refl legal
      (after_connect-leaves pair answer)
  free-leaves thing (entry.Read pair side room bytes answer) to legal served =
      left_there (is_next state line (Read pair side)) _ thing (Read pair side) (after_read pair side bytes state line answer) to served refl legal
      (after_read-leaves pair side bytes answer)
  free-leaves thing (entry.Write pair side offered answer) to legal served =
      left_there (is_next state line (Write pair side)) _ thing (Write pair side) (after_write pair side state line answer) to served refl legal
      (after_write-leaves pair side answer)
  free-leaves thing (entry.Disconnect pair answer) to legal served = cc
  free-leaves thing (entry.Close pair answer) to legal served = cc

  bind-serves : (path upstream : List ℕ) (thing : Thing) (next : PairEntry) (to : Reading) → allowed_at (Binding path upstream) state line next ≡ Some to → is_service thing next ≡ true → ⊥
  bind-serves path upstream thing (entry.Bind one another answer) to legal served = true_false (sym served)
  bind-serves path upstream thing (entry.Poll items answer) to legal served = cc
  bind-serves path upstream thing (entry.Accept answer) to legal served = cc
  bind-serves path upstream thing (entry.Connect pair answer) to legal served = cc
  bind-serves path upstream thing (entry.Read pair side room bytes answer) to legal served = cc
  bind-serves path upstream thing (entry.Write pair side offered answer) to legal served = cc
  bind-serves path upstream thing (entry.Disconnect pair answer) to legal served = cc
  bind-serves path upstream thing (entry.Close pair answer) to legal served = cc

  close-serves : (number : ℕ) (later parts : List ℕ) (thing : Thing) (next : PairEntry) (to : Reading) → allowed_at (Closing number later parts) state line next ≡ Some to → is_service thing next ≡ true → ⊥
  close-serves number later parts thing (entry.Bind one another answer) to legal served = cc
  close-serves number later parts thing (entry.Poll items answer) to legal served = cc
  close-serves number later parts thing (entry.Accept answer) to legal served = cc
  close-serves number later parts thing (entry.Connect pair answer) to legal served = cc
  close-serves number later parts thing (entry.Read pair side room bytes answer) to legal served = cc
  close-serves number later parts thing (entry.Write pair side offered answer) to legal served = cc
  close-serves number later parts thing (entry.Disconnect pair answer) to legal served = cc
  close-serves number later parts thing (entry.Close pair answer) to legal served = true_false (sym served)

  part-serves : (number : ℕ) (later : List ℕ) (thing : Thing) (next : PairEntry) (to : Reading) → allowed_at (Parting number later) state line next ≡ Some to → is_service thing next ≡ true → ⊥
  part-serves number later thing (entry.Bind one another answer) to legal served = cc
  part-serves number later thing (entry.Poll items answer) to legal served = cc
  part-serves number later thing (entry.Accept answer) to legal served = cc
  part-serves number later thing (entry.Connect pair answer) to legal served = cc
  part-serves number later thing (entry.Read pair side room bytes answer) to legal served = cc
  part-serves number later thing (entry.Write pair side offered answer) to legal served = cc
  part-serves number later thing (entry.Disconnect pair answer) to legal served = true_false (sym served)
  part-serves number later thing (entry.Close pair answer) to legal served = cc

  serves-leaves : (due : Due) (thing : Thing) (next : PairEntry) (to : Reading) → allowed_at due state line next ≡ Some to → is_service thing next ≡ true → Leaves thing to
  serves-leaves (Binding path upstream) thing next to legal served = absurd (bind-serves path upstream thing next to legal served)
  serves-leaves Free thing next to legal served = free-leaves thing next to legal served
  serves-leaves (Closing pair later parts) thing next to legal served = absurd (close-serves pair later parts thing next to legal served)
  serves-leaves (Parting pair later) thing next to legal served = absurd (part-serves pair later thing next to legal served)
  serves-leaves Nothing thing next to legal served = cc

-- ---- all calls

waits-now : (other : Thing) (reading : Reading) (calls : List PairEntry) → waits_on other reading calls ≡ true → has_thing other reading.line ≡ true
waits-now other reading [] waits = (two (has_thing other reading.line) (is_servable reading.state other) waits).0
waits-now other reading (next ∷ later) waits = (two (has_thing other reading.line) _ waits).0

waits-then : (other : Thing) (reading to : Reading) (next : PairEntry) (later : List PairEntry) → waits_on other reading (next ∷ later) ≡ true
    → allowed reading next ≡ Some to → waits_on other to later ≡ true
waits-then other reading to next later waits legal =
    ap (if_any (λ (after : Reading). waits_on other after later)) (sym legal) ∙ (two (has_thing other reading.line) (if_any (λ (after : Reading). waits_on other after later) (allowed reading next)) waits).1

served_or : (served : Bool) (rest : Bool) → (served ≡ false → rest ≡ true) → (served || rest) ≡ true
served_or true rest later = refl
served_or false rest later = later refl

between-served : (thing other : Thing) (reading to : Reading) (between after : List PairEntry) (last : PairEntry) → same_thing thing other ≡ false
    → ahead other thing reading.line ≡ true → waits_on other reading between ≡ true → read_on reading (between ++ last ∷ after) ≡ Some to
    → is_service thing last ≡ true → list_any (is_service other) between ≡ true
between-served thing other reading to [] after last apart first waits legal again =
    let one = then_some (λ (r : Reading). read_on r after) (allowed reading last) to legal in
    let is_first = (serves-leaves reading.state reading.line reading.due thing last one.0 one.1 again).0 in
    true_false (sym is_first ∙ not_next reading.state other thing reading.line (two (has_thing other reading.line) _ waits).1 apart first)
between-served thing other reading to (next ∷ between) after last apart first waits legal again =
    let one = then_some (λ (r : Reading). read_on r (between ++ last ∷ after)) (allowed reading next) to legal in
    let later = waits-then other reading one.0 next between waits one.1 in
    let here = waits-now other reading (next ∷ between) waits in
    let there = waits-now other one.0 between later in
    served_or (is_service other next) (list_any (is_service other) between) (λ unserved.
    between-served thing other one.0 to between after last apart
    (stays-ahead other thing reading.state reading.line (here, first) reading.due next one.0 one.1 unserved there) later one.2 again)

-- nothing comes where nothing may
nothing-comes : (reading to : Reading) (calls : List PairEntry) (last : PairEntry) (after : List PairEntry) → reading.due ≡ Nothing → read_on reading (calls ++ last ∷ after) ≡ Some to → ⊥
nothing-comes reading to calls last after over legal = nothing_by calls legal
  where
    none_next : (next : PairEntry) → allowed reading next ≡ None
    none_next next = ap (λ (due : Due). allowed_at due reading.state reading.line next) over

    nothing_by : (calls : List PairEntry) → read_on reading (calls ++ last ∷ after) ≡ Some to → ⊥
    nothing_by [] legal = let none = ap (option_and_then (λ (r : Reading). read_on r after)) (none_next last) in cc
    nothing_by (next ∷ later) legal = let none = ap (option_and_then (λ (r : Reading). read_on r (later ++ last ∷ after))) (none_next next) in cc

same-apart : (thing other : Thing) → same_thing thing other ≡ false → same_thing other thing ≡ false
same-apart thing other apart = by_test (same_thing other thing) refl
  where
    by_test : (test : Bool) → same_thing other thing ≡ test → same_thing other thing ≡ false
    by_test true is =
        let same = same_is other thing is in
        let back = subst (λ (t : Thing). same_thing t other ≡ true) same (subst (λ (t : Thing). same_thing other t ≡ true) (sym same) is) in
        true_false (sym back ∙ apart)
    by_test false is = is

-- what was overtaken by a service stands ahead, where more may come
overtaken : (thing other : Thing) (reading to : Reading) (between after : List PairEntry) (last : PairEntry) → Overtakes other thing reading
    → waits_on other reading between ≡ true → read_on reading (between ++ last ∷ after) ≡ Some to → ahead other thing reading.line ≡ true
overtaken thing other reading to between after last (inl over) waits legal = absurd (nothing-comes reading to between last after over legal)
overtaken thing other reading to between after last (inr first) waits legal =
    first (waits-now other reading between waits)

pub each_is_fair : EachIsFair
each_is_fair listed path upstream calls to legal = λ thing other before between after first last reading twice apart reached waits.
    let from = first_reading listed path upstream in
    let whole = ap (read_on from) (sym twice.split) ∙ legal in
    let start = read_apart from to before (first ∷ (between ++ last ∷ after)) whole in
    let there = read_apart from reading before (first ∷ []) reached in
    let same : there.0 ≡ start.0 = (let both : Some there.0 ≡ Some start.0 = sym there.1 ∙ start.1 in cc) in
    let at_first = then_some (λ (r : Reading). read_on r []) (allowed there.0 first) reading there.2 in
    let reads : at_first.0 ≡ reading = (let both : Some at_first.0 ≡ Some reading = at_first.2 in cc) in
    let next = then_some (λ (r : Reading). read_on r (between ++ last ∷ after)) (allowed start.0 first) to start.2 in
    let leads : Some next.0 ≡ Some reading = sym next.1 ∙ ap (λ (r : Reading). allowed r first) (sym same) ∙ at_first.1 ∙ ap (λ (r : Reading). Some r) reads in
    let lands : next.0 ≡ reading = cc in
    let rest : read_on reading (between ++ last ∷ after) ≡ Some to = ap (λ (r : Reading). read_on r (between ++ last ∷ after)) (sym lands) ∙ next.2 in
    let overtakes = subst (λ (r : Reading). Overtakes other thing r) lands
    ((serves-leaves start.0.state start.0.line start.0.due thing first next.0 next.1 twice.once).1 other (same-apart thing other apart)) in
    between-served thing other reading to between after last apart
    (overtaken thing other reading to between after last overtakes waits rest) waits rest twice.again
