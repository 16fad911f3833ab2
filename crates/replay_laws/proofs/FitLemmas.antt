-- An event that fits, fits behind the tick of its moment, unless that tick closed its port.
use Rattle.std.proofs.Common.{◌≡◌, ℕ, ◌<◌, ◌≤◌, ◌-◌, ◌^◌, List, [], ◌∷◌, ◌++◌, length, refl, sym, ap, subst, ◌∙◌, arith, inl, inr, Bool, true, false, cond, append-nil, Option, Some, None}
use Rattle.std.specs.Prelude.{IsSome, is_some, nat_lt}
use Rattle.std.proofs.lemmas.Bool.{cases_eq}
use Rattle.std.proofs.lemmas.Bool.Decides.{nat_tests}
use Rattle.lists.specs.Rising.{is_among}
use Rattle.world_ports.specs.declared.Moment.{Moment}
use Rattle.agent_model.specs.Closings.{joined_between}
use Rattle.agent_model.specs.Events.{Happening, Joined, Heard, Ended, Took, Started, StartFailed, Tick}
use Rattle.agent_model.specs.NumberLists.{without}
use Rattle.agent_model.specs.Sound.{IsSteady}
use Rattle.agent_model.specs.State.{Fits, Port, State, UnderWay, find_port, find_to_start, numbers, owed_by}
use Rattle.agent_model.specs.Time.{at_moment}
use Rattle.agent_model.proofs.ClosesLemmas.{closes-closed}
use Rattle.agent_model.proofs.RunLemmas.{at_moment-follows}
use Rattle.agent_model.proofs.TimeLemmas.{at_moment-keeps}
use Rattle.replay_laws.specs.Replaying.{FitsUnless}
use Rattle.replay_laws.specs.Ticks.{is_passed_over, ticked}
use Rattle.replay_laws.proofs.OwedLemmas.{moment_grows}

-- ---- numbers of ports

open_is : (number : ℕ) (ports : List Port)
    → is_some (find_port number ports) ≡ is_among number (numbers ports)
open_is number [] = refl
open_is number (port ∷ ports) =
    let rest : is_some (find_port number ports) ≡ is_among number (numbers ports) = open_is number ports in
    elim (cases_eq port.number number) [
      | inl is ↦ grind (arith, nat_tests)
      | inr apart ↦ grind (arith, nat_tests)
    ]

-- who isn't taken out stays
kept_among : (number : ℕ) (all kept : List ℕ) → is_among number all ≡ true
    → is_among number (without all kept) ≡ false → is_among number kept ≡ true
kept_among number [] kept there out = absurd (cc)
kept_among number (one ∷ others) kept there out = elim (cases_eq number one) [
  | inl is ↦ by_kept (is_among one kept) refl is out
  | inr apart ↦
      kept_among number others kept
      (let there_too : is_among number others ≡ true = grind (arith, nat_tests) in there_too)
      (by_rest (is_among one kept) out)
]
  where
    by_kept : (b : Bool) → is_among one kept ≡ b → number ≡ one
        → is_among number (cond b (without others kept) (one ∷ without others kept)) ≡ false
        → is_among number kept ≡ true
    by_kept true is same out = ap (λ n. is_among n kept) same ∙ is
    by_kept false is same out =
        absurd
        (let in_it : is_among number (one ∷ without others kept) ≡ true = grind (arith, nat_tests) in let both : true ≡ false = sym in_it ∙ out in cc)

    by_rest : (b : Bool)
        → is_among number (cond b (without others kept) (one ∷ without others kept)) ≡ false
        → is_among number (without others kept) ≡ false
    by_rest true out = out
    by_rest false out = grind (arith, nat_tests)

-- who is taken out isn't kept
taken_out : (number : ℕ) (all kept : List ℕ) → is_among number (without all kept) ≡ true
    → is_among number kept ≡ false
taken_out number [] kept out = absurd (cc)
taken_out number (one ∷ others) kept out = by_kept (is_among one kept) refl out (taken_out number others kept)
  where
    by_kept : (b : Bool) → is_among one kept ≡ b
        → is_among number (cond b (without others kept) (one ∷ without others kept)) ≡ true
        → (is_among number (without others kept) ≡ true → is_among number kept ≡ false) → is_among number kept ≡ false
    by_kept true is out later = later out
    by_kept false is out later = elim (cases_eq number one) [
      | inl same ↦ ap (λ n. is_among n kept) same ∙ is
      | inr apart ↦ later (let rest : is_among number (without others kept) ≡ true = grind (arith, nat_tests) in rest)
    ]

-- ---- the tick

pub closes_are : (moment : Moment) (state : State) → IsSteady state
    → (ticked moment state).closes ≡ without (numbers state.ports) (numbers (at_moment moment state).ports)
closes_are moment state steady =
    let last = (at_moment-follows moment state).last in
    let not_above : nat_lt state.last_port state.last_port ≡ false = grind (arith, nat_tests) in
    closes-closed state moment Tick steady.rising
    ∙ ap
    (λ n. without (numbers state.ports ++ joined_between state.last_port n) (numbers (at_moment moment state).ports)) last
    ∙ ap
    (λ b. without (numbers state.ports ++ (cond b (state.last_port ∷ []) [])) (numbers (at_moment moment state).ports)) not_above
    ∙ ap (λ all. without all (numbers (at_moment moment state).ports)) (append-nil (numbers state.ports))

some_is : {A : Type 0} (found : Option A) → IsSome found → is_some found ≡ true
some_is None there = absurd (cc)
some_is (Some one) there = refl

is_some_too : {A : Type 0} (found : Option A) → is_some found ≡ true → IsSome found
is_some_too None there = absurd (cc)
is_some_too (Some one) there = refl

none_is : {A : Type 0} (found : Option A) → is_some found ≡ false → found ≡ None
none_is None there = refl
none_is (Some one) there = absurd (cc)

pub open_behind : (number : ℕ) (moment : Moment) (state : State) → IsSteady state
    → IsSome (find_port number state.ports) → is_among number (ticked moment state).closes ≡ false
    → IsSome (find_port number (at_moment moment state).ports)
open_behind number moment state steady there out =
    is_some_too (find_port number (at_moment moment state).ports)
    (open_is number (at_moment moment state).ports
    ∙ kept_among number (numbers state.ports) (numbers (at_moment moment state).ports)
    (sym (open_is number state.ports) ∙ some_is (find_port number state.ports) there)
    (ap (is_among number) (sym (closes_are moment state steady)) ∙ out))

pub gone_behind : (number : ℕ) (moment : Moment) (state : State) → IsSteady state
    → is_among number (ticked moment state).closes ≡ true → find_port number (at_moment moment state).ports ≡ None
gone_behind number moment state steady out =
    none_is (find_port number (at_moment moment state).ports)
    (open_is number (at_moment moment state).ports
    ∙ taken_out number (numbers state.ports) (numbers (at_moment moment state).ports)
    (ap (is_among number) (sym (closes_are moment state steady)) ∙ out))

-- ---- events

-- the jobs that wait to be started stay
pub to_start_stays : (moment : Moment) (state : State)
    → (at_moment moment state).under_way.to_start ≡ state.under_way.to_start
to_start_stays moment state =
    at_moment-keeps (λ s. s.under_way.to_start ≡ state.under_way.to_start) moment state (λ s is. is)
    (λ one s there is. is) refl

owed_behind : (found : Option Port) (number count : ℕ) (moment : Moment) (state : State)
    → IsSteady state
    → find_port number (at_moment moment state).ports ≡ found → IsSome found
    → count ≤ length (owed_by (find_port number state.ports) state.under_way)
    → count ≤ length (owed_by found (at_moment moment state).under_way)
owed_behind None number count moment state steady is there few = absurd (cc)
owed_behind (Some port) number count moment state steady is there few =
    let was = (moment_grows number moment state).owed steady port is in
    omega (arith, few, was.2, ap (λ (found : Option Port). length (owed_by found state.under_way)) was.1)

module _ (moment : Moment) (state : State) (steady : IsSteady state) where
  heard_by : (closed : Bool) (number : ℕ) (piece : List ℕ)
      → is_among number (ticked moment state).closes ≡ closed
      → Fits (Heard number piece) state → FitsUnless closed (Heard number piece) (at_moment moment state)
  heard_by true number piece is fits = tt
  heard_by false number piece is fits = (open_behind number moment state steady fits.0 is, fits.1)

  ended_by : (closed : Bool) (number : ℕ) → is_among number (ticked moment state).closes ≡ closed
      → Fits (Ended number) state → FitsUnless closed (Ended number) (at_moment moment state)
  ended_by true number is fits = tt
  ended_by false number is fits = open_behind number moment state steady fits is

  open_by_owed : (found : Option Port) (under_way : UnderWay) (count : ℕ) → 0 < count
      → count ≤ length (owed_by found under_way) → IsSome found
  open_by_owed None under_way count some few = absurd (omega (arith, some, few))
  open_by_owed (Some port) under_way count some few = refl

  took_by : (closed : Bool) (number count : ℕ)
      → is_among number (ticked moment state).closes ≡ closed
      → Fits (Took number count) state → FitsUnless closed (Took number count) (at_moment moment state)
  took_by true number count is fits = tt
  took_by false number count is fits =
      let there =
      open_behind number moment state steady
      (open_by_owed (find_port number state.ports) state.under_way count fits.0 fits.1) is in
      (fits.0, owed_behind (find_port number (at_moment moment state).ports) number count moment state steady refl there fits.1)

pub fits_behind : (event : Happening) (moment : Moment) (state : State) → IsSteady state
    → Fits event state
    → FitsUnless (is_passed_over moment event state) event (ticked moment state).state
fits_behind (Joined door) moment state steady fits =
    subst (λ (n : ℕ). n < 2 ^ 64 - 1) (sym (at_moment-follows moment state).last) fits
fits_behind (Heard number piece) moment state steady fits =
    heard_by moment state steady (is_among number (ticked moment state).closes) number piece refl fits
fits_behind (Ended number) moment state steady fits =
    ended_by moment state steady (is_among number (ticked moment state).closes) number refl fits
fits_behind (Took number count) moment state steady fits =
    took_by moment state steady (is_among number (ticked moment state).closes) number count refl fits
fits_behind (Started job ticket) moment state steady fits =
    subst (λ jobs. IsSome (find_to_start job jobs)) (sym (to_start_stays moment state)) fits
fits_behind (StartFailed job) moment state steady fits =
    subst (λ jobs. IsSome (find_to_start job jobs)) (sym (to_start_stays moment state)) fits
fits_behind Tick moment state steady fits = tt
