-- What is late at a moment, and that nothing is any more once the moment was taken in.
use Rattle.std.proofs.Common.{◌≡◌, ℕ, suc, ◌+◌, ◌^◌, ◌<◌, ◌≤◌, List, [], ◌∷◌, length, refl, ap, arith, sym, ◌∙◌, cond, max, nat_lt, Option, Some, None, Bool, true, false}
use Rattle.std.proofs.Math.Nat.{max-eq_left, le-max_right}
use Rattle.std.proofs.lemmas.Bool.Decides.{nat_tests}
use Rattle.std.specs.List.{find}
use Rattle.std.specs.Option.{option_map}
use Rattle.world_ports.specs.declared.Moment.{Moment}
use Rattle.identity_table.specs.Deaths.{earlier}
use Rattle.helper_link.specs.HelperLink.{oldest}
use Rattle.helper_link.specs.HelperLink as link
use Rattle.helper_link.specs.declared.ask.Ask.{Ask}
use Rattle.confirm_desk.specs.Confirmations.{Confirmation, remove_job}
use Rattle.confirm_desk.specs.Confirmations as desk
use Rattle.agent_model.specs.Actions.{Outcome, and_then}
use Rattle.agent_model.specs.Answers.{lose_where}
use Rattle.agent_model.specs.Consents.{over, over_if}
use Rattle.agent_model.specs.KeyStates.{KeyState, expired}
use Rattle.agent_model.specs.State.{State, UnderWay, limit_from, next_limit, second_of}
use Rattle.agent_model.specs.Time.{IsAhead, IsOnTime, all_over, at_moment, first_late, has_lasted, is_helper_late, is_late, is_one_late, lose_late, taken_in}
use Rattle.agent_model.proofs.HeldLemmas.{expired-twice}
use Rattle.agent_model.proofs.JobLemmas.{IsIn, behind, here, in-found_by}
use Rattle.agent_model.proofs.TimeLemmas.{at_moment-keeps, none_over}

-- ---- before the next limit

-- what began then hasn't lasted the limit
abbrev IsYet : ℕ → ℕ → Option ℕ → Type 0
IsYet now limit None = Unit {0}
IsYet now limit (Some since) = now < since + limit

on_clock_yet : (now limit : ℕ) (since : Option ℕ) → now < 2 ^ 64
    → IsAhead now (limit_from (Some limit) since) → IsYet now limit since
on_clock_yet now limit None small ahead = tt
on_clock_yet now limit (Some since) small ahead = grind (arith, nat_tests)

both_ahead : (now : ℕ) (a b : Option ℕ) → IsAhead now (earlier a b) → IsAhead now a × IsAhead now b
both_ahead now None b ahead = (tt, ahead)
both_ahead now (Some a) None ahead = (ahead, tt)
both_ahead now (Some a) (Some b) ahead = (omega arith, omega arith)

asks_yet : (now limit : ℕ) (asks : List Ask) → IsYet now limit (oldest asks)
    → is_one_late (Some limit) now asks ≡ false
asks_yet now limit [] yet = refl
asks_yet now limit (ask ∷ asks) yet =
    let both = by_later (oldest asks) yet in
    let rest : is_one_late (Some limit) now asks ≡ false = asks_yet now limit asks both.1 in
    let this : now < ask.put_at + limit = both.0 in
    grind (arith, nat_tests)
  where
    by_later : (later : Option ℕ) → IsYet now limit (Some (link.earlier ask.put_at later))
        → (now < ask.put_at + limit) × IsYet now limit later
    by_later None is = (is, tt)
    by_later (Some other) is = (omega (arith, is), omega (arith, is))

helper_yet : (now : ℕ) (limit : Option ℕ) (asks : List Ask) → now < 2 ^ 64
    → IsAhead now (limit_from limit (oldest asks)) → is_one_late limit now asks ≡ false
helper_yet now None [] small ahead = refl
helper_yet now None (ask ∷ asks) small ahead = helper_yet now None asks small tt
helper_yet now (Some limit) asks small ahead =
    asks_yet now limit asks (on_clock_yet now limit (oldest asks) small ahead)

-- none of these confirmations is late
abbrev IsPrompt : Option ℕ → ℕ → List Confirmation → Type 0
IsPrompt limit now all =
    find (λ (one : Confirmation). has_lasted limit one.raised_at now) all ≡ None

ones_yet : (now limit : ℕ) (all : List Confirmation)
    → IsYet now limit (option_map second_of (desk.oldest all)) → IsPrompt (Some limit) now all
ones_yet now limit [] yet = refl
ones_yet now limit (one ∷ others) yet =
    let both = by_later (desk.oldest others) yet in
    let rest : IsPrompt (Some limit) now others = ones_yet now limit others both.1 in
    let this : now < one.raised_at + limit = both.0 in
    grind (arith, nat_tests)
  where
    pick : (is : Bool) (other : ℕ × ℕ) → nat_lt other.1 one.raised_at ≡ is
        → now < (cond is other (one.job, one.raised_at)).1 + limit
        → (now < one.raised_at + limit) × (now < other.1 + limit)
    pick true other less at = grind (arith, nat_tests)
    pick false other more at = grind (arith, nat_tests)

    by_later : (later : Option (ℕ × ℕ))
        → IsYet now limit (option_map second_of (Some (desk.earlier (one.job, one.raised_at) later)))
        → (now < one.raised_at + limit) × IsYet now limit (option_map second_of later)
    by_later None is = (is, tt)
    by_later (Some other) is = pick (nat_lt other.1 one.raised_at) other refl is

user_yet : (now : ℕ) (limit : Option ℕ) (all : List Confirmation) → now < 2 ^ 64
    → IsAhead now (limit_from limit (option_map second_of (desk.oldest all)))
    → IsPrompt limit now all
user_yet now None [] small ahead = refl
user_yet now None (one ∷ others) small ahead = user_yet now None others small tt
user_yet now (Some limit) all small ahead =
    ones_yet now limit all (on_clock_yet now limit (option_map second_of (desk.oldest all)) small ahead)

-- before the next limit nothing is late
pub ahead-on_time : (moment : Moment) (state : State) → max state.moment.mono moment.mono < 2 ^ 64
    → IsAhead (max state.moment.mono moment.mono) (next_limit state.under_way)
    → IsOnTime moment state
ahead-on_time moment state small ahead =
    let now : ℕ = max state.moment.mono moment.mono in
    let under_way : UnderWay = state.under_way in
    let both = both_ahead now (limit_from under_way.limits.ask (oldest under_way.link.asks)) (limit_from under_way.limits.confirmation (option_map second_of (desk.oldest under_way.confirmations))) ahead in
    record {
      helper = helper_yet now under_way.limits.ask under_way.link.asks small both.0;
      user = user_yet now under_way.limits.confirmation under_way.confirmations small both.1;
    }

-- where there are no limits nothing is ever late
pub unlimited-on_time : (moment : Moment) (state : State) → state.under_way.limits.ask ≡ None
    → state.under_way.limits.confirmation ≡ None → IsOnTime moment state
unlimited-on_time moment state ask confirmation = record {
  helper = ap (λ limit. is_one_late limit now state.under_way.link.asks) ask ∙ helper_never state.under_way.link.asks;
  user = ap (λ limit. find (λ (one : Confirmation). has_lasted limit one.raised_at now) state.under_way.confirmations) confirmation ∙ user_never state.under_way.confirmations;
}
  where
    now : ℕ
    now = max state.moment.mono moment.mono

    helper_never : (asks : List Ask) → is_one_late None now asks ≡ false
    helper_never [] = refl
    helper_never (one ∷ others) = helper_never others

    user_never : (all : List Confirmation) → IsPrompt None now all
    user_never [] = refl
    user_never (one ∷ others) = user_never others

-- ---- behind a moment nothing is late

-- one less
pub removed_one : (one : Confirmation) (all : List Confirmation) → IsIn one all
    → suc (length (remove_job one.job all)) ≡ length all
removed_one one all (here others) = grind (arith, nat_tests)
removed_one one all (behind first others there) =
    let rest : suc (length (remove_job one.job others)) ≡ length others = removed_one one others there in
    grind (arith, nat_tests)

-- as many ends as there are confirmations leave none that is late
all_over-prompt : (all : List Confirmation) (state : State)
    → length state.under_way.confirmations ≤ length all
    → first_late (all_over all state).state.under_way ≡ None
all_over-prompt [] state few = empty state.under_way.confirmations few
  where
    empty : (some : List Confirmation) → length some ≤ 0
        → find (is_late state.under_way) some ≡ None
    empty [] few = refl
    empty (one ∷ others) few = absurd (omega (arith, few))
all_over-prompt (one ∷ others) state few = by_found (first_late state.under_way) refl (all_over-prompt others)
  where
    by_found : (found : Option Confirmation) → first_late state.under_way ≡ found
        → ((s : State) → length s.under_way.confirmations ≤ length others → first_late (all_over others s).state.under_way ≡ None)
        → first_late (and_then (over_if found state) (all_over others)).state.under_way ≡ None
    by_found None none rest =
        ap (λ (o : Outcome). first_late o.state.under_way) (none_over others state none) ∙ none
    by_found (Some late) is rest =
        rest (over late state).state
        (omega (arith, few, removed_one late state.under_way.confirmations (in-found_by (is_late state.under_way) state.under_way.confirmations late is)))

-- the helper isn't late once it was lost where it was
lose_late-prompt : (state : State) → is_helper_late (lose_late state).state.under_way ≡ false
lose_late-prompt state = by_late (is_helper_late state.under_way) refl
  where
    by_late : (is : Bool) → is_helper_late state.under_way ≡ is
        → is_helper_late (lose_where is state).state.under_way ≡ false
    by_late true late = refl
    by_late false prompt = prompt

all_over-helper : (all : List Confirmation) (state : State) → is_helper_late state.under_way ≡ false
    → is_helper_late (all_over all state).state.under_way ≡ false
all_over-helper [] state prompt = prompt
all_over-helper (one ∷ others) state prompt = by_found (first_late state.under_way) (all_over-helper others)
  where
    by_found : (found : Option Confirmation)
        → ((s : State) → is_helper_late s.under_way ≡ false → is_helper_late (all_over others s).state.under_way ≡ false)
        → is_helper_late (and_then (over_if found state) (all_over others)).state.under_way ≡ false
    by_found None rest = rest state prompt
    by_found (Some late) rest = rest (over late state).state prompt

-- what a moment took in
record HasTaken (at : Moment) (were : KeyState) (now : ℕ) (state : State) : Type 0 where
  moment : state.moment ≡ record { mono = now; wall = at.wall }
  held : state.held ≡ expired now were
  second : state.under_way.second ≡ now

at_moment-taken : (moment : Moment) (state : State)
    → HasTaken moment state.held (max state.moment.mono moment.mono) (at_moment moment state)
at_moment-taken moment state =
    at_moment-keeps (HasTaken moment state.held (max state.moment.mono moment.mono)) moment state
    (λ s has. record { moment = has.moment; held = has.held; second = has.second })
    (λ one s there has. record { moment = has.moment; held = has.held; second = has.second })
    record { moment = refl; held = refl; second = refl }

-- it takes in nothing more
taken_in-again : (moment : Moment) (held : KeyState) (low : ℕ) (state : State)
    → HasTaken moment held (max low moment.mono) state → taken_in moment state ≡ state
taken_in-again moment held low state has =
    let t : ℕ = max low moment.mono in
    let put : Moment → KeyState → ℕ → State = λ m k n. record state { moment = m; held = k; under_way = record state.under_way { second = n } } in
    let again : max state.moment.mono moment.mono ≡ t =
    ap (λ (m : Moment). max m.mono moment.mono) has.moment ∙ max-eq_left (le-max_right low moment.mono) in
    ap (λ n. put (record { mono = n; wall = moment.wall }) (expired n state.held) n) again
    ∙ ap (λ m. put m (expired t state.held) t) (sym has.moment)
    ∙ ap (λ k. put state.moment k t) (ap (expired t) has.held ∙ expired-twice t held ∙ sym has.held)
    ∙ ap (λ n. put state.moment state.held n) (sym has.second)

-- nothing is late once the moment was taken in
pub at_moment-on_time : (moment : Moment) (state : State) → IsOnTime moment (at_moment moment state)
at_moment-on_time moment state =
    let opened : State = at_moment moment state in
    let same = taken_in-again moment state.held state.moment.mono opened (at_moment-taken moment state) in
    let left : State = (lose_late (taken_in moment state)).state in
    record {
      helper = ap (λ (s : State). is_helper_late s.under_way) same
          ∙ all_over-helper left.under_way.confirmations left (lose_late-prompt (taken_in moment state));
      user = ap (λ (s : State). first_late s.under_way) same
          ∙ all_over-prompt left.under_way.confirmations left (omega arith);
    }

-- and nothing more is taken in
pub taken_in-at_moment : (moment : Moment) (state : State)
    → taken_in moment (at_moment moment state) ≡ at_moment moment state
taken_in-at_moment moment state = taken_in-again moment state.held state.moment.mono (at_moment moment state) (at_moment-taken moment state)

-- the moment is that
pub at_moment-moment : (moment : Moment) (state : State)
    → (at_moment moment state).moment ≡ record { mono = max state.moment.mono moment.mono; wall = moment.wall }
at_moment-moment moment state = (at_moment-taken moment state).moment
