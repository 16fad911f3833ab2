-- What a moment ends is what is late, and all of it.
use Rattle.std.proofs.Common.{◌≡◌, ◌≢◌, ℕ, ◌+◌, ◌^◌, ◌<◌, ◌≤◌, List, [], ◌∷◌, length, refl, ap, arith, sym, subst, ◌∙◌, ◌⊎◌, ◌||◌, ◌↔◌, cond, max, nat_lt, Option, Some, None, Bool, true, false, inl, inr}
use Rattle.std.proofs.lemmas.Bool.{cases_eq}
use Rattle.std.proofs.lemmas.Bool.Decides.{nat_tests}
use Rattle.std.specs.List.{find}
use Rattle.std.specs.Option.{option_map}
use Rattle.lists.proofs.FirstLemmas.{found_passes}
use Rattle.lists.proofs.KeyedLemmas.{differ}
use Rattle.world_ports.specs.declared.Moment.{Moment}
use Rattle.identity_table.specs.Deaths.{earlier}
use Rattle.helper_link.specs.HelperLink.{oldest}
use Rattle.helper_link.specs.HelperLink as link
use Rattle.helper_link.specs.declared.ask.Ask.{Ask}
use Rattle.confirm_desk.specs.Confirmations.{Confirmation, find_job, remove_job}
use Rattle.confirm_desk.specs.Confirmations as desk
use Rattle.agent_model.specs.Actions.{Lost, Over, and_then}
use Rattle.agent_model.specs.Answers.{lose, lose_where}
use Rattle.agent_model.specs.Asking.{JobsRise}
use Rattle.agent_model.specs.Consents.{over, over_if}
use Rattle.agent_model.specs.Grants.{IsAmong}
use Rattle.agent_model.specs.Sound.{IsSteady}
use Rattle.agent_model.specs.State.{State, UnderWay, limit_from, next_limit, second_of}
use Rattle.agent_model.specs.Time.{IsReached, all_over, end_late, first_late, has_lasted, is_helper_late, is_late, is_one_late, taken_in, time_passes}
use Rattle.agent_model.proofs.JobLemmas.{IsIn, find_job-remove, in-by_job, in-found, in-found_by, jobs-remove, none_passes}
use Rattle.agent_model.proofs.OnTimeLemmas.{removed_one}

-- ---- once a limit is reached, something is late

-- what began then has lasted the limit
abbrev IsDone : ℕ → ℕ → Option ℕ → Type 0
IsDone now limit None = ⊥
IsDone now limit (Some since) = since + limit ≤ now

reached_done : (now limit : ℕ) (since : Option ℕ) → IsReached now (limit_from (Some limit) since)
    → IsDone now limit since
reached_done now limit None reached = reached
reached_done now limit (Some since) reached = by_test (nat_lt (since + limit) (2 ^ 64)) reached
  where
    by_test : (is : Bool) → IsReached now (cond is (Some (since + limit)) None)
        → since + limit ≤ now
    by_test true up = up
    by_test false up = absurd up

either_reached : (now : ℕ) (a b : Option ℕ) → IsReached now (earlier a b)
    → IsReached now a ⊎ IsReached now b
either_reached now None b reached = inr reached
either_reached now (Some a) None reached = inl reached
either_reached now (Some a) (Some b) reached = by_test (nat_lt b a) refl
  where
    by_test : (is : Bool) → nat_lt b a ≡ is → (a ≤ now) ⊎ (b ≤ now)
    by_test true less =
        let below : b < a = grind (arith, nat_tests) in inr (omega (arith, reached, below))
    by_test false more =
        let above : a ≤ b = grind (arith, nat_tests) in inl (omega (arith, reached, above))

asks_done : (now limit : ℕ) (asks : List Ask) → IsDone now limit (oldest asks)
    → is_one_late (Some limit) now asks ≡ true
asks_done now limit [] done = absurd done
asks_done now limit (ask ∷ asks) done = by_either (by_later (oldest asks) done) (asks_done now limit asks)
  where
    by_later : (later : Option ℕ) → IsDone now limit (Some (link.earlier ask.put_at later))
        → (ask.put_at + limit ≤ now) ⊎ IsDone now limit later
    by_later None is = inl is
    by_later (Some other) is = by_test (nat_lt other ask.put_at) refl
      where
        by_test : (less : Bool) → nat_lt other ask.put_at ≡ less
            → (ask.put_at + limit ≤ now) ⊎ (other + limit ≤ now)
        by_test true less = let below : other < ask.put_at = grind (arith, nat_tests) in inr (omega (arith, is, below))
        by_test false more = let above : ask.put_at ≤ other = grind (arith, nat_tests) in inl (omega (arith, is, above))

    by_either : (ask.put_at + limit ≤ now) ⊎ IsDone now limit (oldest asks)
        → (IsDone now limit (oldest asks) → is_one_late (Some limit) now asks ≡ true)
        → is_one_late (Some limit) now (ask ∷ asks) ≡ true
    by_either (inl this) rest = grind (arith, nat_tests)
    by_either (inr others) rest = by_this (has_lasted (Some limit) ask.put_at now) (rest others)
      where
        by_this : (this : Bool) → is_one_late (Some limit) now asks ≡ true
            → (this || is_one_late (Some limit) now asks) ≡ true
        by_this true late = refl
        by_this false late = late

-- one of these is late
abbrev IsSomeLate : Option ℕ → ℕ → List Confirmation → Type 0
IsSomeLate limit now all = (one : Confirmation) × (find (λ (other : Confirmation). has_lasted limit other.raised_at now) all ≡ Some one)

ones_done : (now limit : ℕ) (all : List Confirmation)
    → IsDone now limit (option_map second_of (desk.oldest all)) → IsSomeLate (Some limit) now all
ones_done now limit [] done = absurd done
ones_done now limit (one ∷ others) done = by_either (by_later (desk.oldest others) done) (ones_done now limit others)
  where
    pick : (is : Bool) (other : ℕ × ℕ)
        → IsDone now limit (Some (cond is other (one.job, one.raised_at)).1)
        → (one.raised_at + limit ≤ now) ⊎ (other.1 + limit ≤ now)
    pick true other at = inr at
    pick false other at = inl at

    by_later : (later : Option (ℕ × ℕ))
        → IsDone now limit (option_map second_of (Some (desk.earlier (one.job, one.raised_at) later)))
        → (one.raised_at + limit ≤ now) ⊎ IsDone now limit (option_map second_of later)
    by_later None is = inl is
    by_later (Some other) is = pick (nat_lt other.1 one.raised_at) other is

    by_either : (one.raised_at + limit ≤ now) ⊎ IsDone now limit (option_map second_of (desk.oldest others))
        → (IsDone now limit (option_map second_of (desk.oldest others)) → IsSomeLate (Some limit) now others)
        → IsSomeLate (Some limit) now (one ∷ others)
    by_either (inl this) rest = (one, grind (arith, nat_tests))
    by_either (inr more) rest = by_this (has_lasted (Some limit) one.raised_at now) (rest more)
      where
        by_this : (this : Bool) → IsSomeLate (Some limit) now others
            → (late : Confirmation) × (cond this (Some one) (find (λ (other : Confirmation). has_lasted (Some limit) other.raised_at now) others) ≡ Some late)
        by_this true some = (one, refl)
        by_this false some = some

-- so that something ends
pub reached-ends : (moment : Moment) (state : State)
    → IsReached (max state.moment.mono moment.mono) (next_limit state.under_way)
    → (time_passes moment state).actions ≢ []
reached-ends moment state reached none =
    by_either (either_reached now (limit_from uw.limits.ask (oldest uw.link.asks)) (limit_from uw.limits.confirmation (option_map second_of (desk.oldest uw.confirmations))) reached)
  where
    now : ℕ
    now = max state.moment.mono moment.mono

    uw : UnderWay
    uw = state.under_way

    begun : State
    begun = taken_in moment state

    helper_done : (limit : Option ℕ) → IsReached now (limit_from limit (oldest uw.link.asks))
        → is_one_late limit now uw.link.asks ≡ true
    helper_done None reached_it = absurd reached_it
    helper_done (Some limit) reached_it =
        asks_done now limit uw.link.asks (reached_done now limit (oldest uw.link.asks) reached_it)

    user_done : (limit : Option ℕ)
        → IsReached now (limit_from limit (option_map second_of (desk.oldest uw.confirmations)))
        → IsSomeLate limit now uw.confirmations
    user_done None reached_it = absurd reached_it
    user_done (Some limit) reached_it = ones_done now limit uw.confirmations (reached_done now limit (option_map second_of (desk.oldest uw.confirmations)) reached_it)

    some_first : (test : Confirmation → Bool) (all : List Confirmation) (late : Confirmation)
        → find test all ≡ Some late → (s : State) → first_late s.under_way ≡ Some late
        → (all_over all s).actions ≢ []
    some_first test [] late found s is nothing = absurd (cc)
    some_first test (one ∷ others) late found s is nothing =
        let first : (and_then (over_if (Some late) s) (all_over others)).actions ≡ [] =
        ap (λ f. (and_then (over_if f s) (all_over others)).actions) (sym is) ∙ nothing in
        absurd (cc)

    by_late : (is : Bool) → is_helper_late begun.under_way ≡ is → (late : Confirmation)
        → first_late begun.under_way ≡ Some late
        → (and_then (lose_where is begun) end_late).actions ≡ [] → ⊥
    by_late true is late found nothing = absurd (cc)
    by_late false is late found nothing = some_first (is_late begun.under_way) begun.under_way.confirmations late found begun found nothing

    by_either : IsReached now (limit_from uw.limits.ask (oldest uw.link.asks)) ⊎ IsReached now (limit_from uw.limits.confirmation (option_map second_of (desk.oldest uw.confirmations)))
        → ⊥
    by_either (inl asked) =
        let late : is_helper_late begun.under_way ≡ true = helper_done uw.limits.ask asked in
        let first : (and_then (lose_where true begun) end_late).actions ≡ [] = ap (λ is. (and_then (lose_where is begun) end_late).actions) (sym late) ∙ none in
        absurd (cc)
    by_either (inr raised) =
        let some = user_done uw.limits.confirmation raised in
        by_late (is_helper_late begun.under_way) refl some.0 some.1 none

-- ---- the helper is lost exactly where it is late

ends_only : (all : List Confirmation) (state : State) → IsAmong Lost (all_over all state).actions
    → ⊥
ends_only [] state among = among
ends_only (one ∷ others) state among = by_found (first_late state.under_way) (ends_only others) among
  where
    by_found : (found : Option Confirmation)
        → ((s : State) → IsAmong Lost (all_over others s).actions → ⊥)
        → IsAmong Lost (and_then (over_if found state) (all_over others)).actions → ⊥
    by_found None rest there = rest state there
    by_found (Some late) rest (inl is) = absurd (cc)
    by_found (Some late) rest (inr there) = rest (over late state).state there

pub lost-exactly : (moment : Moment) (state : State)
    → IsAmong Lost (time_passes moment state).actions ↔ (is_helper_late (taken_in moment state).under_way ≡ true)
lost-exactly moment state = (only (is_helper_late begun.under_way), exact)
  where
    begun : State
    begun = taken_in moment state

    only : (is : Bool) → IsAmong Lost (and_then (lose_where is begun) end_late).actions → is ≡ true
    only true among = refl
    only false among = absurd (ends_only begun.under_way.confirmations begun among)

    exact : is_helper_late begun.under_way ≡ true
        → IsAmong Lost (and_then (lose_where (is_helper_late begun.under_way) begun) end_late).actions
    exact late = subst (λ is. IsAmong Lost (and_then (lose_where is begun) end_late).actions) (sym late) (inl refl)

-- ---- a confirmation ends exactly where it is late

module _ (job last : ℕ) (one : Confirmation) where
  -- it is there, under its job
  abbrev Stands : State → Type 0
  Stands state = JobsRise 0 state.under_way.confirmations last × (find_job job state.under_way.confirmations ≡ Some one)

  -- another that ends leaves it
  stands-over : (late : Confirmation) (state : State) → (late.job ≢ job) → Stands state
      → Stands (over late state).state
  stands-over late state other stands = (
    jobs-remove late.job 0 state.under_way.confirmations last stands.0,
    find_job-remove job late.job 0 state.under_way.confirmations last stands.0
        ∙ ap (λ b. cond b None (find_job job state.under_way.confirmations)) (differ late.job job other) ∙ stands.1,
  )

  -- the one of this job is this one
  is_one : (late : Confirmation) (state : State) → IsIn late state.under_way.confirmations
      → late.job ≡ job → Stands state → late ≡ one
  is_one late state there same stands =
      let found : Some late ≡ Some one =
      sym (in-found late 0 last stands.0 there) ∙ ap (λ n. find_job n state.under_way.confirmations) same ∙ stands.1 in
      cc

  ended_late : (all : List Confirmation) (state : State) → Stands state
      → IsAmong (Over job) (all_over all state).actions → is_late state.under_way one ≡ true
  ended_late [] state stands among = absurd among
  ended_late (first ∷ others) state stands among = by_found (first_late state.under_way) refl (ended_late others) among
    where
      by_found : (found : Option Confirmation) → first_late state.under_way ≡ found
          → ((s : State) → Stands s → IsAmong (Over job) (all_over others s).actions → is_late s.under_way one ≡ true)
          → IsAmong (Over job) (and_then (over_if found state) (all_over others)).actions
          → is_late state.under_way one ≡ true
      by_found None is rest there = rest state stands there
      by_found (Some late) is rest there = elim (cases_eq late.job job) [
        | inl same ↦
            (let late_in = in-found_by (is_late state.under_way) state.under_way.confirmations late is in
            ap (is_late state.under_way) (sym (is_one late state late_in same stands)) ∙ found_passes (is_late state.under_way) state.under_way.confirmations late is)
        | inr other ↦ rest (over late state).state (stands-over late state other stands) (behind_it other there)
      ]
        where
          behind_it : late.job ≢ job
              → IsAmong (Over job) (Over late.job ∷ (all_over others (over late state).state).actions)
              → IsAmong (Over job) (all_over others (over late state).state).actions
          behind_it other (inl equal) = let numbers : late.job ≡ job = cc in absurd (other numbers)
          behind_it other (inr later) = later

  late_ends : (all : List Confirmation) (state : State) → Stands state
      → length state.under_way.confirmations ≤ length all → is_late state.under_way one ≡ true
      → IsAmong (Over job) (all_over all state).actions
  late_ends [] state stands few late = absurd (none_there state.under_way.confirmations few stands.1)
    where
      none_there : (some : List Confirmation) → length some ≤ 0 → find_job job some ≡ Some one → ⊥
      none_there [] few found = absurd (cc)
      none_there (first ∷ others) few found = omega (arith, few)
  late_ends (first ∷ others) state stands few late = by_found (first_late state.under_way) refl (late_ends others)
    where
      by_found : (found : Option Confirmation) → first_late state.under_way ≡ found
          → ((s : State) → Stands s → length s.under_way.confirmations ≤ length others → is_late s.under_way one ≡ true → IsAmong (Over job) (all_over others s).actions)
          → IsAmong (Over job) (and_then (over_if found state) (all_over others)).actions
      by_found None is rest =
          let no : true ≡ false = sym late ∙ none_passes (is_late state.under_way) one (in-by_job job state.under_way.confirmations one stands.1) is in
          absurd (cc)
      by_found (Some ending) is rest = elim (cases_eq ending.job job) [
        | inl same ↦ inl (ap Over same)
        | inr other ↦ inr (rest (over ending state).state (stands-over ending state other stands) fewer late)
      ]
        where
          fewer : length (remove_job ending.job state.under_way.confirmations) ≤ length others
          fewer =
              let less = removed_one ending state.under_way.confirmations (in-found_by (is_late state.under_way) state.under_way.confirmations ending is) in
              omega (arith, few, less)

pub over-exactly : (moment : Moment) (state : State) (job : ℕ) (one : Confirmation) → IsSteady state
    → find_job job state.under_way.confirmations ≡ Some one
    → IsAmong (Over job) (time_passes moment state).actions ↔ (is_late (taken_in moment state).under_way one ≡ true)
over-exactly moment state job one steady found = (only (is_helper_late begun.under_way), exact (is_helper_late begun.under_way))
  where
    begun : State
    begun = taken_in moment state

    only : (is : Bool) → IsAmong (Over job) (and_then (lose_where is begun) end_late).actions
        → is_late begun.under_way one ≡ true
    only true (inl equal) = absurd (cc)
    only true (inr among) = ended_late job state.under_way.last_job one state.under_way.confirmations (lose begun).state (steady.order, found) among
    only false among = ended_late job state.under_way.last_job one state.under_way.confirmations begun (steady.order, found) among

    exact : (is : Bool) → is_late begun.under_way one ≡ true
        → IsAmong (Over job) (and_then (lose_where is begun) end_late).actions
    exact true late = inr (late_ends job state.under_way.last_job one state.under_way.confirmations (lose begun).state (steady.order, found) (omega arith) late)
    exact false late = late_ends job state.under_way.last_job one state.under_way.confirmations begun (steady.order, found) (omega arith) late
