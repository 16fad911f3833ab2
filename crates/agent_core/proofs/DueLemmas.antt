-- What is due, and that nothing ends within a second at which nothing is.
use Rattle.std.proofs.Common.{◌≡◌, ◌∙◌, ℕ, ◌<◌, ◌≤◌, ◌^◌, List, Option, Some, None, max, ap, arith, refl, subst, sym}
use Rattle.world_ports.specs.declared.Moment.{Moment}
use Rattle.identity_table.specs.Deaths.{earlier}
use Rattle.identity_table.specs.Identities.{HeldKey, alive_at, next_death}
use Rattle.identity_table.proofs.DeathLemmas.{alive_at-all}
use Rattle.identity_table.proofs.DeathLemmas as deaths
use Rattle.agent_model.specs.Actions.{stay}
use Rattle.agent_model.specs.State.{Settings, State, first_state, limit_from, next_due, next_limit}
use Rattle.agent_model.specs.Time.{IsAhead, time_passes}
use Rattle.agent_model.proofs.OnTimeLemmas.{ahead-on_time}
use Rattle.agent_model.proofs.TimeLemmas.{on_time-stays}
use Rattle.agent_core.specs.Parts.{begun}

-- both are ahead where the earlier is
both_ahead : (now : ℕ) (death limit : Option ℕ) → IsAhead now (earlier death limit) → deaths.IsAhead now death × IsAhead now limit
both_ahead now None limit ahead = (tt, ahead)
both_ahead now (Some death) None ahead = (ahead, tt)
both_ahead now (Some death) (Some limit) ahead = (omega (arith, ahead), omega (arith, ahead))

-- within a second at which nothing is due, time ends nothing
pub still-passes : (moment : Moment) (state : State) → state.held.table.greatest ≡ state.moment.mono → state.under_way.second ≡ state.moment.mono
    → moment.mono ≤ state.moment.mono → state.moment.mono < 2 ^ 64 → IsAhead state.moment.mono (next_due state)
    → time_passes moment state ≡ stay (begun moment.wall state).state
still-passes moment state known paced same small ahead =
    let second : ℕ = state.moment.mono in
    let identities : List HeldKey = state.held.table.identities in
    let both = both_ahead second (next_death identities) (next_limit state.under_way) ahead in
    let is : max second moment.mono ≡ second = omega (arith, same) in
    let limit : IsAhead (max second moment.mono) (next_limit state.under_way) = subst (λ n. IsAhead n (next_limit state.under_way)) (sym is) both.1 in
    let on_time = ahead-on_time moment state (omega (arith, is, small)) limit in
    let at : ℕ → List HeldKey → ℕ → ℕ → State = λ now left greatest then. record state {
      moment = record { mono = now; wall = moment.wall };
      held = record state.held { table = record state.held.table { identities = left; greatest = greatest } };
      under_way = record state.under_way { second = then };
    } in
    on_time-stays moment state on_time
    ∙ ap (λ n. stay (at n (alive_at n identities) n n)) is
    ∙ ap (λ (left : List HeldKey). stay (at second left second second)) (alive_at-all second identities small both.0)
    ∙ ap (λ n. stay (at second identities n second)) (sym known)
    ∙ ap (λ n. stay (at second identities state.held.table.greatest n)) (sym paced)

-- at first nothing is due
none_from : (limit : Option ℕ) → limit_from limit None ≡ None
none_from None = refl
none_from (Some limit) = refl

pub first-due : (settings : Settings) → None ≡ next_due (first_state settings)
unfolding next_death
first-due settings =
    sym (ap (λ ask. earlier ask (limit_from settings.limits.confirmation None)) (none_from settings.limits.ask)
    ∙ none_from settings.limits.confirmation)
