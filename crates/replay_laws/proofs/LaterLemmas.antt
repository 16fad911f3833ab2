-- States that are one as a moment that both took in begins again are one at each later moment.
use Rattle.std.proofs.Common.{◌≡◌, ℕ, ◌≤◌, List, [], ◌∷◌, refl, sym, ap, ◌∙◌, arith, cond, max, Bool, true, false, filter, Option, Some, None}
use Rattle.std.proofs.Math.Nat.{max-eq_left, le-max_left}
use Rattle.std.proofs.lemmas.Bool.Decides.{nat_tests}
use Rattle.world_ports.specs.declared.Moment.{Moment}
use Rattle.identity_table.specs.Deaths.{lives_at}
use Rattle.identity_table.specs.Identities.{HeldKey, alive_at}
use Rattle.agent_model.specs.Actions.{and_then}
use Rattle.agent_model.specs.KeyStates.{KeyState, expired}
use Rattle.agent_model.specs.State.{State}
use Rattle.agent_model.specs.Time.{IsOnTime, at_moment, end_late, lose_late, taken_in}
use Rattle.agent_model.proofs.TimeLemmas.{on_time-at_moment}

-- who is dead stays so
dead_later : (early late : ℕ) (death : Option ℕ) → early ≤ late → lives_at early death ≡ false
    → lives_at late death ≡ false
dead_later early late None le dead = absurd (cc)
dead_later early late (Some death) le dead = grind (arith, nat_tests)

living_by : (early late : ℕ) (key : HeldKey) (keys : List HeldKey) (lives : Bool) → early ≤ late
    → lives_at early key.death ≡ lives
    → filter (λ (k : HeldKey). lives_at late k.death) (filter (λ (k : HeldKey). lives_at early k.death) keys)
    ≡ filter (λ (k : HeldKey). lives_at late k.death) keys
    → filter (λ (k : HeldKey). lives_at late k.death) (cond lives (key ∷ filter (λ (k : HeldKey). lives_at early k.death) keys) (filter (λ (k : HeldKey). lives_at early k.death) keys))
    ≡ filter (λ (k : HeldKey). lives_at late k.death) (key ∷ keys)
living_by early late key keys true le is rest =
    ap (λ r. cond (lives_at late key.death) (key ∷ r) r) rest
living_by early late key keys false le is rest =
    rest
    ∙ sym
    (ap (λ b. cond b (key ∷ filter (λ (k : HeldKey). lives_at late k.death) keys) (filter (λ (k : HeldKey). lives_at late k.death) keys)) (dead_later early late key.death le is))

alive-later : (early late : ℕ) (keys : List HeldKey) → early ≤ late
    → alive_at late (alive_at early keys) ≡ alive_at late keys
unfolding alive_at
alive-later early late [] le = refl
alive-later early late (key ∷ keys) le =
    living_by early late key keys (lives_at early key.death) le refl (alive-later early late keys le)

expired-later : (early late : ℕ) (keys : KeyState) → early ≤ late
    → expired late (expired early keys) ≡ expired late keys
expired-later early late keys le =
    ap
    (λ (identities : List HeldKey). let k : KeyState = record keys { table = record keys.table { identities = identities; greatest = late } } in k)
    (alive-later early late keys.table.identities le)

taken_in-later : (first later : Moment) (state : State) → first.mono ≤ state.moment.mono
    → taken_in later (taken_in first state) ≡ taken_in later state
taken_in-later first later state before =
    let put : ℕ → KeyState → State = λ n k. record state {
      moment = record { mono = n; wall = later.wall };
      held = k;
      under_way = record state.under_way { second = n };
    } in
    let now : ℕ = max state.moment.mono later.mono in
    ap (λ n. put (max n later.mono) (expired (max n later.mono) (expired n state.held))) (max-eq_left before)
    ∙ ap (put now) (expired-later state.moment.mono now state.held (le-max_left state.moment.mono later.mono))

at_moment-later : (first later : Moment) (state : State) → first.mono ≤ state.moment.mono
    → at_moment later (taken_in first state) ≡ at_moment later state
at_moment-later first later state before =
    ap (λ s. (and_then (lose_late s) end_late).state) (taken_in-later first later state before)

-- where nothing is late at that moment, they differ in identities that leave as it begins
pub taken_same : (moment : Moment) (one other : State) → IsOnTime moment one → IsOnTime moment other
    → at_moment moment one ≡ at_moment moment other → taken_in moment one ≡ taken_in moment other
taken_same moment one other first second same =
    sym (on_time-at_moment moment one first) ∙ same ∙ on_time-at_moment moment other second

pub later_same : (moment later : Moment) (one other : State) → IsOnTime moment one
    → IsOnTime moment other
    → moment.mono ≤ one.moment.mono → moment.mono ≤ other.moment.mono → at_moment moment one ≡ at_moment moment other
    → at_moment later one ≡ at_moment later other
later_same moment later one other first second one_after other_after same =
    sym (at_moment-later moment later one one_after)
    ∙ ap (at_moment later) (taken_same moment one other first second same)
    ∙ at_moment-later moment later other other_after
