-- Lemmas on settling: it takes one port after another, and ends with nothing owed to a port that isn't held.
use Rattle.std.proofs.Common.{◌≡◌, ℕ, zero, suc, ◌<◌, ◌≤◌, List, [], ◌∷◌, length, refl, ap, sym, ◌∙◌, arith, Option, Some, None, true, false}
use Rattle.std.proofs.lemmas.Bool.Decides.{nat_tests}
use Rattle.world_ports.specs.declared.Moment.{Moment}
use Rattle.agent_model.specs.Budget.{budget}
use Rattle.agent_model.specs.Events.{Timed, Took}
use Rattle.agent_model.specs.Runs.{run}
use Rattle.agent_model.specs.Sound.{IsSteady}
use Rattle.agent_model.specs.State.{State, is_some_bytes, owed_by_port, owed_of}
use Rattle.agent_model.proofs.RunLemmas.{step-last_port}
use Rattle.replay_run.specs.Holding.{is_held}
use Rattle.replay_run.specs.Settling.{at_moment, delivered, next_to_take, settled, takings, takings_by, takings_from}
use Rattle.replay_run.proofs.HoldingLemmas.{found_unheld, nothing_unheld}
use Rattle.agent_model.proofs.BudgetLemmas.{step_keeps-steady, taking_lowers}

-- a taking lowers the budget
pub delivered_lowers : (moment : Moment) (held : List ℕ) (port : ℕ) (state : State) → IsSteady state
    → next_to_take held state ≡ Some port → budget (delivered moment port state) < budget state
delivered_lowers moment held port state steady next =
    let found = found_unheld state.under_way 0 state.last_port 0 port held state.ports steady.rising next in
    taking_lowers port found.0 moment state steady found.1 found.2

-- a taking keeps steady numbers
pub delivered-steady : (moment : Moment) (port : ℕ) (state : State) → IsSteady state
    → IsSteady (delivered moment port state)
delivered-steady moment port state =
    step_keeps-steady state moment (Took port (length (owed_of port state)))

-- nothing is taken where nothing is owed
takings_by-none : (moment : Moment) (held : List ℕ) (fuel : ℕ) (state : State)
    → next_to_take held state ≡ None
    → takings_by moment held fuel state ≡ []
takings_by-none moment held zero state none = refl
takings_by-none moment held (suc fuel) state none =
    ap (takings_from moment (takings_by moment held fuel) state) none

-- where a port takes next, there is a budget
some_budget : (moment : Moment) (held : List ℕ) (port : ℕ) (state : State) → IsSteady state
    → next_to_take held state ≡ Some port → 0 < budget state
some_budget moment held port state steady next =
    omega (arith, delivered_lowers moment held port state steady next)

-- more fuel than the budget changes nothing, at the port that takes next
fuel_from : (moment : Moment) (held : List ℕ) (fuel more : ℕ) (state : State) (found : Option ℕ)
    → next_to_take held state ≡ found → IsSteady state → budget state ≤ suc fuel → budget state ≤ suc more
    → ((port : ℕ) → budget (delivered moment port state) ≤ fuel → budget (delivered moment port state) ≤ more
    → takings_by moment held fuel (delivered moment port state) ≡ takings_by moment held more (delivered moment port state))
    → takings_from moment (takings_by moment held fuel) state found ≡ takings_from moment (takings_by moment held more) state found
fuel_from moment held fuel more state None next steady enough plenty later = refl
fuel_from moment held fuel more state (Some port) next steady enough plenty later =
    let lower = delivered_lowers moment held port state steady next in
    ap (λ l. at_moment moment (Took port (length (owed_of port state))) ∷ l) (later port (omega arith) (omega arith))

-- where the budget is used up, no port takes
spent_owes_nothing : (moment : Moment) (held : List ℕ) (state : State) (found : Option ℕ)
    → next_to_take held state ≡ found → IsSteady state → budget state ≤ 0 → next_to_take held state ≡ None
spent_owes_nothing moment held state None next steady spent = next
spent_owes_nothing moment held state (Some port) next steady spent =
    absurd (omega (arith, some_budget moment held port state steady next))

-- more fuel than the budget changes nothing
pub takings_by-fuel : (moment : Moment) (held : List ℕ) (fuel more : ℕ) (state : State)
    → IsSteady state
    → budget state ≤ fuel → budget state ≤ more → takings_by moment held fuel state ≡ takings_by moment held more state
takings_by-fuel moment held zero more state steady enough plenty =
    sym (takings_by-none moment held more state
    (spent_owes_nothing moment held state (next_to_take held state) refl steady enough))
takings_by-fuel moment held (suc fuel) zero state steady enough plenty =
    takings_by-none moment held (suc fuel) state
    (spent_owes_nothing moment held state (next_to_take held state) refl steady plenty)
takings_by-fuel moment held (suc fuel) (suc more) state steady enough plenty =
    fuel_from moment held fuel more state (next_to_take held state) refl steady enough plenty
    (λ port h l. takings_by-fuel moment held fuel more (delivered moment port state) (delivered-steady moment port state steady) h l)

-- where nothing is owed, nothing is taken
pub takings_none : (moment : Moment) (held : List ℕ) (state : State)
    → next_to_take held state ≡ None
    → takings moment held state ≡ []
unfolding takings
takings_none moment held state none = takings_by-none moment held (budget state) state none

-- a port takes all that it is owed
abbrev pub taking : Moment → ℕ → State → Timed
taking moment port state = at_moment moment (Took port (length (owed_of port state)))

-- else the next port takes all that it is owed, and then the others theirs
pub takings_some : (moment : Moment) (held : List ℕ) (port : ℕ) (state : State) → IsSteady state
    → next_to_take held state ≡ Some port
    → takings moment held state ≡ taking moment port state ∷ takings moment held (delivered moment port state)
unfolding takings
takings_some moment held port state steady next =
    let lower = delivered_lowers moment held port state steady next in
    let after = delivered moment port state in
    takings_by-fuel moment held (budget state) (suc (budget state)) state steady (omega arith) (omega arith)
    ∙ ap (takings_from moment (takings_by moment held (budget state)) state) next
    ∙ ap (λ later. taking moment port state ∷ later)
    (takings_by-fuel moment held (budget state) (budget after) after (delivered-steady moment port state steady) (omega arith) (omega arith))

-- by whether a port takes
kept_from : (P : State → Type 0) (moment : Moment)
    → (later : State → List Timed) (state : State) (found : Option ℕ) → P state
    → ((port : ℕ) → P (run (delivered moment port state) (later (delivered moment port state)))) → P (run state (takings_from moment later state found))
kept_from P moment later state None here rest = here
kept_from P moment later state (Some port) here rest = rest port

-- what stays through each taking stays through so many
kept_by : (P : State → Type 0) (moment : Moment) (held : List ℕ)
    → ((port : ℕ) (state : State) → P state → P (delivered moment port state))
    → (fuel : ℕ) (state : State) → P state → P (run state (takings_by moment held fuel state))
kept_by P moment held keeps zero state here = here
kept_by P moment held keeps (suc fuel) state here =
    kept_from P moment (takings_by moment held fuel) state (next_to_take held state) here
    (λ port. kept_by P moment held keeps fuel (delivered moment port state) (keeps port state here))

-- a settling keeps steady numbers
pub settled-steady : (moment : Moment) (held : List ℕ) (state : State) → IsSteady state
    → IsSteady (settled moment held state)
unfolding takings
settled-steady moment held state steady =
    kept_by IsSteady moment held (delivered-steady moment) (budget state) state steady

-- a settling gives out no number
pub settled-last_port : (moment : Moment) (held : List ℕ) (state : State)
    → (settled moment held state).last_port ≡ state.last_port
unfolding takings
settled-last_port moment held state =
    kept_by (λ s. s.last_port ≡ state.last_port) moment held
    (λ port s same. step-last_port s moment (Took port (length (owed_of port s))) ∙ same)
    (budget state) state refl

-- by whether a port takes
nothing_from : (moment : Moment) (held : List ℕ) (fuel : ℕ) (state : State) (found : Option ℕ)
    → next_to_take held state ≡ found → IsSteady state → budget state ≤ suc fuel
    → ((port : ℕ) → budget (delivered moment port state) ≤ fuel
    → next_to_take held (run (delivered moment port state) (takings_by moment held fuel (delivered moment port state))) ≡ None)
    → next_to_take held (run state (takings_from moment (takings_by moment held fuel) state found)) ≡ None
nothing_from moment held fuel state None next steady enough later = next
nothing_from moment held fuel state (Some port) next steady enough later =
    let lower = delivered_lowers moment held port state steady next in
    later port (omega arith)

-- with fuel for the budget no port takes next
nothing_by : (moment : Moment) (held : List ℕ) (fuel : ℕ) (state : State) → IsSteady state
    → budget state ≤ fuel
    → next_to_take held (run state (takings_by moment held fuel state)) ≡ None
nothing_by moment held zero state steady enough =
    spent_owes_nothing moment held state (next_to_take held state) refl steady enough
nothing_by moment held (suc fuel) state steady enough =
    nothing_from moment held fuel state (next_to_take held state) refl steady enough
    (λ port h. nothing_by moment held fuel (delivered moment port state) (delivered-steady moment port state steady) h)

-- after a settling no port takes next
settled-next : (moment : Moment) (held : List ℕ) (state : State) → IsSteady state
    → next_to_take held (settled moment held state) ≡ None
unfolding takings
settled-next moment held state steady =
    nothing_by moment held (budget state) state steady (omega arith)

-- and nothing is owed to a port that isn't held
pub nothing_is_owed : (moment : Moment) (held : List ℕ) (state : State) (port : ℕ) → IsSteady state
    → is_held port held ≡ false → owed_of port (settled moment held state) ≡ []
nothing_is_owed moment held state port steady loose =
    let after = settled moment held state in
    nothing_unheld after.under_way 0 after.last_port port held after.ports (settled-steady moment held state steady).rising
    (settled-next moment held state steady) loose

-- where the test says that bytes are there, some are
bytes_some : (bytes : List ℕ) → is_some_bytes bytes ≡ true → 0 < length bytes
bytes_some bytes some = grind (arith, nat_tests)

-- the port that takes next is owed some bytes
pub owed_some : (held : List ℕ) (port : ℕ) (state : State) → IsSteady state
    → next_to_take held state ≡ Some port
    → 0 < length (owed_of port state)
owed_some held port state steady next =
    let found = found_unheld state.under_way 0 state.last_port 0 port held state.ports steady.rising next in
    rw found.1 (bytes_some (owed_by_port found.0 state.under_way) found.2)
