-- What a moment ends doesn't raise the budget, and lowers it where it touches a port that is owed bytes.
use Rattle.std.proofs.Common.{inl, inr, ◌≡◌, ◌≢◌, ℕ, ◌+◌, ◌<◌, ◌≤◌, List, [], ◌∷◌, length, refl, ap, sym, arith, ◌∙◌, ◌==◌, ◌⊎◌, Option, Some, None, Bool, true, false, cond, if◌then◌else◌}
use Rattle.std.proofs.lemmas.Bool.{cases_eq}
use Rattle.std.proofs.lemmas.Bool.Decides.{nat_tests}
use Rattle.std.proofs.lemmas.List.{length-map}
use Rattle.lists.specs.Keyed.{has_key}
use Rattle.lists.proofs.FirstLemmas.{changed_nowhere}
use Rattle.world_ports.specs.declared.Door.{Door}
use Rattle.world_ports.specs.declared.Door.TheVariants.{Clients, Children}
use Rattle.world_ports.specs.declared.Moment.{Moment}
use Rattle.confirm_desk.specs.Confirmations.{Confirmation, came_to, find_linked, is_at, remove_job}
use Rattle.helper_link.specs.HelperLink.{HelperLink, askers}
use Rattle.helper_link.specs.declared.ask.Ask.{Ask}
use Rattle.helper_link.specs.declared.state.LinkState.{LinkState}
use Rattle.helper_link.specs.declared.state.LinkState.TheVariants as states
use Rattle.agent_model.specs.Answers.{close_helper, lose, tell_each}
use Rattle.agent_model.specs.Asking.{JobsRise}
use Rattle.agent_model.specs.Budget.{budget, port_budget, ports_budget}
use Rattle.agent_model.specs.Consents.{close_confirmer, over}
use Rattle.agent_model.specs.Events.{Tick}
use Rattle.agent_model.specs.Sound.{IsRising, IsSteady}
use Rattle.agent_model.specs.State.{Helper, Port, State, UnderWay, change_port, find_port, is_linked_to, is_some_bytes, number_of, owed_as, owed_by_port, remove_port, role_of, is_client}
use Rattle.agent_model.specs.Time.{at_moment, taken_in}
use Rattle.agent_model.specs.Verdicts.{HelperLost, NotConfirmed, Refuses, Verdict, tell}
use Rattle.agent_model.proofs.JobLemmas.{IsIn, behind, here, in-above, jobs-remove}
use Rattle.agent_model.proofs.LeadLemmas.{follows-makes, same}
use Rattle.agent_model.proofs.MakeLemmas.{loses, overs}
use Rattle.agent_model.proofs.OnTimeLemmas.{removed_one}
use Rattle.agent_model.proofs.PartBudgetLemmas.{all_lower, all_lower_but, budget-change, budget-remove, budget-removed, by_helper, one_or_none, role-children}
use Rattle.agent_model.proofs.PortsLemmas.{find_port-apart, find_port-remove_port, find_port-removed_apart, found_number}
use Rattle.agent_model.proofs.RunLemmas.{rising_behind}
use Rattle.agent_model.proofs.TimeLemmas.{time_passes-brings}

-- ---- clients that are told

-- who is told may be owed bytes then
told_unit : (under_way : UnderWay) (verdict : Verdict) (port : Port)
    → port_budget under_way (tell verdict port) ≤ port_budget under_way port + 1
told_unit under_way verdict port =
    omega (arith, one_or_none (is_some_bytes (owed_by_port (tell verdict port) under_way)))

-- and was, if it was
told_some : (under_way : UnderWay) (verdict : Verdict) (port : Port)
    → is_some_bytes (owed_by_port port under_way) ≡ true
    → port_budget under_way (tell verdict port) ≤ port_budget under_way port
told_some under_way verdict port some =
    omega (arith, one_or_none (is_some_bytes (owed_by_port (tell verdict port) under_way)), ap {B = ℕ} (λ b. if b then 1 else 0) some)

told_one : (under_way : UnderWay) (verdict : Verdict) (number : ℕ) (ports : List Port)
    → ports_budget under_way (change_port number (tell verdict) ports) ≤ ports_budget under_way ports + 1
told_one under_way verdict number ports = by_found (find_port number ports) refl
  where
    by_found : (found : Option Port) → find_port number ports ≡ found
        → ports_budget under_way (change_port number (tell verdict) ports) ≤ ports_budget under_way ports + 1
    by_found None is =
        let nowhere : change_port number (tell verdict) ports ≡ ports = changed_nowhere (has_key number_of number) (tell verdict) ports is in
        omega (arith, ap (ports_budget under_way) nowhere)
    by_found (Some port) is = omega (arith, budget-change under_way number (tell verdict) ports port is, told_unit under_way verdict port)

told_each : (under_way : UnderWay) (verdict : Verdict) (clients : List ℕ) (ports : List Port)
    → ports_budget under_way (tell_each verdict clients ports) ≤ ports_budget under_way ports + length clients
told_each under_way verdict [] ports = omega arith
told_each under_way verdict (number ∷ others) ports =
    omega (arith, told_each under_way verdict others (change_port number (tell verdict) ports), told_one under_way verdict number ports)

-- a port that is owed bytes isn't told, or costs nothing more
told_at : (under_way : UnderWay) (verdict : Verdict) (clients : List ℕ) (ports : List Port) (number : ℕ) (port : Port)
    → find_port number ports ≡ Some port → is_some_bytes (owed_by_port port under_way) ≡ true
    → (find_port number (tell_each verdict clients ports) ≡ Some port) ⊎ (ports_budget under_way (tell_each verdict clients ports) < ports_budget under_way ports + length clients)
told_at under_way verdict [] ports number port found some = inl found
told_at under_way verdict (client ∷ others) ports number port found some = elim (cases_eq number client) [
  | inl is ↦
      (let at : find_port client ports ≡ Some port = ap (λ n. find_port n ports) (sym is) ∙ found in
      inr (omega (arith, told_each under_way verdict others (change_port client (tell verdict) ports), budget-change under_way client (tell verdict) ports port at, told_some under_way verdict port some)))
  | inr apart ↦
      elim (told_at under_way verdict others (change_port client (tell verdict) ports) number port (find_port-apart number client (tell verdict) ports (λ p. refl) apart ∙ found) some) [
        | inl still ↦ inl still
        | inr less ↦ inr (omega (arith, less, told_one under_way verdict client ports))
      ]
]

-- ---- a port that is closed, and clients that are told

-- what an open port is owed counts
counts_one : (under_way : UnderWay) (port : Port)
    → is_some_bytes (owed_by_port port under_way) ≡ true → 1 ≤ port_budget under_way port
counts_one under_way port some = omega (arith, ap {B = ℕ} (λ b. if b then 1 else 0) some)

owed_alike : (port : Port) (old new : UnderWay) → owed_by_port port new ≡ owed_by_port port old
    → port_budget new port ≡ port_budget old port
owed_alike port old new alike =
    ap (λ bytes. (if is_client port.door then length port.heard else 0) + (if is_some_bytes bytes then 1 else 0)) alike

-- the port is left as it was, and owed the same
abbrev IsSpared : ℕ → Port → List Port → UnderWay → UnderWay → Type 0
IsSpared number port after old new =
    (find_port number after ≡ Some port) × (owed_by_port port new ≡ owed_by_port port old)

module _ (old new : UnderWay) (verdict : Verdict) (clients : List ℕ) (ports : List Port) (last : ℕ) (rising : IsRising 0 last ports) where
  -- what is left is no dearer
  left_most : (closes : Option ℕ)
      → ((port : Port) → closes ≢ Some port.number → owed_by_port port new ≡ owed_by_port port old)
      → ports_budget new (close_confirmer closes ports) ≤ ports_budget old ports
  left_most None alike = all_lower ports old new (λ port. omega (arith, owed_alike port old new (alike port (λ is. absurd (cc)))))
  left_most (Some number) alike =
      omega (
        arith,
        budget-remove old number ports,
        all_lower_but number (remove_port number ports) old new (find_port-remove_port number 0 last ports rising)
            (λ port other. omega (arith, owed_alike port old new (alike port (λ is. other (same_number is))))),
      )
    where
      same_number : {a b : ℕ} → Some a ≡ Some b → a ≡ b
      same_number is = cc

  closed_most : (closes : Option ℕ)
      → ((port : Port) → closes ≢ Some port.number → owed_by_port port new ≡ owed_by_port port old)
      → ports_budget new (tell_each verdict clients (close_confirmer closes ports)) ≤ ports_budget old ports + length clients
  closed_most closes alike = omega (arith, told_each new verdict clients (close_confirmer closes ports), left_most closes alike)

  -- a port that is owed bytes is spared, or the budget falls
  closed_at : (closes : Option ℕ)
      → ((port : Port) → closes ≢ Some port.number → owed_by_port port new ≡ owed_by_port port old)
      → (number : ℕ) (port : Port) → find_port number ports ≡ Some port → port.number ≡ number
      → is_some_bytes (owed_by_port port old) ≡ true
      → IsSpared number port (tell_each verdict clients (close_confirmer closes ports)) old new ⊎ (ports_budget new (tell_each verdict clients (close_confirmer closes ports)) < ports_budget old ports + length clients)
  closed_at None alike number port found own some =
      let same = alike port (λ is. absurd (cc)) in
      elim (told_at new verdict clients ports number port found (ap is_some_bytes same ∙ some)) [
        | inl still ↦ inl (still, same)
        | inr less ↦ inr (omega (arith, less, left_most None alike))
      ]
  closed_at (Some at) alike number port found own some = elim (cases_eq number at) [
    | inl is ↦
        (let there : find_port at ports ≡ Some port = ap (λ n. find_port n ports) (sym is) ∙ found in
        let left : ports_budget new (remove_port at ports) ≤ ports_budget old (remove_port at ports) =
        all_lower_but at (remove_port at ports) old new (find_port-remove_port at 0 last ports rising)
        (λ p other. omega (arith, owed_alike p old new (alike p (λ is. other (same_at is))))) in
        inr (omega (arith, told_each new verdict clients (remove_port at ports), left, budget-removed old at ports port there, counts_one old port some)))
    | inr apart ↦
        (let same = alike port (λ is. apart (sym own ∙ sym (same_at is))) in
        let there : find_port number (remove_port at ports) ≡ Some port = find_port-removed_apart number at ports apart ∙ found in
        elim (told_at new verdict clients (remove_port at ports) number port there (ap is_some_bytes same ∙ some)) [
          | inl still ↦ inl (still, same)
          | inr less ↦ inr (omega (arith, less, left_most (Some at) alike))
        ])
  ]
    where
      same_at : {a b : ℕ} → Some a ≡ Some b → a ≡ b
      same_at is = cc

-- ---- what a port is owed

-- by who is there
owed_by_role : (linked : Bool) (found : Option Confirmation) (port : Port) (old new : UnderWay)
    → (linked ≡ true → new.link ≡ old.link)
    → owed_as (by_helper linked found) port new ≡ owed_as (by_helper linked found) port old
owed_by_role true found port old new links =
    ap (λ (l : HelperLink). owed_as Helper port (record old { link = l })) (links refl)
owed_by_role false None port old new links = refl
owed_by_role false (Some confirmation) port old new links = refl

owed_same : (door : Door) (port : Port) (old new : UnderWay)
    → is_linked_to port.number new.link.state ≡ is_linked_to port.number old.link.state
    → find_linked port.number new.confirmations ≡ find_linked port.number old.confirmations
    → (is_linked_to port.number old.link.state ≡ true → new.link ≡ old.link)
    → owed_as (role_of door port.number new) port new ≡ owed_as (role_of door port.number old) port old
owed_same Clients port old new helper confirmers links = refl
owed_same Children port old new helper confirmers links =
    let linked : Bool = is_linked_to port.number old.link.state in
    let found : Option Confirmation = find_linked port.number old.confirmations in
    ap (λ r. owed_as r port new) (role-children port.number new ∙ ap (λ b. by_helper b (find_linked port.number new.confirmations)) helper ∙ ap (by_helper linked) confirmers)
    ∙ owed_by_role linked found port old new links ∙ ap (λ r. owed_as r port old) (sym (role-children port.number old))

-- who isn't there
pub elsewhere : (at : Option ℕ) (number : ℕ) → at ≢ Some number → is_at number at ≡ false
elsewhere None number other = refl
elsewhere (Some at) number other =
    let differs : at ≢ number = λ same. other (ap Some same) in
    grind (arith, nat_tests)

-- who asks the user at a port goes on, where another confirmation ends
pub linked-removed : (number : ℕ) (one : Confirmation) (below last : ℕ) (all : List Confirmation)
    → JobsRise below all last → IsIn one all → came_to number one ≡ false
    → find_linked number (remove_job one.job all) ≡ find_linked number all
linked-removed number one below last all rise (here others) elsewhere =
    let own : (one.job == one.job) ≡ true = grind (arith, nat_tests) in
    ap (λ b. find_linked number (cond b others (one ∷ remove_job one.job others))) own ∙ sym (ap (λ b. cond b (Some one) (find_linked number others)) elsewhere)
linked-removed number one below last all rise (behind first others there) elsewhere =
    let later : first.job < one.job = in-above one first.job last rise.1 there in
    let other : (first.job == one.job) ≡ false = grind (arith, nat_tests) in
    ap (λ b. find_linked number (cond b others (first ∷ remove_job one.job others))) other
    ∙ ap (cond (came_to number first) (Some first)) (linked-removed number one first.job last others rise.1 there elsewhere)

-- ---- the loss of the helper, and the end of a confirmation

-- the budget doesn't rise, and falls unless a port that is owed bytes is spared
pub record Ends (old new : State) : Type 0 where
  pub steady : IsSteady old → IsSteady new
  pub most : IsSteady old → budget new ≤ budget old
  pub port : IsSteady old → (number : ℕ) (port : Port) → find_port number old.ports ≡ Some port
      → is_some_bytes (owed_by_port port old.under_way) ≡ true
      → IsSpared number port new.ports old.under_way new.under_way ⊎ (budget new < budget old)

nothing_ends : (state : State) → Ends state state
nothing_ends state = record { steady = λ steady. steady; most = λ steady. omega arith; port = λ steady number port found some. inl (found, refl) }

ends_in_turn : (old mid new : State) → Ends old mid → Ends mid new → Ends old new
ends_in_turn old mid new one two = record {
  steady = λ steady. two.steady (one.steady steady);
  most = λ steady. omega (arith, one.most steady, two.most (one.steady steady));
  port = λ steady number port found some. elim (one.port steady number port found some) [
    | inl spared ↦ elim (two.port (one.steady steady) number port spared.0 (ap is_some_bytes spared.1 ∙ some)) [
      | inl still ↦ inl (still.0, still.1 ∙ spared.1)
      | inr less ↦ inr (omega (arith, less, one.most steady))
    ]
    | inr less ↦ inr (omega (arith, less, two.most (one.steady steady)))
  ];
}

-- the helper's port
abbrev pub helper_at : LinkState → Option ℕ
helper_at states.None = None
helper_at (states.Starting job) = None
helper_at (states.Linked port) = Some port

pub helper-closed : (link : LinkState) (ports : List Port)
    → close_helper link ports ≡ close_confirmer (helper_at link) ports
helper-closed states.None ports = refl
helper-closed (states.Starting job) ports = refl
helper-closed (states.Linked port) ports = refl

-- whoever isn't there isn't the helper
pub not_helper : (link : LinkState) (number : ℕ) → helper_at link ≢ Some number
    → is_linked_to number link ≡ false
not_helper states.None number other = refl
not_helper (states.Starting job) number other = refl
not_helper (states.Linked port) number other =
    let differs : port ≢ number = λ same. other (ap Some same) in
    grind (arith, nat_tests)

lose_ends : (state : State) → Ends state (lose state).state
lose_ends state = record {
  steady = λ steady. record {
    rising = rising_behind state (lose state).state (follows-makes Tick state (loses state) record { last = refl; ports = same }) steady.rising;
    order = steady.order;
  };
  most = λ steady.
      let most = closed_most old new (Refuses HelperLost) (askers old.link.asks) state.ports state.last_port steady.rising (helper_at old.link.state) alike in
      omega (arith, most, closes, as_many);
  port = λ steady number port found some.
      let own = found_number number state.ports port found in
      elim (closed_at old new (Refuses HelperLost) (askers old.link.asks) state.ports state.last_port steady.rising (helper_at old.link.state) alike number port found own some) [
        | inl spared ↦ inl (ap (find_port number) is ∙ spared.0, spared.1)
        | inr less ↦ inr (omega (arith, less, closes, as_many))
      ];
}
  where
    old : UnderWay
    old = state.under_way

    new : UnderWay
    new = (lose state).state.under_way

    is : (lose state).state.ports ≡ tell_each (Refuses HelperLost) (askers old.link.asks) (close_confirmer (helper_at old.link.state) state.ports)
    is = ap (tell_each (Refuses HelperLost) (askers old.link.asks)) (helper-closed old.link.state state.ports)

    closes : ports_budget new (lose state).state.ports ≡ ports_budget new (tell_each (Refuses HelperLost) (askers old.link.asks) (close_confirmer (helper_at old.link.state) state.ports))
    closes = ap (ports_budget new) is

    as_many : length (askers old.link.asks) ≡ length old.link.asks
    as_many = length-map old.link.asks (λ (ask : Ask). ask.asker)

    alike : (port : Port) → helper_at old.link.state ≢ Some port.number
        → owed_by_port port new ≡ owed_by_port port old
    alike port other =
        let no_helper = not_helper old.link.state port.number other in
        owed_same port.door port old new (sym no_helper) refl (λ linked. let no : true ≡ false = sym linked ∙ no_helper in absurd (cc))

over_ends : (one : Confirmation) (state : State) → IsIn one state.under_way.confirmations
    → Ends state (over one state).state
over_ends one state there = record {
  steady = λ steady. record {
    rising = rising_behind state (over one state).state (follows-makes Tick state (overs one state there) record { last = refl; ports = same }) steady.rising;
    order =
        jobs-remove one.job 0 state.under_way.confirmations state.under_way.last_job steady.order;
  };
  most = λ steady.
      let most = closed_most old new (Refuses NotConfirmed) (one.asker ∷ []) state.ports state.last_port steady.rising one.port (alike steady) in
      omega (arith, most, removed_one one old.confirmations there);
  port = λ steady number port found some.
      elim (closed_at old new (Refuses NotConfirmed) (one.asker ∷ []) state.ports state.last_port steady.rising one.port (alike steady) number port found (found_number number state.ports port found) some) [
        | inl spared ↦ inl spared
        | inr less ↦ inr (omega (arith, less, removed_one one old.confirmations there))
      ];
}
  where
    old : UnderWay
    old = state.under_way

    new : UnderWay
    new = (over one state).state.under_way

    alike : IsSteady state → (port : Port) → one.port ≢ Some port.number
        → owed_by_port port new ≡ owed_by_port port old
    alike steady port other =
        owed_same port.door port old new refl
        (linked-removed port.number one 0 old.last_job old.confirmations steady.order there (elsewhere one.port port.number other)) (λ linked. refl)

-- what is taken in changes no budget
taken_in_ends : (moment : Moment) (state : State) → Ends state (taken_in moment state)
taken_in_ends moment state = record {
  steady = λ steady. record { rising = steady.rising; order = steady.order };
  most = λ steady. omega (arith, all_lower state.ports old new (λ port. omega (arith, owed_alike port old new (as_before port))));
  port = λ steady number port found some. inl (found, as_before port);
}
  where
    old : UnderWay
    old = state.under_way

    new : UnderWay
    new = (taken_in moment state).under_way

    as_before : (port : Port) → owed_by_port port new ≡ owed_by_port port old
    as_before port = owed_same port.door port old new refl refl (λ linked. refl)

-- time passes
pub time_ends : (moment : Moment) (state : State) → Ends state (at_moment moment state)
time_ends moment state =
    ends_in_turn state (taken_in moment state) (at_moment moment state) (taken_in_ends moment state)
    (time_passes-brings (λ s outcome. Ends s outcome.state) moment state nothing_ends lose_ends over_ends
    (λ s first later. ends_in_turn s first.state later.state))
