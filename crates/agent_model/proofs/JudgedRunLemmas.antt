-- Over events, what was judged of bindings stands, and connections are bound to what was proved on them.
use Rattle.std.proofs.Common.{◌≡◌, ℕ, suc, ◌<◌, ◌≤◌, List, [], ◌∷◌, ◌++◌, refl, ap, arith, sym, subst, ◌∙◌, nat_lt, Option, Some, None, Bool, true, false, inl, inr, if◌then◌else◌}
use Rattle.std.proofs.lemmas.Bool.Decides.{nat_tests}
use Rattle.world_ports.specs.declared.Door.{Door}
use Rattle.world_ports.specs.declared.Door.TheVariants.{Clients}
use Rattle.world_ports.specs.declared.Moment.{Moment}
use Rattle.wire_text.specs.Frames.{Front, Whole, Bad, More, front_body}
use Rattle.dest_rule.specs.Chains.{IsChain}
use Rattle.dest_rule.specs.declared.binding.Binding.{Binding}
use Rattle.agent_model.specs.Actions.{Action, Outcome, stay}
use Rattle.agent_model.specs.Bindings.{bound_after, chain_at, chain_of}
use Rattle.agent_model.specs.Children.{changed, heard_more}
use Rattle.agent_model.specs.Events.{Happening, Heard, Tick, Timed}
use Rattle.agent_model.specs.Fates.{actions_of}
use Rattle.agent_model.specs.Looks.{due}
use Rattle.agent_model.specs.Runs.{run}
use Rattle.agent_model.specs.Sound.{AreApart, IsJudged, IsTied}
use Rattle.agent_model.specs.State.{Port, Settings, State, find_port, first_state}
use Rattle.agent_model.specs.Step.{admitted, asker_at, handle, has_room, heard_at, look_front, look_port, looked, step}
use Rattle.agent_model.specs.Time.{at_moment, time_passes}
use Rattle.agent_model.proofs.BindLemmas.{bound_after-append}
use Rattle.agent_model.proofs.ClientLemmas.{handle-heard, looked-found}
use Rattle.agent_model.proofs.FatedLemmas.{step-fated}
use Rattle.agent_model.proofs.FatedMakeLemmas.{fated-makes, tied-taken}
use Rattle.agent_model.proofs.JudgeLemmas.{KeepsChains, keeps-absent, keeps-in_turn, keeps-same, no_bindings}
use Rattle.agent_model.proofs.JudgedLemmas.{Judges, judges-makes, silent_served}
use Rattle.agent_model.proofs.MakeLemmas.{Makes, by_event, loses, overs}
use Rattle.agent_model.proofs.PortsLemmas.{absent_above, found_number}
use Rattle.agent_model.proofs.RunLemmas.{at_moment-follows, handle-unused, leads-found, run-unused, step-rises}
use Rattle.agent_model.proofs.ServeLemmas.{serve-ends}
use Rattle.agent_model.proofs.TieLemmas.{found_joined, found_known}
use Rattle.agent_model.proofs.TimeLemmas.{AreEnds, at_moment-keeps, end, loss, no_more, one_more, time_passes-ends}

-- ---- an event

-- whoever is open is bound to what it was bound to and to what was proved besides; and nothing is proved for a port that
-- isn't open
pub record Adds (number : ℕ) (old : List Port) (outcome : Outcome) : Type 0 where
  pub bound : (port : Port) → find_port number outcome.state.ports ≡ Some port
      → port.chain ≡ bound_after number outcome.actions (chain_at number old)
  pub silent : (chain : List Binding) → find_port number old ≡ None
      → bound_after number outcome.actions chain ≡ chain

pub record Goes (old : State) (outcome : Outcome) : Type 0 where
  pub judged : IsJudged outcome.state
  pub adds : (number : ℕ) → Adds number old.ports outcome

goes-made : (old : State) (outcome : Outcome) → Judges old outcome → Goes old outcome
goes-made old outcome judges = record {
  judged = judges.judged;
  adds = λ number. record {
    bound = λ port found.
        let was = (judges.binds number).bound port found in
        was.2 ∙ ap (λ opened. bound_after number outcome.actions (chain_of opened)) (sym was.1);
    silent = (judges.binds number).silent;
  };
}

module _ (door : Door) (state : State) (tied : IsTied state) (judged : IsJudged state) where
  -- one more port
  abbrev with_port : Bool → State
  with_port room = record state { ports = admitted room (suc state.last_port) door state.ports; last_port = suc state.last_port }

  goes-admitted : (room : Bool)
      → Goes state (record (stay (with_port room)) { closes = if room then [] else suc state.last_port ∷ [] })
  goes-admitted false = record {
    judged = record { verified = judged.verified; given = judged.given; chains = judged.chains };
    adds = λ number. record { bound = λ port found. ap chain_of (sym found); silent = λ chain none. refl };
  }
  goes-admitted true = record {
    judged = record {
      verified = λ ask what one port noted there found. judged.verified ask what one port noted there (found_known what.asker state.last_port door state.ports port (tied.askers ask what there) found);
      given = judged.given;
      chains = λ number port found. elim (found_joined number (suc state.last_port) door state.ports port found) [
        | inl was ↦ judged.chains number port was
        | inr new ↦ subst (λ (p : Port). IsChain p.chain × AreApart p.chain) (sym new) no_bindings
      ];
    };
    adds = λ number. record {
      bound = λ port found. elim (found_joined number (suc state.last_port) door state.ports port found) [
        | inl was ↦ ap chain_of (sym was)
        | inr new ↦
            (let numbered : port.number ≡ number = found_number number _ port found in
            let is : port.number ≡ suc state.last_port = ap (λ (p : Port). p.number) new in
            let none : find_port number state.ports ≡ None = absent_above number 0 state.last_port state.ports tied.rising (omega (arith, numbered, is)) in
            ap (λ (p : Port). p.chain) new ∙ ap chain_of (sym none))
      ];
      silent = λ chain none. refl;
    };
  }

-- ---- a moment

-- what was judged stands, and everyone is bound to what it was bound to
record Keeps (start state : State) : Type 0 where
  tied : IsTied state
  judged : IsJudged state
  chains : KeepsChains start.ports state.ports

keeps-time : (moment : Moment) (state : State) → IsTied state → IsJudged state
    → Keeps state (at_moment moment state)
keeps-time moment state tied judged =
    at_moment-keeps (Keeps state) moment state
    (λ s kept. keep (loses s) (λ number chain. refl) kept) (λ one s there kept. keep (overs one s there) (λ number chain. refl) kept)
    record {
      tied = tied-taken moment state tied;
      judged = record { verified = judged.verified; given = judged.given; chains = judged.chains };
      chains = keeps-same state.ports;
    }
  where
    keep : {old : State} {outcome : Outcome} → Makes Tick old outcome
        → ((number : ℕ) (chain : List Binding) → bound_after number outcome.actions chain ≡ chain)
        → Keeps state old → Keeps state outcome.state
    keep {old} {outcome} makes silent kept =
        let judges = judges-makes makes kept.tied kept.judged in
        record {
          tied = (fated-makes makes kept.tied).tied;
          judged = judges.judged;
          chains = keeps-in_turn state.ports old.ports outcome.state.ports kept.chains
              (λ number port found. let was = (judges.binds number).bound port found in (was.0, was.1, was.2 ∙ silent number was.0.chain));
        }

-- it binds nobody
ends-bind_none : (number : ℕ) (actions : List Action) (chain : List Binding) → AreEnds actions
    → bound_after number actions chain ≡ chain
ends-bind_none number actions chain no_more = refl
ends-bind_none number actions chain (one_more action later loss ends) =
    ends-bind_none number later chain ends
ends-bind_none number actions chain (one_more action later (end job) ends) =
    ends-bind_none number later chain ends

bound-time : (number : ℕ) (moment : Moment) (state : State) (more : List Action) (chain : List Binding) → bound_after number ((time_passes moment state).actions ++ more) chain ≡ bound_after number more chain
bound-time number moment state more chain =
    bound_after-append number (time_passes moment state).actions more chain
    ∙ ap (bound_after number more) (ends-bind_none number (time_passes moment state).actions chain (time_passes-ends moment state))

-- each event
pub step-judged : (state : State) (moment : Moment) (event : Happening) → IsTied state
    → IsJudged state → Goes state (step state moment event)
step-judged state moment event tied judged = record {
  judged = goes.judged;
  adds = λ number. record {
    bound = λ port found. by_open number port found (find_port number opened.ports) refl ∙ sym (bound-time number moment state handled.actions (chain_at number state.ports));
    silent = λ chain none. bound-time number moment state handled.actions chain
        ∙ (goes.adds number).silent chain (keeps-absent state.ports opened.ports number kept.chains none);
  };
}
  where
    opened : State
    opened = at_moment moment state

    kept : Keeps state opened
    kept = keeps-time moment state tied judged

    handled : Outcome
    handled = handle event opened

    goes : Goes opened handled
    goes = by_event (Goes opened) event opened (λ door. goes-admitted door opened kept.tied kept.judged (has_room door opened.ports opened.under_way)) (λ outcome makes. goes-made opened outcome (judges-makes makes kept.tied kept.judged))

    -- one that wasn't open joined
    by_test : (number : ℕ) (port : Port) → find_port number handled.state.ports ≡ Some port
        → (above : Bool) → nat_lt opened.last_port number ≡ above
        → find_port number opened.ports ≡ None → chain_of None ≡ chain_at number state.ports
    by_test number port found true is none =
        let follows = at_moment-follows moment state in
        let over : opened.last_port < number = grind (arith, nat_tests) in
        ap chain_of (sym (absent_above number 0 state.last_port state.ports tied.rising (omega (arith, over, follows.last))))
    by_test number port found false is none =
        let under : number ≤ opened.last_port = grind (arith, nat_tests) in
        let gone : None ≡ Some port = sym (handle-unused opened event number under none) ∙ found in
        absurd (cc)

    by_open : (number : ℕ) (port : Port) → find_port number handled.state.ports ≡ Some port
        → (was : Option Port) → find_port number opened.ports ≡ was
        → port.chain ≡ bound_after number handled.actions (chain_at number state.ports)
    by_open number port found None is =
        (goes.adds number).bound port found
        ∙ ap (λ o. bound_after number handled.actions (chain_of o)) is
        ∙ ap (bound_after number handled.actions) (by_test number port found (nat_lt opened.last_port number) refl is)
    by_open number port found (Some was) is =
        let before = kept.chains number was is in
        (goes.adds number).bound port found
        ∙ ap (λ o. bound_after number handled.actions (chain_of o)) is
        ∙ ap (bound_after number handled.actions) (before.2 ∙ ap chain_of (sym before.1))

-- ---- runs

pub first-judged : (settings : Settings) → IsJudged (first_state settings)
first-judged settings = record {
  verified = λ ask what one port noted there found. absurd (cc);
  given = λ ask one noted. absurd (cc);
  chains = λ number port found. absurd (cc);
}

pub run-judged : (state : State) (events : List Timed) → IsTied state → IsJudged state
    → IsJudged (run state events)
run-judged state [] tied judged = judged
run-judged state (timed ∷ later) tied judged =
    run-judged (step state timed.moment timed.event).state later (step-fated state timed.moment timed.event tied).tied (step-judged state timed.moment timed.event tied judged).judged

-- the bindings of a connection are those that were proved
pub run-bound : (number : ℕ) (state : State) (events : List Timed) → IsTied state → IsJudged state
    → (port : Port) → find_port number (run state events).ports ≡ Some port
    → port.chain ≡ bound_after number (actions_of state events) (chain_at number state.ports)
run-bound number state [] tied judged port found = ap chain_of (sym found)
run-bound number state (timed ∷ later) tied judged port found =
    run-bound number mid later tied_mid goes.judged port found
    ∙ ap (bound_after number (actions_of mid later)) (by_found (find_port number mid.ports) refl)
    ∙ sym (bound_after-append number (step state timed.moment timed.event).actions (actions_of mid later) (chain_at number state.ports))
  where
    mid : State
    mid = (step state timed.moment timed.event).state

    tied_mid : IsTied mid
    tied_mid = (step-fated state timed.moment timed.event tied).tied

    goes : Goes state (step state timed.moment timed.event)
    goes = step-judged state timed.moment timed.event tied judged

    by_test : (above : Bool) → nat_lt mid.last_port number ≡ above
        → find_port number mid.ports ≡ None
        → [] ≡ bound_after number (step state timed.moment timed.event).actions (chain_at number state.ports)
    by_test true is none =
        let rises : state.last_port ≤ mid.last_port = step-rises state timed.moment timed.event in
        let over : mid.last_port < number = grind (arith, nat_tests) in
        let before : find_port number state.ports ≡ None = absent_above number 0 state.last_port state.ports tied.rising (omega (arith, rises, over)) in
        sym ((goes.adds number).silent [] before) ∙ ap (λ opened. bound_after number (step state timed.moment timed.event).actions (chain_of opened)) (sym before)
    by_test false is none =
        let under : number ≤ mid.last_port = grind (arith, nat_tests) in
        let gone : None ≡ Some port = sym (run-unused mid later number under none) ∙ found in
        absurd (cc)

    by_found : (opened : Option Port) → find_port number mid.ports ≡ opened
        → chain_of opened ≡ bound_after number (step state timed.moment timed.event).actions (chain_at number state.ports)
    by_found None is = by_test (nat_lt mid.last_port number) refl is
    by_found (Some between) is = (goes.adds number).bound between is

-- ---- what a client sends

-- nothing is proved by it
silent_look : (number : ℕ) (chain : List Binding) (answer : Front) (port : Port) (state : State)
    → bound_after number (look_front answer port state).actions chain ≡ chain
silent_look number chain (Whole body_len) port state =
    silent_served number chain (serve-ends (asker_at state.moment port) state.held state.under_way (front_body body_len port.heard))
silent_look number chain (Bad announced) port state = refl
silent_look number chain More port state = refl

silent_looked : (number at : ℕ) (chain : List Binding) (found : Option Port) (state : State)
    → find_port at state.ports ≡ found → bound_after number (looked at state).actions chain ≡ chain
silent_looked number at chain None state is =
    ap (λ (o : Option Port). bound_after number (look_port o state).actions chain) is
silent_looked number at chain (Some port) state is =
    ap (λ (o : Outcome). bound_after number o.actions chain) (looked-found at port state (due port) is refl)
    ∙ silent_look number chain (due port) port state

-- so it binds nobody
pub client-binds_none : (state : State) (moment : Moment) (at : ℕ) (piece : List ℕ) (client : Port) (number : ℕ) (port : Port)
    → IsTied state → IsJudged state → find_port at state.ports ≡ Some client → client.door ≡ Clients
    → find_port number (step state moment (Heard at piece)).state.ports ≡ Some port
    → port.chain ≡ chain_at number state.ports
client-binds_none state moment at piece client number port tied judged there door found =
    ((step-judged state moment (Heard at piece) tied judged).adds number).bound port found
    ∙ bound-time number moment state (handle (Heard at piece) opened).actions (chain_at number state.ports)
    ∙ by_open (find_port at opened.ports) refl
  where
    opened : State
    opened = at_moment moment state

    by_open : (still : Option Port) → find_port at opened.ports ≡ still
        → bound_after number (handle (Heard at piece) opened).actions (chain_at number state.ports) ≡ chain_at number state.ports
    by_open None is = ap (λ o. bound_after number (heard_at o piece opened).actions (chain_at number state.ports)) is
    by_open (Some now) is =
        let follows = at_moment-follows moment state in
        let was = leads-found at 0 state.last_port state.ports now follows.ports tied.rising is in
        let same : Some was.0 ≡ Some client = sym was.1 ∙ there in
        let equal : was.0 ≡ client = cc in
        ap (λ (o : Outcome). bound_after number o.actions (chain_at number state.ports)) (handle-heard at piece now opened is (was.2 ∙ ap (λ (p : Port). p.door) equal ∙ door))
        ∙ silent_looked number at (chain_at number state.ports) _ (changed at (heard_more piece) opened) refl
