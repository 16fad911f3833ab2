-- Over all events, what is listed is what the past tells.
use Rattle.std.proofs.Common.{◌≡◌, ℕ, suc, ◌<◌, ◌≤◌, nat_lt, List, [], ◌∷◌, refl, sym, ap, subst, ◌∙◌, ◌⊎◌, inl, inr, arith, Bool, true, false, is_some, Option, Some, None, Ok}
use Rattle.std.proofs.lemmas.Bool.Decides.{nat_tests}
use Rattle.std.proofs.Math.Nat.{le-max_left}
use Rattle.world_ports.specs.declared.Door.{Door}
use Rattle.world_ports.specs.declared.Moment.{Moment}
use Rattle.agent_msg.specs.Requests.{ListIdentities}
use Rattle.agent_model.specs.Actions.{Action, Outcome, Requested, Requesting}
use Rattle.agent_model.specs.Answers.{lose}
use Rattle.agent_model.specs.Bindings.{bound_after, chain_of}
use Rattle.agent_model.specs.Binds.{agent_request_of}
use Rattle.agent_model.specs.Consents.{over}
use Rattle.agent_model.specs.Events.{Happening, Tick, Timed}
use Rattle.agent_model.specs.Grants.{IsAmong}
use Rattle.agent_model.specs.Runs.{Stamped, history, run, stamped}
use Rattle.agent_model.specs.Sound.{IsJudged, IsTied}
use Rattle.agent_model.specs.State.{Port, Settings, State, find_port, first_state}
use Rattle.agent_model.specs.Step.{admitted, handle, has_room, join, step}
use Rattle.agent_model.specs.Time.{at_moment, taken_in, time_passes}
use Rattle.agent_model.specs.Verdicts.{Identities, NotConfirmed, Refuses, Replies}
use Rattle.agent_model.proofs.ActionLemmas.{Each, among-each}
use Rattle.agent_model.proofs.FatedLemmas.{first-tied, run-tied, step-fated}
use Rattle.agent_model.proofs.FatedMakeLemmas.{fated-makes, tied-taken}
use Rattle.agent_model.proofs.JudgeLemmas.{KeepsChains, keeps-in_turn, keeps-same}
use Rattle.agent_model.proofs.JudgedLemmas.{judges-makes}
use Rattle.agent_model.proofs.JudgedRunLemmas.{Adds, first-judged, run-judged, step-judged}
use Rattle.agent_model.proofs.MakeLemmas.{by_event, loses, overs}
use Rattle.agent_model.proofs.PortsLemmas.{absent_above, found_number}
use Rattle.agent_model.proofs.RunLemmas.{at_moment-follows, handle-unused, step-rises}
use Rattle.agent_model.proofs.TieLemmas.{found_joined}
use Rattle.agent_model.proofs.TimeKeptLemmas.{keeps_time-handle}
use Rattle.agent_model.proofs.TimeLemmas.{AreEnds, at_moment-keeps, end, loss, no_more, one_more, time_passes-ends}
use Rattle.agent_laws.specs.Dues.{proved_of}
use Rattle.agent_laws.specs.History.{onto}
use Rattle.agent_laws.specs.Past.{was_locked}
use Rattle.agent_laws.proofs.HoldsLemmas.{Holds, facts_of, facts_then, fresh-expired, holds-expired, holds-first}
use Rattle.agent_laws.proofs.PastLemmas.{onto-append, stamp, stamps}
use Rattle.agent_laws.proofs.PendingLemmas.{among-either}
use Rattle.agent_laws.proofs.StepLemmas.{facts-onto}
use Rattle.list_laws.specs.Lists.{IsListed, in_order, listed_to, past_of, tried}
use Rattle.list_laws.proofs.FoundLemmas.{AreInOrder, order-alive}
use Rattle.list_laws.proofs.ListLemmas.{AreListed, Goes, Knows, ListAlone, ListedAs, goes-makes}
use Rattle.list_laws.proofs.OrderLemmas.{HoldsBehind, IsIdle, facts-append, holds-idle, idle-facts, idle-order_more, order-onto, order_then}
use Rattle.list_laws.proofs.TriedLemmas.{IsUnasked, KeepTries, idle-tried_more, tried-onto, tried_then, tries-absent, tries-ended, tries-in_turn, tries-lose, tries-same}

-- ---- between events

-- the past tells what is held and its order, what connections are bound to and whether they tried, and nothing of ports
-- that haven't joined
record Tells (life : Option ℕ) (past : List Stamped) (state : State) : Type 0 where
  holds : Holds life state.moment.mono (facts_of past) state.held
  order : AreInOrder (in_order life past) state.held.table.identities
  chains : (number : ℕ) (port : Port) → find_port number state.ports ≡ Some port
      → proved_of number past ≡ port.chain
  tries : (number : ℕ) (port : Port) → find_port number state.ports ≡ Some port
      → tried number past ≡ port.attempted
  unbound : (number : ℕ) → state.last_port < number → proved_of number past ≡ []
  untried : (number : ℕ) → state.last_port < number → tried number past ≡ false

-- what is proved behind the past
proved-onto : (number : ℕ) (moment : Moment) (past : List Stamped) (actions : List Action)
    → proved_of number (onto past (stamps moment actions)) ≡ bound_after number actions (proved_of number past)
proved-onto number moment past [] = refl
proved-onto number moment past (action ∷ later) = proved-onto number moment (stamp moment action ∷ past) later

-- ---- a moment

-- it takes in the time, and leaves ports as they are or closed
record Opens (moment : Moment) (start state : State) : Type 0 where
  tied : IsTied state
  judged : IsJudged state
  held : state.held ≡ (taken_in moment start).held
  time : state.moment ≡ (taken_in moment start).moment
  chains : KeepsChains start.ports state.ports
  tries : KeepTries start.ports state.ports

opens-moment : (moment : Moment) (state : State) → IsTied state → IsJudged state → Opens moment state (at_moment moment state)
opens-moment moment state tied judged =
    at_moment-keeps (Opens moment state) moment state
    (λ s opens.
    let judges = judges-makes {event = Tick} (loses s) opens.tied opens.judged in
    record {
      tied = (fated-makes {event = Tick} (loses s) opens.tied).tied;
      judged = judges.judged;
      held = opens.held;
      time = opens.time;
      chains = keeps-in_turn state.ports s.ports (lose s).state.ports opens.chains (λ number port found. (judges.binds number).bound port found);
      tries = tries-in_turn state.ports s.ports (lose s).state.ports opens.tries (tries-lose s opens.tied.rising);
    })
    (λ one s there opens.
    let judges = judges-makes {event = Tick} (overs one s there) opens.tied opens.judged in
    record {
      tied = (fated-makes {event = Tick} (overs one s there) opens.tied).tied;
      judged = judges.judged;
      held = opens.held;
      time = opens.time;
      chains = keeps-in_turn state.ports s.ports (over one s).state.ports opens.chains (λ number port found. (judges.binds number).bound port found);
      tries = tries-in_turn state.ports s.ports (over one s).state.ports opens.tries (tries-ended one (Refuses NotConfirmed) s opens.tied.rising);
    })
    record {
      tied = tied-taken moment state tied;
      judged = record { verified = judged.verified; given = judged.given; chains = judged.chains };
      held = refl;
      time = refl;
      chains = keeps-same state.ports;
      tries = tries-same state.ports;
    }

-- its actions do nothing to what is held, and aren't requests
ends-idle : (actions : List Action) → AreEnds actions → Each IsIdle actions
ends-idle actions no_more = tt
ends-idle actions (one_more action later loss ends) = (tt, ends-idle later ends)
ends-idle actions (one_more action later (end job) ends) = (tt, ends-idle later ends)

ends-unasked : (actions : List Action) → AreEnds actions → Each IsUnasked actions
ends-unasked actions no_more = tt
ends-unasked actions (one_more action later loss ends) = (tt, ends-unasked later ends)
ends-unasked actions (one_more action later (end job) ends) = (tt, ends-unasked later ends)

-- ---- an event behind its moment

-- whether the client of an open port tried
abbrev attempted_of : Option Port → Bool
attempted_of None = false
attempted_of (Some port) = port.attempted

record Handles (life : Option ℕ) (past : List Stamped) (old : State) (outcome : Outcome) : Type 0 where
  behind : HoldsBehind life old.moment.mono (facts_of past) (in_order life past) outcome.actions outcome.state.held
  bound : (number : ℕ) (port : Port) → find_port number outcome.state.ports ≡ Some port
      → port.attempted ≡ tried_then number outcome.actions (is_some old.held.lock) (attempted_of (find_port number old.ports))
  silent : (number : ℕ) (before : Bool) → find_port number old.ports ≡ None
      → tried_then number outcome.actions (is_some old.held.lock) before ≡ before
  lists : AreListed life past outcome
  alone : ListAlone outcome

handles-made : (life : Option ℕ) (past : List Stamped) (old : State) (outcome : Outcome) → Goes life past old outcome
    → Handles life past old outcome
handles-made life past old outcome goes = record {
  behind = goes.behind;
  bound = λ number port found.
      let was = (goes.tries number).bound port found in
      was.2 ∙ ap (λ o. tried_then number outcome.actions (is_some old.held.lock) (attempted_of o)) (sym was.1);
  silent = λ number. (goes.tries number).silent;
  lists = goes.lists;
  alone = goes.alone;
}

handles-joined : (life : Option ℕ) (past : List Stamped) (door : Door) (state : State) → IsTied state
    → Knows life past state → Handles life past state (join door state)
handles-joined life past door state tied knows = record {
  behind = holds-idle life state.moment.mono (facts_of past) (in_order life past) [] state.held tt knows.holds knows.order;
  bound = λ number port found. by_room (has_room door state.ports state.under_way) number port found;
  silent = λ number before none. refl;
  lists = λ requesting among is. absurd among;
  alone = λ requesting identities among is. absurd among;
}
  where
    by_room : (room : Bool) (number : ℕ) (port : Port)
        → find_port number (admitted room (suc state.last_port) door state.ports) ≡ Some port
        → port.attempted ≡ attempted_of (find_port number state.ports)
    by_room false number port found = ap attempted_of (sym found)
    by_room true number port found = elim (found_joined number (suc state.last_port) door state.ports port found) [
      | inl was ↦ ap attempted_of (sym was)
      | inr new ↦
          (let numbered : port.number ≡ number = found_number number _ port found in
          let is : port.number ≡ suc state.last_port = ap (λ (p : Port). p.number) new in
          let none : find_port number state.ports ≡ None = absent_above number 0 state.last_port state.ports tied.rising (omega (arith, numbered, is)) in
          ap (λ (p : Port). p.attempted) new ∙ ap attempted_of (sym none))
    ]

module _ (life : Option ℕ) (past : List Stamped) (state : State) (moment : Moment) (event : Happening) (tied : IsTied state) (judged : IsJudged state) (tells : Tells life past state) where
  abbrev opened : State
  opened = at_moment moment state

  abbrev taken : State
  taken = taken_in moment state

  abbrev handled : Outcome
  handled = handle event opened

  abbrev after : Outcome
  after = step state moment event

  abbrev passing : List Action
  passing = (time_passes moment state).actions

  opens : Opens moment state opened
  opens = opens-moment moment state tied judged

  passing_idle : Each IsIdle passing
  passing_idle = ends-idle passing (time_passes-ends moment state)

  passing_unasked : Each IsUnasked passing
  passing_unasked = ends-unasked passing (time_passes-ends moment state)

  -- as the moment is taken in
  holds_now : Holds life taken.moment.mono (facts_of past) taken.held
  holds_now = holds-expired life state.moment.mono taken.moment.mono (facts_of past) state.held (le-max_left state.moment.mono moment.mono) tells.holds

  knows : Knows life past opened
  knows = record {
    holds = rw (opens.held, opens.time) holds_now;
    fresh = rw (opens.held, opens.time) (λ blob. fresh-expired taken.moment.mono state.held blob tells.holds.own);
    order = rw opens.held (order-alive taken.moment.mono (in_order life past) state.held.table.identities tells.holds.own tells.order);
    chains = λ number port found. let was = opens.chains number port found in tells.chains number was.0 was.1 ∙ sym was.2;
    tried = λ number port found. let was = opens.tries number port found in tells.tries number was.0 was.1 ∙ sym was.2;
  }

  handles : Handles life past opened handled
  handles =
      by_event (Handles life past opened) event opened (λ door. handles-joined life past door opened opens.tied knows)
      (λ outcome makes. handles-made life past opened outcome (goes-makes life past makes opens.tied knows))

  -- the event keeps the moment
  same_moment : after.state.moment ≡ opened.moment
  same_moment = (keeps_time-handle event opened).moment

  abbrev told_then : List Stamped
  told_then = onto past (stamped after)

  -- what is held
  facts_now : facts_of told_then ≡ facts_then handled.actions after.state.moment.mono (facts_of past)
  facts_now =
      facts-onto after.state.moment past after.actions
      ∙ facts-append passing handled.actions after.state.moment.mono (facts_of past)
      ∙ ap (facts_then handled.actions after.state.moment.mono) (idle-facts passing after.state.moment.mono (facts_of past) passing_idle)

  order_now : in_order life told_then ≡ order_then life handled.actions after.state.moment.mono (facts_of past) (in_order life past)
  order_now =
      order-onto life after.state.moment past after.actions
      ∙ idle-order_more life passing handled.actions after.state.moment.mono (facts_of past) (in_order life past) passing_idle

  behind_now : HoldsBehind life after.state.moment.mono (facts_of past) (in_order life past) handled.actions after.state.held
  behind_now = subst (λ (m : Moment). HoldsBehind life m.mono (facts_of past) (in_order life past) handled.actions after.state.held) (sym same_moment) handles.behind

  -- who tried
  tried_now : (number : ℕ) → tried number told_then ≡ tried_then number handled.actions (is_some opened.held.lock) (tried number past)
  tried_now number =
      tried-onto number after.state.moment past after.actions
      ∙ idle-tried_more number passing handled.actions (was_locked past) (tried number past) passing_idle
      ∙ ap (λ l. tried_then number handled.actions l (tried number past)) knows.holds.locked

  -- nobody is at a port that hasn't joined
  above_of : (number : ℕ) (port : Port) → find_port number handled.state.ports ≡ Some port
      → find_port number opened.ports ≡ None → state.last_port < number
  above_of number port found none = by_test (nat_lt opened.last_port number) refl
    where
      follows : opened.last_port ≡ state.last_port
      follows = (at_moment-follows moment state).last

      by_test : (over : Bool) → nat_lt opened.last_port number ≡ over → state.last_port < number
      by_test true test =
          let above : opened.last_port < number = grind (arith, nat_tests) in
          omega (arith, above, follows)
      by_test false test =
          let under : number ≤ opened.last_port = grind (arith, nat_tests) in
          let gone : None ≡ Some port = sym (handle-unused opened event number under none) ∙ found in
          absurd (cc)

  -- what is told of a port that is open afterwards
  tried_port : (number : ℕ) (port : Port) → find_port number after.state.ports ≡ Some port
      → tried number told_then ≡ port.attempted
  tried_port number port found =
      tried_now number
      ∙ ap (tried_then number handled.actions (is_some opened.held.lock)) (by_found (find_port number opened.ports) refl)
      ∙ sym (handles.bound number port found)
    where
      by_found : (was : Option Port) → find_port number opened.ports ≡ was
          → tried number past ≡ attempted_of (find_port number opened.ports)
      by_found None is = tells.untried number (above_of number port found is) ∙ ap attempted_of (sym is)
      by_found (Some was) is = knows.tried number was is ∙ ap attempted_of (sym is)

  adds : (number : ℕ) → Adds number state.ports after
  adds number = (step-judged state moment event tied judged).adds number

  bound_port : (number : ℕ) (port : Port) → find_port number after.state.ports ≡ Some port
      → proved_of number told_then ≡ port.chain
  bound_port number port found =
      proved-onto number after.state.moment past after.actions
      ∙ ap (bound_after number after.actions) (by_found (find_port number state.ports) refl)
      ∙ sym ((adds number).bound port found)
    where
      by_found : (was : Option Port) → find_port number state.ports ≡ was → proved_of number past ≡ chain_of was
      by_found (Some was) is = tells.chains number was is
      by_found None is =
          tells.unbound number (above_of number port found (tries-absent state.ports opened.ports number opens.tries is))

  -- and of one that hasn't joined
  absent : (number : ℕ) → after.state.last_port < number → find_port number state.ports ≡ None
  absent number above =
      absent_above number 0 state.last_port state.ports tied.rising (omega (arith, above, step-rises state moment event))

  unbound_port : (number : ℕ) → after.state.last_port < number → proved_of number told_then ≡ []
  unbound_port number above =
      proved-onto number after.state.moment past after.actions
      ∙ ap (bound_after number after.actions) (tells.unbound number (omega (arith, above, step-rises state moment event)))
      ∙ (adds number).silent [] (absent number above)

  untried_port : (number : ℕ) → after.state.last_port < number → tried number told_then ≡ false
  untried_port number above =
      tried_now number
      ∙ ap (tried_then number handled.actions (is_some opened.held.lock)) (tells.untried number (omega (arith, above, step-rises state moment event)))
      ∙ handles.silent number false (tries-absent state.ports opened.ports number opens.tries (absent number above))

  step-tells : Tells life told_then after.state
  step-tells = record {
    holds = subst (λ facts. Holds life after.state.moment.mono facts after.state.held) (sym facts_now) behind_now.holds;
    order = subst (λ blobs. AreInOrder blobs after.state.held.table.identities) (sym order_now) behind_now.order;
    chains = bound_port;
    tries = tried_port;
    unbound = unbound_port;
    untried = untried_port;
  }

  -- what is listed in the event
  step-lists : AreListed life past after
  step-lists requesting among is =
      by_either (among-either (Requested requesting) passing handled.actions among)
    where
      by_either : IsAmong (Requested requesting) passing ⊎ IsAmong (Requested requesting) handled.actions
          → ListedAs after.state requesting (listed_to life requesting.port after.state.moment past)
      by_either (inl before) =
          absurd (among-each IsUnasked (Requested requesting) passing (λ no. no) passing_unasked before)
      by_either (inr now) =
          let listed = handles.lists requesting now is in
          record { verdict = listed.verdict; owed = listed.owed }

  step-alone : ListAlone after
  step-alone requesting identities among is =
      by_either (among-either (Requested requesting) passing handled.actions among)
    where
      by_either : IsAmong (Requested requesting) passing ⊎ IsAmong (Requested requesting) handled.actions
          → agent_request_of requesting.body ≡ Ok ListIdentities
      by_either (inl before) =
          absurd (among-each IsUnasked (Requested requesting) passing (λ no. no) passing_unasked before)
      by_either (inr now) = handles.alone requesting identities now is

-- ---- runs

first-tells : (settings : Settings) → Tells settings.life [] (first_state settings)
first-tells settings = record {
  holds = holds-first settings.life;
  order = refl;
  chains = λ number port found. absurd (cc);
  tries = λ number port found. absurd (cc);
  unbound = λ number above. refl;
  untried = λ number above. refl;
}

run-tells : (life : Option ℕ) (past : List Stamped) (state : State) (events : List Timed) → IsTied state → IsJudged state
    → Tells life past state → Tells life (onto past (history state events)) (run state events)
run-tells life past state [] tied judged tells = tells
run-tells life past state (timed ∷ later) tied judged tells =
    subst (λ all. Tells life all (run after.state later)) (sym (onto-append past (stamped after) (history after.state later)))
    (run-tells life (onto past (stamped after)) after.state later (step-fated state timed.moment timed.event tied).tied (step-judged state timed.moment timed.event tied judged).judged
    (step-tells life past state timed.moment timed.event tied judged tells))
  where
    after : Outcome
    after = step state timed.moment timed.event

-- from the first state on
module _ (settings : Settings) (before : List Timed) where
  abbrev reached : State
  reached = run (first_state settings) before

  reached_tied : IsTied reached
  reached_tied = run-tied (first_state settings) before (first-tied settings)

  reached_judged : IsJudged reached
  reached_judged = run-judged (first_state settings) before (first-tied settings) (first-judged settings)

  told : Tells settings.life (past_of settings before) reached
  told = run-tells settings.life [] (first_state settings) before (first-tied settings) (first-judged settings) (first-tells settings)

  -- what is known as an event begins
  pub each-knows : (moment : Moment) → Knows settings.life (past_of settings before) (at_moment moment reached)
  each-knows moment =
      knows settings.life (past_of settings before) reached moment Tick reached_tied reached_judged told

  pub each-listed : (one : Timed) (requesting : Requesting)
      → IsAmong (Requested requesting) (step reached one.moment one.event).actions
      → agent_request_of requesting.body ≡ Ok ListIdentities → IsListed settings before one requesting
  each-listed one requesting among is =
      let listed = step-lists settings.life (past_of settings before) reached one.moment one.event reached_tied reached_judged told requesting among is in
      record { verdict = listed.verdict; owed = listed.owed }

  pub each-alone : (one : Timed) (requesting : Requesting) (identities : List (List ℕ × List ℕ))
      → IsAmong (Requested requesting) (step reached one.moment one.event).actions
      → requesting.verdict ≡ Replies (Identities identities) → agent_request_of requesting.body ≡ Ok ListIdentities
  each-alone one requesting identities =
      step-alone settings.life (past_of settings before) reached one.moment one.event reached_tied reached_judged told requesting identities
