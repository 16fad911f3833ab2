-- Over all events, signatures are put to the helper exactly where the past says so.
use Rattle.std.proofs.Common.{◌≡◌, ℕ, ◌<◌, ◌≤◌, nat_lt, Bool, true, false, List, [], ◌∷◌, refl, ap, arith, sym, subst, ◌∙◌, Option, Some, None}
use Rattle.std.proofs.lemmas.Bool.Decides.{nat_tests}
use Rattle.std.proofs.Math.Nat.{le-max_left}
use Rattle.world_ports.specs.declared.Door.{Door}
use Rattle.world_ports.specs.declared.Moment.{Moment}
use Rattle.agent_model.specs.Actions.{Action, Outcome, behind}
use Rattle.agent_model.specs.Bindings.{bound_after, chain_of}
use Rattle.agent_model.specs.Events.{Happening, Tick, Timed}
use Rattle.agent_model.specs.Runs.{Stamped, history, run, stamped}
use Rattle.agent_model.specs.Sound.{IsJudged, IsTied}
use Rattle.agent_model.specs.State.{Port, Settings, State, find_port, first_state}
use Rattle.agent_model.specs.Step.{handle, join, step}
use Rattle.agent_model.specs.Time.{at_moment, taken_in, time_passes}
use Rattle.agent_model.proofs.FatedLemmas.{first-tied, step-fated, tied-opened}
use Rattle.agent_model.proofs.JudgedRunLemmas.{Adds, first-judged, step-judged}
use Rattle.agent_model.proofs.PortsLemmas.{absent_above}
use Rattle.agent_model.proofs.MakeLemmas.{by_event, loses, overs}
use Rattle.agent_model.proofs.JudgedLemmas.{judges-makes}
use Rattle.agent_model.proofs.NumberLemmas.{run-grows}
use Rattle.agent_model.proofs.RunLemmas.{step-rises, step-unused}
use Rattle.agent_secrecy.proofs.AppendLemmas.{step-appends}
use Rattle.agent_laws.specs.Dues.{proved_of}
use Rattle.agent_laws.specs.History.{ArePutWhereDue, HasNumbers, IsLawful, onto}
use Rattle.agent_laws.specs.Puts.{ArePut, IsPutAsAsked, messages_of}
use Rattle.agent_laws.specs.Puts as puts
use Rattle.agent_laws.proofs.HoldsLemmas.{fresh-expired, holds-expired, holds-first, numbers-expired}
use Rattle.agent_laws.proofs.RaisedLemmas.{all_raised-kept}
use Rattle.agent_laws.proofs.MadeLemmas.{agrees-more, goes-makes, lawful-more}
use Rattle.agent_laws.proofs.MessageLemmas.{puts-append, puts-more}
use Rattle.agent_laws.proofs.MomentLemmas.{judged-brings}
use Rattle.agent_laws.proofs.PastLemmas.{LawfulIf, lawful-append, lawful-if, only-if, onto-append, stamp, stamps, stamps-append}
use Rattle.agent_laws.proofs.StepLemmas.{Agrees, Goes, Opened}

-- the past tells what a state holds, what its connections are bound to, and nothing of ports that haven't joined
pub record Tells (N : Type 0) (life : Option ℕ) (past : List Stamped) (state : State) : Type 0 where
  pub agrees : Agrees N life state.moment.mono past state.held state.under_way.link.asks state.under_way.confirmations
  pub chains : (number : ℕ) (port : Port) → find_port number state.ports ≡ Some port
      → proved_of number past ≡ port.chain
  pub unborn : (number : ℕ) → state.last_port < number → proved_of number past ≡ []

-- what is proved behind the past
proved-onto : (number : ℕ) (moment : Moment) (past : List Stamped) (actions : List Action)
    → proved_of number (onto past (stamps moment actions)) ≡ bound_after number actions (proved_of number past)
proved-onto number moment past [] = refl
proved-onto number moment past (action ∷ later) =
    proved-onto number moment (stamp moment action ∷ past) later

-- ---- a moment, and an event behind it

-- both go, one after the other
goes-in_turn : {N : Type 0} (life : Option ℕ) (past : List Stamped) (state : State) (some more : Outcome)
    → Goes N life past state some
    → Goes N life (onto past (stamps state.moment some.actions)) some.state more
    → Goes N life past state (behind some more)
goes-in_turn {N = N} life past state some more one two = record {
  lawful = lawful-more N life state.moment past some.actions more.actions one.lawful
      (subst (λ m. LawfulIf N life (onto past (stamps state.moment some.actions)) (stamps m more.actions)) one.moment two.lawful);
  agrees = agrees-more life state.moment past some.actions more.actions more.state.held more.state.under_way.link.asks more.state.under_way.confirmations
      (subst (λ (m : Moment). Agrees N life m.mono (onto (onto past (stamps state.moment some.actions)) (stamps m more.actions)) more.state.held more.state.under_way.link.asks more.state.under_way.confirmations) one.moment two.agrees);
  moment = two.moment ∙ one.moment;
  puts = puts-more state.moment past some.actions more.actions some.put more.put one.puts
      (subst (λ m. ArePut (onto past (stamps state.moment some.actions)) (stamps m more.actions) more.put) one.moment two.puts);
}

-- what goes, and what it leaves as the next thing begins
record Left (N : Type 0) (life : Option ℕ) (past : List Stamped) (old : State) (outcome : Outcome) : Type 0 where
  goes : Goes N life past old outcome
  opened : Opened N life (onto past (stamps old.moment outcome.actions)) outcome.state

-- behind any past
abbrev Leaves : Type 0 → Option ℕ → State → Outcome → Type 0
Leaves N life old outcome =
    (past : List Stamped) → Opened N life past old → Left N life past old outcome

leaves-in_turn : {N : Type 0} (life : Option ℕ) (state : State) (some more : Outcome)
    → Leaves N life state some → Leaves N life some.state more
    → Leaves N life state (behind some more)
leaves-in_turn {N = N} life state some more first then past opened =
    let one = first past opened in
    let two = then (onto past (stamps state.moment some.actions)) one.opened in
    record {
      goes = goes-in_turn life past state some more one.goes two.goes;
      opened = subst (λ whole. Opened N life whole more.state)
          (ap (λ m. onto (onto past (stamps state.moment some.actions)) (stamps m more.actions)) one.goes.moment
          ∙ sym (ap (onto past) (stamps-append state.moment some.actions more.actions) ∙ onto-append past (stamps state.moment some.actions) (stamps state.moment more.actions)))
          two.opened;
    }

leaves-moment : {N : Type 0} (life : Option ℕ) (moment : Moment) (state : State) → IsTied state
    → IsJudged state → Leaves N life (taken_in moment state) (time_passes moment state)
leaves-moment {N = N} life moment state tied judged =
    judged-brings (Leaves N life) moment state tied judged
    (λ s past opened. record { goes = record { lawful = opened.agrees.idle; agrees = opened.agrees; moment = refl; puts = puts.none past }; opened = opened })
    (λ s at so past opened.
    let goes = goes-makes {event = Tick} life past (loses s) at opened in
    let binds = (judges-makes {event = Tick} (loses s) at so).binds in
    record { goes = goes; opened = record { agrees = goes.agrees; fresh = opened.fresh; chains = λ number port found. let was = (binds number).bound port found in opened.chains number was.0 was.1 ∙ sym was.2; left = opened.left; jobs = opened.jobs } })
    (λ one s there at so past opened.
    let goes = goes-makes {event = Tick} life past (overs one s there) at opened in
    let binds = (judges-makes {event = Tick} (overs one s there) at so).binds in
    record { goes = goes; opened = record { agrees = goes.agrees; fresh = opened.fresh; chains = λ number port found. let was = (binds number).bound port found in opened.chains number was.0 was.1 ∙ sym was.2; left = opened.left; jobs = opened.jobs } })
    (leaves-in_turn life)

module _ {N : Type 0} (life : Option ℕ) (past : List Stamped) (state : State) (moment : Moment) (event : Happening) (tied : IsTied state) (judged : IsJudged state) (tells : Tells N life past state) (numbers : N → HasNumbers state) where
  abbrev opened : State
  opened = at_moment moment state

  abbrev after : Outcome
  after = step state moment event

  abbrev taken : State
  taken = taken_in moment state

  is_taken : Opened N life past taken
  is_taken = record {
    agrees = record {
      holds = holds-expired life state.moment.mono taken.moment.mono _ state.held (le-max_left state.moment.mono moment.mono) tells.agrees.holds;
      opens = tells.agrees.opens;
      raised = all_raised-kept past state.held taken.held state.under_way.confirmations (numbers-expired life state.moment.mono taken.moment.mono _ state.held tells.agrees.holds) tells.agrees.raised;
      idle = tells.agrees.idle;
    };
    fresh = λ blob. fresh-expired taken.moment.mono state.held blob tells.agrees.holds.own;
    chains = tells.chains;
    left = λ n. (numbers n).asks;
    jobs = λ n. (numbers n).jobs;
  }

  -- what the moment brings
  passed : Leaves N life taken (time_passes moment state)
  passed = leaves-moment life moment state tied judged

  abbrev past_then : List Stamped
  past_then = onto past (stamps taken.moment (time_passes moment state).actions)

  is_opened : Opened N life past_then opened
  is_opened = (passed past is_taken).opened

  goes-joined : (door : Door) → Goes N life past_then opened (join door opened)
  goes-joined door =
      record { lawful = is_opened.agrees.idle; agrees = is_opened.agrees; moment = refl; puts = puts.none past_then }

  goes : Goes N life past taken after
  goes =
      let made = by_event (Goes N life past_then opened) event opened goes-joined (λ outcome makes. goes-makes life past_then makes (tied-opened moment state tied) is_opened) in
      let both = goes-in_turn life past taken (time_passes moment state) (handle event opened) (passed past is_taken).goes made in
      record { lawful = both.lawful; agrees = both.agrees; moment = both.moment; puts = both.puts }

  abbrev told_then : List Stamped
  told_then = onto past (stamps taken.moment after.actions)

  adds : (number : ℕ) → Adds number state.ports after
  adds number = (step-judged state moment event tied judged).adds number

  -- a port that is open afterwards was, or is new
  chain_then : (number : ℕ) (port : Port) → find_port number after.state.ports ≡ Some port
      → proved_of number told_then ≡ port.chain
  chain_then number port found =
      proved-onto number taken.moment past after.actions ∙ ap (bound_after number after.actions) (by_found (find_port number state.ports) refl) ∙ sym ((adds number).bound port found)
    where
      by_found : (was : Option Port) → find_port number state.ports ≡ was
          → proved_of number past ≡ chain_of was
      by_found (Some before) is = tells.chains number before is
      by_found None is = tells.unborn number (above is)
        where
          above : find_port number state.ports ≡ None → state.last_port < number
          above none = by_test (nat_lt state.last_port number) refl
            where
              by_test : (over : Bool) → nat_lt state.last_port number ≡ over
                  → state.last_port < number
              by_test true test = grind (arith, nat_tests)
              by_test false test =
                  let under : number ≤ state.last_port = grind (arith, nat_tests) in
                  let gone : None ≡ Some port = sym (step-unused state moment event number under none) ∙ found in
                  absurd (cc)

  unborn_then : (number : ℕ) → after.state.last_port < number → proved_of number told_then ≡ []
  unborn_then number above =
      let before : state.last_port < number = omega (arith, above, step-rises state moment event) in
      proved-onto number taken.moment past after.actions ∙ ap (bound_after number after.actions) (tells.unborn number before)
      ∙ (adds number).silent [] (absent_above number 0 state.last_port state.ports tied.rising before)

  same_stamps : stamped after ≡ stamps taken.moment after.actions
  same_stamps = ap (λ m. stamps m after.actions) goes.moment

  step-lawful : LawfulIf N life past (stamped after)
  step-lawful = subst (LawfulIf N life past) (sym same_stamps) goes.lawful

  step-puts : ArePut past (stamped after) after.put
  step-puts = subst (λ all. ArePut past all after.put) (sym same_stamps) goes.puts

  step-tells : Tells N life (onto past (stamped after)) after.state
  step-tells = subst (λ all. Tells N life (onto past all) after.state) (sym same_stamps) record {
    agrees = subst (λ (m : Moment). Agrees N life m.mono told_then after.state.held after.state.under_way.link.asks after.state.under_way.confirmations) (sym goes.moment) goes.agrees;
    chains = chain_then;
    unborn = unborn_then;
  }

-- ---- runs

run-lawful : {N : Type 0} (life : Option ℕ) (past : List Stamped) (state : State) (events : List Timed)
    → IsTied state → IsJudged state → Tells N life past state → (N → HasNumbers (run state events))
    → LawfulIf N life past (history state events)
run-lawful life past state [] tied judged tells numbers = tells.agrees.idle
run-lawful {N = N} life past state (timed ∷ later) tied judged tells numbers =
    lawful-append N life past (stamped after) (history after.state later) (step-lawful life past state timed.moment timed.event tied judged tells now)
    (run-lawful life (onto past (stamped after)) after.state later (step-fated state timed.moment timed.event tied).tied (step-judged state timed.moment timed.event tied judged).judged
    (step-tells life past state timed.moment timed.event tied judged tells now) numbers)
  where
    after : Outcome
    after = step state timed.moment timed.event

    now : N → HasNumbers state
    now n =
        let grown = run-grows state (timed ∷ later) in
        record { asks = omega (arith, grown.asks, (numbers n).asks); jobs = omega (arith, grown.jobs, (numbers n).jobs) }

-- what is put is what is asked for
run-puts : {N : Type 0} (life : Option ℕ) (past : List Stamped) (state : State) (events : List Timed)
    → IsTied state → IsJudged state → Tells N life past state → (N → ⊥)
    → ArePut past (history state events) (messages_of state events)
run-puts life past state [] tied judged tells never = puts.none past
run-puts {N = N} life past state (timed ∷ later) tied judged tells never =
    puts-append (step-puts life past state timed.moment timed.event tied judged tells now)
    (run-puts life (onto past (stamped after)) after.state later (step-fated state timed.moment timed.event tied).tied (step-judged state timed.moment timed.event tied judged).judged
    (step-tells life past state timed.moment timed.event tied judged tells now) never)
  where
    after : Outcome
    after = step state timed.moment timed.event

    now : N → HasNumbers state
    now n = absurd (never n)

first-tells : (N : Type 0) (settings : Settings) → Tells N settings.life [] (first_state settings)
first-tells N settings = record {
  agrees = record { holds = holds-first settings.life; opens = refl; raised = λ job one found. absurd (cc); idle = λ n. refl };
  chains = λ number port found. absurd (cc);
  unborn = λ number above. refl;
}

first-if : (N : Type 0) (settings : Settings) (events : List Timed)
    → (N → HasNumbers (run (first_state settings) events))
    → LawfulIf N settings.life [] (history (first_state settings) events)
first-if N settings events numbers =
    run-lawful settings.life [] (first_state settings) events (first-tied settings) (first-judged settings) (first-tells N settings) numbers

-- where numbers are left, and in any case
pub first-lawful : (settings : Settings) (events : List Timed)
    → HasNumbers (run (first_state settings) events)
    → IsLawful settings.life [] (history (first_state settings) events)
first-lawful settings events numbers =
    lawful-if settings.life [] (history (first_state settings) events) numbers
    (first-if (HasNumbers (run (first_state settings) events)) settings events (λ n. n))

pub first-only : (settings : Settings) (events : List Timed)
    → ArePutWhereDue settings.life [] (history (first_state settings) events)
first-only settings events =
    only-if ⊥ settings.life [] (history (first_state settings) events) (first-if ⊥ settings events (λ n. absurd n))

-- what is put is what is asked for, and is appended to what the helper is owed
pub first-puts : (settings : Settings) (events : List Timed)
    → IsPutAsAsked (first_state settings) events
first-puts settings events = record {
  messages =
      run-puts settings.life [] (first_state settings) events (first-tied settings) (first-judged settings) (first-tells ⊥ settings) (λ n. n);
  frames =
      λ before one later whole. step-appends (run (first_state settings) before) one.moment one.event;
}
