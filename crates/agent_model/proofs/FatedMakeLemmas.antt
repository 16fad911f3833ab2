-- Who waits for the helper stays tied to the asks at what each event makes, and is told what becomes of its ask.
use Rattle.std.proofs.Common.{◌≡◌, ◌≢◌, ℕ, suc, ◌+◌, ◌≤◌, List, [], ◌∷◌, ◌++◌, refl, ap, arith, sym, subst, ◌∙◌, ◌==◌, ◌⊎◌, Option, Some, None, Bool, true, false, cond, inl, inr, if◌then◌else◌}
use Rattle.std.proofs.lemmas.List.{append-nil}
use Rattle.lists.specs.Keyed.{has_key}
use Rattle.lists.proofs.FirstLemmas.{find-before}
use Rattle.world_ports.specs.declared.Door.{Door}
use Rattle.world_ports.specs.declared.Door.TheVariants.{Clients, Children}
use Rattle.world_ports.specs.declared.Moment.{Moment}
use Rattle.wire_text.specs.Frames.{front_body}
use Rattle.helper_link.specs.Answered.{LeadTo, is_answered}
use Rattle.helper_link.specs.HelperLink.{ask_of}
use Rattle.helper_link.specs.Settling.{find_ask}
use Rattle.helper_link.specs.Telling.{Telling, telling}
use Rattle.helper_link.specs.declared.ask.Ask.{Ask}
use Rattle.helper_link.specs.declared.fault.LinkFault.{LinkFault}
use Rattle.helper_link.specs.declared.state.LinkState.{LinkState}
use Rattle.helper_link.specs.declared.state.LinkState.TheVariants as states
use Rattle.helper_link.proofs.AnswerLemmas.{lead_others, lead_rise, settling_leads}
use Rattle.helper_link.proofs.OrderLemmas.{find-push, push_rises}
use Rattle.agent_model.specs.Asking.{AreRaised, IsAsking}
use Rattle.agent_model.specs.Consents.{close_confirmer, grant_concluded, over, signing_of, without_confirmation}
use Rattle.confirm_desk.specs.Confirmations.{Confirmation, find_job}
use Rattle.agent_model.specs.Actions.{Lost, Outcome, Work, acted, and_then, stay}
use Rattle.agent_model.specs.Answers.{Answering, answer_all, close_helper, helper_tells, lose, lose_if, with_answers}
use Rattle.agent_model.specs.Dispatch.{Asker}
use Rattle.agent_model.specs.Errands.{Errand, Signs, addition_of, blob_of, kind_of, with_ask}
use Rattle.agent_model.specs.Events.{Happening, Tick}
use Rattle.agent_model.specs.Fates.{Fate, Fails, Gets, IsTold, Unanswered, fate_of, fate_verdict, or_later}
use Rattle.agent_model.specs.Sound.{AreTied, IsTied, IsWaiting}
use Rattle.agent_model.specs.KeyStates.{KeyState, after_use}
use Rattle.agent_model.specs.State.{Nothing, OnAsk, OnConfirmation, Port, State, UnderWay, change_port, find_port, new_port, number_of}
use Rattle.agent_model.specs.Step.{admitted, asker_at, attempts, take_frame}
use Rattle.agent_model.specs.Time.{taken_in}
use Rattle.agent_model.specs.Verdicts.{Awaits, NoLongerAllowed, NotConfirmed, Refuses, Verdict, tell, verdict_waits}
use Rattle.agent_model.proofs.FateLemmas.{answer-waits, fate-answers, fate-append, noted-answers, tied-answers, tied-lost, told-apart, told-lost, waits-lost}
use Rattle.agent_model.proofs.GrantLemmas.{IsGranted, allowed, disallowed, grant-ends, unasked}
use Rattle.agent_model.proofs.AskedLemmas.{noted-asked}
use Rattle.agent_model.proofs.GrowLemmas.{jobs-for}
use Rattle.agent_model.proofs.JobLemmas.{IsIn, in-found}
use Rattle.agent_model.proofs.LeadLemmas.{Follows, changes, follows-makes, leads-answers, leads-close_confirmer, same}
use Rattle.agent_model.proofs.MakeLemmas.{Makes, first, grants, loses, overs, serves, stays, tells}
use Rattle.agent_model.proofs.PortsLemmas.{find_port-removed_apart, rising-append, rising_higher}
use Rattle.agent_model.proofs.RaisedLemmas.{Fewer, fewer-closed, fewer-removed, raised-answers, raised-fewer, raised-joined, raised-later, raised-lost, raised-over}
use Rattle.agent_model.proofs.ServeLemmas.{serve-ends}
use Rattle.agent_model.proofs.TiedLemmas.{assemble, tied-fewer, tied-quiet}
use Rattle.agent_model.proofs.WaitLemmas.{told-close_confirmer, told-close_helper, waits-quiet}
use Rattle.agent_model.proofs.TieLemmas.{found_joined, found_known, tied-asked, tied-silent}
use Rattle.agent_model.proofs.FatedServeLemmas.{Fated, fated-served, linked-begun, new_asker}
use Rattle.agent_model.proofs.SizeLemmas.{size_of}

-- ---- the helper answers, or is lost

module _ (state : State) (tied : IsTied state) where
  -- its port isn't a client's
  pub tied-close : (link : LinkState)
      → AreTied (close_helper link state.ports) state.under_way.link.asks
  tied-close states.None = tied.tied
  tied-close (states.Starting job) = tied.tied
  tied-close (states.Linked at) = tied-fewer state.ports _ _ (fewer-removed at 0 state.last_port state.ports tied.rising) tied.tied

  raised-close : (link : LinkState)
      → AreRaised state.under_way.confirmations state.under_way.last_job (close_helper link state.ports) state.last_port
  raised-close states.None = tied.raised
  raised-close (states.Starting job) = tied.raised
  raised-close (states.Linked at) = raised-fewer state.ports _ (fewer-removed at 0 state.last_port state.ports tied.rising) tied.raised

  told-close : (number : ℕ) (verdict : Verdict) → IsTold number verdict state.ports
      → IsTold number verdict (close_helper state.under_way.link.state state.ports)
  told-close number verdict told =
      told-close_helper number verdict state.under_way.link.state state.ports (λ at port is there. tied.helper at port is there) told

  pub lose-tied : IsTied (lose state).state
  lose-tied =
      assemble state (lose state).state (follows-makes Tick state (loses state) record { last = refl; ports = same }) tied (omega arith)
      (tied-lost 0 state.under_way.link.last state.under_way.link.asks _ tied.order (tied-close state.under_way.link.state))
      (λ ask asker blob put_at size is. absurd (cc))
      (λ ask one is. absurd (cc)) (λ n is. absurd (cc))
      (raised-lost 0 state.under_way.link.last state.under_way.link.asks _ tied.order (tied-close state.under_way.link.state) (raised-close state.under_way.link.state))

  -- who was told something already is told nothing more
  told-loss : (number ask : ℕ) (fate : Fate) → IsTold number (fate_verdict fate ask) state.ports
      → IsTold number (fate_verdict (or_later fate Fails) ask) (lose state).state.ports
  told-loss number ask Unanswered told =
      waits-lost number ask 0 state.under_way.link.last state.under_way.link.asks _ tied.order (tied-close state.under_way.link.state) (told-close number _ told)
  told-loss number ask (Gets answer) told =
      told-lost number 0 state.under_way.link.last _ state.under_way.link.asks _ (answer-waits answer) tied.order (tied-close state.under_way.link.state) (told-close number _ told)
  told-loss number ask Fails told =
      told-lost number 0 state.under_way.link.last _ state.under_way.link.asks _ refl tied.order (tied-close state.under_way.link.state) (told-close number _ told)

module _ (piece : List ℕ) (state : State) (tied : IsTied state) where
  abbrev told : Telling
  told = telling piece state.under_way.link

  abbrev before : Answering
  before =
      record { ports = state.ports; verifications = state.under_way.verifications; actions = [] }

  abbrev after : Answering
  after = answer_all told.settled before

  abbrev mid : State
  mid = with_answers told.link after state

  leads : LeadTo told.settled state.under_way.link.asks told.link.asks
  leads = settling_leads (state.under_way.link.heard ++ piece) state.under_way.link.asks

  there : (answered : Bool) (ask : ℕ) (one : Ask)
      → cond answered None (find_ask ask state.under_way.link.asks) ≡ Some one
      → one.asker ≤ state.last_port
  there true ask one is = absurd (cc)
  there false ask one is = tied.askers ask one is

  pub tied_mid : IsTied mid
  tied_mid =
      assemble state mid record { last = refl; ports = leads-answers state.ports told.settled before same } tied
      (lead_rise told.settled state.under_way.link.asks told.link.asks 0 state.under_way.link.last leads tied.order)
      (tied-answers 0 state.under_way.link.last told.settled before state.under_way.link.asks told.link.asks leads tied.order tied.tied)
      (noted-answers 0 state.under_way.link.last told.settled before state.under_way.link.asks told.link.asks leads tied.order tied.noted)
      (λ ask one is. there (is_answered ask told.settled) ask one (sym (lead_others ask told.settled state.under_way.link.asks told.link.asks 0 state.under_way.link.last leads tied.order) ∙ is))
      (λ n is. is)
      (raised-answers 0 state.under_way.link.last told.settled before state.under_way.link.asks told.link.asks leads tied.order tied.tied tied.raised)

  told_mid : (number ask : ℕ) → IsTold number (Awaits (OnAsk ask)) state.ports
      → IsTold number (fate_verdict (fate_of ask after.actions) ask) mid.ports
  told_mid number ask waits = fate-answers 0 state.under_way.link.last number ask told.settled before state.under_way.link.asks told.link.asks leads tied.order tied.tied tied.noted refl waits

  fated-fault : (event : Happening) (fault : Option LinkFault)
      → Fated event state (and_then (acted after.actions mid) (lose_if fault))
  fated-fault event None = record {
    tied = tied_mid;
    told = λ number ask open_yet waits. subst (λ actions. IsTold number (fate_verdict (fate_of ask actions) ask) mid.ports) (sym (append-nil after.actions)) (told_mid number ask waits);
  }
  fated-fault event (Some fault) = record {
    tied = lose-tied mid tied_mid;
    told = λ number ask open_yet waits. subst (λ f. IsTold number (fate_verdict f ask) (lose mid).state.ports) (sym (fate-append ask after.actions (Lost ∷ []))) (told-loss mid tied_mid number ask (fate_of ask after.actions) (told_mid number ask waits));
  }

  fated-tells : (event : Happening)
      → Fated event state (helper_tells (telling piece state.under_way.link) state)
  fated-tells event = fated-fault event told.fault

-- ---- a confirmation ends

module _ (event : Happening) (confirmation : Confirmation) (state : State) (there : IsIn confirmation state.under_way.confirmations) (tied : IsTied state) where
  abbrev uw : UnderWay
  uw = state.under_way

  -- without its child process's port
  abbrev rest : List Port
  rest = close_confirmer confirmation.port state.ports

  found_there : find_job confirmation.job uw.confirmations ≡ Some confirmation
  found_there = in-found confirmation 0 uw.last_job tied.raised.order there

  rest_fewer : Fewer state.ports rest
  rest_fewer = fewer-closed confirmation.port 0 state.last_port state.ports tied.rising

  rest_tied : AreTied rest uw.link.asks
  rest_tied = tied-fewer state.ports rest uw.link.asks rest_fewer tied.tied

  rest_raised : AreRaised uw.confirmations uw.last_job rest state.last_port
  rest_raised = raised-fewer state.ports rest rest_fewer tied.raised

  -- who waits for it
  waits_for : (port : Port) → find_port confirmation.asker rest ≡ Some port
      → port.waits ≡ OnConfirmation confirmation.job
  waits_for port found =
      rest_raised.asking.asks confirmation.job confirmation port found_there found

  waits_on : (port : Port) → find_port confirmation.asker rest ≡ Some port → (ask : ℕ)
      → port.waits ≢ OnAsk ask
  waits_on port found ask is =
      let no : OnConfirmation confirmation.job ≡ OnAsk ask = sym (waits_for port found) ∙ is in
      absurd (cc)

  -- a client's port stays
  stays_open : (number : ℕ) (port : Port) → port.door ≡ Clients
      → find_port number state.ports ≡ Some port → find_port number rest ≡ Some port
  stays_open number port door found = by_port confirmation.port refl
    where
      by_port : (at : Option ℕ) → confirmation.port ≡ at
          → find_port number (close_confirmer at state.ports) ≡ Some port
      by_port None is = found
      by_port (Some at) is = find_port-removed_apart number at state.ports other ∙ found
        where
          other : number ≢ at
          other same_number =
              let child_there : port.door ≡ Children = tied.raised.confirmers confirmation.job at confirmation port found_there is (ap (λ n. find_port n state.ports) (sym same_number) ∙ found) in
              let doors : Clients ≡ Children = sym door ∙ child_there in
              absurd (cc)

  -- who waits for an ask is told nothing
  told_still : (number ask : ℕ) (verdict : Verdict) → IsTold number (Awaits (OnAsk ask)) state.ports
      → IsTold number (Awaits (OnAsk ask)) (change_port confirmation.asker (tell verdict) rest)
  told_still number ask verdict told =
      let at = told-close_confirmer number (Awaits (OnAsk ask)) confirmation.port state.ports (λ n port is. tied.raised.confirmers confirmation.job n confirmation port found_there is) told in
      told-apart number confirmation.asker (Awaits (OnAsk ask)) (tell verdict) rest (λ p. refl)
      (λ same_number. waits_on at.port (ap (λ n. find_port n rest) (sym same_number) ∙ at.found) ask at.waits) at

  -- what is left then
  abbrev over_left : KeyState → UnderWay → Verdict → State
  over_left held under_way verdict = record state { held = held; ports = change_port confirmation.asker (tell verdict) rest; under_way = under_way }

  follows-over : (held : KeyState) (under_way : UnderWay) (verdict : Verdict)
      → Follows state (over_left held under_way verdict)
  follows-over held under_way verdict = record {
    last = refl;
    ports = changes confirmation.asker (tell verdict) _ (λ p. refl) (λ p. refl) (leads-close_confirmer state.ports confirmation.port state.ports same);
  }

  -- the client waits for nothing any more
  over_tied : (verdict : Verdict) → verdict_waits verdict ≡ Nothing
      → IsTied (over_left state.held (without_confirmation confirmation.job uw) verdict)
  over_tied verdict nothing =
      assemble state _ (follows-over state.held (without_confirmation confirmation.job uw) verdict) tied tied.order
      (tied-silent rest uw.link.asks rest_tied confirmation.asker (tell verdict) waits_on (λ p. refl) (λ p a is. let no : Nothing ≡ OnAsk a = sym nothing ∙ is in absurd (cc)))
      tied.noted tied.askers (λ n is. is)
      (raised-over rest rest_raised confirmation (tell verdict) found_there (λ p. refl) (λ p. refl) (λ p job is. let no : Nothing ≡ OnConfirmation job = sym nothing ∙ is in absurd (cc)))

  fated-over : Fated event state (over confirmation state)
  fated-over = record {
    tied = over_tied (Refuses NotConfirmed) refl;
    told = λ number ask open_yet told. told_still number ask (Refuses NotConfirmed) told;
  }

  -- its ask is put
  module _ (port : Port) (opened : find_port confirmation.asker state.ports ≡ Some port) where
    asking : IsAsking confirmation.asker confirmation.job port uw.confirmations
    asking = tied.raised.asking.waits confirmation.asker confirmation.job port opened (tied.raised.asking.asks confirmation.job confirmation port found_there opened)

    fated-grant : {work : Work}
        → IsGranted port.chain confirmation state.moment.wall state.held (without_confirmation confirmation.job uw) work
        → Fated event state (grant_concluded work confirmation state)
    fated-grant (disallowed never) = record {
      tied = over_tied (Refuses NoLongerAllowed) refl;
      told = λ number ask open_yet told. told_still number ask (Refuses NoLongerAllowed) told;
    }
    fated-grant (unasked cause key may fault) = record {
      tied = over_tied (Refuses cause) refl;
      told = λ number ask open_yet told. told_still number ask (Refuses cause) told;
    }
    fated-grant (allowed key may free) =
        let link = uw.link in
        let verdict : Verdict = Awaits (OnAsk (link.last + 1)) in
        let errand : Errand = Signs key (signing_of key confirmation) in
        let new : UnderWay = with_ask errand confirmation.asker (without_confirmation confirmation.job uw) in
        let asker : Asker = record { port = confirmation.asker; chain = port.chain; attempted = port.attempted; mono = state.moment.mono; wall = state.moment.wall } in
        record {
          tied = assemble state _ (follows-over (after_use (addition_of errand) state.held) new verdict) tied (push_rises 0 link.asks link.last confirmation.asker (kind_of errand) (blob_of errand) uw.second (size_of errand (link.last + 1)) tied.order)
              (tied-asked rest link.asks rest_tied confirmation.asker 0 link.last (kind_of errand) (blob_of errand) uw.second (size_of errand (link.last + 1)) port (tell verdict) tied.order (stays_open confirmation.asker port asking.door opened) (waits_on port (stays_open confirmation.asker port asking.door opened)) asking.owed asking.door (λ p. refl) (λ p. refl) (λ p. refl) (λ p none. ap (λ bytes. bytes ++ []) none))
              (noted-asked asker errand link.last uw.second link.asks uw.verifications tied.order tied.noted)
              (λ ask one is. new_asker (link.last + 1 == ask) (find_ask ask link.asks) (ask_of (link.last + 1) confirmation.asker (kind_of errand) (blob_of errand) uw.second (size_of errand (link.last + 1))) one state.last_port (tied.raised.askers confirmation.job confirmation found_there) (tied.askers ask)
              (sym (find-push ask 0 (ask_of (link.last + 1) confirmation.asker (kind_of errand) (blob_of errand) uw.second (size_of errand (link.last + 1))) link.asks link.last tied.order (omega arith)) ∙ is))
              (λ n is. linked-begun link.state (uw.last_job + 1) n is)
              (raised-later uw.last_job new.last_job state.last_port state.last_port (jobs-for link.state uw.last_job) (omega arith)
              (raised-over rest rest_raised confirmation (tell verdict) found_there (λ p. refl) (λ p. refl) (λ p job is. absurd (cc))));
          told = λ number ask open_yet told. told_still number ask verdict told;
        }

-- ---- events

pub fated-makes : {event : Happening} {old : State} {outcome : Outcome} → Makes event old outcome
    → IsTied old → Fated event old outcome
fated-makes (stays state) tied = record { tied = tied; told = λ number ask open_yet told. told }
fated-makes (first quiet rest) tied =
    let later = fated-makes rest (tied-quiet quiet tied) in
    record { tied = later.tied; told = λ number ask open_yet told. later.told number ask open_yet (waits-quiet number (OnAsk ask) (λ is. absurd (cc)) quiet open_yet told) }
fated-makes {event = event} (serves body_len port state found door nothing owed own) tied =
    let body : List ℕ = front_body body_len port.heard in
    fated-served event body (take_frame body_len (attempts state.held.lock body)) record { number = λ p. refl; door = λ p. refl; waits = λ p. refl; owed = λ p none. none; chain = λ p. refl } port state found door nothing owed tied
    (serve-ends (asker_at state.moment port) state.held state.under_way body)
fated-makes {event = event} (tells piece state) tied = fated-tells piece state tied event
fated-makes (loses state) tied = record { tied = lose-tied state tied; told = λ number ask open_yet told. told-loss state tied number ask Unanswered told }
fated-makes {event = event} (overs confirmation state there) tied =
    fated-over event confirmation state there tied
fated-makes {event = event} (grants confirmation port state there opened) tied =
    fated-grant event confirmation state there tied port opened (grant-ends port.chain confirmation state)

-- one more port that is there makes no difference to those that are found
pub found_still : (number : ℕ) (port : Port) (ports more : List Port)
    → find_port number ports ≡ Some port → find_port number (ports ++ more) ≡ Some port
found_still number port ports more found =
    find-before (has_key number_of number) ports more port found

pub fated-admitted : (event : Happening) (door : Door) (state : State) (room : Bool) → IsTied state
    → Fated event state (record (stay (record state { ports = admitted room (suc state.last_port) door state.ports; last_port = suc state.last_port })) { closes = if room then [] else suc state.last_port ∷ [] })
fated-admitted event door state false tied = record {
  tied = record {
    rising =
        rising_higher 0 state.last_port (suc state.last_port) state.ports (omega arith) tied.rising;
    order = tied.order;
    tied = tied.tied;
    noted = tied.noted;
    askers = λ ask one found. omega (arith, tied.askers ask one found);
    helper = tied.helper;
    known = λ number is. omega (arith, tied.known number is);
    raised = raised-later state.under_way.last_job state.under_way.last_job state.last_port (suc state.last_port) (omega arith) (omega arith) tied.raised;
  };
  told = λ number ask open_yet told. told;
}
fated-admitted event door state true tied = record {
  tied = record {
    rising = rising-append 0 state.last_port (suc state.last_port) door state.ports (omega arith) tied.rising;
    order = tied.order;
    tied = record {
      waits = λ number ask port found is. by_port number ask port (found_joined number (suc state.last_port) door state.ports port found) is;
      asks = λ ask one port there found. tied.tied.asks ask one port there (found_known one.asker state.last_port door state.ports port (tied.askers ask one there) found);
    };
    noted = tied.noted;
    askers = λ ask one found. omega (arith, tied.askers ask one found);
    helper = λ number port is found. tied.helper number port is (found_known number state.last_port door state.ports port (tied.known number is) found);
    known = λ number is. omega (arith, tied.known number is);
    raised = raised-joined state.last_port door state.ports tied.raised;
  };
  told = λ number ask open_yet told. record { port = told.port; found = found_still number told.port state.ports _ told.found; door = told.door; owed = told.owed; waits = told.waits };
}
  where
    by_port : (number ask : ℕ) (port : Port)
        → (find_port number state.ports ≡ Some port) ⊎ (port ≡ new_port (suc state.last_port) door)
        → port.waits ≡ OnAsk ask → IsWaiting number ask port state.under_way.link.asks
    by_port number ask port (inl was) is = tied.tied.waits number ask port was is
    by_port number ask port (inr new) is =
        let waits : Nothing ≡ OnAsk ask = sym (ap (λ (p : Port). p.waits) new) ∙ is in absurd (cc)

-- what a moment takes in leaves it tied
pub tied-taken : (moment : Moment) (state : State) → IsTied state → IsTied (taken_in moment state)
tied-taken moment state tied =
    record { rising = tied.rising; order = tied.order; tied = tied.tied; noted = tied.noted; askers = tied.askers; helper = tied.helper; known = tied.known; raised = tied.raised }
