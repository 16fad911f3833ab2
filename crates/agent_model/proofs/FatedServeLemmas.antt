-- A client that is served leaves a tied state tied, and the others wait.
use Rattle.std.proofs.Common.{◌≡◌, ◌≢◌, ℕ, ◌+◌, ◌≤◌, List, [], ◌∷◌, ◌++◌, refl, ap, arith, sym, subst, ◌∙◌, ◌==◌, Option, Some, Bool, true, false, cond}
use Rattle.world_ports.specs.declared.Door.TheVariants.{Clients}
use Rattle.helper_link.specs.HelperLink.{HelperLink, ask_of}
use Rattle.helper_link.specs.Settling.{find_ask}
use Rattle.helper_link.specs.declared.ask.Ask.{Ask}
use Rattle.helper_link.specs.declared.state.LinkState.{LinkState}
use Rattle.helper_link.specs.declared.state.LinkState.TheVariants as states
use Rattle.helper_link.proofs.OrderLemmas.{find-push, push_rises}
use Rattle.child_msg.specs.Messages.{ToChildMessage}
use Rattle.agent_model.specs.Asking.{AreRaised}
use Rattle.confirm_desk.specs.Confirmations.{confirmation_of}
use Rattle.confirm_desk.specs.Prompt.{prompt_for}
use Rattle.agent_model.specs.Actions.{Action, Asked, Outcome, Requested}
use Rattle.agent_model.specs.Children.{changed}
use Rattle.agent_model.specs.Dispatch.{Served, host_for}
use Rattle.agent_model.specs.Errands.{Errand, addition_of, begun_by, held_for, blob_of, kind_of, message_of, purpose_of, with_ask, with_confirmation}
use Rattle.agent_model.specs.Events.{Happening, Ended}
use Rattle.agent_model.specs.Fates.{IsTold, Unanswered, fate_of, fate_verdict}
use Rattle.agent_model.specs.KeyStates.{KeyState, after_use}
use Rattle.agent_model.specs.Sound.{AreTied, IsTied}
use Rattle.agent_model.specs.State.{Nothing, OnAsk, OnConfirmation, Port, State, UnderWay, change_port, find_port, Waits}
use Rattle.agent_model.specs.Step.{asker_at, concluded}
use Rattle.agent_model.specs.Verdicts.{Awaits, Refuses, Replies, Verdict, tell, verdict_waits}
use Rattle.agent_model.proofs.AskedLemmas.{noted-asked}
use Rattle.agent_model.proofs.GrowLemmas.{jobs-for}
use Rattle.agent_model.proofs.LeadLemmas.{Follows, changes, same}
use Rattle.agent_model.proofs.MakeLemmas.{IsMild}
use Rattle.agent_model.proofs.PortsLemmas.{change_port-twice, found_within}
use Rattle.agent_model.proofs.RaisedLemmas.{raised-later, raised-raised, raised-silent}
use Rattle.agent_model.proofs.ServeLemmas.{IsServed, answered, asked, raised, refused}
use Rattle.agent_model.proofs.TiedLemmas.{assemble}
use Rattle.agent_model.proofs.WaitLemmas.{waits-served}
use Rattle.agent_model.proofs.TieLemmas.{tied-asked, tied-silent}
use Rattle.agent_model.proofs.SizeLemmas.{size_of}

-- the state is tied, and who waited before is told what the actions make of its ask, unless its port ended
pub record Fated (event : Happening) (old : State) (outcome : Outcome) : Type 0 where
  pub tied : IsTied outcome.state
  pub told : (number ask : ℕ) → event ≢ Ended number → IsTold number (Awaits (OnAsk ask)) old.ports
      → IsTold number (fate_verdict (fate_of ask outcome.actions) ask) outcome.state.ports

-- ---- a client that is served

-- a helper is there only where one was
pub linked-begun : (link : LinkState) (job number : ℕ) → begun_by link job ≡ states.Linked number
    → link ≡ states.Linked number
linked-begun states.None job number is = absurd (cc)
linked-begun (states.Starting other) job number is = is
linked-begun (states.Linked at) job number is = is

-- who is to be answered by the new ask has a port that joined
pub new_asker : (new : Bool) (pending : Option Ask) (ask : Ask) (one : Ask) (last : ℕ)
    → ask.asker ≤ last → ((other : Ask) → pending ≡ Some other → other.asker ≤ last)
    → cond new (Some ask) pending ≡ Some one → one.asker ≤ last
new_asker true pending ask one last within known is =
    let new : ask ≡ one = cc in omega (arith, within, ap (λ (o : Ask). o.asker) new)
new_asker false pending ask one last within known is = known one is

module _ (event : Happening) (body : List ℕ) (take : Port → Port) (mild : IsMild take) (port : Port) (state : State) (found : find_port port.number state.ports ≡ Some port) (door : port.door ≡ Clients) (nothing : port.waits ≡ Nothing) (owed : port.owed ≡ []) (tied : IsTied state) where
  -- the client is told this
  abbrev change : Verdict → Port → Port
  change verdict p = tell verdict (take p)

  -- what is left of the client's request
  abbrev left : KeyState → UnderWay → Verdict → State
  left held under_way verdict = record state { held = held; under_way = under_way; ports = change_port port.number (tell verdict) (change_port port.number take state.ports) }

  follows-left : (held : KeyState) (under_way : UnderWay) (verdict : Verdict)
      → Follows state (left held under_way verdict)
  follows-left held under_way verdict = record {
    last = refl;
    ports = changes port.number (tell verdict) _ (λ p. refl) (λ p. refl) (changes port.number take state.ports mild.number mild.door same);
  }

  twice : (verdict : Verdict)
      → change_port port.number (λ p. tell verdict (take p)) state.ports ≡ change_port port.number (tell verdict) (change_port port.number take state.ports)
  twice verdict = sym (change_port-twice port.number take (tell verdict) state.ports mild.number)

  -- another client goes on waiting
  others : (held : KeyState) (under_way : UnderWay) (verdict : Verdict) (number ask : ℕ)
      → IsTold number (Awaits (OnAsk ask)) state.ports
      → IsTold number (Awaits (OnAsk ask)) (left held under_way verdict).ports
  others held under_way verdict number ask told =
      waits-served number (OnAsk ask) (λ is. absurd (cc)) take verdict port state.ports mild.number found nothing told

  -- the client waits for nothing
  waits_not : (on : ℕ → Waits) → ((n : ℕ) → Nothing ≢ on n) → (p : Port)
      → find_port port.number state.ports ≡ Some p → (n : ℕ) → p.waits ≢ on n
  waits_not on other p there n is =
      let same_port : Some port ≡ Some p = sym found ∙ there in
      let equal : port ≡ p = cc in
      other n (sym nothing ∙ ap (λ (q : Port). q.waits) equal ∙ is)

  -- it waits for no ask
  silent : (held : KeyState) (under_way : UnderWay) (verdict : Verdict) (actions : List Action) (put : List ToChildMessage)
      → under_way.link ≡ state.under_way.link → under_way.verifications ≡ state.under_way.verifications
      → AreRaised under_way.confirmations under_way.last_job (change_port port.number (change verdict) state.ports) state.last_port
      → ((ask : ℕ) → verdict_waits verdict ≢ OnAsk ask)
      → ((ask : ℕ) → fate_of ask actions ≡ Unanswered)
      → Fated event state (record { state = left held under_way verdict; actions = actions; put = put; closes = [] })
  silent held under_way verdict actions put link verifications consents waits fates = record {
    tied = assemble state (left held under_way verdict) (follows-left held under_way verdict) tied (rw link tied.order)
        (rw link (subst (λ ports. AreTied ports state.under_way.link.asks) (twice verdict) (tied-silent state.ports state.under_way.link.asks tied.tied port.number (change verdict) (waits_not OnAsk (λ n is. absurd (cc))) mild.number (λ p. waits))))
        (rw (link, verifications) tied.noted)
        (λ ask one is. tied.askers ask one (ap (λ (l : HelperLink). find_ask ask l.asks) (sym link) ∙ is)) (λ n is. ap (λ (l : HelperLink). l.state) (sym link) ∙ is)
        (subst (λ ports. AreRaised under_way.confirmations under_way.last_job ports state.last_port) (twice verdict) consents);
    told = λ number ask open_yet told. subst (λ f. IsTold number (fate_verdict f ask) (left held under_way verdict).ports) (sym (fates ask)) (others held under_way verdict number ask told);
  }

  -- and it doesn't wait for consent
  quiet : (verdict : Verdict) → ((job : ℕ) → verdict_waits verdict ≢ OnConfirmation job)
      → AreRaised state.under_way.confirmations state.under_way.last_job (change_port port.number (change verdict) state.ports) state.last_port
  quiet verdict waits =
      raised-silent state.ports tied.raised port.number (change verdict) (waits_not OnConfirmation (λ n is. absurd (cc))) mild.number mild.door (λ p. waits)

  -- it puts an ask
  puts : (held : KeyState) (errand : Errand)
      → Fated event state (record { state = left held (with_ask errand port.number state.under_way) (Awaits (OnAsk (state.under_way.link.last + 1))); actions = Requested (record { port = port.number; body = body; verdict = Awaits (OnAsk (state.under_way.link.last + 1)) }) ∷ Asked (record { ask = state.under_way.link.last + 1; port = port.number; purpose = purpose_of errand; size = size_of errand (state.under_way.link.last + 1) }) ∷ []; put = message_of errand (state.under_way.link.last + 1) ∷ []; closes = [] })
  puts held errand =
      let link = state.under_way.link in
      let verdict : Verdict = Awaits (OnAsk (link.last + 1)) in
      let new : UnderWay = with_ask errand port.number state.under_way in
      record {
        tied = assemble state (left held new verdict) (follows-left held new verdict) tied (push_rises 0 link.asks link.last port.number (kind_of errand) (blob_of errand) state.under_way.second (size_of errand (link.last + 1)) tied.order)
            (subst (λ ports. AreTied ports new.link.asks) (twice verdict)
            (tied-asked state.ports link.asks tied.tied port.number 0 link.last (kind_of errand) (blob_of errand) state.under_way.second (size_of errand (link.last + 1)) port (change verdict) tied.order found (waits_not OnAsk (λ n is. absurd (cc)) port found) owed door mild.number mild.door (λ p. refl) (λ p none. ap (λ bytes. bytes ++ []) (mild.owed p none))))
            (noted-asked (asker_at state.moment port) errand link.last state.under_way.second link.asks state.under_way.verifications tied.order tied.noted)
            (λ ask one is. new_asker (link.last + 1 == ask) (find_ask ask link.asks) (ask_of (link.last + 1) port.number (kind_of errand) (blob_of errand) state.under_way.second (size_of errand (link.last + 1))) one state.last_port (found_within port.number 0 state.last_port state.ports port tied.rising found) (tied.askers ask)
            (sym (find-push ask 0 (ask_of (link.last + 1) port.number (kind_of errand) (blob_of errand) state.under_way.second (size_of errand (link.last + 1))) link.asks link.last tied.order (omega arith)) ∙ is))
            (λ n is. linked-begun link.state (state.under_way.last_job + 1) n is)
            (subst (λ ports. AreRaised state.under_way.confirmations new.last_job ports state.last_port) (twice verdict)
            (raised-later state.under_way.last_job new.last_job state.last_port state.last_port (jobs-for link.state state.under_way.last_job) (omega arith) (quiet verdict (λ job is. absurd (cc)))));
        told = λ number ask open_yet told. others held new verdict number ask told;
      }

  -- by what comes of its request
  pub fated-served : {served : Served}
      → IsServed (asker_at state.moment port) state.held state.under_way served
      → Fated event state (concluded port.number body served (changed port.number take state))
  fated-served (answered reply kept keeps) = silent kept state.under_way (Replies reply) _ _ refl refl (quiet (Replies reply) (λ job is. absurd (cc))) (λ ask is. absurd (cc)) (λ ask. refl)
  fated-served (refused cause) = silent state.held state.under_way (Refuses cause) _ _ refl refl (quiet (Refuses cause) (λ job is. absurd (cc))) (λ ask is. absurd (cc)) (λ ask. refl)
  fated-served (asked errand free right) = puts (after_use (addition_of errand) state.held) errand
  fated-served (raised key signing free) =
      let job : ℕ = state.under_way.last_job + 1 in
      silent state.held (with_confirmation key (host_for (asker_at state.moment port) key signing) signing port.number state.under_way) (Awaits (OnConfirmation job)) _ _ refl refl
      (raised-raised state.ports tied.raised port.number (confirmation_of job (held_for port.number key signing) (prompt_for key.comment key.blob key.purposes (host_for (asker_at state.moment port) key signing) signing.message) state.under_way.second) port (change (Awaits (OnConfirmation job))) refl refl refl (found_within port.number 0 state.last_port state.ports port tied.rising found) found nothing owed door mild.number mild.door (λ p. refl) (λ p none. ap (λ bytes. bytes ++ []) (mild.owed p none)))
      (λ ask is. absurd (cc)) (λ ask. refl)
