-- What was judged of a binding stands until its signature is verified, and connections are bound to what was proved.
use Rattle.std.proofs.Common.{◌≡◌, ℕ, ◌+◌, List, [], ◌∷◌, ◌++◌, refl, ap, sym, ◌∙◌, Option, Some, None}
use Rattle.std.proofs.lemmas.List.{append-nil}
use Rattle.wire_text.specs.Frames.{front_body}
use Rattle.dest_rule.specs.declared.binding.Binding.{Binding}
use Rattle.helper_link.specs.Answered.{LeadTo}
use Rattle.helper_link.specs.HelperLink.{askers}
use Rattle.helper_link.specs.Telling.{Telling, telling}
use Rattle.helper_link.specs.declared.fault.LinkFault.{LinkFault}
use Rattle.helper_link.specs.declared.state.LinkState.{LinkState}
use Rattle.helper_link.specs.declared.state.LinkState.TheVariants as states
use Rattle.helper_link.proofs.AnswerLemmas.{settling_leads}
use Rattle.confirm_desk.specs.Confirmations.{Confirmation}
use Rattle.agent_model.specs.Actions.{Lost, Outcome, Work, acted, and_then, settles, stay}
use Rattle.agent_model.specs.Answers.{Answering, answer_all, close_helper, lose, lose_if, tell_each, with_answers}
use Rattle.agent_model.specs.Bindings.{bound_after}
use Rattle.agent_model.specs.Children.{changed, unheard}
use Rattle.agent_model.specs.Consents.{close_confirmer, grant_concluded, over, signing_of, without_confirmation}
use Rattle.agent_model.specs.Dispatch.{Asker, Served}
use Rattle.agent_model.specs.Errands.{Errand, Signs}
use Rattle.agent_model.specs.Events.{Happening}
use Rattle.agent_model.specs.KeyStates.{KeyState}
use Rattle.agent_model.specs.Sound.{AreChains, IsJudged, IsRising, IsTied}
use Rattle.agent_model.specs.State.{OnAsk, OnConfirmation, Port, State, UnderWay, change_port, find_port}
use Rattle.agent_model.specs.Step.{asker_at, attempts, concluded, take_frame}
use Rattle.agent_model.specs.Verdicts.{Awaits, Cause, HelperLost, NoLongerAllowed, NotConfirmed, Refuses, Replies, Verdict, tell}
use Rattle.agent_model.proofs.AskedLemmas.{given-asked, judged-asked}
use Rattle.agent_model.proofs.BindLemmas.{HoldsAt, bound_after-append, bound_answers, chain_in, holds_answers}
use Rattle.agent_model.proofs.FatedMakeLemmas.{tied_mid}
use Rattle.agent_model.proofs.TiedLemmas.{tied-quiet}
use Rattle.agent_model.proofs.GrantLemmas.{IsGranted, allowed, disallowed, grant-ends, unasked}
use Rattle.agent_model.proofs.JudgeLemmas.{KeepsChains, chains-keep, judged-keeps, keeps-absent, keeps-changed, keeps-in_turn, keeps-removed, keeps-same}
use Rattle.agent_model.proofs.LeadLemmas.{leads-answers, same}
use Rattle.agent_model.proofs.MakeLemmas.{Makes, Quiet, alters, closes, first, goes_on, grants, links, loses, mild_of, names, overs, same_asks, serves, stays, tells}
use Rattle.agent_model.proofs.RunLemmas.{leads-absent}
use Rattle.agent_model.proofs.ServeLemmas.{IsServed, answered, asked, raised, refused, serve-ends}

-- what keeps it: the bindings of those who stay, the asks and the verifications
pub record Keeps (old new : State) : Type 0 where
  pub ports : KeepsChains old.ports new.ports
  pub asks : new.under_way.link.asks ≡ old.under_way.link.asks
  pub last : new.under_way.link.last ≡ old.under_way.link.last
  pub verifications : new.under_way.verifications ≡ old.under_way.verifications

judged-by : (old new : State) → Keeps old new → IsJudged old → IsJudged new
judged-by old new keeps judged = record {
  verified = rw (keeps.asks, keeps.verifications) (judged-keeps old.ports new.ports old.under_way.verifications old.under_way.link.asks keeps.ports judged.verified);
  given = rw (keeps.last, keeps.verifications) judged.given;
  chains = chains-keep old.ports new.ports keeps.ports judged.chains;
}

pub keeps-quiet : {event : Happening} {old new : State} → Quiet event old new
    → IsRising 0 old.last_port old.ports → Keeps old new
keeps-quiet {old = old} (alters number f change) rising = record { ports = keeps-changed number f old.ports (mild_of change).number (mild_of change).chain; asks = refl; last = refl; verifications = refl }
keeps-quiet {old = old} (closes number may) rising = record { ports = keeps-removed number 0 old.last_port old.ports rising; asks = refl; last = refl; verifications = refl }
keeps-quiet {old = old} (goes_on new goes) rising = record { ports = keeps-same old.ports; asks = (same_asks goes).asks; last = (same_asks goes).last; verifications = (same_asks goes).verifications }
keeps-quiet {old = old} (names job number new) rising = record { ports = keeps-changed number unheard old.ports (λ p. refl) (λ p. refl); asks = refl; last = refl; verifications = refl }
keeps-quiet {old = old} (links job number new) rising = record { ports = keeps-changed number unheard old.ports (λ p. refl) (λ p. refl); asks = refl; last = refl; verifications = refl }

-- ---- what each event does

-- whoever is open was, and is bound to what was proved besides; and nothing is proved for a port that isn't open
pub record Binds (number : ℕ) (old : List Port) (outcome : Outcome) : Type 0 where
  pub bound : (port : Port) → find_port number outcome.state.ports ≡ Some port
      → (was : Port) × (find_port number old ≡ Some was) × (port.chain ≡ bound_after number outcome.actions was.chain)
  pub silent : (chain : List Binding) → find_port number old ≡ None
      → bound_after number outcome.actions chain ≡ chain

pub record Judges (old : State) (outcome : Outcome) : Type 0 where
  pub judged : IsJudged outcome.state
  pub binds : (number : ℕ) → Binds number old.ports outcome

-- nothing is proved
by_keeping : (old : State) (outcome : Outcome) → KeepsChains old.ports outcome.state.ports
    → ((number : ℕ) (chain : List Binding) → bound_after number outcome.actions chain ≡ chain)
    → IsJudged outcome.state → Judges old outcome
by_keeping old outcome keeps silent judged = record {
  judged = judged;
  binds = λ number. record {
    bound = λ port found. let was = keeps number port found in (was.0, was.1, was.2 ∙ sym (silent number was.0.chain));
    silent = λ chain none. silent number chain;
  };
}

-- ---- a client that is served

module _ (body : List ℕ) (take : Port → Port) (number_kept : (p : Port) → (take p).number ≡ p.number) (chain_kept : (p : Port) → (take p).chain ≡ p.chain) (port : Port) (state : State) (found : find_port port.number state.ports ≡ Some port) (tied : IsTied state) (judged : IsJudged state) where
  abbrev ports_after : Verdict → List Port
  ports_after verdict =
      change_port port.number (tell verdict) (change_port port.number take state.ports)

  kept : (verdict : Verdict) → KeepsChains state.ports (ports_after verdict)
  kept verdict = keeps-in_turn state.ports (change_port port.number take state.ports) (ports_after verdict)
      (keeps-changed port.number take state.ports number_kept chain_kept)
      (keeps-changed port.number (tell verdict) (change_port port.number take state.ports) (λ p. refl) (λ p. refl))

  -- by what comes of its request
  judged-served : {served : Served}
      → IsServed (asker_at state.moment port) state.held state.under_way served
      → IsJudged (concluded port.number body served (changed port.number take state)).state
  judged-served (answered reply held going) = judged-by state _ record { ports = kept (Replies reply); asks = refl; last = refl; verifications = refl } judged
  judged-served (refused cause) = judged-by state _ record { ports = kept (Refuses cause); asks = refl; last = refl; verifications = refl } judged
  judged-served (asked errand free right) =
      let link = state.under_way.link in
      let asker = asker_at state.moment port in
      let verdict : Verdict = Awaits (OnAsk (link.last + 1)) in
      record {
        verified = judged-asked asker errand link.last state.under_way.second link.asks state.under_way.verifications tied.order state.ports (ports_after verdict) port (kept verdict) judged.verified judged.given right found refl;
        given = given-asked asker errand link.last state.under_way.second link.asks state.under_way.verifications tied.order right judged.given;
        chains = chains-keep state.ports (ports_after verdict) (kept verdict) judged.chains;
      }
  judged-served (raised key signing free) =
      judged-by state _ record { ports = kept (Awaits (OnConfirmation (state.under_way.last_job + 1))); asks = refl; last = refl; verifications = refl } judged

-- a request proves nothing
pub silent_served : {asker : Asker} {held : KeyState} {under_way : UnderWay} {served : Served} (number : ℕ) (chain : List Binding)
    → IsServed asker held under_way served → bound_after number served.work.actions chain ≡ chain
silent_served number chain (answered reply held going) = refl
silent_served number chain (refused cause) = refl
silent_served number chain (asked errand free right) = refl
silent_served number chain (raised key signing free) = refl

-- ---- the helper answers, or is lost

keeps-tell_each : (verdict : Verdict) (numbers : List ℕ) (ports : List Port)
    → KeepsChains ports (tell_each verdict numbers ports)
keeps-tell_each verdict [] ports = keeps-same ports
keeps-tell_each verdict (number ∷ others) ports =
    keeps-in_turn ports (change_port number (tell verdict) ports) _ (keeps-changed number (tell verdict) ports (λ p. refl) (λ p. refl)) (keeps-tell_each verdict others (change_port number (tell verdict) ports))

keeps-close_helper : (link : LinkState) (low high : ℕ) (ports : List Port) → IsRising low high ports
    → KeepsChains ports (close_helper link ports)
keeps-close_helper states.None low high ports rising = keeps-same ports
keeps-close_helper (states.Starting job) low high ports rising = keeps-same ports
keeps-close_helper (states.Linked port) low high ports rising =
    keeps-removed port low high ports rising

keeps-lose : (state : State) → IsRising 0 state.last_port state.ports
    → KeepsChains state.ports (lose state).state.ports
keeps-lose state rising =
    keeps-in_turn state.ports (close_helper state.under_way.link.state state.ports) _ (keeps-close_helper state.under_way.link.state 0 state.last_port state.ports rising)
    (keeps-tell_each (Refuses HelperLost) (askers state.under_way.link.asks) (close_helper state.under_way.link.state state.ports))

-- nothing is verified any more
judged-lost : (state : State) → IsRising 0 state.last_port state.ports → AreChains state.ports
    → IsJudged (lose state).state
judged-lost state rising chains = record {
  verified = λ ask what one port noted there found. absurd (cc);
  given = λ ask one noted. absurd (cc);
  chains = chains-keep state.ports (lose state).state.ports (keeps-lose state rising) chains;
}

module _ (piece : List ℕ) (state : State) (tied : IsTied state) (judged : IsJudged state) where
  abbrev told : Telling
  told = telling piece state.under_way.link

  abbrev before : Answering
  before =
      record { ports = state.ports; verifications = state.under_way.verifications; actions = [] }

  abbrev after : Answering
  after = answer_all told.settled before

  abbrev mid : State
  mid = with_answers told.link after state

  leads : LeadTo told.settled state.under_way.link.asks told.link.asks
  leads = settling_leads (state.under_way.link.heard ++ piece) state.under_way.link.asks

  at_first : HoldsAt 0 state.under_way.link.last before state.under_way.link.asks
  at_first = record { rise = tied.order; tied = tied.tied; judged = judged.verified; given = judged.given; chains = judged.chains }

  at_last : HoldsAt 0 state.under_way.link.last after told.link.asks
  at_last = holds_answers 0 state.under_way.link.last told.settled before state.under_way.link.asks told.link.asks leads at_first

  judged_mid : IsJudged mid
  judged_mid = record { verified = at_last.judged; given = at_last.given; chains = at_last.chains }

  -- a port that is open after the answers was before
  was_open : (number : ℕ) (found : Option Port) → find_port number state.ports ≡ found
      → (port : Port) → find_port number after.ports ≡ Some port
      → (was : Port) × (find_port number state.ports ≡ Some was) × (port.chain ≡ bound_after number after.actions was.chain)
  was_open number None is port opened = absurd (
      let gone : find_port number after.ports ≡ None = leads-absent number state.ports (leads-answers state.ports told.settled before same) is in
      let no : None ≡ Some port = sym gone ∙ opened in
      cc
      )
  was_open number (Some was) is port opened =
      let bound = bound_answers 0 state.under_way.link.last told.settled before state.under_way.link.asks told.link.asks was.chain number leads at_first (ap (chain_in was.chain) is) in
      (was, is, ap (chain_in was.chain) (sym opened) ∙ bound)

  never_open : (number : ℕ) (chain : List Binding) → find_port number state.ports ≡ None
      → bound_after number after.actions chain ≡ chain
  never_open number chain none =
      let gone : find_port number after.ports ≡ None = leads-absent number state.ports (leads-answers state.ports told.settled before same) none in
      let bound = bound_answers 0 state.under_way.link.last told.settled before state.under_way.link.asks told.link.asks chain number leads at_first (ap (chain_in chain) none) in
      sym bound ∙ ap (chain_in chain) gone

  judges-fault : (fault : Option LinkFault)
      → Judges state (and_then (acted after.actions mid) (lose_if fault))
  judges-fault None = record {
    judged = judged_mid;
    binds = λ number. record {
      bound = λ port found. let was = was_open number (find_port number state.ports) refl port found in (was.0, was.1, was.2 ∙ ap (λ actions. bound_after number actions was.0.chain) (sym (append-nil after.actions)));
      silent = λ chain none. ap (λ actions. bound_after number actions chain) (append-nil after.actions) ∙ never_open number chain none;
    };
  }
  judges-fault (Some fault) =
      let tied_after : IsTied mid = tied_mid piece state tied in
      record {
        judged = judged-lost mid tied_after.rising at_last.chains;
        binds = λ number. record {
          bound = λ port found.
              let kept = keeps-lose mid tied_after.rising number port found in
              let was = was_open number (find_port number state.ports) refl kept.0 kept.1 in
              (was.0, was.1, kept.2 ∙ was.2 ∙ sym (bound_after-append number after.actions (Lost ∷ []) was.0.chain));
          silent = λ chain none. bound_after-append number after.actions (Lost ∷ []) chain ∙ never_open number chain none;
        };
      }

-- ---- a confirmation ends

module _ (confirmation : Confirmation) (state : State) (tied : IsTied state) where
  keeps-close_confirmer : (at : Option ℕ) → KeepsChains state.ports (close_confirmer at state.ports)
  keeps-close_confirmer None = keeps-same state.ports
  keeps-close_confirmer (Some at) = keeps-removed at 0 state.last_port state.ports tied.rising

  keeps-over : (f : Port → Port) → ((p : Port) → (f p).number ≡ p.number)
      → ((p : Port) → (f p).chain ≡ p.chain)
      → KeepsChains state.ports (change_port confirmation.asker f (close_confirmer confirmation.port state.ports))
  keeps-over f number chain =
      keeps-in_turn state.ports (close_confirmer confirmation.port state.ports) _ (keeps-close_confirmer confirmation.port)
      (keeps-changed confirmation.asker f (close_confirmer confirmation.port state.ports) number chain)

  module _ (judged : IsJudged state) (port : Port) (found : find_port confirmation.asker state.ports ≡ Some port) where
    -- it is the client that asks
    abbrev asking : Asker
    asking = record { port = confirmation.asker; chain = port.chain; attempted = port.attempted; mono = state.moment.mono; wall = state.moment.wall }

    refused_so : (cause : Cause)
        → Judges state (grant_concluded (settles (Refuses cause) (without_confirmation confirmation.job state.under_way)) confirmation state)
    refused_so cause =
        let kept_over = keeps-over (tell (Refuses cause)) (λ p. refl) (λ p. refl) in
        by_keeping state _ kept_over (λ number chain. refl)
        (judged-by state _ record { ports = kept_over; asks = refl; last = refl; verifications = refl } judged)

    -- no binding is verified by a signature
    judges-granted : {work : Work}
        → IsGranted port.chain confirmation state.moment.wall state.held (without_confirmation confirmation.job state.under_way) work
        → Judges state (grant_concluded work confirmation state)
    judges-granted (disallowed never) = refused_so NoLongerAllowed
    judges-granted (unasked cause key may fault) = refused_so cause
    judges-granted (allowed key may free) =
        let link = state.under_way.link in
        let errand : Errand = Signs key (signing_of key confirmation) in
        let verdict : Verdict = Awaits (OnAsk (link.last + 1)) in
        let kept_over = keeps-over (tell verdict) (λ p. refl) (λ p. refl) in
        by_keeping state _ kept_over (λ number chain. refl) record {
          verified = judged-asked asking errand link.last state.under_way.second link.asks state.under_way.verifications tied.order state.ports _ port kept_over judged.verified judged.given tt found refl;
          given = given-asked asking errand link.last state.under_way.second link.asks state.under_way.verifications tied.order tt judged.given;
          chains = chains-keep state.ports _ kept_over judged.chains;
        }

-- ---- events

pub judges-makes : {event : Happening} {old : State} {outcome : Outcome} → Makes event old outcome
    → IsTied old → IsJudged old → Judges old outcome
judges-makes (stays state) tied judged =
    by_keeping state (stay state) (keeps-same state.ports) (λ number chain. refl) judged
judges-makes {old = old} (first {mid = mid} {outcome = outcome} quiet rest) tied judged =
    let keeps = keeps-quiet quiet tied.rising in
    let later = judges-makes rest (tied-quiet quiet tied) (judged-by old mid keeps judged) in
    record {
      judged = later.judged;
      binds = λ number. record {
        bound = λ port found.
            let after = (later.binds number).bound port found in
            let before = keeps.ports number after.0 after.1 in
            (before.0, before.1, after.2 ∙ ap (bound_after number outcome.actions) before.2);
        silent = λ chain none. (later.binds number).silent chain (keeps-absent old.ports mid.ports number keeps.ports none);
      };
    }
judges-makes (serves body_len port state found door nothing owed own) tied judged =
    let body : List ℕ = front_body body_len port.heard in
    let take : Port → Port = take_frame body_len (attempts state.held.lock body) in
    let ends = serve-ends (asker_at state.moment port) state.held state.under_way body in
    by_keeping state _ (kept body take (λ p. refl) (λ p. refl) port state found tied judged _) (λ number chain. silent_served number chain ends)
    (judged-served body take (λ p. refl) (λ p. refl) port state found tied judged ends)
judges-makes (tells piece state) tied judged =
    judges-fault piece state tied judged (telling piece state.under_way.link).fault
judges-makes (loses state) tied judged =
    by_keeping state (lose state) (keeps-lose state tied.rising) (λ number chain. refl) (judged-lost state tied.rising judged.chains)
judges-makes (overs confirmation state there) tied judged =
    let kept_over = keeps-over confirmation state tied (tell (Refuses NotConfirmed)) (λ p. refl) (λ p. refl) in
    by_keeping state (over confirmation state) kept_over (λ number chain. refl)
    (judged-by state (over confirmation state).state record { ports = kept_over; asks = refl; last = refl; verifications = refl } judged)
judges-makes (grants confirmation port state there opened) tied judged =
    judges-granted confirmation state tied judged port opened (grant-ends port.chain confirmation state)
