-- Whether a connection tried to bind is what the past tells.
use Rattle.std.proofs.Common.{◌≡◌, ◌≢◌, ◌==◌, ℕ, List, [], ◌∷◌, ◌++◌, refl, sym, ap, ◌∙◌, arith, ◌&&◌, ◌||◌, Bool, true, false, is_some, Option, Some, None}
use Rattle.std.specs.Prelude.{not}
use Rattle.std.proofs.lemmas.Bool.Decides.{nat_tests}
use Rattle.world_ports.specs.declared.Moment.{Moment}
use Rattle.agent_msg.specs.Requests.{names_bind}
use Rattle.confirm_desk.specs.Confirmations.{Confirmation}
use Rattle.helper_link.specs.HelperLink.{askers}
use Rattle.helper_link.specs.Telling.{Telling, telling}
use Rattle.helper_link.specs.declared.answer.Answer.{Answer}
use Rattle.helper_link.specs.declared.answer.Answer.TheVariants as answer
use Rattle.helper_link.specs.declared.answer.Settled.{Settled}
use Rattle.helper_link.specs.declared.fault.LinkFault.{LinkFault}
use Rattle.helper_link.specs.declared.state.LinkState.{LinkState}
use Rattle.helper_link.specs.declared.state.LinkState.TheVariants as states
use Rattle.agent_model.specs.Actions.{Action, Answered, Asked, Granted, Lost, Over, Proved, Raised, Requested}
use Rattle.agent_model.specs.Answers.{Answering, answer_all, answer_by, answer_true, answers_in, close_helper, find_verification, helper_tells, lose, lose_if, prove, tell_each, with_answers}
use Rattle.agent_model.specs.Children.{unheard}
use Rattle.agent_model.specs.Consents.{close_confirmer}
use Rattle.agent_model.specs.Events.{Happening}
use Rattle.agent_model.specs.Runs.{Stamped}
use Rattle.agent_model.specs.Sound.{IsRising, IsTied}
use Rattle.agent_model.specs.State.{Port, State, Verification, change_port, find_port, remove_port}
use Rattle.agent_model.specs.Step.{attempts}
use Rattle.agent_model.specs.Verdicts.{HelperLost, HelperRefused, Refuses, Replies, Signature, SignatureWrong, Verdict, tell}
use Rattle.agent_model.proofs.ActionLemmas.{Each}
use Rattle.agent_model.proofs.FatedMakeLemmas.{tied_mid}
use Rattle.agent_model.proofs.MakeLemmas.{Change, Quiet, alters, closes, goes_on, hears, links, names, takes}
use Rattle.agent_model.proofs.PortsLemmas.{change_port-twice, find_port-left}
use Rattle.agent_model.proofs.TieLemmas.{IsOf, apart, found_after, here}
use Rattle.agent_laws.specs.History.{onto}
use Rattle.agent_laws.specs.Past.{done_of, locked_by, was_locked}
use Rattle.agent_laws.proofs.PastLemmas.{stamp, stamps}
use Rattle.list_laws.specs.Lists.{tried, tries}
use Rattle.list_laws.proofs.OrderLemmas.{IsIdle}

-- ---- what actions tell

-- behind these actions, by whether the agent was locked and whether it had tried
abbrev pub tried_then : ℕ → List Action → (locked before : Bool) → Bool
tried_then port [] locked before = before
tried_then port (action ∷ later) locked before =
    tried_then port later (locked_by (done_of action) locked) (before || tries port action locked)

pub tried-onto : (port : ℕ) (moment : Moment) (past : List Stamped) (actions : List Action)
    → tried port (onto past (stamps moment actions)) ≡ tried_then port actions (was_locked past) (tried port past)
tried-onto port moment past [] = refl
tried-onto port moment past (action ∷ later) = tried-onto port moment (stamp moment action ∷ past) later

-- it isn't a request
abbrev pub IsUnasked : Action → Type 0
IsUnasked (Requested requesting) = ⊥
IsUnasked _ = Unit {0}

or_false : (b : Bool) → (b || false) ≡ b
or_false true = refl
or_false false = refl

pub unasked-tried : (port : ℕ) (actions : List Action) (locked before : Bool) → Each IsUnasked actions
    → tried_then port actions locked before ≡ before
unasked-tried port [] locked before unasked = refl
unasked-tried port (action ∷ later) locked before unasked =
    unasked-tried port later (locked_by (done_of action) locked) (before || tries port action locked) unasked.1
    ∙ ap (λ b. before || b) (tries_not action unasked.0) ∙ or_false before
  where
    tries_not : (action : Action) → IsUnasked action → tries port action locked ≡ false
    tries_not (Requested requesting) is = absurd is
    tries_not (Asked asking) is = refl
    tries_not (Answered settled) is = refl
    tries_not (Proved proving) is = refl
    tries_not (Raised raising) is = refl
    tries_not (Granted job) is = refl
    tries_not (Over job) is = refl
    tries_not Lost is = refl

-- more behind what is neither a request nor an ask
pub idle-tried_more : (port : ℕ) (some more : List Action) (locked before : Bool) → Each IsIdle some
    → tried_then port (some ++ more) locked before ≡ tried_then port more locked before
idle-tried_more port [] more locked before idle = refl
idle-tried_more port (Requested requesting ∷ later) more locked before idle = absurd idle.0
idle-tried_more port (Asked asking ∷ later) more locked before idle = absurd idle.0
idle-tried_more port (Answered settled ∷ later) more locked before idle =
    ap (tried_then port (later ++ more) locked) (or_false before) ∙ idle-tried_more port later more locked before idle.1
idle-tried_more port (Proved proving ∷ later) more locked before idle =
    ap (tried_then port (later ++ more) locked) (or_false before) ∙ idle-tried_more port later more locked before idle.1
idle-tried_more port (Raised raising ∷ later) more locked before idle =
    ap (tried_then port (later ++ more) locked) (or_false before) ∙ idle-tried_more port later more locked before idle.1
idle-tried_more port (Granted job ∷ later) more locked before idle =
    ap (tried_then port (later ++ more) locked) (or_false before) ∙ idle-tried_more port later more locked before idle.1
idle-tried_more port (Over job ∷ later) more locked before idle =
    ap (tried_then port (later ++ more) locked) (or_false before) ∙ idle-tried_more port later more locked before idle.1
idle-tried_more port (Lost ∷ later) more locked before idle =
    ap (tried_then port (later ++ more) locked) (or_false before) ∙ idle-tried_more port later more locked before idle.1

-- ---- ports that keep it

-- each port that is open was, and tried if it had
abbrev pub KeepTries : List Port → List Port → Type 0
KeepTries old new = (number : ℕ) (port : Port) → find_port number new ≡ Some port
    → (was : Port) × (find_port number old ≡ Some was) × (port.attempted ≡ was.attempted)

pub tries-same : (ports : List Port) → KeepTries ports ports
tries-same ports number port found = (port, found, refl)

pub tries-changed : (at : ℕ) (f : Port → Port) (ports : List Port) → ((p : Port) → (f p).number ≡ p.number)
    → ((p : Port) → (f p).attempted ≡ p.attempted) → KeepTries ports (change_port at f ports)
tries-changed at f ports number keeps n port found = by_port (found_after n at f ports port number found)
  where
    by_port : IsOf n at f ports port
        → (was : Port) × (find_port n ports ≡ Some was) × (port.attempted ≡ was.attempted)
    by_port (here old same was is) = (old, was, ap (λ (p : Port). p.attempted) is ∙ keeps old)
    by_port (apart other was) = (port, was, refl)

pub tries-removed : (at low high : ℕ) (ports : List Port) → IsRising low high ports
    → KeepTries ports (remove_port at ports)
tries-removed at low high ports rising number port found =
    (port, find_port-left number at low high ports port rising found, refl)

pub tries-in_turn : (old mid new : List Port) → KeepTries old mid → KeepTries mid new → KeepTries old new
tries-in_turn old mid new one two number port found =
    let after = two number port found in
    let before = one number after.0 after.1 in
    (before.0, before.1, after.2 ∙ before.2)

pub tries-absent : (old new : List Port) (number : ℕ) → KeepTries old new
    → find_port number old ≡ None → find_port number new ≡ None
tries-absent old new number keeps none = by_found (find_port number new) refl
  where
    by_found : (found : Option Port) → find_port number new ≡ found → find_port number new ≡ None
    by_found None is = is
    by_found (Some port) is =
        let was = keeps number port is in
        let no : None ≡ Some was.0 = sym none ∙ was.1 in
        absurd (cc)

tries-tell_each : (verdict : Verdict) (numbers : List ℕ) (ports : List Port)
    → KeepTries ports (tell_each verdict numbers ports)
tries-tell_each verdict [] ports = tries-same ports
tries-tell_each verdict (number ∷ others) ports =
    tries-in_turn ports (change_port number (tell verdict) ports) _ (tries-changed number (tell verdict) ports (λ p. refl) (λ p. refl)) (tries-tell_each verdict others (change_port number (tell verdict) ports))

tries-close_helper : (link : LinkState) (low high : ℕ) (ports : List Port) → IsRising low high ports
    → KeepTries ports (close_helper link ports)
tries-close_helper states.None low high ports rising = tries-same ports
tries-close_helper (states.Starting job) low high ports rising = tries-same ports
tries-close_helper (states.Linked port) low high ports rising = tries-removed port low high ports rising

pub tries-lose : (state : State) → IsRising 0 state.last_port state.ports
    → KeepTries state.ports (lose state).state.ports
tries-lose state rising =
    tries-in_turn state.ports (close_helper state.under_way.link.state state.ports) _ (tries-close_helper state.under_way.link.state 0 state.last_port state.ports rising)
    (tries-tell_each (Refuses HelperLost) (askers state.under_way.link.asks) (close_helper state.under_way.link.state state.ports))

tries-close_confirmer : (at : Option ℕ) (low high : ℕ) (ports : List Port) → IsRising low high ports
    → KeepTries ports (close_confirmer at ports)
tries-close_confirmer None low high ports rising = tries-same ports
tries-close_confirmer (Some at) low high ports rising = tries-removed at low high ports rising

-- a confirmation ends, and its client is told
pub tries-ended : (confirmation : Confirmation) (verdict : Verdict) (state : State) → IsRising 0 state.last_port state.ports
    → KeepTries state.ports (change_port confirmation.asker (tell verdict) (close_confirmer confirmation.port state.ports))
tries-ended confirmation verdict state rising =
    tries-in_turn state.ports (close_confirmer confirmation.port state.ports) _ (tries-close_confirmer confirmation.port 0 state.last_port state.ports rising)
    (tries-changed confirmation.asker (tell verdict) (close_confirmer confirmation.port state.ports) (λ p. refl) (λ p. refl))

-- the helper answers
tries-told : (at : ℕ) (verdict : Verdict) (ports : List Port) → KeepTries ports (change_port at (tell verdict) ports)
tries-told at verdict ports = tries-changed at (tell verdict) ports (λ p. refl) (λ p. refl)

tries-true : (found : Option Verification) (one : Settled) (before : Answering)
    → KeepTries before.ports (answer_true found one before).ports
tries-true None one before = tries-told one.asker (Refuses SignatureWrong) before.ports
tries-true (Some verification) one before =
    tries-changed one.asker (prove verification) before.ports (λ p. refl) (λ p. refl)

tries-answer : (what : Answer) (one : Settled) (before : Answering)
    → KeepTries before.ports (answer_by what one before).ports
tries-answer (answer.Signed signature) one before = tries-told one.asker (Replies (Signature signature)) before.ports
tries-answer answer.Refused one before = tries-told one.asker (Refuses HelperRefused) before.ports
tries-answer answer.True one before = tries-true (find_verification one.ask before.verifications) one before
tries-answer answer.False one before = tries-told one.asker (Refuses SignatureWrong) before.ports

tries-answers : (settled : List Settled) (before : Answering) → KeepTries before.ports (answer_all settled before).ports
tries-answers [] before = tries-same before.ports
tries-answers (one ∷ later) before =
    tries-in_turn before.ports (answer_by one.answer one before).ports _ (tries-answer one.answer one before) (tries-answers later (answer_by one.answer one before))

-- what the helper sends
tries-fault : (fault : Option LinkFault) (state mid : State) → KeepTries state.ports mid.ports → IsRising 0 mid.last_port mid.ports
    → KeepTries state.ports (lose_if fault mid).state.ports
tries-fault None state mid keeps rising = keeps
tries-fault (Some fault) state mid keeps rising =
    tries-in_turn state.ports mid.ports (lose mid).state.ports keeps (tries-lose mid rising)

pub tries-tells : (piece : List ℕ) (state : State) → IsTied state
    → KeepTries state.ports (helper_tells (telling piece state.under_way.link) state).state.ports
tries-tells piece state tied =
    tries-fault told.fault state (with_answers told.link (answers_in told.settled state) state)
    (tries-answers told.settled _) (tied_mid piece state tied).rising
  where
    told : Telling
    told = telling piece state.under_way.link

-- a quiet change
change-number : {event : Happening} {number : ℕ} {f : Port → Port} → Change event number f → (p : Port) → (f p).number ≡ p.number
change-number (hears piece is) p = refl
change-number (takes count is) p = refl

change-tries : {event : Happening} {number : ℕ} {f : Port → Port} → Change event number f → (p : Port) → (f p).attempted ≡ p.attempted
change-tries (hears piece is) p = refl
change-tries (takes count is) p = refl

pub tries-quiet : {event : Happening} {old new : State} → Quiet event old new
    → IsRising 0 old.last_port old.ports → KeepTries old.ports new.ports
tries-quiet {old = old} (alters number f change) rising =
    tries-changed number f old.ports (change-number change) (change-tries change)
tries-quiet {old = old} (closes number may) rising = tries-removed number 0 old.last_port old.ports rising
tries-quiet {old = old} (goes_on new goes) rising = tries-same old.ports
tries-quiet {old = old} (names job number new) rising = tries-changed number unheard old.ports (λ p. refl) (λ p. refl)
tries-quiet {old = old} (links job number new) rising = tries-changed number unheard old.ports (λ p. refl) (λ p. refl)

-- ---- what is told of ports over actions

-- whoever is open was, and tried if it had or if the actions say so; and they say so of nobody else
pub record Tries (locked : Bool) (number : ℕ) (old : List Port) (actions : List Action) (new : List Port) : Type 0 where
  pub bound : (port : Port) → find_port number new ≡ Some port
      → (was : Port) × (find_port number old ≡ Some was) × (port.attempted ≡ tried_then number actions locked was.attempted)
  pub silent : (before : Bool) → find_port number old ≡ None → tried_then number actions locked before ≡ before

-- nobody asked
pub tries-unasked : (locked : Bool) (number : ℕ) (old : List Port) (actions : List Action) (new : List Port)
    → Each IsUnasked actions → KeepTries old new → Tries locked number old actions new
tries-unasked locked number old actions new unasked keeps = record {
  bound = λ port found.
      let was = keeps number port found in
      (was.0, was.1, was.2 ∙ sym (unasked-tried number actions locked was.0.attempted unasked));
  silent = λ before none. unasked-tried number actions locked before unasked;
}

-- whether it tries by a request
tries_by : (own : Bool) (body : List ℕ) (lock : Option (List ℕ))
    → own ≡ true → attempts lock body ≡ (own && (names_bind body && not (is_some lock)))
tries_by true body None is = by_test (names_bind body)
  where
    by_test : (b : Bool) → b ≡ (b && true)
    by_test true = refl
    by_test false = refl
tries_by true body (Some passphrase) is = by_test (names_bind body)
  where
    by_test : (b : Bool) → false ≡ (b && false)
    by_test true = refl
    by_test false = refl
tries_by false body lock is = absurd (cc)

-- a client asked
module _ (body : List ℕ) (verdict : Verdict) (take : Port → Port) (lock : Option (List ℕ)) (at : ℕ) (ports : List Port) (actions : List Action) (numbered : (p : Port) → (take p).number ≡ p.number) (attempted : (p : Port) → (take p).attempted ≡ (p.attempted || attempts lock body)) (unasked : Each IsUnasked actions) (port : Port) (there : find_port at ports ≡ Some port) where
  abbrev request : Action
  request = Requested (record { port = at; body = body; verdict = verdict })

  -- the last request decides
  decides : (number : ℕ) (before : Bool)
      → tried_then number (request ∷ actions) (is_some lock) before ≡ (before || ((at == number) && (names_bind body && not (is_some lock))))
  decides number before =
      unasked-tried number actions (locked_by (done_of request) (is_some lock)) _ unasked

  not_its : (number : ℕ) (before : Bool) → (at == number) ≡ false
      → tried_then number (request ∷ actions) (is_some lock) before ≡ before
  not_its number before other =
      decides number before ∙ ap (λ b. before || (b && (names_bind body && not (is_some lock)))) other ∙ or_false before

  apart_from : (number : ℕ) → number ≢ at → (at == number) ≡ false
  apart_from number other = grind (arith, nat_tests, other)

  pub tries-asked : (number : ℕ)
      → Tries (is_some lock) number ports (request ∷ actions) (change_port at (tell verdict) (change_port at take ports))
  tries-asked number = record {
    bound = λ after found. by_port after (found_after number at (λ p. tell verdict (take p)) ports after numbered (ap (find_port number) (sym (change_port-twice at take (tell verdict) ports numbered)) ∙ found));
    silent = λ before none. not_its number before (apart_from number (λ same. let no : None ≡ Some port = sym none ∙ ap (λ n. find_port n ports) same ∙ there in absurd (cc)));
  }
    where
      by_port : (after : Port) → IsOf number at (λ p. tell verdict (take p)) ports after
          → (was : Port) × (find_port number ports ≡ Some was) × (after.attempted ≡ tried_then number (request ∷ actions) (is_some lock) was.attempted)
      by_port after (here old same was is) =
          let own : (at == number) ≡ true = grind (arith, nat_tests, same) in
          (old, was, ap (λ (p : Port). p.attempted) is ∙ attempted old ∙ ap (λ b. old.attempted || b) (tries_by (at == number) body lock own) ∙ sym (decides number old.attempted))
      by_port after (apart other was) = (after, was, sym (not_its number after.attempted (apart_from number other)))
