-- Who asks the user and who waits for it are open.
use Rattle.std.proofs.Common.{◌≡◌, ◌≢◌, ℕ, suc, ◌+◌, ◌<◌, List, [], ◌∷◌, length, nat_lt, refl, ap, arith, sym, ◌∙◌, Option, Some, None, IsSome, Bool, true, false, if◌then◌else◌}
use Rattle.std.proofs.lemmas.Bool.Decides.{nat_tests}
use Rattle.world_ports.specs.declared.Door.{Door}
use Rattle.world_ports.specs.declared.Door.TheVariants.{Clients, Children}
use Rattle.world_ports.specs.declared.Moment.{Moment}
use Rattle.wire_text.specs.Frames.{front_body}
use Rattle.confirm_desk.specs.Confirmations.{Confirmation, confirmation_of, find_asker, find_job, find_linked, remove_job}
use Rattle.confirm_desk.specs.Prompt.{prompt_for}
use Rattle.dest_rule.specs.declared.binding.Binding.{Binding}
use Rattle.helper_link.specs.HelperLink.{askers}
use Rattle.helper_link.specs.Telling.{telling}
use Rattle.helper_link.specs.declared.fault.LinkFault.{LinkFault}
use Rattle.helper_link.specs.declared.state.LinkState.{LinkState}
use Rattle.helper_link.specs.declared.state.LinkState.TheVariants as states
use Rattle.agent_model.specs.Actions.{Outcome, Work}
use Rattle.agent_model.specs.Answers.{answers_in, close_helper, lose, lose_if, with_answers}
use Rattle.agent_model.specs.Asking.{AreAttended, IsAttended}
use Rattle.agent_model.specs.Children.{changed, closed, unheard}
use Rattle.agent_model.specs.Consents.{close_confirmer, grant_concluded, over_if, without_confirmation}
use Rattle.agent_model.specs.Dispatch.{Served, host_for}
use Rattle.agent_model.specs.Errands.{begun_by, held_for, raise_fault, spent_jobs}
use Rattle.agent_model.specs.Events.{Happening, Joined, Heard, Ended, Took, Started, StartFailed, Tick, Timed}
use Rattle.agent_model.specs.Limits.{most_confirmations}
use Rattle.agent_model.specs.Runs.{run}
use Rattle.agent_model.specs.Sound.{IsTied}
use Rattle.agent_model.specs.State.{Client, Confirmer, Helper, Nothing, OnAsk, OnConfirmation, Port, Role, Settings, State, UnderWay, Unnamed, change_port, find_port, first_state, role_of}
use Rattle.agent_model.specs.Step.{admitted, asker_at, attempts, concluded, ended_at, ended_by_role, handle, has_room, step, take_frame}
use Rattle.agent_model.specs.Time.{at_moment}
use Rattle.agent_model.specs.Verdicts.{Awaits, HelperLost, NoLongerAllowed, NotConfirmed, Refuses, Replies, Verdict, tell, TooManyConfirmations}
use Rattle.agent_model.proofs.FatedLemmas.{step-fated}
use Rattle.agent_model.proofs.FatedMakeLemmas.{fated-makes, found_still, tied-taken, tied_mid}
use Rattle.agent_model.proofs.FatedServeLemmas.{linked-begun}
use Rattle.agent_model.proofs.TiedLemmas.{tied-quiet}
use Rattle.agent_model.proofs.GrantLemmas.{IsGranted, allowed, disallowed, grant-ends, unasked}
use Rattle.agent_model.proofs.JobLemmas.{IsIn, asker_own, in-by_asker, in-by_job, in-by_port, in-found, linked_port}
use Rattle.agent_model.proofs.MakeLemmas.{Makes, MayClose, Quiet, alters, child, closes, ended, first, goes_on, grants, idle, links, loses, makes-handle, mild_of, names, overs, same_asks, role-client, role-confirmer, role-door, role-free, role-helper, serves, stays, tells}
use Rattle.agent_model.proofs.PortsLemmas.{found_number}
use Rattle.agent_model.proofs.ServeLemmas.{IsServed, answered, asked, raised, refused, serve-ends}
use Rattle.agent_model.proofs.OpenLemmas.{Opens, attended-kept, attended-link, attended-linked, attended-opens, attended-over, attended-raised, attended-removed, is_found, none_asks, none_linked, opens-answers, opens-changed, opens-in_turn, opens-tell_each, removed-apart, some_port}
use Rattle.agent_model.proofs.TimeLemmas.{at_moment-keeps}

-- ---- quiet changes

module _ (state : State) (tied : IsTied state) (attended : IsAttended state) where
  abbrev uw : UnderWay
  uw = state.under_way

  -- an asker is a client that waits for its confirmation
  asker_waits : (job : ℕ) (one : Confirmation) (port : Port)
      → find_job job uw.confirmations ≡ Some one → find_port one.asker state.ports ≡ Some port
      → (port.waits ≡ OnConfirmation job) × (port.door ≡ Clients)
  asker_waits job one port there found =
      let waits = tied.raised.asking.asks job one port there found in
      (waits, (tied.raised.asking.waits one.asker job port found waits).door)

  -- so that it isn't at a port where another is
  not_its_port : (job number : ℕ) (one : Confirmation) (port : Port)
      → find_job job uw.confirmations ≡ Some one → find_port number state.ports ≡ Some port
      → (port.waits ≡ OnConfirmation job → port.door ≡ Clients → ⊥) → one.asker ≢ number
  not_its_port job number one port there found other same =
      let waits = asker_waits job one port there (ap (λ n. find_port n state.ports) same ∙ found) in
      other waits.0 waits.1

  -- nor is its child process at a client's
  not_client : (job number : ℕ) (one : Confirmation) (port : Port)
      → find_job job uw.confirmations ≡ Some one → find_port number state.ports ≡ Some port
      → port.door ≡ Clients → one.port ≢ Some number
  not_client job number one port there found door at =
      let child : port.door ≡ Children = tied.raised.confirmers job number one port there at found in
      let no : Clients ≡ Children = sym door ∙ child in
      absurd (cc)

  not_child : (job number : ℕ) (one : Confirmation) (port : Port)
      → find_job job uw.confirmations ≡ Some one → find_port number state.ports ≡ Some port
      → port.door ≡ Children → one.asker ≢ number
  not_child job number one port there found door =
      not_its_port job number one port there found (λ waits client. let no : Clients ≡ Children = sym client ∙ door in absurd (cc))

  not_linked : (job number : ℕ) (one : Confirmation) → find_job job uw.confirmations ≡ Some one
      → find_linked number uw.confirmations ≡ None → one.port ≢ Some number
  not_linked job number one there free =
      none_linked number one (in-by_job job uw.confirmations one there) free

  nobody_at : {event : Happening} (number : ℕ) → MayClose event number state.ports uw.confirmations
      → ((n : ℕ) → event ≢ Ended n) → (job : ℕ) (one : Confirmation)
      → find_job job uw.confirmations ≡ Some one → (one.asker ≢ number) × (one.port ≢ Some number)
  nobody_at number (idle port found nothing unowed client) none job one there = (
    not_its_port job number one port there found (λ waits door. let no : Nothing ≡ OnConfirmation job = sym nothing ∙ waits in absurd (cc)),
    not_client job number one port there found client,
  )
  nobody_at number (child port found door free) none job one there =
      (not_child job number one port there found door, not_linked job number one there free)
  nobody_at number (ended is) none job one there = absurd (none number is)

  -- ---- the helper

  lose-attended : IsAttended (lose state).state
  lose-attended = attended-opens (close_helper uw.link.state state.ports) _ (opens-tell_each (Refuses HelperLost) (askers uw.link.asks) (close_helper uw.link.state state.ports)) (by_link uw.link.state refl)
    where
      by_link : (link : LinkState) → uw.link.state ≡ link
          → AreAttended uw.confirmations states.None (close_helper link state.ports)
      by_link states.None is =
          attended-link uw.link.state states.None (λ n no. absurd (cc)) attended
      by_link (states.Starting job) is =
          attended-link uw.link.state states.None (λ n no. absurd (cc)) attended
      by_link (states.Linked at) is =
          attended-link uw.link.state states.None (λ n no. absurd (cc))
          (attended-removed at state.ports (λ job one there. (
            λ same.
                let port = some_port one.asker state.ports (attended.askers job one there) in
                let child : port.0.door ≡ Children = tied.helper at port.0 is (ap (λ n. find_port n state.ports) (sym same) ∙ port.1) in
                let no : Clients ≡ Children = sym (asker_waits job one port.0 there port.1).1 ∙ child in
                absurd (cc),
            λ place. attended.helper job at one there place is,
          )) attended)

  -- ---- a confirmation ends

  module _ (confirmation : Confirmation) (there : IsIn confirmation uw.confirmations) where
    is_there : find_job confirmation.job uw.confirmations ≡ Some confirmation
    is_there = in-found confirmation 0 uw.last_job tied.raised.order there

    -- the others' ports stay
    stays_there : (base : List Port) (at : Option ℕ) (number : ℕ) → at ≢ Some number
        → IsSome (find_port number base) → IsSome (find_port number (close_confirmer at base))
    stays_there base None number other some = some
    stays_there base (Some at) number other some =
        removed-apart number at base (λ same. other (ap Some (sym same))) some

    over-attended : (link : LinkState) (base : List Port) (f : Port → Port)
        → ((p : Port) → (f p).number ≡ p.number)
        → ((number : ℕ) → link ≡ states.Linked number → uw.link.state ≡ states.Linked number)
        → ((job : ℕ) (one : Confirmation) → find_job job uw.confirmations ≡ Some one → confirmation.job ≢ job → IsSome (find_port one.asker base) × ((number : ℕ) → one.port ≡ Some number → IsSome (find_port number base)))
        → AreAttended (remove_job confirmation.job uw.confirmations) link (change_port confirmation.asker f (close_confirmer confirmation.port base))
    over-attended link base f keeps linked others =
        attended-link uw.link.state link linked
        (attended-over confirmation.job uw.last_job tied.raised.order attended (λ job one found differs.
        let left = others job one found differs in
        let port = some_port one.asker state.ports (attended.askers job one found) in (
          opens-changed confirmation.asker f (close_confirmer confirmation.port base) keeps one.asker
              (stays_there base confirmation.port one.asker (λ at. not_client confirmation.job one.asker confirmation port.0 is_there port.1 (asker_waits job one port.0 found port.1).1 at) left.0),
          λ number at. opens-changed confirmation.asker f (close_confirmer confirmation.port base) keeps number
              (stays_there base confirmation.port number (λ same. differs (attended.apart confirmation.job job number confirmation one is_there found same at)) (left.1 number at)),
        )))

    -- where nothing else was closed
    all_there : (job : ℕ) (one : Confirmation) → find_job job uw.confirmations ≡ Some one
        → confirmation.job ≢ job
        → IsSome (find_port one.asker state.ports) × ((number : ℕ) → one.port ≡ Some number → IsSome (find_port number state.ports))
    all_there job one found differs =
        (attended.askers job one found, λ number at. attended.confirmers job number one found at)

    granted-attended : {chain : List Binding} {work : Work}
        → IsGranted chain confirmation state.moment.wall state.held (without_confirmation confirmation.job uw) work
        → IsAttended (grant_concluded work confirmation state).state
    granted-attended (disallowed never) = over-attended uw.link.state state.ports (tell (Refuses NoLongerAllowed)) (λ p. refl) (λ n is. is) all_there
    granted-attended (unasked cause key may fault) = over-attended uw.link.state state.ports (tell (Refuses cause)) (λ p. refl) (λ n is. is) all_there
    granted-attended (allowed key may free) =
        over-attended (begun_by uw.link.state (uw.last_job + 1)) state.ports (tell (Awaits (OnAsk (uw.link.last + 1)))) (λ p. refl) (λ n is. linked-begun uw.link.state (uw.last_job + 1) n is) all_there

-- ---- a client that is served

raised_room : (under_way : UnderWay) → raise_fault under_way ≡ None
    → length under_way.confirmations < 16
raised_room under_way free = by_room (nat_lt (length under_way.confirmations) most_confirmations) refl free
  where
    by_room : (room : Bool) → nat_lt (length under_way.confirmations) most_confirmations ≡ room
        → (if room then spent_jobs under_way.last_job else Some TooManyConfirmations) ≡ None
        → length under_way.confirmations < 16
    by_room false is none = absurd (cc)
    by_room true is none = grind (arith, nat_tests)

module _ (body : List ℕ) (take : Port → Port) (keeps : (p : Port) → (take p).number ≡ p.number) (port : Port) (state : State) (found : find_port port.number state.ports ≡ Some port) (tied : IsTied state) (attended : IsAttended state) where
  opens-served : (verdict : Verdict)
      → Opens state.ports (change_port port.number (tell verdict) (change_port port.number take state.ports))
  opens-served verdict =
      opens-in_turn state.ports (change_port port.number take state.ports) _ (opens-changed port.number take state.ports keeps) (opens-changed port.number (tell verdict) _ (λ p. refl))

  served-attended : {served : Served}
      → IsServed (asker_at state.moment port) state.held state.under_way served
      → IsAttended (concluded port.number body served (changed port.number take state)).state
  served-attended (answered reply kept same) =
      attended-opens state.ports _ (opens-served (Replies reply)) attended
  served-attended (refused cause) =
      attended-opens state.ports _ (opens-served (Refuses cause)) attended
  served-attended (asked errand free right) =
      let link = state.under_way.link in
      attended-link link.state (begun_by link.state (state.under_way.last_job + 1)) (λ n is. linked-begun link.state (state.under_way.last_job + 1) n is)
      (attended-opens state.ports _ (opens-served (Awaits (OnAsk (link.last + 1)))) attended)
  served-attended (raised key signing free) =
      let job : ℕ = state.under_way.last_job + 1 in
      attended-opens state.ports _ (opens-served (Awaits (OnConfirmation job)))
      (attended-raised state.under_way.last_job (confirmation_of job (held_for port.number key signing) (prompt_for key.comment key.blob key.purposes (host_for (asker_at state.moment port) key signing) signing.message) state.under_way.second) tied.raised.order refl refl (raised_room state.under_way free) (is_found _ port found) attended)

-- ---- events

attended-quiet : {event : Happening} {old new : State} → Quiet event old new
    → ((n : ℕ) → event ≢ Ended n) → IsTied old → IsAttended old → IsAttended new
attended-quiet {old = old} (alters number f change) none tied attended =
    attended-opens old.ports _ (opens-changed number f old.ports (mild_of change).number) attended
attended-quiet {old = old} (closes number may) none tied attended =
    attended-removed number old.ports (nobody_at old tied attended number may none) attended
attended-quiet {old = old} (goes_on new goes) none tied attended =
    attended-link old.under_way.link.state new.link.state (λ n is. sym (same_asks goes).state ∙ is) (attended-kept (same_asks goes).kept attended)
attended-quiet {old = old} (names job number new) none tied attended =
    attended-opens old.ports _ (opens-changed number unheard old.ports (λ p. refl)) record {
      few = attended.few;
      askers = attended.askers;
      confirmers = attended.confirmers;
      apart = attended.apart;
      helper = λ other n one there at is.
          let same : number ≡ n = cc in
          not_linked old tied attended other number one there new.free (at ∙ ap Some (sym same));
    }
attended-quiet {old = old} (links job number new) none tied attended =
    attended-linked job number (opens-changed number unheard old.ports (λ p. refl) number (is_found _ new.port new.found)) (λ other one there. not_linked old tied attended other number one there new.free) new.other
    (attended-opens old.ports _ (opens-changed number unheard old.ports (λ p. refl)) attended)

attended-fault : (fault : Option LinkFault) (state : State) → IsTied state → IsAttended state
    → IsAttended (lose_if fault state).state
attended-fault None state tied attended = attended
attended-fault (Some fault) state tied attended = lose-attended state tied attended

attended-makes : {event : Happening} {old : State} {outcome : Outcome} → Makes event old outcome
    → ((n : ℕ) → event ≢ Ended n) → IsTied old → IsAttended old → IsAttended outcome.state
attended-makes (stays state) none tied attended = attended
attended-makes (first quiet rest) none tied attended =
    attended-makes rest none (tied-quiet quiet tied) (attended-quiet quiet none tied attended)
attended-makes (serves body_len port state found door nothing owed own) none tied attended =
    let body : List ℕ = front_body body_len port.heard in
    served-attended body (take_frame body_len (attempts state.held.lock body)) (λ p. refl) port state found tied attended (serve-ends (asker_at state.moment port) state.held state.under_way body)
attended-makes (tells piece state) none tied attended =
    let told = telling piece state.under_way.link in
    attended-fault told.fault (with_answers told.link (answers_in told.settled state) state) (tied_mid piece state tied)
    (attended-opens state.ports _ (opens-answers told.settled (record { ports = state.ports; verifications = state.under_way.verifications; actions = [] })) attended)
attended-makes (loses state) none tied attended = lose-attended state tied attended
attended-makes (overs confirmation state there) none tied attended =
    over-attended state tied attended confirmation there state.under_way.link.state state.ports (tell (Refuses NotConfirmed)) (λ p. refl) (λ n is. is) (all_there state tied attended confirmation there)
attended-makes (grants confirmation port state there opened) none tied attended =
    granted-attended state tied attended confirmation there (grant-ends port.chain confirmation state)

-- ---- a port that ends

module _ (state : State) (tied : IsTied state) (attended : IsAttended state) (port : Port) (found : find_port port.number state.ports ≡ Some port) where
  abbrev left : State
  left = closed port.number state

  ended_client : port.door ≡ Clients → (own : Option Confirmation)
      → find_asker port.number state.under_way.confirmations ≡ own
      → IsAttended (over_if own left).state
  ended_client door None is =
      attended-removed port.number state.ports (λ job one there. (none_asks port.number one (in-by_job job state.under_way.confirmations one there) is, not_client state tied attended job port.number one port there found door)) attended
  ended_client door (Some confirmation) is =
      let there : IsIn confirmation state.under_way.confirmations = in-by_asker port.number state.under_way.confirmations confirmation is in
      let own : confirmation.asker ≡ port.number = asker_own port.number state.under_way.confirmations confirmation is in
      over-attended state tied attended confirmation there state.under_way.link.state left.ports (tell (Refuses NotConfirmed)) (λ p. refl) (λ n same. same) (λ job one found_one differs. (
        removed-apart one.asker port.number state.ports
            (not_its_port state tied attended job port.number one port found_one found (λ waits client.
            let first : port.waits ≡ OnConfirmation confirmation.job = (asker_waits state tied attended confirmation.job confirmation port (is_there state tied attended confirmation there) (ap (λ n. find_port n state.ports) own ∙ found)).0 in
            let both : OnConfirmation confirmation.job ≡ OnConfirmation job = sym first ∙ waits in
            let equal : confirmation.job ≡ job = cc in
            differs equal))
            (attended.askers job one found_one),
        λ number at. removed-apart number port.number state.ports (λ same. not_client state tied attended job port.number one port found_one found door (at ∙ ap Some same)) (attended.confirmers job number one found_one at),
      ))

  ended_child : port.door ≡ Children
      → ((job : ℕ) (one : Confirmation) → find_job job state.under_way.confirmations ≡ Some one → one.port ≢ Some port.number)
      → IsAttended left
  ended_child door free =
      attended-removed port.number state.ports (λ job one there. (not_child state tied attended job port.number one port there found door, free job one there)) attended

  ended_role : (role : Role) → role_of port.door port.number state.under_way ≡ role
      → IsAttended (ended_by_role role port.number state).state
  ended_role Client is = ended_client (role-client port.door port.number state.under_way is) _ refl
  ended_role Unnamed is =
      ended_child (role-door port.door port.number state.under_way Unnamed is (λ no. absurd (cc))) (λ job one there. not_linked state tied attended job port.number one there (role-free port.door port.number state.under_way is))
  ended_role Helper is =
      lose-attended left (tied-quiet {event = Ended port.number} {old = state} (closes port.number (ended refl)) tied)
      (ended_child (role-door port.door port.number state.under_way Helper is (λ no. absurd (cc))) (λ job one there at. attended.helper job port.number one there at (role-helper port.door port.number state.under_way is)))
  ended_role (Confirmer confirmation) is =
      let linked : find_linked port.number state.under_way.confirmations ≡ Some confirmation = role-confirmer port.door port.number state.under_way confirmation is in
      let there : IsIn confirmation state.under_way.confirmations = in-by_port port.number state.under_way.confirmations confirmation linked in
      let place : confirmation.port ≡ Some port.number = linked_port port.number state.under_way.confirmations confirmation linked in
      let door : port.door ≡ Children = role-door port.door port.number state.under_way (Confirmer confirmation) is (λ no. absurd (cc)) in
      over-attended state tied attended confirmation there state.under_way.link.state left.ports (tell (Refuses NotConfirmed)) (λ p. refl) (λ n same. same) (λ job one found_one differs. (
        removed-apart one.asker port.number state.ports (not_child state tied attended job port.number one port found_one found door) (attended.askers job one found_one),
        λ number at. removed-apart number port.number state.ports (λ same. differs (attended.apart confirmation.job job port.number confirmation one (is_there state tied attended confirmation there) found_one place (at ∙ ap Some same))) (attended.confirmers job number one found_one at),
      ))

attended-ended : (number : ℕ) (found : Option Port) (state : State) → IsTied state
    → IsAttended state → find_port number state.ports ≡ found
    → IsAttended (ended_at found state).state
attended-ended number None state tied attended is = attended
attended-ended number (Some port) state tied attended is =
    ended_role state tied attended port (ap (λ n. find_port n state.ports) (found_number number state.ports port is) ∙ is) _ refl

attended-admitted : (room : Bool) (door : Door) (state : State) → IsAttended state
    → AreAttended state.under_way.confirmations state.under_way.link.state (admitted room (suc state.last_port) door state.ports)
attended-admitted false door state attended = attended
attended-admitted true door state attended =
    attended-opens state.ports _ (λ number some. let port = some_port number state.ports some in is_found _ port.0 (found_still number port.0 state.ports _ port.1)) attended

attended-handle : (event : Happening) (state : State) → IsTied state → IsAttended state
    → IsAttended (handle event state).state
attended-handle (Joined door) state tied attended =
    attended-admitted (has_room door state.ports state.under_way) door state attended
attended-handle (Heard port piece) state tied attended = attended-makes (makes-handle (Heard port piece) state (λ door is. absurd (cc))) (λ n is. absurd (cc)) tied attended
attended-handle (Ended port) state tied attended = attended-ended port _ state tied attended refl
attended-handle (Took port count) state tied attended = attended-makes (makes-handle (Took port count) state (λ door is. absurd (cc))) (λ n is. absurd (cc)) tied attended
attended-handle (Started job ticket) state tied attended = attended-makes (makes-handle (Started job ticket) state (λ door is. absurd (cc))) (λ n is. absurd (cc)) tied attended
attended-handle (StartFailed job) state tied attended = attended-makes (makes-handle (StartFailed job) state (λ door is. absurd (cc))) (λ n is. absurd (cc)) tied attended
attended-handle Tick state tied attended = attended

-- what a moment brings
pub opened-attended : (moment : Moment) (state : State) → IsTied state → IsAttended state
    → IsTied (at_moment moment state) × IsAttended (at_moment moment state)
opened-attended moment state tied attended =
    at_moment-keeps (λ s. IsTied s × IsAttended s) moment state (λ s both. keep (loses s) both) (λ one s there both. keep (overs one s there) both)
    (tied-taken moment state tied, attended)
  where
    keep : {old : State} {outcome : Outcome} → Makes Tick old outcome → IsTied old × IsAttended old
        → IsTied outcome.state × IsAttended outcome.state
    keep makes both =
        ((fated-makes makes both.0).tied, attended-makes makes (λ n is. absurd (cc)) both.0 both.1)

-- each event
pub step-attended : (state : State) (moment : Moment) (event : Happening) → IsTied state
    → IsAttended state → IsAttended (step state moment event).state
step-attended state moment event tied attended =
    let opened = opened-attended moment state tied attended in
    attended-handle event (at_moment moment state) opened.0 opened.1

-- ---- runs

pub first-attended : (settings : Settings) → IsAttended (first_state settings)
first-attended settings = record {
  few = omega arith;
  askers = λ job one found. absurd (cc);
  confirmers = λ job number one found at. absurd (cc);
  apart = λ a b number one other this that first second. absurd (cc);
  helper = λ job number one found at is. absurd (cc);
}

pub run-attended : (state : State) (events : List Timed) → IsTied state → IsAttended state
    → IsAttended (run state events)
run-attended state [] tied attended = attended
run-attended state (timed ∷ later) tied attended =
    run-attended (step state timed.moment timed.event).state later (step-fated state timed.moment timed.event tied).tied (step-attended state timed.moment timed.event tied attended)
