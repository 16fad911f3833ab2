-- What an event leaves of the child processes that were owed bytes.
use Rattle.std.proofs.Common.{◌≡◌, ◌≢◌, ℕ, ◌+◌, true, false, List, ◌++◌, Option, Some, None, is_some, refl, sym, ap, ◌∙◌, ◌==◌, inl, inr}
use Rattle.std.specs.Option.{option_map}
use Rattle.lists.proofs.KeyedLemmas.{differ}
use Rattle.std.proofs.lemmas.Bool.{cases_eq}
use Rattle.lists.proofs.FirstLemmas.{find-before}
use Rattle.world_ports.specs.declared.events.Moment.{Moment}
use Rattle.confirm_desk.specs.Confirmations.{Confirmation, came_to, change_job, find_job, find_linked, linked, linked_at}
use Rattle.helper_link.specs.HelperLink.{askers}
use Rattle.helper_link.specs.Telling.{telling}
use Rattle.helper_link.specs.declared.fault.LinkFault.{LinkFault}
use Rattle.helper_link.specs.declared.state.LinkState.TheVariants as states
use Rattle.helper_link.specs.declared.state.LinkState.{LinkState}
use Rattle.agent_model.specs.Actions.{Work}
use Rattle.agent_model.specs.Answers.{answers_in, close_helper, helper_heard, lose, lose_if, with_answers}
use Rattle.agent_model.specs.Binds.{agent_request_of}
use Rattle.agent_model.specs.Children.{changed, closed}
use Rattle.agent_model.specs.Consents.{close_confirmer, grant_concluded, over, signing_of, without_confirmation}
use Rattle.agent_model.specs.Dispatch.{Served, serve}
use Rattle.agent_model.specs.Errands.{Errand, Signs, begun_by, with_ask}
use Rattle.agent_model.specs.KeyStates.{KeyState, after_use}
use Rattle.agent_model.specs.Sound.{IsRising}
use Rattle.agent_model.specs.State.{Port, State, UnderWay, change_port, find_port, is_some_bytes, remove_port}
use Rattle.agent_model.specs.Step.{asker_at, attempts, take_frame, taken}
use Rattle.agent_model.specs.Verdicts.{HelperLost, NotConfirmed, Refuses, tell}
use Rattle.agent_model.proofs.FatedServeLemmas.{linked-begun}
use Rattle.agent_model.proofs.GrantLemmas.{IsGranted, allowed, disallowed, unasked}
use Rattle.agent_model.proofs.JobLemmas.{in-by_port, in-found, linked-change, linked_port}
use Rattle.agent_model.proofs.LeadLemmas.{Leads, changes, leads-answers, leads-close_confirmer, leads-tell_each, removes, same}
use Rattle.agent_model.proofs.PortsLemmas.{rising-change_port, rising-remove_port}
use Rattle.agent_model.proofs.RunLemmas.{leads-rising}
use Rattle.agent_model.proofs.ServeLemmas.{IsServed, answered, asked, raised, refused, serve-ends}
use Rattle.under_way.specs.Parts.{IsAwaited}
use Rattle.loop_model.specs.Orderly.{IsStaffed}
use Rattle.loop_model.proofs.ClientOwedLemmas.{some-more}
use Rattle.loop_model.proofs.OpenLemmas.{leads-open, linked-elsewhere, linked-left, never_open, open-changed, open-removed}
use Rattle.loop_model.proofs.StaffLemmas.{staffed-lost, staffed-over, staffed-put, staffed-raised}

-- ---- what a child process is owed

-- some bytes are owed to the child process at this port: it is the helper, or a confirmation's
pub data Owes (number : ℕ) (u : UnderWay) : Type 0 where
  by_link : u.link.state ≡ states.Linked number → is_some_bytes u.link.owed ≡ true → Owes number u
  by_desk : (one : Confirmation) → find_linked number u.confirmations ≡ Some one
      → is_some_bytes one.owed ≡ true
      → u.link.state ≢ states.Linked number → Owes number u

-- the ports rise, the jobs fit, and the port is owed some bytes while it is open
pub record Keeps (number high : ℕ) (state : State) : Type 0 where
  pub rising : IsRising 0 high state.ports
  pub staffed : IsStaffed state.under_way
  pub owes : is_some (find_port number state.ports) ≡ true → Owes number state.under_way

module _ (number high : ℕ) where
  -- what is put to the helper
  pub owes-put : (errand : Errand) (asker : ℕ) (u : UnderWay) → Owes number u
      → Owes number (with_ask errand asker u)
  owes-put errand asker u (by_link linked some) =
      by_link (ap (λ (s : LinkState). begun_by s (u.last_job + 1)) linked) (some-more u.link.owed _ some)
  owes-put errand asker u (by_desk one found some other) =
      by_desk one found some (λ linked. other (linked-begun u.link.state (u.last_job + 1) number linked))

  -- the ports lead on, and the same is under way
  pub keeps-ports : (state : State) (ports : List Port) → Keeps number high state
      → Leads state.ports ports
      → Keeps number high (record state { ports = ports })
  keeps-ports state ports keeps leads = record {
    rising = leads-rising 0 high state.ports leads keeps.rising;
    staffed = keeps.staffed;
    owes = λ opened. keeps.owes (leads-open number high state.ports leads keeps.rising opened);
  }

  pub keeps-closed : (other : ℕ) (state : State) → Keeps number high state
      → Keeps number high (closed other state)
  keeps-closed other state keeps = keeps-ports state _ keeps (removes other state.ports same)

  pub keeps-changed : (other : ℕ) (f : Port → Port) (state : State)
      → ((p : Port) → (f p).number ≡ p.number)
      → ((p : Port) → (f p).door ≡ p.door) → Keeps number high state → Keeps number high (changed other f state)
  keeps-changed other f state number_is door_is keeps =
      keeps-ports state _ keeps (changes other f state.ports number_is door_is same)

  -- ---- the helper

  pub open-link : (link : LinkState) (ports : List Port) → IsRising 0 high ports
      → is_some (find_port number (close_helper link ports)) ≡ true
      → (is_some (find_port number ports) ≡ true) × (link ≢ states.Linked number)
  open-link states.None ports rising opened = (opened, λ no. absurd (cc))
  open-link (states.Starting job) ports rising opened = (opened, λ no. absurd (cc))
  open-link (states.Linked at) ports rising opened = (
    open-removed number at high ports rising opened,
    λ is.
        let here : at ≡ number = cc in
        never_open number high ports rising
        (ap (λ n. is_some (find_port number (remove_port n ports))) (sym here) ∙ opened),
  )

  pub rising-link : (link : LinkState) (ports : List Port) → IsRising 0 high ports
      → IsRising 0 high (close_helper link ports)
  rising-link states.None ports rising = rising
  rising-link (states.Starting job) ports rising = rising
  rising-link (states.Linked at) ports rising = rising-remove_port at 0 high ports rising

  pub lost_owes : (u new : UnderWay) → Owes number u → u.link.state ≢ states.Linked number
      → new.link.state ≡ states.None
      → new.confirmations ≡ u.confirmations → Owes number new
  lost_owes u new (by_link linked some) other none same_desk = absurd (other linked)
  lost_owes u new (by_desk one found some apart) other none same_desk =
      by_desk one (ap (find_linked number) same_desk ∙ found) some
      (λ linked. let no : states.None ≡ states.Linked number = sym none ∙ linked in absurd (cc))

  pub keeps-lose : (state : State) → Keeps number high state → Keeps number high (lose state).state
  keeps-lose state keeps =
      let left = close_helper state.under_way.link.state state.ports in
      let left_rising = rising-link state.under_way.link.state state.ports keeps.rising in
      let leads = leads-tell_each left (Refuses HelperLost) (askers state.under_way.link.asks) left same in
      record {
        rising = leads-rising 0 high left leads left_rising;
        staffed = staffed-lost state keeps.staffed;
        owes = λ opened.
            let was = open-link state.under_way.link.state state.ports keeps.rising
            (leads-open number high left leads left_rising opened) in
            lost_owes state.under_way (lose state).state.under_way (keeps.owes was.0) was.1 refl refl;
      }

  pub keeps-lose_if : (fault : Option LinkFault) (state : State) → Keeps number high state
      → Keeps number high (lose_if fault state).state
  keeps-lose_if None state keeps = keeps
  keeps-lose_if (Some fault) state keeps = keeps-lose state keeps

  pub answered_owes : (u new : UnderWay) → Owes number u → new.link.state ≡ u.link.state
      → new.link.owed ≡ u.link.owed
      → new.confirmations ≡ u.confirmations → Owes number new
  answered_owes u new (by_link linked some) state_is owed_is desk_is =
      by_link (state_is ∙ linked) (ap is_some_bytes owed_is ∙ some)
  answered_owes u new (by_desk one found some other) state_is owed_is desk_is =
      by_desk one (ap (find_linked number) desk_is ∙ found) some (λ linked. other (sym state_is ∙ linked))

  -- the helper sent something
  pub keeps-helper_heard : (piece : List ℕ) (state : State) → Keeps number high state
      → Keeps number high (helper_heard piece state).state
  keeps-helper_heard piece state keeps =
      let told = telling piece state.under_way.link in
      let next = with_answers told.link (answers_in told.settled state) state in
      let leads : Leads state.ports next.ports = leads-answers state.ports told.settled _ same in
      keeps-lose_if told.fault next record {
        rising = leads-rising 0 high state.ports leads keeps.rising;
        staffed = record { jobs = keeps.staffed.jobs; coming = keeps.staffed.coming };
        owes = λ opened.
            answered_owes state.under_way next.under_way
            (keeps.owes (leads-open number high state.ports leads keeps.rising opened)) refl refl refl;
      }

  -- ---- a confirmation ends

  -- its child process's port is closed
  pub open-desk : (at : Option ℕ) (ports : List Port) → IsRising 0 high ports
      → is_some (find_port number (close_confirmer at ports)) ≡ true
      → (is_some (find_port number ports) ≡ true) × (at ≢ Some number)
  open-desk None ports rising opened = (opened, λ no. absurd (cc))
  open-desk (Some at) ports rising opened = (
    open-removed number at high ports rising opened,
    λ is.
        let here : at ≡ number = cc in
        never_open number high ports rising
        (ap (λ n. is_some (find_port number (remove_port n ports))) (sym here) ∙ opened),
  )

  pub over_owes : (one : Confirmation) (u : UnderWay) → IsStaffed u
      → find_job one.job u.confirmations ≡ Some one
      → one.port ≢ Some number → Owes number u → Owes number (without_confirmation one.job u)
  over_owes one u staffed there apart (by_link linked some) = by_link linked some
  over_owes one u staffed there apart (by_desk other found some free) = elim (cases_eq other.job one.job) [
    | inl equal ↦
        (let found_other : find_job other.job u.confirmations ≡ Some other =
        in-found other 0 u.last_job staffed.jobs.order (in-by_port number u.confirmations other found) in
        let both : Some one ≡ Some other =
        sym there ∙ ap (λ j. find_job j u.confirmations) (sym equal) ∙ found_other in
        let is : one ≡ other = cc in
        absurd (apart (ap (λ (c : Confirmation). c.port) is ∙ linked_port number u.confirmations other found)))
    | inr differs ↦ by_desk other (linked-left number one.job u.confirmations other differs found) some free
  ]

  -- whatever is put to the helper behind it
  pub keeps-ended : (one : Confirmation) (f : Port → Port) (state : State) (new : UnderWay)
      → ((p : Port) → (f p).number ≡ p.number) → ((p : Port) → (f p).door ≡ p.door)
      → find_job one.job state.under_way.confirmations ≡ Some one
      → (IsStaffed (without_confirmation one.job state.under_way) → IsStaffed new)
      → (Owes number (without_confirmation one.job state.under_way) → Owes number new) → Keeps number high state
      → Keeps number high (record state {
        ports = change_port one.asker f (close_confirmer one.port state.ports);
        under_way = new;
      })
  keeps-ended one f state new number_is door_is there staffed_new owes_new keeps =
      let left = close_confirmer one.port state.ports in
      let leads_left = leads-close_confirmer state.ports one.port state.ports same in
      let left_rising = leads-rising 0 high state.ports leads_left keeps.rising in
      record {
        rising = rising-change_port one.asker 0 high f left number_is left_rising;
        staffed = staffed_new (staffed-over one.job state.under_way keeps.staffed);
        owes = λ opened.
            let was = open-desk one.port state.ports keeps.rising
            (sym (open-changed number one.asker f left number_is) ∙ opened) in
            owes_new (over_owes one state.under_way keeps.staffed there was.1 (keeps.owes was.0));
      }

  pub keeps-over : (one : Confirmation) (state : State)
      → find_job one.job state.under_way.confirmations ≡ Some one
      → Keeps number high state → Keeps number high (over one state).state
  keeps-over one state there keeps =
      keeps-ended one (tell (Refuses NotConfirmed)) state _ (λ p. refl) (λ p. refl) there (λ s. s) (λ o. o) keeps

  keeps-held : (held : KeyState) (state : State) → Keeps number high state
      → Keeps number high (record state { held = held })
  keeps-held held state keeps =
      record { rising = keeps.rising; staffed = keeps.staffed; owes = keeps.owes }

  pub keeps-granted : (one : Confirmation) (asker : Port) (state : State)
      → find_job one.job state.under_way.confirmations ≡ Some one → {work : Work}
      → IsGranted asker.chain one state.moment.wall state.held (without_confirmation one.job state.under_way) work
      → Keeps number high state → Keeps number high (grant_concluded work one state).state
  keeps-granted one asker state there (disallowed never) keeps =
      keeps-ended one _ state _ (λ p. refl) (λ p. refl) there (λ s. s) (λ o. o) keeps
  keeps-granted one asker state there (unasked cause key may fault) keeps =
      keeps-ended one _ state _ (λ p. refl) (λ p. refl) there (λ s. s) (λ o. o) keeps
  keeps-granted one asker state there (allowed key may free) keeps =
      let held : KeyState = after_use (Some key.number) state.held in
      keeps-ended one _ (record state { held = held }) _ (λ p. refl) (λ p. refl) there
      (staffed-put (Signs key (signing_of key one)) one.asker _) (owes-put (Signs key (signing_of key one)) one.asker _)
      (keeps-held held state keeps)

  -- more was heard of a child process that asks
  pub heard_owes : (one : Confirmation) (f : Confirmation → Confirmation) (u : UnderWay)
      → ((c : Confirmation) → (f c).port ≡ c.port) → ((c : Confirmation) → (f c).owed ≡ c.owed) → Owes number u
      → Owes number (record u { confirmations = change_job one.job f u.confirmations })
  heard_owes one f u port_is owed_is (by_link linked some) = by_link linked some
  heard_owes one f u port_is owed_is (by_desk other found some free) =
      elim (linked-change number one.job f u.confirmations port_is) [
        | inl left ↦ by_desk other (left ∙ found) some free
        | inr made ↦
            by_desk (f other) (made ∙ ap (option_map f) found) (ap is_some_bytes (owed_is other) ∙ some) free
      ]

  -- ---- a client is served

  pub raised_owes : (more : List Confirmation) (u new : UnderWay) → new.link.state ≡ u.link.state
      → new.link.owed ≡ u.link.owed → new.confirmations ≡ u.confirmations ++ more → Owes number u → Owes number new
  raised_owes more u new state_is owed_is desk_is (by_link linked some) =
      by_link (state_is ∙ linked) (ap is_some_bytes owed_is ∙ some)
  raised_owes more u new state_is owed_is desk_is (by_desk one found some other) =
      by_desk one
      (ap (find_linked number) desk_is ∙ find-before (came_to number) u.confirmations more one found)
      some (λ linked. other (sym state_is ∙ linked))

  pub served_staffed : (port : Port) (moment : Moment) (state : State) {served : Served}
      → IsServed (asker_at moment port) state.held state.under_way served → IsStaffed state.under_way
      → IsStaffed served.work.under_way
  served_staffed port moment state (answered reply kept greatest) staffed = staffed
  served_staffed port moment state (refused cause) staffed = staffed
  served_staffed port moment state (asked errand free may) staffed = staffed-put errand _ _ staffed
  served_staffed port moment state (raised key signing free) staffed =
      staffed-raised key _ signing _ _ staffed

  pub served_owes : (port : Port) (moment : Moment) (state : State) {served : Served}
      → IsServed (asker_at moment port) state.held state.under_way served → Owes number state.under_way
      → Owes number served.work.under_way
  served_owes port moment state (answered reply kept greatest) owes = owes
  served_owes port moment state (refused cause) owes = owes
  served_owes port moment state (asked errand free may) owes = owes-put errand _ _ owes
  served_owes port moment state (raised key signing free) owes =
      raised_owes _ state.under_way _ refl refl refl owes

  pub keeps-taken : (body_len : ℕ) (body : List ℕ) (port : Port) (state : State)
      → Keeps number high state
      → Keeps number high (taken body_len body port state).state
  keeps-taken body_len body port state keeps =
      let ends = serve-ends (asker_at state.moment port) state.held state.under_way body in
      let leads = changes port.number (tell (serve (agent_request_of body) (asker_at state.moment port) state.held state.under_way).work.verdict) _ (λ p. refl) (λ p. refl)
      (changes port.number (take_frame body_len (attempts state.held.lock body)) state.ports (λ p. refl) (λ p. refl) same) in
      record {
        rising = leads-rising 0 high state.ports leads keeps.rising;
        staffed = served_staffed port state.moment state ends keeps.staffed;
        owes = λ opened.
            served_owes port state.moment state ends
            (keeps.owes (leads-open number high state.ports leads keeps.rising opened));
      }

  -- ---- a child process names itself, at another port

  pub named_owes : (u new : UnderWay) (own : ℕ) → own ≢ number → u.link.state ≢ states.Linked number
      → new.link.state ≡ states.Linked own → new.confirmations ≡ u.confirmations → Owes number u → Owes number new
  named_owes u new own apart free state_is desk_is (by_link linked some) = absurd (free linked)
  named_owes u new own apart free state_is desk_is (by_desk one found some other) =
      by_desk one (ap (find_linked number) desk_is ∙ found) some (λ linked.
      let both : states.Linked own ≡ states.Linked number = sym state_is ∙ linked in
      let here : own ≡ number = cc in
      apart here)

  pub awaited_none : (found : Option Confirmation) (one : Confirmation) → IsAwaited found
      → found ≡ Some one
      → one.port ≡ None
  awaited_none None one waits is = absurd (cc)
  awaited_none (Some other) one waits is =
      let equal : other ≡ one = cc in ap (λ (c : Confirmation). c.port) (sym equal) ∙ waits

  pub linked_owes : (u new : UnderWay) (own job : ℕ) → own ≢ number → IsStaffed u
      → IsAwaited (find_job job u.confirmations) → new.link.state ≡ u.link.state → new.link.owed ≡ u.link.owed
      → new.confirmations ≡ linked job own u.confirmations → Owes number u → Owes number new
  linked_owes u new own job apart staffed waits state_is owed_is desk_is (by_link linked some) =
      by_link (state_is ∙ linked) (ap is_some_bytes owed_is ∙ some)
  linked_owes u new own job apart staffed waits state_is owed_is desk_is (by_desk one found some other) =
      let own_job : find_job one.job u.confirmations ≡ Some one =
      in-found one 0 u.last_job staffed.jobs.order (in-by_port number u.confirmations one found) in
      let differs : one.job ≢ job = λ equal.
      (let none : one.port ≡ None =
      awaited_none (find_job job u.confirmations) one waits
      (ap (λ j. find_job j u.confirmations) (sym equal) ∙ own_job) in
      let no : None ≡ Some number = sym none ∙ linked_port number u.confirmations one found in
      absurd (cc)) in
      let misses : (own == number) ≡ false = differ own number apart in
      by_desk one
      (ap (find_linked number) desk_is
      ∙ linked-elsewhere number job (linked_at own) u.confirmations one differs (λ c miss. misses) found)
      some (λ linked. other (sym state_is ∙ linked))
