-- What each event leaves of the child processes that were owed bytes.
use Rattle.std.proofs.Common.{◌≡◌, ◌≢◌, ℕ, true, List, Some, None, is_some, refl, sym, ap, ◌∙◌}
use Rattle.world_ports.specs.declared.events.JobKind.TheVariants as kinds
use Rattle.world_ports.specs.declared.events.Moment.{Moment}
use Rattle.wire_text.specs.Frames.{front_body}
use Rattle.confirm_desk.specs.Confirmations as desk
use Rattle.confirm_desk.specs.Confirmations.{Confirmation, change_job, find_job, find_linked}
use Rattle.helper_link.specs.declared.state.LinkState.TheVariants as states
use Rattle.agent_model.specs.Actions.{Outcome}
use Rattle.agent_model.specs.Children.{confirmer_named, helper_named, job_left, job_started, unheard}
use Rattle.agent_model.specs.Consents.{find_started}
use Rattle.agent_model.specs.Events.{Happening, Took}
use Rattle.agent_model.specs.Sound.{IsRising}
use Rattle.agent_model.specs.State.{Port, StartedJob, State, UnderWay, find_port, find_to_start}
use Rattle.agent_model.specs.Step.{helper_took}
use Rattle.agent_model.specs.Time.{at_moment, taken_in}
use Rattle.agent_model.proofs.GrantLemmas.{grant-ends}
use Rattle.agent_model.proofs.JobLemmas.{in-by_port, in-found, linked_port}
use Rattle.agent_model.proofs.LeadLemmas.{changes, follows-quiet, same}
use Rattle.agent_model.proofs.MakeLemmas.{Goes, Makes, Quiet, alters, closes, first, goes_on, grants, leaves, links, loses, mild_of, names, overs, prompts, says, sends, serves, starts, stays, tells}
use Rattle.agent_model.proofs.RunLemmas.{leads-found, leads-rising}
use Rattle.agent_model.proofs.TimeLemmas.{at_moment-keeps}
use Rattle.loop_model.specs.Orderly.{IsStaffed}
use Rattle.loop_model.proofs.ChildLemmas.{Keeps, Owes, answered_owes, by_desk, by_link, heard_owes, keeps-changed, keeps-closed, keeps-granted, keeps-helper_heard, keeps-lose, keeps-over, keeps-taken, linked_owes, named_owes}
use Rattle.loop_model.proofs.OpenLemmas.{leads-open, linked-elsewhere}
use Rattle.loop_model.proofs.StaffLemmas.{awaited, not_linked, staffed-changed, staffed-helper, staffed-left, staffed-linked, staffed-started}

module _ (number high : ℕ) where
  -- ---- a child process names itself, at another port

  module _ (own : ℕ) (apart : own ≢ number) (state : State) (keeps : Keeps number high state) where
    keeps-helper_named : (job : ℕ) (one : StartedJob)
        → find_started job state.under_way.started ≡ Some one
        → one.job.kind ≡ kinds.Helper → Keeps number high (helper_named job own state)
    keeps-helper_named job one found is =
        let leads = changes own unheard state.ports (λ p. refl) (λ p. refl) same in
        let next = helper_named job own state in
        record {
          rising = leads-rising 0 high state.ports leads keeps.rising;
          staffed =
              staffed-helper state.under_way job one next.under_way.link keeps.staffed found is;
          owes = λ opened.
              named_owes number high state.under_way next.under_way own apart
              (not_linked state.under_way job number one keeps.staffed found is) refl refl
              (keeps.owes (leads-open number high state.ports leads keeps.rising opened));
        }

    keeps-confirmer_named : (job : ℕ) (one : StartedJob)
        → find_started job state.under_way.started ≡ Some one
        → one.job.kind ≡ kinds.Confirm → Keeps number high (confirmer_named job own state)
    keeps-confirmer_named job one found is =
        let leads = changes own unheard state.ports (λ p. refl) (λ p. refl) same in
        let next = confirmer_named job own state in
        record {
          rising = leads-rising 0 high state.ports leads keeps.rising;
          staffed = staffed-linked state.under_way job own one keeps.staffed found;
          owes = λ opened.
              linked_owes number high state.under_way next.under_way own job apart keeps.staffed
              (awaited state.under_way job one keeps.staffed found is) refl refl refl
              (keeps.owes (leads-open number high state.ports leads keeps.rising opened));
        }

  -- one that hasn't is owed nothing
  unnamed_apart : (own : ℕ) (at : Port) (state : State) → Keeps number high state
      → find_port own state.ports ≡ Some at
      → find_linked own state.under_way.confirmations ≡ None → state.under_way.link.state ≢ states.Linked own
      → own ≢ number
  unnamed_apart own at state keeps found free unlinked here =
      let opened : is_some (find_port number state.ports) ≡ true =
      ap (λ n. is_some (find_port n state.ports)) (sym here) ∙ ap is_some found in
      nobody (keeps.owes opened)
    where
      nobody : Owes number state.under_way → ⊥
      nobody (by_link linked some) = unlinked (linked ∙ ap states.Linked (sym here))
      nobody (by_desk one there some other) =
          let no : None ≡ Some one =
          sym (ap (λ n. find_linked n state.under_way.confirmations) (sym here) ∙ free) ∙ there in
          absurd (cc)

  -- ---- bytes that went, at another port

  sent_owes : (u new : UnderWay) (own : ℕ) → own ≢ number → u.link.state ≡ states.Linked own
      → new.link.state ≡ u.link.state → new.confirmations ≡ u.confirmations → Owes number u → Owes number new
  sent_owes u new own apart at state_is desk_is (by_link linked some) =
      let both : states.Linked own ≡ states.Linked number = sym at ∙ linked in
      let here : own ≡ number = cc in
      absurd (apart here)
  sent_owes u new own apart at state_is desk_is (by_desk one found some other) =
      by_desk one (ap (find_linked number) desk_is ∙ found) some (λ linked. other (sym state_is ∙ linked))

  took_owes : (one : Confirmation) (own count : ℕ) (u : UnderWay) → own ≢ number → IsStaffed u
      → find_job one.job u.confirmations ≡ Some one → one.port ≡ Some own → Owes number u
      → Owes number (record u { confirmations = change_job one.job (desk.took_some count) u.confirmations })
  took_owes one own count u apart staffed there at (by_link linked some) = by_link linked some
  took_owes one own count u apart staffed there at (by_desk other found some free) =
      let own_job : find_job other.job u.confirmations ≡ Some other =
      in-found other 0 u.last_job staffed.jobs.order (in-by_port number u.confirmations other found) in
      let differs : other.job ≢ one.job = λ equal.
      (let both : Some one ≡ Some other =
      sym there ∙ ap (λ j. find_job j u.confirmations) (sym equal) ∙ own_job in
      let is : one ≡ other = cc in
      let ports : Some own ≡ Some number =
      sym at ∙ ap (λ (c : Confirmation). c.port) is ∙ linked_port number u.confirmations other found in
      let here : own ≡ number = cc in
      apart here) in
      by_desk other
      (linked-elsewhere number one.job (desk.took_some count) u.confirmations other differs (λ c miss. miss) found) some
      free

  -- ---- jobs

  pub keeps-started : (job : ℕ) (ticket : List ℕ) (state : State) → Keeps number high state
      → Keeps number high (job_started job ticket state)
  keeps-started job ticket state keeps = record {
    rising = keeps.rising;
    staffed = staffed-started (find_to_start job state.under_way.to_start) state.under_way job ticket keeps.staffed refl;
    owes = λ opened. answered_owes number high state.under_way (job_started job ticket state).under_way (keeps.owes opened) refl refl refl;
  }

  pub keeps-left : (job : ℕ) (state : State) → Keeps number high state
      → Keeps number high (job_left job state)
  keeps-left job state keeps = record {
    rising = keeps.rising;
    staffed = staffed-left state.under_way job keeps.staffed;
    owes = λ opened. answered_owes number high state.under_way (job_left job state).under_way (keeps.owes opened) refl refl refl;
  }

  -- ---- every event but a joining

  -- bytes that went at an open port went at another
  abbrev pub TakesElsewhere : Happening → State → Type 0
  TakesElsewhere event state = (other count : ℕ) (at : Port) → event ≡ Took other count
      → find_port other state.ports ≡ Some at → other ≢ number

  keeps-goes : {event : Happening} {state : State} {new : UnderWay} → Goes event state new
      → TakesElsewhere event state
      → Keeps number high state → Keeps number high (record state { under_way = new })
  keeps-goes {state = state} (starts job ticket is) elsewhere keeps =
      keeps-started job ticket state keeps
  keeps-goes {state = state} (leaves job is) elsewhere keeps = keeps-left job state keeps
  keeps-goes {state = state} (sends own count at is found linked) elsewhere keeps = record {
    rising = keeps.rising;
    staffed = record { jobs = keeps.staffed.jobs; coming = keeps.staffed.coming };
    owes = λ opened.
        sent_owes state.under_way (helper_took count state).under_way own (elsewhere own count at is found) linked refl
        refl (keeps.owes opened);
  }
  keeps-goes {state = state} (prompts own count at one is found linked) elsewhere keeps =
      let there =
      in-found one 0 state.under_way.last_job keeps.staffed.jobs.order
      (in-by_port own state.under_way.confirmations one linked) in
      let came = linked_port own state.under_way.confirmations one linked in
      record {
        rising = keeps.rising;
        staffed = staffed-changed state.under_way own one (desk.took_some count) keeps.staffed there came (λ c. refl);
        owes = λ opened.
            took_owes one own count state.under_way (elsewhere own count at is found) keeps.staffed there came
            (keeps.owes opened);
      }
  keeps-goes {state = state} (says own piece one at there) elsewhere keeps = record {
    rising = keeps.rising;
    staffed = staffed-changed state.under_way own one (desk.heard_more piece) keeps.staffed
        (in-found one 0 state.under_way.last_job keeps.staffed.jobs.order there) at (λ c. refl);
    owes = λ opened.
        heard_owes number high one (desk.heard_more piece) state.under_way (λ c. refl) (λ c. refl) (keeps.owes opened);
  }

  keeps-quiet : {event : Happening} {old new : State} → Quiet event old new
      → TakesElsewhere event old
      → Keeps number high old → Keeps number high new
  keeps-quiet {old = old} (alters own f change) elsewhere keeps =
      keeps-changed number high own f old (mild_of change).number (mild_of change).door keeps
  keeps-quiet {old = old} (closes own may) elsewhere keeps = keeps-closed number high own old keeps
  keeps-quiet (goes_on new goes) elsewhere keeps = keeps-goes goes elsewhere keeps
  keeps-quiet {old = old} (names job own new) elsewhere keeps =
      keeps-helper_named own (unnamed_apart own new.port old keeps new.found new.free new.other) old keeps job new.one
      new.started new.own
  keeps-quiet {old = old} (links job own new) elsewhere keeps =
      keeps-confirmer_named own (unnamed_apart own new.port old keeps new.found new.free new.other) old keeps job new.one
      new.started new.own

  -- what is taken was taken before
  elsewhere-quiet : {event : Happening} {old new : State} → Quiet event old new
      → IsRising 0 high old.ports
      → TakesElsewhere event old → TakesElsewhere event new
  elsewhere-quiet {event = event} {old = old} quiet rising elsewhere other count at is found =
      let leads = (follows-quiet event old quiet record { last = refl; ports = same }).ports in
      let was = leads-found other 0 high old.ports at leads rising found in
      elsewhere other count was.0 is was.1

  pub keeps-makes : {event : Happening} {old : State} {outcome : Outcome} → Makes event old outcome
      → TakesElsewhere event old → Keeps number high old → Keeps number high outcome.state
  keeps-makes (stays state) elsewhere keeps = keeps
  keeps-makes (first quiet rest) elsewhere keeps =
      keeps-makes rest (elsewhere-quiet quiet keeps.rising elsewhere) (keeps-quiet quiet elsewhere keeps)
  keeps-makes (serves body_len port state found door waits owed own) elsewhere keeps =
      keeps-taken number high body_len (front_body body_len port.heard) port state keeps
  keeps-makes (tells piece state) elsewhere keeps = keeps-helper_heard number high piece state keeps
  keeps-makes (loses state) elsewhere keeps = keeps-lose number high state keeps
  keeps-makes (overs one state there) elsewhere keeps =
      keeps-over number high one state (in-found one 0 state.under_way.last_job keeps.staffed.jobs.order there) keeps
  keeps-makes (grants one asker state there opened) elsewhere keeps =
      keeps-granted number high one asker state (in-found one 0 state.under_way.last_job keeps.staffed.jobs.order there)
      (grant-ends asker.chain one state) keeps

  -- ---- a moment, before its event

  keeps-taken_in : (moment : Moment) (state : State) → Keeps number high state
      → Keeps number high (taken_in moment state)
  keeps-taken_in moment state keeps = record {
    rising = keeps.rising;
    staffed = record { jobs = keeps.staffed.jobs; coming = keeps.staffed.coming };
    owes = λ opened.
        answered_owes number high state.under_way (taken_in moment state).under_way (keeps.owes opened) refl refl refl;
  }

  pub keeps-moment : (moment : Moment) (state : State) → Keeps number high state
      → Keeps number high (at_moment moment state)
  keeps-moment moment state keeps =
      at_moment-keeps (Keeps number high) moment state (keeps-lose number high)
      (λ one s there kept. keeps-over number high one s (in-found one 0 s.under_way.last_job kept.staffed.jobs.order there) kept)
      (keeps-taken_in moment state keeps)
