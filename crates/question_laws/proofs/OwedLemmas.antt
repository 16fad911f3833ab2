-- What the child process of a job is owed: only what it takes leaves it, and what it took and is owed is the question.
use Rattle.std.proofs.Common.{◌≡◌, ◌≢◌, ◌==◌, ℕ, ◌+◌, ◌≤◌, List, [], ◌∷◌, ◌++◌, take, drop, refl, sym, ap, ◌∙◌, ◌⊎◌, inl, inr, arith, append_assoc, Bool, true, false, cond, Option, Some, None, take-append-drop}
use Rattle.std.proofs.lemmas.Bool.Decides.{nat_tests}
use Rattle.world_ports.specs.declared.Moment.{Moment}
use Rattle.wire_text.specs.Frames.{Front, Whole, Bad, More, front, front_body}
use Rattle.wire_text.specs.Bounds.{longest_body}
use Rattle.confirm_desk.specs.Confirmations.{Confirmation, change_job, find_job, job_of, remove_job}
use Rattle.confirm_desk.specs.Confirmations as desk
use Rattle.helper_link.specs.Telling.{telling}
use Rattle.helper_link.specs.declared.fault.LinkFault.{LinkFault}
use Rattle.agent_model.specs.Actions.{Outcome, Work}
use Rattle.agent_model.specs.Answers.{lose_if}
use Rattle.agent_model.specs.Asking.{JobsRise}
use Rattle.agent_model.specs.Children.{changed}
use Rattle.agent_model.specs.Consents.{without_confirmation}
use Rattle.agent_model.specs.Dispatch.{Asker, Served}
use Rattle.agent_model.specs.Events.{Happening, Joined, Heard, Ended, Took, Started, StartFailed, Tick, Timed}
use Rattle.agent_model.specs.KeyStates.{KeyState}
use Rattle.agent_model.specs.Sound.{IsTied}
use Rattle.agent_model.specs.State.{Client, Confirmer, Helper, Nothing, OnAsk, OnConfirmation, Port, Role, State, UnderWay, Unnamed, Waits, find_port, role_of}
use Rattle.agent_model.specs.Step.{asker_at, handle, look_front, look_port, look_waits, step, took_at, took_by_role, took_some}
use Rattle.agent_model.specs.Time.{at_moment}
use Rattle.agent_model.proofs.FatedLemmas.{step-fated, tied-opened}
use Rattle.agent_model.proofs.GrantLemmas.{IsGranted, allowed, disallowed, grant-ends, unasked}
use Rattle.agent_model.proofs.GrowLemmas.{jobs-for}
use Rattle.agent_model.proofs.JobLemmas.{change-apart, changed_back, find_job-push, find_job-remove, in-by_port, in-found}
use Rattle.agent_model.proofs.MakeLemmas.{Goes, Makes, Quiet, alters, by_event, closes, first, goes_on, grants, leaves, links, loses, names, overs, prompts, role-confirmer, says, sends, serves, starts, stays, tells}
use Rattle.agent_model.proofs.ServeLemmas.{IsServed, answered, asked, raised, refused, serve-ends}
use Rattle.agent_model.proofs.TiedLemmas.{tied-quiet}
use Rattle.agent_laws.proofs.MomentLemmas.{tied-brings}
use Rattle.question_laws.specs.Questions.{IsFront, taken_at, taken_from, taken_in, taken_of}
use Rattle.lists.proofs.KeyedLemmas.{find_by-change}
use Rattle.std.specs.Option.{option_map}
use Rattle.dest_rule.specs.declared.binding.Binding.{Binding}

module _ (job : ℕ) where
  -- what the job's child process is owed, where its confirmation waits
  abbrev pub Owes : List ℕ → UnderWay → Type 0
  Owes bytes under_way = (one : Confirmation) → find_job job under_way.confirmations ≡ Some one → one.owed ≡ bytes

  -- the confirmation of the job was there, and is owed what it was
  record Leaves (old new : UnderWay) : Type 0 where
    given : job ≤ old.last_job → job ≤ new.last_job
    owed : job ≤ old.last_job → (one : Confirmation) → find_job job new.confirmations ≡ Some one
        → (was : Confirmation) × (find_job job old.confirmations ≡ Some was) × (one.owed ≡ was.owed)

  leaves-same : (old new : UnderWay) → (old.last_job ≤ new.last_job) → new.confirmations ≡ old.confirmations → Leaves old new
  leaves-same old new rises same = record {
    given = λ within. omega (arith, within, rises);
    owed = λ within one found. (one, sym (ap (find_job job) same) ∙ found, refl);
  }

  leaves-in_turn : {old mid new : UnderWay} → Leaves old mid → Leaves mid new → Leaves old new
  leaves-in_turn some more = record {
    given = λ within. more.given (some.given within);
    owed = λ within one found.
        let later = more.owed (some.given within) one found in
        let before = some.owed within later.0 later.1 in
        (before.0, before.1, later.2 ∙ before.2);
  }

  -- one is changed, and is owed the same
  leaves-changed : (at : ℕ) (f : Confirmation → Confirmation) (old new : UnderWay) → new.last_job ≡ old.last_job
      → new.confirmations ≡ change_job at f old.confirmations → ((c : Confirmation) → (f c).job ≡ c.job)
      → ((c : Confirmation) → (f c).owed ≡ c.owed) → Leaves old new
  leaves-changed at f old new last is jobs owes = record {
    given = λ within. omega (arith, within, last);
    owed = λ within one found.
        let was = changed_back job at f old.confirmations one jobs (sym (ap (find_job job) is) ∙ found) in
        (was.0, was.1, by_either one was.0 was.2);
  }
    where
      by_either : (one was : Confirmation) → (one ≡ was) ⊎ (one ≡ f was) → one.owed ≡ was.owed
      by_either one was (inl same) = ap (λ (c : Confirmation). c.owed) same
      by_either one was (inr same) = ap (λ (c : Confirmation). c.owed) same ∙ owes was

  -- one ends
  leaves-removed : (other : ℕ) (old new : UnderWay) → JobsRise 0 old.confirmations old.last_job
      → old.last_job ≤ new.last_job → new.confirmations ≡ remove_job other old.confirmations → Leaves old new
  leaves-removed other old new rise rises is = record {
    given = λ within. omega (arith, within, rises);
    owed = λ within one found.
        (one, by_test one (other == job) (sym (find_job-remove job other 0 old.confirmations old.last_job rise) ∙ sym (ap (find_job job) is) ∙ found), refl);
  }
    where
      by_test : (one : Confirmation) (same : Bool) → cond same None (find_job job old.confirmations) ≡ Some one → find_job job old.confirmations ≡ Some one
      by_test one true none = absurd (cc)
      by_test one false found = found

  -- another is raised
  leaves-raised : (new_one : Confirmation) (old new : UnderWay) → JobsRise 0 old.confirmations old.last_job
      → new.last_job ≡ old.last_job + 1 → new_one.job ≡ old.last_job + 1
      → new.confirmations ≡ old.confirmations ++ new_one ∷ [] → Leaves old new
  leaves-raised new_one old new rise last number is = record {
    given = λ within. omega (arith, within, last);
    owed = λ within one found.
        let other : (new_one.job == job) ≡ false = grind (arith, nat_tests, within, number) in
        (one, sym (ap (λ b. cond b (Some new_one) (find_job job old.confirmations)) other) ∙ sym (find_job-push job 0 new_one old.confirmations old.last_job rise (omega (arith, number))) ∙ sym (ap (find_job job) is) ∙ found, refl);
  }

  -- ---- requests and looks

  leaves-served : {asker : Asker} {held : KeyState} {under_way : UnderWay} {served : Served}
      → JobsRise 0 under_way.confirmations under_way.last_job → IsServed asker held under_way served
      → Leaves under_way served.work.under_way
  leaves-served {under_way = under_way} rise (answered reply kept same) = leaves-same under_way under_way (omega arith) refl
  leaves-served {under_way = under_way} rise (refused cause) = leaves-same under_way under_way (omega arith) refl
  leaves-served {under_way = under_way} rise (asked errand free right) =
      leaves-same under_way _ (jobs-for under_way.link.state under_way.last_job) refl
  leaves-served {under_way = under_way} rise (raised key signing free) =
      leaves-raised _ under_way _ rise refl refl refl

  leaves-front : (answer : Front) (port : Port) (state : State)
      → JobsRise 0 state.under_way.confirmations state.under_way.last_job
      → Leaves state.under_way (look_front answer port state).state.under_way
  leaves-front (Whole body_len) port state rise =
      leaves-served rise (serve-ends (asker_at state.moment port) state.held state.under_way (front_body body_len port.heard))
  leaves-front (Bad announced) port state rise = leaves-same state.under_way state.under_way (omega arith) refl
  leaves-front More port state rise = leaves-same state.under_way state.under_way (omega arith) refl

  leaves-waits : (waits : Waits) (owed : List ℕ) (port : Port) (state : State)
      → JobsRise 0 state.under_way.confirmations state.under_way.last_job
      → Leaves state.under_way (look_waits waits owed port state).state.under_way
  leaves-waits Nothing [] port state rise = leaves-front (front longest_body port.heard) port state rise
  leaves-waits Nothing (byte ∷ bytes) port state rise = leaves-same state.under_way state.under_way (omega arith) refl
  leaves-waits (OnAsk ask) owed port state rise = leaves-same state.under_way state.under_way (omega arith) refl
  leaves-waits (OnConfirmation at) owed port state rise = leaves-same state.under_way state.under_way (omega arith) refl

  leaves-look : (found : Option Port) (state : State)
      → JobsRise 0 state.under_way.confirmations state.under_way.last_job
      → Leaves state.under_way (look_port found state).state.under_way
  leaves-look None state rise = leaves-same state.under_way state.under_way (omega arith) refl
  leaves-look (Some port) state rise = leaves-waits port.waits port.owed port state rise

  -- ---- events by which nothing is taken

  leaves-goes : {event : Happening} {old : State} {new : UnderWay} → ((number count : ℕ) → event ≡ Took number count → ⊥)
      → Goes event old new → Leaves old.under_way new
  leaves-goes {old = old} other (starts at ticket is) = leaves-same old.under_way _ (omega arith) refl
  leaves-goes {old = old} other (leaves at is) = leaves-same old.under_way _ (omega arith) refl
  leaves-goes {old = old} other (sends number count port is found linked) = leaves-same old.under_way _ (omega arith) refl
  leaves-goes {old = old} other (prompts number count port one is found linked) = absurd (other number count is)
  leaves-goes {old = old} other (says number piece one at there) =
      leaves-changed one.job (desk.heard_more piece) old.under_way _ refl refl (λ c. refl) (λ c. refl)

  leaves-quiet : {event : Happening} {old new : State} → ((number count : ℕ) → event ≡ Took number count → ⊥)
      → Quiet event old new → Leaves old.under_way new.under_way
  leaves-quiet {old = old} other (alters number f change) = leaves-same old.under_way _ (omega arith) refl
  leaves-quiet {old = old} other (closes number may) = leaves-same old.under_way _ (omega arith) refl
  leaves-quiet {old = old} other (goes_on new goes) = leaves-goes other goes
  leaves-quiet {old = old} other (names at number new) = leaves-same old.under_way _ (omega arith) refl
  leaves-quiet {old = old} other (links at number new) =
      leaves-changed at (desk.linked_at number) old.under_way _ refl refl (λ c. refl) (λ c. refl)

  leaves-over : (confirmation : Confirmation) (under_way : UnderWay) → JobsRise 0 under_way.confirmations under_way.last_job
      → Leaves under_way (without_confirmation confirmation.job under_way)
  leaves-over confirmation under_way rise = leaves-removed confirmation.job under_way _ rise (omega arith) refl

  leaves-granted : {chain : List Binding} {confirmation : Confirmation} {wall : ℕ} {held : KeyState} {under_way : UnderWay} {work : Work}
      → JobsRise 0 under_way.confirmations under_way.last_job
      → IsGranted chain confirmation wall held (without_confirmation confirmation.job under_way) work
      → Leaves under_way work.under_way
  leaves-granted {confirmation = confirmation} {under_way = under_way} rise (disallowed never) = leaves-over confirmation under_way rise
  leaves-granted {confirmation = confirmation} {under_way = under_way} rise (unasked cause key may fault) = leaves-over confirmation under_way rise
  leaves-granted {confirmation = confirmation} {under_way = under_way} rise (allowed key may free) =
      leaves-removed confirmation.job under_way _ rise (jobs-for under_way.link.state under_way.last_job) refl

  leaves-fault : (fault : Option LinkFault) (old : UnderWay) (mid : State) → old.last_job ≤ mid.under_way.last_job
      → mid.under_way.confirmations ≡ old.confirmations → Leaves old (lose_if fault mid).state.under_way
  leaves-fault None old mid rises same = leaves-same old mid.under_way rises same
  leaves-fault (Some fault) old mid rises same = leaves-same old _ rises same

  leaves-makes : {event : Happening} {old : State} {outcome : Outcome} → ((number count : ℕ) → event ≡ Took number count → ⊥)
      → Makes event old outcome → IsTied old → Leaves old.under_way outcome.state.under_way
  leaves-makes other (stays state) tied = leaves-same state.under_way state.under_way (omega arith) refl
  leaves-makes other (first quiet rest) tied =
      leaves-in_turn (leaves-quiet other quiet) (leaves-makes other rest (tied-quiet quiet tied))
  leaves-makes other (serves body_len port state found door nothing owed own) tied =
      leaves-served tied.raised.order (serve-ends (asker_at state.moment port) state.held state.under_way (front_body body_len port.heard))
  leaves-makes other (tells piece state) tied =
      leaves-fault (telling piece state.under_way.link).fault state.under_way _ (omega arith) refl
  leaves-makes other (loses state) tied = leaves-same state.under_way _ (omega arith) refl
  leaves-makes other (overs confirmation state there) tied = leaves-over confirmation state.under_way tied.raised.order
  leaves-makes other (grants confirmation port state there opened) tied =
      leaves-granted tied.raised.order (grant-ends port.chain confirmation state)

  leaves-moment : (moment : Moment) (state : State) → IsTied state
      → Leaves state.under_way (at_moment moment state).under_way
  leaves-moment moment state tied =
      leaves-in_turn (leaves-same state.under_way _ (omega arith) refl)
      (tied-brings (λ s outcome. Leaves s.under_way outcome.state.under_way) moment state tied
      (λ s. leaves-same s.under_way s.under_way (omega arith) refl)
      (λ s at. leaves-same s.under_way _ (omega arith) refl)
      (λ one s there at. leaves-over one s.under_way at.raised.order)
      (λ s first later some more. leaves-in_turn some more))

  -- ---- an event

  -- what is owed after an event, and what was taken in it, is what was owed before
  record Passes (bytes : List ℕ) (taken : List ℕ) (new : UnderWay) : Type 0 where
    left : List ℕ
    whole : taken ++ left ≡ bytes
    owes : Owes left new
    given : job ≤ new.last_job

  passes-same : (bytes : List ℕ) (old new : UnderWay) → job ≤ old.last_job → Owes bytes old → Leaves old new
      → Passes bytes [] new
  passes-same bytes old new within owes keeps = record {
    left = bytes;
    whole = refl;
    owes = λ one found. let was = keeps.owed within one found in was.2 ∙ owes was.0 was.1;
    given = keeps.given within;
  }

  module _ (bytes : List ℕ) (state : State) (tied : IsTied state) (within : job ≤ state.under_way.last_job) (owes : Owes bytes state.under_way) where
    -- its own child process takes some, or another's
    passes-took : (count : ℕ) (one : Confirmation) → find_job one.job state.under_way.confirmations ≡ Some one → (own : Bool) → (one.job == job) ≡ own
        → Passes bytes (cond own (take count one.owed) []) (record state.under_way { confirmations = change_job one.job (desk.took_some count) state.under_way.confirmations })
    passes-took count one there true is =
        let same : one.job ≡ job = grind (arith, nat_tests) in
        let owed : one.owed ≡ bytes = owes one (ap (λ n. find_job n state.under_way.confirmations) (sym same) ∙ there) in
        record {
          left = drop count bytes;
          whole = ap (λ (b : List ℕ). take count b ++ drop count bytes) owed ∙ take-append-drop count bytes;
          owes = λ after found.
              let changed_one : find_job job (change_job one.job (desk.took_some count) state.under_way.confirmations) ≡ option_map (desk.took_some count) (find_job job state.under_way.confirmations) =
              ap (λ n. find_job job (change_job n (desk.took_some count) state.under_way.confirmations)) same ∙ find_by-change job_of job (desk.took_some count) state.under_way.confirmations (λ c. refl) in
              let both : Some after ≡ Some (desk.took_some count one) = sym found ∙ changed_one ∙ ap (option_map (desk.took_some count)) (ap (λ n. find_job n state.under_way.confirmations) (sym same) ∙ there) in
              let equal : after ≡ desk.took_some count one = cc in
              ap (λ (c : Confirmation). c.owed) equal ∙ ap (drop count) owed;
          given = within;
        }
    passes-took count one there false is =
        let apart : job ≢ one.job = (λ same. absurd (grind (arith, nat_tests, same))) in
        record {
          left = bytes;
          whole = refl;
          owes = λ after found. owes after (sym (change-apart job one.job (desk.took_some count) state.under_way.confirmations (λ c. refl) apart) ∙ found);
          given = within;
        }

    passes-role : (number count : ℕ) (port : Port) (role : Role) → role_of port.door port.number state.under_way ≡ role
        → Passes bytes (taken_from job count role) (took_by_role role number count state).state.under_way
    passes-role number count port Client is =
        passes-same bytes state.under_way _ within owes
        (leaves-look (find_port number (changed number (took_some count) state).ports) (changed number (took_some count) state) tied.raised.order)
    passes-role number count port Unnamed is =
        passes-same bytes state.under_way state.under_way within owes (leaves-same state.under_way state.under_way (omega arith) refl)
    passes-role number count port Helper is =
        passes-same bytes state.under_way _ within owes (leaves-same state.under_way _ (omega arith) refl)
    passes-role number count port (Confirmer one) is =
        let linked = role-confirmer port.door port.number state.under_way one is in
        passes-took count one (in-found one 0 state.under_way.last_job tied.raised.order (in-by_port port.number state.under_way.confirmations one linked)) (one.job == job) refl

    passes-found : (number count : ℕ) (found : Option Port)
        → Passes bytes (taken_at job count found state.under_way) (took_at found count state).state.under_way
    passes-found number count None =
        passes-same bytes state.under_way state.under_way within owes (leaves-same state.under_way state.under_way (omega arith) refl)
    passes-found number count (Some port) =
        passes-role port.number count port (role_of port.door port.number state.under_way) refl

    passes-other : (event : Happening) → ((number count : ℕ) → event ≡ Took number count → ⊥)
        → Passes bytes [] (handle event state).state.under_way
    passes-other event other =
        passes-same bytes state.under_way _ within owes
        (by_event (λ outcome. Leaves state.under_way outcome.state.under_way) event state
        (λ door. leaves-same state.under_way state.under_way (omega arith) refl) (λ outcome makes. leaves-makes other makes tied))

    passes-event : (event : Happening) → Passes bytes (taken_in job event state) (handle event state).state.under_way
    passes-event (Joined door) = passes-other (Joined door) (λ n c is. absurd (cc))
    passes-event (Heard port piece) = passes-other (Heard port piece) (λ n c is. absurd (cc))
    passes-event (Ended port) = passes-other (Ended port) (λ n c is. absurd (cc))
    passes-event (Took number count) = passes-found number count (find_port number state.ports)
    passes-event (Started at ticket) = passes-other (Started at ticket) (λ n c is. absurd (cc))
    passes-event (StartFailed at) = passes-other (StartFailed at) (λ n c is. absurd (cc))
    passes-event Tick = passes-other Tick (λ n c is. absurd (cc))

  -- ---- runs

  pub front_of_question : (bytes : List ℕ) (state : State) (events : List Timed) → IsTied state
      → job ≤ state.under_way.last_job → Owes bytes state.under_way → IsFront (taken_of job state events) bytes
  front_of_question bytes state [] tied within owes = (bytes, refl)
  front_of_question bytes state (timed ∷ later) tied within owes =
      let opened : State = at_moment timed.moment state in
      let at = leaves-moment timed.moment state tied in
      let passes = passes-event bytes opened (tied-opened timed.moment state tied) (at.given within)
      (λ one found. let was = at.owed within one found in was.2 ∙ owes was.0 was.1) timed.event in
      let rest = front_of_question passes.left (step state timed.moment timed.event).state later (step-fated state timed.moment timed.event tied).tied passes.given passes.owes in
      (rest.0, append_assoc (taken_in job timed.event opened) (taken_of job (step state timed.moment timed.event).state later) rest.0 ∙ ap (λ more. taken_in job timed.event opened ++ more) rest.1 ∙ passes.whole)
