-- What an event begins isn't late in its own second.
use Rattle.std.proofs.Common.{◌≡◌, ℕ, ◌+◌, ◌<◌, List, [], ◌∷◌, ◌++◌, refl, ap, arith, sym, ◌∙◌, ◌==◌, cond, max, Option, Some, None, Bool, true, false}
use Rattle.std.proofs.Math.Nat.{max-eq_left, le-max_right}
use Rattle.std.proofs.lemmas.Bool.{or_from, or_parts}
use Rattle.std.proofs.lemmas.Bool.Decides.{nat_tests}
use Rattle.std.specs.List.{find}
use Rattle.lists.specs.Keyed.{has_key}
use Rattle.lists.proofs.FirstLemmas.{find-change_none, find-push_other, find-remove_none}
use Rattle.world_ports.specs.declared.Moment.{Moment}
use Rattle.wire_text.specs.Frames.{front_body}
use Rattle.confirm_desk.specs.Confirmations.{Confirmation, change_job, confirmation_of, job_of, linked_at}
use Rattle.confirm_desk.specs.Prompt.{prompt_for}
use Rattle.dest_rule.specs.declared.binding.Binding.{Binding}
use Rattle.helper_link.specs.Answered.{LeadTo}
use Rattle.helper_link.specs.HelperLink.{ask_of}
use Rattle.helper_link.specs.Settling.{remove_ask}
use Rattle.helper_link.specs.Telling.{telling}
use Rattle.helper_link.specs.declared.answer.Settled.{Settled}
use Rattle.helper_link.specs.declared.ask.Ask.{Ask}
use Rattle.helper_link.specs.declared.fault.LinkFault.{LinkFault}
use Rattle.helper_link.proofs.AnswerLemmas.{settling_leads}
use Rattle.agent_model.specs.Actions.{Outcome, Work}
use Rattle.agent_model.specs.Answers.{answers_in, lose_if, with_answers}
use Rattle.agent_model.specs.Consents.{signing_of, without_confirmation}
use Rattle.agent_model.specs.Dispatch.{Asker, Served, host_for}
use Rattle.agent_model.specs.Errands.{Errand, Signs, held_for, blob_of, kind_of, with_ask}
use Rattle.agent_model.specs.Events.{Happening}
use Rattle.agent_model.specs.KeyStates.{KeyState}
use Rattle.agent_model.specs.State.{State, TimeLimits, UnderWay}
use Rattle.agent_model.specs.Step.{asker_at, handle, step}
use Rattle.agent_model.specs.Time.{GiveTime, GivesTime, IsOnTime, at_moment, has_lasted, is_one_late}
use Rattle.agent_model.proofs.GrantLemmas.{IsGranted, allowed, disallowed, grant-ends, unasked}
use Rattle.agent_model.proofs.MakeLemmas.{Kept, Makes, Quiet, altered, alters, by_event, closes, first, goes_on, grants, links, loses, names, overs, same_asks, serves, stays, tells, unchanged}
use Rattle.agent_model.proofs.OnTimeLemmas.{at_moment-moment, at_moment-on_time, taken_in-at_moment}
use Rattle.agent_model.proofs.ServeLemmas.{IsServed, answered, asked, raised, refused, serve-ends}
use Rattle.agent_model.proofs.TimeKeptLemmas.{keeps_time-handle}
use Rattle.agent_model.proofs.TimeLemmas.{at_moment-keeps}
use Rattle.agent_model.proofs.SizeLemmas.{size_of}

-- what has just begun isn't late
not_at_once : (limit : Option ℕ) (since second : ℕ) → GivesTime limit → since ≡ second
    → has_lasted limit since second ≡ false
not_at_once None since second time now = refl
not_at_once (Some limit) since second time now =
    let less : second < since + limit = omega (arith, time, now) in
    grind (arith, nat_tests)

-- ---- asks

-- one more
asks-push : (limit : Option ℕ) (second : ℕ) (asks : List Ask) (one : Ask)
    → is_one_late limit second asks ≡ false → has_lasted limit one.put_at second ≡ false
    → is_one_late limit second (asks ++ one ∷ []) ≡ false
asks-push limit second [] one none prompt =
    or_from (has_lasted limit one.put_at second) false prompt refl
asks-push limit second (ask ∷ asks) one none prompt =
    let both = or_parts (has_lasted limit ask.put_at second) (is_one_late limit second asks) none in
    or_from (has_lasted limit ask.put_at second) (is_one_late limit second (asks ++ one ∷ [])) both.0 (asks-push limit second asks one both.1 prompt)

-- one less
asks-remove : (limit : Option ℕ) (second number : ℕ) (asks : List Ask)
    → is_one_late limit second asks ≡ false
    → is_one_late limit second (remove_ask number asks) ≡ false
asks-remove limit second number [] none = refl
asks-remove limit second number (ask ∷ asks) none =
    let both = or_parts (has_lasted limit ask.put_at second) (is_one_late limit second asks) none in
    by_test (ask.number == number) both.0 both.1 (asks-remove limit second number asks both.1)
  where
    by_test : (is : Bool) → has_lasted limit ask.put_at second ≡ false
        → is_one_late limit second asks ≡ false
        → is_one_late limit second (remove_ask number asks) ≡ false
        → is_one_late limit second (cond is asks (ask ∷ remove_ask number asks)) ≡ false
    by_test true this others left = others
    by_test false this others left = or_from (has_lasted limit ask.put_at second) (is_one_late limit second (remove_ask number asks)) this left

-- those that answers leave
asks-left : (limit : Option ℕ) (second : ℕ) (settled : List Settled) (asks left : List Ask)
    → LeadTo settled asks left → is_one_late limit second asks ≡ false
    → is_one_late limit second left ≡ false
asks-left limit second [] asks left leads none = ap (is_one_late limit second) leads ∙ none
asks-left limit second (one ∷ later) asks left leads none =
    asks-left limit second later (remove_ask one.ask asks) left leads.1 (asks-remove limit second one.ask asks none)

-- ---- nothing is late

-- whether a confirmation is late
abbrev lasts : Option ℕ → ℕ → Confirmation → Bool
lasts limit second one = has_lasted limit one.raised_at second

-- nothing is late of what is under way, with these limits at this second
record IsPrompt (bounds : TimeLimits) (now : ℕ) (under_way : UnderWay) : Type 0 where
  pub limits : under_way.limits ≡ bounds
  pub second : under_way.second ≡ now
  pub helper : is_one_late bounds.ask now under_way.link.asks ≡ false
  pub user : find (lasts bounds.confirmation now) under_way.confirmations ≡ None

module _ (limits : TimeLimits) (second : ℕ) (time : GiveTime limits) where
  -- a confirmation ends
  prompt-without : (job : ℕ) (under_way : UnderWay) → IsPrompt limits second under_way
      → IsPrompt limits second (without_confirmation job under_way)
  prompt-without job under_way prompt = record {
    limits = prompt.limits;
    second = prompt.second;
    helper = prompt.helper;
    user = find-remove_none (lasts limits.confirmation second) (has_key job_of job) under_way.confirmations prompt.user;
  }

  -- an ask is put
  prompt-asked : (errand : Errand) (asker : ℕ) (under_way : UnderWay)
      → IsPrompt limits second under_way → IsPrompt limits second (with_ask errand asker under_way)
  prompt-asked errand asker under_way prompt = record {
    limits = prompt.limits;
    second = prompt.second;
    helper = asks-push limits.ask second under_way.link.asks (ask_of (under_way.link.last + 1) asker (kind_of errand) (blob_of errand) under_way.second (size_of errand (under_way.link.last + 1))) prompt.helper
        (not_at_once limits.ask under_way.second second time.ask prompt.second);
    user = prompt.user;
  }

  prompt-served : {asker : Asker} {held : KeyState} {under_way : UnderWay} {served : Served}
      → IsServed asker held under_way served → IsPrompt limits second under_way
      → IsPrompt limits second served.work.under_way
  prompt-served (answered reply kept same) prompt = prompt
  prompt-served (refused cause) prompt = prompt
  prompt-served {asker = asker} {under_way = under_way} (asked errand free right) prompt =
      prompt-asked errand asker.port under_way prompt
  prompt-served {asker = asker} {under_way = under_way} (raised key signing free) prompt = record {
    limits = prompt.limits;
    second = prompt.second;
    helper = prompt.helper;
    user = find-push_other (lasts limits.confirmation second) under_way.confirmations
        (confirmation_of (under_way.last_job + 1) (held_for asker.port key signing) (prompt_for key.comment key.blob key.purposes (host_for asker key signing) signing.message) under_way.second)
        (not_at_once limits.confirmation under_way.second second time.confirmation prompt.second) ∙ prompt.user;
  }

  prompt-granted : {chain : List Binding} {confirmation : Confirmation} {wall : ℕ} {held : KeyState} {under_way : UnderWay} {work : Work}
      → IsGranted chain confirmation wall held under_way work → IsPrompt limits second under_way
      → IsPrompt limits second work.under_way
  prompt-granted (disallowed never) prompt = prompt
  prompt-granted (unasked cause key may fault) prompt = prompt
  prompt-granted {confirmation = confirmation} {under_way = under_way} (allowed key may free) prompt =
      prompt-asked (Signs key (signing_of key confirmation)) confirmation.asker under_way prompt

  -- a confirmation that is changed began when it did
  changed-prompt : (job : ℕ) (f : Confirmation → Confirmation) (all : List Confirmation)
      → ((c : Confirmation) → (f c).raised_at ≡ c.raised_at)
      → find (lasts limits.confirmation second) all ≡ None
      → find (lasts limits.confirmation second) (change_job job f all) ≡ None
  changed-prompt job f all began none =
      find-change_none (lasts limits.confirmation second) (has_key job_of job) f all
      (λ one fails. ap (λ since. has_lasted limits.confirmation since second) (began one) ∙ fails) none

  kept-prompt : {old new : List Confirmation} → Kept old new
      → find (lasts limits.confirmation second) old ≡ None
      → find (lasts limits.confirmation second) new ≡ None
  kept-prompt unchanged none = none
  kept-prompt {old = old} (altered job f faint) none = changed-prompt job f old faint.raised_at none

  prompt-quiet : {event : Happening} {old new : State} → Quiet event old new
      → IsPrompt limits second old.under_way → IsPrompt limits second new.under_way
  prompt-quiet (alters number f change) prompt = prompt
  prompt-quiet (closes number may) prompt = prompt
  prompt-quiet (goes_on new goes) prompt = record {
    limits = (same_asks goes).limits ∙ prompt.limits;
    second = (same_asks goes).second ∙ prompt.second;
    helper = ap (is_one_late limits.ask second) (same_asks goes).asks ∙ prompt.helper;
    user = kept-prompt (same_asks goes).kept prompt.user;
  }
  prompt-quiet (names job number new) prompt =
      record { limits = prompt.limits; second = prompt.second; helper = prompt.helper; user = prompt.user }
  prompt-quiet {old = old} (links job number new) prompt = record {
    limits = prompt.limits;
    second = prompt.second;
    helper = prompt.helper;
    user = changed-prompt job (linked_at number) old.under_way.confirmations (λ c. refl) prompt.user;
  }

  prompt-lose_if : (fault : Option LinkFault) (state : State)
      → IsPrompt limits second state.under_way
      → IsPrompt limits second (lose_if fault state).state.under_way
  prompt-lose_if None state prompt = prompt
  prompt-lose_if (Some fault) state prompt =
      record { limits = prompt.limits; second = prompt.second; helper = refl; user = prompt.user }

  prompt-makes : {event : Happening} {old : State} {outcome : Outcome} → Makes event old outcome
      → IsPrompt limits second old.under_way → IsPrompt limits second outcome.state.under_way
  prompt-makes (stays state) prompt = prompt
  prompt-makes (first quiet rest) prompt = prompt-makes rest (prompt-quiet quiet prompt)
  prompt-makes (serves body_len port state found door nothing owed own) prompt =
      prompt-served (serve-ends (asker_at state.moment port) state.held state.under_way (front_body body_len port.heard)) prompt
  prompt-makes (tells piece state) prompt =
      let told = telling piece state.under_way.link in
      prompt-lose_if told.fault (with_answers told.link (answers_in told.settled state) state) record {
        limits = prompt.limits;
        second = prompt.second;
        helper = asks-left limits.ask second told.settled state.under_way.link.asks told.link.asks
            (settling_leads (state.under_way.link.heard ++ piece) state.under_way.link.asks) prompt.helper;
        user = prompt.user;
      }
  prompt-makes (loses state) prompt =
      record { limits = prompt.limits; second = prompt.second; helper = refl; user = prompt.user }
  prompt-makes (overs confirmation state there) prompt =
      prompt-without confirmation.job state.under_way prompt
  prompt-makes (grants confirmation port state there opened) prompt =
      prompt-granted (grant-ends port.chain confirmation state) (prompt-without confirmation.job state.under_way prompt)

  -- whatever happens
  prompt-handle : (event : Happening) (state : State) → IsPrompt limits second state.under_way
      → IsPrompt limits second (handle event state).state.under_way
  prompt-handle event state =
      by_event (λ outcome. IsPrompt limits second state.under_way → IsPrompt limits second outcome.state.under_way) event state
      (λ door prompt. prompt) (λ outcome. prompt-makes)

-- ---- an event at its moment

-- where each limit gives time nothing is late behind an event, at the same moment
pub step-on_time : (moment : Moment) (state : State) (event : Happening)
    → GiveTime state.under_way.limits → IsOnTime moment (step state moment event).state
step-on_time moment state event time =
    let after : State = (handle event opened).state in
    let prompt = prompt-handle state.under_way.limits now time event opened prompt_opened in
    let again : max after.moment.mono moment.mono ≡ now =
    ap (λ (m : Moment). max m.mono moment.mono) ((keeps_time-handle event opened).moment ∙ at_moment-moment moment state)
    ∙ max-eq_left (le-max_right state.moment.mono moment.mono) in
    record {
      helper = ap (λ (l : TimeLimits). is_one_late l.ask (max after.moment.mono moment.mono) after.under_way.link.asks) prompt.limits
          ∙ ap (λ n. is_one_late state.under_way.limits.ask n after.under_way.link.asks) again ∙ prompt.helper;
      user = ap (λ (l : TimeLimits). find (lasts l.confirmation (max after.moment.mono moment.mono)) after.under_way.confirmations) prompt.limits
          ∙ ap (λ n. find (lasts state.under_way.limits.confirmation n) after.under_way.confirmations) again ∙ prompt.user;
    }
  where
    opened : State
    opened = at_moment moment state

    now : ℕ
    now = max state.moment.mono moment.mono

    kept : (opened.under_way.limits ≡ state.under_way.limits) × (opened.under_way.second ≡ now)
    kept =
        at_moment-keeps (λ s. (s.under_way.limits ≡ state.under_way.limits) × (s.under_way.second ≡ now)) moment state
        (λ s same. same) (λ one s there same. same) (refl, refl)

    prompt_opened : IsPrompt state.under_way.limits now opened.under_way
    prompt_opened =
        let same = taken_in-at_moment moment state in
        let none = at_moment-on_time moment state in
        record {
          limits = kept.0;
          second = kept.1;
          helper = ap (λ (l : TimeLimits). is_one_late l.ask now opened.under_way.link.asks) (sym kept.0)
              ∙ ap (λ n. is_one_late opened.under_way.limits.ask n opened.under_way.link.asks) (sym kept.1)
              ∙ ap (λ (s : State). is_one_late s.under_way.limits.ask s.under_way.second s.under_way.link.asks) (sym same) ∙ none.helper;
          user = ap (λ (l : TimeLimits). find (lasts l.confirmation now) opened.under_way.confirmations) (sym kept.0)
              ∙ ap (λ n. find (lasts opened.under_way.limits.confirmation n) opened.under_way.confirmations) (sym kept.1)
              ∙ ap (λ (s : State). find (lasts s.under_way.limits.confirmation s.under_way.second) s.under_way.confirmations) (sym same) ∙ none.user;
        }
