-- What an event puts is its newest ask.
use Rattle.std.proofs.Common.{◌≡◌, ℕ, ◌+◌, ◌==◌, List, [], ◌∷◌, ◌++◌, refl, ap, arith, length, slice_get, sym, ◌∙◌, Option, Some, None, OnOk, true, false, cond, Result, Ok, Err}
use Rattle.std.proofs.lemmas.Bool.Decides.{nat_tests}
use Rattle.std.proofs.lemmas.List.{length-append}
use Rattle.std.proofs.lemmas.List.Elements.{filter_map-append}
use Rattle.std.specs.declared.alloc.AllocError.{AllocError}
use Rattle.world_ports.specs.declared.Moment.{Moment}
use Rattle.confirm_desk.specs.Confirmations.{Confirmation}
use Rattle.dest_rule.specs.declared.binding.Binding.{Binding}
use Rattle.helper_link.specs.HelperLink.{HelperLink, ask_of, newest}
use Rattle.helper_link.specs.Telling.{telling}
use Rattle.helper_link.specs.declared.ask.Ask.{Ask}
use Rattle.helper_link.specs.declared.fault.LinkFault.{LinkFault}
use Rattle.agent_model.specs.Actions.{Action, Asked, Lost, Outcome, Over, Stepped, Work, stepped}
use Rattle.agent_model.specs.Answers.{answers_in, helper_tells, lose, lose_if, with_answers}
use Rattle.agent_model.specs.Consents.{over, signing_of}
use Rattle.agent_model.specs.Dispatch.{Asker, Served, host_for}
use Rattle.agent_model.specs.Errands.{Errand, Signs, Verifies, asking_of, blob_of, kind_of, raise_unless, with_ask}
use Rattle.agent_model.specs.Events.{Happening}
use Rattle.agent_model.specs.KeyStates.{KeyState}
use Rattle.agent_model.specs.State.{State, UnderWay}
use Rattle.agent_model.specs.Step.{asker_at, handle, step}
use Rattle.agent_model.specs.Time.{at_moment, time_passes}
use Rattle.agent_model.proofs.SizeLemmas.{size_of}
use Rattle.agent_model.proofs.ActionLemmas.{Each, each-tells}
use Rattle.agent_model.proofs.GrantLemmas.{IsGranted, allowed, disallowed, grant-ends, unasked}
use Rattle.agent_model.proofs.MakeLemmas.{Makes, Quiet, alters, by_event, closes, first, goes_on, grants, links, loses, names, overs, same_asks, serves, stays, tells}
use Rattle.agent_model.proofs.ServeLemmas.{IsServed, answered, asked, raised, refused, serve-ends}
use Rattle.agent_model.proofs.TimeLemmas.{AreEnds, IsEnd, at_moment-keeps, end, loss, no_more, one_more, time_passes-ends}
use Rattle.audit_core.specs.Newest.{PutsItsNewest, put_if, put_since}
use Rattle.audit_core.specs.Puts.{put_by, puts_by}
use Rattle.audit_core.specs.declared.put.Put.{Put}

-- the last of more asks is the newest
newest-push : (asks : List Ask) (one : Ask) → newest (asks ++ one ∷ []) ≡ Some one
newest-push asks one = ap (slice_get (asks ++ one ∷ [])) (omega (arith, length-append asks (one ∷ []))) ∙ at_end asks
  where
    at_end : (some : List Ask) → slice_get (some ++ one ∷ []) (length some) ≡ Some one
    at_end [] = refl
    at_end (other ∷ some) = at_end some

module _ (line : ℕ) where
  -- what an outcome puts is the newest ask, where the number of the last one isn't what it was
  abbrev PutsNewest : ℕ → List Action → HelperLink → Type 0
  PutsNewest before actions link = puts_by line actions ≡ put_since line before link

  -- where the number stays, nothing was put
  puts-none : (before : ℕ) (actions : List Action) (link : HelperLink) → puts_by line actions ≡ []
      → link.last ≡ before → PutsNewest before actions link
  puts-none before actions link none same =
      let is : (before == link.last) ≡ true = grind (arith, nat_tests, same) in
      none ∙ sym (ap (λ test. cond test [] (put_if line (newest link.asks))) is)

  -- where it rose, one ask
  puts-one : (before : ℕ) (actions : List Action) (link : HelperLink) (asks : List Ask) (one : Ask)
      → link.asks ≡ asks ++ one ∷ [] → link.last ≡ before + 1
      → puts_by line actions ≡ put_if line (Some one) → PutsNewest before actions link
  puts-one before actions link asks one more next puts =
      let isnt : (before == link.last) ≡ false = grind (arith, nat_tests, next) in
      puts ∙ ap (put_if line) (sym (ap newest more ∙ newest-push asks one))
      ∙ sym (ap (λ test. cond test [] (put_if line (newest link.asks))) isnt)

  puts-asked : (errand : Errand) (asker : ℕ) (under_way : UnderWay)
      → PutsNewest under_way.link.last (Asked (asking_of errand asker (under_way.link.last + 1)) ∷ []) (with_ask errand asker under_way).link
  puts-asked errand asker under_way =
      puts-one under_way.link.last (Asked (asking_of errand asker (under_way.link.last + 1)) ∷ []) (with_ask errand asker under_way).link under_way.link.asks
      (ask_of (under_way.link.last + 1) asker (kind_of errand) (blob_of errand) under_way.second (size_of errand (under_way.link.last + 1))) refl refl (by_errand errand)
    where
      by_errand : (e : Errand)
          → puts_by line (Asked (asking_of e asker (under_way.link.last + 1)) ∷ []) ≡ put_if line (Some (ask_of (under_way.link.last + 1) asker (kind_of e) (blob_of e) under_way.second (size_of e (under_way.link.last + 1))))
      by_errand (Signs key signing) = refl
      by_errand (Verifies bind is_new) = refl

  -- ---- what tells no ask

  abbrev PutsNone : Action → Type 0
  PutsNone action = put_by line action ≡ None

  each-none : (actions : List Action) → Each PutsNone actions → puts_by line actions ≡ []
  each-none [] none = refl
  each-none (action ∷ later) none = rw none.0 (each-none later none.1)

  end-none : (action : Action) → IsEnd action → PutsNone action
  end-none action loss = refl
  end-none action (end job) = refl

  ends-none : (actions : List Action) → AreEnds actions → puts_by line actions ≡ []
  ends-none actions no_more = refl
  ends-none actions (one_more action later is more) = rw (end-none action is) (ends-none later more)

  -- ---- what an event makes

  lost-last : (fault : Option LinkFault) (state : State)
      → (lose_if fault state).state.under_way.link.last ≡ state.under_way.link.last
  lost-last None state = refl
  lost-last (Some fault) state = refl

  quiet-last : {event : Happening} {old mid : State} → Quiet event old mid
      → mid.under_way.link.last ≡ old.under_way.link.last
  quiet-last (alters number f change) = refl
  quiet-last (closes number may) = refl
  quiet-last (goes_on new goes) = (same_asks goes).last
  quiet-last (names job number new) = refl
  quiet-last (links job number new) = refl

  served : {asker : Asker} {held : KeyState} {under_way : UnderWay} {brought : Served}
      → IsServed asker held under_way brought
      → PutsNewest under_way.link.last brought.work.actions brought.work.under_way.link
  served {under_way = under_way} (answered reply kept same) = puts-none under_way.link.last [] under_way.link refl refl
  served {under_way = under_way} (refused cause) = puts-none under_way.link.last [] under_way.link refl refl
  served {asker = asker} {under_way = under_way} (asked errand free may) = puts-asked errand asker.port under_way
  served {asker = asker} {under_way = under_way} (raised key signing free) = puts-none under_way.link.last (raise_unless None key (host_for asker key signing) signing asker.port under_way).actions under_way.link refl refl

  granted : {chain : List Binding} {one : Confirmation} {wall : ℕ} {held : KeyState} {under_way : UnderWay} {work : Work}
      → IsGranted chain one wall held under_way work
      → PutsNewest under_way.link.last work.actions work.under_way.link
  granted {under_way = under_way} (disallowed never) = puts-none under_way.link.last [] under_way.link refl refl
  granted {under_way = under_way} (unasked cause key may fault) = puts-none under_way.link.last [] under_way.link refl refl
  granted {one = one} {under_way = under_way} (allowed key may free) = puts-asked (Signs key (signing_of key one)) one.asker under_way

  makes-newest : {event : Happening} {old : State} {outcome : Outcome} → Makes event old outcome
      → PutsNewest old.under_way.link.last outcome.actions outcome.state.under_way.link
  makes-newest (stays state) = puts-none state.under_way.link.last [] state.under_way.link refl refl
  makes-newest (first {outcome = outcome} quiet rest) =
      makes-newest rest ∙ ap (λ last. put_since line last outcome.state.under_way.link) (quiet-last quiet)
  makes-newest (serves body_len port state found door nothing owed own) =
      served (serve-ends (asker_at state.moment port) state.held state.under_way _)
  makes-newest (tells piece state) =
      let told = telling piece state.under_way.link in
      puts-none state.under_way.link.last (helper_tells told state).actions (helper_tells told state).state.under_way.link
      (each-none (helper_tells told state).actions (each-tells PutsNone (λ one. refl) (λ proving. refl) refl told state))
      (lost-last told.fault (with_answers told.link (answers_in told.settled state) state))
  makes-newest (loses state) = puts-none state.under_way.link.last (Lost ∷ []) (lose state).state.under_way.link refl refl
  makes-newest (overs one state there) = puts-none state.under_way.link.last (Over one.job ∷ []) (over one state).state.under_way.link refl refl
  makes-newest (grants one port state there found) = granted (grant-ends port.chain one state)

-- ---- a step

last-moment : (moment : Moment) (state : State)
    → (at_moment moment state).under_way.link.last ≡ state.under_way.link.last
last-moment moment state = at_moment-keeps (λ s. s.under_way.link.last ≡ state.under_way.link.last) moment state (λ s same. same) (λ one s there same. same) refl

pub newest-step : (state : State) (moment : Moment) (event : Happening)
    → PutsItsNewest state moment event
newest-step state moment event line =
    let opened = at_moment moment state in
    let later = handle event opened in
    let puts = by_event (λ outcome. PutsNewest line opened.under_way.link.last outcome.actions outcome.state.under_way.link) event opened (λ door. puts-none line opened.under_way.link.last [] opened.under_way.link refl refl) (λ outcome makes. makes-newest line makes) in
    filter_map-append (put_by line) (time_passes moment state).actions later.actions
    ∙ ap (λ all. all ++ puts_by line later.actions) (ends-none line (time_passes moment state).actions (time_passes-ends moment state))
    ∙ puts
    ∙ ap (λ last. put_since line last later.state.under_way.link) (last-moment moment state)

-- ---- what is noted

pub noted : (line : ℕ) (state : State) (moment : Moment) (event : Happening) (later : Stepped) (result : Result (Unit {0}) AllocError) (before : ℕ) (old new : List Put)
    → later ≡ stepped (step state moment event) → before ≡ state.under_way.link.last
    → OnOk result (new ≡ old ++ put_since line before later.state.under_way.link)
    → OnOk result (new ≡ old ++ puts_by line (step state moment event).actions)
noted line state moment event later (Ok done) before old new later_is before_is is =
    is
    ∙ ap (λ n. old ++ put_since line n later.state.under_way.link) before_is
    ∙ ap (λ (s : Stepped). old ++ put_since line state.under_way.link.last s.state.under_way.link) later_is
    ∙ sym (ap (λ p. old ++ p) (newest-step state moment event line))
noted line state moment event later (Err memory) before old new later_is before_is is = tt
