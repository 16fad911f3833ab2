-- What the helper, the user and child processes bring, with secrets hidden.
use Rattle.std.proofs.Common.{◌≡◌, ℕ, List, [], ◌∷◌, ◌++◌, length, map, refl, sym, ap, ◌∙◌, Bool, true, false, Option, Some, None}
use Rattle.std.proofs.lemmas.List.{map-append}
use Rattle.std.specs.Option.{option_map}
use Rattle.helper_link.specs.HelperLink.{HelperLink, askers}
use Rattle.helper_link.specs.Telling.{Telling, telling}
use Rattle.helper_link.specs.declared.answer.Answer.{Answer}
use Rattle.helper_link.specs.declared.answer.Answer.TheVariants as answer
use Rattle.helper_link.specs.declared.answer.Settled.{Settled}
use Rattle.helper_link.specs.declared.fault.LinkFault.{LinkFault}
use Rattle.identity_table.specs.Identities.{HeldKey, find_number}
use Rattle.dest_rule.specs.declared.binding.Binding.{Binding}
use Rattle.confirm_desk.specs.Confirmations.{Confirmation, Consent, No, NotYet, Yes, consent}
use Rattle.agent_model.specs.Actions.{Action, Answered, Lost, Outcome, Over, Work, acted, and_then, behind, closing, stay}
use Rattle.agent_model.specs.Answers.{Answering, answer_all, answer_asker, answer_by, answer_true, answers_in, close_helper, find_verification, helper_closes, helper_heard, helper_tells, lose, lose_if, lose_where, proved_where_open, prove, remove_verification, tell_each, with_answers}
use Rattle.agent_model.specs.Children.{changed, closed, shut, shut_then}
use Rattle.agent_model.specs.Consents.{close_confirmer, confirmer_closes, confirmer_heard, consent_by, grant, grant_by, grant_concluded, grant_to, grant_unless, grant_work, over, over_if, signing_of, with_heard, without_confirmation}
use Rattle.agent_model.specs.Errands.{Signs}
use Rattle.agent_model.specs.KeyStates.{after_use}
use Rattle.agent_model.specs.Objections.{objection}
use Rattle.agent_model.specs.State.{Port, State, UnderWay, Verification, change_port, find_port}
use Rattle.agent_model.specs.Verdicts.{Cause, HelperLost, HelperRefused, NoLongerAllowed, NotConfirmed, Refuses, Replies, Signature, SignatureWrong, Verdict, tell}
use Rattle.agent_secrecy.specs.Hiding.{Seen, SeenWork, bare, hide_held, hide_key, hide_link, hide_message, hide_port, hide_ports, hide_state, hide_under_way, seen, work_bare, work_seen}
use Rattle.agent_secrecy.proofs.BlankLemmas.{blank-twice}
use Rattle.agent_secrecy.proofs.TableLemmas.{after_use-hidden, find_number-hidden}
use Rattle.agent_secrecy.proofs.WorkLemmas.{put_ask-hidden, settles-hidden, with_owed}
use Rattle.agent_secrecy.proofs.PortLemmas.{change_port-hidden, close_confirmer-hidden, close_helper-hidden, closing-hidden, confirmer_closes-hidden, find_port-hidden, helper_closes-hidden, remove_port-hidden, tell-hidden, tell_each-hidden}

abbrev pub with_ports : State → List Port → State
with_ports state ports = record state { ports = ports }

module _ (key : List ℕ → List ℕ) (keeps : (bytes : List ℕ) → length (key bytes) ≡ length bytes) (heard : ℕ → List ℕ → List ℕ) where
  abbrev hide : State → State
  hide state = hide_state key heard state

  abbrev pub hide_outcome : Outcome → Outcome
  hide_outcome outcome = record {
    state = hide outcome.state;
    actions = outcome.actions;
    put = map (hide_message key) outcome.put;
    closes = outcome.closes;
  }

  abbrev seen_owed : Outcome → List ℕ → Seen
  seen_owed outcome owed = record {
    state = record (hide outcome.state) { under_way = with_owed outcome.state.under_way owed };
    put = map (hide_message key) outcome.put;
    closes = outcome.closes;
  }

  -- what nothing was put in, or no more than what was hidden already
  pub exactly : (one hidden_one : Outcome) → hidden_one ≡ hide_outcome one
      → bare hidden_one ≡ seen key heard one
  exactly one hidden_one same =
      ap bare same ∙ ap (seen_owed one) (blank-twice one.state.under_way.link.owed)

  pub closed-hidden : (number : ℕ) (state : State)
      → closed number (hide state) ≡ hide (closed number state)
  closed-hidden number state =
      ap (with_ports (hide state)) (remove_port-hidden heard number state.ports)

  pub changed-hidden : (number : ℕ) (f g : Port → Port) (state : State)
      → ((port : Port) → find_port number state.ports ≡ Some port → g (hide_port heard port) ≡ hide_port heard (f port))
      → changed number g (hide state) ≡ hide (changed number f state)
  changed-hidden number f g state same =
      ap (with_ports (hide state)) (change_port-hidden heard number f g state.ports same)

  -- these actions led to the state and closed these ports
  abbrev done : List Action → State → List ℕ → Outcome
  done actions state closes = record { state = state; actions = actions; put = []; closes = closes }

  -- one thing, and then another
  pub and_then-hidden : (one hidden_one : Outcome) (next : State → Outcome)
      → hidden_one ≡ hide_outcome one → next (hide one.state) ≡ hide_outcome (next one.state)
      → and_then hidden_one next ≡ hide_outcome (and_then one next)
  and_then-hidden one hidden_one next same later =
      ap (λ first. and_then first next) same ∙ ap (behind (hide_outcome one)) later
      ∙ ap (λ put. let left : Outcome = record (hide_outcome (and_then one next)) { put = put } in left) (sym (map-append (hide_message key) one.put (next one.state).put))

  -- a port is closed, and then this happens
  pub shut_then-hidden : (number : ℕ) (next : State → Outcome) (state : State)
      → next (hide (closed number state)) ≡ hide_outcome (next (closed number state))
      → shut_then number next (hide state) ≡ hide_outcome (shut_then number next state)
  shut_then-hidden number next state same =
      ap (λ left. with_closing left (closing number (hide_ports heard state.ports) left.closes)) (ap next (closed-hidden number state) ∙ same)
      ∙ ap (with_closing (hide_outcome (next (closed number state)))) (closing-hidden heard number state.ports (next (closed number state)).closes)
    where
      with_closing : Outcome → List ℕ → Outcome
      with_closing left closes = record left { closes = closes }

  pub shut-hidden : (number : ℕ) (state : State)
      → shut number (hide state) ≡ hide_outcome (shut number state)
  shut-hidden number state = shut_then-hidden number stay state refl

  -- ---- the loss of the helper

  pub lose-hidden : (state : State) → lose (hide state) ≡ hide_outcome (lose state)
  lose-hidden state =
      ap (λ ports. done (Lost ∷ []) (with_ports (hide (lose state).state) ports) (helper_closes state.under_way.link.state (hide_ports heard state.ports)))
      (ap (tell_each (Refuses HelperLost) (askers state.under_way.link.asks)) (close_helper-hidden heard state.under_way.link.state state.ports)
      ∙ tell_each-hidden heard (Refuses HelperLost) (askers state.under_way.link.asks) (close_helper state.under_way.link.state state.ports))
      ∙ ap (done (Lost ∷ []) (hide (lose state).state)) (helper_closes-hidden heard state.under_way.link.state state.ports)

  pub lose_where-hidden : (is : Bool) (state : State)
      → lose_where is (hide state) ≡ hide_outcome (lose_where is state)
  lose_where-hidden false state = refl
  lose_where-hidden true state = lose-hidden state

  pub lose_if-hidden : (fault : Option LinkFault) (state : State)
      → lose_if fault (hide state) ≡ hide_outcome (lose_if fault state)
  lose_if-hidden None state = refl
  lose_if-hidden (Some fault) state = lose-hidden state

  -- ---- the helper's answers

  abbrev hide_answering : Answering → Answering
  hide_answering before = record before { ports = hide_ports heard before.ports }

  answer_asker-hidden : (verdict : Verdict) (one : Settled) (before : Answering)
      → answer_asker verdict one (hide_answering before) ≡ hide_answering (answer_asker verdict one before)
  answer_asker-hidden verdict one before =
      ap (λ ports. let new : Answering = record (answer_asker verdict one before) { ports = ports } in new) (tell-hidden heard one.asker verdict before.ports)

  proved_where_open-hidden : (found : Option Port) (verification : Verification)
      → proved_where_open (option_map (hide_port heard) found) verification ≡ proved_where_open found verification
  proved_where_open-hidden None verification = refl
  proved_where_open-hidden (Some port) verification = refl

  answer_true-hidden : (found : Option Verification) (one : Settled) (before : Answering)
      → answer_true found one (hide_answering before) ≡ hide_answering (answer_true found one before)
  answer_true-hidden None one before = answer_asker-hidden (Refuses SignatureWrong) one before
  answer_true-hidden (Some verification) one before =
      ap (λ ports. let new : Answering = record { ports = ports; verifications = remove_verification one.ask before.verifications; actions = before.actions ++ Answered one ∷ proved_where_open (find_port one.asker (hide_ports heard before.ports)) verification } in new)
      (change_port-hidden heard one.asker (prove verification) (prove verification) before.ports (λ port found. refl))
      ∙ ap (λ more. let new : Answering = record { ports = hide_ports heard (change_port one.asker (prove verification) before.ports); verifications = remove_verification one.ask before.verifications; actions = before.actions ++ Answered one ∷ more } in new)
      (ap (λ found. proved_where_open found verification) (find_port-hidden heard one.asker before.ports) ∙ proved_where_open-hidden (find_port one.asker before.ports) verification)

  answer_by-hidden : (what : Answer) (one : Settled) (before : Answering)
      → answer_by what one (hide_answering before) ≡ hide_answering (answer_by what one before)
  answer_by-hidden (answer.Signed signature) one before =
      answer_asker-hidden (Replies (Signature signature)) one before
  answer_by-hidden answer.Refused one before =
      answer_asker-hidden (Refuses HelperRefused) one before
  answer_by-hidden answer.True one before =
      answer_true-hidden (find_verification one.ask before.verifications) one before
  answer_by-hidden answer.False one before = answer_asker-hidden (Refuses SignatureWrong) one before

  answer_all-hidden : (settled : List Settled) (before : Answering)
      → answer_all settled (hide_answering before) ≡ hide_answering (answer_all settled before)
  answer_all-hidden [] before = refl
  answer_all-hidden (one ∷ later) before = ap (answer_all later) (answer_by-hidden one.answer one before) ∙ answer_all-hidden later (answer_by one.answer one before)

  told_state-hidden : (link : HelperLink) (settled : List Settled) (state : State)
      → with_answers (hide_link link) (answers_in settled (hide state)) (hide state) ≡ hide (with_answers link (answers_in settled state) state)
  told_state-hidden link settled state =
      ap (λ answers. with_answers (hide_link link) answers (hide state)) (answer_all-hidden settled (record { ports = state.ports; verifications = state.under_way.verifications; actions = [] }))

  told_actions-hidden : (settled : List Settled) (state : State)
      → (answers_in settled (hide state)).actions ≡ (answers_in settled state).actions
  told_actions-hidden settled state =
      ap (λ (answers : Answering). answers.actions) (answer_all-hidden settled (record { ports = state.ports; verifications = state.under_way.verifications; actions = [] }))

  tells-hidden : (link : HelperLink) (settled : List Settled) (fault : Option LinkFault) (state : State) → helper_tells (record { link = hide_link link; settled = settled; fault = fault }) (hide state) ≡ hide_outcome (helper_tells (record { link = link; settled = settled; fault = fault }) state)
  tells-hidden link settled fault state =
      ap (λ actions. and_then (acted actions (with_answers (hide_link link) (answers_in settled (hide state)) (hide state))) (lose_if fault)) (told_actions-hidden settled state)
      ∙ ap (λ new. and_then (acted (answers_in settled state).actions new) (lose_if fault)) (told_state-hidden link settled state)
      ∙ ap (behind (acted (answers_in settled state).actions (hide (with_answers link (answers_in settled state) state)))) (lose_if-hidden fault (with_answers link (answers_in settled state) state))

  pub helper_heard-hidden : (piece : List ℕ) (state : State)
      → helper_heard piece (hide state) ≡ hide_outcome (helper_heard piece state)
  helper_heard-hidden piece state =
      let told : Telling = telling piece state.under_way.link in
      tells-hidden told.link told.settled told.fault state

  -- ---- consent

  pub over-hidden : (confirmation : Confirmation) (state : State)
      → over confirmation (hide state) ≡ hide_outcome (over confirmation state)
  over-hidden confirmation state =
      ap (λ ports. done (Over confirmation.job ∷ []) (with_ports (hide (over confirmation state).state) ports) (confirmer_closes confirmation.port (hide_ports heard state.ports)))
      (ap (change_port confirmation.asker (tell (Refuses NotConfirmed))) (close_confirmer-hidden heard confirmation.port state.ports)
      ∙ tell-hidden heard confirmation.asker (Refuses NotConfirmed) (close_confirmer confirmation.port state.ports))
      ∙ ap (done (Over confirmation.job ∷ []) (hide (over confirmation state).state)) (confirmer_closes-hidden heard confirmation.port state.ports)

  pub over_if-hidden : (found : Option Confirmation) (state : State)
      → over_if found (hide state) ≡ hide_outcome (over_if found state)
  over_if-hidden None state = refl
  over_if-hidden (Some confirmation) state = over-hidden confirmation state

  grant_unless-hidden : (result : Option Cause) (held : HeldKey) (confirmation : Confirmation) (under_way : UnderWay) → work_bare (grant_unless result (hide_key key held) confirmation (hide_under_way under_way)) ≡ work_seen key (grant_unless result held confirmation under_way)
  grant_unless-hidden (Some cause) held confirmation under_way =
      settles-hidden key keeps (Refuses NoLongerAllowed) under_way
  grant_unless-hidden None held confirmation under_way = put_ask-hidden key keeps (Signs held (signing_of held confirmation)) confirmation.asker under_way

  grant_by-hidden : (lock : Option (List ℕ)) (found : Option HeldKey) (chain : List Binding) (confirmation : Confirmation) (wall : ℕ) (under_way : UnderWay) → work_bare (grant_by lock (option_map (hide_key key) found) chain confirmation wall (hide_under_way under_way)) ≡ work_seen key (grant_by lock found chain confirmation wall under_way)
  grant_by-hidden None (Some held) chain confirmation wall under_way = grant_unless-hidden (objection held held.blob chain confirmation.message confirmation.flags wall) held confirmation under_way
  grant_by-hidden None None chain confirmation wall under_way =
      settles-hidden key keeps (Refuses NoLongerAllowed) under_way
  grant_by-hidden (Some passphrase) found chain confirmation wall under_way =
      settles-hidden key keeps (Refuses NoLongerAllowed) under_way

  grant_work-hidden : (chain : List Binding) (confirmation : Confirmation) (state : State)
      → work_bare (grant_work chain confirmation (hide state)) ≡ work_seen key (grant_work chain confirmation state)
  grant_work-hidden chain confirmation state =
      let left : UnderWay = without_confirmation confirmation.job state.under_way in
      ap (λ found. work_bare (grant_by state.held.lock found chain confirmation state.moment.wall (hide_under_way left))) (find_number-hidden key confirmation.addition state.held.table.identities)
      ∙ grant_by-hidden state.held.lock (find_number confirmation.addition state.held.table.identities) chain confirmation state.moment.wall left

  abbrev granted_with : Confirmation → State → List Port → List ℕ → SeenWork → Seen
  granted_with confirmation state ports closes work = record {
    state = record (hide state) { held = after_use work.used (hide_held key state.held); ports = change_port confirmation.asker (tell work.verdict) ports; under_way = work.under_way };
    put = work.put;
    closes = closes;
  }

  grant_concluded-hidden : (hidden_work work : Work) (confirmation : Confirmation) (state : State)
      → work_bare hidden_work ≡ work_seen key work
      → bare (grant_concluded hidden_work confirmation (hide state)) ≡ seen key heard (grant_concluded work confirmation state)
  grant_concluded-hidden hidden_work work confirmation state same =
      ap (granted_with confirmation state (close_confirmer confirmation.port (hide_ports heard state.ports)) (confirmer_closes confirmation.port (hide_ports heard state.ports))) same
      ∙ ap (λ ports. granted_with confirmation state ports (confirmer_closes confirmation.port (hide_ports heard state.ports)) (work_seen key work)) (close_confirmer-hidden heard confirmation.port state.ports)
      ∙ ap (λ closes. granted_with confirmation state (hide_ports heard (close_confirmer confirmation.port state.ports)) closes (work_seen key work)) (confirmer_closes-hidden heard confirmation.port state.ports)
      ∙ ap (λ keys. let new : Seen = record { state = record (hide state) { held = keys; ports = change_port confirmation.asker (tell work.verdict) (hide_ports heard (close_confirmer confirmation.port state.ports)); under_way = hide_under_way work.under_way }; put = map (hide_message key) work.put; closes = confirmer_closes confirmation.port state.ports } in new)
      (after_use-hidden key work.used state.held)
      ∙ ap (λ ports. let new : Seen = record { state = record (hide state) { held = hide_held key (after_use work.used state.held); ports = ports; under_way = hide_under_way work.under_way }; put = map (hide_message key) work.put; closes = confirmer_closes confirmation.port state.ports } in new)
      (tell-hidden heard confirmation.asker work.verdict (close_confirmer confirmation.port state.ports))

  grant_to-hidden : (found : Option Port) (confirmation : Confirmation) (state : State)
      → bare (grant_to (option_map (hide_port heard) found) confirmation (hide state)) ≡ seen key heard (grant_to found confirmation state)
  grant_to-hidden None confirmation state = exactly (stay state) _ refl
  grant_to-hidden (Some port) confirmation state =
      grant_concluded-hidden (grant_work port.chain confirmation (hide state)) (grant_work port.chain confirmation state) confirmation state
      (grant_work-hidden port.chain confirmation state)

  pub grant-hidden : (confirmation : Confirmation) (state : State)
      → bare (grant confirmation (hide state)) ≡ seen key heard (grant confirmation state)
  grant-hidden confirmation state =
      ap (λ found. bare (grant_to found confirmation (hide state))) (find_port-hidden heard confirmation.asker state.ports)
      ∙ grant_to-hidden (find_port confirmation.asker state.ports) confirmation state

  consent_by-hidden : (what : Consent) (confirmation : Confirmation) (piece : List ℕ) (state : State) → bare (consent_by what confirmation piece (hide state)) ≡ seen key heard (consent_by what confirmation piece state)
  consent_by-hidden NotYet confirmation piece state =
      exactly (stay (with_heard confirmation.job piece state)) _ refl
  consent_by-hidden Yes confirmation piece state = grant-hidden confirmation state
  consent_by-hidden No confirmation piece state =
      exactly (over confirmation state) _ (over-hidden confirmation state)

  pub confirmer_heard-hidden : (confirmation : Confirmation) (piece : List ℕ) (state : State)
      → bare (confirmer_heard confirmation piece (hide state)) ≡ seen key heard (confirmer_heard confirmation piece state)
  confirmer_heard-hidden confirmation piece state = consent_by-hidden (consent confirmation.job (confirmation.heard ++ piece)) confirmation piece state
