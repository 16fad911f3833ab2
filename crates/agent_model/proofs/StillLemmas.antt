-- Who was told something, and has it yet, is told nothing more and isn't closed, whatever others do.
use Rattle.std.proofs.Common.{◌≡◌, ◌≢◌, ℕ, List, [], ◌∷◌, ◌++◌, drop, refl, ap, arith, sym, subst, ◌∙◌, Option, Some, None, Bool, true, false, inl, inr}
use Rattle.std.proofs.lemmas.Bool.{cases_eq}
use Rattle.std.proofs.lemmas.Bool.Decides.{nat_tests}
use Rattle.std.proofs.lemmas.List.{append-nil, drop_all}
use Rattle.wire_text.specs.Wire.{string}
use Rattle.wire_text.proofs.WireLemmas.{drop-string}
use Rattle.world_ports.specs.declared.Door.{Door}
use Rattle.world_ports.specs.declared.Door.TheVariants.{Clients, Children}
use Rattle.helper_link.specs.Answered.{LeadTo}
use Rattle.helper_link.specs.HelperLink.{askers}
use Rattle.helper_link.specs.Settling.{find_ask, remove_ask}
use Rattle.helper_link.specs.Sound.{RiseTo}
use Rattle.helper_link.specs.Telling.{telling}
use Rattle.helper_link.specs.declared.answer.Answer.{Answer}
use Rattle.helper_link.specs.declared.answer.Answer.TheVariants as answer
use Rattle.helper_link.specs.declared.answer.Settled.{Settled}
use Rattle.helper_link.specs.declared.ask.Ask.{Ask}
use Rattle.helper_link.specs.declared.fault.LinkFault.{LinkFault}
use Rattle.helper_link.proofs.AnswerLemmas.{settling_leads}
use Rattle.helper_link.proofs.OrderLemmas.{remove_rises}
use Rattle.confirm_desk.specs.Confirmations.{Confirmation, find_job}
use Rattle.agent_model.specs.Actions.{Outcome}
use Rattle.agent_model.specs.Answers.{Answering, answer_all, answer_by, answers_in, lose, lose_if, tell_each, with_answers}
use Rattle.agent_model.specs.Children.{unheard}
use Rattle.agent_model.specs.Consents.{close_confirmer, grant_work}
use Rattle.agent_model.specs.Events.{Ended, Happening, Took}
use Rattle.agent_model.specs.Fates.{IsTold, answer_verdict}
use Rattle.agent_model.specs.Sound.{AreTied, IsTied}
use Rattle.agent_model.specs.State.{Nothing, OnAsk, OnConfirmation, Port, State, change_port, find_port}
use Rattle.agent_model.specs.Step.{admitted, handle, has_room}
use Rattle.agent_model.specs.Verdicts.{Cause, HelperLost, NotConfirmed, Refuses, Verdict, tell, verdict_text, verdict_waits}
use Rattle.agent_model.proofs.FateLemmas.{answers_as, one_answer, one_lost, told-apart, told-here}
use Rattle.agent_model.proofs.FatedMakeLemmas.{found_still, tied-close, tied_mid}
use Rattle.agent_model.proofs.JobLemmas.{IsIn, in-found}
use Rattle.agent_model.proofs.MakeLemmas.{Change, Makes, MayClose, Quiet, alters, by_event, child, closes, ended, first, goes_on, grants, hears, idle, links, loses, mild_of, names, overs, serves, stays, takes, tells}
use Rattle.agent_model.proofs.TiedLemmas.{tied-quiet}
use Rattle.agent_model.proofs.TieLemmas.{not_asker}
use Rattle.agent_model.proofs.WaitLemmas.{told-close_confirmer, told-close_helper, told-removed}

-- ---- who waits for no ask is told nothing by the helper

module _ (number : ℕ) (verdict : Verdict) (unasked : (ask : ℕ) → verdict_waits verdict ≢ OnAsk ask) where
  pub still-answers : (low last : ℕ) (settled : List Settled) (before : Answering) (asks left : List Ask)
      → LeadTo settled asks left → RiseTo low asks last → AreTied before.ports asks
      → IsTold number verdict before.ports → IsTold number verdict (answer_all settled before).ports
  still-answers low last [] before asks left leads rise tied told = told
  still-answers low last (one ∷ later) before asks left leads rise tied told =
      let told_as = answers_as one.answer one before in
      let other : number ≢ one.asker = not_asker before.ports asks tied number one.ask _ verdict leads.0.found told (unasked one.ask) in
      still-answers low last later (answer_by one.answer one before) (remove_ask one.ask asks) left leads.1 (remove_rises one.ask low asks last rise) (one_answer low last one before asks leads.0 rise tied)
      (subst (IsTold number verdict) (sym told_as.ports) (told-apart number one.asker verdict told_as.change before.ports told_as.number other told))

  still-tell_each : (low last : ℕ) (asks : List Ask) (ports : List Port) → RiseTo low asks last
      → AreTied ports asks → IsTold number verdict ports
      → IsTold number verdict (tell_each (Refuses HelperLost) (askers asks) ports)
  still-tell_each low last [] ports rise tied told = told
  still-tell_each low last (one ∷ asks) ports rise tied told =
      let here : find_ask one.number (one ∷ asks) ≡ Some one = grind (arith, nat_tests) in
      still-tell_each one.number last asks _ rise.1 (one_lost low last one asks ports rise tied)
      (told-apart number one.asker verdict (tell (Refuses HelperLost)) ports (λ p. refl)
      (not_asker ports (one ∷ asks) tied number one.number one verdict here told (unasked one.number)) told)

  pub still-lost : (state : State) → IsTied state → IsTold number verdict state.ports
      → IsTold number verdict (lose state).state.ports
  still-lost state tied told =
      still-tell_each 0 state.under_way.link.last state.under_way.link.asks _ tied.order (tied-close state tied state.under_way.link.state)
      (told-close_helper number _ state.under_way.link.state state.ports (λ at port is there. tied.helper at port is there) told)

  pub still-fault : (fault : Option LinkFault) (state : State) → IsTied state
      → IsTold number verdict state.ports → IsTold number verdict (lose_if fault state).state.ports
  still-fault None state tied told = told
  still-fault (Some fault) state tied told = still-lost state tied told

  pub still-tells : (piece : List ℕ) (state : State) → IsTied state
      → IsTold number verdict state.ports
      → IsTold number verdict (lose_if (telling piece state.under_way.link).fault (with_answers (telling piece state.under_way.link).link (answers_in (telling piece state.under_way.link).settled state) state)).state.ports
  still-tells piece state tied told =
      let said = telling piece state.under_way.link in
      let before : Answering = record { ports = state.ports; verifications = state.under_way.verifications; actions = [] } in
      let mid : State = with_answers said.link (answers_in said.settled state) state in
      still-fault said.fault mid (tied_mid piece state tied)
      (still-answers 0 state.under_way.link.last said.settled before state.under_way.link.asks said.link.asks (settling_leads (state.under_way.link.heard ++ piece) state.under_way.link.asks) tied.order tied.tied told)

-- ---- who waits for nothing is told nothing as another's confirmation ends

module _ (number : ℕ) (verdict : Verdict) (nothing : verdict_waits verdict ≡ Nothing) where
  pub still-over : (confirmation : Confirmation) (state : State) (new : Verdict)
      → IsIn confirmation state.under_way.confirmations → IsTied state
      → IsTold number verdict state.ports
      → IsTold number verdict (change_port confirmation.asker (tell new) (close_confirmer confirmation.port state.ports))
  still-over confirmation state new there tied told =
      told-apart number confirmation.asker verdict (tell new) _ (λ p. refl) other
      (told-close_confirmer number verdict confirmation.port state.ports (λ n port is. tied.raised.confirmers confirmation.job n confirmation port found_there is) told)
    where
      found_there : find_job confirmation.job state.under_way.confirmations ≡ Some confirmation
      found_there = in-found confirmation 0 state.under_way.last_job tied.raised.order there

      other : number ≢ confirmation.asker
      other same =
          let waits : told.port.waits ≡ OnConfirmation confirmation.job = tied.raised.asking.asks confirmation.job confirmation told.port found_there (ap (λ n. find_port n state.ports) (sym same) ∙ told.found) in
          let no : Nothing ≡ OnConfirmation confirmation.job = sym nothing ∙ sym told.waits ∙ waits in
          absurd (cc)

-- ---- who has something and waits for nothing

-- it has been told this
pub record HasHeard (verdict : Verdict) : Type 0 where
  pub waits : verdict_waits verdict ≡ Nothing
  pub some : verdict_text verdict ≢ []

module _ (number : ℕ) (verdict : Verdict) (heard : HasHeard verdict) where
  unasked : (ask : ℕ) → verdict_waits verdict ≢ OnAsk ask
  unasked ask is = let no : Nothing ≡ OnAsk ask = sym heard.waits ∙ is in absurd (cc)

  -- its port is found where it is
  its_port : (at : ℕ) (ports : List Port) (port : Port) (told : IsTold number verdict ports)
      → number ≡ at → find_port at ports ≡ Some port → told.port ≡ port
  its_port at ports port told equal found =
      let is : Some told.port ≡ Some port = sym told.found ∙ ap (λ n. find_port n ports) equal ∙ found in cc

  -- who is owed nothing is another one
  owes_other : (at : ℕ) (ports : List Port) (port : Port) → IsTold number verdict ports
      → find_port at ports ≡ Some port → port.owed ≡ [] → number ≢ at
  owes_other at ports port told found none equal =
      heard.some (sym told.owed ∙ ap (λ (p : Port). p.owed) (its_port at ports port told equal found) ∙ none)

  -- what it has stays
  still-kept : (at : ℕ) (f : Port → Port) (ports : List Port)
      → ((p : Port) → (f p).number ≡ p.number) → ((p : Port) → (f p).door ≡ p.door)
      → ((p : Port) → (f p).waits ≡ p.waits) → ((number ≡ at) → (p : Port) → (f p).owed ≡ p.owed)
      → IsTold number verdict ports → IsTold number verdict (change_port at f ports)
  still-kept at f ports numbers doors waits owes told = elim (cases_eq number at) [
    | inl same ↦ subst (λ n. IsTold number verdict (change_port n f ports)) same
        (told-here number verdict verdict f ports numbers doors (λ p is. owes same p ∙ is) (λ p is. waits p ∙ is) told)
    | inr other ↦ told-apart number at verdict f ports numbers other told
  ]

  still-quiet : {event : Happening} {old new : State} → Quiet event old new → event ≢ Ended number
      → ((count : ℕ) → event ≢ Took number count) → IsTold number verdict old.ports
      → IsTold number verdict new.ports
  still-quiet {event = event} {old = old} (alters at f change) open_yet untaken told =
      still-kept at f old.ports (mild_of change).number (mild_of change).door (mild_of change).waits (owes change) told
    where
      owes : {g : Port → Port} → Change event at g → number ≡ at → (p : Port) → (g p).owed ≡ p.owed
      owes (hears piece is) same p = refl
      owes (takes count is) same p = absurd (untaken count (is ∙ ap (λ n. Took n count) (sym same)))
  still-quiet {event = event} {old = old} (closes at may) open_yet untaken told =
      told-removed number verdict at old.ports (other may) told
    where
      other : MayClose event at old.ports old.under_way.confirmations → number ≢ at
      other (idle port found nothing none client) equal =
          owes_other at old.ports port told found none equal
      other (child port found door free) equal =
          let doors : Clients ≡ Children = sym told.door ∙ ap (λ (p : Port). p.door) (its_port at old.ports port told equal found) ∙ door in
          absurd (cc)
      other (ended is) equal = open_yet (is ∙ ap Ended (sym equal))
  still-quiet (goes_on new goes) open_yet untaken told = told
  still-quiet {old = old} (names job at new) open_yet untaken told =
      still-kept at unheard old.ports (λ p. refl) (λ p. refl) (λ p. refl) (λ same p. refl) told
  still-quiet {old = old} (links job at new) open_yet untaken told =
      still-kept at unheard old.ports (λ p. refl) (λ p. refl) (λ p. refl) (λ same p. refl) told

  pub still-makes : {event : Happening} {old : State} {outcome : Outcome} → Makes event old outcome
      → event ≢ Ended number → ((count : ℕ) → event ≢ Took number count) → IsTied old
      → IsTold number verdict old.ports → IsTold number verdict outcome.state.ports
  still-makes (stays state) open_yet untaken tied told = told
  still-makes (first quiet rest) open_yet untaken tied told =
      still-makes rest open_yet untaken (tied-quiet quiet tied) (still-quiet quiet open_yet untaken told)
  still-makes (serves body_len port state found door nothing owed own) open_yet untaken tied told =
      let other = owes_other port.number state.ports port told found owed in
      told-apart number port.number verdict _ _ (λ p. refl) other (told-apart number port.number verdict _ state.ports (λ p. refl) other told)
  still-makes (tells piece state) open_yet untaken tied told =
      still-tells number verdict unasked piece state tied told
  still-makes (loses state) open_yet untaken tied told =
      still-lost number verdict unasked state tied told
  still-makes (overs confirmation state there) open_yet untaken tied told =
      still-over number verdict heard.waits confirmation state (Refuses NotConfirmed) there tied told
  still-makes (grants confirmation port state there opened) open_yet untaken tied told =
      still-over number verdict heard.waits confirmation state (grant_work port.chain confirmation state).verdict there tied told

  still-admitted : (room : Bool) (at : ℕ) (door : Door) (ports : List Port)
      → IsTold number verdict ports → IsTold number verdict (admitted room at door ports)
  still-admitted false at door ports told = told
  still-admitted true at door ports told =
      record { port = told.port; found = found_still number told.port ports _ told.found; door = told.door; owed = told.owed; waits = told.waits }

  -- unless its port ended, or took some of what it has, it has it yet
  pub still-handle : (event : Happening) (state : State) → event ≢ Ended number
      → ((count : ℕ) → event ≢ Took number count) → IsTied state → IsTold number verdict state.ports
      → IsTold number verdict (handle event state).state.ports
  still-handle event state open_yet untaken tied told =
      by_event (λ outcome. IsTold number verdict outcome.state.ports) event state
      (λ door. still-admitted (has_room door state.ports state.under_way) _ door state.ports told)
      (λ outcome makes. still-makes makes open_yet untaken tied told)

-- ---- what becomes of an ask

-- a frame has bytes
some_bytes : (byte : ℕ) (text : List ℕ) → string (byte ∷ text) ≢ []
some_bytes byte text is =
    let behind : drop 4 (string (byte ∷ text)) ≡ byte ∷ text =
    ap (drop 4) (sym (append-nil (string (byte ∷ text)))) ∙ drop-string (byte ∷ text) [] ∙ append-nil (byte ∷ text) in
    let no : [] ≡ byte ∷ text = sym (drop_all 4 [] (omega arith)) ∙ ap (drop 4) (sym is) ∙ behind in
    absurd (cc)

-- whoever was told what became of its ask has something, and waits for nothing
pub heard-answer : (what : Answer) → HasHeard (answer_verdict what)
heard-answer (answer.Signed signature) =
    record { waits = refl; some = some_bytes 14 (string signature) }
heard-answer answer.Refused = record { waits = refl; some = some_bytes 5 [] }
heard-answer answer.True = record { waits = refl; some = some_bytes 6 [] }
heard-answer answer.False = record { waits = refl; some = some_bytes 5 [] }

pub heard-refused : (cause : Cause) → HasHeard (Refuses cause)
heard-refused cause = record { waits = refl; some = some_bytes 5 [] }
