-- What a client's port becomes where an event isn't of it, and where time passes: it stays, is told something, or is closed.
use Rattle.std.proofs.Common.{◌≡◌, ◌≢◌, ℕ, List, [], ◌∷◌, ◌++◌, refl, ap, arith, sym, subst, ◌∙◌, Option, Some, None, inl, inr}
use Rattle.std.proofs.lemmas.Bool.{cases_eq}
use Rattle.std.proofs.lemmas.Bool.Decides.{nat_tests}
use Rattle.std.specs.Option.{option_map}
use Rattle.world_ports.specs.declared.Door.TheVariants.{Clients, Children}
use Rattle.world_ports.specs.declared.JobKind.{JobKind}
use Rattle.world_ports.specs.declared.Moment.{Moment}
use Rattle.wire_text.specs.Frames.{front_body}
use Rattle.confirm_desk.specs.Confirmations.{Confirmation, find_job}
use Rattle.dest_rule.specs.declared.binding.Binding.{Binding}
use Rattle.helper_link.specs.Answered.{LeadTo}
use Rattle.helper_link.specs.HelperLink.{askers}
use Rattle.helper_link.specs.Settling.{find_ask, remove_ask}
use Rattle.helper_link.specs.Sound.{RiseTo}
use Rattle.helper_link.specs.Telling.{telling}
use Rattle.helper_link.specs.declared.answer.Answer.{Answer}
use Rattle.helper_link.specs.declared.answer.Answer.TheVariants as answer
use Rattle.helper_link.specs.declared.answer.Settled.{Settled}
use Rattle.helper_link.specs.declared.ask.Ask.{Ask}
use Rattle.helper_link.specs.declared.fault.LinkFault.{LinkFault}
use Rattle.helper_link.specs.declared.state.LinkState.{LinkState}
use Rattle.helper_link.specs.declared.state.LinkState.TheVariants as states
use Rattle.helper_link.proofs.AnswerLemmas.{settling_leads}
use Rattle.helper_link.proofs.OrderLemmas.{remove_rises}
use Rattle.agent_model.specs.Actions.{Outcome, Work}
use Rattle.agent_model.specs.Answers.{Answering, answer_all, answer_by, answer_true, answers_in, close_helper, find_verification, lose, lose_if, prove, tell_each, with_answers}
use Rattle.agent_model.specs.Children.{unheard}
use Rattle.agent_model.specs.Consents.{close_confirmer, grant_work}
use Rattle.agent_model.specs.Events.{Happening, Tick}
use Rattle.agent_model.specs.KeyStates.{KeyState}
use Rattle.agent_model.specs.Sound.{AreTied, IsTied}
use Rattle.agent_model.specs.State.{Nothing, OnAsk, OnConfirmation, Port, State, UnderWay, Verification, change_port, find_port, remove_port}
use Rattle.agent_model.specs.Step.{attempts, take_frame}
use Rattle.agent_model.specs.Time.{time_passes}
use Rattle.agent_model.specs.Verdicts.{Awaits, HelperLost, HelperRefused, NotConfirmed, Refuses, Replies, Signature, SignatureWrong, Success, Verdict, tell, verdict_text, verdict_waits}
use Rattle.agent_model.proofs.FateLemmas.{one_answer, one_lost}
use Rattle.agent_model.proofs.FatedMakeLemmas.{fated-makes, lose-tied, tied-close, tied-taken, tied_mid}
use Rattle.agent_model.proofs.GrantLemmas.{IsGranted, allowed, disallowed, grant-ends, unasked}
use Rattle.agent_model.proofs.JobLemmas.{IsIn, in-found}
use Rattle.agent_model.proofs.LeadLemmas.{follows-makes, leads-answers, leads-tell_each, same}
use Rattle.agent_model.proofs.MakeLemmas.{Change, IsOf, Makes, Quiet, alters, closes, first, goes_on, grants, links, loses, mild_of, Names, names, overs, serves, stays, tells}
use Rattle.agent_model.proofs.PortsLemmas.{find_port-apart, find_port-change_port, find_port-remove_port, find_port-removed_apart}
use Rattle.agent_model.proofs.RunLemmas.{leads-absent}
use Rattle.agent_model.proofs.TiedLemmas.{tied-quiet}
use Rattle.agent_model.proofs.TimeLemmas.{time_passes-brings}

-- the port stays, or waited and is told what came of that, or is closed where that may be
pub data Turns (may : Type 0) (old : Port) : Option Port → Type 0 where
  rests : Turns may old (Some old)
  gets : (new : Port) (verdict : Verdict) → old.waits ≢ Nothing → old.owed ≡ [] → new.door ≡ Clients
      → new.heard ≡ old.heard → new.owed ≡ verdict_text verdict → new.waits ≡ verdict_waits verdict
      → verdict ≢ Awaits Nothing → Turns may old (Some new)
  leaves : may → Turns may old None

-- one turn behind another
turn-behind : {may : Type 0} {old mid : Port} {after : Option Port} (verdict : Verdict) → old.waits ≢ Nothing
    → old.owed ≡ [] → mid.door ≡ Clients → mid.heard ≡ old.heard → mid.owed ≡ verdict_text verdict
    → mid.waits ≡ verdict_waits verdict → verdict ≢ Awaits Nothing → Turns may mid after → Turns may old after
turn-behind {mid = mid} verdict waits owed door heard owes awaits some rests =
    gets mid verdict waits owed door heard owes awaits some
turn-behind verdict waits owed door heard owes awaits some (gets new later more nothing client same_heard text on any) =
    gets new later waits owed client (same_heard ∙ heard) text on any
turn-behind verdict waits owed door heard owes awaits some (leaves is) = leaves is

pub turn-then : {may : Type 0} {old : Port} {mid after : Option Port} → Turns may old mid → old.door ≡ Clients
    → ((port : Port) → mid ≡ Some port → port.door ≡ Clients → Turns may port after)
    → (mid ≡ None → after ≡ None) → Turns may old after
turn-then {old = old} rests client next gone = next old refl client
turn-then (gets new verdict waits owed door heard owes awaits some) client next gone =
    turn-behind verdict waits owed door heard owes awaits some (next new refl door)
turn-then {may = may} {old = old} (leaves is) client next gone = subst (Turns may old) (sym (gone refl)) (leaves is)

-- a request that waits for consent isn't left without an end or something to wait for
pub granted-some : {chain : List Binding} {one : Confirmation} {wall : ℕ} {held : KeyState} {under_way : UnderWay} {work : Work}
    → IsGranted chain one wall held under_way work → work.verdict ≢ Awaits Nothing
granted-some (disallowed never) none = absurd (cc)
granted-some (unasked cause key may fault) none = absurd (cc)
granted-some (allowed key may free) none = absurd (cc)

-- a child process that names itself is at a child process's port
pub named-child : {event : Happening} {kind : JobKind} {job at : ℕ} {old : State} (other : Port) (new : Names event kind job at old)
    → find_port at old.ports ≡ Some other → other.door ≡ Children
named-child other new found =
    let it : Some other ≡ Some new.port = sym found ∙ new.found in
    let equal : new.port ≡ other = cc in
    ap (λ (p : Port). p.door) (sym equal) ∙ new.door

module _ (number : ℕ) (may : Type 0) where
  -- the port is open among these, for a client
  abbrev Here : List Port → Port → Type 0
  Here ports port = (find_port number ports ≡ Some port) × (port.door ≡ Clients)

  abbrev Turned : Port → List Port → Type 0
  Turned port ports = Turns may port (find_port number ports)

  -- ---- one change

  unturned : (ports : List Port) (port : Port) → find_port number ports ≡ Some port → Turned port ports
  unturned ports port found = subst (Turns may port) (sym found) rests

  turn-apart : (at : ℕ) (f : Port → Port) (ports : List Port) (port : Port) → ((p : Port) → (f p).number ≡ p.number)
      → number ≢ at → find_port number ports ≡ Some port → Turned port (change_port at f ports)
  turn-apart at f ports port keeps other found =
      unturned (change_port at f ports) port (find_port-apart number at f ports keeps other ∙ found)

  turn-removed : (at : ℕ) (ports : List Port) (port : Port) → number ≢ at → find_port number ports ≡ Some port
      → Turned port (remove_port at ports)
  turn-removed at ports port other found =
      unturned (remove_port at ports) port (find_port-removed_apart number at ports other ∙ found)

  -- who waits is told
  turn-told : (at : ℕ) (f : Port → Port) (verdict : Verdict) (ports : List Port) (port : Port)
      → ((p : Port) → (f p).number ≡ p.number) → ((p : Port) → (f p).door ≡ p.door) → ((p : Port) → (f p).heard ≡ p.heard)
      → ((p : Port) → (f p).owed ≡ p.owed ++ verdict_text verdict) → ((p : Port) → (f p).waits ≡ verdict_waits verdict)
      → verdict ≢ Awaits Nothing → Here ports port
      → (number ≡ at → (port.waits ≢ Nothing) × (port.owed ≡ [])) → Turned port (change_port at f ports)
  turn-told at f verdict ports port keeps doors hears owes awaits some here waiting = elim (cases_eq number at) [
    | inl equal ↦ subst (λ n. Turned port (change_port n f ports)) equal
        (subst (Turns may port) (sym (find_port-change_port number f ports keeps ∙ ap (option_map f) here.0))
        (gets (f port) verdict (waiting equal).0 (waiting equal).1 (doors port ∙ here.1) (hears port)
        (owes port ∙ ap (λ bytes. bytes ++ verdict_text verdict) (waiting equal).1) (awaits port) some))
    | inr other ↦ turn-apart at f ports port keeps other here.0
  ]

  turn-tell : (at : ℕ) (verdict : Verdict) (ports : List Port) (port : Port) → verdict ≢ Awaits Nothing → Here ports port
      → (number ≡ at → (port.waits ≢ Nothing) × (port.owed ≡ [])) → Turned port (change_port at (tell verdict) ports)
  turn-tell at verdict ports port some here waiting =
      turn-told at (tell verdict) verdict ports port (λ p. refl) (λ p. refl) (λ p. refl) (λ p. refl) (λ p. refl) some here waiting

  -- ---- the helper's answers

  -- who an unanswered ask is for waits for it
  asker-waits : (ask : ℕ) (one : Ask) (ports : List Port) (asks : List Ask) (port : Port) → AreTied ports asks
      → find_ask ask asks ≡ Some one → find_port number ports ≡ Some port → number ≡ one.asker
      → (port.waits ≢ Nothing) × (port.owed ≡ [])
  asker-waits ask one ports asks port tied there found equal =
      let waits : port.waits ≡ OnAsk ask = tied.asks ask one port there (ap (λ n. find_port n ports) (sym equal) ∙ found) in (
        λ nothing. let no : OnAsk ask ≡ Nothing = sym waits ∙ nothing in absurd (cc),
        (tied.waits number ask port found waits).owed,
      )

  turn-true : (found : Option Verification) (one : Settled) (before : Answering) (port : Port) → Here before.ports port
      → (number ≡ one.asker → (port.waits ≢ Nothing) × (port.owed ≡ []))
      → Turned port (answer_true found one before).ports
  turn-true None one before port here waiting =
      turn-tell one.asker (Refuses SignatureWrong) before.ports port (λ none. absurd (cc)) here waiting
  turn-true (Some verification) one before port here waiting =
      turn-told one.asker (prove verification) (Replies Success) before.ports port (λ p. refl) (λ p. refl) (λ p. refl) (λ p. refl) (λ p. refl) (λ none. absurd (cc)) here waiting

  turn-answer : (what : Answer) (one : Settled) (before : Answering) (port : Port) → Here before.ports port
      → (number ≡ one.asker → (port.waits ≢ Nothing) × (port.owed ≡ []))
      → Turned port (answer_by what one before).ports
  turn-answer (answer.Signed signature) one before port here waiting =
      turn-tell one.asker (Replies (Signature signature)) before.ports port (λ none. absurd (cc)) here waiting
  turn-answer answer.Refused one before port here waiting =
      turn-tell one.asker (Refuses HelperRefused) before.ports port (λ none. absurd (cc)) here waiting
  turn-answer answer.True one before port here waiting =
      turn-true (find_verification one.ask before.verifications) one before port here waiting
  turn-answer answer.False one before port here waiting =
      turn-tell one.asker (Refuses SignatureWrong) before.ports port (λ none. absurd (cc)) here waiting

  turn-answers : (low last : ℕ) (settled : List Settled) (before : Answering) (asks left : List Ask) (port : Port)
      → LeadTo settled asks left → RiseTo low asks last → AreTied before.ports asks → Here before.ports port
      → Turned port (answer_all settled before).ports
  turn-answers low last [] before asks left port leads rise tied here = unturned before.ports port here.0
  turn-answers low last (one ∷ later) before asks left port leads rise tied here =
      let next : Answering = answer_by one.answer one before in
      turn-then
      (turn-answer one.answer one before port here (λ equal. asker-waits one.ask _ before.ports asks port tied leads.0.found here.0 equal))
      here.1
      (λ now is client. turn-answers low last later next (remove_ask one.ask asks) left now leads.1 (remove_rises one.ask low asks last rise) (one_answer low last one before asks leads.0 rise tied) (is, client))
      (λ gone. leads-absent number next.ports (leads-answers next.ports later next same) gone)

  -- ---- the loss of the helper

  turn-tell_each : (low last : ℕ) (asks : List Ask) (ports : List Port) (port : Port) → RiseTo low asks last
      → AreTied ports asks → Here ports port → Turned port (tell_each (Refuses HelperLost) (askers asks) ports)
  turn-tell_each low last [] ports port rise tied here = unturned ports port here.0
  turn-tell_each low last (one ∷ asks) ports port rise tied here =
      let there : find_ask one.number (one ∷ asks) ≡ Some one = grind (arith, nat_tests) in
      let next : List Port = change_port one.asker (tell (Refuses HelperLost)) ports in
      turn-then
      (turn-tell one.asker (Refuses HelperLost) ports port (λ none. absurd (cc)) here (λ equal. asker-waits one.number one ports (one ∷ asks) port tied there here.0 equal))
      here.1
      (λ now is client. turn-tell_each one.number last asks next now rise.1 (one_lost low last one asks ports rise tied) (is, client))
      (λ gone. leads-absent number next (leads-tell_each next (Refuses HelperLost) (askers asks) next same) gone)

  -- a child process's port isn't the client's
  pub not_at : (at : ℕ) (ports : List Port) (port : Port) → Here ports port
      → ((other : Port) → find_port at ports ≡ Some other → other.door ≡ Children) → number ≢ at
  not_at at ports port here child equal =
      let is : port.door ≡ Children = child port (ap (λ n. find_port n ports) (sym equal) ∙ here.0) in
      let no : Clients ≡ Children = sym here.1 ∙ is in
      absurd (cc)

  here-close : (state : State) (tied : IsTied state) (port : Port) → Here state.ports port → (link : LinkState)
      → state.under_way.link.state ≡ link → find_port number (close_helper link state.ports) ≡ Some port
  here-close state tied port here states.None is = here.0
  here-close state tied port here (states.Starting job) is = here.0
  here-close state tied port here (states.Linked at) is =
      find_port-removed_apart number at state.ports (not_at at state.ports port here (λ other found. tied.helper at other is found))
      ∙ here.0

  pub turn-lose : (state : State) (port : Port) → IsTied state → Here state.ports port
      → Turned port (lose state).state.ports
  turn-lose state port tied here =
      turn-tell_each 0 state.under_way.link.last state.under_way.link.asks _ port tied.order (tied-close state tied state.under_way.link.state)
      (here-close state tied port here state.under_way.link.state refl, here.1)

  turn-fault : (fault : Option LinkFault) (state : State) (port : Port) → IsTied state → Here state.ports port
      → Turned port (lose_if fault state).state.ports
  turn-fault None state port tied here = unturned state.ports port here.0
  turn-fault (Some fault) state port tied here = turn-lose state port tied here

  gone-fault : (fault : Option LinkFault) (state : State) → find_port number state.ports ≡ None
      → find_port number (lose_if fault state).state.ports ≡ None
  gone-fault None state gone = gone
  gone-fault (Some fault) state gone =
      leads-absent number state.ports (follows-makes Tick state (loses state) record { last = refl; ports = same }).ports gone

  pub turn-tells : (piece : List ℕ) (state : State) (port : Port) → IsTied state → Here state.ports port
      → Turned port (lose_if (telling piece state.under_way.link).fault (with_answers (telling piece state.under_way.link).link (answers_in (telling piece state.under_way.link).settled state) state)).state.ports
  turn-tells piece state port tied here =
      let said = telling piece state.under_way.link in
      let mid : State = with_answers said.link (answers_in said.settled state) state in
      turn-then
      (turn-answers 0 state.under_way.link.last said.settled _ state.under_way.link.asks said.link.asks port (settling_leads (state.under_way.link.heard ++ piece) state.under_way.link.asks) tied.order tied.tied here)
      here.1
      (λ now is client. turn-fault said.fault mid now (tied_mid piece state tied) (is, client))
      (λ gone. gone-fault said.fault mid gone)

  -- ---- a confirmation ends

  here-confirmer : (at : Option ℕ) (ports : List Port) (port : Port) → Here ports port
      → ((n : ℕ) (other : Port) → at ≡ Some n → find_port n ports ≡ Some other → other.door ≡ Children)
      → find_port number (close_confirmer at ports) ≡ Some port
  here-confirmer None ports port here child = here.0
  here-confirmer (Some at) ports port here child =
      find_port-removed_apart number at ports (not_at at ports port here (λ other found. child at other refl found)) ∙ here.0

  pub turn-over : (one : Confirmation) (verdict : Verdict) (state : State) (port : Port)
      → IsIn one state.under_way.confirmations → IsTied state → verdict ≢ Awaits Nothing → Here state.ports port
      → Turned port (change_port one.asker (tell verdict) (close_confirmer one.port state.ports))
  turn-over one verdict state port is_in tied some here =
      turn-tell one.asker verdict (close_confirmer one.port state.ports) port some
      (here-confirmer one.port state.ports port here (λ n other at found. tied.raised.confirmers one.job n one other there at found), here.1)
      (λ equal.
      let waits : port.waits ≡ OnConfirmation one.job = tied.raised.asking.asks one.job one port there (ap (λ n. find_port n state.ports) (sym equal) ∙ here.0) in (
        λ nothing. let no : OnConfirmation one.job ≡ Nothing = sym waits ∙ nothing in absurd (cc),
        (tied.raised.asking.waits number one.job port here.0 waits).owed,
      ))
    where
      there : find_job one.job state.under_way.confirmations ≡ Some one
      there = in-found one 0 state.under_way.last_job tied.raised.order is_in

  -- ---- what an event makes

  module _ (event : Happening) (foreign : IsOf event number → ⊥) (is : may) where
    turn-quiet : {old new : State} (port : Port) → Quiet event old new → IsTied old → Here old.ports port
        → Turned port new.ports
    turn-quiet {old = old} port (alters at f change) tied here =
        turn-apart at f old.ports port (mild_of change).number (λ equal. foreign (f, subst (λ n. Change event n f) (sym equal) change)) here.0
    turn-quiet {old = old} port (closes at why) tied here = elim (cases_eq number at) [
      | inl equal ↦ subst (Turns may port) (sym (ap (λ n. find_port n (remove_port at old.ports)) equal
          ∙ find_port-remove_port at 0 old.last_port old.ports tied.rising)) (leaves is)
      | inr other ↦ turn-removed at old.ports port other here.0
    ]
    turn-quiet port (goes_on new goes) tied here = unturned _ port here.0
    turn-quiet {old = old} port (names job at new) tied here =
        turn-apart at unheard old.ports port (λ p. refl) (not_at at old.ports port here (λ other found. named-child other new found)) here.0
    turn-quiet {old = old} port (links job at new) tied here =
        turn-apart at unheard old.ports port (λ p. refl) (not_at at old.ports port here (λ other found. named-child other new found)) here.0

    gone-makes : {old : State} {outcome : Outcome} → Makes event old outcome → find_port number old.ports ≡ None
        → find_port number outcome.state.ports ≡ None
    gone-makes {old = old} makes gone =
        leads-absent number old.ports (follows-makes event old makes record { last = refl; ports = same }).ports gone

    turn-served : (verdict : Verdict) (take : Port → Port) (at : ℕ) (ports : List Port) (port : Port) → number ≢ at
        → ((p : Port) → (take p).number ≡ p.number) → find_port number ports ≡ Some port
        → Turned port (change_port at (tell verdict) (change_port at take ports))
    turn-served verdict take at ports port other keeps found =
        turn-apart at (tell verdict) (change_port at take ports) port (λ p. refl) other
        (find_port-apart number at take ports keeps other ∙ found)

    pub turn-makes : {old : State} {outcome : Outcome} (port : Port) → Makes event old outcome → IsTied old
        → Here old.ports port → Turned port outcome.state.ports
    turn-makes port (stays state) tied here = unturned state.ports port here.0
    turn-makes port (first {mid = mid} quiet rest) tied here =
        turn-then (turn-quiet port quiet tied here) here.1
        (λ now there client. turn-makes now rest (tied-quiet quiet tied) (there, client))
        (λ gone. gone-makes rest gone)
    turn-makes port (serves body_len served state found door nothing owed own) tied here =
        turn-served _ (take_frame body_len (attempts state.held.lock (front_body body_len served.heard))) served.number state.ports port (λ equal. foreign (subst (IsOf event) (sym equal) own)) (λ p. refl) here.0
    turn-makes port (tells piece state) tied here = turn-tells piece state port tied here
    turn-makes port (loses state) tied here = turn-lose state port tied here
    turn-makes port (overs one state there) tied here =
        turn-over one (Refuses NotConfirmed) state port there tied (λ none. absurd (cc)) here
    turn-makes port (grants one asker state there found) tied here =
        turn-over one (grant_work asker.chain one state).verdict state port there tied
        (granted-some (grant-ends asker.chain one state)) here

-- ---- a moment

module _ (number : ℕ) where
  -- what a moment brings to a client
  pub record Passes (old : State) (outcome : Outcome) : Type 0 where
    pub tied : IsTied outcome.state
    pub turns : (port : Port) → find_port number old.ports ≡ Some port → port.door ≡ Clients
        → Turns ⊥ port (find_port number outcome.state.ports)
    pub gone : find_port number old.ports ≡ None → find_port number outcome.state.ports ≡ None

  pub time-turns : (moment : Moment) (state : State) → IsTied state → Passes state (time_passes moment state)
  time-turns moment state tied =
      let all = time_passes-brings (λ s outcome. IsTied s → Passes s outcome) moment state
      (λ s before. record { tied = before; turns = λ port found client. unturned number ⊥ s.ports port found; gone = λ gone. gone })
      (λ s before. record { tied = lose-tied s before; turns = λ port found client. turn-lose number ⊥ s port before (found, client); gone = λ gone. gone-at (loses s) gone })
      (λ one s there before. record { tied = (fated-makes {event = Tick} (overs one s there) before).tied; turns = λ port found client. turn-over number ⊥ one (Refuses NotConfirmed) s port there before (λ none. absurd (cc)) (found, client); gone = λ gone. gone-at (overs one s there) gone })
      (λ s one later first rest before.
      let a = first before in
      let b = rest a.tied in
      record { tied = b.tied; turns = λ port found client. turn-then (a.turns port found client) client (λ now there door. b.turns now there door) b.gone; gone = λ gone. b.gone (a.gone gone) })
      in
      let end = all (tied-taken moment state tied) in
      record { tied = end.tied; turns = end.turns; gone = end.gone }
    where
      gone-at : {old : State} {outcome : Outcome} → Makes Tick old outcome → find_port number old.ports ≡ None
          → find_port number outcome.state.ports ≡ None
      gone-at {old = old} makes gone =
          leads-absent number old.ports (follows-makes Tick old makes record { last = refl; ports = same }).ports gone
