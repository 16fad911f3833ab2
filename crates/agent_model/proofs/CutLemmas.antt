-- Where the helper's bytes are cut does not matter.
use Rattle.std.proofs.Common.{◌≡◌, ◌==◌, ℕ, List, [], ◌∷◌, ◌++◌, arith, refl, ap, sym, ◌∙◌, Option, Some, None, true, inl, inr}
use Rattle.std.specs.Option.{option_map}
use Rattle.std.proofs.lemmas.Bool.{cases_eq}
use Rattle.std.proofs.lemmas.Bool.Decides.{nat_tests}
use Rattle.std.proofs.lemmas.List.{append-nil, append_assoc}
use Rattle.world_ports.specs.declared.Door.TheVariants.{Children}
use Rattle.world_ports.specs.declared.Moment.{Moment}
use Rattle.helper_link.specs.Telling.{Telling, settled_before, telling, unless_faulty}
use Rattle.helper_link.specs.declared.answer.Answer.{Answer}
use Rattle.helper_link.specs.declared.answer.Answer.TheVariants as answer
use Rattle.helper_link.specs.declared.answer.Settled.{Settled}
use Rattle.helper_link.specs.declared.fault.LinkFault.{LinkFault}
use Rattle.helper_link.specs.declared.state.LinkState.TheVariants as states
use Rattle.helper_link.proofs.CutLemmas.{told_in_turn-joined}
use Rattle.agent_model.specs.Actions.{Action, Outcome, acted, and_then}
use Rattle.agent_model.specs.Answers.{Answering, answer_all, answer_by, answer_true, answers_in, find_verification, helper_tells, lose_if, with_answers}
use Rattle.agent_model.specs.Events.{Heard}
use Rattle.helper_link.specs.HelperLink.{HelperLink}
use Rattle.agent_model.specs.Fates.{Unanswered, fate_of, fault_fate, or_later, settled_fate}
use Rattle.agent_model.specs.Sound.{IsRising, IsSound}
use Rattle.agent_model.specs.State.{Port, State, Verification, change_port, find_port, is_linked_to, role_by_helper, role_of}
use Rattle.agent_model.specs.Step.{handle, heard_at, heard_by_role, step}
use Rattle.agent_model.specs.Time.{GiveTime, at_moment, taken_in, time_passes}
use Rattle.agent_model.proofs.FateLemmas.{AnswersAs, answers_as, fate-append, settled-fates, told_verdict}
use Rattle.agent_model.proofs.LeadLemmas.{leads-answers, same}
use Rattle.agent_model.specs.Pieces.{Agree}
use Rattle.agent_model.proofs.PiecesLemmas.{agree-over, agree-stepped, heard_next}
use Rattle.agent_model.proofs.PortsLemmas.{find_port-apart, find_port-change_port, found_number}
use Rattle.agent_model.proofs.OnTimeLemmas.{taken_in-at_moment}
use Rattle.agent_model.proofs.RunLemmas.{leads-rising, lost-closed}
use Rattle.agent_model.proofs.TimeLemmas.{time_passes-brings}

-- ---- answers

-- an answering behind actions that were done before
abbrev after_actions : List Action → Answering → Answering
after_actions earlier answering = record answering { actions = earlier ++ answering.actions }

asker-behind : (earlier actions : List Action) (one : List Action) (answering : Answering)
    → after_actions earlier (record answering { actions = actions ++ one }) ≡ record answering { actions = (earlier ++ actions) ++ one }
asker-behind earlier actions one answering = ap (λ all. let a : Answering = record answering { actions = all } in a) (sym (append_assoc earlier actions one))

true-behind : (found : Option Verification) (one : Settled) (earlier : List Action) (before : Answering) → answer_true found one (after_actions earlier before) ≡ after_actions earlier (answer_true found one before)
true-behind None one earlier before =
    sym (asker-behind earlier before.actions _ (answer_true None one before))
true-behind (Some verification) one earlier before =
    sym (asker-behind earlier before.actions _ (answer_true (Some verification) one before))

answer-behind : (what : Answer) (one : Settled) (earlier : List Action) (before : Answering)
    → answer_by what one (after_actions earlier before) ≡ after_actions earlier (answer_by what one before)
answer-behind (answer.Signed signature) one earlier before =
    sym (asker-behind earlier before.actions _ (answer_by (answer.Signed signature) one before))
answer-behind answer.Refused one earlier before =
    sym (asker-behind earlier before.actions _ (answer_by answer.Refused one before))
answer-behind answer.True one earlier before =
    true-behind (find_verification one.ask before.verifications) one earlier before
answer-behind answer.False one earlier before =
    sym (asker-behind earlier before.actions _ (answer_by answer.False one before))

all-behind : (settled : List Settled) (earlier : List Action) (before : Answering)
    → answer_all settled (after_actions earlier before) ≡ after_actions earlier (answer_all settled before)
all-behind [] earlier before = refl
all-behind (one ∷ later) earlier before =
    ap (answer_all later) (answer-behind one.answer one earlier before) ∙ all-behind later earlier (answer_by one.answer one before)

all-append : (some more : List Settled) (before : Answering)
    → answer_all (some ++ more) before ≡ answer_all more (answer_all some before)
all-append [] more before = refl
all-append (one ∷ some) more before = all-append some more (answer_by one.answer one before)

-- what is answered at once is what is answered in turn
abbrev fresh : State → Answering
fresh state =
    record { ports = state.ports; verifications = state.under_way.verifications; actions = [] }

in_turn : (some more : List Settled) (state : State) → answers_in (some ++ more) state ≡
    (let first : Answering = answers_in some state in
    after_actions first.actions (answer_all more (record first { actions = [] })))
in_turn some more state =
    let first : Answering = answers_in some state in
    all-append some more (fresh state)
    ∙ ap (λ actions. answer_all more (record first { actions = actions })) (sym (append-nil first.actions))
    ∙ all-behind more first.actions (record first { actions = [] })

-- an open port stays open, with its door
stays_open : (number : ℕ) (settled : List Settled) (before : Answering) (port : Port)
    → find_port number before.ports ≡ Some port
    → (after : Port) × (find_port number (answer_all settled before).ports ≡ Some after) × (after.door ≡ port.door)
stays_open number [] before port found = (port, found, refl)
stays_open number (one ∷ later) before port found = elim (cases_eq number one.asker) [
  | inl equal ↦
      (let rest = stays_open number later (answer_by one.answer one before) (told.change port)
      (ap (find_port number) told.ports ∙ ap (λ n. find_port number (change_port n told.change before.ports)) (sym equal)
      ∙ find_port-change_port number told.change before.ports told.number ∙ ap (option_map told.change) found) in
      (rest.0, rest.1, rest.2 ∙ told.door port))
  | inr other ↦
      stays_open number later (answer_by one.answer one before) port
      (ap (find_port number) told.ports ∙ find_port-apart number one.asker told.change before.ports told.number other ∙ found)
]
  where
    told : AnswersAs (told_verdict one.answer one before) one before (answer_by one.answer one before)
    told = answers_as one.answer one before

-- ---- the helper's port

-- bytes at the helper's port are the helper's
pub handle-helper : (number : ℕ) (piece : List ℕ) (port : Port) (state : State)
    → find_port number state.ports ≡ Some port → port.door ≡ Children
    → state.under_way.link.state ≡ states.Linked number
    → handle (Heard number piece) state ≡ helper_tells (telling piece state.under_way.link) state
handle-helper number piece port state found door linked =
    let numbered : port.number ≡ number = found_number number state.ports port found in
    let here_it_is : (number == number) ≡ true = grind (arith, nat_tests) in
    ap (λ o. heard_at o piece state) found
    ∙ ap (λ d. heard_by_role (role_of d port.number state.under_way) port piece state) door
    ∙ ap (λ n. heard_by_role (role_by_helper (is_linked_to n state.under_way.link.state) n state.under_way.confirmations) port piece state) numbered
    ∙ ap (λ l. heard_by_role (role_by_helper (is_linked_to number l) number state.under_way.confirmations) port piece state) linked
    ∙ ap (λ b. heard_by_role (role_by_helper b number state.under_way.confirmations) port piece state) here_it_is

module _ (moment : Moment) (state : State) (number : ℕ) (a b : List ℕ) (port : Port) (begun : taken_in moment state ≡ state) (rising : IsRising 0 state.last_port state.ports) (found : find_port number state.ports ≡ Some port) (door : port.door ≡ Children) (linked : state.under_way.link.state ≡ states.Linked number) where
  abbrev first_told : Telling
  first_told = telling a state.under_way.link

  abbrev first_answers : Answering
  first_answers = answers_in first_told.settled state

  abbrev mid : State
  mid = with_answers first_told.link first_answers state

  -- as the next event begins
  mid_is : taken_in moment mid ≡ mid
  mid_is = ap (λ (s : State). let t : State = record s { ports = mid.ports; under_way = record mid.under_way { second = s.under_way.second } } in t) begun

  helper_parts : (fault : Option LinkFault) → first_told.fault ≡ fault →
      Agree moment (helper_tells (unless_faulty fault first_told (telling b)) state) (and_then (acted first_answers.actions mid) (lose_if fault))
      (heard_next moment number b (and_then (acted first_answers.actions mid) (lose_if fault)).state)
  helper_parts None is =
      let open_yet = stays_open number first_told.settled (fresh state) port found in
      let told : Telling = telling b first_told.link in
      let later : Answering = answers_in told.settled mid in
      let second : heard_next moment number b mid ≡ helper_tells told mid =
      ap (handle (Heard number b)) mid_is ∙ handle-helper number b open_yet.0 mid open_yet.1 (open_yet.2 ∙ door) linked in
      let whole : helper_tells (settled_before first_told.settled told) state ≡ and_then (acted (first_answers.actions ++ later.actions) (with_answers told.link later mid)) (lose_if told.fault) =
      ap (λ (answering : Answering). and_then (acted answering.actions (with_answers told.link answering state)) (lose_if told.fault)) (in_turn first_told.settled told.settled state) in
      record {
        state = ap (λ (o : Outcome). at_moment moment o.state) whole ∙ ap (λ (o : Outcome). at_moment moment o.state) (sym second);
        actions = ap (λ (o : Outcome). o.actions) whole ∙ append_assoc first_answers.actions later.actions _
            ∙ ap (λ some. some ++ (helper_tells told mid).actions) (sym (append-nil first_answers.actions))
            ∙ ap (λ (o : Outcome). (first_answers.actions ++ []) ++ o.actions) (sym second);
        put = ap (λ (o : Outcome). o.put) whole ∙ ap (λ (o : Outcome). o.put) (sym second);
      }
  helper_parts (Some fault) is =
      agree-over moment number b _ _ (ap (λ f. and_then (acted first_answers.actions mid) (lose_if f)) is)
      (lost-closed mid number (leads-rising 0 state.last_port state.ports (leads-answers state.ports first_told.settled (fresh state) same) rising) linked)

-- two parts of the helper's piece are the piece
pub helper_parts_agree : (state : State) (moment : Moment) (number : ℕ) (a b : List ℕ) (port : Port)
    → GiveTime state.under_way.limits → IsSound (at_moment moment state)
    → find_port number (at_moment moment state).ports ≡ Some port → port.door ≡ Children
    → (at_moment moment state).under_way.link.state ≡ states.Linked number →
    Agree moment (step state moment (Heard number (a ++ b))) (step state moment (Heard number a))
    (step (step state moment (Heard number a)).state moment (Heard number b))
helper_parts_agree state moment number a b port time sound found door linked =
    let start : State = at_moment moment state in
    let link = start.under_way.link in
    let first : handle (Heard number a) start ≡ helper_tells (telling a link) start = handle-helper number a port start found door linked in
    let whole : handle (Heard number (a ++ b)) start ≡ helper_tells (unless_faulty (telling a link).fault (telling a link) (telling b)) start =
    handle-helper number (a ++ b) port start found door linked ∙ ap (λ t. helper_tells t start) (sym (told_in_turn-joined a (b ∷ []) link)) in
    let second : (o : Outcome) → Outcome = λ o. heard_next moment number b o.state in
    let parts = helper_parts moment start number a b port (taken_in-at_moment moment state) sound.rising found door linked (telling a link).fault refl in
    agree-stepped state moment number a b time record {
      state = ap (λ (o : Outcome). at_moment moment o.state) whole ∙ parts.state ∙ ap (λ (o : Outcome). at_moment moment (second o).state) (sym first);
      actions = ap (λ (o : Outcome). o.actions) whole ∙ parts.actions ∙ ap (λ (o : Outcome). o.actions ++ (second o).actions) (sym first);
      put = ap (λ (o : Outcome). o.put) whole ∙ parts.put ∙ ap (λ (o : Outcome). o.put ++ (second o).put) (sym first);
    }

-- ---- a helper that isn't late

-- where the link is still to that port, it is as it was, and no ask has ended
record IsYet (ask number : ℕ) (old : State) (outcome : Outcome) : Type 0 where
  pub link : outcome.state.under_way.link.state ≡ states.Linked number
      → outcome.state.under_way.link ≡ old.under_way.link
  pub silent : outcome.state.under_way.link.state ≡ states.Linked number
      → fate_of ask outcome.actions ≡ Unanswered

still-linked : (ask number : ℕ) (moment : Moment) (state : State)
    → IsYet ask number (taken_in moment state) (time_passes moment state)
still-linked ask number moment state =
    time_passes-brings (IsYet ask number) moment state (λ s. record { link = λ is. refl; silent = λ is. refl })
    (λ s. record { link = λ is. absurd (cc); silent = λ is. absurd (cc) }) (λ one s there. record { link = λ is. refl; silent = λ is. refl })
    (λ s before later one two. record {
      link =
          λ is. two.link is ∙ one.link (ap (λ (l : HelperLink). l.state) (sym (two.link is)) ∙ is);
      silent = λ is. fate-append ask before.actions later.actions
          ∙ ap (λ fate. or_later fate (fate_of ask later.actions)) (one.silent (ap (λ (l : HelperLink). l.state) (sym (two.link is)) ∙ is)) ∙ two.silent is;
    })

-- what the helper's stream says is what becomes of an ask
pub stream-fate : (ask number : ℕ) (piece : List ℕ) (port : Port) (state : State) (moment : Moment)
    → find_port number (at_moment moment state).ports ≡ Some port → port.door ≡ Children
    → (at_moment moment state).under_way.link.state ≡ states.Linked number
    → fate_of ask (step state moment (Heard number piece)).actions ≡ or_later (settled_fate ask (telling piece state.under_way.link).settled) (fault_fate (telling piece state.under_way.link).fault)
stream-fate ask number piece port state moment found door linked =
    let opened : State = at_moment moment state in
    let yet = still-linked ask number moment state in
    let told : Telling = telling piece opened.under_way.link in
    let answering : Answering = answers_in told.settled opened in
    let passed : List Action = (time_passes moment state).actions in
    fate-append ask passed (handle (Heard number piece) opened).actions
    ∙ ap (λ fate. or_later fate (fate_of ask (handle (Heard number piece) opened).actions)) (yet.silent linked)
    ∙ ap (λ (o : Outcome). fate_of ask o.actions) (handle-helper number piece port opened found door linked)
    ∙ fate-append ask answering.actions (lose_if told.fault (with_answers told.link answering opened)).actions
    ∙ ap (λ fate. or_later fate (fate_of ask (lose_if told.fault (with_answers told.link answering opened)).actions)) (settled-fates ask told.settled (fresh opened))
    ∙ ap (or_later (settled_fate ask told.settled)) (by_fault told.fault (with_answers told.link answering opened))
    ∙ ap (λ (l : HelperLink). or_later (settled_fate ask (telling piece l).settled) (fault_fate (telling piece l).fault)) (yet.link linked)
  where
    by_fault : (fault : Option LinkFault) (left : State)
        → fate_of ask (lose_if fault left).actions ≡ fault_fate fault
    by_fault None left = refl
    by_fault (Some fault) left = refl
