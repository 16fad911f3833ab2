-- What the helper's answers and its loss are to the agent's parts.
use Rattle.std.proofs.Common.{◌≡◌, ◌≢◌, ◌↔◌, IsTrue, ℕ, ◌+◌, ◌<◌, drop, get_or, length, subst, List, [], ◌∷◌, refl, ap, sym, ◌∙◌, Option, Some, None, IsSome, is_some, Bool, false, true, if◌then◌else◌, ◌==◌}
use Rattle.std.proofs.lemmas.List.{drop_more}
use Rattle.lists.specs.Keyed.{has_key}
use Rattle.lists.proofs.FirstLemmas.{changed_nowhere, removed_nowhere}
use Rattle.helper_link.specs.HelperLink.{HelperLink, IsLinked, askers, lost}
use Rattle.helper_link.specs.declared.ask.Ask.{Ask}
use Rattle.helper_link.specs.Telling.{Telling, telling}
use Rattle.helper_link.specs.declared.answer.Answer.{Answer}
use Rattle.helper_link.specs.declared.answer.Answer.TheVariants as answer
use Rattle.helper_link.specs.declared.answer.Settled.{Settled}
use Rattle.helper_link.specs.declared.fault.LinkFault.{LinkFault}
use Rattle.helper_link.specs.declared.state.LinkState.{LinkState}
use Rattle.helper_link.specs.declared.state.LinkState.TheVariants as states
use Rattle.agent_model.specs.Actions.{Outcome, Stepped, closing}
use Rattle.agent_model.specs.Answers.{Answering, answer_all, answer_by, answer_true, answers_in, close_helper, find_verification, forget_helper, helper_closes, helper_heard, lose, lose_if, remove_verification, tell_each, with_answers}
use Rattle.agent_model.specs.KeyStates.{KeyState}
use Rattle.agent_model.specs.State.{Port, State, UnderWay, Verification, change_port, find_port, remove_port, number_of}
use Rattle.agent_model.specs.Verdicts.{HelperLost, Refuses, tell}
use Rattle.agent_model.specs.Children.{closed, is_started_by, shut_then}
use Rattle.agent_model.specs.NumberLists.{put_all}
use Rattle.agent_model.specs.Sound.{IsRising}
use Rattle.agent_model.proofs.PortsLemmas.{find_port-remove_port}
use Rattle.agent_core.specs.Parts.{after, parts_of, state_of}
use Rattle.agent_core.specs.Settlings.{AreProvable, AreShortAnswers, IsProvable, IsShortAnswer, answered, told_with, unanswered}
use Rattle.agent_core.specs.Slots.{OpenPorts}

-- ---- answers

-- an answer changes its asker's port, and leaves the other verifications
ports-true : (found : Option Verification) (one : Settled) (before : Answering) → (answer_true found one before).ports ≡ change_port one.asker (told_with answer.True found) before.ports
ports-true None one before = refl
ports-true (Some verification) one before = refl

left-true : (found : Option Verification) (one : Settled) (before : Answering) → (answer_true found one before).verifications ≡ remove_verification one.ask before.verifications
left-true None one before = refl
left-true (Some verification) one before = refl

pub ports-answer : (a : Answer) (one : Settled) (before : Answering) → (answer_by a one before).ports ≡ change_port one.asker (told_with a (find_verification one.ask before.verifications)) before.ports
ports-answer (answer.Signed signature) one before = refl
ports-answer answer.Refused one before = refl
ports-answer answer.True one before = ports-true (find_verification one.ask before.verifications) one before
ports-answer answer.False one before = refl

pub left-answer : (a : Answer) (one : Settled) (before : Answering) → (answer_by a one before).verifications ≡ remove_verification one.ask before.verifications
left-answer (answer.Signed signature) one before = refl
left-answer answer.Refused one before = refl
left-answer answer.True one before = left-true (find_verification one.ask before.verifications) one before
left-answer answer.False one before = refl

-- so do all of them
pub all_answered : (settled : List Settled) (before : Answering) → (answer_all settled before).ports ≡ answered settled before.verifications before.ports
all_answered [] before = refl
all_answered (one ∷ later) before =
    all_answered later (answer_by one.answer one before)
    ∙ ap (λ vs. answered later vs (answer_by one.answer one before).ports) (left-answer one.answer one before)
    ∙ ap (answered later (remove_verification one.ask before.verifications)) (ports-answer one.answer one before)

pub all_unanswered : (settled : List Settled) (before : Answering) → (answer_all settled before).verifications ≡ unanswered settled before.verifications
all_unanswered [] before = refl
all_unanswered (one ∷ later) before =
    all_unanswered later (answer_by one.answer one before)
    ∙ ap (unanswered later) (left-answer one.answer one before)

-- what is under way with another link
abbrev pub with_link : HelperLink → UnderWay → UnderWay
with_link link going = record going { link = link }

-- and with other verifications
abbrev pub with_left : List Verification → UnderWay → UnderWay
with_left verifications going = record going { verifications = verifications }

-- the state after answers
pub with_answers-is : (wall : ℕ) (keys : KeyState) (going : UnderWay) (ports : OpenPorts) (told : Telling)
    → with_answers told.link (answers_in told.settled (state_of wall keys going ports)) (state_of wall keys going ports)
    ≡ state_of wall keys (with_left (unanswered told.settled going.verifications) (with_link told.link going))
    (record ports { ports = answered told.settled going.verifications ports.ports })
with_answers-is wall keys going ports told =
    let before : Answering = record { ports = ports.ports; verifications = going.verifications; actions = [] } in
    let to : List Port → List Verification → State =
    λ ps vs. state_of wall keys (with_left vs (with_link told.link going)) (record ports { ports = ps }) in
    ap (λ ps. to ps (answer_all told.settled before).verifications) (all_answered told.settled before)
    ∙ ap (λ vs. to (answered told.settled going.verifications ports.ports) vs) (all_unanswered told.settled before)

-- ---- numbers

-- an asker stays who it is
pub number-told_with : (a : Answer) (found : Option Verification) (p : Port) → (told_with a found p).number ≡ p.number
number-told_with (answer.Signed signature) found p = refl
number-told_with answer.Refused found p = refl
number-told_with answer.True None p = refl
number-told_with answer.True (Some verification) p = refl
number-told_with answer.False found p = refl

-- nothing changes where the port isn't open
pub change_port-absent : (number : ℕ) (f : Port → Port) (ports : List Port) → find_port number ports ≡ None → change_port number f ports ≡ ports
change_port-absent number f ports absent = changed_nowhere (has_key number_of number) f ports absent

pub remove_port-absent : (number : ℕ) (ports : List Port) → find_port number ports ≡ None → remove_port number ports ≡ ports
remove_port-absent number ports absent = removed_nowhere (has_key number_of number) ports absent

-- ---- ports that are closed

-- a port that isn't open isn't found
pub is_absent : (found : Option Port) (is_open : Bool) → (IsTrue is_open ↔ IsSome found) → is_open ≡ false → found ≡ None
is_absent None is_open tells not_open = refl
is_absent (Some port) is_open tells not_open = absurd (cc (tells.1 refl, not_open))

-- an open one
pub closing-open : (number : ℕ) (ports : List Port) (later : List ℕ) → IsSome (find_port number ports)
    → closing number ports later ≡ number ∷ later
closing-open number ports later some = by_found (find_port number ports) some
  where
    by_found : (found : Option Port) → IsSome found → (if is_some found then number ∷ later else later) ≡ number ∷ later
    by_found None some = absurd (cc)
    by_found (Some port) some = refl

-- one that isn't open
pub closing-absent : (number : ℕ) (ports : List Port) (later : List ℕ) → find_port number ports ≡ None
    → closing number ports later ≡ later
closing-absent number ports later absent = ap (λ f. if is_some f then number ∷ later else later) absent

-- one port is closed before others
pub closing-first : (number : ℕ) (ports : List Port) (closed later : List ℕ)
    → put_all (put_all closed (closing number ports [])) later ≡ put_all closed (closing number ports later)
closing-first number ports closed later = by_found (is_some (find_port number ports))
  where
    by_found : (test : Bool) → put_all (put_all closed (if test then number ∷ [] else [])) later
        ≡ put_all closed (if test then number ∷ later else later)
    by_found true = refl
    by_found false = refl

-- one port is closed, and then this happens
pub shut-first : (number : ℕ) (closed_before : List ℕ) (next : State → Outcome) (state : State)
    → after (put_all closed_before (closing number state.ports [])) (next (closed number state))
    ≡ after closed_before (shut_then number next state)
shut-first number closed_before next state =
    let left : Outcome = next (closed number state) in
    let to : List ℕ → Stepped = λ cs. record { state = left.state; closes = cs } in
    ap to (closing-first number state.ports closed_before left.closes)

-- ---- the helper sent more

-- at a fault of what was told the helper is lost
pub heard_parts : (wall : ℕ) (keys : KeyState) (going mid left : UnderWay) (ports new : OpenPorts) (piece : List ℕ)
    (settled : List Settled) (fault : Option LinkFault) → mid ≡ with_link (telling piece going.link).link going
    → settled ≡ (telling piece going.link).settled → fault ≡ (telling piece going.link).fault
    → left ≡ with_left (unanswered settled mid.verifications) mid
    → new ≡ record ports { ports = answered settled mid.verifications ports.ports }
    → after new.closed (lose_if fault (state_of wall keys left new))
    ≡ after ports.closed (helper_heard piece (state_of wall keys going ports))
heard_parts wall keys going mid left ports new piece settled fault mid_is settled_is fault_is left_is new_is =
    let told : Telling = telling piece going.link in
    let to : UnderWay → List Settled → Stepped = λ u s. after ports.closed (lose_if told.fault
    (state_of wall keys (with_left (unanswered s u.verifications) u) (record ports { ports = answered s u.verifications ports.ports }))) in
    ap (λ (f : Option LinkFault). after new.closed (lose_if f (state_of wall keys left new))) fault_is
    ∙ ap (λ (u : UnderWay). after new.closed (lose_if told.fault (state_of wall keys u new))) left_is
    ∙ ap (λ (v : OpenPorts). after v.closed (lose_if told.fault (state_of wall keys (with_left (unanswered settled mid.verifications) mid) v))) new_is
    ∙ ap (λ (u : UnderWay). to u settled) mid_is
    ∙ ap (λ (s : List Settled). to (with_link told.link going) s) settled_is
    ∙ ap (λ (s : State). after ports.closed (lose_if told.fault s)) (sym (with_answers-is wall keys going ports told))

-- ---- the helper is lost

-- its port is closed, and each that waits for it is told
pub lost_parts : (wall : ℕ) (keys : KeyState) (going left : UnderWay) (before mid new : OpenPorts)
    → mid ≡ record before {
      ports = close_helper going.link.state before.ports;
      closed = put_all before.closed (helper_closes going.link.state before.ports);
    } → left ≡ record going { link = lost going.link; started = forget_helper going.link.state going.started; verifications = [] }
    → new ≡ record mid { ports = tell_each (Refuses HelperLost) (askers going.link.asks) mid.ports }
    → parts_of wall keys left new ≡ after before.closed (lose (state_of wall keys going before))
lost_parts wall keys going left before mid new mid_is left_is new_is =
    let gone : UnderWay = record going { link = lost going.link; started = forget_helper going.link.state going.started; verifications = [] } in
    ap (λ (u : UnderWay). parts_of wall keys u new) left_is
    ∙ ap (λ (v : OpenPorts). parts_of wall keys gone v) new_is
    ∙ ap (λ (v : OpenPorts). parts_of wall keys gone (record v { ports = tell_each (Refuses HelperLost) (askers going.link.asks) v.ports })) mid_is

-- a helper that is there, or is being started, may be lost
pub linked_some : (state : LinkState) → IsLinked state → state ≢ states.None
linked_some states.None linked = absurd linked
linked_some (states.Starting job) linked = absurd linked
linked_some (states.Linked port) linked = λ none. absurd (cc)

pub starting_some : (job : ℕ) (state : LinkState) → is_started_by job state ≡ true → state ≢ states.None
starting_some job states.None is = absurd (cc)
starting_some job (states.Starting other) is = λ none. absurd (cc)
starting_some job (states.Linked port) is = absurd (cc)

-- a port is closed once
pub remove_port-twice : (number last : ℕ) (ports : List Port) → IsRising 0 last ports → remove_port number (remove_port number ports) ≡ remove_port number ports
remove_port-twice number last ports rising =
    remove_port-absent number (remove_port number ports) (find_port-remove_port number 0 last ports rising)

-- the helper's port may be closed before the helper is lost
pub lose-closed : (number last : ℕ) (state : State) → state.under_way.link.state ≡ states.Linked number
    → IsRising 0 last state.ports → lose state ≡ shut_then number lose state
lose-closed number last state linked rising =
    let left : List Port = remove_port number state.ports in
    let to : List Port → List ℕ → Outcome = λ ps cs. record (lose state) {
      state = record (lose state).state { ports = tell_each (Refuses HelperLost) (askers state.under_way.link.asks) ps };
      closes = cs;
    } in
    let none : closing number left [] ≡ [] =
    closing-absent number left [] (find_port-remove_port number 0 last state.ports rising) in
    ap (λ l. to (close_helper l state.ports) (helper_closes l state.ports)) linked
    ∙ ap (λ ps. to ps (closing number state.ports [])) (sym (remove_port-twice number last state.ports rising))
    ∙ ap (λ cs. to (remove_port number left) (closing number state.ports cs)) (sym none)
    ∙ ap (λ l. to (close_helper l left) (closing number state.ports (helper_closes l left))) (sym linked)

-- a change of another port, or of its own under its number, leaves a port open
pub open-change_port : (number other : ℕ) (f : Port → Port) (ports : List Port) → ((p : Port) → (f p).number ≡ p.number) → IsSome (find_port number ports) → IsSome (find_port number (change_port other f ports))
open-change_port number other f [] keeps some = absurd (cc)
open-change_port number other f (port ∷ ports) keeps some =
    by_tests (open-change_port number other f ports keeps) (port.number == other) (port.number == number) refl some
  where
    by_tests : (IsSome (find_port number ports) → IsSome (find_port number (change_port other f ports))) → (changed same : Bool) → (port.number == number) ≡ same → IsSome (if same then Some port else find_port number ports) → IsSome (find_port number (if changed then f port ∷ ports else port ∷ change_port other f ports))
    by_tests rest true true is some = rw (keeps port, is) refl
    by_tests rest true false is some = rw (keeps port, is) some
    by_tests rest false true is some = rw is refl
    by_tests rest false false is some = rw is (rest some)

pub open-answered : (number : ℕ) (settled : List Settled) (vs : List Verification) (ports : List Port) → IsSome (find_port number ports) → IsSome (find_port number (answered settled vs ports))
open-answered number [] vs ports some = some
open-answered number (one ∷ later) vs ports some =
    open-answered number later (remove_verification one.ask vs) (change_port one.asker (told_with one.answer (find_verification one.ask vs)) ports)
    (open-change_port number one.asker (told_with one.answer (find_verification one.ask vs)) ports (number-told_with one.answer (find_verification one.ask vs)) some)

-- ---- one after another

-- the answers from one on are that one and those behind it
pub drop-one : (settled : List Settled) (i : ℕ) (one : Settled) → i < length settled → one ≡ get_or settled i one → drop i settled ≡ one ∷ drop (i + 1) settled
drop-one settled i one within is = drop_more settled i one within ∙ ap (λ (o : Settled). o ∷ drop (i + 1) settled) (sym is)

-- what is told behind an answer is told behind those before it
pub answered-more : (one : Settled) (later all : List Settled) (vs left : List Verification) (ports new : OpenPorts) → all ≡ one ∷ later → left ≡ remove_verification one.ask vs → new ≡ record ports { ports = change_port one.asker (told_with one.answer (find_verification one.ask vs)) ports.ports } → (let v : OpenPorts = record new { ports = answered later left new.ports } in v) ≡ record ports { ports = answered all vs ports.ports }
answered-more one later all vs left ports new all_is left_is new_is =
    ap (λ (v : OpenPorts). let w : OpenPorts = record v { ports = answered later left v.ports } in w) new_is
    ∙ ap (λ l. let w : OpenPorts = record ports { ports = answered later l (change_port one.asker (told_with one.answer (find_verification one.ask vs)) ports.ports) } in w) left_is
    ∙ ap (λ (s : List Settled). let w : OpenPorts = record ports { ports = answered s vs ports.ports } in w) (sym all_is)

-- and so are the verifications that are left
pub unanswered-more : (one : Settled) (later all : List Settled) (going new : UnderWay) → all ≡ one ∷ later → new ≡ with_left (remove_verification one.ask going.verifications) going → with_left (unanswered later new.verifications) new ≡ with_left (unanswered all going.verifications) going
unanswered-more one later all going new all_is new_is =
    ap (λ (u : UnderWay). with_left (unanswered later u.verifications) u) new_is
    ∙ ap (λ (s : List Settled). with_left (unanswered s going.verifications) going) (sym all_is)

-- and what is told behind one whose ask failed
pub refused-more : (one : Ask) (later all : List Ask) (ports new : OpenPorts) → all ≡ one ∷ later
    → new ≡ record ports { ports = change_port one.asker (tell (Refuses HelperLost)) ports.ports }
    → (let v : OpenPorts = record new { ports = tell_each (Refuses HelperLost) (askers later) new.ports } in v)
    ≡ record ports { ports = tell_each (Refuses HelperLost) (askers all) ports.ports }
refused-more one later all ports new all_is new_is =
    ap (λ (v : OpenPorts). let w : OpenPorts = record v { ports = tell_each (Refuses HelperLost) (askers later) v.ports } in w) new_is
    ∙ ap (λ (s : List Ask). let w : OpenPorts = record ports { ports = tell_each (Refuses HelperLost) (askers s) ports.ports } in w) (sym all_is)

-- the next answer is short, and those behind it
pub short-at : (one : Settled) (later all : List Settled) → all ≡ one ∷ later → AreShortAnswers all → IsShortAnswer one.answer × AreShortAnswers later
short-at one later all all_is short =
    let P : List Settled → Type 0 = λ s. AreShortAnswers s in
    subst P all_is short

-- and what it verifies is as it was judged, and what those behind it do
pub provable-at : (one : Settled) (later all : List Settled) (vs : List Verification) (ports : List Port) → all ≡ one ∷ later → AreProvable all vs ports → IsProvable (find_verification one.ask vs) (find_port one.asker ports) × AreProvable later (remove_verification one.ask vs) (change_port one.asker (told_with one.answer (find_verification one.ask vs)) ports)
provable-at one later all vs ports all_is provable = subst (λ s. AreProvable s vs ports) all_is provable
