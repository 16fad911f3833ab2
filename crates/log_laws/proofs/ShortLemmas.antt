-- No client is owed more than a frame of the longest message: the helper's signatures came in such frames, and a list of
-- identities has room in one.
use Rattle.std.proofs.Common.{◌≡◌, ◌==◌, ℕ, suc, ◌+◌, ◌-◌, ◌≤◌, max, List, [], ◌∷◌, ◌++◌, length, map, filter, refl, ap, arith, sym, subst, ◌∙◌, cond, inl, inr, Option, Some, None, Bool, true, false, Result, Ok, Err, nat_lt, ◌||◌}
use Rattle.std.proofs.lemmas.Bool.Decides.{nat_tests}
use Rattle.std.proofs.lemmas.List.{length-append, length-drop}
use Rattle.std.specs.Option.{option_map}
use Rattle.lists.specs.Firsts.{remove_first}
use Rattle.world_ports.specs.declared.Door.{Door}
use Rattle.world_ports.specs.declared.Door.TheVariants.{Clients}
use Rattle.world_ports.specs.declared.Moment.{Moment}
use Rattle.wire_text.specs.Bounds.{longest_body}
use Rattle.wire_text.specs.Frames.{front_body}
use Rattle.wire_text.specs.Wire.{string, uint32}
use Rattle.wire_text.proofs.WireLemmas.{length-string, length-uint32}
use Rattle.agent_msg.specs.Replies.{entries}
use Rattle.agent_msg.specs.Requests.{Addition, ClientRequest, ListIdentities, Sign, Add, Remove, RemoveAll, Lock, Unlock, Bind, OtherExtension, Unsupported}
use Rattle.agent_msg.specs.declared.fault.MsgFault.{MsgFault}
use Rattle.confirm_desk.specs.Confirmations.{Confirmation, find_job}
use Rattle.dest_rule.specs.declared.binding.Binding.{Binding}
use Rattle.identity_table.specs.Deaths.{lives_at}
use Rattle.identity_table.specs.Identities.{HeldKey, alive_at, entries_len, entry_len, find_identity, has_blob, in_front, is_full, identities_with, remove_identity, spend_identity, used_by, kept_len, answer_len}
use Rattle.helper_link.specs.Answered.{LeadTo}
use Rattle.helper_link.specs.HelperLink.{askers}
use Rattle.helper_link.specs.Settling.{find_ask, remove_ask}
use Rattle.helper_link.specs.Sound.{RiseTo}
use Rattle.helper_link.specs.Telling.{telling}
use Rattle.helper_link.specs.declared.answer.Answer.{Answer}
use Rattle.helper_link.specs.declared.answer.Answer.TheVariants as answer
use Rattle.helper_link.specs.declared.answer.Settled.{Settled}
use Rattle.helper_link.specs.declared.ask.Ask.{Ask}
use Rattle.helper_link.specs.declared.fault.LinkFault.{LinkFault}
use Rattle.helper_link.specs.declared.state.LinkState.{LinkState}
use Rattle.helper_link.specs.declared.state.LinkState.TheVariants as states
use Rattle.helper_link.proofs.AnswerLemmas.{settling_leads}
use Rattle.helper_link.proofs.OrderLemmas.{remove_rises}
use Rattle.agent_core.specs.Settlings.{AreShortAnswers, IsShortAnswer}
use Rattle.agent_core.proofs.ShortLemmas.{told_short}
use Rattle.agent_model.specs.Actions.{Outcome, Work}
use Rattle.agent_model.specs.Answers.{Answering, answer_all, answer_by, answers_in, close_helper, find_verification, lose, lose_if, tell_each, with_answers}
use Rattle.agent_model.specs.Binds.{agent_request_of}
use Rattle.agent_model.specs.Children.{unheard}
use Rattle.agent_model.specs.Consents.{close_confirmer, grant_work}
use Rattle.agent_model.specs.Limits.{last_number}
use Rattle.agent_model.specs.Dispatch.{Asker, Served, add_by, add_fault, add_seen, add_unless, answers, refuses, sees, serve, serve_by}
use Rattle.agent_model.specs.Events.{Happening, Tick, Timed}
use Rattle.agent_model.specs.KeyStates.{KeyState, after_use, shown}
use Rattle.agent_model.specs.Sound.{AreTied, IsRising, IsTied}
use Rattle.agent_model.specs.State.{Port, Settings, State, UnderWay, Verification, change_port, find_port, first_state, remove_port}
use Rattle.agent_model.specs.Step.{admitted, asker_at, attempts, handle, has_room, step, take_frame}
use Rattle.agent_model.specs.Time.{at_moment}
use Rattle.agent_model.specs.Verdicts.{AdditionsSpent, Cause, HelperLost, Identities, ListFull, Locked, NotConfirmed, NotVisible, Refuses, Success, Verdict, tell, verdict_text}
use Rattle.agent_model.proofs.FateLemmas.{answers_as, one_answer, one_lost, told_verdict, true_verdict}
use Rattle.agent_model.proofs.FatedLemmas.{first-tied, step-fated, tied-opened}
use Rattle.agent_model.proofs.FatedMakeLemmas.{fated-makes, lose-tied, tied-close, tied-taken, tied_mid}
use Rattle.agent_model.proofs.GrantLemmas.{IsGranted, allowed, disallowed, grant-ends, unasked}
use Rattle.agent_model.proofs.JobLemmas.{IsIn, in-found}
use Rattle.agent_model.proofs.MakeLemmas.{Change, Makes, Quiet, alters, by_event, closes, first, goes_on, grants, hears, links, loses, mild_of, names, overs, serves, stays, takes, tells}
use Rattle.agent_model.proofs.PortsLemmas.{find_port-change_port, find_port-left}
use Rattle.agent_model.proofs.ServeLemmas.{Serves, adds, confirms, denies, empties, lists, locks, removes, serves-any, signs, unlocks, verifies}
use Rattle.agent_model.proofs.TieLemmas.{apart, found_after, found_joined, here}
use Rattle.agent_model.proofs.TieLemmas as ties
use Rattle.agent_model.proofs.TiedLemmas.{tied-quiet}
use Rattle.agent_model.proofs.TimeLemmas.{at_moment-keeps}
use Rattle.log_laws.proofs.ClientLemmas.{AreBrief}

-- ---- what is listed

no-list : entries_len [] ≡ 0
unfolding entries_len
no-list = refl

filtered : (keep : HeldKey → Bool) (keys : List HeldKey) → entries_len (filter keep keys) ≤ entries_len keys
unfolding entries_len
filtered keep [] = omega arith
filtered keep (key ∷ keys) = by_test (keep key) (filtered keep keys)
  where
    by_test : (is : Bool) → entries_len (filter keep keys) ≤ entries_len keys
        → entries_len (cond is (key ∷ filter keep keys) (filter keep keys)) ≤ entry_len key + entries_len keys
    by_test true rest = omega (arith, rest)
    by_test false rest = omega (arith, rest)

expired-list : (second : ℕ) (keys : List HeldKey) → entries_len (alive_at second keys) ≤ entries_len keys
unfolding alive_at
expired-list second keys = filtered (λ key. lives_at second key.death) keys

removed-list : (blob : List ℕ) (keys : List HeldKey) → entries_len (remove_identity blob keys) ≤ entries_len keys
unfolding entries_len remove_identity
removed-list blob [] = omega arith
removed-list blob (key ∷ keys) = by_test (has_blob blob key) (removed-list blob keys)
  where
    by_test : (is : Bool) → entries_len (remove_identity blob keys) ≤ entries_len keys
        → entries_len (cond is keys (key ∷ remove_first (has_blob blob) keys)) ≤ entry_len key + entries_len keys
    by_test true rest = omega arith
    by_test false rest = omega (arith, rest)

spent-list : (addition : ℕ) (keys : List HeldKey) → entries_len (spend_identity addition keys) ≤ entries_len keys
unfolding entries_len spend_identity
spent-list addition [] = omega arith
spent-list addition (key ∷ keys) = by_test (key.number == addition) (spent-list addition keys)
  where
    by_left : (last : Bool) (uses_left : ℕ)
        → entries_len (in_front (cond last None (Some (record key { uses = Some uses_left }))) keys) ≤ entry_len key + entries_len keys
    by_left true left = omega arith
    by_left false left = omega arith

    by_uses : (left : Option ℕ) → entries_len (in_front (used_by left key) keys) ≤ entry_len key + entries_len keys
    by_uses None = omega arith
    by_uses (Some left) = by_left (left - 1 == 0) (left - 1)

    by_test : (is : Bool) → entries_len (spend_identity addition keys) ≤ entries_len keys
        → entries_len (cond is (in_front (used_by key.uses key) keys) (key ∷ spend_identity addition keys)) ≤ entry_len key + entries_len keys
    by_test true rest = by_uses key.uses
    by_test false rest = omega (arith, rest)

used-list : (used : Option ℕ) (held : KeyState) → entries_len ((after_use used held).table.identities) ≤ entries_len held.table.identities
used-list None held = omega arith
used-list (Some addition) held = spent-list addition held.table.identities

-- ---- what a request brings

-- one message lists all identities
abbrev HasRoom : KeyState → Type 0
HasRoom held = entries_len held.table.identities ≤ 262139

-- it fits, and so does what is listed then
record IsFit (served : Served) : Type 0 where
  text : length (verdict_text served.work.verdict) ≤ 4 + longest_body
  room : HasRoom served.held

length-entries : (keys : List HeldKey) → length (entries (map shown keys)) ≡ entries_len keys
unfolding entries_len
length-entries [] = refl
length-entries (key ∷ keys) =
    omega (arith, length-append (string key.blob ++ string key.comment) (entries (map shown keys)), length-append (string key.blob) (string key.comment), length-string key.blob, length-string key.comment, length-entries keys)

listed : (count : ℕ) (keys : List HeldKey) → entries_len keys ≤ 262139
    → length (string (12 ∷ (uint32 count ++ entries (map shown keys)))) ≤ 4 + longest_body
listed count keys room =
    omega (arith, length-string (12 ∷ (uint32 count ++ entries (map shown keys))), length-append (uint32 count) (entries (map shown keys)), length-uint32 count, length-entries keys, room)

short-status : (code : ℕ) → length (string (code ∷ [])) ≤ 4 + longest_body
short-status code = omega (arith, length-string (code ∷ []))

module _ (asker : Asker) (held : KeyState) (under_way : UnderWay) (room : HasRoom held) where
  fit-refused : (cause : Cause) → IsFit (refuses cause held under_way)
  fit-refused cause = record { text = short-status 5; room = room }

  fit-success : (kept : KeyState) → HasRoom kept → IsFit (answers Success kept under_way)
  fit-success kept fits = record { text = short-status 6; room = fits }

  fit-list : (keys : List HeldKey) → entries_len keys ≤ 262139 → IsFit (answers (Identities (map shown keys)) held under_way)
  fit-list keys fits = record { text = listed (length (map shown keys)) keys fits; room = room }

  fit-full : (all : List HeldKey) (full spent : Bool) (addition : Addition) (now : ℕ) → is_full all ≡ full
      → all ≡ identities_with held.table addition.key addition.terms addition.comment now
      → IsFit (add_unless (add_fault full spent) addition now held under_way)
  fit-full all true spent addition now is same = fit-refused ListFull
  fit-full all false true addition now is same = fit-refused AdditionsSpent
  fit-full all false false addition now is same =
      let parts : nat_lt longest_body (answer_len all) ≡ false = or-false (nat_lt longest_body (answer_len all)) (nat_lt 8388608 (kept_len all)) is in
      let within : answer_len all ≤ longest_body = grind (arith, nat_tests) in
      let fits : entries_len all ≤ 262139 = omega (arith, within) in
      fit-success _ (subst (λ keys. entries_len keys ≤ 262139) same fits)
    where
      or-false : (a b : Bool) → (a || b) ≡ false → a ≡ false
      or-false true b is = absurd (cc)
      or-false false b is = refl

  fit-seen : (seen : Bool) (addition : Addition) (now : ℕ) → IsFit (add_seen seen addition now held under_way)
  fit-seen false addition now = fit-refused NotVisible
  fit-seen true addition now =
      fit-full _ _ (held.table.last == last_number) addition now refl refl

  fit-add : (found : Option HeldKey) (addition : Addition) → IsFit (add_by found asker addition held under_way)
  fit-add None addition = fit-seen true addition asker.mono
  fit-add (Some key) addition = fit-seen (sees asker key) addition asker.mono

  -- by what comes of it: a list and an addition are told apart
  fit-serves : {read : Result ClientRequest MsgFault} {served : Served} → Serves read asker held under_way served
      → (read ≡ Ok ListIdentities → ⊥) → ((addition : Addition) → read ≡ Ok (Add addition) → ⊥) → IsFit served
  fit-serves (denies cause) unlisted unadded = fit-refused cause
  fit-serves (lists identities is) unlisted unadded = absurd (unlisted is)
  fit-serves (adds addition is) unlisted unadded = absurd (unadded addition is)
  fit-serves (removes blob is) unlisted unadded =
      fit-success _ (omega (arith, removed-list blob held.table.identities, room))
  fit-serves (empties is) unlisted unadded = fit-success _ (omega (arith, no-list))
  fit-serves (locks passphrase is) unlisted unadded = fit-success _ room
  fit-serves (unlocks passphrase is) unlisted unadded = fit-success _ room
  fit-serves (signs signing key is found plain free) unlisted unadded =
      record { text = omega arith; room = omega (arith, spent-list key.number held.table.identities, room) }
  fit-serves (confirms signing key is found free) unlisted unadded = record { text = omega arith; room = room }
  fit-serves (verifies bind is_new is stands free) unlisted unadded = record { text = omega arith; room = room }

  fit-listing : (lock : Option (List ℕ)) → IsFit (serve_by lock ListIdentities asker held under_way)
  fit-listing None =
      fit-list (filter (sees asker) held.table.identities) (omega (arith, filtered (sees asker) held.table.identities, room))
  fit-listing (Some passphrase) = fit-list [] (omega (arith, no-list))

  fit-adding : (lock : Option (List ℕ)) (addition : Addition) → IsFit (serve_by lock (Add addition) asker held under_way)
  fit-adding None addition = fit-add (find_identity addition.key.blob held.table.identities) addition
  fit-adding (Some passphrase) addition = fit-refused Locked

  fit-other : (read : Result ClientRequest MsgFault) → (read ≡ Ok ListIdentities → ⊥)
      → ((addition : Addition) → read ≡ Ok (Add addition) → ⊥) → IsFit (serve read asker held under_way)
  fit-other read unlisted unadded = fit-serves (serves-any read asker held under_way) unlisted unadded

  fit-serve : (read : Result ClientRequest MsgFault) → IsFit (serve read asker held under_way)
  fit-serve (Ok ListIdentities) = fit-listing held.lock
  fit-serve (Ok (Add addition)) = fit-adding held.lock addition
  fit-serve (Ok (Sign signing)) = fit-other (Ok (Sign signing)) (λ is. absurd (cc)) (λ addition is. absurd (cc))
  fit-serve (Ok (Remove blob)) = fit-other (Ok (Remove blob)) (λ is. absurd (cc)) (λ addition is. absurd (cc))
  fit-serve (Ok RemoveAll) = fit-other (Ok RemoveAll) (λ is. absurd (cc)) (λ addition is. absurd (cc))
  fit-serve (Ok (Lock passphrase)) = fit-other (Ok (Lock passphrase)) (λ is. absurd (cc)) (λ addition is. absurd (cc))
  fit-serve (Ok (Unlock passphrase)) = fit-other (Ok (Unlock passphrase)) (λ is. absurd (cc)) (λ addition is. absurd (cc))
  fit-serve (Ok (Bind bind)) = fit-other (Ok (Bind bind)) (λ is. absurd (cc)) (λ addition is. absurd (cc))
  fit-serve (Ok (OtherExtension name)) = fit-other (Ok (OtherExtension name)) (λ is. absurd (cc)) (λ addition is. absurd (cc))
  fit-serve (Ok (Unsupported number)) = fit-other (Ok (Unsupported number)) (λ is. absurd (cc)) (λ addition is. absurd (cc))
  fit-serve (Err fault) = fit-other (Err fault) (λ is. absurd (cc)) (λ addition is. absurd (cc))

-- ---- ports

-- no client of these is owed more
abbrev AreShort : List Port → Type 0
AreShort ports = (number : ℕ) (port : Port) → find_port number ports ≡ Some port → port.door ≡ Clients
    → length port.owed ≤ 4 + longest_body

-- a port is changed, so that a client there is owed no more
short-changed : (at : ℕ) (f : Port → Port) (ports : List Port) → ((p : Port) → (f p).number ≡ p.number)
    → ((p : Port) → (f p).door ≡ p.door)
    → ((p : Port) → find_port at ports ≡ Some p → p.door ≡ Clients → length (f p).owed ≤ 4 + longest_body)
    → AreShort ports → AreShort (change_port at f ports)
short-changed at f ports keeps doors bound short number port found door =
    by_port (found_after number at f ports port keeps found)
  where
    by_port : ties.IsOf number at f ports port → length port.owed ≤ 4 + longest_body
    by_port (here old equal was is) =
        let client : old.door ≡ Clients = sym (doors old) ∙ ap (λ (p : Port). p.door) (sym is) ∙ door in
        let within : length (f old).owed ≤ 4 + longest_body = bound old (ap (λ n. find_port n ports) (sym equal) ∙ was) client in
        subst (λ (p : Port). length p.owed ≤ 4 + longest_body) (sym is) within
    by_port (apart other was) = short number port was door

short-removed : (at last : ℕ) (ports : List Port) → IsRising 0 last ports → AreShort ports → AreShort (remove_port at ports)
short-removed at last ports rising short number port found door =
    short number port (find_port-left number at 0 last ports port rising found) door

-- who is owed nothing is told something short
short-told : (at : ℕ) (f : Port → Port) (verdict : Verdict) (ports : List Port) → ((p : Port) → (f p).number ≡ p.number)
    → ((p : Port) → (f p).door ≡ p.door) → ((p : Port) → (f p).owed ≡ p.owed ++ verdict_text verdict)
    → length (verdict_text verdict) ≤ 4 + longest_body
    → ((p : Port) → find_port at ports ≡ Some p → p.door ≡ Clients → p.owed ≡ [])
    → AreShort ports → AreShort (change_port at f ports)
short-told at f verdict ports keeps doors owes fits unowed short =
    short-changed at f ports keeps doors
    (λ p found door.
    let is : (f p).owed ≡ verdict_text verdict = owes p ∙ ap (λ owed. owed ++ verdict_text verdict) (unowed p found door) in
    subst (λ owed. length owed ≤ 4 + longest_body) (sym is) fits)
    short

-- ---- the helper's answers, and its loss

asker-unowed : (ask : ℕ) (one : Ask) (ports : List Port) (asks : List Ask) → AreTied ports asks
    → find_ask ask asks ≡ Some one → (p : Port) → find_port one.asker ports ≡ Some p → p.owed ≡ []
asker-unowed ask one ports asks tied there p found =
    (tied.waits one.asker ask p found (tied.asks ask one p there found)).owed

true-short : (found : Option Verification) → length (verdict_text (true_verdict found)) ≤ 4 + longest_body
true-short None = short-status 5
true-short (Some verification) = short-status 6

answer-short : (what : Answer) (one : Settled) (before : Answering) → IsShortAnswer what
    → length (verdict_text (told_verdict what one before)) ≤ 4 + longest_body
answer-short (answer.Signed signature) one before short =
    omega (arith, length-string (14 ∷ string signature), length-string signature, short)
answer-short answer.Refused one before short = short-status 5
answer-short answer.True one before short = true-short (find_verification one.ask before.verifications)
answer-short answer.False one before short = short-status 5

short-answers : (low last : ℕ) (settled : List Settled) (before : Answering) (asks left : List Ask) → LeadTo settled asks left
    → RiseTo low asks last → AreTied before.ports asks → AreShortAnswers settled → AreShort before.ports
    → AreShort (answer_all settled before).ports
short-answers low last [] before asks left leads rise tied fits short = short
short-answers low last (one ∷ later) before asks left leads rise tied fits short =
    let told_as = answers_as one.answer one before in
    let next : Answering = answer_by one.answer one before in
    short-answers low last later next (remove_ask one.ask asks) left leads.1 (remove_rises one.ask low asks last rise) (one_answer low last one before asks leads.0 rise tied) fits.1
    (subst AreShort (sym told_as.ports)
    (short-told one.asker told_as.change (told_verdict one.answer one before) before.ports told_as.number told_as.door told_as.owed (answer-short one.answer one before fits.0)
    (λ p found door. asker-unowed one.ask _ before.ports asks tied leads.0.found p found) short))

short-tell_each : (low last : ℕ) (asks : List Ask) (ports : List Port) → RiseTo low asks last → AreTied ports asks
    → AreShort ports → AreShort (tell_each (Refuses HelperLost) (askers asks) ports)
short-tell_each low last [] ports rise tied short = short
short-tell_each low last (one ∷ asks) ports rise tied short =
    let there : find_ask one.number (one ∷ asks) ≡ Some one = grind (arith, nat_tests) in
    short-tell_each one.number last asks _ rise.1 (one_lost low last one asks ports rise tied)
    (short-told one.asker (tell (Refuses HelperLost)) (Refuses HelperLost) ports (λ p. refl) (λ p. refl) (λ p. refl) (short-status 5)
    (λ p found door. asker-unowed one.number one ports (one ∷ asks) tied there p found) short)

short-lose : (state : State) → IsTied state → AreShort state.ports → AreShort (lose state).state.ports
short-lose state tied short =
    short-tell_each 0 state.under_way.link.last state.under_way.link.asks _ tied.order (tied-close state tied state.under_way.link.state)
    (by_link state.under_way.link.state)
  where
    by_link : (link : LinkState) → AreShort (close_helper link state.ports)
    by_link states.None = short
    by_link (states.Starting job) = short
    by_link (states.Linked at) = short-removed at state.last_port state.ports tied.rising short

short-fault : (fault : Option LinkFault) (state : State) → IsTied state → AreShort state.ports
    → AreShort (lose_if fault state).state.ports
short-fault None state tied short = short
short-fault (Some fault) state tied short = short-lose state tied short

-- ---- a confirmation ends

short-over : (one : Confirmation) (verdict : Verdict) (state : State) → IsIn one state.under_way.confirmations → IsTied state
    → length (verdict_text verdict) ≤ 4 + longest_body → AreShort state.ports
    → AreShort (change_port one.asker (tell verdict) (close_confirmer one.port state.ports))
short-over one verdict state is_in tied fits short =
    short-told one.asker (tell verdict) verdict (close_confirmer one.port state.ports) (λ p. refl) (λ p. refl) (λ p. refl) fits
    (unowed one.port) (by_port one.port)
  where
    there : find_job one.job state.under_way.confirmations ≡ Some one
    there = in-found one 0 state.under_way.last_job tied.raised.order is_in

    was : (at : Option ℕ) (p : Port) → find_port one.asker (close_confirmer at state.ports) ≡ Some p
        → find_port one.asker state.ports ≡ Some p
    was None p found = found
    was (Some at) p found = find_port-left one.asker at 0 state.last_port state.ports p tied.rising found

    unowed : (at : Option ℕ) (p : Port) → find_port one.asker (close_confirmer at state.ports) ≡ Some p → p.door ≡ Clients
        → p.owed ≡ []
    unowed at p found door =
        (tied.raised.asking.waits one.asker one.job p (was at p found) (tied.raised.asking.asks one.job one p there (was at p found))).owed

    by_port : (at : Option ℕ) → AreShort (close_confirmer at state.ports)
    by_port None = short
    by_port (Some at) = short-removed at state.last_port state.ports tied.rising short

granted-short : {chain : List Binding} {one : Confirmation} {wall : ℕ} {held : KeyState} {under_way : UnderWay} {work : Work}
    → IsGranted chain one wall held under_way work → length (verdict_text work.verdict) ≤ 4 + longest_body
granted-short (disallowed never) = short-status 5
granted-short (unasked cause key may fault) = short-status 5
granted-short (allowed key may free) = omega arith

-- ---- an event

-- no client is owed more, and a list of identities has room in a message
record IsSmall (state : State) : Type 0 where
  ports : AreShort state.ports
  room : HasRoom state.held

small-quiet : {event : Happening} {old new : State} → Quiet event old new → IsTied old → IsSmall old → IsSmall new
small-quiet {old = old} (alters at f change) tied small = record {
  ports = short-changed at f old.ports (mild_of change).number (mild_of change).door (λ p found door. by_change change p (small.ports at p found door)) small.ports;
  room = small.room;
}
  where
    by_change : {event : Happening} {g : Port → Port} → Change event at g → (p : Port) → length p.owed ≤ 4 + longest_body
        → length (g p).owed ≤ 4 + longest_body
    by_change (hears piece is) p within = within
    by_change (takes count is) p within = omega (arith, within, length-drop count p.owed)
small-quiet {old = old} (closes at why) tied small =
    record { ports = short-removed at old.last_port old.ports tied.rising small.ports; room = small.room }
small-quiet (goes_on new goes) tied small = record { ports = small.ports; room = small.room }
small-quiet {old = old} (names job at new) tied small =
    record { ports = short-changed at unheard old.ports (λ p. refl) (λ p. refl) (λ p found door. small.ports at p found door) small.ports; room = small.room }
small-quiet {old = old} (links job at new) tied small =
    record { ports = short-changed at unheard old.ports (λ p. refl) (λ p. refl) (λ p found door. small.ports at p found door) small.ports; room = small.room }

small-fault : (fault : Option LinkFault) (state : State) → IsTied state → IsSmall state → IsSmall (lose_if fault state).state
small-fault None state tied small = small
small-fault (Some fault) state tied small = record { ports = short-lose state tied small.ports; room = small.room }

small-makes : {event : Happening} {old : State} {outcome : Outcome} → Makes event old outcome → IsTied old → IsSmall old
    → IsSmall outcome.state
small-makes (stays state) tied small = small
small-makes (first quiet rest) tied small = small-makes rest (tied-quiet quiet tied) (small-quiet quiet tied small)
small-makes (serves body_len port state found door nothing owed own) tied small =
    let fit = fit-serve (asker_at state.moment port) state.held state.under_way small.room (agent_request_of (front_body body_len port.heard)) in
    let take_it = take_frame body_len (attempts state.held.lock (front_body body_len port.heard)) in
    let served = serve (agent_request_of (front_body body_len port.heard)) (asker_at state.moment port) state.held state.under_way in
    record {
      ports = short-told port.number (tell served.work.verdict) served.work.verdict (change_port port.number take_it state.ports) (λ p. refl) (λ p. refl) (λ p. refl) fit.text
          (λ p there client.
          let taken : Some (take_it port) ≡ Some p = sym (find_port-change_port port.number take_it state.ports (λ q. refl) ∙ ap (option_map take_it) found) ∙ there in
          let is : take_it port ≡ p = cc in
          ap (λ (q : Port). q.owed) (sym is) ∙ owed)
          (short-changed port.number take_it state.ports (λ p. refl) (λ p. refl) (λ p there client. small.ports port.number p there client) small.ports);
      room = fit.room;
    }
small-makes (tells piece state) tied small =
    let said = telling piece state.under_way.link in
    small-fault said.fault (with_answers said.link (answers_in said.settled state) state) (tied_mid piece state tied)
    record {
      ports = short-answers 0 state.under_way.link.last said.settled _ state.under_way.link.asks said.link.asks (settling_leads (state.under_way.link.heard ++ piece) state.under_way.link.asks) tied.order tied.tied (told_short piece state.under_way.link) small.ports;
      room = small.room;
    }
small-makes (loses state) tied small = record { ports = short-lose state tied small.ports; room = small.room }
small-makes (overs one state there) tied small =
    record { ports = short-over one (Refuses NotConfirmed) state there tied (short-status 5) small.ports; room = small.room }
small-makes (grants one port state there found) tied small = record {
  ports = short-over one (grant_work port.chain one state).verdict state there tied (granted-short (grant-ends port.chain one state)) small.ports;
  room = omega (arith, used-list (grant_work port.chain one state).used state.held, small.room);
}

-- a port that joins is owed nothing
small-joined : (room : Bool) (door : Door) (state : State) → IsSmall state
    → AreShort (admitted room (suc state.last_port) door state.ports)
small-joined false door state small number port found client = small.ports number port found client
small-joined true door state small number port found client = elim (found_joined number (suc state.last_port) door state.ports port found) [
  | inl was ↦ small.ports number port was client
  | inr new ↦ subst (λ (p : Port). length p.owed ≤ 4 + longest_body) (sym new) (omega arith)
]

small-handle : (event : Happening) (state : State) → IsTied state → IsSmall state → IsSmall (handle event state).state
small-handle event state tied small =
    by_event (λ outcome. IsSmall outcome.state) event state
    (λ door. record { ports = small-joined (has_room door state.ports state.under_way) door state small; room = small.room })
    (λ outcome makes. small-makes makes tied small)

record IsKept (state : State) : Type 0 where
  tied : IsTied state
  small : IsSmall state

-- time passes
small-opened : (moment : Moment) (state : State) → IsTied state → IsSmall state → IsSmall (at_moment moment state)
small-opened moment state tied small =
    (at_moment-keeps IsKept moment state
    (λ s kept. record { tied = lose-tied s kept.tied; small = small-makes {event = Tick} (loses s) kept.tied kept.small })
    (λ one s there kept. record { tied = (fated-makes {event = Tick} (overs one s there) kept.tied).tied; small = small-makes {event = Tick} (overs one s there) kept.tied kept.small })
    record {
      tied = tied-taken moment state tied;
      small = record { ports = small.ports; room = omega (arith, expired-list (max state.moment.mono moment.mono) state.held.table.identities, small.room) };
    }).small

-- ---- a run

brief-run : (events : List Timed) (state : State) → IsTied state → IsSmall state → AreBrief state events
brief-run [] state tied small = tt
brief-run (timed ∷ later) state tied small =
    let opened = small-opened timed.moment state tied small in
    let after = small-handle timed.event (at_moment timed.moment state) (tied-opened timed.moment state tied) opened in
    (opened.ports, after.ports, brief-run later (step state timed.moment timed.event).state (step-fated state timed.moment timed.event tied).tied record { ports = after.ports; room = after.room })

-- whatever happens from the agent's start on
pub always-brief : (settings : Settings) (events : List Timed) → AreBrief (first_state settings) events
always-brief settings events =
    brief-run events (first_state settings) (first-tied settings)
    record { ports = λ number port found door. absurd (cc); room = omega (arith, no-list) }
