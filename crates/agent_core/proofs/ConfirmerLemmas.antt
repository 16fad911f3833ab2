-- What a user's consent is in the agent's parts.
use Rattle.std.proofs.Common.{◌≡◌, ℕ, ◌+◌, ◌≤◌, ◌==◌, List, [], ◌∷◌, ◌++◌, length, refl, ap, arith, sym, subst, ◌∙◌, Option, Some, None, Bool, true, false, if◌then◌else◌}
use Rattle.std.specs.Prelude.{IsSome}
use Rattle.std.specs.Option.{IsSomeAnd, option_map}
use Rattle.lists.proofs.KeyedLemmas.{found_key}
use Rattle.confirm_desk.specs.Confirmations.{Confirmation, Consent, No, NotYet, Yes, consent, find_asker, find_job, find_linked, job_of}
use Rattle.confirm_desk.specs.Calls.{Telling, given_back, telling, telling_by, telling_if}
use Rattle.confirm_desk.specs.declared.held.Verdict.{Verdict as DeskVerdict}
use Rattle.confirm_desk.specs.declared.held.Verdict.TheVariants as verdicts
use Rattle.confirm_desk.specs.declared.held.Held.{Held as CodeHeld}
use Rattle.identity_table.specs.Identities.{AreShort, HeldKey, answer_len, entries_len, entry_len, find_number, longest_private, max_answer}
use Rattle.agent_model.specs.Actions.{Outcome, Stepped, Work, closing}
use Rattle.agent_model.specs.Asking.{AreAsking, JobsRise}
use Rattle.agent_model.specs.Consents.{close_confirmer, confirmer_closes, confirmer_heard, consent_by, grant_concluded, grant_to, over, without_confirmation}
use Rattle.agent_model.specs.KeyStates.{KeyState, after_use}
use Rattle.dest_rule.specs.declared.binding.Binding.{Binding}
use Rattle.identity_table.proofs.NumberLemmas.{found_has_number}
use Rattle.agent_model.proofs.GrantLemmas.{IsGranted, allowed, disallowed, unasked}
use Rattle.agent_model.specs.NumberLists.{put_all}
use Rattle.agent_model.specs.Children.{shut, shut_then}
use Rattle.agent_model.specs.Sound.{IsRising}
use Rattle.agent_model.specs.State.{Nothing, OnAsk, Port, State, UnderWay, change_port, find_port, remove_port}
use Rattle.agent_model.specs.Verdicts.{Awaits, NotConfirmed, Refuses, tell, verdict_waits}
use Rattle.agent_model.proofs.PortsLemmas.{find_port-left, find_port-remove_port}
use Rattle.agent_model.proofs.JobLemmas.{in-by_asker, in-by_port, in-found}
use Rattle.under_way.specs.Parts.{confirmer_told, told_by, told_if}
use Rattle.agent_core.specs.Parts.{after, parts_of, state_of}
use Rattle.agent_core.specs.Slots.{OpenPorts}
use Rattle.agent_core.specs.Confirmers.{AreQuiet, IsShortKey, grant_of}
use Rattle.agent_core.proofs.HelperLemmas.{shut-first}

-- ---- what fits a message to the helper

-- the key of an addition is short
numbered_short : (number : ℕ) (keys : List HeldKey) (key : HeldKey) → find_number number keys ≡ Some key → AreShort keys → (length key.private ≤ longest_private) × (length key.blob ≤ entries_len keys)
unfolding find_number AreShort entries_len
numbered_short number [] key found short = absurd (cc)
numbered_short number (other ∷ keys) key found short =
    by_test (λ later. numbered_short number keys key later short.1) (other.number == number) found
  where
    by_test : (find_number number keys ≡ Some key → (length key.private ≤ longest_private) × (length key.blob ≤ entries_len keys)) → (test : Bool) → (if test then Some other else find_number number keys) ≡ Some key → (length key.private ≤ longest_private) × (length key.blob ≤ entry_len other + entries_len keys)
    by_test rest true is =
        let same : other ≡ key = cc in
        rw (← same) (short.0, omega arith)
    by_test rest false is = ((rest is).0, omega (arith, (rest is).1))

pub short_key : (number : ℕ) (keys : List HeldKey) (key : HeldKey) → find_number number keys ≡ Some key → AreShort keys → answer_len keys ≤ max_answer → IsShortKey key
short_key number keys key found short fits =
    let parts = numbered_short number keys key found short in
    omega (arith, parts.0, parts.1, fits)

-- ---- what a consent uses

-- where an ask is put for it, the key of its addition, which is held
pub used_granted : {chain : List Binding} {one : Confirmation} {wall : ℕ} {held : KeyState} {going : UnderWay} {work : Work} (ask : ℕ) → IsGranted chain one wall held going work → work.verdict ≡ Awaits (OnAsk ask) → (work.used ≡ Some one.addition) × IsSome (find_number one.addition held.table.identities)
used_granted ask (disallowed never) is = absurd (cc)
used_granted ask (unasked cause key may fault) is = absurd (cc)
used_granted {one = one} {held = held} ask (allowed key may free) is = (
  ap (λ (n : ℕ). Some n) (found_has_number one.addition held.table.identities key may.found),
  subst (λ (found : Option HeldKey). IsSome found) (sym may.found) refl,
)

-- and else none
pub unused_granted : {chain : List Binding} {one : Confirmation} {wall : ℕ} {held : KeyState} {going : UnderWay} {work : Work} → IsGranted chain one wall held going work → verdict_waits work.verdict ≡ Nothing → work.used ≡ None
unused_granted (disallowed never) is = refl
unused_granted (unasked cause key may fault) is = refl
unused_granted (allowed key may free) is = absurd (cc)

-- a use changes what is held, and no second
pub used_parts : (wall : ℕ) (used : Option ℕ) (keys : KeyState) (going : UnderWay) (ports : OpenPorts) → parts_of wall (after_use used keys) going ports ≡ (let state : State = record (state_of wall keys going ports) { held = after_use used keys } in let parts : Stepped = record { state = state; closes = ports.closed } in parts)
used_parts wall None keys going ports = refl
used_parts wall (Some addition) keys going ports = refl

-- the parts once an ask was put, or none
pub put_parts : (wall : ℕ) (keys new_keys : KeyState) (going left : UnderWay) (ports : OpenPorts) (work : Work) →
    new_keys ≡ after_use work.used keys → left ≡ work.under_way → parts_of wall new_keys left ports ≡ record (parts_of wall keys going ports) {
      state = record (state_of wall keys going ports) { held = after_use work.used keys; under_way = work.under_way };
    }
put_parts wall keys new_keys going left ports work keys_is left_is =
    ap (λ k. parts_of wall k left ports) keys_is
    ∙ ap (λ u. parts_of wall (after_use work.used keys) u ports) left_is
    ∙ used_parts wall work.used keys work.under_way ports

-- and once the confirmation is over
pub grant_parts : (old : Stepped) (wall : ℕ) (keys : KeyState) (going : UnderWay) (ports new : OpenPorts) (work : Work)
    (one : Confirmation) (number asker : ℕ) → parts_of wall keys going ports ≡ record old {
      state = record old.state { held = after_use work.used old.state.held; under_way = work.under_way };
    } → new ≡ record ports {
      ports = change_port asker (tell work.verdict) (close_confirmer (Some number) ports.ports);
      closed = put_all ports.closed (confirmer_closes (Some number) ports.ports);
    } → one.asker ≡ asker → one.port ≡ Some number
    → parts_of wall keys going new ≡ after old.closes (grant_concluded work one old.state)
grant_parts old wall keys going ports new work one number asker is new_is asker_is port_is =
    let after_ports : Option ℕ → ℕ → OpenPorts = λ confirmer a. record ports {
      ports = change_port a (tell work.verdict) (close_confirmer confirmer ports.ports);
      closed = put_all ports.closed (confirmer_closes confirmer ports.ports);
    } in
    let concluded : Stepped → Stepped = λ s. record s {
      state = record s.state { ports = change_port one.asker (tell work.verdict) (close_confirmer one.port s.state.ports) };
      closes = put_all s.closes (confirmer_closes one.port s.state.ports);
    } in
    ap (λ v. parts_of wall keys going v) (new_is ∙ ap (after_ports (Some number)) (sym asker_is) ∙ ap (λ p. after_ports p one.asker) (sym port_is))
    ∙ ap concluded is

-- ---- what a decision is

-- a yes, to what the confirmation held
pub told_yes : (k : Consent) (one : Confirmation) (piece : List ℕ) (confirmations : List Confirmation) (held : CodeHeld) → (telling_by k one piece confirmations).verdict ≡ verdicts.Granted held → (k ≡ Yes) × (given_back one ≡ held)
told_yes NotYet one piece confirmations held is = absurd (cc)
told_yes Yes one piece confirmations held is = (refl, cc)
told_yes No one piece confirmations held is = absurd (cc)

-- a no
pub told_no : (k : Consent) (one : Confirmation) (piece : List ℕ) (confirmations : List Confirmation) (held : CodeHeld) → (telling_by k one piece confirmations).verdict ≡ verdicts.Denied held → (k ≡ No) × (given_back one ≡ held)
told_no NotYet one piece confirmations held is = absurd (cc)
told_no Yes one piece confirmations held is = absurd (cc)
told_no No one piece confirmations held is = (refl, cc)

-- ---- what a decision does to the state

-- the client is told that there is none
pub over_parts : (wall : ℕ) (keys : KeyState) (going left : UnderWay) (old new : OpenPorts) (one : Confirmation)
    (confirmer : Option ℕ) (asker : ℕ) → left ≡ without_confirmation one.job going → new ≡ record old {
      ports = change_port asker (tell (Refuses NotConfirmed)) (close_confirmer confirmer old.ports);
      closed = put_all old.closed (confirmer_closes confirmer old.ports);
    } → one.asker ≡ asker → one.port ≡ confirmer
    → parts_of wall keys left new ≡ after old.closed (over one (state_of wall keys going old))
over_parts wall keys going left old new one confirmer asker left_is new_is asker_is port_is =
    let to : UnderWay → OpenPorts → Stepped = λ u v. parts_of wall keys u v in
    let without : UnderWay = without_confirmation one.job going in
    ap (λ u. to u new) left_is
    ∙ ap (λ v. to without v) new_is
    ∙ ap (λ a. to without (record old {
      ports = change_port a (tell (Refuses NotConfirmed)) (close_confirmer confirmer old.ports);
      closed = put_all old.closed (confirmer_closes confirmer old.ports);
    })) (sym asker_is)
    ∙ ap (λ p. to without (record old {
      ports = change_port one.asker (tell (Refuses NotConfirmed)) (close_confirmer p old.ports);
      closed = put_all old.closed (confirmer_closes p old.ports);
    })) (sym port_is)

-- ---- confirmations that are found

-- by its job
pub job_own : (job : ℕ) (confirmations : List Confirmation) (one : Confirmation) → find_job job confirmations ≡ Some one → one.job ≡ job
job_own job confirmations one found = found_key job_of job confirmations one found

-- by its port, in the order of the jobs
pub found_linked : (number last : ℕ) (confirmations : List Confirmation) (one : Confirmation) → JobsRise 0 confirmations last → find_linked number confirmations ≡ Some one → find_job one.job confirmations ≡ Some one
found_linked number last confirmations one order found =
    in-found one 0 last order (in-by_port number confirmations one found)

-- by its client
pub found_asker : (number last : ℕ) (confirmations : List Confirmation) (one : Confirmation) → JobsRise 0 confirmations last → find_asker number confirmations ≡ Some one → find_job one.job confirmations ≡ Some one
found_asker number last confirmations one order found =
    in-found one 0 last order (in-by_asker number confirmations one found)

-- ---- who waits

-- between two events whoever a confirmation is for is owed nothing
pub quiet-asking : (ports : List Port) (confirmations : List Confirmation) → AreAsking ports confirmations → AreQuiet confirmations ports
quiet-asking ports confirmations asking = λ job one port found there.
    (asking.waits one.asker job port there (asking.asks job one port found there)).owed

-- ---- what is handed back

-- the client of a confirmation
pub given_asker : (found : Option Confirmation) (one : Confirmation) (held : CodeHeld) → found ≡ Some one → Some held ≡ option_map given_back found → one.asker ≡ held.asker
given_asker found one held there is =
    let both : Some held ≡ Some (given_back one) = is ∙ ap (option_map given_back) there in
    let same : held ≡ given_back one = cc in
    ap (λ (h : CodeHeld). h.asker) (sym same)

-- the job of the one that is found
pub given_job : (found : Option Confirmation) (job : ℕ) → Some job ≡ option_map job_of found → (one : Confirmation) × (found ≡ Some one) × (one.job ≡ job)
given_job None job is = absurd (cc)
given_job (Some one) job is =
    let same : job ≡ one.job = cc in
    (one, refl, sym same)

pub no_job : (found : Option Confirmation) → None ≡ option_map job_of found → found ≡ None
no_job None is = refl
no_job (Some one) is = absurd (cc)

-- ---- a port that was closed before

-- the parts without it
pub closed_parts : (wall : ℕ) (keys : KeyState) (going : UnderWay) (old new : OpenPorts) (number : ℕ) → new ≡ record old {
  ports = remove_port number old.ports;
  closed = put_all old.closed (closing number old.ports []);
} → parts_of wall keys going new ≡ after old.closed (shut number (state_of wall keys going old))
closed_parts wall keys going old new number new_is = ap (λ (v : OpenPorts). parts_of wall keys going v) new_is

-- and what happens then
pub closed_then : (wall : ℕ) (keys : KeyState) (going : UnderWay) (old new : OpenPorts) (number : ℕ)
    (next : State → Outcome) → new ≡ record old {
      ports = remove_port number old.ports;
      closed = put_all old.closed (closing number old.ports []);
    } → after new.closed (next (state_of wall keys going new))
    ≡ after old.closed (shut_then number next (state_of wall keys going old))
closed_then wall keys going old new number next new_is =
    ap (λ (v : OpenPorts). after v.closed (next (state_of wall keys going v))) new_is
    ∙ shut-first number old.closed next (state_of wall keys going old)

-- the client that has left is told nothing
pub silent-left : (job number last : ℕ) (confirmations : List Confirmation) (ports left : List Port) (one : Confirmation) → find_job job confirmations ≡ Some one → one.asker ≡ number → IsRising 0 last ports → left ≡ remove_port number ports → IsSomeAnd (find_job job confirmations) (λ c. (port : Port) → find_port c.asker left ≡ Some port → port.owed ≡ [])
silent-left job number last confirmations ports left one found asker rising left_is =
    let none : find_port number (remove_port number ports) ≡ None = find_port-remove_port number 0 last ports rising in
    let P : Option Confirmation → Type 0 = λ f. IsSomeAnd f (λ c. (port : Port) → find_port c.asker left ≡ Some port → port.owed ≡ []) in
    subst P (sym found) (λ (port : Port) there.
    let gone : Some port ≡ None = sym there ∙ ap (λ a. find_port a left) asker ∙ ap (find_port number) left_is ∙ none in
    absurd (cc))

-- so is another one that is owed nothing
pub silent-kept : (job number last : ℕ) (confirmations : List Confirmation) (ports left : List Port) (one : Confirmation) → find_job job confirmations ≡ Some one → AreQuiet confirmations ports → IsRising 0 last ports → left ≡ remove_port number ports → IsSomeAnd (find_job job confirmations) (λ c. (port : Port) → find_port c.asker left ≡ Some port → port.owed ≡ [])
silent-kept job number last confirmations ports left one found quiet rising left_is =
    let P : Option Confirmation → Type 0 = λ f. IsSomeAnd f (λ c. (port : Port) → find_port c.asker left ≡ Some port → port.owed ≡ []) in
    subst P (sym found) (λ (port : Port) there.
    quiet job one port found (find_port-left one.asker number 0 last ports port rising (subst (λ ps. find_port one.asker ps ≡ Some port) left_is there)))

-- ---- what the child process sent

-- the desk's telling, of the confirmation that is found at the port
pub told_of : (number : ℕ) (piece : List ℕ) (confirmations : List Confirmation) (one : Confirmation) → find_linked number confirmations ≡ Some one → telling number piece confirmations ≡ telling_by (consent one.job (one.heard ++ piece)) one piece confirmations
told_of number piece confirmations one found = ap (λ f. telling_if f piece confirmations) found

-- a decision ends the confirmation
pub ended_by : (number : ℕ) (piece : List ℕ) (going : UnderWay) (one : Confirmation) (verdict : DeskVerdict) → find_linked number going.confirmations ≡ Some one → verdict ≡ (telling number piece going.confirmations).verdict → confirmer_told number piece going ≡ told_by verdict one.job (telling number piece going.confirmations).desk going
ended_by number piece going one verdict found is =
    let told : Telling = telling number piece going.confirmations in
    ap (λ f. told_if f told going) found ∙ ap (λ v. told_by v one.job told.desk going) (sym is)

-- a yes is a grant
pub granted_parts : (piece : List ℕ) (wall : ℕ) (keys : KeyState) (going mid : UnderWay) (ports : OpenPorts)
    (one : Confirmation) (port : Port) → consent one.job (one.heard ++ piece) ≡ Yes
    → find_port one.asker ports.ports ≡ Some port → mid ≡ without_confirmation one.job going
    → grant_concluded (grant_of port.chain one wall keys mid) one (state_of wall keys going ports)
    ≡ confirmer_heard one piece (state_of wall keys going ports)
granted_parts piece wall keys going mid ports one port agreed found mid_is =
    let state : State = state_of wall keys going ports in
    ap (λ u. grant_concluded (grant_of port.chain one wall keys u) one state) mid_is
    ∙ ap (λ f. grant_to f one state) (sym found)
    ∙ ap (λ k. consent_by k one piece state) (sym agreed)
