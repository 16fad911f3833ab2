-- The private string that is held for a blob is that of its last addition.
use Rattle.std.proofs.Common.{◌≡◌, ℕ, ◌+◌, List, [], ◌∷◌, ◌++◌, refl, sym, ap, subst, ◌∙◌, max, Bool, true, false, cond, Option, Some, None, Result, Ok, Err}
use Rattle.std.specs.Option.{option_map}
use Rattle.std.specs.Str.{bytes_eq}
use Rattle.world_ports.specs.declared.Moment.{Moment}
use Rattle.wire_text.specs.Frames.{front_body}
use Rattle.agent_msg.specs.declared.fault.MsgFault.{MsgFault}
use Rattle.agent_msg.specs.Requests.{Addition, ClientRequest, ListIdentities, Sign, Add, Remove, RemoveAll, Lock, Unlock, Bind, OtherExtension, Unsupported}
use Rattle.dest_rule.specs.declared.binding.Binding.{Binding}
use Rattle.helper_link.specs.Telling.{Telling, telling}
use Rattle.helper_link.specs.declared.fault.LinkFault.{LinkFault}
use Rattle.identity_table.specs.Identities.{HaveOwnBlobs, HeldKey, added, find_identity, find_number, new_identity, remove_identity, spend_identity, used_by}
use Rattle.identity_table.proofs.FindLemmas.{find-alive, find-put, find-remove}
use Rattle.identity_table.proofs.NumberLaws.{blob_of_numbered}
use Rattle.identity_table.proofs.SpendLemmas.{only_uses, spend_nowhere}
use Rattle.agent_model.specs.Actions.{Action, Answered, Asked, ForBinding, ForSignature, Granted, Lost, Outcome, Over, Proved, Purpose, Raised, Requested, Work}
use Rattle.agent_model.specs.Answers.{answers_in, helper_tells, lose_if, with_answers}
use Rattle.agent_model.specs.Binds.{agent_request_of}
use Rattle.agent_model.specs.Consents.{grant_work}
use Rattle.agent_model.specs.Dispatch.{Asker, Served, serve}
use Rattle.agent_model.specs.Events.{Happening, Timed}
use Rattle.agent_model.specs.KeyStates.{KeyState, after_use}
use Rattle.agent_model.specs.Runs.{Stamped, history, run, stamped}
use Rattle.agent_model.specs.State.{Settings, State, UnderWay, first_state}
use Rattle.agent_model.specs.Step.{asker_at, handle, step}
use Rattle.agent_model.specs.Time.{at_moment, taken_in, time_passes}
use Rattle.agent_model.specs.Verdicts.{Cause, Refuses, Verdict}
use Rattle.agent_model.proofs.ActionLemmas.{Each, each-append, each-tells}
use Rattle.agent_model.proofs.GrantLemmas.{IsGranted, allowed, disallowed, grant-ends, unasked}
use Rattle.agent_model.proofs.MakeLemmas.{Makes, alters, by_event, closes, first, goes_on, grants, links, loses, names, overs, serves, stays, tells}
use Rattle.agent_model.proofs.ServeLemmas.{Serves, adds, confirms, denies, empties, lists, locks, removes, serves-any, signs, unlocks, verifies}
use Rattle.agent_model.proofs.TimeLemmas.{at_moment-keeps, time_passes-brings}
use Rattle.agent_laws.specs.History.{onto}
use Rattle.agent_laws.specs.Past.{DidAdd, DidLock, DidNothing, DidRemove, DidRemoveAll, DidUnlock, DidUse, Done, PastAddition, added_by, addition_count, done_of, done_of_request, last_addition, used_again}
use Rattle.agent_laws.proofs.HoldsLemmas.{of_alive}
use Rattle.agent_laws.proofs.KeyLemmas.{first-own, kept-opened, step-kept}
use Rattle.agent_laws.proofs.PastLemmas.{onto-append, stamp, stamps}
use Rattle.agent_laws.proofs.UseLemmas.{find-used}
use Rattle.agent_laws.specs.Grants.{HaveOwnParts}
use Rattle.std.proofs.lemmas.Slice.Eq.{bytes_eq-Decides}
use Rattle.removal_laws.specs.Removals.{end_of, last_private, past_of, private_of}

-- ---- what actions do to the private string of a blob

abbrev private_by : Done → List ℕ → Option (List ℕ) → Option (List ℕ)
private_by (DidAdd addition) blob before =
    cond (bytes_eq addition.key.blob blob) (Some addition.key.private) before
private_by (DidRemove other) blob before = cond (bytes_eq other blob) None before
private_by DidRemoveAll blob before = None
private_by done blob before = before

abbrev private_after : List Action → List ℕ → Option (List ℕ) → Option (List ℕ)
private_after [] blob before = before
private_after (action ∷ later) blob before =
    private_after later blob (private_by (done_of action) blob before)

mapped : (is : Bool) (one other : Option PastAddition)
    → option_map private_of (cond is one other) ≡ cond is (option_map private_of one) (option_map private_of other)
mapped true one other = refl
mapped false one other = refl

used-private : (found : Option PastAddition) → option_map private_of (option_map used_again found) ≡ option_map private_of found
used-private None = refl
used-private (Some past) = refl

same-either : (is : Bool) (before : Option (List ℕ)) → cond is before before ≡ before
same-either true before = refl
same-either false before = refl

private-added : (done : Done) (blob : List ℕ) (second number : ℕ) (before : Option PastAddition)
    → option_map private_of (added_by done blob second number before) ≡ private_by done blob (option_map private_of before)
private-added DidNothing blob second number before = refl
private-added (DidAdd addition) blob second number before =
    mapped (bytes_eq addition.key.blob blob) (Some (record { number = number; second = second; addition = addition; uses = 0 })) before
private-added (DidRemove other) blob second number before = mapped (bytes_eq other blob) None before
private-added DidRemoveAll blob second number before = refl
private-added DidLock blob second number before = refl
private-added DidUnlock blob second number before = refl
private-added (DidUse other) blob second number before =
    mapped (bytes_eq other blob) (option_map used_again before) before
    ∙ ap (λ found. cond (bytes_eq other blob) found (option_map private_of before)) (used-private before)
    ∙ same-either (bytes_eq other blob) (option_map private_of before)

private-onto : (moment : Moment) (blob : List ℕ) (past : List Stamped) (actions : List Action)
    → last_private blob (onto past (stamps moment actions)) ≡ private_after actions blob (last_private blob past)
private-onto moment blob past [] = refl
private-onto moment blob past (action ∷ later) =
    private-onto moment blob (stamp moment action ∷ past) later
    ∙ ap (private_after later blob) (private-added (done_of action) blob moment.mono (addition_count past + 1) (last_addition blob past))

private-append : (blob : List ℕ) (some more : List Action) (before : Option (List ℕ))
    → private_after (some ++ more) blob before ≡ private_after more blob (private_after some blob before)
private-append blob [] more before = refl
private-append blob (action ∷ some) more before =
    private-append blob some more (private_by (done_of action) blob before)

-- actions other than requests do nothing to it
abbrev IsOwn : Action → Type 0
IsOwn (Requested requesting) = ⊥
IsOwn _ = Unit {0}

private-own : (blob : List ℕ) (actions : List Action) (before : Option (List ℕ)) → Each IsOwn actions
    → private_after actions blob before ≡ before
private-own blob [] before own = refl
private-own blob (action ∷ later) before own =
    ap (private_after later blob) (one action own.0) ∙ private-own blob later before own.1
  where
    by_purpose : (purpose : Purpose) (ask port size : ℕ)
        → private_by (done_of (Asked (record { ask = ask; port = port; purpose = purpose; size = size }))) blob before ≡ before
    by_purpose (ForSignature signing) ask port size = refl
    by_purpose (ForBinding binding) ask port size = refl

    one : (action : Action) → IsOwn action → private_by (done_of action) blob before ≡ before
    one (Requested requesting) is = absurd is
    one (Asked asking) is = by_purpose asking.purpose asking.ask asking.port asking.size
    one (Answered settled) is = refl
    one (Proved proving) is = refl
    one (Raised raising) is = refl
    one (Granted job) is = refl
    one (Over job) is = refl
    one Lost is = refl

-- ---- what is held

-- what a blob finds has the private string that this gives for it
abbrev Keeps : (List ℕ → Option (List ℕ)) → List HeldKey → Type 0
Keeps private keys =
    (blob : List ℕ) (key : HeldKey) → find_identity blob keys ≡ Some key → private blob ≡ Some key.private

-- and so it is behind actions
abbrev KeepsBehind : (List ℕ → Option (List ℕ)) → List Action → List HeldKey → Type 0
KeepsBehind private actions keys = Keeps (λ blob. private_after actions blob (private blob)) keys

keeps-own : (private : List ℕ → Option (List ℕ)) (actions : List Action) (keys : List HeldKey) → Each IsOwn actions
    → Keeps private keys → KeepsBehind private actions keys
keeps-own private actions keys own keeps blob key found =
    private-own blob actions (private blob) own ∙ keeps blob key found

-- what is found behind a use was found before, with this private string
used_was : (addition : ℕ) (keys : List HeldKey) → HaveOwnBlobs keys → (blob : List ℕ) (key : HeldKey)
    → find_identity blob (spend_identity addition keys) ≡ Some key
    → (was : HeldKey) × (find_identity blob keys ≡ Some was) × (was.private ≡ key.private)
used_was addition keys own blob key found = by_number (find_number addition keys) refl
  where
    Was : Type 0
    Was = (was : HeldKey) × (find_identity blob keys ≡ Some was) × (was.private ≡ key.private)

    by_blob : (one : HeldKey) (same : Bool) → find_number addition keys ≡ Some one → bytes_eq one.blob blob ≡ same
        → cond same (used_by one.uses one) (find_identity blob keys) ≡ Some key → Was
    by_blob one true is same left =
        let equal : one.blob ≡ blob = (bytes_eq-Decides one.blob blob).0 same in
        (one, subst (λ b. find_identity b keys ≡ Some one) equal (blob_of_numbered addition keys one own is), sym (ap (λ (k : HeldKey). k.private) (only_uses one.uses one key left)))
    by_blob one false is same left = (key, left, refl)

    by_number : (one : Option HeldKey) → find_number addition keys ≡ one → Was
    by_number None is =
        (key, sym (ap (find_identity blob) (spend_nowhere addition keys is)) ∙ found, refl)
    by_number (Some one) is =
        by_blob one (bytes_eq one.blob blob) is refl (sym (find-used blob addition one keys own is) ∙ found)

keeps-used : (private : List ℕ → Option (List ℕ)) (used : Option ℕ) (held : KeyState)
    → HaveOwnBlobs held.table.identities → Keeps private held.table.identities
    → Keeps private (after_use used held).table.identities
keeps-used private None held own keeps = keeps
keeps-used private (Some addition) held own keeps = λ blob key found.
    let was = used_was addition held.table.identities own blob key found in
    keeps blob was.0 was.1 ∙ ap Some was.2

-- as time passes
keeps-alive : (private : List ℕ → Option (List ℕ)) (moment : Moment) (state : State)
    → HaveOwnBlobs state.held.table.identities → Keeps private state.held.table.identities
    → Keeps private (taken_in moment state).held.table.identities
keeps-alive private moment state own keeps blob key found =
    let second : ℕ = max state.moment.mono moment.mono in
    keeps blob key (of_alive second (find_identity blob state.held.table.identities) key
    (sym (find-alive blob second state.held.table.identities own) ∙ found))

-- nothing is found where nothing is held
none_found : (blob : List ℕ) (key : HeldKey) → find_identity blob [] ≡ Some key → ⊥
unfolding find_identity
none_found blob key found = absurd (cc)

-- ---- requests

module _ (private : List ℕ → Option (List ℕ)) (read : Result ClientRequest MsgFault) (asker : Asker) (held : KeyState) (under_way : UnderWay) (own : HaveOwnBlobs held.table.identities) (keeps : Keeps private held.table.identities) where
  -- behind a request that did this
  abbrev Did : Done → List HeldKey → Type 0
  Did done keys = Keeps (λ blob. private_by done blob (private blob)) keys

  did-nothing : (cause : Cause) → done_of_request read (Refuses cause) ≡ DidNothing
  did-nothing cause = by_read read
    where
      by_read : (read : Result ClientRequest MsgFault) → done_of_request read (Refuses cause) ≡ DidNothing
      by_read (Err fault) = refl
      by_read (Ok ListIdentities) = refl
      by_read (Ok (Sign signing)) = refl
      by_read (Ok (Add addition)) = refl
      by_read (Ok (Remove blob)) = refl
      by_read (Ok RemoveAll) = refl
      by_read (Ok (Lock passphrase)) = refl
      by_read (Ok (Unlock passphrase)) = refl
      by_read (Ok (Bind bind)) = refl
      by_read (Ok (OtherExtension name)) = refl
      by_read (Ok (Unsupported number)) = refl

  did-add : (addition : Addition) → Did (DidAdd addition) (added held.table addition.key addition.terms addition.comment asker.mono).identities
  did-add addition blob key found =
      by_test (bytes_eq addition.key.blob blob) (sym (find-put blob new held.table.identities) ∙ found)
    where
      new : HeldKey
      new = new_identity held.table addition.key addition.terms addition.comment asker.mono

      by_test : (same : Bool) → cond same (Some new) (find_identity blob held.table.identities) ≡ Some key
          → cond same (Some addition.key.private) (private blob) ≡ Some key.private
      by_test true is = let e : new ≡ key = cc in ap (λ (k : HeldKey). Some k.private) e
      by_test false is = keeps blob key is

  did-remove : (removed : List ℕ) → Did (DidRemove removed) (remove_identity removed held.table.identities)
  did-remove removed blob key found =
      by_test (bytes_eq removed blob) (sym (find-remove blob removed held.table.identities own) ∙ found)
    where
      by_test : (same : Bool) → cond same None (find_identity blob held.table.identities) ≡ Some key
          → cond same None (private blob) ≡ Some key.private
      by_test true is = absurd (cc)
      by_test false is = keeps blob key is

  -- what it did by its verdict
  as_read : (request : ClientRequest) (verdict : Verdict) (keys : List HeldKey) → read ≡ Ok request
      → Did (done_of_request (Ok request) verdict) keys → Did (done_of_request read verdict) keys
  as_read request verdict keys is = subst (λ r. Did (done_of_request r verdict) keys) (sym is)

  did-served : {served : Served} → Serves read asker held under_way served
      → Did (done_of_request read served.work.verdict) served.held.table.identities
  did-served (denies cause) = subst (λ done. Did done held.table.identities) (sym (did-nothing cause)) keeps
  did-served (lists identities is) = as_read ListIdentities _ _ is keeps
  did-served (adds addition is) = as_read (Add addition) _ _ is (did-add addition)
  did-served (removes blob is) = as_read (Remove blob) _ _ is (did-remove blob)
  did-served (empties is) = as_read RemoveAll _ _ is (λ blob key found. absurd (none_found blob key found))
  did-served (locks passphrase is) = as_read (Lock passphrase) _ _ is keeps
  did-served (unlocks passphrase is) = as_read (Unlock passphrase) _ _ is keeps
  did-served (signs signing key is found asks free) =
      as_read (Sign signing) _ _ is (keeps-used private (Some key.number) held own keeps)
  did-served (confirms signing key is found free) = as_read (Sign signing) _ _ is keeps
  did-served (verifies bind is_new is stands free) = as_read (Bind bind) _ _ is keeps

  own-served : {served : Served} → Serves read asker held under_way served → Each IsOwn served.work.actions
  own-served (denies cause) = tt
  own-served (lists identities is) = tt
  own-served (adds addition is) = tt
  own-served (removes blob is) = tt
  own-served (empties is) = tt
  own-served (locks passphrase is) = tt
  own-served (unlocks passphrase is) = tt
  own-served (signs signing key is found asks free) = (tt, tt)
  own-served (confirms signing key is found free) = (tt, tt)
  own-served (verifies bind is_new is stands free) = (tt, tt)

  abbrev ends : Served
  ends = serve read asker held under_way

  keeps-served : KeepsBehind (λ blob. private_by (done_of_request read ends.work.verdict) blob (private blob)) ends.work.actions ends.held.table.identities
  keeps-served =
      keeps-own (λ blob. private_by (done_of_request read ends.work.verdict) blob (private blob)) ends.work.actions ends.held.table.identities
      (own-served (serves-any read asker held under_way)) (did-served (serves-any read asker held under_way))

-- ---- events

abbrev KeepsAfter : (List ℕ → Option (List ℕ)) → Outcome → Type 0
KeepsAfter private outcome = KeepsBehind private outcome.actions outcome.state.held.table.identities

keeps-makes : {event : Happening} {old : State} {outcome : Outcome} (private : List ℕ → Option (List ℕ))
    → Makes event old outcome → HaveOwnBlobs old.held.table.identities → Keeps private old.held.table.identities
    → KeepsAfter private outcome
keeps-makes private (stays state) own keeps = keeps
keeps-makes private (first (alters number f change) rest) own keeps = keeps-makes private rest own keeps
keeps-makes private (first (closes number may) rest) own keeps = keeps-makes private rest own keeps
keeps-makes private (first (goes_on new goes) rest) own keeps = keeps-makes private rest own keeps
keeps-makes private (first (names job number new) rest) own keeps = keeps-makes private rest own keeps
keeps-makes private (first (links job number new) rest) own keeps = keeps-makes private rest own keeps
keeps-makes private (serves body_len port state found door waits owed its) own keeps =
    keeps-served private (agent_request_of (front_body body_len port.heard)) (asker_at state.moment port) state.held state.under_way own keeps
keeps-makes private (tells piece state) own keeps =
    keeps-own private (helper_tells told state).actions (helper_tells told state).state.held.table.identities
    (each-tells IsOwn (λ one. tt) (λ proving. tt) tt told state) (by_fault told.fault (with_answers told.link (answers_in told.settled state) state) keeps)
  where
    told : Telling
    told = telling piece state.under_way.link

    by_fault : (fault : Option LinkFault) (mid : State) → Keeps private mid.held.table.identities → Keeps private (lose_if fault mid).state.held.table.identities
    by_fault None mid mid_keeps = mid_keeps
    by_fault (Some fault) mid mid_keeps = mid_keeps
keeps-makes private (loses state) own keeps = keeps-own private (Lost ∷ []) state.held.table.identities (tt, tt) keeps
keeps-makes private (overs confirmation state there) own keeps =
    keeps-own private (Over confirmation.job ∷ []) state.held.table.identities (tt, tt) keeps
keeps-makes private (grants confirmation port state there opened) own keeps =
    keeps-own private (Granted confirmation.job ∷ work.actions) (after_use work.used state.held).table.identities
    (tt, by_work (grant-ends port.chain confirmation state)) (keeps-used private work.used state.held own keeps)
  where
    work : Work
    work = grant_work port.chain confirmation state

    by_work : {chain : List Binding} {wall : ℕ} {held : KeyState} {under_way : UnderWay} {work : Work}
        → IsGranted chain confirmation wall held under_way work → Each IsOwn work.actions
    by_work (disallowed never) = tt
    by_work (unasked cause key may fault) = tt
    by_work (allowed key may free) = (tt, tt)

idle-moment : (moment : Moment) (state : State) → Each IsOwn (time_passes moment state).actions
idle-moment moment state =
    time_passes-brings (λ s outcome. Each IsOwn outcome.actions) moment state (λ s. tt) (λ s. (tt, tt)) (λ one s there. (tt, tt))
    (λ s first later. each-append IsOwn first.actions later.actions)

-- a moment leaves the keys that are alive then
keeps-moment : (private : List ℕ → Option (List ℕ)) (moment : Moment) (state : State)
    → HaveOwnBlobs state.held.table.identities → Keeps private state.held.table.identities
    → Keeps private (at_moment moment state).held.table.identities
keeps-moment private moment state own keeps =
    at_moment-keeps (λ s. Keeps private s.held.table.identities) moment state (λ s kept. kept) (λ one s there kept. kept)
    (keeps-alive private moment state own keeps)

keeps-step : (private : List ℕ → Option (List ℕ)) (state : State) (moment : Moment) (event : Happening)
    → HaveOwnParts state.held.table → Keeps private state.held.table.identities
    → KeepsAfter private (step state moment event)
keeps-step private state moment event own keeps = λ blob key found.
    private-append blob before now.actions (private blob)
    ∙ ap (private_after now.actions blob) (private-own blob before (private blob) (idle-moment moment state))
    ∙ by_event (KeepsAfter private) event opened (λ door. at_opened)
    (λ outcome makes. keeps-makes private makes (kept-opened moment state own).own.blobs at_opened) blob key found
  where
    opened : State
    opened = at_moment moment state

    before : List Action
    before = (time_passes moment state).actions

    now : Outcome
    now = handle event opened

    at_opened : Keeps private opened.held.table.identities
    at_opened = keeps-moment private moment state own.blobs keeps

-- ---- runs

keeps-run : (past : List Stamped) (state : State) (events : List Timed) → HaveOwnParts state.held.table
    → Keeps (λ blob. last_private blob past) state.held.table.identities
    → Keeps (λ blob. last_private blob (onto past (history state events))) (run state events).held.table.identities
keeps-run past state [] own keeps = keeps
keeps-run past state (timed ∷ later) own keeps = λ blob key found.
    ap (last_private blob) (onto-append past (stamped after) (history after.state later))
    ∙ keeps-run (onto past (stamped after)) after.state later (step-kept state timed.moment timed.event own).own
    (λ blob key found. private-onto after.state.moment blob past after.actions ∙ keeps-step (λ blob. last_private blob past) state timed.moment timed.event own keeps blob key found) blob key found
  where
    after : Outcome
    after = step state timed.moment timed.event

-- from the first state on
pub held_as_added : (settings : Settings) (events : List Timed) (blob : List ℕ) (key : HeldKey)
    → find_identity blob (end_of settings events).held.table.identities ≡ Some key
    → last_private blob (past_of settings events) ≡ Some key.private
held_as_added settings events =
    keeps-run [] (first_state settings) events (first-own settings) (λ blob key found. absurd (none_found blob key found))
