-- What is held stands in the order that the past tells, behind each request and each consent.
use Rattle.std.proofs.Common.{◌≡◌, ℕ, List, [], ◌∷◌, ◌++◌, refl, sym, subst, ◌∙◌, arith, cond, is_some, Option, Some, None, Result, Ok, Err}
use Rattle.std.specs.Option.{option_map}
use Rattle.world_ports.specs.declared.Moment.{Moment}
use Rattle.agent_msg.specs.declared.fault.MsgFault.{MsgFault}
use Rattle.agent_msg.specs.Requests.{Addition, ClientRequest, Signing, ListIdentities, Sign, Add, Remove, RemoveAll, Lock, Unlock, Bind, OtherExtension, Unsupported}
use Rattle.confirm_desk.specs.Confirmations.{Confirmation}
use Rattle.dest_rule.specs.declared.binding.Binding.{Binding}
use Rattle.identity_table.specs.Identities.{HeldKey, added, find_identity, new_identity, put_identity}
use Rattle.identity_table.proofs.FindLemmas.{if_alive}
use Rattle.identity_table.proofs.NumberLaws.{blob_of_numbered, number_of_found}
use Rattle.agent_model.specs.Actions.{Action, Answered, Asked, Granted, Lost, Over, Proved, Raised, Requested, Work}
use Rattle.agent_model.specs.Binds.{agent_request_of}
use Rattle.agent_model.specs.Dispatch.{Asker, Served, serve}
use Rattle.agent_model.specs.KeyStates.{KeyState, after_use}
use Rattle.agent_model.specs.Runs.{Stamped}
use Rattle.agent_model.specs.State.{UnderWay}
use Rattle.agent_model.specs.Verdicts.{Cause, Refuses, Verdict}
use Rattle.agent_model.proofs.ActionLemmas.{Each}
use Rattle.agent_model.proofs.GrantLemmas.{IsGranted, allowed, disallowed, unasked}
use Rattle.agent_model.proofs.ServeLemmas.{Serves, adds, confirms, denies, empties, lists, locks, removes, serves-any, signs, unlocks, verifies}
use Rattle.agent_laws.specs.History.{onto}
use Rattle.agent_laws.specs.Past.{DidAdd, DidNothing, Done, PastAddition, done_of, done_of_request, held_by}
use Rattle.agent_laws.proofs.HoldsLemmas.{Facts, Holds, facts_after, facts_of, facts_then, key_of, used-holds}
use Rattle.agent_laws.proofs.PastLemmas.{stamp, stamps}
use Rattle.agent_laws.proofs.ServedLemmas.{holds-served}
use Rattle.agent_laws.proofs.UsableLemmas.{usable-asked}
use Rattle.list_laws.specs.Lists.{at_end, come_by, in_order}
use Rattle.list_laws.proofs.FoundLemmas.{AreInOrder, order-last, order-none, order-placed, order-removed, order-used}

-- ---- the order that actions leave

-- behind something done at this second
abbrev pub order_after : Option ℕ → Done → ℕ → Facts → List (List ℕ) → List (List ℕ)
order_after life done second facts blobs =
    come_by done (λ blob. is_some (held_by (facts.last blob) life second)) blobs

-- behind these actions
abbrev pub order_then : Option ℕ → List Action → ℕ → Facts → List (List ℕ) → List (List ℕ)
order_then life [] second facts blobs = blobs
order_then life (action ∷ later) second facts blobs =
    order_then life later second (facts_after (done_of action) second facts) (order_after life (done_of action) second facts blobs)

pub order-onto : (life : Option ℕ) (moment : Moment) (past : List Stamped) (actions : List Action)
    → in_order life (onto past (stamps moment actions)) ≡ order_then life actions moment.mono (facts_of past) (in_order life past)
order-onto life moment past [] = refl
order-onto life moment past (action ∷ later) = order-onto life moment (stamp moment action ∷ past) later

-- ---- actions that do nothing to what is held

-- neither a request nor an ask
abbrev pub IsIdle : Action → Type 0
IsIdle (Requested requesting) = ⊥
IsIdle (Asked asking) = ⊥
IsIdle _ = Unit {0}

pub idle-facts : (actions : List Action) (second : ℕ) (facts : Facts) → Each IsIdle actions
    → facts_then actions second facts ≡ facts
idle-facts [] second facts idle = refl
idle-facts (Requested requesting ∷ later) second facts idle = absurd idle.0
idle-facts (Asked asking ∷ later) second facts idle = absurd idle.0
idle-facts (Answered settled ∷ later) second facts idle = idle-facts later second facts idle.1
idle-facts (Proved proving ∷ later) second facts idle = idle-facts later second facts idle.1
idle-facts (Raised raising ∷ later) second facts idle = idle-facts later second facts idle.1
idle-facts (Granted job ∷ later) second facts idle = idle-facts later second facts idle.1
idle-facts (Over job ∷ later) second facts idle = idle-facts later second facts idle.1
idle-facts (Lost ∷ later) second facts idle = idle-facts later second facts idle.1

pub idle-order : (life : Option ℕ) (actions : List Action) (second : ℕ) (facts : Facts) (blobs : List (List ℕ)) → Each IsIdle actions
    → order_then life actions second facts blobs ≡ blobs
idle-order life [] second facts blobs idle = refl
idle-order life (Requested requesting ∷ later) second facts blobs idle = absurd idle.0
idle-order life (Asked asking ∷ later) second facts blobs idle = absurd idle.0
idle-order life (Answered settled ∷ later) second facts blobs idle = idle-order life later second facts blobs idle.1
idle-order life (Proved proving ∷ later) second facts blobs idle = idle-order life later second facts blobs idle.1
idle-order life (Raised raising ∷ later) second facts blobs idle = idle-order life later second facts blobs idle.1
idle-order life (Granted job ∷ later) second facts blobs idle = idle-order life later second facts blobs idle.1
idle-order life (Over job ∷ later) second facts blobs idle = idle-order life later second facts blobs idle.1
idle-order life (Lost ∷ later) second facts blobs idle = idle-order life later second facts blobs idle.1

-- more behind them
pub facts-append : (some more : List Action) (second : ℕ) (facts : Facts)
    → facts_then (some ++ more) second facts ≡ facts_then more second (facts_then some second facts)
facts-append [] more second facts = refl
facts-append (action ∷ some) more second facts = facts-append some more second (facts_after (done_of action) second facts)

pub idle-order_more : (life : Option ℕ) (some more : List Action) (second : ℕ) (facts : Facts) (blobs : List (List ℕ)) → Each IsIdle some
    → order_then life (some ++ more) second facts blobs ≡ order_then life more second facts blobs
idle-order_more life [] more second facts blobs idle = refl
idle-order_more life (Requested requesting ∷ later) more second facts blobs idle = absurd idle.0
idle-order_more life (Asked asking ∷ later) more second facts blobs idle = absurd idle.0
idle-order_more life (Answered settled ∷ later) more second facts blobs idle = idle-order_more life later more second facts blobs idle.1
idle-order_more life (Proved proving ∷ later) more second facts blobs idle = idle-order_more life later more second facts blobs idle.1
idle-order_more life (Raised raising ∷ later) more second facts blobs idle = idle-order_more life later more second facts blobs idle.1
idle-order_more life (Granted job ∷ later) more second facts blobs idle = idle-order_more life later more second facts blobs idle.1
idle-order_more life (Over job ∷ later) more second facts blobs idle = idle-order_more life later more second facts blobs idle.1
idle-order_more life (Lost ∷ later) more second facts blobs idle = idle-order_more life later more second facts blobs idle.1

-- ---- what is held and in which order

-- those that are held are alive at this second
abbrev pub AreFresh : ℕ → KeyState → Type 0
AreFresh second held = (blob : List ℕ)
    → if_alive second (find_identity blob held.table.identities) ≡ find_identity blob held.table.identities

-- behind these actions the past tells what is held, and its order
pub record HoldsBehind (life : Option ℕ) (second : ℕ) (facts : Facts) (blobs : List (List ℕ)) (actions : List Action) (held : KeyState) : Type 0 where
  pub holds : Holds life second (facts_then actions second facts) held
  pub order : AreInOrder (order_then life actions second facts blobs) held.table.identities

pub holds-idle : (life : Option ℕ) (second : ℕ) (facts : Facts) (blobs : List (List ℕ)) (actions : List Action) (held : KeyState)
    → Each IsIdle actions → Holds life second facts held → AreInOrder blobs held.table.identities
    → HoldsBehind life second facts blobs actions held
holds-idle life second facts blobs actions held idle holds order = record {
  holds = subst (λ f. Holds life second f held) (sym (idle-facts actions second facts idle)) holds;
  order = subst (λ all. AreInOrder all held.table.identities) (sym (idle-order life actions second facts blobs idle)) order;
}

-- ---- requests

-- the order behind something done, and behind the actions that it leads to
record OrderAfter (life : Option ℕ) (second : ℕ) (facts : Facts) (blobs : List (List ℕ)) (done : Done) (actions : List Action) (after : KeyState) : Type 0 where
  order : AreInOrder (order_then life actions second (facts_after done second facts) (order_after life done second facts blobs)) after.table.identities

module _ (life : Option ℕ) (asker : Asker) (facts : Facts) (blobs : List (List ℕ)) (held : KeyState) (under_way : UnderWay) (holds : Holds life asker.mono facts held) (fresh : AreFresh asker.mono held) (order : AreInOrder blobs held.table.identities) where
  -- what is found is what stands by the past
  pub found_is : (blob : List ℕ)
      → find_identity blob held.table.identities ≡ option_map (key_of life) (held_by (facts.last blob) life asker.mono)
  found_is blob = sym (fresh blob) ∙ holds.found blob asker.mono (omega arith)

  abbrev Told : Done → List Action → KeyState → Type 0
  Told done actions after = OrderAfter life asker.mono facts blobs done actions after

  -- one is added: it keeps its place where its key stands
  added_told : (addition : Addition)
      → Told (DidAdd addition) [] (record held { table = added held.table addition.key addition.terms addition.comment asker.mono })
  added_told addition =
      record { order = by_stands (held_by (facts.last addition.key.blob) life asker.mono) (found_is addition.key.blob) }
    where
      new : HeldKey
      new = new_identity held.table addition.key addition.terms addition.comment asker.mono

      by_stands : (stands : Option PastAddition)
          → find_identity new.blob held.table.identities ≡ option_map (key_of life) stands
          → AreInOrder (cond (is_some stands) blobs (at_end new.blob blobs)) (put_identity new held.table.identities)
      by_stands None is = order-last new blobs held.table.identities is order
      by_stands (Some past) is = order-placed new (key_of life past) blobs held.table.identities holds.own is order

  -- one is used
  used_told : (signing : Signing) (key : HeldKey) (actions : List Action)
      → find_identity signing.blob held.table.identities ≡ Some key
      → order_then life actions asker.mono (facts_after DidNothing asker.mono facts) blobs ≡ blobs
      → Told DidNothing actions (after_use (Some key.number) held)
  used_told signing key actions found same =
      let there = number_of_found signing.blob held.table.last held.table.identities key holds.numbers found in
      record {
        order = subst (λ all. AreInOrder all (after_use (Some key.number) held).table.identities) (sym same)
            (order-used key.number held.table.last key blobs held.table.identities holds.own holds.numbers there.1 order);
      }

  nothing_by : (read : Result ClientRequest MsgFault) (cause : Cause)
      → done_of_request read (Refuses cause) ≡ DidNothing
  nothing_by (Err fault) cause = refl
  nothing_by (Ok ListIdentities) cause = refl
  nothing_by (Ok (Sign signing)) cause = refl
  nothing_by (Ok (Add addition)) cause = refl
  nothing_by (Ok (Remove blob)) cause = refl
  nothing_by (Ok RemoveAll) cause = refl
  nothing_by (Ok (Lock passphrase)) cause = refl
  nothing_by (Ok (Unlock passphrase)) cause = refl
  nothing_by (Ok (Bind bind)) cause = refl
  nothing_by (Ok (OtherExtension name)) cause = refl
  nothing_by (Ok (Unsupported number)) cause = refl

  module _ (read : Result ClientRequest MsgFault) where
    as_read : (request : ClientRequest) (verdict : Verdict) (actions : List Action) (after : KeyState) → read ≡ Ok request
        → Told (done_of_request (Ok request) verdict) actions after → Told (done_of_request read verdict) actions after
    as_read request verdict actions after is =
        subst (λ r. Told (done_of_request r verdict) actions after) (sym is)

    told-served : {served : Served} → Serves read asker held under_way served
        → Told (done_of_request read served.work.verdict) served.work.actions served.held
    told-served (denies cause) = subst (λ done. Told done [] held) (sym (nothing_by read cause)) record { order = order }
    told-served (lists identities is) = as_read ListIdentities _ _ held is record { order = order }
    told-served (adds addition is) = as_read (Add addition) _ _ _ is (added_told addition)
    told-served (removes blob is) =
        as_read (Remove blob) _ _ _ is record { order = order-removed blob blobs held.table.identities holds.own order }
    told-served (empties is) = as_read RemoveAll _ _ _ is record { order = order-none blobs }
    told-served (locks passphrase is) = as_read (Lock passphrase) _ _ _ is record { order = order }
    told-served (unlocks passphrase is) = as_read (Unlock passphrase) _ _ _ is record { order = order }
    told-served (signs signing key is found asks free) =
        as_read (Sign signing) _ _ _ is (used_told signing key _ found refl)
    told-served (confirms signing key is found free) = as_read (Sign signing) _ _ held is record { order = order }
    told-served (verifies bind is_new is stands free) = as_read (Bind bind) _ _ held is record { order = order }

  -- whatever is asked
  pub order-served : (body : List ℕ) → let served : Served = serve (agent_request_of body) asker held under_way in
      HoldsBehind life asker.mono facts blobs (Requested (record { port = asker.port; body = body; verdict = served.work.verdict }) ∷ served.work.actions) served.held
  order-served body = record {
    holds = (holds-served life asker facts held under_way holds (agent_request_of body) (usable-asked body)).holds;
    order = (told-served (agent_request_of body) (serves-any (agent_request_of body) asker held under_way)).order;
  }

-- ---- a consent

pub order-granted : (life : Option ℕ) (second : ℕ) (facts : Facts) (blobs : List (List ℕ)) {chain : List Binding} {confirmation : Confirmation} {wall : ℕ} {held : KeyState} {under_way : UnderWay} {work : Work}
    → Holds life second facts held → AreInOrder blobs held.table.identities
    → IsGranted chain confirmation wall held under_way work
    → HoldsBehind life second facts blobs (Granted confirmation.job ∷ work.actions) (after_use work.used held)
order-granted life second facts blobs {held = held} holds order (disallowed never) =
    holds-idle life second facts blobs _ held (tt, tt) holds order
order-granted life second facts blobs {held = held} holds order (unasked cause key may fault) =
    holds-idle life second facts blobs _ held (tt, tt) holds order
order-granted life second facts blobs {confirmation = confirmation} {held = held} holds order (allowed key may free) =
    let found = blob_of_numbered confirmation.addition held.table.identities key holds.own may.found in
    let there = number_of_found key.blob held.table.last held.table.identities key holds.numbers found in
    record {
      holds = used-holds life second facts held key.blob key found holds;
      order = order-used key.number held.table.last key blobs held.table.identities holds.own holds.numbers there.1 order;
    }
