-- What the actions so far tell of the lock and of the keys, without a state: searches in the past,
-- the newest action first (ours).
use Rattle.std.specs.Prelude.{ℕ, ◌+◌, Bool, true, false, List, [], ◌∷◌, Option, Some, None, Result, Ok, nat_lt, ◌&&◌, if◌then◌else◌}
use Rattle.std.specs.Option.{option_map}
use Rattle.std.specs.Str.{bytes_eq}
use Rattle.agent_msg.specs.declared.fault.MsgFault.{MsgFault}
use Rattle.agent_msg.specs.Requests.{Addition, ClientRequest, Add, Remove, RemoveAll, Lock, Unlock}
use Rattle.identity_table.specs.Deaths.{death_of, lives_at}
use Rattle.agent_model.specs.Actions.{Action, Answered, Asked, ForBinding, ForSignature, Granted, Lost, Over, Proved, Purpose, Raised, Requested}
use Rattle.agent_model.specs.Binds.{agent_request_of}
use Rattle.agent_model.specs.Runs.{Stamped}
use Rattle.agent_model.specs.Verdicts.{Replies, Success, Verdict}

-- ---- what requests did

-- what a request did that was answered SSH_AGENT_SUCCESS, or that a signature with the key of a blob
-- was put to the helper
pub data Done : Type 0 where
  DidNothing : Done
  DidAdd : (addition : Addition) → Done
  DidRemove : (blob : List ℕ) → Done
  DidRemoveAll : Done
  DidLock : Done
  DidUnlock : Done
  DidUse : (blob : List ℕ) → Done

-- what a request with this verdict did to what is held: one that wasn't answered with success did nothing
abbrev pub done_of_request : Result ClientRequest MsgFault → Verdict → Done
done_of_request (Ok (Add addition)) (Replies Success) = DidAdd addition
done_of_request (Ok (Remove blob)) (Replies Success) = DidRemove blob
done_of_request (Ok RemoveAll) (Replies Success) = DidRemoveAll
done_of_request (Ok (Lock passphrase)) (Replies Success) = DidLock
done_of_request (Ok (Unlock passphrase)) (Replies Success) = DidUnlock
done_of_request read verdict = DidNothing

-- what an ask did that was put to the helper: one for a signature used its key
abbrev pub done_by_ask : Purpose → Done
done_by_ask (ForSignature signing) = DidUse signing.blob
done_by_ask (ForBinding binding) = DidNothing

-- what an action did to what is held
abbrev pub done_of : Action → Done
done_of (Requested requesting) =
    done_of_request (agent_request_of requesting.body) requesting.verdict
done_of (Asked asking) = done_by_ask asking.purpose
done_of (Answered settled) = DidNothing
done_of (Proved proving) = DidNothing
done_of (Raised raising) = DidNothing
done_of (Granted job) = DidNothing
done_of (Over job) = DidNothing
done_of Lost = DidNothing

-- ---- the lock

-- whether the agent is locked behind something done, by whether it was before
abbrev pub locked_by : Done → Bool → Bool
locked_by DidLock before = true
locked_by DidUnlock before = false
locked_by done before = before

-- of the locks and unlocks that succeeded, the last is a lock
abbrev pub was_locked : List Stamped → Bool
was_locked [] = false
was_locked (one ∷ before) = locked_by (done_of one.action) (was_locked before)

-- ---- what is held

-- one more where it is an addition
abbrev pub counted_by : Done → ℕ → ℕ
counted_by (DidAdd addition) before = before + 1
counted_by done before = before

-- how many additions succeeded
abbrev pub addition_count : List Stamped → ℕ
addition_count [] = 0
addition_count (one ∷ before) = counted_by (done_of one.action) (addition_count before)

-- an addition that succeeded: its number, the second, what was added, and how many signatures with
-- its key were put to the helper behind it
pub record PastAddition : Type 0 where
  pub number : ℕ
  pub second : ℕ
  pub addition : Addition
  pub uses : ℕ

-- behind one more of them
abbrev pub used_again : PastAddition → PastAddition
used_again past = record past { uses = past.uses + 1 }

-- behind something done at this second, of the key of this blob, by what was there before
abbrev pub added_by : Done → List ℕ → ℕ → ℕ → Option PastAddition → Option PastAddition
added_by (DidAdd addition) blob second number before =
    if bytes_eq addition.key.blob blob
    then Some (record { number = number; second = second; addition = addition; uses = 0 })
    else before
added_by (DidRemove other) blob second number before = if bytes_eq other blob then None else before
added_by DidRemoveAll blob second number before = None
added_by (DidUse other) blob second number before =
    if bytes_eq other blob then option_map used_again before else before
added_by done blob second number before = before

-- the last addition of this blob, if nothing removed it later
abbrev pub last_addition : List ℕ → List Stamped → Option PastAddition
last_addition blob [] = None
last_addition blob (one ∷ before) =
    added_by (done_of one.action) blob one.moment.mono (addition_count before + 1)
    (last_addition blob before)

-- its lifetime has not run out at this second, where additions without one live for so long
abbrev pub is_alive : Option ℕ → ℕ → PastAddition → Bool
is_alive life now past = lives_at now (death_of past.second past.addition.terms.life life)

-- it was used less often than it may be
abbrev pub has_uses : Option ℕ → ℕ → Bool
has_uses None used = true
has_uses (Some uses) used = nat_lt used uses

-- the last addition of a blob, where its identity is held at this second
abbrev pub held_by : Option PastAddition → Option ℕ → ℕ → Option PastAddition
held_by None life now = None
held_by (Some past) life now =
    if is_alive life now past && has_uses past.addition.terms.uses past.uses then Some past
    else None
