-- The messages of asks, one behind another, and the private string of a key that is held.
use Rattle.std.proofs.Common.{◌≡◌, ◌+◌, ◌&&◌, ℕ, List, [], ◌∷◌, ◌++◌, refl, ap, arith, sym, subst, ◌∙◌, Option, Some, None, Bool, true, false, if◌then◌else◌, Result, Ok}
use Rattle.world_ports.specs.declared.Moment.{Moment}
use Rattle.agent_msg.specs.declared.fault.MsgFault.{MsgFault}
use Rattle.agent_msg.specs.Requests.{ClientRequest, Sign, Signing}
use Rattle.child_msg.specs.Messages.{ToChildMessage}
use Rattle.helper_link.specs.HelperLink.{sign_request}
use Rattle.identity_table.specs.Identities.{HeldKey, find_identity}
use Rattle.identity_table.proofs.FindLemmas.{found_has, if_alive}
use Rattle.agent_model.specs.Actions.{Action, Asked, Requested, Requesting}
use Rattle.agent_model.specs.Binds.{agent_request_of}
use Rattle.agent_model.specs.Dispatch.{Asker, Served}
use Rattle.agent_model.specs.Errands.{Errand, Signs, Verifies, asking_of, message_of}
use Rattle.agent_model.specs.KeyStates.{KeyState}
use Rattle.agent_model.specs.Runs.{Stamped}
use Rattle.agent_model.specs.State.{UnderWay}
use Rattle.agent_model.specs.Verdicts.{Verdict}
use Rattle.agent_model.proofs.ServeLemmas.{Serves, adds, confirms, denies, empties, lists, locks, removes, signs as signs_it, unlocks, verifies as verifies_it}
use Rattle.agent_laws.specs.History.{onto}
use Rattle.agent_laws.specs.Past.{PastAddition, added_by, addition_count, done_of_request, has_uses, held_by, is_alive, last_addition}
use Rattle.agent_laws.specs.Puts.{ArePut, IsMessage, asks, none, passes, signs, verifies}
use Rattle.agent_laws.proofs.HoldsLemmas.{Holds, Made, facts_of, made_of}
use Rattle.agent_laws.proofs.PastLemmas.{stamp, stamps, stamps-append}
use Rattle.agent_laws.proofs.SilentLemmas.{AreSilent, no_ask}

-- ---- one behind another

pub puts-append : {past some more : List Stamped} {first later : List ToChildMessage}
    → ArePut past some first → ArePut (onto past some) more later
    → ArePut past (some ++ more) (first ++ later)
puts-append (none past) rest = rest
puts-append (asks past moment asking others message messages is size puts) rest =
    asks past moment asking _ message _ is size (puts-append puts rest)
puts-append (passes past one others messages silent puts) rest =
    passes past one _ _ silent (puts-append puts rest)

-- actions at a moment
pub puts-more : (moment : Moment) (past : List Stamped) (some more : List Action) (first later : List ToChildMessage)
    → ArePut past (stamps moment some) first
    → ArePut (onto past (stamps moment some)) (stamps moment more) later
    → ArePut past (stamps moment (some ++ more)) (first ++ later)
puts-more moment past some more first later one two =
    subst (λ all. ArePut past all (first ++ later)) (sym (stamps-append moment some more)) (puts-append one two)

-- nothing is put where nothing is asked
pub puts-silent : (moment : Moment) (past : List Stamped) (actions : List Action) → AreSilent actions
    → ArePut past (stamps moment actions) []
puts-silent moment past [] silent = none past
puts-silent moment past (action ∷ later) silent =
    passes past (stamp moment action) (stamps moment later) [] (no_ask action silent.0) (puts-silent moment (stamp moment action ∷ past) later silent.1)

-- ---- the private string

-- what is held was the last addition
held-last : (found : Option PastAddition) (life : Option ℕ) (now : ℕ) (past : PastAddition)
    → held_by found life now ≡ Some past → found ≡ Some past
held-last None life now past is = absurd (cc)
held-last (Some other) life now past is =
    by_test (is_alive life now other && has_uses other.addition.terms.uses other.uses) is
  where
    by_test : (test : Bool) → (if test then Some other else None) ≡ Some past → Some other ≡ Some past
    by_test true same = same
    by_test false same = absurd (cc)

-- the last addition of a key's blob, with its private string
pub record Added (blob secret : List ℕ) (past : List Stamped) : Type 0 where
  pub added : PastAddition
  pub last : last_addition blob past ≡ Some added
  pub private : added.addition.key.private ≡ secret

-- a key that is held has the private string of the last addition of its blob
pub private-held : (life : Option ℕ) (second : ℕ) (past : List Stamped) (held : KeyState) (blob : List ℕ) (key : HeldKey)
    → Holds life second (facts_of past) held
    → if_alive second (find_identity blob held.table.identities) ≡ find_identity blob held.table.identities
    → find_identity blob held.table.identities ≡ Some key → Added blob key.private past
private-held life second past held blob key holds fresh found =
    let made : Made life (held_by (last_addition blob past) life second) key =
    made_of life (held_by (last_addition blob past) life second) key (sym found ∙ sym fresh ∙ holds.found blob second (omega arith)) in
    record {
      added = made.past;
      last = held-last (last_addition blob past) life second made.past made.now;
      private = ap (λ (k : HeldKey). k.private) made.is;
    }

-- the message of a signature with it
pub sign-message : (past : List Stamped) (key : HeldKey) (signing : Signing) (asker number : ℕ)
    → key.blob ≡ signing.blob → Added signing.blob key.private past
    → IsMessage past (asking_of (Signs key signing) asker number) (message_of (Signs key signing) number)
sign-message past key signing asker number blob added =
    subst (λ private. IsMessage past (asking_of (Signs key signing) asker number) (sign_request private key.blob signing.message signing.flags number)) added.private
    (subst (λ b. IsMessage past (asking_of (Signs key signing) asker number) (sign_request added.added.addition.key.private b signing.message signing.flags number)) (sym blob)
    (signs signing added.added refl added.last))

-- ---- a request

-- behind a request to sign the last addition is as before
added-behind : (moment : Moment) (requesting : Requesting) (past : List Stamped) (signing : Signing) (private : List ℕ)
    → agent_request_of requesting.body ≡ Ok (Sign signing) → Added signing.blob private past
    → Added signing.blob private (stamp moment (Requested requesting) ∷ past)
added-behind moment requesting past signing private is added = record {
  added = added.added;
  last = ap (λ (read : Result ClientRequest MsgFault). added_by (done_of_request read requesting.verdict) signing.blob moment.mono (addition_count past + 1) (last_addition signing.blob past)) is ∙ added.last;
  private = added.private;
}

module _ (life : Option ℕ) (moment : Moment) (past : List Stamped) (asker : Asker) (held : KeyState) (under_way : UnderWay) (body : List ℕ) (verdict : Verdict) (holds : Holds life moment.mono (facts_of past) held) (fresh : (blob : List ℕ) → if_alive moment.mono (find_identity blob held.table.identities) ≡ find_identity blob held.table.identities) where
  abbrev request : Requesting
  request = record { port = asker.port; body = body; verdict = verdict }

  abbrev behind : List Stamped
  behind = stamp moment (Requested request) ∷ past

  -- the errand's ask has its message
  puts-errand : (errand : Errand) → IsMessage behind (asking_of errand asker.port (under_way.link.last + 1)) (message_of errand (under_way.link.last + 1))
      → ArePut behind (stamps moment (Asked (asking_of errand asker.port (under_way.link.last + 1)) ∷ [])) (message_of errand (under_way.link.last + 1) ∷ [])
  puts-errand errand is =
      asks behind moment (asking_of errand asker.port (under_way.link.last + 1)) [] (message_of errand (under_way.link.last + 1)) [] is refl (none _)

  -- what comes of a request is put as its actions ask
  pub puts-served : {served : Served} → Serves (agent_request_of body) asker held under_way served
      → ArePut behind (stamps moment served.work.actions) served.work.put
  puts-served (denies cause) = none behind
  puts-served (lists identities is) = none behind
  puts-served (adds addition is) = none behind
  puts-served (removes blob is) = none behind
  puts-served (empties is) = none behind
  puts-served (locks passphrase is) = none behind
  puts-served (unlocks passphrase is) = none behind
  puts-served (signs_it signing key is found unasked free) =
      puts-errand (Signs key signing)
      (sign-message behind key signing asker.port (under_way.link.last + 1) (found_has signing.blob held.table.identities key found)
      (added-behind moment request past signing key.private is (private-held life moment.mono past held signing.blob key holds (fresh signing.blob) found)))
  puts-served (confirms signing key is found free) =
      passes behind _ [] [] (λ asking no. absurd (cc)) (none _)
  puts-served (verifies_it bind is_new is stands free) =
      puts-errand (Verifies bind is_new) (verifies bind moment request past refl refl refl is)
