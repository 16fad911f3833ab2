-- Each private string of a key that is held was read as an addition, and so was each that a request, or a grant, puts to
-- the helper.
use Rattle.std.proofs.Common.{◌≡◌, inl, inr, ℕ, ◌-◌, ◌==◌, List, [], ◌∷◌, refl, subst, Bool, true, false, cond, Option, Some, None, Result, Ok, Err}
use Rattle.std.specs.List.{All}
use Rattle.std.specs.Str.{bytes_eq}
use Rattle.std.proofs.lemmas.List.Elements.{All-cons, All-filter, All-head, All-nil, All-tail}
use Rattle.wire_text.specs.Wire.{IsBytes}
use Rattle.child_msg.specs.Messages.{Confirm, Sign as SignMessage, ToChildMessage, Verify}
use Rattle.key_blob.specs.AddedKeys.{IsAddedKey}
use Rattle.key_blob.specs.PublicKeys.{KeyParts, public_key_of}
use Rattle.key_blob.specs.declared.added.AddedKey.{AddedKey}
use Rattle.key_blob.specs.declared.fault.KeyFault.{KeyFault}
use Rattle.identity_table.specs.Deaths.{lives_at}
use Rattle.identity_table.specs.Identities.{HeldKey, alive_at, find_identity, find_number, has_blob, in_front, new_identity, number_of, put_identity, remove_identity, spend_identity, used_by}
use Rattle.lists.specs.Keyed.{has_key}
use Rattle.agent_msg.specs.declared.fault.MsgFault.{MsgFault}
use Rattle.agent_msg.specs.Reading.{request_of}
use Rattle.agent_msg.specs.Requests.{BindRequest, ClientRequest, IsRequest, ListIdentities, Sign, Add, Remove, RemoveAll, Lock, Unlock, Bind, OtherExtension, Unsupported}
use Rattle.agent_msg.proofs.FoundLemmas.{request_is_found}
use Rattle.dest_rule.specs.declared.binding.Binding.{Binding}
use Rattle.confirm_desk.specs.Confirmations.{Confirmation}
use Rattle.agent_model.specs.Binds.{agent_request_of, and_host_key, bind_with}
use Rattle.agent_model.specs.Actions.{Work}
use Rattle.agent_model.specs.Consents.{signing_of}
use Rattle.agent_model.specs.Dispatch.{Asker, Served, serve}
use Rattle.agent_model.specs.Errands.{Errand, Signs, Verifies, put_unless}
use Rattle.agent_model.specs.KeyStates.{KeyState, after_use}
use Rattle.agent_model.specs.State.{UnderWay}
use Rattle.agent_model.proofs.GrantLemmas.{IsGranted, allowed, disallowed, unasked}
use Rattle.agent_model.proofs.ServeLemmas.{Serves, adds, confirms, denies, empties, lists, locks, removes, serves-any, signs, unlocks, verifies}
use Rattle.agent_secrecy.proofs.EachLemmas.{each_found, each_left}

-- ---- keys

abbrev pub IsAddition : HeldKey → Type 0
IsAddition held =
    IsAddedKey (let key : AddedKey = record { blob = held.blob; private = held.private } in key)

-- a request to sign is put with the private string of an addition
abbrev pub IsOfAddition : ToChildMessage → Type 0
IsOfAddition (SignMessage signing) = IsAddedKey (let key : AddedKey = record { blob = signing.blob; private = signing.private } in key)
IsOfAddition (Verify verification) = Unit {0}
IsOfAddition (Confirm job prompt) = Unit {0}

abbrev pub AreHeld : List HeldKey → Type 0
AreHeld keys = All IsAddition keys

abbrev pub ArePut : List ToChildMessage → Type 0
ArePut messages = All IsOfAddition messages

pub none : ArePut []
none = All-nil IsOfAddition

identity : (blob : List ℕ) (keys : List HeldKey) (key : HeldKey)
    → find_identity blob keys ≡ Some key → AreHeld keys → IsAddition key
unfolding find_identity
identity blob keys key found held = each_found IsAddition (has_blob blob) keys key found held

addition : (number : ℕ) (keys : List HeldKey) (key : HeldKey) → find_number number keys ≡ Some key
    → AreHeld keys → IsAddition key
unfolding find_number
addition number keys key found held =
    each_found IsAddition (has_key number_of number) keys key found held

with_one : (new : HeldKey) (keys : List HeldKey) → IsAddition new → AreHeld keys
    → AreHeld (put_identity new keys)
unfolding put_identity
with_one new [] is held = All-cons IsAddition new [] is held
with_one new (first ∷ keys) is held = by_test (bytes_eq first.blob new.blob) (with_one new keys is (All-tail IsAddition first keys held))
  where
    by_test : (same : Bool) → AreHeld (put_identity new keys)
        → AreHeld (cond same (new ∷ keys) (first ∷ put_identity new keys))
    by_test true rest = All-cons IsAddition new keys is (All-tail IsAddition first keys held)
    by_test false rest =
        All-cons IsAddition first (put_identity new keys) (All-head IsAddition first keys held) rest

without : (blob : List ℕ) (keys : List HeldKey) → AreHeld keys → AreHeld (remove_identity blob keys)
unfolding remove_identity
without blob keys held = each_left IsAddition (has_blob blob) keys held

spent_first : (uses : Option ℕ) (first : HeldKey) (keys : List HeldKey) → IsAddition first
    → AreHeld keys → AreHeld (in_front (used_by uses first) keys)
spent_first None first keys is held = All-cons IsAddition first keys is held
spent_first (Some uses) first keys is held = by_zero (uses - 1 == 0)
  where
    by_zero : (gone : Bool)
        → AreHeld (in_front (cond gone None (Some (record first { uses = Some (uses - 1) }))) keys)
    by_zero true = held
    by_zero false = All-cons IsAddition (record first { uses = Some (uses - 1) }) keys is held

spent_one : (number : ℕ) (keys : List HeldKey) → AreHeld keys → AreHeld (spend_identity number keys)
unfolding spend_identity
spent_one number [] held = held
spent_one number (first ∷ keys) held =
    by_test (first.number == number) (spent_one number keys (All-tail IsAddition first keys held))
  where
    by_test : (same : Bool) → AreHeld (spend_identity number keys)
        → AreHeld (cond same (in_front (used_by first.uses first) keys) (first ∷ spend_identity number keys))
    by_test true rest = spent_first first.uses first keys (All-head IsAddition first keys held) (All-tail IsAddition first keys held)
    by_test false rest = All-cons IsAddition first (spend_identity number keys) (All-head IsAddition first keys held) rest

-- after a use, where there was one
pub used : (addition : Option ℕ) (held : KeyState) → AreHeld held.table.identities
    → AreHeld (after_use addition held).table.identities
used None held keys = keys
used (Some addition) held keys = spent_one addition held.table.identities keys

pub alive : (second : ℕ) (keys : List HeldKey) → AreHeld keys → AreHeld (alive_at second keys)
unfolding alive_at
alive second keys held =
    All-filter (λ (key : HeldKey). lives_at second key.death) IsAddition keys held

-- ---- requests that are read

abbrev pub Adds : ClientRequest → Type 0
Adds (Add addition) = IsAddedKey addition.key
Adds _ = Unit {0}

abbrev pub AddsWhereRead : Result ClientRequest MsgFault → Type 0
AddsWhereRead (Ok request) = Adds request
AddsWhereRead (Err fault) = Unit {0}

with_bind : (bind : BindRequest) (read : Result KeyParts KeyFault)
    → AddsWhereRead (bind_with bind read)
with_bind bind (Ok key) = tt
with_bind bind (Err fault) = tt

adds_key : (body : List ℕ) (request : ClientRequest) → IsRequest body request
    → AddsWhereRead (and_host_key (Ok request))
adds_key body ListIdentities is = tt
adds_key body (Sign signing) is = tt
adds_key body (Add added) is = elim is [
  | inl plain ↦ plain.key
  | inr constrained ↦ constrained.key
]
adds_key body (Remove blob) is = tt
adds_key body RemoveAll is = tt
adds_key body (Lock passphrase) is = tt
adds_key body (Unlock passphrase) is = tt
adds_key body (Bind bind) is = with_bind bind (public_key_of bind.host_key)
adds_key body (OtherExtension name) is = tt
adds_key body (Unsupported number) is = tt

pub adds_read : (body : List ℕ) → IsBytes body → AddsWhereRead (agent_request_of body)
adds_read body small = by_read (request_of body) refl
  where
    by_read : (read : Result ClientRequest MsgFault) → request_of body ≡ read
        → AddsWhereRead (and_host_key read)
    by_read (Ok request) is = adds_key body request (request_is_found body request small is)
    by_read (Err fault) is = tt

-- ---- what is put, and what is held then

abbrev IsFor : Errand → Type 0
IsFor (Signs key signing) = IsAddition key
IsFor (Verifies bind is_new) = Unit {0}

puts : (errand : Errand) (asker : ℕ) (under_way : UnderWay) → IsFor errand
    → ArePut (put_unless None errand asker under_way).put
puts (Signs key signing) asker under_way is = All-cons IsOfAddition _ [] is none
puts (Verifies bind is_new) asker under_way is = All-cons IsOfAddition _ [] tt none

pub record AreKept (served : Served) : Type 0 where
  pub keys : AreHeld served.held.table.identities
  pub put : ArePut served.work.put

served : {read : Result ClientRequest MsgFault} {asker : Asker} {held : KeyState} {under_way : UnderWay} {served : Served}
    → Serves read asker held under_way served → AddsWhereRead read → AreHeld held.table.identities
    → AreKept served
served (denies cause) is keys = record { keys = keys; put = none }
served (lists identities read) is keys = record { keys = keys; put = none }
served {asker = asker} {held = held} (adds new read) is keys =
    record { keys = with_one (new_identity held.table new.key new.terms new.comment asker.mono) held.table.identities (subst AddsWhereRead read is) keys; put = none }
served {held = held} (removes blob read) is keys =
    record { keys = without blob held.table.identities keys; put = none }
served (empties read) is keys = record { keys = All-nil IsAddition; put = none }
served (locks passphrase read) is keys = record { keys = keys; put = none }
served (unlocks passphrase read) is keys = record { keys = keys; put = none }
served {asker = asker} {held = held} {under_way = under_way} (signs signing key read found plain free) is keys =
    record { keys = used (Some key.number) held keys; put = puts (Signs key signing) asker.port under_way (identity signing.blob held.table.identities key found keys) }
served (confirms signing key read found free) is keys = record { keys = keys; put = none }
served {asker = asker} {under_way = under_way} (verifies bind is_new read stands free) is keys =
    record { keys = keys; put = puts (Verifies bind is_new) asker.port under_way tt }

pub serves : (read : Result ClientRequest MsgFault) (asker : Asker) (held : KeyState) (under_way : UnderWay)
    → AddsWhereRead read → AreHeld held.table.identities → AreKept (serve read asker held under_way)
serves read asker held under_way is keys = served (serves-any read asker held under_way) is keys

pub granted : {chain : List Binding} {confirmation : Confirmation} {wall : ℕ} {held : KeyState} {under_way : UnderWay} {work : Work}
    → IsGranted chain confirmation wall held under_way work → AreHeld held.table.identities
    → ArePut work.put
granted (disallowed never) keys = none
granted (unasked cause key may fault) keys = none
granted {confirmation = confirmation} {held = held} {under_way = under_way} (allowed key may free) keys =
    puts (Signs key (signing_of key confirmation)) confirmation.asker under_way (addition confirmation.addition held.table.identities key may.found keys)
