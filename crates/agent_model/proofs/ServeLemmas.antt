-- What comes of a request: it is answered, or refused, or waits for the helper, or for the user.
use Rattle.std.proofs.Common.{◌≡◌, ℕ, List, [], ◌∷◌, refl, subst, sym, IsOk, Bool, true, false, Option, Some, None, Result, Ok, Err, ◌==◌, if◌then◌else◌}
use Rattle.std.specs.Str.{bytes_eq}
use Rattle.identity_table.specs.Identities.{HeldKey, find_identity, identities_with, is_full, remove_identity, added}
use Rattle.agent_msg.specs.declared.fault.MsgFault.{MsgFault}
use Rattle.agent_msg.specs.Requests.{Addition, BindRequest, ClientRequest, Signing, ListIdentities, Sign, Add, Remove, RemoveAll, Lock, Unlock, Bind, OtherExtension, Unsupported}
use Rattle.agent_model.specs.Dispatch.{with_identities, Asker, Served, add_by, add_fault, add_seen, add_unless, answers, bind_by, host_for, refuses, remove_by, remove_seen, seen_by, sees, serve, serve_by, serve_locked, serve_unlocked, sign_by, sign_unless, unread, uses}
use Rattle.agent_model.specs.Errands.{Errand, Signs, Verifies, ask_fault, put_unless, raise_fault, raise_unless}
use Rattle.agent_msg.specs.Reading.{request_of}
use Rattle.key_blob.specs.PublicKeys.{KeyParts, public_key_of}
use Rattle.key_blob.specs.declared.fault.KeyFault.{KeyFault}
use Rattle.dest_rule.specs.Chains.{judge}
use Rattle.dest_rule.specs.declared.fault.Next.{Next as Judgement}
use Rattle.dest_rule.specs.declared.fault.Next.TheVariants.{New, Refuse, Same}
use Rattle.agent_model.specs.Binds.{agent_request_of, and_host_key, bind_with}
use Rattle.agent_model.specs.KeyStates.{KeyState}
use Rattle.agent_model.specs.Sound.{judged}
use Rattle.agent_model.specs.Limits.{last_number}
use Rattle.agent_model.specs.State.{UnderWay}
use Rattle.agent_model.specs.Objections.{objection}
use Rattle.agent_model.specs.Verdicts.{BindRefused, Cause, Identities, Locked, NoPassphrase, NotHeld, NotLocked, NotVisible, Reply, Success, Unserved, WrongPassphrase}

-- what is put for an asker: a binding is put as its chain judges it, and its host key is one that is read
abbrev pub MayPut : Asker → Errand → Type 0
MayPut asker (Signs key signing) = Unit {0}
MayPut asker (Verifies bind is_new) = IsOk (public_key_of bind.host_key) × (judge bind.host_key bind.session asker.chain ≡ judged is_new)

-- the four ends of a request; no answer changes the greatest second of the table
pub data IsServed (asker : Asker) (held : KeyState) (under_way : UnderWay) : Served → Type 0 where
  answered : (reply : Reply) (kept : KeyState)
      → (asker.mono ≡ held.table.greatest → kept.table.greatest ≡ held.table.greatest)
      → IsServed asker held under_way (answers reply kept under_way)
  refused : (cause : Cause) → IsServed asker held under_way (refuses cause held under_way)
  asked : (errand : Errand) → ask_fault under_way ≡ None → MayPut asker errand
      → IsServed asker held under_way (uses held (put_unless None errand asker.port under_way))
  raised : (key : HeldKey) (signing : Signing) → raise_fault under_way ≡ None
      → IsServed asker held under_way (uses held (raise_unless None key (host_for asker key signing) signing asker.port under_way))

-- the ends of a request, one for each effect
pub data Serves (read : Result ClientRequest MsgFault) (asker : Asker) (held : KeyState) (under_way : UnderWay) : Served → Type 0 where
  denies : (cause : Cause) → Serves read asker held under_way (refuses cause held under_way)
  lists : (identities : List (List ℕ × List ℕ)) → read ≡ Ok ListIdentities
      → Serves read asker held under_way (answers (Identities identities) held under_way)
  adds : (addition : Addition) → read ≡ Ok (Add addition)
      → Serves read asker held under_way (answers Success (record held { table = added held.table addition.key addition.terms addition.comment asker.mono }) under_way)
  removes : (blob : List ℕ) → read ≡ Ok (Remove blob)
      → Serves read asker held under_way (answers Success (with_identities (remove_identity blob held.table.identities) held) under_way)
  empties : read ≡ Ok RemoveAll
      → Serves read asker held under_way (answers Success (with_identities [] held) under_way)
  locks : (passphrase : List ℕ) → read ≡ Ok (Lock passphrase)
      → Serves read asker held under_way (answers Success (record held { lock = Some passphrase }) under_way)
  unlocks : (passphrase : List ℕ) → read ≡ Ok (Unlock passphrase)
      → Serves read asker held under_way (answers Success (record held { lock = None }) under_way)
  signs : (signing : Signing) (key : HeldKey) → read ≡ Ok (Sign signing)
      → find_identity signing.blob held.table.identities ≡ Some key → key.confirm ≡ false
      → ask_fault under_way ≡ None
      → Serves read asker held under_way (uses held (put_unless None (Signs key signing) asker.port under_way))
  confirms : (signing : Signing) (key : HeldKey) → read ≡ Ok (Sign signing)
      → find_identity signing.blob held.table.identities ≡ Some key → raise_fault under_way ≡ None
      → Serves read asker held under_way (uses held (raise_unless None key (host_for asker key signing) signing asker.port under_way))
  verifies : (bind : BindRequest) (is_new : Bool) → read ≡ Ok (Bind bind)
      → judge bind.host_key bind.session asker.chain ≡ judged is_new → ask_fault under_way ≡ None
      → Serves read asker held under_way (record { held = held; work = put_unless None (Verifies bind is_new) asker.port under_way })

-- where it is a request to bind, its host key is one that is read
abbrev IsReadable : ClientRequest → Type 0
IsReadable (Bind bind) = IsOk (public_key_of bind.host_key)
IsReadable _ = Unit {0}

abbrev AreReadable : Result ClientRequest MsgFault → Type 0
AreReadable (Ok request) = IsReadable request
AreReadable (Err fault) = Unit {0}

readable-bind : (read : Result KeyParts KeyFault) (bind : BindRequest)
    → public_key_of bind.host_key ≡ read → AreReadable (bind_with bind read)
readable-bind (Ok key) bind is = subst IsOk (sym is) refl
readable-bind (Err fault) bind is = tt

readable-with : (request : ClientRequest) → AreReadable (and_host_key (Ok request))
readable-with ListIdentities = tt
readable-with (Sign signing) = tt
readable-with (Add addition) = tt
readable-with (Remove blob) = tt
readable-with RemoveAll = tt
readable-with (Lock passphrase) = tt
readable-with (Unlock passphrase) = tt
readable-with (Bind bind) = readable-bind (public_key_of bind.host_key) bind refl
readable-with (OtherExtension name) = tt
readable-with (Unsupported number) = tt

readable-and : (read : Result ClientRequest MsgFault) → AreReadable (and_host_key read)
readable-and (Ok request) = readable-with request
readable-and (Err fault) = tt

readable-agent : (body : List ℕ) → AreReadable (agent_request_of body)
readable-agent body = readable-and (request_of body)

module _ (read : Result ClientRequest MsgFault) (asker : Asker) (held : KeyState) (under_way : UnderWay) where
  abbrev Is : Served → Type 0
  Is served = Serves read asker held under_way served

  -- ---- a signature

  module _ (signing : Signing) (is : read ≡ Ok (Sign signing)) where
    module _ (key : HeldKey) (found : find_identity signing.blob held.table.identities ≡ Some key) where
      serves-put : (fault : Option Cause) → ask_fault under_way ≡ fault → key.confirm ≡ false →
          Is (uses held (put_unless fault (Signs key signing) asker.port under_way))
      serves-put (Some cause) fault asks = denies cause
      serves-put None fault asks = signs signing key is found asks fault

      serves-raise : (fault : Option Cause) → raise_fault under_way ≡ fault →
          Is (uses held (raise_unless fault key (host_for asker key signing) signing asker.port under_way))
      serves-raise (Some cause) fault = denies cause
      serves-raise None fault = confirms signing key is found fault

      serves-with : (confirm : Bool) → key.confirm ≡ confirm →
          Is (uses held (sign_unless None confirm asker key signing under_way))
      serves-with true asks = serves-raise (raise_fault under_way) refl
      serves-with false asks = serves-put (ask_fault under_way) refl asks

      serves-permitted : (result : Option Cause) →
          Is (uses held (sign_unless result key.confirm asker key signing under_way))
      serves-permitted (Some cause) = denies cause
      serves-permitted None = serves-with key.confirm refl

    serves-sign : (found : Option HeldKey)
        → find_identity signing.blob held.table.identities ≡ found →
        Is (uses held (sign_by found asker signing under_way))
    serves-sign None found = denies NotHeld
    serves-sign (Some key) found =
        serves-permitted key found
        (objection key signing.blob asker.chain signing.message signing.flags asker.wall)

  -- ---- additions and removals

  module _ (addition : Addition) (is : read ≡ Ok (Add addition)) where
    serves-unless : (fault : Option Cause)
        → Is (add_unless fault addition asker.mono held under_way)
    serves-unless (Some cause) = denies cause
    serves-unless None = adds addition is

    serves-seen : (seen : Bool) → Is (add_seen seen addition asker.mono held under_way)
    serves-seen false = denies NotVisible
    serves-seen true =
        serves-unless
        (add_fault (is_full (identities_with held.table addition.key addition.terms addition.comment asker.mono)) (held.table.last == last_number))

    serves-add : (found : Option HeldKey) → Is (add_by found asker addition held under_way)
    serves-add None = serves-seen true
    serves-add (Some key) = serves-seen (sees asker key)

  serves-remove_seen : (blob : List ℕ) (seen : Bool) → read ≡ Ok (Remove blob) →
      Is (remove_seen seen blob held under_way)
  serves-remove_seen blob false is = denies NotVisible
  serves-remove_seen blob true is = removes blob is

  serves-remove : (blob : List ℕ) (found : Option HeldKey) → read ≡ Ok (Remove blob) →
      Is (remove_by found asker blob held under_way)
  serves-remove blob None is = denies NotHeld
  serves-remove blob (Some key) is = serves-remove_seen blob (sees asker key) is

  -- ---- the lock, and bindings

  serves-lock : (passphrase : List ℕ) → read ≡ Ok (Lock passphrase)
      → Is (serve_unlocked (Lock passphrase) asker held under_way)
  serves-lock [] is = denies NoPassphrase
  serves-lock (byte ∷ bytes) is = locks (byte ∷ bytes) is

  serves-unlock : (passphrase : List ℕ) (same : Bool) → read ≡ Ok (Unlock passphrase) →
      Is (if same then answers Success (record held { lock = None }) under_way else refuses WrongPassphrase held under_way)
  serves-unlock passphrase true is = unlocks passphrase is
  serves-unlock passphrase false is = denies WrongPassphrase

  module _ (bind : BindRequest) (is : read ≡ Ok (Bind bind)) where
    serves-bind_put : (is_new : Bool) (fault : Option Cause) → ask_fault under_way ≡ fault →
        judge bind.host_key bind.session asker.chain ≡ judged is_new →
        Is (record { held = held; work = put_unless fault (Verifies bind is_new) asker.port under_way })
    serves-bind_put is_new (Some cause) fault stands = denies cause
    serves-bind_put is_new None fault stands = verifies bind is_new is stands fault

    serves-bind : (judgement : Judgement)
        → judge bind.host_key bind.session asker.chain ≡ judgement →
        Is (record { held = held; work = bind_by judgement asker bind under_way })
    serves-bind (Refuse fault) stands = denies (BindRefused fault)
    serves-bind Same stands = serves-bind_put false (ask_fault under_way) refl stands
    serves-bind New stands = serves-bind_put true (ask_fault under_way) refl stands

  -- ---- the table of requests

  serves-unlocked : (request : ClientRequest) → read ≡ Ok request
      → Is (serve_unlocked request asker held under_way)
  serves-unlocked ListIdentities is = lists (seen_by asker held) is
  serves-unlocked (Sign signing) is =
      serves-sign signing is (find_identity signing.blob held.table.identities) refl
  serves-unlocked (Add addition) is =
      serves-add addition is (find_identity addition.key.blob held.table.identities)
  serves-unlocked (Remove blob) is =
      serves-remove blob (find_identity blob held.table.identities) is
  serves-unlocked RemoveAll is = empties is
  serves-unlocked (Lock passphrase) is = serves-lock passphrase is
  serves-unlocked (Unlock passphrase) is = denies NotLocked
  serves-unlocked (Bind bind) is =
      serves-bind bind is (judge bind.host_key bind.session asker.chain) refl
  serves-unlocked (OtherExtension name) is = denies Unserved
  serves-unlocked (Unsupported number) is = denies Unserved

  serves-locked : (passphrase : List ℕ) (request : ClientRequest) → read ≡ Ok request →
      Is (serve_locked passphrase request held under_way)
  serves-locked passphrase ListIdentities is = lists [] is
  serves-locked passphrase (Sign signing) is = denies Locked
  serves-locked passphrase (Add addition) is = denies Locked
  serves-locked passphrase (Remove blob) is = denies Locked
  serves-locked passphrase RemoveAll is = denies Locked
  serves-locked passphrase (Lock other) is = denies Locked
  serves-locked passphrase (Unlock other) is = serves-unlock other (bytes_eq passphrase other) is
  serves-locked passphrase (Bind bind) is = denies Locked
  serves-locked passphrase (OtherExtension name) is = denies Locked
  serves-locked passphrase (Unsupported number) is = denies Locked

  serves-by : (lock : Option (List ℕ)) (request : ClientRequest) → read ≡ Ok request →
      Is (serve_by lock request asker held under_way)
  serves-by None request is = serves-unlocked request is
  serves-by (Some passphrase) request is = serves-locked passphrase request is

  serves-read : (result : Result ClientRequest MsgFault) → read ≡ result →
      Is (serve result asker held under_way)
  serves-read (Ok request) is = serves-by held.lock request is
  serves-read (Err fault) is = denies (unread fault held.lock)

  -- whatever is asked
  pub serves-any : Serves read asker held under_way (serve read asker held under_way)
  serves-any = serves-read read refl

-- the four ends of it
served-ends : {read : Result ClientRequest MsgFault} {asker : Asker} {held : KeyState} {under_way : UnderWay} {served : Served}
    → AreReadable read → Serves read asker held under_way served
    → IsServed asker held under_way served
served-ends readable (denies cause) = refused cause
served-ends {held = held} readable (lists identities is) =
    answered (Identities identities) held (λ same. refl)
served-ends readable (adds addition is) = answered Success _ (λ same. same)
served-ends readable (removes blob is) = answered Success _ (λ same. refl)
served-ends readable (empties is) = answered Success _ (λ same. refl)
served-ends readable (locks passphrase is) = answered Success _ (λ same. refl)
served-ends readable (unlocks passphrase is) = answered Success _ (λ same. refl)
served-ends readable (signs signing key is found asks free) = asked (Signs key signing) free tt
served-ends readable (confirms signing key is found free) = raised key signing free
served-ends readable (verifies bind is_new is stands free) =
    asked (Verifies bind is_new) free (subst AreReadable is readable, stands)

pub serve-ends : (asker : Asker) (held : KeyState) (under_way : UnderWay) (body : List ℕ)
    → IsServed asker held under_way (serve (agent_request_of body) asker held under_way)
serve-ends asker held under_way body =
    served-ends (readable-agent body) (serves-any (agent_request_of body) asker held under_way)
