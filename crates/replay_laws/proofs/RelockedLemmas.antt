-- Requests to an agent that is locked with a passphrase of another name.
use Rattle.std.proofs.Common.{◌≡◌, ℕ, ◌==◌, List, [], ◌∷◌, refl, sym, ap, ◌∙◌, Bool, true, false, nat_lt, Option, Some, None, Result, Ok, Err, if◌then◌else◌}
use Rattle.std.specs.Option.{option_map}
use Rattle.std.specs.Str.{bytes_eq}
use Rattle.std.proofs.lemmas.Bool.Decides.{same_from_decides}
use Rattle.std.proofs.lemmas.Slice.Eq.{bytes_eq-Decides}
use Rattle.identity_table.specs.Identities.{HeldKey, find_identity, identities_with, is_full}
use Rattle.agent_msg.specs.declared.fault.MsgFault.{MsgFault}
use Rattle.agent_msg.specs.declared.fault.MsgFault.TheVariants as fault
use Rattle.agent_msg.specs.Requests.{Addition, ClientRequest, ListIdentities, Sign, Add, Remove, RemoveAll, Lock, Unlock, Bind, OtherExtension, Unsupported}
use Rattle.agent_model.specs.Actions.{Work}
use Rattle.agent_model.specs.Dispatch.{Asker, Served, add_by, add_fault, add_seen, add_unless, answers, refuses, remove_by, remove_seen, sees, serve, serve_by, serve_locked, serve_unlocked, sign_by, unread, uses}
use Rattle.agent_model.specs.KeyStates.{KeyState}
use Rattle.agent_model.specs.Limits.{last_number}
use Rattle.agent_model.specs.State.{UnderWay}
use Rattle.agent_model.specs.Verdicts.{Cause, Success, WrongPassphrase}
use Rattle.replay_laws.specs.Redacting.{IsRenaming, relocked, renamed_read, renamed_request, served_as}
use Rattle.replay_laws.proofs.RelockLemmas.{after_use-relocked}

module _ (rename : List ℕ → List ℕ) (renaming : IsRenaming rename) where
  abbrev served_of : Served → Served
  served_of served = served_as rename served

  -- passphrases are equal where their names are
  same_names : (a b : List ℕ) → bytes_eq (rename a) (rename b) ≡ bytes_eq a b
  same_names a b =
      let names = bytes_eq-Decides (rename a) (rename b) in
      let own = bytes_eq-Decides a b in
      same_from_decides {P = a ≡ b} (bytes_eq (rename a) (rename b)) (bytes_eq a b)
      (λ is. renaming.one_to_one a b (names.0 is), λ same. names.1 (ap rename same)) own

  -- one that isn't empty has a name that isn't
  name_is_some : (byte : ℕ) (bytes : List ℕ) → rename (byte ∷ bytes) ≡ [] → ⊥
  name_is_some byte bytes none =
      let same : byte ∷ bytes ≡ [] = renaming.one_to_one (byte ∷ bytes) [] (none ∙ sym renaming.empty) in cc

  -- ---- one request

  uses-relocked : (held : KeyState) (work : Work)
      → uses (relocked rename held) work ≡ served_of (uses held work)
  uses-relocked held work =
      ap (λ keys. let s : Served = record { held = keys; work = work } in s) (after_use-relocked rename work.used held)

  add_unless-relocked : (cause : Option Cause) (addition : Addition) (now : ℕ) (held : KeyState) (under_way : UnderWay)
      → add_unless cause addition now (relocked rename held) under_way
      ≡ served_of (add_unless cause addition now held under_way)
  add_unless-relocked None addition now held under_way = refl
  add_unless-relocked (Some cause) addition now held under_way = refl

  add_seen-relocked : (sees_it : Bool) (addition : Addition) (now : ℕ) (held : KeyState) (under_way : UnderWay)
      → add_seen sees_it addition now (relocked rename held) under_way
      ≡ served_of (add_seen sees_it addition now held under_way)
  add_seen-relocked false addition now held under_way = refl
  add_seen-relocked true addition now held under_way =
      add_unless-relocked
      (add_fault (is_full (identities_with held.table addition.key addition.terms addition.comment now)) (held.table.last == last_number)) addition now held under_way

  add_by-relocked : (found : Option HeldKey) (asker : Asker) (addition : Addition) (held : KeyState) (under_way : UnderWay)
      → add_by found asker addition (relocked rename held) under_way
      ≡ served_of (add_by found asker addition held under_way)
  add_by-relocked None asker addition held under_way =
      add_seen-relocked true addition asker.mono held under_way
  add_by-relocked (Some key) asker addition held under_way =
      add_seen-relocked (sees asker key) addition asker.mono held under_way

  remove_seen-relocked : (sees_it : Bool) (blob : List ℕ) (held : KeyState) (under_way : UnderWay)
      → remove_seen sees_it blob (relocked rename held) under_way ≡ served_of (remove_seen sees_it blob held under_way)
  remove_seen-relocked false blob held under_way = refl
  remove_seen-relocked true blob held under_way = refl

  remove_by-relocked : (found : Option HeldKey) (asker : Asker) (blob : List ℕ) (held : KeyState) (under_way : UnderWay)
      → remove_by found asker blob (relocked rename held) under_way
      ≡ served_of (remove_by found asker blob held under_way)
  remove_by-relocked None asker blob held under_way = refl
  remove_by-relocked (Some key) asker blob held under_way =
      remove_seen-relocked (sees asker key) blob held under_way

  -- locked with these bytes
  abbrev locked_as : KeyState → List ℕ → UnderWay → Served
  locked_as held name under_way =
      let keys : KeyState = record { table = held.table; lock = Some name } in answers Success keys under_way

  named : (name : List ℕ) (asker : Asker) (held : KeyState) (under_way : UnderWay) → (name ≡ [] → ⊥)
      → serve_unlocked (Lock name) asker (relocked rename held) under_way ≡ locked_as held name under_way
  named [] asker held under_way some = absurd (some refl)
  named (byte ∷ bytes) asker held under_way some = refl

  lock-relocked : (passphrase : List ℕ) (asker : Asker) (held : KeyState) (under_way : UnderWay)
      → serve_unlocked (Lock (rename passphrase)) asker (relocked rename held) under_way
      ≡ served_of (serve_unlocked (Lock passphrase) asker held under_way)
  lock-relocked [] asker held under_way =
      ap (λ name. serve_unlocked (Lock name) asker (relocked rename held) under_way) renaming.empty
  lock-relocked (byte ∷ bytes) asker held under_way =
      named (rename (byte ∷ bytes)) asker held under_way (name_is_some byte bytes)

  -- by whether the passphrase is the one that locked the agent
  abbrev unlocked_by : Bool → KeyState → UnderWay → Served
  unlocked_by is_right held under_way =
      if is_right then answers Success (record held { lock = None }) under_way else refuses WrongPassphrase held under_way

  unlocked_by-relocked : (same : Bool) (held : KeyState) (under_way : UnderWay)
      → unlocked_by same (relocked rename held) under_way ≡ served_of (unlocked_by same held under_way)
  unlocked_by-relocked true held under_way = refl
  unlocked_by-relocked false held under_way = refl

  -- ---- the table of requests

  unlocked-relocked : (request : ClientRequest) (asker : Asker) (held : KeyState) (under_way : UnderWay)
      → serve_unlocked (renamed_request rename request) asker (relocked rename held) under_way
      ≡ served_of (serve_unlocked request asker held under_way)
  unlocked-relocked ListIdentities asker held under_way = refl
  unlocked-relocked (Sign signing) asker held under_way =
      uses-relocked held (sign_by (find_identity signing.blob held.table.identities) asker signing under_way)
  unlocked-relocked (Add addition) asker held under_way =
      add_by-relocked (find_identity addition.key.blob held.table.identities) asker addition held under_way
  unlocked-relocked (Remove blob) asker held under_way =
      remove_by-relocked (find_identity blob held.table.identities) asker blob held under_way
  unlocked-relocked RemoveAll asker held under_way = refl
  unlocked-relocked (Lock passphrase) asker held under_way =
      lock-relocked passphrase asker held under_way
  unlocked-relocked (Unlock passphrase) asker held under_way = refl
  unlocked-relocked (Bind bind) asker held under_way = refl
  unlocked-relocked (OtherExtension name) asker held under_way = refl
  unlocked-relocked (Unsupported number) asker held under_way = refl

  locked-relocked : (passphrase : List ℕ) (request : ClientRequest) (held : KeyState) (under_way : UnderWay)
      → serve_locked (rename passphrase) (renamed_request rename request) (relocked rename held) under_way
      ≡ served_of (serve_locked passphrase request held under_way)
  locked-relocked passphrase ListIdentities held under_way = refl
  locked-relocked passphrase (Sign signing) held under_way = refl
  locked-relocked passphrase (Add addition) held under_way = refl
  locked-relocked passphrase (Remove blob) held under_way = refl
  locked-relocked passphrase RemoveAll held under_way = refl
  locked-relocked passphrase (Lock other) held under_way = refl
  locked-relocked passphrase (Unlock other) held under_way =
      ap (λ same. unlocked_by same (relocked rename held) under_way) (same_names passphrase other)
      ∙ unlocked_by-relocked (bytes_eq passphrase other) held under_way
  locked-relocked passphrase (Bind bind) held under_way = refl
  locked-relocked passphrase (OtherExtension name) held under_way = refl
  locked-relocked passphrase (Unsupported number) held under_way = refl

  by_lock : (lock : Option (List ℕ)) (request : ClientRequest) (asker : Asker) (held : KeyState) (under_way : UnderWay)
      → serve_by (option_map rename lock) (renamed_request rename request) asker (relocked rename held) under_way
      ≡ served_of (serve_by lock request asker held under_way)
  by_lock None request asker held under_way = unlocked-relocked request asker held under_way
  by_lock (Some passphrase) request asker held under_way =
      locked-relocked passphrase request held under_way

  unread-relocked : (what : MsgFault) (lock : Option (List ℕ))
      → unread what (option_map rename lock) ≡ unread what lock
  unread-relocked fault.Empty lock = refl
  unread-relocked fault.Short lock = refl
  unread-relocked fault.Trailing lock = refl
  unread-relocked (fault.Key key_fault) lock = refl
  unread-relocked (fault.Terms term_fault) None = refl
  unread-relocked (fault.Terms term_fault) (Some passphrase) = refl
  unread-relocked fault.Memory lock = refl

  -- a request by its other name finds the agent locked by the other name
  pub serve-relocked : (read : Result ClientRequest MsgFault) (asker : Asker) (held : KeyState) (under_way : UnderWay)
      → serve (renamed_read rename read) asker (relocked rename held) under_way
      ≡ served_of (serve read asker held under_way)
  serve-relocked (Ok request) asker held under_way = by_lock held.lock request asker held under_way
  serve-relocked (Err what) asker held under_way =
      ap (λ cause. refuses cause (relocked rename held) under_way) (unread-relocked what held.lock)
