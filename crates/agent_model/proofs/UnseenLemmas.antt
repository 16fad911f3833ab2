-- A key that the asker doesn't see makes no difference to what it is replied.
use Rattle.std.proofs.Common.{◌≡◌, ◌≢◌, ℕ, List, [], ◌∷◌, ◌++◌, map, filter, refl, ap, sym, subst, ◌∙◌, Option, Some, None, Bool, true, false, cond, Ok, if◌then◌else◌}
use Rattle.std.specs.Option.{option_or}
use Rattle.std.specs.Str.{bytes_eq}
use Rattle.std.proofs.lemmas.List.Folds.{find-append}
use Rattle.std.proofs.lemmas.Slice.Eq.{bytes_eq-Decides}
use Rattle.identity_table.specs.Identities.{HeldKey, find_identity, has_blob}
use Rattle.agent_msg.specs.Requests.{Addition, ClientRequest, Signing, ListIdentities, Sign, Add, Remove, RemoveAll, Lock, Unlock, Bind, OtherExtension, Unsupported}
use Rattle.constraint_rec.specs.declared.constraint.Constraint.{Constraint}
use Rattle.dest_rule.specs.Rules.{denial_under, visible}
use Rattle.key_purposes.specs.Messages.{let_sign}
use Rattle.agent_model.specs.Objections.{objection}
use Rattle.agent_model.proofs.ObjectionLemmas.{both_permit}
use Rattle.dest_rule.specs.declared.binding.Binding.{Binding}
use Rattle.dest_rule.proofs.LawLemmas.{signed_is_visible}
use Rattle.agent_model.specs.Actions.{Work, settles}
use Rattle.agent_model.specs.Dispatch.{Asker, remove_by, remove_seen, seen_by, sees, serve, serve_by, serve_locked, serve_unlocked, sign_by, sign_unless, with_identities, answers, refuses, Served}
use Rattle.agent_model.specs.KeyStates.{KeyState, shown}
use Rattle.agent_model.specs.State.{UnderWay}
use Rattle.agent_model.specs.Unseen.{IsSameReply}
use Rattle.agent_model.specs.Verdicts.{Cause, Identities, Refuses, Replies, verdict_text, WrongPassphrase, Success}

-- ---- lists of keys

-- what comes first is found
find_identity-append : (blob : List ℕ) (some more : List HeldKey)
    → find_identity blob (some ++ more) ≡ option_or (find_identity blob some) (find_identity blob more)
unfolding find_identity
find_identity-append blob some more = find-append (has_blob blob) some more

pub find_identity-cons : (blob : List ℕ) (key : HeldKey) (keys : List HeldKey)
    → find_identity blob (key ∷ keys) ≡ cond (bytes_eq key.blob blob) (Some key) (find_identity blob keys)
unfolding find_identity
find_identity-cons blob key keys = refl

neither : (one two : Option HeldKey) → option_or one two ≡ None → (one ≡ None) × (two ≡ None)
neither None two is = (refl, is)
neither (Some key) two is = absurd (cc)

-- what a blob finds where one key more is held: that key, or what it finds without
pub data Finds (blob : List ℕ) (key : HeldKey) : (with without : Option HeldKey) → Type 0 where
  this : Finds blob key (Some key) None
  same : (found : Option HeldKey) → Finds blob key found found

module _ (key : HeldKey) (before after : List HeldKey) (alone : find_identity key.blob (before ++ after) ≡ None) where
  found_with : (blob : List ℕ)
      → find_identity blob (before ++ key ∷ after) ≡ option_or (find_identity blob before) (cond (bytes_eq key.blob blob) (Some key) (find_identity blob after))
  found_with blob = find_identity-append blob before (key ∷ after) ∙ ap (option_or (find_identity blob before)) (find_identity-cons blob key after)

  finds-by : (blob : List ℕ) (equal : Bool) → bytes_eq key.blob blob ≡ equal
      → Finds blob key (option_or (find_identity blob before) (cond equal (Some key) (find_identity blob after))) (option_or (find_identity blob before) (find_identity blob after))
  finds-by blob true is =
      let none : option_or (find_identity blob before) (find_identity blob after) ≡ None =
      sym (find_identity-append blob before after) ∙ ap (λ b. find_identity b (before ++ after)) (sym ((bytes_eq-Decides key.blob blob).0 is)) ∙ alone in
      let both = neither (find_identity blob before) (find_identity blob after) none in
      subst (λ first. Finds blob key (option_or first (Some key)) (option_or first (find_identity blob after))) (sym both.0)
      (subst (λ second. Finds blob key (Some key) second) (sym both.1) this)
  finds-by blob false is = same (option_or (find_identity blob before) (find_identity blob after))

  pub finds : (blob : List ℕ)
      → Finds blob key (find_identity blob (before ++ key ∷ after)) (find_identity blob (before ++ after))
  finds blob =
      subst (λ found. Finds blob key found (find_identity blob (before ++ after))) (sym (found_with blob))
      (subst (Finds blob key _) (sym (find_identity-append blob before after)) (finds-by blob (bytes_eq key.blob blob) refl))

-- a list without what doesn't pass
filter-between : (p : HeldKey → Bool) (key : HeldKey) (before after : List HeldKey) → p key ≡ false
    → filter p (before ++ key ∷ after) ≡ filter p (before ++ after)
filter-between p key [] after fails = ap (λ b. cond b (key ∷ filter p after) (filter p after)) fails
filter-between p key (first ∷ before) after fails =
    ap (λ rest. cond (p first) (first ∷ rest) rest) (filter-between p key before after fails)

-- ---- what is denied

-- a key without constraints is seen
seen_always : (chain : List Binding) (attempted : Bool) (wall : ℕ)
    → visible [] chain attempted wall ≡ false → ⊥
unfolding visible
seen_always chain attempted wall is = absurd (cc)

-- what isn't seen isn't signed with
pub unseen-denied : (rules : List Constraint) (blob : List ℕ) (chain : List Binding) (message : List ℕ) (wall : ℕ) (attempted : Bool)
    → visible rules chain attempted wall ≡ false → denial_under rules blob chain message wall ≢ None
unseen-denied [] blob chain message wall attempted unseen none =
    absurd (seen_always chain attempted wall unseen)
unseen-denied (rule ∷ rules) blob chain message wall attempted unseen none =
    let seen : visible (rule ∷ rules) chain attempted wall ≡ true = signed_is_visible (rule ∷ rules) blob chain message wall attempted none in
    absurd (cc)

-- ---- replies

pub same_work : (work : Work) → IsSameReply work work
same_work work = record { text = refl; waits = refl; under_way = refl; put = refl }

-- two failures are told alike
pub both_fail : (one two : Cause) (under_way : UnderWay)
    → IsSameReply (settles (Refuses one) under_way) (settles (Refuses two) under_way)
both_fail one two under_way = record { text = refl; waits = refl; under_way = refl; put = refl }

module _ (asker : Asker) (key : HeldKey) (before after : List HeldKey) (held : KeyState) (under_way : UnderWay) (unseen : sees asker key ≡ false) (alone : find_identity key.blob (before ++ after) ≡ None) where
  abbrev with : KeyState
  with = with_identities (before ++ key ∷ after) held

  abbrev without : KeyState
  without = with_identities (before ++ after) held

  listed : seen_by asker with ≡ seen_by asker without
  listed = ap (map shown) (filter-between (sees asker) key before after unseen)

  same-signed : {one two : Option HeldKey} (signing : Signing) → Finds signing.blob key one two
      → IsSameReply (sign_by one asker signing under_way) (sign_by two asker signing under_way)
  same-signed signing (same found) = same_work (sign_by found asker signing under_way)
  same-signed signing this = by_objection (objection key signing.blob asker.chain signing.message signing.flags asker.wall) refl
    where
      by_objection : (result : Option Cause)
          → objection key signing.blob asker.chain signing.message signing.flags asker.wall ≡ result
          → IsSameReply (sign_unless result key.confirm asker key signing under_way) (sign_by None asker signing under_way)
      by_objection None is =
          absurd (unseen-denied key.rules signing.blob asker.chain signing.message asker.wall asker.attempted unseen
          (both_permit (let_sign key.purposes signing.message signing.blob signing.flags)
          (denial_under key.rules signing.blob asker.chain signing.message asker.wall) is).1)
      by_objection (Some cause) is = both_fail _ _ under_way

  same-removed_seen : (seen : Bool) (blob : List ℕ)
      → IsSameReply (remove_seen seen blob with under_way).work (remove_seen seen blob without under_way).work
  same-removed_seen true blob = same_work _
  same-removed_seen false blob = same_work _

  same-removed_by : (found : Option HeldKey) (blob : List ℕ)
      → IsSameReply (remove_by found asker blob with under_way).work (remove_by found asker blob without under_way).work
  same-removed_by None blob = same_work _
  same-removed_by (Some found) blob = same-removed_seen (sees asker found) blob

  same-removed : {one two : Option HeldKey} (blob : List ℕ) → Finds blob key one two
      → IsSameReply (remove_by one asker blob with under_way).work (remove_by two asker blob without under_way).work
  same-removed blob (same found) = same-removed_by found blob
  same-removed blob this = subst (λ seen. IsSameReply (remove_seen seen blob with under_way).work (remove_by None asker blob without under_way).work) (sym unseen) (both_fail _ _ under_way)

  same-locked_by : (passphrase : List ℕ)
      → IsSameReply (serve_unlocked (Lock passphrase) asker with under_way).work (serve_unlocked (Lock passphrase) asker without under_way).work
  same-locked_by [] = same_work _
  same-locked_by (byte ∷ bytes) = same_work _

  abbrev unlocked_by : Bool → KeyState → Served
  unlocked_by is_right held =
      if is_right then answers Success (record held { lock = None }) under_way else refuses WrongPassphrase held under_way

  same-unlocked_by : (same : Bool)
      → IsSameReply (unlocked_by same with).work (unlocked_by same without).work
  same-unlocked_by true = same_work _
  same-unlocked_by false = same_work _

  -- of an agent that isn't locked
  same-unlocked : (request : ClientRequest) → ((addition : Addition) → request ≢ Add addition)
      → IsSameReply (serve_unlocked request asker with under_way).work (serve_unlocked request asker without under_way).work
  same-unlocked ListIdentities other = record {
    text = ap (λ all. verdict_text (Replies (Identities all))) listed;
    waits = refl;
    under_way = refl;
    put = refl;
  }
  same-unlocked (Sign signing) other =
      same-signed signing (finds key before after alone signing.blob)
  same-unlocked (Add addition) other = absurd (other addition refl)
  same-unlocked (Remove blob) other = same-removed blob (finds key before after alone blob)
  same-unlocked RemoveAll other = same_work _
  same-unlocked (Lock passphrase) other = same-locked_by passphrase
  same-unlocked (Unlock passphrase) other = same_work _
  same-unlocked (Bind bind) other = same_work _
  same-unlocked (OtherExtension name) other = same_work _
  same-unlocked (Unsupported number) other = same_work _

  -- of one that is
  same-locked : (passphrase : List ℕ) (request : ClientRequest)
      → IsSameReply (serve_locked passphrase request with under_way).work (serve_locked passphrase request without under_way).work
  same-locked passphrase ListIdentities = same_work _
  same-locked passphrase (Sign signing) = same_work _
  same-locked passphrase (Add addition) = same_work _
  same-locked passphrase (Remove blob) = same_work _
  same-locked passphrase RemoveAll = same_work _
  same-locked passphrase (Lock other) = same_work _
  same-locked passphrase (Unlock other) = same-unlocked_by (bytes_eq passphrase other)
  same-locked passphrase (Bind bind) = same_work _
  same-locked passphrase (OtherExtension name) = same_work _
  same-locked passphrase (Unsupported number) = same_work _

  same-by : (lock : Option (List ℕ)) (request : ClientRequest)
      → ((addition : Addition) → request ≢ Add addition)
      → IsSameReply (serve_by lock request asker with under_way).work (serve_by lock request asker without under_way).work
  same-by None request other = same-unlocked request other
  same-by (Some passphrase) request other = same-locked passphrase request

  -- whatever is asked, but for an addition
  pub unseen-reply : (request : ClientRequest) → ((addition : Addition) → request ≢ Add addition)
      → IsSameReply (serve (Ok request) asker with under_way).work (serve (Ok request) asker without under_way).work
  unseen-reply request other = same-by held.lock request other
