-- Lemmas on what is held.
use Rattle.std.proofs.Common.{◌≡◌, ℕ, ◌+◌, ◌≤◌, List, [], ◌∷◌, ◌++◌, length, map, refl, ap, sym, arith, ◌∙◌, Option, Some, None, Result, Ok, Err, is_some, not, ◌&&◌, subst, Bool, true, false, if◌then◌else◌, inl, inr}
use Rattle.std.specs.Prelude.{◌↔◌, ◌⊎◌, IfOk, IfSome, IsSome, IsTrue, OnOk}
use Rattle.std.specs.List.{AllByRecursion}
use Rattle.std.proofs.lemmas.List.Elements.{recursion_from_All}
use Rattle.constraint_rec.specs.Constraints.{Confirmation, IsItem, Item, Life, Purposes, Rules, UseCount, no_terms, with_item, with_items}
use Rattle.constraint_rec.specs.declared.terms.Terms.{Terms}
use Rattle.agent_msg.specs.Requests.{Addition, ClientRequest, IsConstrainedAddition, IsPlainAddition, IsRequest, Signing, session_bind, ListIdentities, Sign, Add, Remove, RemoveAll, Lock, Unlock, Bind, OtherExtension, Unsupported}
use Rattle.agent_msg.specs.Reading.{request_of}
use Rattle.agent_model.specs.Binds.{and_host_key}
use Rattle.wire_text.specs.Bounds.{longest_body}
use Rattle.agent_model.proofs.BoundLemmas.{private-within, text-within}
use Rattle.agent_core.specs.Served.{IsShortRequest, IsStatus, IsUsableRequest, asker_of, hides, served_body, served_by, sign_work}
use Rattle.agent_core.specs.declared.asker.Asker.{Asker as CoreAsker}
use Rattle.std.proofs.lemmas.List.{length-append}
use Rattle.wire_text.specs.Wire.{string, uint32}
use Rattle.wire_text.proofs.WireLemmas.{length-string}
use Rattle.identity_table.specs.Identities.{HeldKey}
use Rattle.std.specs.Str.{bytes_eq}
use Rattle.lists.proofs.FirstLemmas.{removed_nowhere}
use Rattle.identity_table.specs.Identities.{AreShort, HaveOwnNumbers, answer_len, entries_len, find_identity, find_number, has_blob, longest_private, remove_identity}
use Rattle.identity_table.proofs.FindLemmas.{found_has}
use Rattle.identity_table.proofs.NumberLaws.{number_of_found}
use Rattle.std.specs.Option.{option_map}
use Rattle.agent_model.specs.Errands.{Signs, put_unless, raise_unless}
use Rattle.agent_model.specs.Verdicts.{Cause, DestinationDenied, OtherPurpose}
use Rattle.under_way.specs.Parts.{TellsOf}
use Rattle.agent_model.specs.Dispatch.{Asker, add_by, add_seen, remove_by, remove_seen, sees, serve, serve_by, sign_by, sign_unless, with_identities}
use Rattle.agent_model.specs.Objections.{objection}
use Rattle.dest_rule.specs.declared.denial.Denial.{Denial}
use Rattle.std.specs.Option.{is_none}
use Rattle.agent_model.specs.State.{UnderWay}
use Rattle.agent_msg.specs.Replies.{entries_length, identities_length}
use Rattle.agent_model.specs.KeyStates.{KeyState, after_use, shown}

-- ---- lists of identities

-- an answer has as many bytes as its list
entries_len-shown : (keys : List HeldKey) → entries_length (map shown keys) ≡ entries_len keys
unfolding entries_len
entries_len-shown [] = refl
entries_len-shown (key ∷ keys) = omega (arith, entries_len-shown keys)

pub answer_len-shown : (keys : List HeldKey) → answer_len keys ≡ identities_length (map shown keys)
answer_len-shown keys = omega (arith, entries_len-shown keys)

-- and each identity takes some of them
pub length-entries_len : (keys : List HeldKey) → length keys ≤ entries_len keys
unfolding entries_len
length-entries_len [] = omega arith
length-entries_len (key ∷ keys) = omega (arith, length-entries_len keys)

-- ---- removals

-- what the asker sees is removed, and what isn't held is left
by_seen : (seen : Bool) (blob : List ℕ) (held : KeyState) (under_way : UnderWay) → not seen ≡ false → with_identities (remove_identity blob held.table.identities) held ≡ (remove_seen seen blob held under_way).held
by_seen true blob held under_way shown = refl
by_seen false blob held under_way shown = absurd (cc)

-- where none has the blob, none is removed
none_removed : (blob : List ℕ) (keys : List HeldKey) → find_identity blob keys ≡ None → remove_identity blob keys ≡ keys
unfolding find_identity remove_identity
none_removed blob keys none = removed_nowhere (has_blob blob) keys none

pub removed-keys : (found : Option HeldKey) (asker : Asker) (blob : List ℕ) (held : KeyState) (under_way : UnderWay) → find_identity blob held.table.identities ≡ found → hides found asker ≡ false → with_identities (remove_identity blob held.table.identities) held ≡ (remove_by found asker blob held under_way).held
removed-keys None asker blob held under_way absent shown =
    ap (λ (identities : List HeldKey). with_identities identities held) (none_removed blob held.table.identities absent)
removed-keys (Some key) asker blob held under_way found shown = by_seen (sees asker key) blob held under_way shown

by_seen-status : (seen : Bool) (blob : List ℕ) (held : KeyState) (under_way : UnderWay) → IsStatus seen (remove_seen seen blob held under_way).work under_way
by_seen-status true blob held under_way = record { text = refl; waits = refl; under_way = refl }
by_seen-status false blob held under_way = record { text = refl; waits = refl; under_way = refl }

-- a test that tells whether there is one
pub decided : (test : Bool) (found : Option HeldKey) → (IsTrue test ↔ IsSome found) → test ≡ is_some found
decided true None is =
    let no : false ≡ true = is.0 refl in
    absurd (cc)
decided true (Some key) is = refl
decided false None is = refl
decided false (Some key) is = is.1 refl

-- and told so
pub removed-status : (found : Option HeldKey) (asker : Asker) (blob : List ℕ) (held : KeyState) (under_way : UnderWay) → hides found asker ≡ false → IsStatus (is_some found) (remove_by found asker blob held under_way).work under_way
removed-status None asker blob held under_way shown = record { text = refl; waits = refl; under_way = refl }
removed-status (Some key) asker blob held under_way shown =
    let seen : sees asker key ≡ true = shown_seen (sees asker key) shown in
    subst (λ b. IsStatus true (remove_seen b blob held under_way).work under_way) (sym seen) (by_seen-status true blob held under_way)
  where
    shown_seen : (seen : Bool) → not seen ≡ false → seen ≡ true
    shown_seen true is = refl
    shown_seen false is = absurd (cc)

-- what the asker doesn't see stays
pub hidden-keys : (found : Option HeldKey) (asker : Asker) (blob : List ℕ) (held : KeyState) (under_way : UnderWay) → hides found asker ≡ true → (held ≡ (remove_by found asker blob held under_way).held) × IsStatus false (remove_by found asker blob held under_way).work under_way
hidden-keys None asker blob held under_way hidden = absurd (cc)
hidden-keys (Some key) asker blob held under_way hidden = by_unseen (sees asker key) hidden
  where
    by_unseen : (seen : Bool) → not seen ≡ true → (held ≡ (remove_seen seen blob held under_way).held) × IsStatus false (remove_seen seen blob held under_way).work under_way
    by_unseen true is = absurd (cc)
    by_unseen false is = (refl, by_seen-status false blob held under_way)

-- ---- additions

-- in the place of what the asker doesn't see nothing is added
pub hidden-add : (found : Option HeldKey) (asker : Asker) (addition : Addition) (held : KeyState) (under_way : UnderWay) → hides found asker ≡ true → (held ≡ (add_by found asker addition held under_way).held) × IsStatus false (add_by found asker addition held under_way).work under_way
hidden-add None asker addition held under_way hidden = absurd (cc)
hidden-add (Some key) asker addition held under_way hidden = by_unseen (sees asker key) hidden
  where
    by_unseen : (seen : Bool) → not seen ≡ true → (held ≡ (add_seen seen addition asker.mono held under_way).held) × IsStatus false (add_seen seen addition asker.mono held under_way).work under_way
    by_unseen true is = absurd (cc)
    by_unseen false is = (refl, record { text = refl; waits = refl; under_way = refl })

-- otherwise it is
pub shown-add : (found : Option HeldKey) (asker : Asker) (addition : Addition) (held : KeyState) (under_way : UnderWay) → hides found asker ≡ false → add_by found asker addition held under_way ≡ add_seen true addition asker.mono held under_way
shown-add None asker addition held under_way shown = refl
shown-add (Some key) asker addition held under_way shown = by_shown (sees asker key) shown
  where
    by_shown : (seen : Bool) → not seen ≡ false → add_seen seen addition asker.mono held under_way ≡ add_seen true addition asker.mono held under_way
    by_shown true is = refl
    by_shown false is = absurd (cc)

-- an agent that isn't locked has no passphrase
pub none_of : (lock : Option (List ℕ)) → is_some lock ≡ false → lock ≡ None
none_of None unlocked = refl
none_of (Some passphrase) unlocked = absurd (cc)

-- what follows after success follows
pub after_ok : {A B : Type 0} {P Q : Type 0} (r : Result A B) → (P → Q) → OnOk r P → OnOk r Q
after_ok (Ok a) f p = f p
after_ok (Err e) f p = p

-- and so of its value
pub value_ok : {A B : Type 0} (P Q : A → Type 0) (r : Result A B) → ((a : A) → P a → Q a) → IfOk r P → IfOk r Q
value_ok P Q (Ok a) f p = f a p
value_ok P Q (Err e) f p = p

-- ---- requests

-- what comes of a body is what comes of the request that it reads as
pub served-body : (asker : CoreAsker) (body : List ℕ) (request : ClientRequest) (held : KeyState) (under_way : UnderWay) → request_of body ≡ Ok request → served_by asker request held under_way ≡ served_body asker body held under_way
served-body asker body request held under_way is = ap (λ read. serve (and_host_key read) (asker_of asker held) held under_way) (sym is)

-- what is held after a request to sign: the identity that was used for it has a use less
pub served-sign : (asker : CoreAsker) (signing : Signing) (held : KeyState) (under_way : UnderWay) → (served_by asker (Sign signing) held under_way).held ≡ after_use (served_by asker (Sign signing) held under_way).work.used held
served-sign asker signing held under_way = by_lock held.lock
  where
    by_lock : (lock : Option (List ℕ)) → (serve_by lock (Sign signing) (asker_of asker held) held under_way).held ≡ after_use (serve_by lock (Sign signing) (asker_of asker held) held under_way).work.used held
    by_lock None = refl
    by_lock (Some passphrase) = refl

-- nothing stands against what the purposes let sign and the constraints don't deny
pub no_objection : (lets : Bool) (denial : Option Denial) → is_none (if lets then option_map DestinationDenied denial else Some OtherPurpose) ≡ (lets && is_none denial)
no_objection true None = refl
no_objection true (Some denial) = refl
no_objection false denial = refl

-- what nothing stands against is permitted
pub undenied : (result : Option Cause) → true ≡ is_none result → result ≡ None
undenied None permits = refl
undenied (Some cause) permits = absurd (cc)

-- what comes of it where the agent isn't locked, the key is held and its constraints permit it
pub served-signed : (asker : CoreAsker) (key : HeldKey) (signing : Signing) (held : KeyState) (under_way : UnderWay) → held.lock ≡ None
    → find_identity signing.blob held.table.identities ≡ Some key
    → objection key signing.blob asker.chain.now.bindings signing.message signing.flags asker.wall ≡ None
    → sign_work key.confirm asker key signing.message signing.flags under_way
    ≡ (served_by asker (Sign signing) held under_way).work
served-signed asker key signing held under_way unlocked found permitted =
    let client : Asker = asker_of asker held in
    by_confirm key.confirm
    ∙ ap (λ blob. sign_unless None key.confirm client key (record signing { blob = blob }) under_way) (found_has signing.blob held.table.identities key found)
    ∙ sym (ap (λ result. sign_unless result key.confirm client key signing under_way) permitted)
    ∙ sym (ap (λ f. sign_by f client signing under_way) found)
    ∙ sym (ap (λ lock. (serve_by lock (Sign signing) client held under_way).work) unlocked)
  where
    by_confirm : (confirm : Bool) → sign_work confirm asker key signing.message signing.flags under_way ≡ sign_unless None confirm (asker_of asker held) key (record signing { blob = key.blob }) under_way
    by_confirm true = refl
    by_confirm false = refl

-- where the uses of constraints are limited, there is one at least
usable_items : (items : List Item) (terms : Terms) → AllByRecursion IsItem items → IfSome terms.uses (λ u. 1 ≤ u) → IfSome (with_items terms items).uses (λ u. 1 ≤ u)
usable_items [] terms fit usable = usable
usable_items (Life seconds ∷ items) terms fit usable = usable_items items (with_item terms (Life seconds)) fit.1 usable
usable_items (Confirmation ∷ items) terms fit usable = usable_items items (with_item terms Confirmation) fit.1 usable
usable_items (UseCount uses ∷ items) terms fit usable = usable_items items (with_item terms (UseCount uses)) fit.1 fit.0.some
usable_items (Rules rules ∷ items) terms fit usable = usable_items items (with_item terms (Rules rules)) fit.1 usable
usable_items (Purposes purposes ∷ items) terms fit usable = usable_items items (with_item terms (Purposes purposes)) fit.1 usable

usable-added : (body : List ℕ) (addition : Addition) → IsPlainAddition body addition ⊎ IsConstrainedAddition body addition → IfSome addition.terms.uses (λ u. 1 ≤ u)
usable-added body addition (inl plain) = subst (λ (t : Terms). IfSome t.uses (λ u. 1 ≤ u)) (sym plain.unconstrained) tt
usable-added body addition (inr more) =
    subst (λ (t : Terms). IfSome t.uses (λ u. 1 ≤ u)) (sym more.constrained.values)
    (usable_items more.constrained.items no_terms (recursion_from_All IsItem more.constrained.items more.constrained.fit) tt)

pub usable_request : (body : List ℕ) (request : ClientRequest) → IsRequest body request → IsUsableRequest request
usable_request body ListIdentities is = tt
usable_request body (Sign signing) is = tt
usable_request body (Add addition) is = usable-added body addition is
usable_request body (Remove blob) is = tt
usable_request body RemoveAll is = tt
usable_request body (Lock passphrase) is = tt
usable_request body (Unlock passphrase) is = tt
usable_request body (Bind bind) is = tt
usable_request body (OtherExtension name) is = tt
usable_request body (Unsupported number) is = tt

-- what comes in a body that isn't long isn't long
pub short_request : (body : List ℕ) (request : ClientRequest) → IsRequest body request → length body ≤ longest_body → IsShortRequest request
short_request body ListIdentities is within = tt
short_request body (Sign signing) is within =
    let parts = length-append (string signing.blob) (string signing.message ++ uint32 signing.flags) in
    let more = length-append (string signing.message) (uint32 signing.flags) in
    omega (arith, ap length is.printed, parts, more, length-string signing.blob, length-string signing.message, within)
short_request body (Add addition) is within = private-within body addition is within
short_request body (Remove blob) is within = tt
short_request body RemoveAll is within = tt
short_request body (Lock passphrase) is within = text-within 22 body passphrase is within
short_request body (Unlock passphrase) is within = tt
short_request body (Bind bind) is within =
    let name = length-append (string session_bind) (string bind.host_key ++ (string bind.session ++ (string bind.signature ++ is.forwarding ∷ []))) in
    let key = length-append (string bind.host_key) (string bind.session ++ (string bind.signature ++ is.forwarding ∷ [])) in
    let session = length-append (string bind.session) (string bind.signature ++ is.forwarding ∷ []) in
    let signature = length-append (string bind.signature) (is.forwarding ∷ []) in
    omega (arith, ap length is.printed, name, key, session, signature, length-string bind.host_key, length-string bind.session, length-string bind.signature, within)
short_request body (OtherExtension name) is within = tt
short_request body (Unsupported number) is within = tt

-- ---- what is put to the helper

-- a key that is found is short
found_short : (blob : List ℕ) (keys : List HeldKey) (key : HeldKey) → find_identity blob keys ≡ Some key → AreShort keys → length key.private ≤ longest_private
unfolding find_identity AreShort
found_short blob [] key found short = absurd (cc)
found_short blob (other ∷ keys) key found short =
    by_test (λ later. found_short blob keys key later short.1) (bytes_eq other.blob blob) found
  where
    by_test : (find_identity blob keys ≡ Some key → length key.private ≤ longest_private) → (test : Bool) → (if test then Some other else find_identity blob keys) ≡ Some key → length key.private ≤ longest_private
    by_test rest true is =
        let same : other ≡ key = cc in
        rw (← same) short.0
    by_test rest false is = rest is

-- so that what is asked fits a message to the helper
pub asked_short : (keys : List HeldKey) (key : HeldKey) (blob message : List ℕ) → find_identity blob keys ≡ Some key → AreShort keys → length blob + length message ≤ longest_body → 25 + length key.private + length key.blob + length message ≤ 1048576
asked_short keys key blob message found short within =
    omega (arith, found_short blob keys key found short, ap length (found_has blob keys key found), within)

-- ---- what a signature uses

-- a confirmation uses no key yet
pub raise_unused : (fault : Option Cause) (key : HeldKey) (host : Option (List ℕ)) (signing : Signing) (asker : ℕ) (under_way : UnderWay) → None ≡ (raise_unless fault key host signing asker under_way).used
raise_unused None key host signing asker under_way = refl
raise_unused (Some cause) key host signing asker under_way = refl

-- an ask that is put uses its key
pub put_used : (fault : Option Cause) (key : HeldKey) (signing : Signing) (asker : ℕ) (under_way : UnderWay) (asked : Option ℕ) → TellsOf (put_unless fault (Signs key signing) asker under_way).verdict asked → option_map (λ _. key.number) asked ≡ (put_unless fault (Signs key signing) asker under_way).used
put_used None key signing asker under_way None told = absurd (cc)
put_used None key signing asker under_way (Some ask) told = refl
put_used (Some cause) key signing asker under_way None told = refl
put_used (Some cause) key signing asker under_way (Some ask) told = absurd (cc)

pub own_used : (number : ℕ) (asked : Option ℕ) → IfSome (option_map (λ _. number) asked) (λ n. n ≡ number)
own_used number None = tt
own_used number (Some ask) = refl

-- and that is held
pub used_held : (used : Option ℕ) (blob : List ℕ) (last : ℕ) (keys : List HeldKey) (key : HeldKey) → IfSome used (λ n. n ≡ key.number) → HaveOwnNumbers last keys → find_identity blob keys ≡ Some key → IfSome used (λ n. IsSome (find_number n keys))
used_held None blob last keys key own numbers found = tt
used_held (Some n) blob last keys key own numbers found =
    subst (λ (found : Option HeldKey). IsSome found) (sym (ap (λ m. find_number m keys) own ∙ (number_of_found blob last keys key numbers found).1)) refl
