-- What comes of the user's consent: a signature is put to the helper, or the client is refused.
use Rattle.std.proofs.Common.{◌≡◌, ℕ, ◌+◌, List, refl, ap, sym, subst, ◌∙◌, Option, Some, None, ◌↔◌}
use Rattle.confirm_desk.specs.Confirmations.{Confirmation}
use Rattle.dest_rule.specs.declared.binding.Binding.{Binding}
use Rattle.identity_table.specs.Identities.{HeldKey, find_number}
use Rattle.agent_model.specs.Actions.{Work, settles}
use Rattle.agent_model.specs.Askable.{HasRoom, IsGrantable, IsRefusedAtGrant}
use Rattle.agent_model.specs.Consents.{grant_by, grant_unless, grant_work, signing_of, without_confirmation}
use Rattle.agent_model.specs.Errands.{Signs, ask_fault, put_unless}
use Rattle.agent_model.specs.KeyStates.{KeyState}
use Rattle.agent_model.specs.Objections.{objection}
use Rattle.agent_model.specs.State.{OnAsk, State, UnderWay}
use Rattle.agent_model.specs.Verdicts.{AsksSpent, Awaits, Cause, JobsSpent, NoLongerAllowed, Refuses, TooManyAsks}
use Rattle.agent_model.proofs.RoomLemmas.{RoomFor, free, full, no_ask, no_job, room-free, room-full, room-no_ask, room-no_job, room-of}

-- the ends of a grant
pub data IsGranted (chain : List Binding) (confirmation : Confirmation) (wall : ℕ) (held : KeyState) (under_way : UnderWay) : Work → Type 0 where
  disallowed : ((key : HeldKey) → IsGrantable key chain confirmation.addition confirmation.message confirmation.flags wall held → ⊥) → IsGranted chain confirmation wall held under_way (settles (Refuses NoLongerAllowed) under_way)
  unasked : (cause : Cause) (key : HeldKey)
      → IsGrantable key chain confirmation.addition confirmation.message confirmation.flags wall held
      → ask_fault under_way ≡ Some cause
      → IsGranted chain confirmation wall held under_way (settles (Refuses cause) under_way)
  allowed : (key : HeldKey)
      → IsGrantable key chain confirmation.addition confirmation.message confirmation.flags wall held
      → ask_fault under_way ≡ None
      → IsGranted chain confirmation wall held under_way (put_unless None (Signs key (signing_of key confirmation)) confirmation.asker under_way)

module _ (chain : List Binding) (confirmation : Confirmation) (wall : ℕ) (held : KeyState) (under_way : UnderWay) where
  abbrev Ends : Work → Type 0
  Ends work = IsGranted chain confirmation wall held under_way work

  ends-put : (fault : Option Cause) (key : HeldKey)
      → IsGrantable key chain confirmation.addition confirmation.message confirmation.flags wall held
      → ask_fault under_way ≡ fault
      → Ends (put_unless fault (Signs key (signing_of key confirmation)) confirmation.asker under_way)
  ends-put (Some cause) key may is = unasked cause key may is
  ends-put None key may is = allowed key may is

  ends-unless : (result : Option Cause) (key : HeldKey) → held.lock ≡ None
      → find_number confirmation.addition held.table.identities ≡ Some key
      → objection key key.blob chain confirmation.message confirmation.flags wall ≡ result
      → Ends (grant_unless result key confirmation under_way)
  ends-unless (Some cause) key unlocked found is = disallowed (λ other may.
      let same : Some key ≡ Some other = sym found ∙ may.found in
      let equal : other ≡ key = cc in
      let permits : objection key key.blob chain confirmation.message confirmation.flags wall ≡ None = rw (← equal) may.permitted in
      let no : Some cause ≡ None = sym is ∙ permits in
      absurd (cc))
  ends-unless None key unlocked found is =
      ends-put (ask_fault under_way) key record { unlocked = unlocked; found = found; permitted = is } refl

  ends-found : (lock : Option (List ℕ)) (found : Option HeldKey) → held.lock ≡ lock
      → find_number confirmation.addition held.table.identities ≡ found
      → Ends (grant_by lock found chain confirmation wall under_way)
  ends-found None None unlocked is =
      disallowed (λ key may. let no : None ≡ Some key = sym is ∙ may.found in absurd (cc))
  ends-found None (Some key) unlocked is =
      ends-unless (objection key key.blob chain confirmation.message confirmation.flags wall) key unlocked is refl
  ends-found (Some passphrase) found is _ =
      disallowed (λ key may. let no : Some passphrase ≡ None = sym is ∙ may.unlocked in absurd (cc))

  ends-by : (lock : Option (List ℕ)) → held.lock ≡ lock
      → Ends (grant_by lock (find_number confirmation.addition held.table.identities) chain confirmation wall under_way)
  ends-by lock is = ends-found lock (find_number confirmation.addition held.table.identities) is refl

-- whatever is held by now
pub granted-ends : (chain : List Binding) (confirmation : Confirmation) (wall : ℕ) (held : KeyState) (under_way : UnderWay) → IsGranted chain confirmation wall held under_way (grant_by held.lock (find_number confirmation.addition held.table.identities) chain confirmation wall under_way)
granted-ends chain confirmation wall held under_way =
    ends-by chain confirmation wall held under_way held.lock refl

-- a grant in a state ends as one over its keys and its moment
pub grant-ends : (chain : List Binding) (confirmation : Confirmation) (state : State)
    → IsGranted chain confirmation state.moment.wall state.held (without_confirmation confirmation.job state.under_way) (grant_work chain confirmation state)
grant-ends chain confirmation state =
    ends-by chain confirmation state.moment.wall state.held (without_confirmation confirmation.job state.under_way) state.held.lock refl

-- ---- exactly where

module _ (chain : List Binding) (confirmation : Confirmation) (wall : ℕ) (held : KeyState) (under_way : UnderWay) where
  -- the key may be used
  abbrev May : HeldKey → Type 0
  May key = IsGrantable key chain confirmation.addition confirmation.message confirmation.flags wall held

  -- what comes of it then
  granted_so : (fault : Option Cause) (key : HeldKey) → May key → ask_fault under_way ≡ fault
      → grant_by held.lock (find_number confirmation.addition held.table.identities) chain confirmation wall under_way ≡ put_unless fault (Signs key (signing_of key confirmation)) confirmation.asker under_way
  granted_so fault key may is =
      ap (λ lock. grant_by lock (find_number confirmation.addition held.table.identities) chain confirmation wall under_way) may.unlocked
      ∙ ap (λ found. grant_by None found chain confirmation wall under_way) may.found
      ∙ ap (λ result. grant_unless result key confirmation under_way) may.permitted
      ∙ ap (λ f. put_unless f (Signs key (signing_of key confirmation)) confirmation.asker under_way) is

  refusal_of : {cause : Cause} (key : HeldKey) → May key → RoomFor under_way (Some cause)
      → IsRefusedAtGrant cause chain confirmation wall held under_way
  refusal_of key may (full more) = (key, may, more)
  refusal_of key may (no_ask few last) = (key, may, few, last)
  refusal_of key may (no_job few numbers none jobs) = (key, may, few, numbers, none, jobs)

  has_room : RoomFor under_way None → HasRoom under_way
  has_room (free room) = room

  by_put : {work : Work} (ask : ℕ) → IsGranted chain confirmation wall held under_way work
      → work.verdict ≡ Awaits (OnAsk ask)
      → (key : HeldKey) × May key × HasRoom under_way × (ask ≡ under_way.link.last + 1)
  by_put ask (disallowed never) is = absurd (cc)
  by_put ask (unasked cause key may fault) is = absurd (cc)
  by_put ask (allowed key may fault) is = let same : under_way.link.last + 1 ≡ ask = cc in (key, may, has_room (subst (RoomFor under_way) fault (room-of under_way)), sym same)

  by_cause : {work : Work} (cause : Cause) → IsGranted chain confirmation wall held under_way work
      → work.verdict ≡ Refuses cause → IsRefusedAtGrant cause chain confirmation wall held under_way
  by_cause cause (disallowed never) is =
      let same : NoLongerAllowed ≡ cause = cc in
      subst (λ c. IsRefusedAtGrant c chain confirmation wall held under_way) same never
  by_cause cause (unasked other key may fault) is =
      let same : other ≡ cause = cc in
      refusal_of key may (subst (RoomFor under_way) (fault ∙ ap Some same) (room-of under_way))
  by_cause cause (allowed key may unspent) is = absurd (cc)

  never_granted : {work : Work} → IsGranted chain confirmation wall held under_way work
      → ((key : HeldKey) → May key → ⊥) → work.verdict ≡ Refuses NoLongerAllowed
  never_granted (disallowed never) none = refl
  never_granted (unasked cause key may fault) none = absurd (none key may)
  never_granted (allowed key may unspent) none = absurd (none key may)

  because : (cause : Cause) → IsRefusedAtGrant cause chain confirmation wall held under_way
      → (grant_by held.lock (find_number confirmation.addition held.table.identities) chain confirmation wall under_way).verdict ≡ Refuses cause
  because NoLongerAllowed why =
      never_granted (ends-by chain confirmation wall held under_way held.lock refl) why
  because TooManyAsks why = ap (λ (w : Work). w.verdict) (granted_so (Some TooManyAsks) why.0 why.1 (room-full under_way why.2))
  because AsksSpent why = ap (λ (w : Work). w.verdict) (granted_so (Some AsksSpent) why.0 why.1 (room-no_ask under_way why.2 why.3))
  because JobsSpent why = ap (λ (w : Work). w.verdict) (granted_so (Some JobsSpent) why.0 why.1 (room-no_job under_way why.2 why.3 why.4 why.5))
  because other why = absurd why

  pub granted-exactly : (ask : ℕ)
      → ((grant_by held.lock (find_number confirmation.addition held.table.identities) chain confirmation wall under_way).verdict ≡ Awaits (OnAsk ask)) ↔ ((key : HeldKey) × May key × HasRoom under_way × (ask ≡ under_way.link.last + 1))
  granted-exactly ask = (
    by_put ask (ends-by chain confirmation wall held under_way held.lock refl),
    λ why. ap (λ (w : Work). w.verdict) (granted_so None why.0 why.1 (room-free under_way why.2)) ∙ ap (λ n. Awaits (OnAsk n)) (sym why.3),
  )

  pub ungranted-exactly : (cause : Cause)
      → ((grant_by held.lock (find_number confirmation.addition held.table.identities) chain confirmation wall under_way).verdict ≡ Refuses cause) ↔ IsRefusedAtGrant cause chain confirmation wall held under_way
  ungranted-exactly cause = (by_cause cause (ends-by chain confirmation wall held under_way held.lock refl), because cause)

  -- what is put is what was asked for
  pub granted-put : (key : HeldKey) → May key → HasRoom under_way
      → grant_by held.lock (find_number confirmation.addition held.table.identities) chain confirmation wall under_way ≡ put_unless None (Signs key (signing_of key confirmation)) confirmation.asker under_way
  granted-put key may room = granted_so None key may (room-free under_way room)
