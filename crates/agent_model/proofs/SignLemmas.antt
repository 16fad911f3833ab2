-- A signature is put to the helper exactly where it may be, and is refused exactly for its cause.
use Rattle.std.proofs.Common.{◌≡◌, ◌≢◌, ℕ, ◌+◌, ◌-◌, ◌^◌, ◌<◌, List, length, nat_lt, refl, ap, arith, sym, subst, ◌∙◌, ◌==◌, if◌then◌else◌, Option, Some, None, IsSome, Bool, true, false, Ok, inl, inr, ◌↔◌}
use Rattle.std.proofs.lemmas.Bool.Decides.{nat_tests}
use Rattle.identity_table.specs.Identities.{HeldKey, find_identity}
use Rattle.agent_msg.specs.Requests.{Sign, Signing}
use Rattle.agent_model.specs.Actions.{Work, settles}
use Rattle.agent_model.specs.Askable.{HasConfirmationRoom, HasRoom, IsJudgedAs, IsRefusedFor, IsUsable}
use Rattle.dest_rule.specs.Rules.{denial_under}
use Rattle.key_purposes.specs.Messages.{let_sign}
use Rattle.dest_rule.specs.declared.denial.Denial.{Denial}
use Rattle.agent_model.specs.Dispatch.{Asker, host_for, serve, serve_by, sign_by, sign_unless}
use Rattle.agent_model.specs.Errands.{Signs, ask_fault, put_unless, raise_fault, raise_unless, spent_jobs}
use Rattle.agent_model.specs.KeyStates.{KeyState}
use Rattle.agent_model.specs.Limits.{last_number, most_confirmations}
use Rattle.agent_model.specs.Objections.{objection}
use Rattle.agent_model.specs.State.{OnAsk, OnConfirmation, UnderWay}
use Rattle.agent_model.specs.Verdicts.{AsksSpent, Awaits, Cause, DestinationDenied, JobsSpent, Locked, NotHeld, OtherPurpose, Refuses, TooManyAsks, TooManyConfirmations}
use Rattle.agent_model.proofs.RoomLemmas.{RoomFor, free, full, no_ask, no_job, room-free, room-full, room-no_ask, room-no_job, room-of}
use Rattle.std.specs.Option.{option_map}

-- what comes of a signature, and why
pub data Comes (signing : Signing) (asker : Asker) (held : KeyState) (under_way : UnderWay) : Work → Type 0 where
  refused : (cause : Cause) → IsRefusedFor cause signing asker held under_way
      → Comes signing asker held under_way (settles (Refuses cause) under_way)
  raises : (usable : IsUsable signing true asker held) → HasConfirmationRoom under_way
      → Comes signing asker held under_way (raise_unless None usable.permitted.key (host_for asker usable.permitted.key signing) signing asker.port under_way)
  put : (usable : IsUsable signing false asker held) → HasRoom under_way
      → Comes signing asker held under_way (put_unless None (Signs usable.permitted.key signing) asker.port under_way)

module _ (signing : Signing) (asker : Asker) (held : KeyState) (under_way : UnderWay) where
  module _ (usable : IsUsable signing true asker held) where
    comes-raised : (spent : Bool) → (under_way.last_job == last_number) ≡ spent
        → length under_way.confirmations < 16
        → Comes signing asker held under_way (raise_unless (if spent then Some JobsSpent else None) usable.permitted.key (host_for asker usable.permitted.key signing) signing asker.port under_way)
    comes-raised true is few = refused JobsSpent (inr (usable, few, grind (arith, nat_tests)))
    comes-raised false is few =
        raises usable record { few = few; jobs = λ spent. grind (arith, nat_tests) }

    comes-raise : (room : Bool) → nat_lt (length under_way.confirmations) most_confirmations ≡ room
        → Comes signing asker held under_way (raise_unless (if room then spent_jobs under_way.last_job else Some TooManyConfirmations) usable.permitted.key (host_for asker usable.permitted.key signing) signing asker.port under_way)
    comes-raise false is = refused TooManyConfirmations (usable, grind (arith, nat_tests))
    comes-raise true is =
        comes-raised (under_way.last_job == last_number) refl (grind (arith, nat_tests))

  module _ (usable : IsUsable signing false asker held) where
    comes-put : {fault : Option Cause} → RoomFor under_way fault
        → Comes signing asker held under_way (put_unless fault (Signs usable.permitted.key signing) asker.port under_way)
    comes-put (free room) = put usable room
    comes-put (full more) = refused TooManyAsks (usable, more)
    comes-put (no_ask few last) = refused AsksSpent (usable, few, last)
    comes-put (no_job few numbers none jobs) =
        refused JobsSpent (inl (usable, few, numbers, none, jobs))

  comes-with : (confirm : Bool) (permitted : IsJudgedAs None signing asker held)
      → permitted.key.confirm ≡ confirm
      → Comes signing asker held under_way (sign_unless None confirm asker permitted.key signing under_way)
  comes-with true permitted is = comes-raise record { permitted = permitted; confirm = is } _ refl
  comes-with false permitted is =
      comes-put record { permitted = permitted; confirm = is } (room-of under_way)

  comes-objected : (lets : Bool) (denial : Option Denial) (cause : Cause) (key : HeldKey) → held.lock ≡ None
      → find_identity signing.blob held.table.identities ≡ Some key
      → objection key signing.blob asker.chain signing.message signing.flags asker.wall ≡ Some cause
      → (if lets then option_map DestinationDenied denial else Some OtherPurpose) ≡ Some cause
      → Comes signing asker held under_way (settles (Refuses cause) under_way)
  comes-objected false denial cause key unlocked found is by =
      let same : OtherPurpose ≡ cause = cc in
      subst (λ c. Comes signing asker held under_way (settles (Refuses c) under_way)) same
      (refused OtherPurpose record { unlocked = unlocked; key = key; found = found; judged = is ∙ ap Some (sym same) })
  comes-objected true None cause key unlocked found is by = absurd cc
  comes-objected true (Some denial) cause key unlocked found is by =
      let same : DestinationDenied denial ≡ cause = cc in
      subst (λ c. Comes signing asker held under_way (settles (Refuses c) under_way)) same
      (refused (DestinationDenied denial) record { unlocked = unlocked; key = key; found = found; judged = is ∙ ap Some (sym same) })

  comes-unless : (result : Option Cause) (key : HeldKey) → held.lock ≡ None
      → find_identity signing.blob held.table.identities ≡ Some key
      → objection key signing.blob asker.chain signing.message signing.flags asker.wall ≡ result
      → Comes signing asker held under_way (sign_unless result key.confirm asker key signing under_way)
  comes-unless (Some cause) key unlocked found is =
      comes-objected (let_sign key.purposes signing.message signing.blob signing.flags)
      (denial_under key.rules signing.blob asker.chain signing.message asker.wall) cause key unlocked found is is
  comes-unless None key unlocked found is = comes-with key.confirm record { unlocked = unlocked; key = key; found = found; judged = is } refl

  comes-sign : (found : Option HeldKey) → held.lock ≡ None
      → find_identity signing.blob held.table.identities ≡ found
      → Comes signing asker held under_way (sign_by found asker signing under_way)
  comes-sign None unlocked is = refused NotHeld (unlocked, is)
  comes-sign (Some key) unlocked is =
      comes-unless (objection key signing.blob asker.chain signing.message signing.flags asker.wall) key unlocked is refl

  comes-lock : (lock : Option (List ℕ)) → held.lock ≡ lock
      → Comes signing asker held under_way (serve_by lock (Sign signing) asker held under_way).work
  comes-lock None is = comes-sign (find_identity signing.blob held.table.identities) is refl
  comes-lock (Some passphrase) is = refused Locked (subst IsSome (sym is) refl)

  -- whatever is to be signed
  pub comes-of : Comes signing asker held under_way (serve (Ok (Sign signing)) asker held under_way).work
  comes-of = comes-lock held.lock refl

  -- ---- the other way round

  by_cause : {work : Work} (cause : Cause) → Comes signing asker held under_way work
      → work.verdict ≡ Refuses cause → IsRefusedFor cause signing asker held under_way
  by_cause cause (refused other why) is =
      let same : other ≡ cause = cc in
      subst (λ c. IsRefusedFor c signing asker held under_way) same why
  by_cause cause (raises usable room) is = absurd (cc)
  by_cause cause (put usable room) is = absurd (cc)

  by_put : {work : Work} (ask : ℕ) → Comes signing asker held under_way work
      → work.verdict ≡ Awaits (OnAsk ask)
      → IsUsable signing false asker held × HasRoom under_way × (ask ≡ under_way.link.last + 1)
  by_put ask (refused cause why) is = absurd (cc)
  by_put ask (raises usable room) is = absurd (cc)
  by_put ask (put usable room) is =
      let same : under_way.link.last + 1 ≡ ask = cc in (usable, room, sym same)

  by_raise : {work : Work} (job : ℕ) → Comes signing asker held under_way work
      → work.verdict ≡ Awaits (OnConfirmation job)
      → IsUsable signing true asker held × HasConfirmationRoom under_way × (job ≡ under_way.last_job + 1)
  by_raise job (refused cause why) is = absurd (cc)
  by_raise job (raises usable room) is =
      let same : under_way.last_job + 1 ≡ job = cc in (usable, room, sym same)
  by_raise job (put usable room) is = absurd (cc)

  -- what the constraints say counts
  judged-work : (result : Option Cause) (why : IsJudgedAs result signing asker held)
      → (serve (Ok (Sign signing)) asker held under_way).work ≡ sign_unless result why.key.confirm asker why.key signing under_way
  judged-work result why =
      ap (λ lock. (serve_by lock (Sign signing) asker held under_way).work) why.unlocked
      ∙ ap (λ found. sign_by found asker signing under_way) why.found
      ∙ ap (λ result. sign_unless result why.key.confirm asker why.key signing under_way) why.judged

  -- a usable key's signature is put to the helper, unless something stands against it
  usable-put : (fault : Option Cause) (usable : IsUsable signing false asker held)
      → ask_fault under_way ≡ fault
      → (serve (Ok (Sign signing)) asker held under_way).work ≡ put_unless fault (Signs usable.permitted.key signing) asker.port under_way
  usable-put fault usable is =
      judged-work None usable.permitted
      ∙ ap (λ confirm. sign_unless None confirm asker usable.permitted.key signing under_way) usable.confirm
      ∙ ap (λ f. put_unless f (Signs usable.permitted.key signing) asker.port under_way) is

  -- what may be put is
  pub put-usable : (usable : IsUsable signing false asker held) → HasRoom under_way
      → (serve (Ok (Sign signing)) asker held under_way).work ≡ put_unless None (Signs usable.permitted.key signing) asker.port under_way
  put-usable usable room = usable-put None usable (room-free under_way room)

  -- the user is asked, unless something stands against it
  usable-raise : (fault : Option Cause) (usable : IsUsable signing true asker held)
      → raise_fault under_way ≡ fault
      → (serve (Ok (Sign signing)) asker held under_way).work ≡ raise_unless fault usable.permitted.key (host_for asker usable.permitted.key signing) signing asker.port under_way
  usable-raise fault usable is =
      judged-work None usable.permitted
      ∙ ap (λ confirm. sign_unless None confirm asker usable.permitted.key signing under_way) usable.confirm
      ∙ ap (λ f. raise_unless f usable.permitted.key (host_for asker usable.permitted.key signing) signing asker.port under_way) is

  raise_fault_of : (room : Bool) → nat_lt (length under_way.confirmations) most_confirmations ≡ room
      → raise_fault under_way ≡ (if room then spent_jobs under_way.last_job else Some TooManyConfirmations)
  raise_fault_of room is = ap (λ b. if b then spent_jobs under_way.last_job else Some TooManyConfirmations) is

  -- what the user may be asked for is asked for
  pub raise-usable : (usable : IsUsable signing true asker held) → HasConfirmationRoom under_way
      → (serve (Ok (Sign signing)) asker held under_way).work ≡ raise_unless None usable.permitted.key (host_for asker usable.permitted.key signing) signing asker.port under_way
  raise-usable usable room =
      let apart : under_way.last_job ≢ 2 ^ 64 - 1 = room.jobs in
      let unspent : (under_way.last_job == last_number) ≡ false = grind (arith, nat_tests) in
      usable-raise None usable (raise_fault_of true (grind (arith, nat_tests, room.few)) ∙ ap (λ b. if b then Some JobsSpent else None) unspent)

  because : (cause : Cause) → IsRefusedFor cause signing asker held under_way
      → (serve (Ok (Sign signing)) asker held under_way).work.verdict ≡ Refuses cause
  because Locked why = by_lock held.lock refl why
    where
      by_lock : (lock : Option (List ℕ)) → held.lock ≡ lock → IsSome held.lock
          → (serve_by held.lock (Sign signing) asker held under_way).work.verdict ≡ Refuses Locked
      by_lock None is some = absurd (cc)
      by_lock (Some passphrase) is some =
          ap (λ l. (serve_by l (Sign signing) asker held under_way).work.verdict) is
  because NotHeld why =
      ap (λ lock. (serve_by lock (Sign signing) asker held under_way).work.verdict) why.0 ∙ ap (λ found. (sign_by found asker signing under_way).verdict) why.1
  because TooManyConfirmations why = ap (λ (w : Work). w.verdict) (usable-raise (Some TooManyConfirmations) why.0 (raise_fault_of false (grind (arith, nat_tests, why.1))))
  because OtherPurpose why = ap (λ (w : Work). w.verdict) (judged-work (Some OtherPurpose) why)
  because (DestinationDenied denial) why =
      ap (λ (w : Work). w.verdict) (judged-work (Some (DestinationDenied denial)) why)
  because TooManyAsks why =
      ap (λ (w : Work). w.verdict) (usable-put (Some TooManyAsks) why.0 (room-full under_way why.1))
  because AsksSpent why = ap (λ (w : Work). w.verdict) (usable-put (Some AsksSpent) why.0 (room-no_ask under_way why.1 why.2))
  because JobsSpent (inl why) = ap (λ (w : Work). w.verdict) (usable-put (Some JobsSpent) why.0 (room-no_job under_way why.1 why.2 why.3 why.4))
  because JobsSpent (inr why) =
      let spent : (under_way.last_job == last_number) ≡ true = grind (arith, nat_tests, why.2) in
      ap (λ (w : Work). w.verdict) (usable-raise (Some JobsSpent) why.0 (raise_fault_of true (grind (arith, nat_tests, why.1)) ∙ ap (λ b. if b then Some JobsSpent else None) spent))
  because other why = absurd why

-- exactly where
pub refused-exactly : (cause : Cause) (signing : Signing) (asker : Asker) (held : KeyState) (under_way : UnderWay) → ((serve (Ok (Sign signing)) asker held under_way).work.verdict ≡ Refuses cause) ↔ IsRefusedFor cause signing asker held under_way
refused-exactly cause signing asker held under_way =
    (by_cause signing asker held under_way cause (comes-of signing asker held under_way), because signing asker held under_way cause)

pub put-exactly : (ask : ℕ) (signing : Signing) (asker : Asker) (held : KeyState) (under_way : UnderWay) → ((serve (Ok (Sign signing)) asker held under_way).work.verdict ≡ Awaits (OnAsk ask)) ↔ (IsUsable signing false asker held × HasRoom under_way × (ask ≡ under_way.link.last + 1))
put-exactly ask signing asker held under_way = (
  by_put signing asker held under_way ask (comes-of signing asker held under_way),
  λ why. ap (λ (w : Work). w.verdict) (put-usable signing asker held under_way why.0 why.1) ∙ ap (λ n. Awaits (OnAsk n)) (sym why.2),
)

pub raised-exactly : (job : ℕ) (signing : Signing) (asker : Asker) (held : KeyState) (under_way : UnderWay) → ((serve (Ok (Sign signing)) asker held under_way).work.verdict ≡ Awaits (OnConfirmation job)) ↔ (IsUsable signing true asker held × HasConfirmationRoom under_way × (job ≡ under_way.last_job + 1))
raised-exactly job signing asker held under_way = (
  by_raise signing asker held under_way job (comes-of signing asker held under_way),
  λ why. ap (λ (w : Work). w.verdict) (raise-usable signing asker held under_way why.0 why.1) ∙ ap (λ n. Awaits (OnConfirmation n)) (sym why.2),
)
