-- A request to bind is put to the helper exactly where it may be, and is refused exactly for its cause.
use Rattle.std.proofs.Common.{◌≡◌, ℕ, ◌+◌, List, refl, ap, sym, subst, ◌∙◌, Option, Some, None, IsSome, Bool, true, false, Ok, Err, ◌↔◌}
use Rattle.key_blob.specs.PublicKeys.{KeyParts, public_key_of}
use Rattle.key_blob.specs.declared.fault.KeyFault.{KeyFault}
use Rattle.key_blob.specs.declared.fault.KeyFault.TheVariants as of_key
use Rattle.agent_msg.specs.Faults.{key_fault}
use Rattle.agent_msg.specs.Reading.{request_of}
use Rattle.agent_msg.specs.Requests.{Bind, BindRequest}
use Rattle.dest_rule.specs.Chains.{judge}
use Rattle.dest_rule.specs.declared.fault.Next.{Next as Judgement}
use Rattle.dest_rule.specs.declared.fault.Next.TheVariants.{New, Refuse, Same}
use Rattle.agent_model.specs.Actions.{Work, settles}
use Rattle.agent_model.specs.Askable.{HasRoom}
use Rattle.agent_model.specs.Bindable.{IsBindRefusedFor, IsBindable}
use Rattle.agent_model.specs.Binds.{agent_request_of, and_host_key, bind_with}
use Rattle.agent_model.specs.Dispatch.{Asker, bind_by, serve, serve_by, unread}
use Rattle.agent_model.specs.Errands.{Verifies, ask_fault, put_unless}
use Rattle.agent_model.specs.KeyStates.{KeyState}
use Rattle.agent_model.specs.Sound.{judged}
use Rattle.agent_model.specs.State.{OnAsk, UnderWay}
use Rattle.agent_model.specs.Verdicts.{AsksSpent, Awaits, BindRefused, Cause, JobsSpent, Locked, Malformed, Refuses, TooManyAsks}
use Rattle.agent_model.proofs.RoomLemmas.{RoomFor, free, full, no_ask, no_job, room-free, room-full, room-no_ask, room-no_job, room-of}

-- what comes of a request to bind, and why
pub data Comes (bind : BindRequest) (asker : Asker) (held : KeyState) (under_way : UnderWay) : Work → Type 0 where
  refused : (cause : Cause) → IsBindRefusedFor cause bind asker held under_way
      → Comes bind asker held under_way (settles (Refuses cause) under_way)
  put : (bindable : IsBindable bind asker held) → HasRoom under_way
      → Comes bind asker held under_way (put_unless None (Verifies bind bindable.is_new) asker.port under_way)

module _ (bind : BindRequest) (asker : Asker) (held : KeyState) (under_way : UnderWay) where
  comes-put : {fault : Option Cause} (bindable : IsBindable bind asker held)
      → RoomFor under_way fault
      → Comes bind asker held under_way (put_unless fault (Verifies bind bindable.is_new) asker.port under_way)
  comes-put bindable (free room) = put bindable room
  comes-put bindable (full more) = refused TooManyAsks (bindable, more)
  comes-put bindable (no_ask few spent) = refused AsksSpent (bindable, few, spent)
  comes-put bindable (no_job few numbers none spent) =
      refused JobsSpent (bindable, few, numbers, none, spent)

  comes-judged : (judgement : Judgement) → held.lock ≡ None
      → judge bind.host_key bind.session asker.chain ≡ judgement
      → Comes bind asker held under_way (bind_by judgement asker bind under_way)
  comes-judged (Refuse fault) unlocked is = refused (BindRefused fault) (unlocked, is)
  comes-judged Same unlocked is =
      comes-put record { unlocked = unlocked; is_new = false; stands = is } (room-of under_way)
  comes-judged New unlocked is =
      comes-put record { unlocked = unlocked; is_new = true; stands = is } (room-of under_way)

  comes-lock : (lock : Option (List ℕ)) → held.lock ≡ lock
      → Comes bind asker held under_way (serve_by lock (Bind bind) asker held under_way).work
  comes-lock None is = comes-judged (judge bind.host_key bind.session asker.chain) is refl
  comes-lock (Some passphrase) is = refused Locked (subst IsSome (sym is) refl)

  -- whatever is to be bound
  comes-of : Comes bind asker held under_way (serve (Ok (Bind bind)) asker held under_way).work
  comes-of = comes-lock held.lock refl

  -- ---- the other way round

  by_cause : {work : Work} (cause : Cause) → Comes bind asker held under_way work
      → work.verdict ≡ Refuses cause → IsBindRefusedFor cause bind asker held under_way
  by_cause cause (refused other why) is =
      let same : other ≡ cause = cc in
      subst (λ c. IsBindRefusedFor c bind asker held under_way) same why
  by_cause cause (put bindable room) is = absurd (cc)

  by_put : {work : Work} (ask : ℕ) → Comes bind asker held under_way work
      → work.verdict ≡ Awaits (OnAsk ask)
      → IsBindable bind asker held × HasRoom under_way × (ask ≡ under_way.link.last + 1)
  by_put ask (refused cause why) is = absurd (cc)
  by_put ask (put bindable room) is =
      let same : under_way.link.last + 1 ≡ ask = cc in (bindable, room, sym same)

  -- what is judged counts
  judged-work : (is_new : Bool)
      → bind_by (judged is_new) asker bind under_way ≡ put_unless (ask_fault under_way) (Verifies bind is_new) asker.port under_way
  judged-work true = refl
  judged-work false = refl

  bindable-put : (fault : Option Cause) (bindable : IsBindable bind asker held)
      → ask_fault under_way ≡ fault
      → (serve (Ok (Bind bind)) asker held under_way).work ≡ put_unless fault (Verifies bind bindable.is_new) asker.port under_way
  bindable-put fault bindable is =
      ap (λ lock. (serve_by lock (Bind bind) asker held under_way).work) bindable.unlocked
      ∙ ap (λ judgement. bind_by judgement asker bind under_way) bindable.stands
      ∙ judged-work bindable.is_new
      ∙ ap (λ f. put_unless f (Verifies bind bindable.is_new) asker.port under_way) is

  -- what may be put is
  pub put-bindable : (bindable : IsBindable bind asker held) → HasRoom under_way
      → (serve (Ok (Bind bind)) asker held under_way).work ≡ put_unless None (Verifies bind bindable.is_new) asker.port under_way
  put-bindable bindable room = bindable-put None bindable (room-free under_way room)

  because : (cause : Cause) → IsBindRefusedFor cause bind asker held under_way
      → (serve (Ok (Bind bind)) asker held under_way).work.verdict ≡ Refuses cause
  because Locked why = by_lock held.lock refl why
    where
      by_lock : (lock : Option (List ℕ)) → held.lock ≡ lock → IsSome held.lock
          → (serve_by held.lock (Bind bind) asker held under_way).work.verdict ≡ Refuses Locked
      by_lock None is some = absurd (cc)
      by_lock (Some passphrase) is some =
          ap (λ l. (serve_by l (Bind bind) asker held under_way).work.verdict) is
  because (BindRefused fault) why =
      ap (λ lock. (serve_by lock (Bind bind) asker held under_way).work.verdict) why.0
      ∙ ap (λ judgement. (bind_by judgement asker bind under_way).verdict) why.1
  because TooManyAsks why = ap (λ (w : Work). w.verdict) (bindable-put (Some TooManyAsks) why.0 (room-full under_way why.1))
  because AsksSpent why = ap (λ (w : Work). w.verdict) (bindable-put (Some AsksSpent) why.0 (room-no_ask under_way why.1 why.2))
  because JobsSpent why = ap (λ (w : Work). w.verdict) (bindable-put (Some JobsSpent) why.0 (room-no_job under_way why.1 why.2 why.3 why.4))
  because other why = absurd why

-- exactly where
pub bind_refused-exactly : (cause : Cause) (bind : BindRequest) (asker : Asker) (held : KeyState) (under_way : UnderWay) → ((serve (Ok (Bind bind)) asker held under_way).work.verdict ≡ Refuses cause) ↔ IsBindRefusedFor cause bind asker held under_way
bind_refused-exactly cause bind asker held under_way =
    (by_cause bind asker held under_way cause (comes-of bind asker held under_way), because bind asker held under_way cause)

pub bind_put-exactly : (ask : ℕ) (bind : BindRequest) (asker : Asker) (held : KeyState) (under_way : UnderWay) → ((serve (Ok (Bind bind)) asker held under_way).work.verdict ≡ Awaits (OnAsk ask)) ↔ (IsBindable bind asker held × HasRoom under_way × (ask ≡ under_way.link.last + 1))
bind_put-exactly ask bind asker held under_way = (
  by_put bind asker held under_way ask (comes-of bind asker held under_way),
  λ why. ap (λ (w : Work). w.verdict) (put-bindable bind asker held under_way why.0 why.1) ∙ ap (λ n. Awaits (OnAsk n)) (sym why.2),
)

-- ---- the host key

malformed-by : (fault : KeyFault) (lock : Option (List ℕ))
    → unread (key_fault fault) lock ≡ Malformed (key_fault fault)
malformed-by of_key.Short lock = refl
malformed-by of_key.UnknownType lock = refl
malformed-by of_key.BadLength lock = refl
malformed-by of_key.Mismatch lock = refl
malformed-by of_key.Trailing lock = refl
malformed-by of_key.Memory lock = refl

-- one that doesn't read makes the request malformed, locked or not
pub unreadable-malformed : (body : List ℕ) (bind : BindRequest) (fault : KeyFault) (asker : Asker) (held : KeyState) (under_way : UnderWay)
    → request_of body ≡ Ok (Bind bind) → public_key_of bind.host_key ≡ Err fault
    → (serve (agent_request_of body) asker held under_way).work.verdict ≡ Refuses (Malformed (key_fault fault))
unreadable-malformed body bind fault asker held under_way read is =
    ap (λ r. (serve (and_host_key r) asker held under_way).work.verdict) read
    ∙ ap (λ k. (serve (bind_with bind k) asker held under_way).work.verdict) is
    ∙ ap Refuses (malformed-by fault held.lock)

-- and with one that reads it is what it reads as
pub readable-bind_request : (body : List ℕ) (bind : BindRequest) (key : KeyParts)
    → request_of body ≡ Ok (Bind bind) → public_key_of bind.host_key ≡ Ok key
    → agent_request_of body ≡ Ok (Bind bind)
readable-bind_request body bind key read is = ap and_host_key read ∙ ap (bind_with bind) is
