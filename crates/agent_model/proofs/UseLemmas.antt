-- What uses a key, and what doesn't.
use Rattle.std.proofs.Common.{◌≡◌, ◌≢◌, ℕ, List, refl, ap, sym, ◌∙◌, Option, Some, None, false, Ok}
use Rattle.confirm_desk.specs.Confirmations.{Confirmation}
use Rattle.helper_link.specs.Telling.{telling}
use Rattle.helper_link.specs.declared.fault.LinkFault.{LinkFault}
use Rattle.identity_table.specs.Identities.{HeldKey}
use Rattle.identity_table.specs.Tables.{spent}
use Rattle.agent_msg.specs.Requests.{Bind, BindRequest, Sign, Signing}
use Rattle.agent_model.specs.Actions.{Work}
use Rattle.agent_model.specs.Answers.{answers_in, helper_heard, lose_if, with_answers}
use Rattle.agent_model.specs.Askable.{HasRoom, IsGrantable, IsUsable}
use Rattle.agent_model.specs.Consents.{grant, grant_to, grant_work, without_confirmation}
use Rattle.agent_model.specs.Dispatch.{Asker, serve, serve_by}
use Rattle.agent_model.specs.KeyStates.{KeyState, after_use}
use Rattle.agent_model.specs.State.{OnAsk, OnConfirmation, Port, State, UnderWay, find_port}
use Rattle.agent_model.specs.Verdicts.{Awaits, Cause, Refuses, Verdict}
use Rattle.agent_model.proofs.GrantLemmas.{IsGranted, allowed, disallowed, grant-ends, granted-put, unasked}
use Rattle.agent_model.proofs.SignLemmas.{Comes, comes-of, put, put-usable, raises, refused}

-- neither a refusal nor a question to the user is an ask
refusal : (cause : Cause) (ask : ℕ) → Refuses cause ≢ Awaits (OnAsk ask)
refusal cause ask is = absurd (cc)

question : (job ask : ℕ) → Awaits (OnConfirmation job) ≢ Awaits (OnAsk ask)
question job ask is = absurd (cc)

-- ---- requests

module _ (signing : Signing) (asker : Asker) (held : KeyState) (under_way : UnderWay) where
  used_by_lock : (lock : Option (List ℕ))
      → (serve_by lock (Sign signing) asker held under_way).held ≡ after_use (serve_by lock (Sign signing) asker held under_way).work.used held
  used_by_lock None = refl
  used_by_lock (Some passphrase) = refl

  -- what is held has a use less of what was used
  used-signed : (serve (Ok (Sign signing)) asker held under_way).held ≡ after_use (serve (Ok (Sign signing)) asker held under_way).work.used held
  used-signed = used_by_lock held.lock

  -- what isn't put uses nothing
  unused : {work : Work} → Comes signing asker held under_way work
      → ((ask : ℕ) → work.verdict ≢ Awaits (OnAsk ask)) → work.used ≡ None
  unused (refused cause why) other = refl
  unused (raises usable room) other = refl
  unused (put usable room) other = absurd (other _ refl)

  pub used-put : (usable : IsUsable signing false asker held) → HasRoom under_way
      → (serve (Ok (Sign signing)) asker held under_way).held ≡ record held { table = spent usable.permitted.key.number held.table }
  used-put usable room =
      used-signed ∙ ap (λ (w : Work). after_use w.used held) (put-usable signing asker held under_way usable room)

  -- whatever else is told
  unused-told : (verdict : Verdict) → ((ask : ℕ) → verdict ≢ Awaits (OnAsk ask))
      → (serve (Ok (Sign signing)) asker held under_way).work.verdict ≡ verdict
      → (serve (Ok (Sign signing)) asker held under_way).held ≡ held
  unused-told verdict other told =
      used-signed ∙ ap (λ used. after_use used held) (unused (comes-of signing asker held under_way) (λ ask is. other ask (sym told ∙ is)))

  pub unused-refused : (cause : Cause)
      → (serve (Ok (Sign signing)) asker held under_way).work.verdict ≡ Refuses cause
      → (serve (Ok (Sign signing)) asker held under_way).held ≡ held
  unused-refused cause told = unused-told (Refuses cause) (refusal cause) told

  pub unused-raised : (job : ℕ)
      → (serve (Ok (Sign signing)) asker held under_way).work.verdict ≡ Awaits (OnConfirmation job)
      → (serve (Ok (Sign signing)) asker held under_way).held ≡ held
  unused-raised job told = unused-told (Awaits (OnConfirmation job)) (question job) told

pub unused-verified : (bind : BindRequest) (asker : Asker) (held : KeyState) (under_way : UnderWay)
    → (serve (Ok (Bind bind)) asker held under_way).held ≡ held
unused-verified bind asker held under_way = by_lock held.lock
  where
    by_lock : (lock : Option (List ℕ))
        → (serve_by lock (Bind bind) asker held under_way).held ≡ held
    by_lock None = refl
    by_lock (Some passphrase) = refl

-- ---- the user's consent

module _ (port : Port) (confirmation : Confirmation) (state : State) (found : find_port confirmation.asker state.ports ≡ Some port) where
  -- what is held has a use less of what was used
  used-granted : (grant confirmation state).state.held ≡ after_use (grant_work port.chain confirmation state).used state.held
  used-granted = ap (λ asker. (grant_to asker confirmation state).state.held) found

  pub used-grant : (key : HeldKey)
      → IsGrantable key port.chain confirmation.addition confirmation.message confirmation.flags state.moment.wall state.held
      → HasRoom state.under_way
      → (grant confirmation state).state.held ≡ record state.held { table = spent key.number state.held.table }
  used-grant key may room =
      let left : UnderWay = without_confirmation confirmation.job state.under_way in
      let still : HasRoom left = record { place = room.place; numbers = room.numbers; jobs = room.jobs } in
      used-granted ∙ ap (λ (w : Work). after_use w.used state.held) (granted-put port.chain confirmation state.moment.wall state.held left key may still)

  unused_grant : {work : Work} (cause : Cause)
      → IsGranted port.chain confirmation state.moment.wall state.held (without_confirmation confirmation.job state.under_way) work
      → work.verdict ≡ Refuses cause → work.used ≡ None
  unused_grant cause (disallowed never) is = refl
  unused_grant cause (unasked other key may fault) is = refl
  unused_grant cause (allowed key may free) is = absurd (cc)

  pub unused-ungranted : (cause : Cause)
      → (grant_work port.chain confirmation state).verdict ≡ Refuses cause
      → (grant confirmation state).state.held ≡ state.held
  unused-ungranted cause is =
      used-granted ∙ ap (λ used. after_use used state.held) (unused_grant cause (grant-ends port.chain confirmation state) is)

-- ---- the helper

pub unused-answered : (piece : List ℕ) (state : State)
    → (helper_heard piece state).state.held ≡ state.held
unused-answered piece state = by_fault (telling piece state.under_way.link).fault
  where
    answered : State
    answered =
        with_answers (telling piece state.under_way.link).link
        (answers_in (telling piece state.under_way.link).settled state) state

    by_fault : (fault : Option LinkFault) → (lose_if fault answered).state.held ≡ state.held
    by_fault None = refl
    by_fault (Some fault) = refl
