-- What the link has heard is the rest of what the helper said in its life, and what was put in this life was put in the run.
use Rattle.std.proofs.Common.{◌≡◌, ◌⊎◌, inl, inr, ℕ, zero, suc, List, [], ◌∷◌, ◌++◌, refl, ap, sym, subst, ◌∙◌}
use Rattle.std.proofs.lemmas.List.{append-nil}
use Rattle.world_ports.specs.declared.Moment.{Moment}
use Rattle.child_msg.specs.Messages.{ToChildMessage}
use Rattle.agent_model.specs.Actions.{Outcome}
use Rattle.agent_model.specs.Events.{Happening, Timed}
use Rattle.agent_model.specs.Runs.{run}
use Rattle.agent_model.specs.State.{State}
use Rattle.agent_model.specs.Step.{handle, step}
use Rattle.agent_model.specs.Time.{at_moment, time_passes}
use Rattle.agent_laws.specs.Answered.{Says, times_lost}
use Rattle.agent_laws.specs.Puts.{messages_of}
use Rattle.signature_laws.specs.Lives.{Brings, Lead, Life, behind_losses, life_after, life_at, new_life}
use Rattle.signature_laws.specs.Lives as lives
use Rattle.signature_laws.specs.Signatures.{IsIn}
use Rattle.signature_laws.proofs.SignatureLemmas.{in-behind}
use Rattle.signature_laws.proofs.StreamLemmas.{in-ahead}
use Rattle.signature_laws.proofs.HeardLemmas.{Effect, effect, said, says-one, still}
use Rattle.signature_laws.proofs.RestLemmas.{rest-append, rest-left, rest-none, rest-said, rest_of, still-moment}
use Rattle.signature_laws.proofs.StillLemmas.{left_of}

-- ---- a life

said-behind : (times : ℕ) (life : Life) → (behind_losses times life).said ≡ left_of times life.said
said-behind zero life = refl
said-behind (suc more) life = refl

-- what the link has heard is the rest of what the helper said in this life
abbrev pub IsFollowed : State → Life → Type 0
IsFollowed state life = state.under_way.link.heard ≡ rest_of life.said

pub followed-at : (state : State) (moment : Moment) (life : Life) → IsFollowed state life
    → IsFollowed (at_moment moment state) (life_at state moment life)
followed-at state moment life is =
    let times : ℕ = times_lost (time_passes moment state).actions in
    still-moment moment state ∙ ap (left_of times) is ∙ sym (rest-left times life.said)
    ∙ ap rest_of (sym (said-behind times life))

-- what is left behind an event
left-after : (outcome : Outcome) (bytes : List ℕ) (life : Life)
    → outcome.state.under_way.link.heard ≡ left_of (times_lost outcome.actions) (rest_of (life.said ++ bytes))
    → IsFollowed outcome.state (life_after outcome bytes life)
left-after outcome bytes life is =
    is ∙ sym (rest-left (times_lost outcome.actions) (life.said ++ bytes))
    ∙ ap rest_of (sym (said-behind (times_lost outcome.actions) (record { put = life.put ++ outcome.put; said = life.said ++ bytes })))

followed-silent : (event : Happening) (state : State) (life : Life) → Effect event state (handle event state)
    → ((bytes : List ℕ) → Says state event bytes → ⊥) → IsFollowed state life
    → IsFollowed (handle event state).state (life_after (handle event state) [] life)
followed-silent event state life (said bytes says) silent is = absurd (silent bytes says)
followed-silent event state life (still never stays) silent is =
    let times : ℕ = times_lost (handle event state).actions in
    left-after (handle event state) [] life
    (stays ∙ ap (left_of times) (is ∙ ap rest_of (sym (append-nil life.said))))

followed-after : (event : Happening) (state : State) (life : Life) (bytes : List ℕ) → Brings state event bytes
    → IsFollowed state life → IsFollowed (handle event state).state (life_after (handle event state) bytes life)
followed-after event state life bytes (lives.some brought says) is =
    let times : ℕ = times_lost (handle event state).actions in
    let whole : rest_of (state.under_way.link.heard ++ bytes) ≡ rest_of (life.said ++ bytes) = ap (λ heard. rest_of (heard ++ bytes)) is ∙ sym (rest-append life.said bytes) in
    left-after (handle event state) bytes life (rest-said bytes event state says ∙ ap (left_of times) whole)
followed-after event state life bytes (lives.none silent) is =
    followed-silent event state life (effect event state) silent is

pub followed-lead : {state : State} {life last : Life} {events : List Timed} → Lead state life events last
    → IsFollowed state life → IsFollowed (run state events) last
followed-lead (lives.stays state life) is = is
followed-lead (lives.goes_on state life one later bytes last brings lead) is =
    followed-lead lead
    (followed-after one.event (at_moment one.moment state) (life_at state one.moment life) bytes brings (followed-at state one.moment life is))

-- at the start nothing was heard
pub followed-first : (state : State) → state.under_way.link.heard ≡ [] → IsFollowed state new_life
followed-first state none = none ∙ sym rest-none

-- ---- each run leads to a life

record HasBytes (state : State) (event : Happening) : Type 0 where
  bytes : List ℕ
  brings : Brings state event bytes

has-bytes : (event : Happening) (state : State) → Effect event state (handle event state) → HasBytes state event
has-bytes event state (still never stays) = record { bytes = []; brings = lives.none never }
has-bytes event state (said bytes says) = record { bytes = bytes; brings = lives.some bytes says }

pub record HasLife (state : State) (life : Life) (events : List Timed) : Type 0 where
  pub last : Life
  pub lead : Lead state life events last

pub has-life : (state : State) (life : Life) (events : List Timed) → HasLife state life events
has-life state life [] = record { last = life; lead = lives.stays state life }
has-life state life (one ∷ later) =
    let opened : State = at_moment one.moment state in
    let brought = has-bytes one.event opened (effect one.event opened) in
    let found = has-life (step state one.moment one.event).state (life_after (handle one.event opened) brought.bytes (life_at state one.moment life)) later in
    record { last = found.last; lead = lives.goes_on state life one later brought.bytes found.last brought.brings found.lead }

-- nor an event that brings none any
pub brings-one : (event : Happening) (state : State) (some other : List ℕ) → Brings state event some → Brings state event other
    → some ≡ other
brings-one event state some other (lives.some bytes says) (lives.some again said_again) =
    says-one event state some other says said_again
brings-one event state some other (lives.some bytes says) (lives.none silent) = absurd (silent some says)
brings-one event state some other (lives.none silent) (lives.some bytes says) = absurd (silent other says)
brings-one event state some other (lives.none silent) (lives.none again) = refl

-- they lead to one life
pub lead-one : {state : State} {life some other : Life} {events : List Timed} → Lead state life events some
    → Lead state life events other → some ≡ other
lead-one (lives.stays state life) (lives.stays state_too life_too) = refl
lead-one (lives.goes_on state life one later bytes last brings lead) (lives.goes_on state_too life_too one_too later_too again last_too brings_too lead_too) =
    let opened : State = at_moment one.moment state in
    let same : again ≡ bytes = brings-one one.event opened again bytes brings_too brings in
    lead-one lead
    (subst (λ (said_bytes : List ℕ). Lead (step state one.moment one.event).state (life_after (handle one.event opened) said_bytes (life_at state one.moment life)) later last_too) same lead_too)

-- ---- what was put

pub put-behind : (times : ℕ) (life : Life) (message : ToChildMessage) → IsIn message (behind_losses times life).put
    → IsIn message life.put
put-behind zero life message there = there
put-behind (suc more) life message there = absurd there

in-either : {A : Type 0} (one : A) (some more : List A) → IsIn one (some ++ more) → IsIn one some ⊎ IsIn one more
in-either one [] more there = inr there
in-either one (first ∷ some) more (inl same) = inl (inl same)
in-either one (first ∷ some) more (inr there) = by_rest (in-either one some more there)
  where
    by_rest : IsIn one some ⊎ IsIn one more → IsIn one (first ∷ some) ⊎ IsIn one more
    by_rest (inl in_some) = inl (inr in_some)
    by_rest (inr in_more) = inr in_more

pub put-lead : {state : State} {life last : Life} {events : List Timed} (message : ToChildMessage)
    → Lead state life events last → IsIn message last.put
    → IsIn message life.put ⊎ IsIn message (messages_of state events)
put-lead message (lives.stays state life) there = inl there
put-lead message (lives.goes_on state life one later bytes last brings lead) there =
    by_rest (put-lead message lead there)
  where
    opened : State
    opened = at_moment one.moment state

    rest : List ToChildMessage
    rest = messages_of (step state one.moment one.event).state later

    now : List ToChildMessage
    now = (step state one.moment one.event).put

    by_place : IsIn message (life_at state one.moment life).put ⊎ IsIn message (handle one.event opened).put
        → IsIn message life.put ⊎ IsIn message (now ++ rest)
    by_place (inl before) = inl (put-behind (times_lost (time_passes one.moment state).actions) life message before)
    by_place (inr here) =
        inr (in-ahead message now rest (in-behind message (time_passes one.moment state).put (handle one.event opened).put here))

    by_rest : IsIn message (life_after (handle one.event opened) bytes (life_at state one.moment life)).put ⊎ IsIn message rest
        → IsIn message life.put ⊎ IsIn message (now ++ rest)
    by_rest (inl before) =
        by_place
        (in-either message (life_at state one.moment life).put (handle one.event opened).put
        (put-behind (times_lost (handle one.event opened).actions) (record { put = (life_at state one.moment life).put ++ (handle one.event opened).put; said = (life_at state one.moment life).said ++ bytes }) message before))
    by_rest (inr later_put) = inr (in-behind message now rest later_put)
