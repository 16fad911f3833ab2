-- The frames that an event appends to what the helper is owed are those of the messages that were put.
use Rattle.std.proofs.Common.{◌≡◌, ℕ, ◌+◌, List, [], ◌∷◌, ◌++◌, length, drop, refl, sym, ap, ◌∙◌, arith, Option, Some, None}
use Rattle.std.proofs.lemmas.List.{append-nil, drop-drop, drop_all}
use Rattle.world_ports.specs.declared.Moment.{Moment}
use Rattle.wire_text.specs.Frames.{front_body}
use Rattle.helper_link.specs.Telling.{telling}
use Rattle.helper_link.specs.declared.fault.LinkFault.{LinkFault}
use Rattle.dest_rule.specs.declared.binding.Binding.{Binding}
use Rattle.confirm_desk.specs.Confirmations.{Confirmation}
use Rattle.agent_model.specs.Actions.{Outcome, Work, stay}
use Rattle.agent_model.specs.Answers.{helper_heard, lose, lose_if}
use Rattle.agent_model.specs.Consents.{over, signing_of}
use Rattle.agent_model.specs.Dispatch.{Asker, Served}
use Rattle.agent_model.specs.Errands.{Errand, Signs, message_of}
use Rattle.agent_model.specs.Events.{Happening}
use Rattle.agent_model.specs.KeyStates.{KeyState}
use Rattle.agent_model.specs.State.{State, UnderWay}
use Rattle.agent_model.specs.Step.{asker_at, handle, step}
use Rattle.agent_model.specs.Time.{at_moment}
use Rattle.agent_model.proofs.GrantLemmas.{IsGranted, allowed, disallowed, grant-ends, unasked}
use Rattle.agent_model.proofs.MakeLemmas.{Makes, Quiet, after_quiet, alters, by_event, closes, first, goes_on, grants, leaves, links, loses, names, overs, prompts, says, sends, serves, starts, stays, tells}
use Rattle.agent_model.proofs.ServeLemmas.{IsServed, answered, asked, raised, refused, serve-ends}
use Rattle.agent_model.proofs.TimeLemmas.{at_moment-keeps, time_passes-put}
use Rattle.agent_secrecy.specs.Frames.{Appends, frame_of, frames_of}

-- ---- requests and grants

abbrev Puts : UnderWay → Work → Type 0
Puts under_way work = work.under_way.link.owed ≡ under_way.link.owed ++ frames_of work.put

none-put : (owed : List ℕ) → owed ≡ owed ++ frames_of []
none-put owed = sym (append-nil owed)

one-put : (under_way : UnderWay) (errand : Errand)
    → under_way.link.owed ++ frame_of (message_of errand (under_way.link.last + 1)) ≡ under_way.link.owed ++ frames_of (message_of errand (under_way.link.last + 1) ∷ [])
one-put under_way errand = ap (λ frame. under_way.link.owed ++ frame) (sym (append-nil (frame_of (message_of errand (under_way.link.last + 1)))))

served : {asker : Asker} {held : KeyState} {under_way : UnderWay} {served : Served}
    → IsServed asker held under_way served → Puts under_way served.work
served {under_way = under_way} (answered reply kept same) = none-put under_way.link.owed
served {under_way = under_way} (refused cause) = none-put under_way.link.owed
served {under_way = under_way} (asked errand free right) = one-put under_way errand
served {under_way = under_way} (raised key signing free) = none-put under_way.link.owed

granted : {chain : List Binding} {confirmation : Confirmation} {wall : ℕ} {held : KeyState} {under_way : UnderWay} {work : Work}
    → IsGranted chain confirmation wall held under_way work → Puts under_way work
granted {under_way = under_way} (disallowed never) = none-put under_way.link.owed
granted {under_way = under_way} (unasked cause key may fault) = none-put under_way.link.owed
granted {confirmation = confirmation} {under_way = under_way} (allowed key may free) =
    one-put under_way (Signs key (signing_of key confirmation))

-- ---- moments, and what an event changes quietly

-- what is owed goes from the front, or all at once
record Went (before after : State) : Type 0 where
  gone : ℕ
  owed : after.under_way.link.owed ≡ drop gone before.under_way.link.owed

moment-went : (moment : Moment) (state : State) → Went state (at_moment moment state)
moment-went moment state =
    at_moment-keeps (Went state) moment state
    (λ s goes. record { gone = length state.under_way.link.owed; owed = sym (drop_all (length state.under_way.link.owed) state.under_way.link.owed (omega arith)) })
    (λ one s there goes. record { gone = goes.gone; owed = goes.owed })
    (record { gone = 0; owed = refl })

quiet-went : {event : Happening} {old new : State} → Quiet event old new → Went old new
quiet-went (alters number f change) = record { gone = 0; owed = refl }
quiet-went (closes number may) = record { gone = 0; owed = refl }
quiet-went (goes_on new (starts job ticket is)) = record { gone = 0; owed = refl }
quiet-went (goes_on new (leaves job is)) = record { gone = 0; owed = refl }
quiet-went (goes_on new (sends number count port is found linked)) =
    record { gone = count; owed = refl }
quiet-went (goes_on new (prompts number count port one is found linked)) =
    record { gone = 0; owed = refl }
quiet-went (goes_on new (says number piece one at there)) = record { gone = 0; owed = refl }
quiet-went (names job number new) = record { gone = 0; owed = refl }
quiet-went (links job number new) = record { gone = 0; owed = refl }

-- what came behind it, be it that other bodies stand before what was put
behind : {before mid : State} → Went before mid → (later outcome : Outcome) → Appends mid later
    → outcome.put ≡ later.put → outcome.state ≡ later.state → Appends before outcome
behind {before = before} went later outcome one put state = record {
  gone = went.gone + one.gone;
  owed = ap (λ (s : State). s.under_way.link.owed) state
      ∙ one.owed
      ∙ ap (λ bytes. drop one.gone bytes ++ frames_of later.put) went.owed
      ∙ ap (λ bytes. bytes ++ frames_of later.put) (drop-drop one.gone went.gone before.under_way.link.owed)
      ∙ ap (λ all. drop (went.gone + one.gone) before.under_way.link.owed ++ frames_of all) (sym put);
}

-- ---- events

-- nothing was put, and nothing went
kept : (state : State) (outcome : Outcome) → outcome.put ≡ []
    → outcome.state.under_way.link.owed ≡ state.under_way.link.owed → Appends state outcome
kept state outcome put same = record { gone = 0; owed = same ∙ none-put state.under_way.link.owed ∙ ap (λ all. state.under_way.link.owed ++ frames_of all) (sym put) }

lost-appends : (before state : State) → Appends before (lose state)
lost-appends before state = record {
  gone = length before.under_way.link.owed;
  owed = sym (ap (λ bytes. bytes ++ []) (drop_all (length before.under_way.link.owed) before.under_way.link.owed (omega arith)));
}

lost_if : (fault : Option LinkFault) (before state : State)
    → state.under_way.link.owed ≡ before.under_way.link.owed → Appends before (lose_if fault state)
lost_if None before state same = kept before (stay state) refl same
lost_if (Some fault) before state same = lost-appends before state

helper-appends : (piece : List ℕ) (state : State) → Appends state (helper_heard piece state)
helper-appends piece state =
    let one = lost_if (telling piece state.under_way.link).fault state _ refl in
    record { gone = one.gone; owed = one.owed }

makes-appends : {event : Happening} {old : State} {outcome : Outcome} → Makes event old outcome
    → Appends old outcome
makes-appends (stays state) = kept state (stay state) refl refl
makes-appends (first {outcome = outcome} quiet rest) =
    behind (quiet-went quiet) outcome (after_quiet quiet outcome) (makes-appends rest) refl refl
makes-appends (serves body_len port state found door nothing owed own) =
    record { gone = 0; owed = served (serve-ends (asker_at state.moment port) state.held state.under_way (front_body body_len port.heard)) }
makes-appends (tells piece state) = helper-appends piece state
makes-appends (loses state) = lost-appends state state
makes-appends (overs confirmation state there) = kept state (over confirmation state) refl refl
makes-appends (grants confirmation port state there opened) =
    record { gone = 0; owed = granted (grant-ends port.chain confirmation state) }

pub step-appends : (state : State) (moment : Moment) (event : Happening)
    → Appends state (step state moment event)
step-appends state moment event =
    let opened : State = at_moment moment state in
    let later : Outcome = handle event opened in
    behind (moment-went moment state) later (step state moment event)
    (by_event (Appends opened) event opened (λ door. record { gone = 0; owed = none-put opened.under_way.link.owed }) (λ outcome. makes-appends))
    (ap (λ put. put ++ later.put) (time_passes-put moment state)) refl
