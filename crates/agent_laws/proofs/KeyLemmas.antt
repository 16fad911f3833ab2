-- Identities have blobs and numbers of their own, and no number is given to another one later.
use Rattle.std.proofs.Common.{◌≡◌, ℕ, ◌+◌, ◌≤◌, List, [], ◌∷◌, refl, arith, sym, ◌∙◌, eqb, cond, max, Option, Some, None, Bool, true, false, Result}
use Rattle.std.proofs.lemmas.Bool.{eqb-true}
use Rattle.world_ports.specs.declared.Moment.{Moment}
use Rattle.agent_msg.specs.declared.fault.MsgFault.{MsgFault}
use Rattle.agent_msg.specs.Requests.{Addition, ClientRequest}
use Rattle.identity_table.specs.Identities.{HaveOwnBlobs, HaveOwnNumbers, HeldKey, TableState, alive_at, find_number, new_identity, remove_identity, added}
use Rattle.identity_table.proofs.FindLemmas.{own_blobs-alive, own_blobs-put, own_blobs-remove}
use Rattle.identity_table.proofs.NumberLaws.{find_number-alive, find_number-put, find_number-remove, unless_blob}
use Rattle.identity_table.proofs.NumberLemmas.{own_numbers-alive, own_numbers-put, own_numbers-remove}
use Rattle.identity_table.proofs.SpendLemmas.{own_blobs-spend, own_numbers-spend}
use Rattle.wire_text.specs.Frames.{front_body}
use Rattle.helper_link.specs.Telling.{telling}
use Rattle.helper_link.specs.declared.fault.LinkFault.{LinkFault}
use Rattle.agent_model.specs.Actions.{Outcome}
use Rattle.agent_model.specs.Answers.{lose_if}
use Rattle.agent_model.specs.Binds.{agent_request_of}
use Rattle.agent_model.specs.Dispatch.{Served, Asker}
use Rattle.agent_model.specs.Consents.{grant_work}
use Rattle.agent_model.specs.Events.{Happening, Timed}
use Rattle.agent_laws.specs.Grants.{HaveOwnParts, WasHeld}
use Rattle.agent_model.specs.KeyStates.{KeyState, after_use}
use Rattle.agent_model.specs.Runs.{run}
use Rattle.agent_model.specs.State.{Settings, State, UnderWay, first_state}
use Rattle.agent_model.specs.Step.{asker_at, handle, step}
use Rattle.agent_model.specs.Time.{at_moment, taken_in}
use Rattle.agent_model.proofs.MakeLemmas.{Makes, alters, by_event, closes, first, goes_on, grants, links, loses, names, overs, serves, stays, tells}
use Rattle.agent_model.proofs.TimeLemmas.{at_moment-keeps}
use Rattle.agent_laws.proofs.HoldsLemmas.{none_numbered, of_alive, of_unless}
use Rattle.agent_laws.proofs.UseLemmas.{used_in_turn, was_held, was_held-used}
use Rattle.agent_model.proofs.ServeLemmas.{Serves, adds, confirms, denies, empties, lists, locks, removes, serves-any, signs, unlocks, verifies}

-- the numbers that were given find what they found, or nothing; and identities have parts of their own yet
pub record KeysKept (old new : TableState) : Type 0 where
  pub own : HaveOwnParts new
  pub last : old.last ≤ new.last
  pub found : (number : ℕ) (key : HeldKey) → number ≤ old.last
      → find_number number new.identities ≡ Some key → WasHeld number old.identities key

kept-same : (table : TableState) → HaveOwnParts table → KeysKept table table
kept-same table own = record { own = own; last = omega arith; found = λ number key within is. was_held number table.identities key is }

kept-in_turn : {old mid new : TableState} → KeysKept old mid → KeysKept mid new → KeysKept old new
kept-in_turn one two = record {
  own = two.own;
  last = omega (arith, one.last, two.last);
  found = λ number key within is.
      let later = two.found number key (omega (arith, within, one.last)) is in
      let before = one.found number later.was within later.found in
      record { was = before.was; found = before.found; used = used_in_turn before.used later.used };
}

pub kept-alive : (second : ℕ) (table : TableState) → HaveOwnParts table
    → KeysKept table (record table { identities = alive_at second table.identities; greatest = second })
kept-alive second table own = record {
  own = record { blobs = own_blobs-alive second table.identities own.blobs; numbers = own_numbers-alive table.last second table.identities own.numbers };
  last = omega arith;
  found = λ number key within is.
      was_held number table.identities key (of_alive second (find_number number table.identities) key (sym (find_number-alive number table.last second table.identities own.numbers) ∙ is));
}

pub kept-removed : (blob : List ℕ) (table : TableState) → HaveOwnParts table
    → KeysKept table (record table { identities = remove_identity blob table.identities })
kept-removed blob table own = record {
  own = record { blobs = own_blobs-remove blob table.identities own.blobs; numbers = own_numbers-remove table.last blob table.identities own.numbers };
  last = omega arith;
  found = λ number key within is.
      was_held number table.identities key (of_unless blob (find_number number table.identities) key (sym (find_number-remove number table.last blob table.identities own.blobs own.numbers) ∙ is));
}

-- all leave
own_none : (last greatest : ℕ) (life : Option ℕ)
    → HaveOwnParts (record { identities = []; greatest = greatest; last = last; life = life })
unfolding HaveOwnBlobs HaveOwnNumbers
own_none last greatest life = record { blobs = tt; numbers = tt }

pub kept-emptied : (table : TableState) → KeysKept table (record table { identities = [] })
kept-emptied table = record {
  own = own_none table.last table.greatest table.life;
  last = omega arith;
  found = λ number key within is. absurd (none_numbered number key is);
}

-- one comes, under the next number
pub kept-added : (addition : Addition) (now : ℕ) (table : TableState) → HaveOwnParts table
    → KeysKept table (added table addition.key addition.terms addition.comment now)
kept-added addition now table own =
    let new : HeldKey = new_identity table addition.key addition.terms addition.comment now in
    record {
      own = record { blobs = own_blobs-put new table.identities own.blobs; numbers = own_numbers-put table.last new table.identities refl own.numbers };
      last = omega arith;
      found = λ number key within is.
          was_held number table.identities key (by_test new number key within (eqb new.number number) refl refl (sym (find_number-put number table.last new table.identities own.blobs own.numbers refl) ∙ is));
    }
  where
    by_test : (new : HeldKey) (number : ℕ) (key : HeldKey) → number ≤ table.last → (same : Bool)
        → new.number ≡ table.last + 1 → eqb new.number number ≡ same
        → cond same (Some new) (unless_blob new.blob (find_number number table.identities)) ≡ Some key
        → find_number number table.identities ≡ Some key
    by_test new number key within true is equal some =
        absurd (omega (arith, is, eqb-true new.number number equal, within))
    by_test new number key within false is equal some =
        of_unless new.blob (find_number number table.identities) key some

-- one is used
pub kept-used : (used : Option ℕ) (held : KeyState) → HaveOwnParts held.table
    → KeysKept held.table (after_use used held).table
kept-used None held own = kept-same held.table own
kept-used (Some addition) held own = record {
  own = record { blobs = own_blobs-spend addition held.table.identities own.blobs; numbers = own_numbers-spend addition held.table.last held.table.identities own.numbers };
  last = omega arith;
  found = λ number key within is. was_held-used addition number held.table.last held.table.identities key own.numbers is;
}

-- ---- requests

kept-served : {read : Result ClientRequest MsgFault} {asker : Asker} {held : KeyState} {under_way : UnderWay} {served : Served}
    → HaveOwnParts held.table → Serves read asker held under_way served
    → KeysKept held.table served.held.table
kept-served {held = held} own (denies cause) = kept-same held.table own
kept-served {held = held} own (lists identities is) = kept-same held.table own
kept-served {asker = asker} {held = held} own (adds addition is) =
    kept-added addition asker.mono held.table own
kept-served {held = held} own (removes blob is) = kept-removed blob held.table own
kept-served {held = held} own (empties is) = kept-emptied held.table
kept-served {held = held} own (locks passphrase is) = kept-same held.table own
kept-served {held = held} own (unlocks passphrase is) = kept-same held.table own
kept-served {held = held} own (signs signing key is found asks free) =
    kept-used (Some key.number) held own
kept-served {held = held} own (confirms signing key is found free) = kept-same held.table own
kept-served {held = held} own (verifies bind is_new is stands free) = kept-same held.table own

-- ---- events

kept-makes : {event : Happening} {old : State} {outcome : Outcome} → Makes event old outcome
    → HaveOwnParts old.held.table → KeysKept old.held.table outcome.state.held.table
kept-makes (stays state) own = kept-same state.held.table own
kept-makes (first (alters number f change) rest) own = kept-makes rest own
kept-makes (first (closes number may) rest) own = kept-makes rest own
kept-makes (first (goes_on new goes) rest) own = kept-makes rest own
kept-makes (first (names job number new) rest) own = kept-makes rest own
kept-makes (first (links job number new) rest) own = kept-makes rest own
kept-makes (serves body_len port state found door waits owed its) own =
    kept-served own (serves-any (agent_request_of (front_body body_len port.heard)) (asker_at state.moment port) state.held state.under_way)
kept-makes (tells piece state) own = kept-fault (telling piece state.under_way.link).fault _ own
  where
    kept-fault : (fault : Option LinkFault) (mid : State) → HaveOwnParts mid.held.table
        → KeysKept mid.held.table (lose_if fault mid).state.held.table
    kept-fault None mid own_mid = kept-same mid.held.table own_mid
    kept-fault (Some fault) mid own_mid = kept-same mid.held.table own_mid
kept-makes (loses state) own = kept-same state.held.table own
kept-makes (overs confirmation state there) own = kept-same state.held.table own
kept-makes (grants confirmation port state there opened) own =
    kept-used (grant_work port.chain confirmation state).used state.held own

-- as the moment is taken in
pub kept-taken : (moment : Moment) (state : State) → HaveOwnParts state.held.table
    → KeysKept state.held.table (taken_in moment state).held.table
kept-taken moment state own = kept-alive (max state.moment.mono moment.mono) state.held.table own

pub kept-opened : (moment : Moment) (state : State) → HaveOwnParts state.held.table
    → KeysKept state.held.table (at_moment moment state).held.table
kept-opened moment state own =
    at_moment-keeps (λ s. KeysKept state.held.table s.held.table) moment state (λ s kept. kept) (λ one s there kept. kept)
    (kept-taken moment state own)

-- by what the event makes
pub kept-event : (event : Happening) (state : State) → HaveOwnParts state.held.table
    → KeysKept state.held.table (handle event state).state.held.table
kept-event event state own =
    by_event (λ outcome. KeysKept state.held.table outcome.state.held.table) event state (λ door. kept-same state.held.table own) (λ outcome makes. kept-makes makes own)

pub step-kept : (state : State) (moment : Moment) (event : Happening)
    → HaveOwnParts state.held.table
    → KeysKept state.held.table (step state moment event).state.held.table
step-kept state moment event own =
    let opened = kept-opened moment state own in
    let left = kept-event event (at_moment moment state) opened.own in
    kept-in_turn opened record { own = left.own; last = left.last; found = left.found }

-- ---- runs

pub run-kept : (state : State) (events : List Timed) → HaveOwnParts state.held.table
    → KeysKept state.held.table (run state events).held.table
run-kept state [] own = kept-same state.held.table own
run-kept state (timed ∷ later) own =
    let now = step-kept state timed.moment timed.event own in
    kept-in_turn now (run-kept (step state timed.moment timed.event).state later now.own)

pub first-own : (settings : Settings) → HaveOwnParts (first_state settings).held.table
first-own settings = own_none 0 0 settings.life

-- a number that finds nothing never will
pub never_again : (number : ℕ) (old new : TableState) → KeysKept old new → number ≤ old.last
    → find_number number old.identities ≡ None → find_number number new.identities ≡ None
never_again number old new kept within none = by_found (find_number number new.identities) refl
  where
    by_found : (found : Option HeldKey) → find_number number new.identities ≡ found
        → find_number number new.identities ≡ None
    by_found None is = is
    by_found (Some key) is =
        let was = kept.found number key within is in
        let no : None ≡ Some was.was = sym none ∙ was.found in
        absurd (cc)
