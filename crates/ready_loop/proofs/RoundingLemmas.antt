-- A turn takes what stands first, and leaves it last or gone.
use Rattle.std.proofs.Common.{◌≡◌, ◌∙◌, ℕ, Bool, true, false, List, [], ◌∷◌, ◌++◌, Option, Some, None, Result, Ok, Err, refl, sym, ap, subst, append_assoc}
use Rattle.std.specs.Option.{option_map_or}
use Rattle.std.specs.Prelude.{OnOk}
use Rattle.std.proofs.lemmas.List.{append-nil}
use Rattle.std.proofs.lemmas.List.Elements.{filter-append}
use Rattle.std.specs.List.{filter}
use Rattle.agent_model.specs.Events.{Ended}
use Rattle.agent_model.specs.Sound.{IsRising}
use Rattle.agent_model.specs.State.{State, is_open}
use Rattle.loop_model.specs.Fairness.{GoesRound, KeepsOrder, only_if}
use Rattle.loop_model.specs.Lines.{IsListed, Line, after_event, in_hand}
use Rattle.loop_model.specs.Queues.{AreApart, dropped, first_servable}
use Rattle.loop_model.specs.Servable.{is_servable}
use Rattle.loop_model.specs.Things.{same_thing, set_of}
use Rattle.loop_model.specs.declared.thing.Thing.{Thing}
use Rattle.loop_model.proofs.AddingLemmas.{Adds}
use Rattle.loop_model.proofs.AheadLemmas.{gone_at}
use Rattle.loop_model.proofs.RoundLemmas.{event-ended, event-keeps, event-round, first_is}
use Rattle.loop_model.proofs.ThingLemmas.{same_thing-refl}
use Rattle.loop_model.proofs.LeftLemmas.{ended_closed}
use Rattle.ready_loop.specs.Happenings.{HasHappened}
use Rattle.ready_loop.specs.Moves.{served_by}
use Rattle.ready_loop.specs.Standing.{IsAt, Rounds}
use Rattle.ready_loop.specs.declared.outcome.HubFault.{HubFault}
use Rattle.ready_loop.specs.declared.outcome.Turn.{Turn}
use Rattle.ready_loop.proofs.KeepingLemmas.{then_ok, turn_ok}
use Rattle.loop_model.proofs.FilterLemmas.{filter_all}

-- what is served stands first
stood-first : (state : State) (thing : Thing) (queue : List Thing) → IsListed state queue
    → AreApart queue
    → first_servable state queue ≡ Some thing → queue ≡ thing ∷ dropped thing queue
stood-first state thing queue listed apart found =
    first_is state thing queue listed apart (ap (λ (t : Option Thing). option_map_or (same_thing thing) t false) found ∙ same_thing-refl thing)

-- with more behind the others
round-more : (thing : Thing) (queue others news after : List Thing) → queue ≡ thing ∷ others
    → GoesRound thing (thing ∷ (others ++ news)) after → GoesRound thing queue after
round-more thing queue others news after is round =
    let same : others ++ news ≡ round.others = (let eq : thing ∷ (others ++ news) ≡ thing ∷ round.others = round.first in cc) in
    record {
      others = others;
      first = is;
      new = filter (set_of after) news ++ round.new;
      order =
          round.order
          ∙ ap (λ (ts : List Thing). (filter (set_of after) ts ++ round.new) ++ only_if (set_of after thing) thing) (sym same)
          ∙ ap (λ (ts : List Thing). (ts ++ round.new) ++ only_if (set_of after thing) thing)
          (filter-append (set_of after) others news)
          ∙ ap (λ (ts : List Thing). ts ++ only_if (set_of after thing) thing)
          (append_assoc (filter (set_of after) others) (filter (set_of after) news) round.new);
    }

-- its event happened
pub rounds-event : (state left : State) (closes : List ℕ) (own : Option ℕ) (thing : Thing) (line mid : Line)
    → IsListed state line.queue → AreApart line.queue → first_servable state line.queue ≡ Some thing
    → Adds (in_hand thing line) mid → GoesRound thing line.queue (after_event left closes own (Some thing) mid).queue
rounds-event state left closes own thing line mid listed apart found adds =
    let after = (after_event left closes own (Some thing) mid).queue in
    round-more thing line.queue (dropped thing line.queue) adds.news after
    (stood-first state thing line.queue listed apart found)
    (subst (λ (ts : List Thing). GoesRound thing (thing ∷ ts) after) adds.queue
    (event-round left closes own mid thing (thing ∷ mid.queue) refl))

-- its port ended
pub rounds-ended : (state left : State) (closes : List ℕ) (own : Option ℕ) (thing : Thing) (line : Line)
    → IsListed state line.queue → AreApart line.queue → first_servable state line.queue ≡ Some thing
    → is_servable left thing ≡ false
    → GoesRound thing line.queue (after_event left closes own None (in_hand thing line)).queue
rounds-ended state left closes own thing line listed apart found never =
    event-ended left closes own (in_hand thing line) thing line.queue
    (stood-first state thing line.queue listed apart found) never

-- no event came of it
pub rounds-none : (state : State) (thing : Thing) (line : Line) → IsListed state line.queue
    → AreApart line.queue
    → first_servable state line.queue ≡ Some thing → GoesRound thing line.queue (in_hand thing line).queue
rounds-none state thing line listed apart found =
    let after = dropped thing line.queue in
    record {
      others = after;
      first = stood-first state thing line.queue listed apart found;
      new = [];
      order =
          sym (append-nil after)
          ∙ ap (λ (ts : List Thing). ts ++ []) (sym (filter_all (set_of after) after (λ other there. there)) ∙ sym (append-nil (filter (set_of after) after)))
          ∙ ap (λ (b : Bool). (filter (set_of after) after ++ []) ++ only_if b thing) (sym (gone_at thing line.queue));
    }

-- nothing was served
pub keeps-event : (left : State) (closes : List ℕ) (own : Option ℕ) (line : Line)
    → KeepsOrder line.queue (after_event left closes own None line).queue
keeps-event left closes own line = event-keeps left closes own line

-- ---- what a line that was told says of it

pub keeps-is : {T E : Type 0} (result : Result T E) (before : List Thing) (line other : Line)
    → OnOk result (other ≡ line) → KeepsOrder before line.queue → OnOk result (KeepsOrder before other.queue)
keeps-is (Ok value) before line other is keeps =
    subst (λ (l : Line). KeepsOrder before l.queue) (sym is) keeps
keeps-is (Err fault) before line other is keeps = tt

pub round-event : {T E : Type 0} (result : Result T E) (state left : State) (closes : List ℕ) (own : Option ℕ)
    (thing : Thing) (line more mid after : Line) → OnOk result (after ≡ after_event left closes own (Some thing) mid)
    → mid ≡ more → IsListed state line.queue → AreApart line.queue → first_servable state line.queue ≡ Some thing
    → Adds (in_hand thing line) more → OnOk result (GoesRound thing line.queue after.queue)
round-event (Ok value) state left closes own thing line more mid after is taken listed apart found adds =
    subst (λ (l : Line). GoesRound thing line.queue l.queue) (sym (is ∙ ap (after_event left closes own (Some thing)) taken))
    (rounds-event state left closes own thing line more listed apart found adds)
round-event (Err fault) state left closes own thing line more mid after is taken listed apart found adds = tt

pub round-ended : {T E : Type 0} (result : Result T E) (state left : State) (closes : List ℕ) (own : Option ℕ) (port : ℕ)
    (thing : Thing) (line mid after : Line) → OnOk result (after ≡ after_event left closes own None mid)
    → mid ≡ in_hand thing line → OnOk result (HasHappened (Ended port) state left)
    → IsRising 0 state.last_port state.ports → IsAt port thing → IsListed state line.queue → AreApart line.queue
    → first_servable state line.queue ≡ Some thing → OnOk result (GoesRound thing line.queue after.queue)
round-ended (Ok value) state left closes own port thing line mid after is taken happened rising at listed apart found =
    subst (λ (l : Line). GoesRound thing line.queue l.queue) (sym (is ∙ ap (after_event left closes own None) taken))
    (rounds-ended state left closes own thing line listed apart found
    (at left (ap (is_open port) happened.is ∙ ended_closed state happened.moment port rising)))
round-ended (Err fault) state left closes own port thing line mid after is taken happened rising at listed apart found = tt

-- an empty list keeps its order, whatever comes
pub keeps-empty : (after : List Thing) → KeepsOrder [] after
keeps-empty after = record { new = after; order = refl }

-- ---- a turn of the list

rounds-front : (thing : Thing) (before after : List Thing) → GoesRound thing before after
    → Rounds false before after
rounds-front thing before after round =
    subst (λ (ts : List Thing). Rounds false ts after) (sym round.first)
    (subst (λ (ts : List Thing). GoesRound thing ts after) round.first round)

rounds_on : {E P : Type 0} (result : Result Unit E) (turn : Result Turn HubFault) (starts was : Bool)
    (line self : Line) (after : List Thing) → turn ≡ served_by result → line ≡ self → starts ≡ was → OnOk result P
    → (P → Rounds was line.queue after) → OnOk turn (Rounds starts self.queue after)
rounds_on result turn starts was line self after is same waits holds leads =
    turn_ok (Rounds starts self.queue after) result turn is (then_ok result holds (λ one.
    subst (λ (b : Bool). Rounds b self.queue after) (sym waits)
    (subst (λ (l : Line). Rounds was l.queue after) same (leads one))))

-- something was served
pub round-served : {E : Type 0} (result : Result Unit E) (turn : Result Turn HubFault) (thing : Thing) (starts : Bool)
    (line self : Line) (after : List Thing) → turn ≡ served_by result → line ≡ self → starts ≡ false
    → OnOk result (GoesRound thing line.queue after) → OnOk turn (Rounds starts self.queue after)
round-served result turn thing starts line self after is same waits round =
    rounds_on result turn starts false line self after is same waits round (rounds-front thing line.queue after)

-- a job was started
pub keeps-served : {E : Type 0} (result : Result Unit E) (turn : Result Turn HubFault) (starts : Bool)
    (line self : Line) (after : List Thing) → turn ≡ served_by result → line ≡ self → starts ≡ true
    → OnOk result (KeepsOrder line.queue after) → OnOk turn (Rounds starts self.queue after)
keeps-served result turn starts line self after is same waits keeps =
    rounds_on result turn starts true line self after is same waits keeps (λ order. order)

-- the list is empty
pub rounds-empty : (starts : Bool) (line self : Line) (after : List Thing) → line.queue ≡ []
    → line ≡ self
    → starts ≡ false → Rounds starts self.queue after
rounds-empty starts line self after is same waits =
    subst (λ (b : Bool). Rounds b self.queue after) (sym waits)
    (subst (λ (ts : List Thing). Rounds false ts after) (sym is ∙ ap (λ (l : Line). l.queue) same) (keeps-empty after))
