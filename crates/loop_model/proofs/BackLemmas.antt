-- What is called back was set aside, can be served, and stands behind all others.
use Rattle.std.proofs.Common.{◌≡◌, ◌∙◌, ◌⊎◌, inl, inr, ℕ, Bool, true, false, List, [], ◌∷◌, ◌++◌, Option, Some, None, refl, sym, ap, subst, append_assoc, not, ◌&&◌, ◌||◌, if◌then◌else◌}
use Rattle.std.proofs.lemmas.List.{append-nil}
use Rattle.std.specs.List.{filter}
use Rattle.agent_model.specs.State.{State}
use Rattle.loop_model.specs.Servable.{is_servable}
use Rattle.loop_model.specs.Things.{same_thing, set_of}
use Rattle.loop_model.specs.declared.thing.Thing.{Thing}
use Rattle.loop_model.specs.declared.thing.Thing.TheVariants.{Read, Write}
use Rattle.loop_model.specs.Aside.{Aside, still_aside, taken_back, things_aside}
use Rattle.loop_model.specs.Lines.{Line, called, called_all, called_own, recalled}
use Rattle.loop_model.proofs.AsideLemmas.{set_of-append, set_of-filter, set_of-still_aside, set_of-taken_back}
use Rattle.loop_model.proofs.TestLemmas.{and_both, both_and, both_if, false_not, or_either, or_first, or_left, or_right}
use Rattle.loop_model.proofs.ThingLemmas.{same_thing-true}

-- the queue keeps its things in their places, and what comes back stands behind all of them: it was set aside, and can
-- be served in this state
pub record ComesBack (state : State) (before after : Line) : Type 0 where
  pub more : List Thing
  pub behind : after.queue ≡ before.queue ++ more
  pub back : (thing : Thing) → set_of more thing ≡ true
      → (set_of (things_aside before.aside) thing ≡ true) × (is_servable state thing ≡ true)

-- some comes back, and nothing more is set aside; nor is anything lost
pub record Calls (state : State) (before after : Line) : Type 0 where
  pub back : ComesBack state before after
  pub left : (thing : Thing) → set_of (things_aside after.aside) thing ≡ true
      → set_of (things_aside before.aside) thing ≡ true
  pub kept : (thing : Thing) → set_of (things_aside before.aside) thing ≡ true
      → (set_of back.more thing ≡ true) ⊎ (set_of (things_aside after.aside) thing ≡ true)

calls-none : (state : State) (line : Line) → Calls state line line
calls-none state line = record {
  back = record { more = []; behind = sym (append-nil line.queue); back = λ thing there. cc };
  left = λ thing there. there;
  kept = λ thing there. inr there;
}

calls_both : (state : State) (first second third : Line) → Calls state first second
    → Calls state second third
    → Calls state first third
calls_both state first second third one other = record {
  back = record {
    more = one.back.more ++ other.back.more;
    behind =
        other.back.behind ∙ ap (λ (ts : List Thing). ts ++ other.back.more) one.back.behind
        ∙ append_assoc first.queue one.back.more other.back.more;
    back = λ thing there.
        elim (or_either (set_of one.back.more thing) (set_of other.back.more thing)
        (sym (set_of-append one.back.more other.back.more thing) ∙ there)) [
          | inl here ↦ one.back.back thing here
          | inr later ↦ (one.left thing (other.back.back thing later).0, (other.back.back thing later).1)
        ];
  };
  left = λ thing there. one.left thing (other.left thing there);
  kept = λ thing there.
      elim (one.kept thing there) [
        | inl here ↦ inl (set_of-append one.back.more other.back.more thing
            ∙ or_left (set_of one.back.more thing) (set_of other.back.more thing) here)
        | inr mid ↦ elim (other.kept thing mid) [
          | inl later ↦ inl (set_of-append one.back.more other.back.more thing
              ∙ or_right (set_of one.back.more thing) (set_of other.back.more thing) later)
          | inr rest ↦ inr rest
        ]
      ];
}

kept_by : (same : Bool) (thing other : Thing) (aside : Aside) → same_thing thing other ≡ same
    → set_of (things_aside aside) other ≡ true
    → (set_of (thing ∷ []) other ≡ true) ⊎ (set_of (things_aside (taken_back thing aside)) other ≡ true)
kept_by true thing other aside is there = inl (ap (λ (b : Bool). b || false) is)
kept_by false thing other aside is there =
    inr (ap (λ (hot : Thing → Bool). hot other) (set_of-taken_back thing aside)
    ∙ both_and (not (same_thing thing other)) (set_of (things_aside aside) other)
    (false_not (same_thing thing other) is) there)

calls_by : (test : Bool) (state : State) (thing : Thing) (line : Line)
    → (set_of (things_aside line.aside) thing && is_servable state thing) ≡ test
    → Calls state line
    (if test then record line { queue = line.queue ++ thing ∷ []; aside = taken_back thing line.aside } else line)
calls_by true state thing line is =
    let both = and_both (set_of (things_aside line.aside) thing) (is_servable state thing) is in
    record {
      back = record {
        more = thing ∷ [];
        behind = refl;
        back = λ other there.
            let same = same_thing-true thing other (or_first (same_thing thing other) false refl there) in
            (ap (set_of (things_aside line.aside)) (sym same) ∙ both.0, ap (is_servable state) (sym same) ∙ both.1);
      };
      left = λ other there.
          (and_both (not (same_thing thing other)) (set_of (things_aside line.aside) other)
          (sym (ap (λ (hot : Thing → Bool). hot other) (set_of-taken_back thing line.aside)) ∙ there)).1;
      kept = λ other there. kept_by (same_thing thing other) thing other line.aside refl there;
    }
calls_by false state thing line is = calls-none state line

calls-called : (state : State) (thing : Thing) (line : Line)
    → Calls state line (called state thing line)
calls-called state thing line =
    subst (Calls state line) (sym (both_if (set_of (things_aside line.aside) thing) (is_servable state thing)
    (record line { queue = line.queue ++ thing ∷ []; aside = taken_back thing line.aside }) line))
    (calls_by (set_of (things_aside line.aside) thing && is_servable state thing) state thing line refl)

pub calls-own : (state : State) (own : Option ℕ) (line : Line)
    → Calls state line (called_own state own line)
calls-own state None line = calls-none state line
calls-own state (Some port) line =
    let mid = called state (Read port) line in
    calls_both state line mid (called state (Write port) mid)
    (calls-called state (Read port) line) (calls-called state (Write port) mid)

kept_all_by : (able : Bool) (state : State) (aside : Aside) (thing : Thing)
    → is_servable state thing ≡ able
    → set_of (things_aside aside) thing ≡ true
    → (set_of (filter (is_servable state) (things_aside aside)) thing ≡ true)
    ⊎ (set_of (things_aside (still_aside state aside)) thing ≡ true)
kept_all_by true state aside thing is there =
    inl (set_of-filter (is_servable state) (things_aside aside) thing
    ∙ both_and (set_of (things_aside aside) thing) (is_servable state thing) there is)
kept_all_by false state aside thing is there =
    inr (set_of-still_aside state aside thing
    ∙ both_and (set_of (things_aside aside) thing) (not (is_servable state thing)) there
    (false_not (is_servable state thing) is))

calls-all : (state : State) (line : Line) → Calls state line (called_all state line)
calls-all state line = record {
  back = record {
    more = filter (is_servable state) (things_aside line.aside);
    behind = refl;
    back = λ thing there.
        and_both (set_of (things_aside line.aside) thing) (is_servable state thing)
        (sym (set_of-filter (is_servable state) (things_aside line.aside) thing) ∙ there);
  };
  left = λ thing there.
      (and_both (set_of (things_aside line.aside) thing) (not (is_servable state thing))
      (sym (set_of-still_aside state line.aside thing) ∙ there)).0;
  kept = λ thing there. kept_all_by (is_servable state thing) state line.aside thing refl there;
}

pub calls-recalled : (state : State) (own : Option ℕ) (line : Line)
    → Calls state line (recalled state own line)
calls-recalled state own line =
    let mid = called_own state own line in
    calls_both state line mid (called_all state mid) (calls-own state own line) (calls-all state mid)

-- what comes back after an event
pub comes-recalled : (state : State) (own : Option ℕ) (line : Line)
    → ComesBack state line (recalled state own line)
comes-recalled state own line = (calls-recalled state own line).back
