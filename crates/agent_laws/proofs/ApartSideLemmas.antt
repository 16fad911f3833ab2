-- Lemmas on specs/Apart.antt: small changes, and what the helper says, leave states alike.
use Rattle.std.proofs.Common.{◌≡◌, ℕ, List, [], ◌∷◌, ◌++◌, refl, ap, sym, subst, ◌∙◌, Option, Some, None, Bool, true, false}
use Rattle.world_ports.specs.declared.Moment.{Moment}
use Rattle.helper_link.specs.Telling.{Telling, telling}
use Rattle.helper_link.specs.HelperLink.{askers}
use Rattle.helper_link.specs.declared.answer.Answer.{Answer}
use Rattle.helper_link.specs.declared.answer.Answer.TheVariants as answer
use Rattle.helper_link.specs.declared.answer.Settled.{Settled}
use Rattle.helper_link.specs.declared.fault.LinkFault.{LinkFault}
use Rattle.agent_model.specs.Actions.{Outcome, and_then, behind, stay}
use Rattle.agent_model.specs.Answers.{Answering, answer_all, answer_asker, answer_by, answer_true, answers_in, close_helper, find_verification, helper_heard, lose, lose_if, lose_where, prove, remove_verification, with_answers}
use Rattle.agent_model.specs.Children.{changed, shut}
use Rattle.agent_model.specs.KeyStates.{KeyState}
use Rattle.agent_model.specs.State.{Port, State, UnderWay, Verification, change_port}
use Rattle.agent_model.specs.Time.{all_over, end_late, is_helper_late, taken_in, time_passes}
use Rattle.agent_model.specs.Verdicts.{HelperLost, HelperRefused, Refuses, Replies, Signature, SignatureWrong, Verdict, tell}
use Rattle.agent_laws.specs.Apart.{AreAlike, AreAlikeOutcomes, AreAlikePorts, Insiders, IsAlikeHeld}
use Rattle.agent_laws.proofs.ApartKeyLemmas.{alive-alike}
use Rattle.agent_laws.proofs.KeyLemmas.{kept-taken}
use Rattle.agent_laws.proofs.ApartPortLemmas.{KeepsPlace, keeps-tell, ports-changed, ports-helper_closed, ports-removed, ports-told}

-- a state with other ports and other keys
abbrev pub other : State → List Port → KeyState → State
other state ports held = record state { ports = ports; held = held }

pub record Sides (who : Insiders) (state : State) (ports : List Port) (held : KeyState) : Type 0 where
  pub ports_are : AreAlikePorts who state.ports ports
  pub held_is : IsAlikeHeld who state.held held
  pub calm : state.under_way.confirmations ≡ []

abbrev pub Same : Insiders → Outcome → Outcome → Type 0
Same who one two = AreAlikeOutcomes who one two

module _ {who : Insiders} {state : State} {q : List Port} {k : KeyState} (sides : Sides who state q k) where
  pub alike-of : AreAlike who state (other state q k)
  alike-of =
      record { ports = sides.ports_are; held = sides.held_is; rest = refl; calm = sides.calm }

  pub alike-stay : Same who (stay state) (stay (other state q k))
  alike-stay = record { state = alike-of; put = refl }

  pub sides-changed : (number : ℕ) (f : Port → Port) → KeepsPlace f
      → Sides who (changed number f state) (change_port number f q) k
  sides-changed number f keeps = record {
    ports_are = ports-changed who number f f keeps keeps (λ p. refl) state.ports q sides.ports_are;
    held_is = sides.held_is;
    calm = sides.calm;
  }

  pub sides-way : (under_way : UnderWay) → under_way.confirmations ≡ []
      → Sides who (record state { under_way = under_way }) q k
  sides-way under_way calm =
      record { ports_are = sides.ports_are; held_is = sides.held_is; calm = calm }

  pub alike-lose : Same who (lose state) (lose (other state q k))
  alike-lose = record {
    state = record {
      ports = ports-told who (Refuses HelperLost) (askers state.under_way.link.asks) (close_helper state.under_way.link.state state.ports) (close_helper state.under_way.link.state q)
          (ports-helper_closed who state.under_way.link.state state.ports q sides.ports_are);
      held = sides.held_is;
      rest = refl;
      calm = sides.calm;
    };
    put = refl;
  }

  pub alike-shut : (number : ℕ) → Same who (shut number state) (shut number (other state q k))
  alike-shut number = record {
    state = record { ports = ports-removed who number state.ports q sides.ports_are; held = sides.held_is; rest = refl; calm = sides.calm };
    put = refl;
  }

-- ---- the helper answers

record AnswersAlike (who : Insiders) (one two : Answering) : Type 0 where
  ports_are : AreAlikePorts who one.ports two.ports
  same : two.verifications ≡ one.verifications

module _ (who : Insiders) (settled : Settled) where
  asker-alike : (verdict : Verdict) (one two : Answering) → AnswersAlike who one two
      → AnswersAlike who (answer_asker verdict settled one) (answer_asker verdict settled two)
  asker-alike verdict one two alike = record {
    ports_are = ports-changed who settled.asker (tell verdict) (tell verdict) (keeps-tell verdict) (keeps-tell verdict) (λ p. refl) one.ports two.ports alike.ports_are;
    same = ap (remove_verification settled.ask) alike.same;
  }

  true-alike : (noted : Option Verification) (one two : Answering) → AnswersAlike who one two
      → AnswersAlike who (answer_true noted settled one) (answer_true noted settled two)
  true-alike None one two alike = asker-alike (Refuses SignatureWrong) one two alike
  true-alike (Some verification) one two alike =
      let keeps : KeepsPlace (prove verification) = record { number = λ p. refl; door = λ p. refl } in
      record {
        ports_are = ports-changed who settled.asker (prove verification) (prove verification) keeps keeps (λ p. refl) one.ports two.ports alike.ports_are;
        same = ap (remove_verification settled.ask) alike.same;
      }

  answer-alike : (what : Answer) (one two : Answering) → AnswersAlike who one two
      → AnswersAlike who (answer_by what settled one) (answer_by what settled two)
  answer-alike (answer.Signed signature) one two alike =
      asker-alike (Replies (Signature signature)) one two alike
  answer-alike answer.Refused one two alike = asker-alike (Refuses HelperRefused) one two alike
  answer-alike answer.False one two alike = asker-alike (Refuses SignatureWrong) one two alike
  answer-alike answer.True one two alike =
      subst (λ noted. AnswersAlike who (answer_by answer.True settled one) (answer_true noted settled two)) (sym (ap (find_verification settled.ask) alike.same))
      (true-alike (find_verification settled.ask one.verifications) one two alike)

answers-alike : (who : Insiders) (settled : List Settled) (one two : Answering)
    → AnswersAlike who one two → AnswersAlike who (answer_all settled one) (answer_all settled two)
answers-alike who [] one two alike = alike
answers-alike who (first ∷ later) one two alike = answers-alike who later (answer_by first.answer first one) (answer_by first.answer first two) (answer-alike who first first.answer one two alike)

module _ {who : Insiders} {state : State} {q : List Port} {k : KeyState} (sides : Sides who state q k) where
  -- a piece of its stream
  module _ (told : Telling) where
    abbrev one_side : Answering
    one_side = answers_in told.settled state

    abbrev other_side : Answering
    other_side = answers_in told.settled (other state q k)

    both_sides : AnswersAlike who one_side other_side
    both_sides =
        answers-alike who told.settled _ _ record { ports_are = sides.ports_are; same = refl }

    alike-told : (fault : Option LinkFault)
        → Same who (lose_if fault (with_answers told.link one_side state)) (lose_if fault (with_answers told.link other_side (other state q k)))
    alike-told None = record {
      state = record {
        ports = both_sides.ports_are;
        held = sides.held_is;
        rest = ap (λ (v : List Verification). with_answers told.link (record other_side { verifications = v }) (other state q k)) both_sides.same;
        calm = sides.calm;
      };
      put = refl;
    }
    alike-told (Some fault) = record {
      state = record {
        ports = ports-told who (Refuses HelperLost) (askers told.link.asks) (close_helper told.link.state one_side.ports) (close_helper told.link.state other_side.ports)
            (ports-helper_closed who told.link.state one_side.ports other_side.ports both_sides.ports_are);
        held = sides.held_is;
        rest = refl;
        calm = sides.calm;
      };
      put = refl;
    }

  pub alike-helper : (piece : List ℕ)
      → Same who (helper_heard piece state) (helper_heard piece (other state q k))
  alike-helper piece =
      let told = telling piece state.under_way.link in
      let after = alike-told told told.fault in
      record { state = after.state; put = ap (λ (l : List _). [] ++ l) after.put }

-- ---- a moment

-- nothing is to be confirmed, so that nobody is late to confirm
none_late : (state : State) → state.under_way.confirmations ≡ [] → end_late state ≡ stay state
none_late state calm = ap (λ all. all_over all state) calm

module _ (who : Insiders) where
  sides-taken : (moment : Moment) {state : State} {q : List Port} {k : KeyState}
      → Sides who state q k
      → Sides who (taken_in moment state) q (taken_in moment (other state q k)).held
  sides-taken moment {state = state} {q = q} {k = k} sides = record {
    ports_are = sides.ports_are;
    held_is = record {
      lock = sides.held_is.lock;
      first_own = (kept-taken moment state sides.held_is.first_own).own;
      second_own = (kept-taken moment (other state q k) sides.held_is.second_own).own;
      life = sides.held_is.life;
      greatest = refl;
      keys = alive-alike who (taken_in moment state).moment.mono sides.held_is.keys;
    };
    calm = sides.calm;
  }

  pub lost-alike : (is : Bool) {state : State} {q : List Port} {k : KeyState} → Sides who state q k
      → Same who (lose_where is state) (lose_where is (other state q k))
  lost-alike true sides = alike-lose sides
  lost-alike false sides = alike-stay sides

  ended-alike : (one two : Outcome) → Same who one two
      → Same who (and_then one end_late) (and_then two end_late)
  ended-alike one two alike =
      subst (λ o. Same who o (and_then two end_late)) (sym (ap (behind one) (none_late one.state alike.state.calm)))
      (subst (Same who (behind one (stay one.state))) (sym (ap (behind two) (none_late two.state (ap (λ (s : State). s.under_way.confirmations) alike.state.rest ∙ alike.state.calm))))
      record { state = alike.state; put = ap (λ put. put ++ []) alike.put })

  moment-sides : (moment : Moment) {state : State} {q : List Port} {k : KeyState}
      → Sides who state q k
      → Same who (time_passes moment state) (time_passes moment (other state q k))
  moment-sides moment {state = state} sides = ended-alike _ _ (lost-alike (is_helper_late (taken_in moment state).under_way) (sides-taken moment sides))

  pub moment-alike : (moment : Moment) (one two : State) → AreAlike who one two
      → Same who (time_passes moment one) (time_passes moment two)
  moment-alike moment one two alike =
      subst (λ (s : State). Same who (time_passes moment one) (time_passes moment s)) (sym alike.rest)
      (moment-sides moment {state = one} {q = two.ports} {k = two.held} (record { ports_are = alike.ports; held_is = alike.held; calm = alike.calm }))
