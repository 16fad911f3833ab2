-- Actions that are all of a kind.
use Rattle.std.proofs.Common.{List, [], ◌∷◌, ◌++◌, Option, Some, None, inl, inr, subst}
use Rattle.std.specs.List.{AllByRecursion}
use Rattle.helper_link.specs.Telling.{Telling}
use Rattle.helper_link.specs.declared.answer.Answer.{Answer}
use Rattle.helper_link.specs.declared.answer.Answer.TheVariants as answer
use Rattle.helper_link.specs.declared.answer.Settled.{Settled}
use Rattle.helper_link.specs.declared.fault.LinkFault.{LinkFault}
use Rattle.agent_model.specs.Actions.{Action, Answered, Granted, Lost, Over, Proved, Proving, Raised}
use Rattle.agent_model.specs.Answers.{Answering, answer_all, answer_by, answer_true, find_verification, helper_tells, lose_if, proved_where_open}
use Rattle.agent_model.specs.Grants.{IsAmong}
use Rattle.agent_model.specs.State.{Port, State, Verification, find_port}

-- each of them is of this kind
abbrev pub Each : (Action → Type 0) → List Action → Type 0
Each P actions = AllByRecursion P actions

pub each-append : (P : Action → Type 0) (some more : List Action) → Each P some → Each P more →
    Each P (some ++ more)
each-append P [] more some_are more_are = more_are
each-append P (action ∷ some) more some_are more_are =
    (some_are.0, each-append P some more some_are.1 more_are)

-- one that isn't of this kind isn't among them
pub among-each : (P : Action → Type 0) (action : Action) (actions : List Action) → (P action → ⊥) →
    Each P actions → IsAmong action actions → ⊥
among-each P action [] other each among = among
among-each P action (one ∷ later) other each (inl same) = other (subst P same each.0)
among-each P action (one ∷ later) other each (inr there) =
    among-each P action later other each.1 there

-- what is among some is among these and more
pub among-front : (action : Action) (some more : List Action) → IsAmong action some
    → IsAmong action (some ++ more)
among-front action [] more among = absurd among
among-front action (one ∷ some) more (inl same) = inl same
among-front action (one ∷ some) more (inr later) = inr (among-front action some more later)

pub among-back : (action : Action) (some more : List Action) → IsAmong action more
    → IsAmong action (some ++ more)
among-back action [] more among = among
among-back action (one ∷ some) more among = inr (among-back action some more among)

-- ---- what the helper's answers and its loss bring

module _ (P : Action → Type 0) (answered : (one : Settled) → P (Answered one)) (proved : (proving : Proving) → P (Proved proving)) where
  each-proved : (found : Option Port) (verification : Verification)
      → Each P (proved_where_open found verification)
  each-proved None verification = tt
  each-proved (Some port) verification = (proved _, tt)

  each-true : (found : Option Verification) (one : Settled) (before : Answering) →
      Each P before.actions → Each P (answer_true found one before).actions
  each-true None one before each = each-append P before.actions _ each (answered one, tt)
  each-true (Some verification) one before each =
      each-append P before.actions _ each
      (answered one, each-proved (find_port one.asker before.ports) verification)

  each-answer : (what : Answer) (one : Settled) (before : Answering) → Each P before.actions →
      Each P (answer_by what one before).actions
  each-answer (answer.Signed signature) one before each =
      each-append P before.actions _ each (answered one, tt)
  each-answer answer.Refused one before each =
      each-append P before.actions _ each (answered one, tt)
  each-answer answer.True one before each =
      each-true (find_verification one.ask before.verifications) one before each
  each-answer answer.False one before each = each-append P before.actions _ each (answered one, tt)

  pub each-answers : (settled : List Settled) (before : Answering) → Each P before.actions →
      Each P (answer_all settled before).actions
  each-answers [] before each = each
  each-answers (one ∷ later) before each =
      each-answers later (answer_by one.answer one before) (each-answer one.answer one before each)

  -- and of all that the helper tells
  pub each-tells : P Lost → (told : Telling) (state : State)
      → Each P (helper_tells told state).actions
  each-tells lost told state =
      each-append P _ _ (each-answers told.settled _ tt) (by_fault told.fault _)
    where
      by_fault : (fault : Option LinkFault) (mid : State) → Each P (lose_if fault mid).actions
      by_fault None mid = tt
      by_fault (Some fault) mid = (lost, tt)

-- ---- actions that have nothing to do with confirmations

abbrev pub IsPlain : Action → Type 0
IsPlain (Raised raising) = ⊥
IsPlain (Granted job) = ⊥
IsPlain (Over job) = ⊥
IsPlain _ = Unit {0}

abbrev pub ArePlain : List Action → Type 0
ArePlain actions = Each IsPlain actions

pub plain-tells : (told : Telling) (state : State) → ArePlain (helper_tells told state).actions
plain-tells told state = each-tells IsPlain (λ one. tt) (λ proving. tt) tt told state
