-- Which ask the proof of a binding answers: searches in what was done before, the oldest action
-- first (ours).
use Rattle.std.specs.Prelude.{◌≡◌, ℕ, List, [], ◌∷◌, ◌++◌}
use Rattle.helper_link.specs.declared.answer.Answer.TheVariants.{True}
use Rattle.helper_link.specs.declared.answer.Settled.{Settled}
use Rattle.agent_model.specs.Actions.{Action, Answered, Asked, ForBinding, Granted, Lost, Over, Proved, Proving, Raised, Requested}
use Rattle.agent_model.specs.Grants.{IsAmong}

-- the last of these actions is the helper's word that a signature is right, and the ask that it
-- answers was put before it for the port and the very binding that are proved
pub record IsRightAnswer (past : List Action) (proving : Proving) : Type 0 where
  pub before : List Action
  pub settled : Settled
  pub last : past ≡ before ++ Answered settled ∷ []
  pub right : settled.answer ≡ True
  pub size : ℕ
  pub asked : IsAmong (Asked (record {
    ask = settled.ask;
    port = proving.port;
    purpose = ForBinding proving.binding;
    size = size;
  })) before

-- an action behind these: a proof of a binding answers its ask
abbrev pub AnswersItsAsk : List Action → Action → Type 0
AnswersItsAsk past (Requested requesting) = Unit {0}
AnswersItsAsk past (Asked asking) = Unit {0}
AnswersItsAsk past (Answered settled) = Unit {0}
AnswersItsAsk past (Proved proving) = IsRightAnswer past proving
AnswersItsAsk past (Raised raising) = Unit {0}
AnswersItsAsk past (Granted job) = Unit {0}
AnswersItsAsk past (Over job) = Unit {0}
AnswersItsAsk past Lost = Unit {0}

-- each of these actions, behind those of the past and those before it
abbrev pub AnswerTheirAsks : List Action → List Action → Type 0
AnswerTheirAsks past [] = Unit {0}
AnswerTheirAsks past (action ∷ later) =
    AnswersItsAsk past action × AnswerTheirAsks (past ++ action ∷ []) later
