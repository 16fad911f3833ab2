-- Whom answers go to, and which asks they leave (ours).
use Rattle.std.specs.Prelude.{◌≡◌, ℕ, ◌==◌, ◌||◌, Bool, false, List, [], ◌∷◌, Some}
use Rattle.helper_link.specs.HelperLink.{ask_of}
use Rattle.helper_link.specs.Settling.{find_ask, remove_ask}
use Rattle.helper_link.specs.declared.answer.Answer.{Answer}
use Rattle.helper_link.specs.declared.answer.Answer.TheVariants as answer
use Rattle.helper_link.specs.declared.answer.Settled.{Settled}
use Rattle.helper_link.specs.declared.ask.Ask.{Ask}
use Rattle.helper_link.specs.declared.ask.AskKind.{AskKind}
use Rattle.helper_link.specs.declared.ask.AskKind.TheVariants.{Signing, Verifying}

-- the kind of ask that has such an answer
abbrev pub kind_answered : Answer → AskKind
kind_answered (answer.Signed signature) = Signing
kind_answered answer.Refused = Signing
kind_answered answer.True = Verifying
kind_answered answer.False = Verifying

-- the ask of this number is unanswered: this asker put it, for some key at some second with a body of some size, and
-- it is of this kind
pub record IsUnanswered (number asker : ℕ) (kind : AskKind) (asks : List Ask) : Type 0 where
  pub blob : List ℕ
  pub put_at : ℕ
  pub size : ℕ
  pub found : find_ask number asks ≡ Some (ask_of number asker kind blob put_at size)

-- each answer is one to the unanswered ask of its number, goes to the asker of that ask, and is of
-- its kind; the ask is unanswered no more, and the others are left
abbrev pub LeadTo : List Settled → List Ask → List Ask → Type 0
LeadTo [] asks left = left ≡ asks
LeadTo (one ∷ later) asks left =
    IsUnanswered one.ask one.asker (kind_answered one.answer) asks
    × LeadTo later (remove_ask one.ask asks) left

-- the ask of this number was answered
abbrev pub is_answered : ℕ → List Settled → Bool
is_answered number [] = false
is_answered number (one ∷ later) = one.ask == number || is_answered number later
