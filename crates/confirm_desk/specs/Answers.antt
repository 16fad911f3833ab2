-- The user's answer, as the code tells it (ours).
use Rattle.confirm_desk.specs.Confirmations.{Consent, NotYet, Yes, No}
use Rattle.confirm_desk.specs.declared.consent.Answer.{Answer}
use Rattle.confirm_desk.specs.declared.consent.Answer.TheVariants as answers

-- the consent that it stands for
abbrev pub consent_told : Answer → Consent
consent_told answers.NotYet = NotYet
consent_told answers.Yes = Yes
consent_told answers.No = No
