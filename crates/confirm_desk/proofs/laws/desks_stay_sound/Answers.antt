use Rattle.std.proofs.Common.{[], refl, arith}
use Rattle.wire_text.specs.Bounds.{longest_body}
use Rattle.wire_text.proofs.FrontLemmas.{front-short}
use Rattle.confirm_desk.specs.Confirmations.{confirmation_of}
use Rattle.confirm_desk.proofs.SoundLemmas.{IsSound-append, IsSound-linked, IsSound-lose}
use Rattle.confirm_desk.proofs.TellLemmas.{IsSound-telling, IsSound-took}
use Rattle.confirm_desk.proofs.laws.desks_stay_sound.Goals as goal

pub returns : goal.returns
returns c = record {
  first = record { few = omega arith; apart = tt; seconds = tt };
  raised = λ job held prompt now desk room free alone later sound.
      IsSound-append desk (confirmation_of job held prompt now) room free alone later refl (front-short longest_body [] (omega arith)) sound;
  linked = IsSound-linked;
  took = IsSound-took;
  told = IsSound-telling;
  lost = IsSound-lose;
}
