use Rattle.std.proofs.Common.{refl}
use Rattle.child_msg.specs.Messages.{Refused, Signed}
use Rattle.signature_laws.proofs.SignatureLemmas.{of-ask}
use Rattle.signature_laws.proofs.StreamLemmas.{heard-in}
use Rattle.signature_laws.proofs.streams.a_signature_that_is_heard_is_of_its_ask.Goals as goal

pub returns : goal.returns
returns c = record {
  signed = λ settings before life answers heard body ask text by are there read.
      of-ask settings before life answers ask (Signed ask text) by (heard-in answers heard body (Signed ask text) are there read) refl;
  refused = λ settings before life answers heard body ask by are there read.
      of-ask settings before life answers ask (Refused ask) by (heard-in answers heard body (Refused ask) are there read) refl;
}
