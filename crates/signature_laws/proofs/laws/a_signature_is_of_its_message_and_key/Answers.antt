use Rattle.std.proofs.Common.{refl}
use Rattle.child_msg.specs.Messages.{Refused, Signed}
use Rattle.signature_laws.proofs.SignatureLemmas.{of-ask}
use Rattle.signature_laws.proofs.laws.a_signature_is_of_its_message_and_key.Goals as goal

pub returns : goal.returns
returns c = record {
  signed = λ settings before life answers ask text by there. of-ask settings before life answers ask (Signed ask text) by there refl;
  refused = λ settings before life answers ask by there. of-ask settings before life answers ask (Refused ask) by there refl;
}
