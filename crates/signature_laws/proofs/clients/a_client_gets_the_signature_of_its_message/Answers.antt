use Rattle.std.proofs.Common.{◌++◌, refl}
use Rattle.child_msg.specs.Messages.{Refused, Signed}
use Rattle.helper_link.specs.declared.answer.Answer.TheVariants as answer
use Rattle.signature_laws.proofs.SignatureLemmas.{in-behind, of-ask}
use Rattle.signature_laws.proofs.StreamLemmas.{heard-in}
use Rattle.signature_laws.proofs.ToldLemmas.{said-body}
use Rattle.signature_laws.proofs.clients.a_client_gets_the_signature_of_its_message.Goals as goal

pub returns : goal.returns
returns c = record {
  signed = λ settings before life earlier later link bytes ask text by are gets.
      let found = said-body ask (answer.Signed text) bytes link gets in
      of-ask settings before life (earlier ++ later) ask (Signed ask text) by
      (in-behind (Signed ask text) earlier later (heard-in later (link.heard ++ bytes) found.body (Signed ask text) are found.there found.read)) refl;
  refused = λ settings before life earlier later link bytes ask by are gets.
      let found = said-body ask answer.Refused bytes link gets in
      of-ask settings before life (earlier ++ later) ask (Refused ask) by
      (in-behind (Refused ask) earlier later (heard-in later (link.heard ++ bytes) found.body (Refused ask) are found.there found.read)) refl;
}
