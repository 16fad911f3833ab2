use Rattle.signature_laws.proofs.LifeRowLemmas.{by, led, signers}
use Rattle.signature_laws.proofs.rows.a_helper_begins_to_refuse.Goals as goal

pub returns : goal.returns
returns c = record { led = led; by = by; signers = signers }
