use Rattle.signature_laws.proofs.RowLemmas as lemmas
use Rattle.signature_laws.proofs.rows.a_request_is_read_and_its_refusal_heard.Goals as goal

pub returns : goal.returns
returns c = record { by = lemmas.by; read = lemmas.read; heard = lemmas.heard }
