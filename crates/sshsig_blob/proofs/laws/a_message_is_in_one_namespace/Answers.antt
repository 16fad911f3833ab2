use Rattle.sshsig_blob.proofs.UniqueLemmas.{read_once}
use Rattle.sshsig_blob.proofs.laws.a_message_is_in_one_namespace.Goals as goal

pub returns : goal.returns
returns c = read_once
