use Rattle.sshsig_blob.proofs.UniqueLemmas.{no_login}
use Rattle.sshsig_blob.proofs.laws.a_login_is_no_sshsig.Goals as goal

pub returns : goal.returns
returns c = no_login
