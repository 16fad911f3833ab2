use Rattle.sshsig_blob.proofs.Theorems.{reading_is_sshsig}
use Rattle.sshsig_blob.proofs.laws.a_reading_is_an_sshsig.Goals as goal

pub returns : goal.returns
returns c = reading_is_sshsig
