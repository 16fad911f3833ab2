use Rattle.userauth_blob.proofs.LoginLemmas.{bound_is_login}
use Rattle.userauth_blob.proofs.laws.what_a_reader_of_its_own_blob_takes_is_a_login.Goals as goal

pub returns : goal.returns
returns c = bound_is_login
