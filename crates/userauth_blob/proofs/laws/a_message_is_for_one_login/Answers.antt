use Rattle.userauth_blob.proofs.UniqueLemmas.{login_once, signed_once}
use Rattle.userauth_blob.proofs.laws.a_message_is_for_one_login.Goals as goal

pub returns : goal.returns
returns c = record { by_blob = signed_once; by_key = login_once }
