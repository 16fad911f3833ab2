use Rattle.userauth_blob.proofs.Theorems.{reading_is_login, reading_is_login_by_key}
use Rattle.userauth_blob.proofs.laws.a_reading_is_a_login.Goals as goal

pub returns : goal.returns
returns c = record { by_blob = reading_is_login; by_key = reading_is_login_by_key }
