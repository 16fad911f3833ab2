-- The reading and the grammar are one.
use Rattle.std.proofs.Common.{◌≡◌, ℕ, List, Result, Ok, Err, IfOk}
use Rattle.std.specs.Prelude.{◌↔◌, IsOkAnd}
use Rattle.wire_text.specs.Wire.{IsBytes}
use Rattle.wire_core.specs.Readings.{IsAnswer}
use Rattle.userauth_blob.specs.declared.fault.AuthFault.{AuthFault}
use Rattle.userauth_blob.specs.declared.userauth.UserAuth.{UserAuth}
use Rattle.userauth_blob.specs.UserAuths.{Login, login, IsUserAuth}
use Rattle.userauth_blob.specs.Reading.{auth_of}
use Rattle.userauth_blob.proofs.FoundLemmas.{auth_is_found}
use Rattle.userauth_blob.proofs.ReadLemmas.{auth_is_read}
use Rattle.userauth_blob.specs.Logins.{IsLogin, login_of}
use Rattle.userauth_blob.proofs.LoginLemmas.{login_is_found, login_is_read}

pub reading_is_login : (message blob : List ℕ) (auth : Login) → IsBytes message → (auth_of message blob ≡ Ok auth) ↔ IsUserAuth message blob auth
reading_is_login message blob auth small = (auth_is_found message blob auth small, auth_is_read message blob auth)

-- what the code reads is signed for the login
pub userauth_found : (message blob : List ℕ) (answer : Result UserAuth AuthFault) → IsBytes message → IsAnswer login answer (auth_of message blob) →
    IfOk answer (λ read. IsUserAuth message blob (login read))
userauth_found message blob (Ok read) small h = auth_is_found message blob (login read) small h
userauth_found message blob (Err fault) small h = tt

-- what is signed for a login the code reads
pub userauth_only : (message blob : List ℕ) (answer : Result UserAuth AuthFault) → IsAnswer login answer (auth_of message blob) → (auth : Login) →
    IsUserAuth message blob auth → IsOkAnd answer (λ read. login read ≡ auth)
userauth_only message blob (Ok read) h auth is = let e = auth_is_read message blob auth is in cc
userauth_only message blob (Err fault) h auth is = let e = auth_is_read message blob auth is in absurd cc

pub reading_is_login_by_key : (message blob : List ℕ) (auth : Login) → IsBytes message → IsBytes blob
    → (login_of message blob ≡ Ok auth) ↔ IsLogin message blob auth
reading_is_login_by_key message blob auth small blob_bytes =
    (login_is_found message blob auth small blob_bytes, login_is_read message blob auth)

-- what the code reads is signed for the login, by any blob of its key
pub login_found : (message blob : List ℕ) (answer : Result UserAuth AuthFault) → IsBytes message → IsBytes blob
    → IsAnswer login answer (login_of message blob) → IfOk answer (λ read. IsLogin message blob (login read))
login_found message blob (Ok read) small blob_bytes h = login_is_found message blob (login read) small blob_bytes h
login_found message blob (Err fault) small blob_bytes h = tt

-- what is signed for a login so the code reads
pub login_only : (message blob : List ℕ) (answer : Result UserAuth AuthFault) → IsAnswer login answer (login_of message blob) → (auth : Login)
    → IsLogin message blob auth → IsOkAnd answer (λ read. login read ≡ auth)
login_only message blob (Ok read) h auth is = let e = login_is_read message blob auth is in cc
login_only message blob (Err fault) h auth is = let e = login_is_read message blob auth is in absurd cc
