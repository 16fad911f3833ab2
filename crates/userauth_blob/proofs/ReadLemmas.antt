-- What is signed for a login is read.
use Rattle.std.proofs.Common.{◌≡◌, ◌≢◌, ℕ, ◌^◌, ◌<◌, List, [], ◌∷◌, ◌++◌, length, Option, Some, None, Ok, refl, sym, ap, ◌∙◌, lit<}
use Rattle.std.specs.Prelude.{codes}
use Rattle.std.proofs.lemmas.Bool.{eq-eqb}
use Rattle.std.proofs.lemmas.List.{append-nil}
use Rattle.std.proofs.lemmas.Slice.Eq.{bytes_eq-Decides}
use Rattle.wire_text.specs.Wire.{string}
use Rattle.wire_core.proofs.Theorems.{string_at-string}
use Rattle.userauth_blob.specs.declared.fault.AuthFault.{AuthFault}
use Rattle.userauth_blob.specs.declared.fault.AuthFault.TheVariants.{OtherKey, Service}
use Rattle.userauth_blob.specs.declared.method.AuthMethod.{AuthMethod}
use Rattle.userauth_blob.specs.declared.method.AuthMethod.TheVariants.{PublicKey, HostBound}
use Rattle.userauth_blob.specs.UserAuths.{Login, connection, method_name, host_field, Fits, IsHostKey, IsUserAuth}
use Rattle.userauth_blob.specs.Reading.{text_at, after_byte, after_text, session_at, method_named, method_at, after_key, host_key_at, auth_of}
use Rattle.userauth_blob.proofs.FieldLemmas.{fits_again, key_again}

-- the method of a login with such a host key
abbrev pub method_of : Option (List ℕ) → AuthMethod
method_of None = PublicKey
method_of (Some host_key) = HostBound

pub text_again : (text rest : List ℕ) → length text < 2 ^ 32 → text_at (string text ++ rest) ≡ Ok (text, rest)
text_again text rest small = rw (string_at-string text rest small) refl

pub byte_again : (byte : ℕ) (other : AuthFault) (rest : List ℕ) → after_byte byte other (byte ∷ rest) ≡ Ok rest
unfolding after_byte
byte_again byte other rest = rw (eq-eqb byte byte refl) refl

pub after_text_again : (text : List ℕ) (other : AuthFault) (rest : List ℕ) → length text < 2 ^ 32 → after_text text other (string text ++ rest) ≡ Ok rest
unfolding after_text
after_text_again text other rest small = rw (string_at-string text rest small, (bytes_eq-Decides text text).1 refl) refl

pub session_again : (session rest : List ℕ) → length session < 2 ^ 32 → session ≢ [] → session_at (string session ++ rest) ≡ Ok (session, rest)
unfolding session_at
session_again [] rest small some = absurd (some refl)
session_again (byte ∷ session) rest small some = rw (string_at-string (byte ∷ session) rest small) refl

pub method_again : (host_key : Option (List ℕ)) (rest : List ℕ) → method_at (string (method_name host_key) ++ rest) ≡ Ok (method_of host_key, rest)
unfolding method_at method_named
method_again None rest = rw (string_at-string (codes "publickey") rest (lit< tt)) refl
method_again (Some host_key) rest = rw (string_at-string (codes "publickey-hostbound-v00@openssh.com") rest (lit< tt)) refl

after_key_again : (blob algorithm rest : List ℕ) → length blob < 2 ^ 32 → Fits blob algorithm → after_key blob algorithm (string blob ++ rest) ≡ Ok rest
unfolding after_key
after_key_again blob algorithm rest small fit = rw (after_text_again blob OtherKey rest small, fits_again blob algorithm fit) refl

host_key_again : (host_key : Option (List ℕ)) → IsHostKey host_key → host_key_at (method_of host_key) (host_field host_key) ≡ Ok (host_key, [])
unfolding host_key_at
host_key_again None is = refl
host_key_again (Some host_key) is =
    let alone = ap (λ (bytes : List ℕ). text_at bytes) (sym (append-nil (string host_key))) ∙ text_again host_key [] is.0 in
    rw (alone, key_again host_key is.1.0 is.1.1) refl

-- what is signed for a login is read
pub auth_is_read : (message blob : List ℕ) (auth : Login) → IsUserAuth message blob auth → auth_of message blob ≡ Ok auth
unfolding auth_of
auth_is_read message blob auth is =
    rw (
      is.text,
      session_again auth.session _ is.short_session is.some_session,
      byte_again 50 _ _,
      text_again auth.user _ is.short_user,
      after_text_again connection Service _ (lit< tt),
      method_again auth.host_key _,
      byte_again 1 _ _,
      text_again is.algorithm _ is.short_algorithm,
      after_key_again blob is.algorithm (host_field auth.host_key) is.short_blob is.fits,
      host_key_again auth.host_key is.host,
    ) refl
