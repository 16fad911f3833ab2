-- What a key signs for a login, where nothing but that is asked: as UserAuths.antt has it, but for any text as the
-- server's host key, and for the key in any of its blobs, alone or in a certificate (OpenSSH's PROTOCOL.certkeys). A
-- server judges the one by its own keys, and takes the same private key's signature for each of the others.
use Rattle.std.specs.Prelude.{◌≡◌, ◌≢◌, ℕ, ◌^◌, ◌<◌, Bool, true, false, List, [], ◌&&◌, length, Option, Some, None, Result, Ok, Err, if◌then◌else◌, ⊤}
use Rattle.std.specs.Str.{bytes_eq}
use Rattle.wire_core.specs.Readings.{◌>>=◌, ended_or}
use Rattle.key_blob.specs.PublicKeys.{IsPublicKey, KeyParts, public_key_of}
use Rattle.key_blob.specs.declared.fault.KeyFault.{KeyFault}
use Rattle.key_blob.specs.declared.kind.KeyKind.{KeyKind}
use Rattle.key_blob.specs.declared.kind.KeyKind.TheVariants.{Ed25519, Rsa, Nistp256, Nistp384, Nistp521, StandIn}
use Rattle.userauth_blob.specs.declared.fault.AuthFault.{AuthFault}
use Rattle.userauth_blob.specs.declared.fault.AuthFault.TheVariants.{Algorithm, NoSignatureFlag, OtherKey, Trailing}
use Rattle.userauth_blob.specs.declared.method.AuthMethod.{AuthMethod}
use Rattle.userauth_blob.specs.declared.method.AuthMethod.TheVariants.{PublicKey, HostBound}
use Rattle.userauth_blob.specs.Reading.{after_byte, fits, method_at, opening_at, text_at}
use Rattle.userauth_blob.specs.UserAuths.{Fits, Login, signed_text}

-- ---- in the standards' words

-- both blobs are of keys of one kind with the same public fields
pub record IsSameKey (blob other : List ℕ) : Type 0 where
  pub one : KeyParts
  pub two : KeyParts
  pub is_one : IsPublicKey blob one
  pub is_two : IsPublicKey other two
  pub kind : one.kind ≡ two.kind
  pub fields : one.fields ≡ two.fields

-- a host key, where there is one, is short enough for a string
abbrev pub IsShortHost : Option (List ℕ) → Type 0
IsShortHost None = ⊤
IsShortHost (Some host_key) = length host_key < 2 ^ 32

-- the message is what the key of this blob signs for the login: the blob in it is one of that key
pub record IsLogin (message blob : List ℕ) (login : Login) : Type 0 where
  pub algorithm : List ℕ
  pub named : List ℕ
  pub text : message ≡ signed_text login algorithm named
  pub some_session : login.session ≢ []
  pub fits : Fits named algorithm
  pub same : IsSameKey blob named
  pub host : IsShortHost login.host_key
  -- each is short enough for a string
  pub short_session : length login.session < 2 ^ 32
  pub short_user : length login.user < 2 ^ 32
  pub short_algorithm : length algorithm < 2 ^ 32
  pub short_named : length named < 2 ^ 32

-- ---- as it is read

-- both kinds are one
abbrev pub is_same_kind : KeyKind → KeyKind → Bool
is_same_kind Ed25519 Ed25519 = true
is_same_kind Rsa Rsa = true
is_same_kind Nistp256 Nistp256 = true
is_same_kind Nistp384 Nistp384 = true
is_same_kind Nistp521 Nistp521 = true
is_same_kind StandIn StandIn = true
is_same_kind one other = false

-- both were read, and are one key but for their certificates
abbrev pub is_same_key : Result KeyParts KeyFault → Result KeyParts KeyFault → Bool
is_same_key (Ok one) (Ok other) = is_same_kind one.kind other.kind && bytes_eq one.fields other.fields
is_same_key one other = false

-- the blob that was read is one of the key of this blob, and fits the algorithm
abbrev pub if_same : List ℕ → List ℕ → List ℕ × List ℕ → Result (List ℕ) AuthFault
if_same blob algorithm named =
    if is_same_key (public_key_of blob) (public_key_of named.0)
    then (if fits (public_key_of named.0) algorithm then Ok named.1 else Err Algorithm)
    else Err OtherKey

-- a blob of the key of this blob, which fits the algorithm
unfoldable pub after_same_key : List ℕ → List ℕ → List ℕ → Result (List ℕ) AuthFault
after_same_key blob algorithm bytes = text_at bytes >>= if_same blob algorithm

-- the text in the place of the host key, where the method has one
unfoldable pub host_at : AuthMethod → List ℕ → Result (Option (List ℕ) × List ℕ) AuthFault
host_at PublicKey bytes = Ok (None, bytes)
host_at HostBound bytes = text_at bytes >>= λ text. Ok (Some text.0, text.1)

-- the method, and then a blob of the key of this blob, which fits the algorithm before it
abbrev pub key_signer_at : List ℕ → List ℕ → Result (AuthMethod × List ℕ) AuthFault
key_signer_at blob bytes = do
  method ← method_at bytes
  after_flag ← after_byte 1 NoSignatureFlag method.1
  algorithm ← text_at after_flag
  after_blob ← after_same_key blob algorithm.0 algorithm.1
  Ok (method.0, after_blob)

-- the login that the key of this blob signs the message for, or the first fault from left to right
unfoldable pub login_of : List ℕ → List ℕ → Result Login AuthFault
login_of message blob = do
  opening ← opening_at message
  method ← key_signer_at blob opening.1
  host_key ← host_at method.0 method.1
  ended_or Trailing record {
    session = opening.0.0;
    user = opening.0.1;
    host_key = host_key.0;
  } host_key.1
