-- What a signed message is, field by field: its login, or the first fault.
use Rattle.std.specs.Prelude.{◌==◌, ℕ, Bool, false, List, [], ◌∷◌, Option, Some, None, Result, Ok, Err, is_ok, codes, if◌then◌else◌}
use Rattle.std.specs.List.{list_any}
use Rattle.std.specs.Option.{ok_or}
use Rattle.std.specs.Str.{bytes_eq}
use Rattle.wire_core.specs.Fields.{string_at}
use Rattle.wire_core.specs.Readings.{◌>>=◌, ended_or}
use Rattle.key_blob.specs.PublicKeys.{KeyParts, algorithms_of, public_key_of}
use Rattle.key_blob.specs.declared.fault.KeyFault.{KeyFault}
use Rattle.userauth_blob.specs.declared.fault.AuthFault.{AuthFault}
use Rattle.userauth_blob.specs.declared.fault.AuthFault.TheVariants.{Short, EmptySession, NotRequest, Service, Method, NoSignatureFlag, OtherKey, Algorithm, HostKey, Trailing}
use Rattle.userauth_blob.specs.declared.method.AuthMethod.{AuthMethod}
use Rattle.userauth_blob.specs.declared.method.AuthMethod.TheVariants.{PublicKey, HostBound}
use Rattle.userauth_blob.specs.UserAuths.{Login, connection}

-- ---- single fields: each gives the bytes that follow it

-- a string
abbrev pub text_at : List ℕ → Result (List ℕ × List ℕ) AuthFault
text_at bytes = ok_or (string_at bytes) Short

-- this byte
unfoldable pub after_byte : ℕ → AuthFault → List ℕ → Result (List ℕ) AuthFault
after_byte wanted other [] = Err Short
after_byte wanted other (byte ∷ rest) = if byte == wanted then Ok rest else Err other

-- the text that was read is this one
abbrev pub if_text : List ℕ → AuthFault → List ℕ × List ℕ → Result (List ℕ) AuthFault
if_text wanted other text = if bytes_eq text.0 wanted then Ok text.1 else Err other

-- this string
unfoldable pub after_text : List ℕ → AuthFault → List ℕ → Result (List ℕ) AuthFault
after_text wanted other bytes = text_at bytes >>= if_text wanted other

-- a session identifier, which isn't empty
abbrev pub if_some : List ℕ → List ℕ → Result (List ℕ × List ℕ) AuthFault
if_some [] rest = Err EmptySession
if_some (byte ∷ session) rest = Ok (byte ∷ session, rest)

-- the session identifier
unfoldable pub session_at : List ℕ → Result (List ℕ × List ℕ) AuthFault
session_at bytes = text_at bytes >>= λ text. if_some text.0 text.1

-- the method of this name
unfoldable pub method_named : List ℕ → Option AuthMethod
method_named name =
    if bytes_eq name (codes "publickey") then Some PublicKey
    else if bytes_eq name (codes "publickey-hostbound-v00@openssh.com") then Some HostBound
    else None

-- the method
unfoldable pub method_at : List ℕ → Result (AuthMethod × List ℕ) AuthFault
method_at bytes = do
  name ← text_at bytes
  method ← ok_or (method_named name.0) Method
  Ok (method, name.1)

-- ---- keys

-- the key, if it is one, can be used with the algorithm
abbrev pub fits : Result KeyParts KeyFault → List ℕ → Bool
fits (Ok key) algorithm = list_any (bytes_eq algorithm) (algorithms_of key)
fits (Err fault) algorithm = false

-- this key blob, which fits the algorithm
unfoldable pub after_key : List ℕ → List ℕ → List ℕ → Result (List ℕ) AuthFault
after_key blob algorithm bytes = do
  rest ← after_text blob OtherKey bytes
  if fits (public_key_of blob) algorithm then Ok rest else Err Algorithm

-- a host key that was read is a public key
abbrev pub if_key : List ℕ × List ℕ → Result (Option (List ℕ) × List ℕ) AuthFault
if_key text = if is_ok (public_key_of text.0) then Ok (Some text.0, text.1) else Err HostKey

-- the host key that a method has
unfoldable pub host_key_at : AuthMethod → List ℕ → Result (Option (List ℕ) × List ℕ) AuthFault
host_key_at PublicKey bytes = Ok (None, bytes)
host_key_at HostBound bytes = text_at bytes >>= if_key

-- ---- the whole

-- the front of the message, up to the method: the session identifier and the user
abbrev pub opening_at : List ℕ → Result ((List ℕ × List ℕ) × List ℕ) AuthFault
opening_at message = do
  session ← session_at message
  after_number ← after_byte 50 NotRequest session.1
  user ← text_at after_number
  after_service ← after_text connection Service user.1
  Ok ((session.0, user.0), after_service)

-- the method, and then the key of this blob, which fits the algorithm before it
abbrev pub signer_at : List ℕ → List ℕ → Result (AuthMethod × List ℕ) AuthFault
signer_at blob bytes = do
  method ← method_at bytes
  after_flag ← after_byte 1 NoSignatureFlag method.1
  algorithm ← text_at after_flag
  after_blob ← after_key blob algorithm.0 algorithm.1
  Ok (method.0, after_blob)

-- the login that the key of this blob signs the message for, or the first fault from left to right
unfoldable pub auth_of : List ℕ → List ℕ → Result Login AuthFault
auth_of message blob = do
  opening ← opening_at message
  method ← signer_at blob opening.1
  host_key ← host_key_at method.0 method.1
  ended_or Trailing record {
    session = opening.0.0;
    user = opening.0.1;
    host_key = host_key.0;
  } host_key.1
