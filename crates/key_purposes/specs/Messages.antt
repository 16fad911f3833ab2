-- What a message is signed for: in the standards' words, and as it is read.
use Rattle.std.specs.Prelude.{◌≡◌, ◌⊎◌, ℕ, ◌/◌, ◌%◌, ◌==◌, ◌&&◌, Bool, true, false, not, List, [], ◌∷◌, Option, Some, None, Result, Ok, Err, ⊤}
use Rattle.std.specs.List.{list_any}
use Rattle.std.specs.Str.{bytes_eq}
use Rattle.key_blob.specs.PublicKeys.{KeyParts, public_key_of}
use Rattle.key_blob.specs.declared.fault.KeyFault.{KeyFault}
use Rattle.key_blob.specs.declared.kind.KeyKind.{KeyKind}
use Rattle.key_blob.specs.declared.kind.KeyKind.TheVariants.{Rsa}
use Rattle.userauth_blob.specs.UserAuths.{Login as Authentic, login}
use Rattle.userauth_blob.specs.Logins.{IsLogin, login_of}
use Rattle.userauth_blob.specs.declared.fault.AuthFault.{AuthFault}
use Rattle.sshsig_blob.specs.FileSignatures.{Signing, IsSshsig}
use Rattle.sshsig_blob.specs.Reading.{signing_of}
use Rattle.sshsig_blob.specs.declared.fault.SshsigFault.{SshsigFault}
use Rattle.key_purposes.specs.Suspicions.{BeginsCertificate, HoldsNameOfLogin, begins_certificate, may_log_in}
use Rattle.key_purposes.specs.declared.message.Use as declared_use
use Rattle.key_purposes.specs.declared.message.Use.TheVariants as uses
use Rattle.key_purposes.specs.declared.purpose.Purpose.{Purpose}
use Rattle.key_purposes.specs.declared.purpose.Purpose.TheVariants as purposes

-- ---- in the standards' words

-- the key of this blob signs the message for a login
pub record IsForLogin (message blob : List ℕ) : Type 0 where
  pub login : Authentic
  pub signed : IsLogin message blob login

-- the message is a file's, to be signed in this namespace
pub record IsForNamespace (namespace message : List ℕ) : Type 0 where
  pub file : Signing
  pub signed : IsSshsig message file
  pub same : file.namespace ≡ namespace

-- the message is a file's
pub record IsForFile (message : List ℕ) : Type 0 where
  pub file : Signing
  pub signed : IsSshsig message file

-- it is neither, and begins as a certificate
pub record IsForCertificate (message blob : List ℕ) : Type 0 where
  pub no_login : IsForLogin message blob → ⊥
  pub no_file : IsForFile message → ⊥
  pub begins : BeginsCertificate message

-- it is none of these, and a server may take it as a login
pub record MayBeLogin (message blob : List ℕ) : Type 0 where
  pub no_login : IsForLogin message blob → ⊥
  pub no_file : IsForFile message → ⊥
  pub no_certificate : BeginsCertificate message → ⊥
  pub holds : HoldsNameOfLogin message

-- it is none of all these
pub record IsForOther (message blob : List ℕ) : Type 0 where
  pub no_login : IsForLogin message blob → ⊥
  pub no_file : IsForFile message → ⊥
  pub no_certificate : BeginsCertificate message → ⊥
  pub holds_none : HoldsNameOfLogin message → ⊥

-- the key of this blob signs the message for this purpose
abbrev pub IsFor : Purpose → List ℕ → List ℕ → Type 0
IsFor purposes.Login message blob = IsForLogin message blob
IsFor (purposes.Namespace namespace) message blob = IsForNamespace namespace message
IsFor purposes.AnyNamespace message blob = IsForFile message
IsFor purposes.Certificate message blob = IsForCertificate message blob
IsFor purposes.Other message blob = IsForOther message blob

-- it signs it for one of these purposes
abbrev pub IsForOne : List Purpose → List ℕ → List ℕ → Type 0
IsForOne [] message blob = ⊥
IsForOne (purpose ∷ others) message blob = IsFor purpose message blob ⊎ IsForOne others message blob

-- ---- as it is read

-- what a message is signed for
pub data Use : Type 0 where
  Authentication : (login : Authentic) → Use
  FileIn : (namespace : List ℕ) → Use
  Certificate : Use
  MayLogIn : Use
  OtherData : Use

-- the same of the code's value
abbrev pub seen : declared_use.Use → Use
seen (uses.Authentication auth) = Authentication (login auth)
seen (uses.FileIn namespace) = FileIn namespace.now
seen uses.Certificate = Certificate
seen uses.MayLogIn = MayLogIn
seen uses.OtherData = OtherData

-- a login, a file's data, or else by the bytes: whether they begin as a certificate, and whether they may log in
abbrev pub use_by : Result Authentic AuthFault → Result Signing SshsigFault → (begins may : Bool) → Use
use_by (Ok auth) file begins may = Authentication auth
use_by (Err fault) (Ok file) begins may = FileIn file.namespace
use_by (Err fault) (Err none) true may = Certificate
use_by (Err fault) (Err none) false true = MayLogIn
use_by (Err fault) (Err none) false false = OtherData

-- what the key of this blob signs the message for
unfoldable pub use_of : List ℕ → List ℕ → Use
use_of message blob =
    use_by (login_of message blob) (signing_of message) (begins_certificate message) (may_log_in message)

-- a purpose takes in what a message is signed for: what may be a login is for none
abbrev pub allows : Purpose → Use → Bool
allows purposes.Login (Authentication auth) = true
allows (purposes.Namespace namespace) (FileIn named) = bytes_eq namespace named
allows purposes.AnyNamespace (FileIn named) = true
allows purposes.Certificate Certificate = true
allows purposes.Other OtherData = true
allows purpose used = false

-- the message is for one of these purposes
abbrev pub are_for : List Purpose → List ℕ → List ℕ → Bool
are_for all message blob = list_any (λ purpose. allows purpose (use_of message blob)) all

-- ---- the signature's hash

-- a key of this kind signs by SHA-1 where the flags don't say otherwise
abbrev pub is_rsa : KeyKind → Bool
is_rsa Rsa = true
is_rsa kind = false

-- the key that was read signs by SHA-1: an RSA key does, unless one of the flags 2 (SHA-256) and 4 (SHA-512) is set
-- (draft-miller-ssh-agent, "Signature flags")
abbrev pub is_sha1_by : Result KeyParts KeyFault → ℕ → Bool
is_sha1_by (Ok key) flags = is_rsa key.kind && flags / 2 % 4 == 0
is_sha1_by (Err fault) flags = false

-- the key of this blob, with these flags, signs by SHA-1
unfoldable pub is_by_sha1 : List ℕ → ℕ → Bool
is_by_sha1 blob flags = is_sha1_by (public_key_of blob) flags

-- ---- what keys may sign

-- the message is for one of these purposes, and its signature is by a hash that tells it from other messages
abbrev pub suit : List Purpose → (message blob : List ℕ) → (flags : ℕ) → Bool
suit all message blob flags = not (is_by_sha1 blob flags) && are_for all message blob

-- the same where purposes were given; where none were, each message may be signed
abbrev pub may_be_for : Option (List Purpose) → (message blob : List ℕ) → (flags : ℕ) → Bool
may_be_for None message blob flags = true
may_be_for (Some all) message blob flags = suit all message blob flags

-- purposes let the key of this blob sign the message with these flags: where none are given, it signs any
abbrev pub let_sign : List Purpose → (message blob : List ℕ) → (flags : ℕ) → Bool
let_sign [] message blob flags = true
let_sign (purpose ∷ others) message blob flags = suit (purpose ∷ others) message blob flags

-- ---- laws

-- it is one of login, a namespace, certificates and other data
abbrev pub IsNarrow : Purpose → Type 0
IsNarrow purposes.Login = ⊤
IsNarrow (purposes.Namespace namespace) = ⊤
IsNarrow purposes.AnyNamespace = ⊥
IsNarrow purposes.Certificate = ⊤
IsNarrow purposes.Other = ⊤

-- a message is for one of these, and for one alone
pub record IsForOnly (message blob : List ℕ) (purpose : Purpose) : Type 0 where
  pub narrow : IsNarrow purpose
  pub is : IsFor purpose message blob
  pub only : (other : Purpose) → IsNarrow other → IsFor other message blob → other ≡ purpose

-- it may be a login, and is for no purpose
pub record IsForNone (message blob : List ℕ) : Type 0 where
  pub may : MayBeLogin message blob
  pub none : (purpose : Purpose) → IsFor purpose message blob → ⊥
