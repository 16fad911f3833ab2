-- What the question's third line tells of a message (ours): beside `purpose_line`, which writes it.
use Rattle.std.specs.Prelude.{◌≡◌, ℕ, ◌==◌, false, List, [], ◌++◌, length, drop, codes, Option, Some, None}
use Rattle.std.specs.List.{AllByRecursion}
use Rattle.std.specs.Option.{option_map}
use Rattle.wire_text.specs.Wire.{string}
use Rattle.child_msg.specs.ChildFrames.{to_child_body}
use Rattle.child_msg.specs.Messages.{Confirm}
use Rattle.key_purposes.specs.Messages as messages
use Rattle.key_purposes.specs.Messages.{Use, use_of}
use Rattle.key_purposes.specs.declared.purpose.Purpose.{Purpose}
use Rattle.confirm_desk.specs.Confirmations.{Confirmation}
use Rattle.confirm_desk.specs.Prompt.{prompt_for, purpose_line, shown_text}

-- the line for a message that the key of this blob is to sign, to log in to this host where that is known
abbrev pub line_of : (host : Option (List ℕ)) → (message blob : List ℕ) → List ℕ
line_of host message blob = purpose_line host (use_of message blob) (length message)

-- the line for a login of this user
abbrev pub login_as : (host : Option (List ℕ)) → List ℕ → List ℕ
login_as host user = purpose_line host (messages.Authentication record { session = []; user = user; host_key = None }) 0

-- the user of a login, and its host where that is known, and the namespace of a file, as they are shown, or how many
-- bytes a certificate, what may be a login, or other data has
pub data Told : Type 0 where
  LoginAs : (user : List ℕ) → (host : Option (List ℕ)) → Told
  FileIn : (namespace : List ℕ) → Told
  CertificateOf : (len : ℕ) → Told
  MayLogInBy : (len : ℕ) → Told
  DataOf : (len : ℕ) → Told

-- what is told of what a message reads as
abbrev pub told_by : (host : Option (List ℕ)) → Use → ℕ → Told
told_by host (messages.Authentication login) len = LoginAs (shown_text 64 login.user) (option_map (shown_text 64) host)
told_by host (messages.FileIn namespace) len = FileIn (shown_text 64 namespace)
told_by host messages.Certificate len = CertificateOf len
told_by host messages.MayLogIn len = MayLogInBy len
told_by host messages.OtherData len = DataOf len

-- what is told of a message that the key of this blob is to sign
abbrev pub told_of : (host : Option (List ℕ)) → (message blob : List ℕ) → Told
told_of host message blob = told_by host (use_of message blob) (length message)

-- a login's user and host as they stand behind one another
abbrev pub user_and_host : List ℕ → Option (List ℕ) → List ℕ
user_and_host user None = user
user_and_host user (Some host) = user ++ (codes " to " ++ host)

-- both are logins whose user and host are shown as one text, files in one namespace, or of one kind and one length
abbrev pub ReadAlike : Told → Told → Type 0
ReadAlike (LoginAs user host) (LoginAs other other_host) = user_and_host user host ≡ user_and_host other other_host
ReadAlike (FileIn namespace) (FileIn other) = namespace ≡ other
ReadAlike (CertificateOf len) (CertificateOf other) = len ≡ other
ReadAlike (MayLogInBy len) (MayLogInBy other) = len ≡ other
ReadAlike (DataOf len) (DataOf other) = len ≡ other
ReadAlike one other = ⊥

-- no byte of the name is a space
abbrev pub HasNoSpace : List ℕ → Type 0
HasNoSpace name = AllByRecursion (λ byte. (byte == 32) ≡ false) name

-- what its child process is owed is what is left of a question about the very message that is held for the consent
pub record AsksAboutIt (one : Confirmation) : Type 0 where
  pub comment : List ℕ
  pub blob : List ℕ
  pub purposes : List Purpose
  pub host : Option (List ℕ)
  pub taken : ℕ
  pub owed : one.owed
      ≡ drop taken (string (to_child_body (Confirm one.job (prompt_for comment blob purposes host one.message))))

-- so it is of each confirmation
abbrev pub AskAboutThem : List Confirmation → Type 0
AskAboutThem confirmations = AllByRecursion AsksAboutIt confirmations
