-- The line of a signing request (ours: docs/PROTOCOL.md, "A log"). The file is read from its end.
use Rattle.std.specs.Prelude.{ℕ, List, [], ◌∷◌, ◌++◌, Bool, true, false, codes, decimal, length, Option, None, Some, Result, Ok, Err}
use Rattle.key_blob.specs.Fingerprints.{fingerprint_of}
use Rattle.key_blob.specs.PublicKeys.{KeyParts, public_key_of}
use Rattle.key_blob.specs.declared.fault.KeyFault.{KeyFault}
use Rattle.key_purposes.specs.Messages.{Authentication, Certificate, FileIn, MayLogIn, OtherData, Use, use_of}
use Rattle.userauth_blob.specs.UserAuths.{Login}
use Rattle.log_book.specs.declared.told.Fate.{Fate}
use Rattle.log_book.specs.declared.told.Fate.TheVariants.{Signed, Refused, HelperRefused, HelperLost, Left, Open}
use Rattle.log_book.specs.declared.told.Told.{Told}
use Rattle.log_book.specs.Dates.{second_text}
use Rattle.log_book.specs.Shown.{quoted}

-- ---- keys

-- a key's fingerprint, as `ssh-keygen -l` prints it
abbrev pub key_text_by : Result KeyParts KeyFault → List ℕ
key_text_by (Ok key) = fingerprint_of key
key_text_by (Err fault) = codes "(no key)"

-- the fingerprint of a blob's key
unfoldable pub key_text : List ℕ → List ℕ
key_text blob = key_text_by (public_key_of blob)

-- a comment, where it is known
abbrev pub comment_text : Option (List ℕ) → List ℕ
comment_text None = []
comment_text (Some comment) = 32 ∷ quoted comment

-- ---- what is signed

-- the host that a login is bound to
abbrev pub host_text : Option (List ℕ) → List ℕ
host_text None = []
host_text (Some host_key) = codes " to " ++ key_text host_key

-- the namespace of a file's signature
abbrev pub namespace_text : List ℕ → List ℕ
namespace_text namespace = codes "file in namespace " ++ quoted namespace

-- so many bytes
abbrev pub bytes_text : ℕ → List ℕ
bytes_text count = decimal count ++ codes " bytes"

-- who logs in, and where
abbrev pub login_text : Login → List ℕ
login_text login = codes "login as " ++ (quoted login.user ++ host_text login.host_key)

-- what is signed, by what a message of so many bytes reads as
abbrev pub message_by : Use → ℕ → List ℕ
message_by (Authentication login) size = login_text login
message_by (FileIn namespace) size = namespace_text namespace
message_by Certificate size = codes "certificate, " ++ bytes_text size
message_by MayLogIn size = codes "may be a login, " ++ bytes_text size
message_by OtherData size = codes "other data, " ++ bytes_text size

-- what a message has the key of this blob sign
unfoldable pub message_text : List ℕ → List ℕ → List ℕ
message_text message blob = message_by (use_of message blob) (length message)

-- ---- what came of it

-- the user was asked: consent counts where the request was then put to the helper
abbrev pub consent_text : Bool → Option ℕ → List ℕ
consent_text false put = []
consent_text true None = codes "  asked, no consent that counted"
consent_text true (Some faults) = codes "  asked, agreed"

-- what came of it
abbrev pub fate_text : Fate → List ℕ
fate_text Signed = codes "  signed"
fate_text Refused = codes "  refused"
fate_text HelperRefused = codes "  refused by the helper"
fate_text HelperLost = codes "  refused, the helper was lost"
fate_text Left = codes "  client left"
fate_text Open = codes "  no answer yet"

-- ---- the line

-- consent and fate, to the line's end
abbrev pub end_text : Told → List ℕ
end_text told =
    consent_text told.course.raised told.course.put ++ (fate_text told.fate ++ 10 ∷ [])

-- the key, and what follows
abbrev pub signer_text : Told → List ℕ
signer_text told =
    codes "  key" ++ (comment_text told.comment ++ (32 ∷ (key_text told.blob ++ end_text told)))

-- the whole line
unfoldable pub told_line : Told → List ℕ
told_line told =
    second_text told.wall ++ (codes "  " ++ (message_text told.message told.blob ++ signer_text told))
