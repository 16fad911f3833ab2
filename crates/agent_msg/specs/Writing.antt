-- Requests as they are written: bodies, and what may be written.
use Rattle.std.specs.Prelude.{ℕ, ◌+◌, Bool, List, [], ◌∷◌, ◌++◌, length}
use Rattle.wire_text.specs.Wire.{boolean, uint32, string}
use Rattle.key_blob.specs.AddedKeys.{IsAddedKey}
use Rattle.constraint_rec.specs.Writing.{constraints_bytes, IsWritable}
use Rattle.agent_msg.specs.Requests.{Addition, ClientRequest, ListIdentities, Sign, Add, Remove, RemoveAll, Lock, Unlock, Bind, OtherExtension, Unsupported, session_bind}

-- the body of SIGN_REQUEST
abbrev pub signing_body : List ℕ → List ℕ → ℕ → List ℕ
signing_body blob message flags = 13 ∷ (string blob ++ (string message ++ uint32 flags))

-- the body of an addition under constraints of these bytes: ADD_IDENTITY where there are none
abbrev pub addition_text : List ℕ → List ℕ → List ℕ → List ℕ
addition_text private comment [] = 17 ∷ (private ++ string comment)
addition_text private comment (byte ∷ constraints) =
    25 ∷ (private ++ (string comment ++ byte ∷ constraints))

-- the body of the extension that binds
abbrev pub bind_body : List ℕ → List ℕ → List ℕ → Bool → List ℕ
bind_body host_key session signature forwarding =
    27 ∷ (string session_bind ++ (string host_key ++ (string session
    ++ (string signature ++ boolean forwarding))))

-- the body of a request; none for one that isn't written
abbrev pub request_body : ClientRequest → List ℕ
request_body ListIdentities = 11 ∷ []
request_body (Sign signing) = signing_body signing.blob signing.message signing.flags
request_body (Add addition) =
    addition_text addition.key.private addition.comment (constraints_bytes addition.terms)
request_body (Remove blob) = 18 ∷ string blob
request_body RemoveAll = 19 ∷ []
request_body (Lock passphrase) = 22 ∷ string passphrase
request_body (Unlock passphrase) = 23 ∷ string passphrase
request_body (Bind bind) = bind_body bind.host_key bind.session bind.signature bind.forwarding
request_body (OtherExtension name) = []
request_body (Unsupported number) = []

-- how many bytes the body of a request has: by the lengths of its fields alone
abbrev pub request_length : ClientRequest → ℕ
request_length ListIdentities = 1
request_length (Sign signing) = 13 + length signing.blob + length signing.message
request_length (Add addition) =
    5 + length addition.key.private + length addition.comment
    + length (constraints_bytes addition.terms)
request_length (Remove blob) = 5 + length blob
request_length RemoveAll = 1
request_length (Lock passphrase) = 5 + length passphrase
request_length (Unlock passphrase) = 5 + length passphrase
request_length (Bind bind) =
    42 + length bind.host_key + length bind.session + length bind.signature
request_length (OtherExtension name) = 0
request_length (Unsupported number) = 0

-- the key is one that is read, and its constraints can be written
pub record IsWritableAddition (addition : Addition) : Type 0 where
  pub key : IsAddedKey addition.key
  pub terms : IsWritable addition.terms

-- the request can be written: contents that aren't looked at when one is read can't
abbrev pub IsWritableRequest : ClientRequest → Type 0
IsWritableRequest (Add addition) = IsWritableAddition addition
IsWritableRequest (OtherExtension name) = ⊥
IsWritableRequest (Unsupported number) = ⊥
IsWritableRequest request = Unit {0}
