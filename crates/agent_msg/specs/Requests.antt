-- Requests of a client of an agent, as plain values and as bodies of messages: a number byte, and
-- the texts of the fields (draft-miller-ssh-agent, "Protocol Messages"). That nothing follows the
-- last field is ours.
use Rattle.std.specs.Prelude.{◌≡◌, ◌≢◌, ◌==◌, ℕ, ◌^◌, ◌<◌, Bool, List, [], ◌∷◌, ◌++◌, length, codes, All, ◌⊎◌}
use Rattle.std.specs.List.{starts_with}
use Rattle.wire_text.specs.Wire.{boolean_of, uint32, string}
use Rattle.constraint_rec.specs.Constraints.{no_terms, IsConstraints}
use Rattle.constraint_rec.specs.declared.terms.Terms.{Terms}
use Rattle.key_blob.specs.AddedKeys.{IsAddedKey}
use Rattle.key_blob.specs.declared.added.AddedKey.{AddedKey}
use Rattle.agent_msg.specs.declared.request.Request.{Request}
use Rattle.agent_msg.specs.declared.request.Request.TheVariants as code

-- ---- values

-- what is to be signed, by the key of which public key blob
pub record Signing : Type 0 where
  pub blob : List ℕ
  pub message : List ℕ
  pub flags : ℕ

-- a key that is to be held, with its comment and its constraints
pub record Addition : Type 0 where
  pub key : AddedKey
  pub comment : List ℕ
  pub terms : Terms

-- a host key, the session that it signed, its signature, and whether the agent is to be forwarded
-- to that host
pub record BindRequest : Type 0 where
  pub host_key : List ℕ
  pub session : List ℕ
  pub signature : List ℕ
  pub forwarding : Bool

-- what a client asks of an agent
pub data ClientRequest : Type 0 where
  ListIdentities : ClientRequest
  Sign : (signing : Signing) → ClientRequest
  Add : (addition : Addition) → ClientRequest
  Remove : (blob : List ℕ) → ClientRequest
  RemoveAll : ClientRequest
  Lock : (passphrase : List ℕ) → ClientRequest
  Unlock : (passphrase : List ℕ) → ClientRequest
  Bind : (bind : BindRequest) → ClientRequest
  OtherExtension : (name : List ℕ) → ClientRequest
  Unsupported : (number : ℕ) → ClientRequest

-- the request that the code's value lends
abbrev pub client_request : Request → ClientRequest
client_request code.List = ListIdentities
client_request (code.Sign blob message flags) =
    Sign record { blob = blob.now; message = message.now; flags = flags }
client_request (code.Add key comment terms) =
    Add record { key = key; comment = comment.now; terms = terms }
client_request (code.Remove blob) = Remove blob.now
client_request code.RemoveAll = RemoveAll
client_request (code.Lock passphrase) = Lock passphrase.now
client_request (code.Unlock passphrase) = Unlock passphrase.now
client_request (code.Bind host_key session signature forwarding) =
    Bind record {
      host_key = host_key.now;
      session = session.now;
      signature = signature.now;
      forwarding = forwarding;
    }
client_request (code.OtherExtension name) = OtherExtension name.now
client_request (code.Unsupported number) = Unsupported number

-- ---- bodies

-- the number and a string
pub record IsText (number : ℕ) (body text : List ℕ) : Type 0 where
  pub printed : body ≡ number ∷ string text
  pub fits : length text < 2 ^ 32

-- SIGN_REQUEST: key blob, message, flags
pub record IsSigning (body : List ℕ) (signing : Signing) : Type 0 where
  pub printed : body
      ≡ 13 ∷ (string signing.blob ++ (string signing.message ++ uint32 signing.flags))
  pub blob_fits : length signing.blob < 2 ^ 32
  pub message_fits : length signing.message < 2 ^ 32
  pub flags_fit : signing.flags < 2 ^ 32

-- ADD_IDENTITY: an added key and a comment, without constraints
pub record IsPlainAddition (body : List ℕ) (addition : Addition) : Type 0 where
  pub key : IsAddedKey addition.key
  pub comment_fits : length addition.comment < 2 ^ 32
  pub unconstrained : addition.terms ≡ no_terms
  pub printed : body ≡ 17 ∷ (addition.key.private ++ string addition.comment)

-- ADD_ID_CONSTRAINED: an added key, a comment, and constraints to the end
pub record IsConstrainedAddition (body : List ℕ) (addition : Addition) : Type 0 where
  pub key : IsAddedKey addition.key
  pub comment_fits : length addition.comment < 2 ^ 32
  pub constraints : List ℕ
  pub constrained : IsConstraints constraints addition.terms
  pub printed : body ≡ 25 ∷ (addition.key.private ++ (string addition.comment ++ constraints))

-- the extension that binds a connection to a host (OpenSSH's PROTOCOL.agent,
-- "session-bind@openssh.com extension")
unfoldable pub session_bind : List ℕ
session_bind = codes "session-bind@openssh.com"

-- how a request to bind begins: EXTENSION, and the extension's name
unfoldable pub bind_front : List ℕ
bind_front = 27 ∷ string session_bind

-- EXTENSION of that name: host key, session identifier, signature, and a byte that says whether the
-- agent is forwarded
pub record IsBind (body : List ℕ) (bind : BindRequest) : Type 0 where
  pub forwarding : ℕ
  pub printed : body ≡ 27 ∷ (string session_bind ++ (string bind.host_key
      ++ (string bind.session ++ (string bind.signature ++ forwarding ∷ []))))
  pub host_key_fits : length bind.host_key < 2 ^ 32
  pub session_fits : length bind.session < 2 ^ 32
  pub signature_fits : length bind.signature < 2 ^ 32
  pub forwards : bind.forwarding ≡ boolean_of forwarding

-- EXTENSION of another name, and then whatever the extension of that name has
pub record IsExtension (body name : List ℕ) : Type 0 where
  pub contents : List ℕ
  pub printed : body ≡ 27 ∷ (string name ++ contents)
  pub fits : length name < 2 ^ 32
  pub other : name ≢ session_bind

-- the numbers of the requests that are read
abbrev pub numbers : List ℕ
numbers = 11 ∷ 13 ∷ 17 ∷ 18 ∷ 19 ∷ 22 ∷ 23 ∷ 25 ∷ 27 ∷ []

-- another number, and whatever follows it
pub record IsOfOtherNumber (body : List ℕ) (number : ℕ) : Type 0 where
  pub contents : List ℕ
  pub printed : body ≡ number ∷ contents
  pub other : All (λ known. number ≢ known) numbers

-- the body is this request
abbrev pub IsRequest : List ℕ → ClientRequest → Type 0
IsRequest body ListIdentities = body ≡ 11 ∷ []
IsRequest body (Sign signing) = IsSigning body signing
IsRequest body (Add addition) = IsPlainAddition body addition ⊎ IsConstrainedAddition body addition
IsRequest body (Remove blob) = IsText 18 body blob
IsRequest body RemoveAll = body ≡ 19 ∷ []
IsRequest body (Lock passphrase) = IsText 22 body passphrase
IsRequest body (Unlock passphrase) = IsText 23 body passphrase
IsRequest body (Bind bind) = IsBind body bind
IsRequest body (OtherExtension name) = IsExtension body name
IsRequest body (Unsupported number) = IsOfOtherNumber body number

-- ---- bodies that name the extension that binds

-- the body begins as a request to bind, whatever follows
pub record NamesBind (body : List ℕ) : Type 0 where
  pub contents : List ℕ
  pub begins : body ≡ bind_front ++ contents

-- `NamesBind` as a test: the body begins as a request to bind
unfoldable pub names_bind : List ℕ → Bool
names_bind body = starts_with (λ x y. x == y) body bind_front
