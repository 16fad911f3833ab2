-- What user authentication by a public key signs: RFC 4252, section 7, for the method "publickey",
-- and OpenSSH's PROTOCOL, "publickey-hostbound-v00@openssh.com", for the one that ends in the
-- server's host key. That the session identifier isn't empty, that the service is a connection and
-- that the key and the host key are read are ours.
use Rattle.std.specs.Prelude.{◌≡◌, ◌≢◌, ℕ, ◌^◌, ◌<◌, List, [], ◌∷◌, ◌++◌, length, Option, Some, None, codes, Contains, ⊤}
use Rattle.std.specs.Option.{option_map}
use Rattle.wire_text.specs.Wire.{string}
use Rattle.key_blob.specs.PublicKeys.{KeyParts, algorithms_of, IsPublicKey}
use Rattle.userauth_blob.specs.declared.userauth.UserAuth.{UserAuth}

-- a login that is asked for, without where it lies in memory
pub record Login : Type 0 where
  -- the session identifier of the connection
  pub session : List ℕ
  -- the user's name on the server
  pub user : List ℕ
  -- the server's host key, where the login is bound to it
  pub host_key : Option (List ℕ)

-- the login that the code's value lends
abbrev pub login : UserAuth → Login
login auth = record {
  session = auth.session.now;
  user = auth.user.now;
  host_key = option_map (λ key. key.now) auth.host_key;
}

-- the service that follows the login
abbrev pub connection : List ℕ
connection = codes "ssh-connection"

-- the name of the method of a login, by whether it is bound to a host key
abbrev pub method_name : Option (List ℕ) → List ℕ
method_name None = codes "publickey"
method_name (Some host_key) = codes "publickey-hostbound-v00@openssh.com"

-- the host key's field, where there is one
abbrev pub host_field : Option (List ℕ) → List ℕ
host_field None = []
host_field (Some host_key) = string host_key

-- what the key of this blob signs by this algorithm: 50 is SSH_MSG_USERAUTH_REQUEST, and 1 says
-- that a signature follows
abbrev pub signed_text : Login → List ℕ → List ℕ → List ℕ
signed_text auth algorithm blob =
    string auth.session ++ 50 ∷ (string auth.user ++ (string connection
    ++ (string (method_name auth.host_key) ++ 1 ∷ (string algorithm ++ (string blob
    ++ host_field auth.host_key)))))

-- the blob is a public key's that can be used with the algorithm
pub record Fits (blob algorithm : List ℕ) : Type 0 where
  pub key : KeyParts
  pub is_key : IsPublicKey blob key
  pub one_of : Contains (algorithms_of key) algorithm

-- a host key, where there is one, is a public key that is short enough for a string
abbrev pub IsHostKey : Option (List ℕ) → Type 0
IsHostKey None = ⊤
IsHostKey (Some host_key) =
    (length host_key < 2 ^ 32) × ((key : KeyParts) × IsPublicKey host_key key)

-- the message is what the key of this blob signs for the login
pub record IsUserAuth (message blob : List ℕ) (auth : Login) : Type 0 where
  pub algorithm : List ℕ
  pub text : message ≡ signed_text auth algorithm blob
  pub some_session : auth.session ≢ []
  pub fits : Fits blob algorithm
  pub host : IsHostKey auth.host_key
  -- each is short enough for a string
  pub short_session : length auth.session < 2 ^ 32
  pub short_user : length auth.user < 2 ^ 32
  pub short_algorithm : length algorithm < 2 ^ 32
  pub short_blob : length blob < 2 ^ 32
