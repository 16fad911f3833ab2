-- What the laws of the answers say (ours).
use Rattle.std.specs.Prelude.{◌≡◌, ℕ, List, Some, Ok}
use Rattle.child_msg.specs.Messages.{Sign, Verify, Signing, Verification}
use Rattle.child_msg.specs.Reading.{to_child_of}
use Rattle.standin_core.specs.Hosts.{Host, secret_for}
use Rattle.standin_core.specs.Keys.{IsBlob, IsPrivate, signature_of}

-- the body asks for a signature by this number
pub record AsksToSign (body : List ℕ) (ask : ℕ) (request : Signing) : Type 0 where
  pub read : to_child_of body ≡ Ok (Sign request)
  pub number : request.ask ≡ ask

-- the signature is made with the secret of the private string in this very body, whose blob stands in the body too
pub record IsSignedFor (body : List ℕ) (ask : ℕ) (signature : List ℕ) : Type 0 where
  pub request : Signing
  pub asks : AsksToSign body ask request
  pub secret : List ℕ
  pub private : IsPrivate request.private request.blob secret
  pub made : signature ≡ signature_of secret request.message

-- the body asks for a signature, and its private string is no stand-in key's with its blob
pub record IsRefusedFor (body : List ℕ) (ask : ℕ) : Type 0 where
  pub request : Signing
  pub asks : AsksToSign body ask request
  pub none : (secret : List ℕ) → ¬ (IsPrivate request.private request.blob secret)

-- the body asks whether a stand-in key of the data file made a signature, and it did
pub record IsTrueFor (hosts : List Host) (body : List ℕ) (ask : ℕ) : Type 0 where
  pub request : Verification
  pub read : to_child_of body ≡ Ok (Verify request)
  pub number : request.ask ≡ ask
  pub tag : List ℕ
  pub blob : IsBlob request.host_key tag
  pub secret : List ℕ
  pub host : secret_for tag hosts ≡ Some secret
  pub made : request.signature ≡ signature_of secret request.session
