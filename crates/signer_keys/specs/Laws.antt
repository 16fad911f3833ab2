-- What the laws of requests say: which are handed on, and whose key what is signed verifies by.
use Rattle.std.specs.Prelude.{◌≡◌, ℕ, Bool, List, Option, Some, None, Result, Ok, Err}
use Rattle.child_msg.specs.Messages.{ToChildMessage, Sign, Verify, Confirm}
use Rattle.child_msg.specs.declared.fault.ChildFault.{ChildFault}
use Rattle.key_wire.specs.declared.fault.KeyFault.{KeyFault}
use Rattle.key_wire.specs.declared.fault.KeyFault.TheVariants.{Unfit}
use Rattle.signer_keys.specs.declared.types.KeyType.{KeyType}
use Rattle.signer_keys.specs.declared.types.KeyType.TheVariants.{Plain, Certified}
use Rattle.signer_keys.specs.declared.verifying.Verdict.TheVariants.{Elsewhere}
use Rattle.signer_keys.specs.Types.{type_of}
use Rattle.signer_keys.specs.Verifying.{PublicKey, certified_public, judged, plain_public, verdict_of}
use Rattle.wire_core.specs.Readings.{◌>>=◌}

-- ---- what is handed on

-- neither the blob nor the private string is of a known type; the host key, or a certificate's authority, is of none
abbrev pub IsForBehind : Result ToChildMessage ChildFault → Type 0
IsForBehind (Ok (Sign request)) = (type_of request.blob ≡ None) × (type_of request.private ≡ None)
IsForBehind (Ok (Verify request)) = verdict_of request.host_key request.session request.signature ≡ Elsewhere
IsForBehind (Ok (Confirm job prompt)) = ⊥
IsForBehind (Err _) = ⊥

-- ---- what is signed

-- the public key of a blob of this type: by itself, or in a certificate, whose authority isn't looked at
abbrev pub public_typed : Option KeyType → List ℕ → Result PublicKey KeyFault
public_typed (Some (Plain kind)) blob = plain_public kind blob
public_typed (Some (Certified kind)) blob = certified_public kind blob >>= λ key. Ok key.0
public_typed None blob = Err Unfit

-- whether the public key of a blob accepts the text as a signature of the message
unfoldable pub accepted_by : List ℕ → List ℕ → List ℕ → Result Bool KeyFault
accepted_by blob message text = do
  key ← public_typed (type_of blob) blob
  judged key message text
