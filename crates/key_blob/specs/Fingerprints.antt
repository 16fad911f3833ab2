-- The fingerprint of a key (ssh-keygen(1), option -l).
use Rattle.std.specs.Prelude.{List, ℕ, ◌++◌, codes}
use Rattle.base64.specs.Engines.{standard_no_pad}
use Rattle.base64.specs.GeneralPurpose.{encode_of}
use Rattle.sha2.specs.Sha256.{sha256}
use Rattle.wire_text.specs.Wire.{string}
use Rattle.key_blob.specs.KeyTypes.{key_type}
use Rattle.key_blob.specs.PublicKeys.{KeyParts}

-- the blob of the key's fields under the name of its type, also where a certificate carries them
abbrev pub plain_blob : KeyParts → List ℕ
plain_blob key = string (key_type key.kind).name ++ key.fields

-- the digest of the plain blob, in base64 without padding
abbrev pub fingerprint_of : KeyParts → List ℕ
fingerprint_of key = codes "SHA256:" ++ encode_of standard_no_pad (sha256 (plain_blob key))
