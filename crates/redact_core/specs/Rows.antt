-- Bodies for literal rows.
use Rattle.std.specs.Prelude.{ℕ, List, [], ◌∷◌, ◌++◌, replicate, codes}
use Rattle.wire_text.specs.Wire.{string}
use Rattle.key_blob.specs.Certificates.{certificate_text}
use Rattle.redact_core.specs.Redaction.{Redacted}

-- what follows the number of an addition of an Ed25519 key, whose secret is of these bytes, with a comment
abbrev pub ed25519 : ℕ → List ℕ
ed25519 secret =
    string (codes "ssh-ed25519") ++ (string (replicate 32 5)
    ++ (string (replicate 64 secret) ++ string (codes "a key")))

-- the same of a key of the type for tests
abbrev pub stand_in : ℕ → List ℕ
stand_in secret =
    string (codes "keyed-sha256@example.com") ++ (string (replicate 32 5)
    ++ (string (replicate 32 secret) ++ string (codes "a key")))

-- the same of an RSA key, whose four private fields are of these bytes
abbrev pub rsa : ℕ → List ℕ
rsa secret =
    string (codes "ssh-rsa") ++ (string (11 ∷ 12 ∷ []) ++ (string (3 ∷ [])
    ++ (string (secret ∷ secret ∷ []) ++ (string (secret ∷ []) ++ (string []
    ++ (string (secret ∷ []) ++ string (codes "a key")))))))

-- a certificate of a user's Ed25519 key
abbrev pub certificate : List ℕ
certificate =
    string (codes "ssh-ed25519-cert-v01@openssh.com") ++ (string (replicate 32 0)
    ++ (string (replicate 32 5) ++ certificate_text (record {
      cert_type = 1;
      principals = string (codes "ada");
      after = 100;
      before = 200;
      critical = [];
      signer = codes "signer";
    }) 1 (codes "id") [] [] (codes "signature") []))

-- what follows the number of an addition with it
abbrev pub certified : ℕ → List ℕ
certified secret =
    string (codes "ssh-ed25519-cert-v01@openssh.com") ++ (string certificate
    ++ (string (replicate 32 5) ++ (string (replicate 64 secret) ++ string (codes "a key"))))

-- a lock and an unlock with this passphrase
abbrev pub lock : List ℕ → List ℕ
lock passphrase = 22 ∷ string passphrase

-- an unlock with this passphrase
abbrev pub unlock : List ℕ → List ℕ
unlock passphrase = 23 ∷ string passphrase

-- what follows the number of a request about a smartcard: its reader and its PIN
abbrev pub card : List ℕ
card = string (codes "reader") ++ string (codes "1234")

-- what followed the number of an addition of a key of SSH's version 1: bits, numbers and a comment
abbrev pub old_key : List ℕ
old_key = 0 ∷ 0 ∷ 0 ∷ 8 ∷ 0 ∷ 8 ∷ 201 ∷ 0 ∷ 3 ∷ 5 ∷ 0 ∷ 8 ∷ 77 ∷ string (codes "a key")

-- nine passphrases
abbrev pub nine : List (List ℕ)
nine =
    codes "a" ∷ codes "b" ∷ codes "c" ∷ codes "d" ∷ codes "e" ∷ codes "f" ∷ codes "g" ∷ codes "h"
    ∷ codes "i" ∷ []

-- a lock, and unlocks with another and with its own
abbrev pub three : List (List ℕ)
three = lock (codes "pw") ∷ unlock (codes "no") ∷ unlock (codes "pw") ∷ []

-- this body, and these passphrases
abbrev pub left : List ℕ → List (List ℕ) → Redacted
left body passphrases = record { body = body; passphrases = passphrases }
