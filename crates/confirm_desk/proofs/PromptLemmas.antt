-- The text that the user is shown, part by part.
use Rattle.std.proofs.Common.{◌≡◌, ℕ, ◌+◌, ◌*◌, ◌^◌, ◌<◌, ◌≤◌, List, [], ◌∷◌, ◌++◌, length, take, Option, Some, None, Result, Ok, Err, ◌∙◌, append_assoc, arith}
use Rattle.std.proofs.lemmas.List.{length-append, length-map, length-take}
use Rattle.std.proofs.lemmas.Fmt.{length-decimal-le}
use Rattle.std.specs.Prelude.{codes, decimal}
use Rattle.base64.specs.Engines.{standard_no_pad}
use Rattle.base64.specs.GeneralPurpose.{encode_of}
use Rattle.base64.specs.Rfc4648.{encode_symbols}
use Rattle.sha2.specs.Sha256.{sha256}
use Rattle.sha2.proofs.Facts256.{length-sha256}
use Rattle.key_blob.specs.Fingerprints.{fingerprint_of, plain_blob}
use Rattle.key_purposes.specs.Messages.{Authentication, Certificate, FileIn, MayLogIn, OtherData, Use, use_of}
use Rattle.key_purposes.specs.declared.purpose.Purpose.{Purpose}
use Rattle.key_blob.specs.PublicKeys.{KeyParts, public_key_of}
use Rattle.key_blob.specs.declared.fault.KeyFault.{KeyFault}
use Rattle.confirm_desk.specs.Prompt.{fingerprint_by, of_bytes, prompt_for, prompt_of, purpose_line, shown_byte, shown_text, to_host}

-- a part after another
pub parts-assoc : (a b c d e : List ℕ) → (((a ++ b) ++ c) ++ d) ++ e ≡ a ++ (b ++ (c ++ (d ++ e)))
parts-assoc a b c d e = append_assoc ((a ++ b) ++ c) d e ∙ append_assoc (a ++ b) c (d ++ e) ∙ append_assoc a b (c ++ (d ++ e))

pub three-assoc : (a b c d : List ℕ) → ((a ++ b) ++ c) ++ d ≡ a ++ (b ++ (c ++ d))
three-assoc a b c d = append_assoc (a ++ b) c d ∙ append_assoc a b (c ++ d)

-- how long it may be
pub prompt_is_short : (comment fingerprint : List ℕ) → length (prompt_of comment fingerprint) ≤ 292 + length fingerprint
unfolding prompt_of
prompt_is_short comment fingerprint =
    let shown : List ℕ = shown_text 256 comment in
    let long : length shown ≤ 256 = omega (arith, length-map (take 256 comment) shown_byte, length-take 256 comment) in
    let ending = codes "." in
    let line = codes "Key fingerprint " ++ (fingerprint ++ ending) in
    omega (
      arith,
      long,
      length-append fingerprint ending,
      length-append (codes "Key fingerprint ") (fingerprint ++ ending),
      length-append shown (63 ∷ (10 ∷ line)),
      length-append (codes "Allow use of key ") (shown ++ (63 ∷ (10 ∷ line))),
    )

-- ---- fingerprints

-- the symbols of base64 are at most twice as many as the bytes
few_symbols : (table bytes : List ℕ) → length (encode_symbols table bytes) ≤ 2 * length bytes
unfolding encode_symbols
few_symbols table [] = omega arith
few_symbols table (a ∷ []) = omega arith
few_symbols table (a ∷ b ∷ []) = omega arith
few_symbols table (a ∷ b ∷ c ∷ rest) = omega (arith, few_symbols table rest)

-- a fingerprint has few bytes
pub fingerprint_is_short : (key : KeyParts) → length (fingerprint_of key) ≤ 71
fingerprint_is_short key =
    let symbols = few_symbols standard_no_pad.encode_table (sha256 (plain_blob key)) in
    let long = length-append (codes "SHA256:") (encode_of standard_no_pad (sha256 (plain_blob key))) in
    let bare = length-append (encode_symbols standard_no_pad.encode_table (sha256 (plain_blob key))) [] in
    omega (arith, symbols, long, bare, length-sha256 (plain_blob key))

short_by : (read : Result KeyParts KeyFault) → length (fingerprint_by read) ≤ 71
short_by (Ok key) = fingerprint_is_short key
short_by (Err fault) = omega arith

-- the two lines for any held key
pub key_prompt_is_short : (comment blob : List ℕ) → length (prompt_of comment (fingerprint_by (public_key_of blob))) ≤ 363
key_prompt_is_short comment blob =
    omega (arith, prompt_is_short comment (fingerprint_by (public_key_of blob)), short_by (public_key_of blob))

-- ---- the third line

shown_is_short : (most : ℕ) (text : List ℕ) → length (shown_text most text) ≤ most
shown_is_short most text = omega (arith, length-map (take most text) shown_byte, length-take most text)

to_host_is_short : (host : Option (List ℕ)) → length (to_host host) ≤ 68
to_host_is_short None = omega arith
to_host_is_short (Some host) = omega (arith, shown_is_short 64 host, length-append (codes " to ") (shown_text 64 host))

bytes_are_short : (len : ℕ) → len < 2 ^ 64 → length (of_bytes len) ≤ 27
bytes_are_short len small =
    omega (arith, length-decimal-le 20 len (omega arith) (omega (arith, small)) small, length-append (decimal len) (codes " bytes."))

line_is_short : (host : Option (List ℕ)) (used : Use) (len : ℕ) → len < 2 ^ 64 → length (purpose_line host used len) ≤ 148
line_is_short host (Authentication login) len small =
    let user : List ℕ = shown_text 64 login.user in
    let ending : List ℕ = to_host host ++ codes "." in
    omega (
      arith,
      shown_is_short 64 login.user,
      to_host_is_short host,
      length-append (to_host host) (codes "."),
      length-append user ending,
      length-append (codes "For a login as ") (user ++ ending),
    )
line_is_short host (FileIn namespace) len small =
    let name : List ℕ = shown_text 64 namespace in
    omega (
      arith,
      shown_is_short 64 namespace,
      length-append name (codes "."),
      length-append (codes "For a signature in namespace ") (name ++ codes "."),
    )
line_is_short host Certificate len small =
    omega (arith, bytes_are_short len small, length-append (codes "For a certificate of ") (of_bytes len))
line_is_short host MayLogIn len small =
    omega (arith, bytes_are_short len small, length-append (codes "For what may be a login, of ") (of_bytes len))
line_is_short host OtherData len small =
    omega (arith, bytes_are_short len small, length-append (codes "For other data of ") (of_bytes len))

-- the text for any held key and message
pub prompt_for_is_short : (comment blob : List ℕ) (purposes : List Purpose) (host : Option (List ℕ)) (message : List ℕ)
    → length message < 2 ^ 64 → length (prompt_for comment blob purposes host message) ≤ 512
prompt_for_is_short comment blob [] host message small = omega (arith, key_prompt_is_short comment blob)
prompt_for_is_short comment blob (purpose ∷ purposes) host message small =
    omega (
      arith,
      key_prompt_is_short comment blob,
      line_is_short host (use_of message blob) (length message) small,
      length-append (prompt_of comment (fingerprint_by (public_key_of blob))) (10 ∷ purpose_line host (use_of message blob) (length message)),
    )
