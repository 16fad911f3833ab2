-- The line of a public key: its type, its blob in base64, and a comment (sshd(8), "AUTHORIZED_KEYS
-- FILE FORMAT", without options). That single spaces stand between the words is ours.
use Rattle.std.specs.Prelude.{◌≡◌, ◌≢◌, ◌==◌, ℕ, ◌⊎◌, List, [], ◌∷◌, ◌++◌, All, Result, Ok, Err, if◌then◌else◌}
use Rattle.std.specs.List.{slice_split}
use Rattle.std.specs.Option.{ok_or}
use Rattle.std.specs.Str.{bytes_eq}
use Rattle.key_blob.specs.declared.fault.KeyFault.{KeyFault}
use Rattle.key_blob.specs.PublicKeys.{KeyParts, IsPublicKey, public_key_of}
use Rattle.key_file.specs.declared.fault.PubFault.{PubFault}
use Rattle.key_file.specs.declared.fault.PubFault.TheVariants.{Words, Base64, OtherType}
use Rattle.key_file.specs.Base64.{IsBase64, bytes_of}
use Rattle.key_file.specs.Faults.{line_fault}

-- ---- the grammar

-- the text is the base64 of the blob of a public key or certificate of the type
pub record IsTyped (type text blob : List ℕ) : Type 0 where
  pub encoded : IsBase64 text blob
  pub key : KeyParts
  pub is_key : IsPublicKey blob key
  pub of_type : key.type_name ≡ type

-- the bytes are one word of one line
abbrev pub IsWord : List ℕ → Type 0
IsWord word = All (λ byte. (byte ≢ 32) × (byte ≢ 10)) word

-- nothing, or a byte that ends the word before it, and anything more
abbrev pub EndsWord : List ℕ → Type 0
EndsWord [] = Unit {0}
EndsWord (byte ∷ rest) = (byte ≡ 32) ⊎ (byte ≡ 10)

-- the text begins with the line of the key that has this blob
pub record IsPublicLine (text blob : List ℕ) : Type 0 where
  pub type : List ℕ
  pub encoded : List ℕ
  pub rest : List ℕ
  pub text_is : text ≡ type ++ 32 ∷ (encoded ++ rest)
  pub type_word : IsWord type
  pub encoded_word : IsWord encoded
  pub end : EndsWord rest
  pub typed : IsTyped type encoded blob

-- ---- reading

-- the blob, where it is that of a key of this type
abbrev pub of_type : List ℕ → List ℕ → Result KeyParts KeyFault → Result (List ℕ) PubFault
of_type type blob (Ok key) = if bytes_eq key.type_name type then Ok blob else Err OtherType
of_type type blob (Err fault) = Err (line_fault fault)

infixl 10 ◌>>=◌
-- the first fault, or what the second reading gives for the value of the first
abbrev pub ◌>>=◌ : {A B : Type 0} → Result A PubFault → (A → Result B PubFault) → Result B PubFault
(Ok x) >>= f = f x
(Err fault) >>= f = Err fault

-- the blob of a key of this type whose base64 the text is, or the first fault
unfoldable pub typed_key : List ℕ → List ℕ → Result (List ℕ) PubFault
typed_key type text =
    ok_or (bytes_of text) Base64 >>= λ blob. of_type type blob (public_key_of blob)

-- what stands between these bytes
abbrev pub parts : ℕ → List ℕ → List (List ℕ)
parts mark text = slice_split (λ byte. byte == mark) text

-- the first of some lines
abbrev pub first : List (List ℕ) → List ℕ
first [] = []
first (one ∷ others) = one

-- the blob that a line of these words stands for
abbrev pub words_key : List (List ℕ) → Result (List ℕ) PubFault
words_key [] = Err Words
words_key (type ∷ []) = Err Words
words_key (type ∷ text ∷ comment) = typed_key type text

-- the blob that the first line of a text stands for, or the first fault from left to right
unfoldable pub line_key : List ℕ → Result (List ℕ) PubFault
line_key text = words_key (parts 32 (first (parts 10 text)))
