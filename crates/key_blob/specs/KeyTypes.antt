-- The types of keys that are read. A blob is the type's name and then its public fields; an addition
-- is the name, the public and the private fields. Each field is carried as a string.
-- RFC 8709, section 4 (Ed25519), RFC 4253, section 6.6 (RSA), RFC 5656, section 3.1 (ECDSA),
-- draft-miller-ssh-agent, "Adding keys to the agent" (additions), OpenSSH's PROTOCOL.certkeys
-- (certificates), "The stand-in key type" (ours).
use Rattle.std.specs.Prelude.{ℕ, Bool, true, false, List, [], ◌∷◌, ◌++◌, map, reverse, find, Option, Some, None, codes, if◌then◌else◌}
use Rattle.std.specs.Str.{bytes_eq}
use Rattle.key_blob.specs.declared.form.Form.{Form}
use Rattle.key_blob.specs.declared.form.Form.TheVariants.{Plain, Certified}
use Rattle.key_blob.specs.declared.kind.KeyKind.{KeyKind}
use Rattle.key_blob.specs.declared.kind.KeyKind.TheVariants.{Ed25519, Rsa, Nistp256, Nistp384, Nistp521, StandIn}

-- what a field may hold: any bytes, a number of at most 2048 bytes, so many bytes, or one text alone
pub data Field : Type 0 where
  any : Field
  number : Field
  sized : ℕ → Field
  text : List ℕ → Field

-- a line of the table
pub record KeyType : Type 0 where
  -- the name of the type, which begins its blobs and additions
  pub name : List ℕ
  -- the public fields of a blob, and those of an addition
  pub public : List Field
  pub added : List Field
  -- whether an addition has the public fields in the opposite order of a blob
  pub is_reversed : Bool
  -- the public fields that an addition has behind a certificate
  pub again : List Field
  -- the private fields of an addition
  pub private : List Field
  -- the signature algorithms beside the one of the type's own name
  pub other_algorithms : List (List ℕ)
  -- the word that a listing shows
  pub word : List ℕ
  -- the size in bits, where the type alone tells it: an RSA key's is that of its modulus
  pub bits : Option ℕ

-- a key of 32 bytes with a private field of so many
abbrev pub sized_type : List ℕ → ℕ → List ℕ → KeyType
sized_type name private_len word = record {
  name = name;
  public = sized 32 ∷ [];
  added = sized 32 ∷ [];
  is_reversed = false;
  again = [];
  private = sized private_len ∷ [];
  other_algorithms = [];
  word = word;
  bits = Some 256;
}

-- a key on a curve: the curve's name and the point Q; the exponent d
abbrev pub ecdsa_type : List ℕ → List ℕ → ℕ → KeyType
ecdsa_type name curve bits = record {
  name = name;
  public = text curve ∷ any ∷ [];
  added = text curve ∷ any ∷ [];
  is_reversed = false;
  again = [];
  private = number ∷ [];
  other_algorithms = [];
  word = codes "ECDSA";
  bits = Some bits;
}

-- e and n in a blob, n and e in an addition; d, iqmp, p and q
abbrev pub rsa_type : KeyType
rsa_type = record {
  name = codes "ssh-rsa";
  public = any ∷ any ∷ [];
  added = number ∷ number ∷ [];
  is_reversed = true;
  again = [];
  private = number ∷ number ∷ number ∷ number ∷ [];
  other_algorithms = codes "rsa-sha2-256" ∷ codes "rsa-sha2-512" ∷ [];
  word = codes "RSA";
  bits = None;
}

-- the table of plain types
abbrev pub key_type : KeyKind → KeyType
key_type Ed25519 = sized_type (codes "ssh-ed25519") 64 (codes "ED25519")
key_type Rsa = rsa_type
key_type Nistp256 = ecdsa_type (codes "ecdsa-sha2-nistp256") (codes "nistp256") 256
key_type Nistp384 = ecdsa_type (codes "ecdsa-sha2-nistp384") (codes "nistp384") 384
key_type Nistp521 = ecdsa_type (codes "ecdsa-sha2-nistp521") (codes "nistp521") 521
key_type StandIn = sized_type (codes "keyed-sha256@example.com") 32 (codes "KEYED-SHA256")

-- a name with the ending of certificates
abbrev pub certified_name : List ℕ → List ℕ
certified_name name = name ++ codes "-cert-v01@openssh.com"

-- the line of the certificates that carry keys of a plain type
abbrev pub certified_line : KeyType → List Field → KeyType
certified_line type again = record type {
  name = certified_name type.name;
  again = again;
  other_algorithms = map certified_name type.other_algorithms;
  word = type.word ++ codes "-CERT";
}

-- the table of certificates' types; the stand-in type has none, and keeps its line
abbrev pub certified_type : KeyKind → KeyType
certified_type Ed25519 = certified_line (key_type Ed25519) (key_type Ed25519).public
certified_type Rsa = certified_line (key_type Rsa) []
certified_type Nistp256 = certified_line (key_type Nistp256) []
certified_type Nistp384 = certified_line (key_type Nistp384) []
certified_type Nistp521 = certified_line (key_type Nistp521) []
certified_type StandIn = key_type StandIn

-- the line of a type
abbrev pub type_of : Form → KeyType
type_of (Plain kind) = key_type kind
type_of (Certified kind) = certified_type kind

-- the kind of a type's keys
abbrev pub kind_of : Form → KeyKind
kind_of (Plain kind) = kind
kind_of (Certified kind) = kind

-- all types
abbrev pub forms : List Form
forms =
    Plain Ed25519 ∷ Plain Rsa ∷ Plain Nistp256 ∷ Plain Nistp384 ∷ Plain Nistp521 ∷ Plain StandIn
    ∷ Certified Ed25519 ∷ Certified Rsa ∷ Certified Nistp256 ∷ Certified Nistp384
    ∷ Certified Nistp521 ∷ []

-- the type is one of them
abbrev pub IsListed : Form → Type 0
IsListed (Plain kind) = Unit {0}
IsListed (Certified Ed25519) = Unit {0}
IsListed (Certified Rsa) = Unit {0}
IsListed (Certified Nistp256) = Unit {0}
IsListed (Certified Nistp384) = Unit {0}
IsListed (Certified Nistp521) = Unit {0}
IsListed (Certified StandIn) = ⊥

-- the type that has this name
unfoldable pub form_named : List ℕ → Option Form
form_named name = find (λ form. bytes_eq (type_of form).name name) forms

-- what stands in the order of an addition, in the order of a blob
abbrev pub blob_order : {A : Type 0} → KeyType → List A → List A
blob_order type items = if type.is_reversed then reverse items else items
