-- The end of a certificate as a grammar: OpenSSH's PROTOCOL.certkeys.
use Rattle.std.specs.Prelude.{◌≡◌, ◌<◌, ◌^◌, ℕ, List, ◌++◌, length}
use Rattle.key_wire.specs.Closings.{Seal}
use Rattle.wire_text.specs.Wire.{string, uint32, uint64}

-- what stands between the key that is certified and its authority
pub record Certified : Type 0 where
  pub serial : ℕ
  -- for a user, or for a host
  pub kind : ℕ
  pub key_id : List ℕ
  pub principals : List ℕ
  pub after : ℕ
  pub before : ℕ
  pub critical_options : List ℕ
  pub extensions : List ℕ
  pub reserved : List ℕ

-- serial number, type, key id and principals, and what follows
abbrev pub names_text : Certified → List ℕ → List ℕ
names_text of rest = uint64 of.serial ++ (uint32 of.kind ++ (string of.key_id ++ (string of.principals ++ rest)))

-- when it is valid, options, extensions and the reserved string, and what follows
abbrev pub times_text : Certified → List ℕ → List ℕ
times_text of rest = uint64 of.after ++ (uint64 of.before
    ++ (string of.critical_options ++ (string of.extensions ++ (string of.reserved ++ rest))))

-- each number and each string fits its field
pub record IsFit (of : Certified) (seal : Seal) : Type 0 where
  pub serial : of.serial < 2 ^ 64
  pub kind : of.kind < 2 ^ 32
  pub key_id : length of.key_id < 2 ^ 32
  pub principals : length of.principals < 2 ^ 32
  pub after : of.after < 2 ^ 64
  pub before : of.before < 2 ^ 64
  pub critical_options : length of.critical_options < 2 ^ 32
  pub extensions : length of.extensions < 2 ^ 32
  pub reserved : length of.reserved < 2 ^ 32
  pub authority : length seal.authority < 2 ^ 32
  pub signature : length seal.signature < 2 ^ 32

-- these bytes close a certificate with this seal
pub record IsClosing (bytes : List ℕ) (seal : Seal) : Type 0 where
  pub of : Certified
  pub text : bytes ≡ names_text of (times_text of (string seal.authority ++ string seal.signature))
  pub field : seal.signature_field ≡ length (string seal.signature)
  pub fit : IsFit of seal
