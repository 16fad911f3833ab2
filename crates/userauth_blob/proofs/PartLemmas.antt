-- The parts of a message, one by one: what is read stands at the front.
use Rattle.std.proofs.Common.{◌≡◌, ◌≢◌, ℕ, ◌^◌, ◌<◌, Bool, true, false, cond, eqb, List, [], ◌∷◌, ◌++◌, length, Option, Some, None, Ok, Err, refl, ap, subst, ◌∙◌}
use Rattle.std.specs.Prelude.{codes, is_ok}
use Rattle.std.specs.Option.{ok_or}
use Rattle.std.specs.Str.{bytes_eq}
use Rattle.std.proofs.lemmas.Bool.{eqb-true}
use Rattle.std.proofs.lemmas.List.Elements.{All-tail}
use Rattle.std.proofs.lemmas.Slice.Eq.{bytes_eq-Decides}
use Rattle.wire_text.specs.Wire.{IsBytes, string}
use Rattle.wire_core.specs.Fields.{string_at}
use Rattle.wire_core.proofs.Theorems.{string_is_front}
use Rattle.key_blob.specs.PublicKeys.{public_key_of}
use Rattle.userauth_blob.specs.declared.fault.AuthFault.{AuthFault}
use Rattle.userauth_blob.specs.declared.fault.AuthFault.TheVariants.{Short, Method, OtherKey, Algorithm, HostKey}
use Rattle.userauth_blob.specs.declared.method.AuthMethod.{AuthMethod}
use Rattle.userauth_blob.specs.declared.method.AuthMethod.TheVariants.{PublicKey, HostBound}
use Rattle.userauth_blob.specs.UserAuths.{method_name, host_field, Fits, IsHostKey}
use Rattle.wire_core.specs.Readings.{◌>>=◌}
use Rattle.userauth_blob.specs.Reading.{text_at, after_byte, if_text, after_text, if_some, session_at, method_named, method_at, fits, after_key, if_key, host_key_at}
use Rattle.wire_core.proofs.ReadingLemmas.{bind_ok, bytes_inside, guard_ok, ok_or_ok}
use Rattle.userauth_blob.proofs.FieldLemmas.{fits_is, key_is}

-- a string at the front of bytes, and its text
pub record IsText (bytes text rest : List ℕ) : Type 0 where
  pub parts : bytes ≡ string text ++ rest
  pub left : IsBytes rest
  pub inside : IsBytes text
  pub small : length text < 2 ^ 32

pub text_is : (bytes : List ℕ) (x : List ℕ × List ℕ) → IsBytes bytes → text_at bytes ≡ Ok x → IsText bytes x.0 x.1
text_is bytes x small read =
    let f = string_is_front bytes x.0 x.1 small (ok_or_ok (string_at bytes) Short x read) in
    record { parts = f.0.parts; left = f.0.left; inside = bytes_inside x.0 x.1 (subst IsBytes f.0.parts small); small = f.1 }

-- a byte at the front of bytes
pub record IsByte (byte : ℕ) (bytes rest : List ℕ) : Type 0 where
  pub parts : bytes ≡ byte ∷ rest
  pub left : IsBytes rest

pub byte_is : (byte : ℕ) (other : AuthFault) (bytes rest : List ℕ) → IsBytes bytes → after_byte byte other bytes ≡ Ok rest → IsByte byte bytes rest
unfolding after_byte
byte_is byte other [] rest small read = absurd cc
byte_is byte other (first ∷ left) rest small read =
    let g = guard_ok (eqb first byte) other left rest read in
    let same = eqb-true first byte g.0 in
    subst (λ (r : List ℕ). IsByte byte (first ∷ left) r) g.1 (record {
      parts = ap (λ (b : ℕ). b ∷ left) same;
      left = All-tail (λ b. b < 256) first left small;
    })

pub this_text_is : (wanted : List ℕ) (other : AuthFault) (bytes rest : List ℕ) → IsBytes bytes → after_text wanted other bytes ≡ Ok rest → IsText bytes wanted rest
unfolding after_text
this_text_is wanted other bytes rest small read =
    let a = bind_ok (text_at bytes) (if_text wanted other) rest read in
    let g = guard_ok (bytes_eq a.0.0 wanted) other a.0.1 rest a.2 in
    let same = (bytes_eq-Decides a.0.0 wanted).0 g.0 in
    subst (λ (text : List ℕ). IsText bytes text rest) same
    (subst (λ (r : List ℕ). IsText bytes a.0.0 r) g.1 (text_is bytes a.0 small a.1))

some_is : (session rest : List ℕ) (x : List ℕ × List ℕ) → if_some session rest ≡ Ok x → (session ≡ x.0) × (rest ≡ x.1) × (x.0 ≢ [])
some_is [] rest x e = absurd cc
some_is (byte ∷ session) rest x e =
    let made : List ℕ × List ℕ = (byte ∷ session, rest) in
    let same : made ≡ x = cc in
    (ap (λ (y : List ℕ × List ℕ). y.0) same, ap (λ (y : List ℕ × List ℕ). y.1) same, λ empty. cc)

pub session_is : (bytes : List ℕ) (x : List ℕ × List ℕ) → IsBytes bytes → session_at bytes ≡ Ok x → IsText bytes x.0 x.1 × (x.0 ≢ [])
unfolding session_at
session_is bytes x small read =
    let a = bind_ok (text_at bytes) (λ text. if_some text.0 text.1) x read in
    let s = some_is a.0.0 a.0.1 x a.2 in
    let text = text_is bytes a.0 small a.1 in
    (subst (λ (t : List ℕ). IsText bytes t x.1) s.0 (subst (λ (r : List ℕ). IsText bytes a.0.0 r) s.1 text), s.2)

-- ---- the method

-- the name of a method
abbrev pub name_of : AuthMethod → List ℕ
name_of PublicKey = codes "publickey"
name_of HostBound = codes "publickey-hostbound-v00@openssh.com"

named_by : (plain bound : Bool) (name : List ℕ) (method : AuthMethod) → bytes_eq name (codes "publickey") ≡ plain →
    bytes_eq name (codes "publickey-hostbound-v00@openssh.com") ≡ bound → cond plain (Some PublicKey) (cond bound (Some HostBound) None) ≡ Some method →
    name ≡ name_of method
named_by true bound name method is_plain is_bound found =
    let same : PublicKey ≡ method = cc in
    (bytes_eq-Decides name (codes "publickey")).0 is_plain ∙ ap name_of same
named_by false true name method is_plain is_bound found =
    let same : HostBound ≡ method = cc in
    (bytes_eq-Decides name (codes "publickey-hostbound-v00@openssh.com")).0 is_bound ∙ ap name_of same
named_by false false name method is_plain is_bound found = absurd cc

method_named_is : (name : List ℕ) (method : AuthMethod) → method_named name ≡ Some method → name ≡ name_of method
unfolding method_named
method_named_is name method found = named_by _ _ name method refl refl found

pub method_is : (bytes : List ℕ) (x : AuthMethod × List ℕ) → IsBytes bytes → method_at bytes ≡ Ok x → IsText bytes (name_of x.0) x.1
unfolding method_at
method_is bytes x small read =
    let a = bind_ok (text_at bytes) (λ name. ok_or (method_named name.0) Method >>= λ method. Ok (method, name.1)) x read in
    let b = bind_ok (ok_or (method_named a.0.0) Method) (λ method. Ok (method, a.0.1)) x a.2 in
    let name = method_named_is a.0.0 b.0 (ok_or_ok (method_named a.0.0) Method b.0 b.1) in
    let made : AuthMethod × List ℕ = (b.0, a.0.1) in
    let same : made ≡ x = cc in
    subst (λ (y : AuthMethod × List ℕ). IsText bytes (name_of y.0) y.1) same
    (subst (λ (text : List ℕ). IsText bytes text a.0.1) name (text_is bytes a.0 small a.1))

-- ---- keys

pub key_blob_is : (blob algorithm bytes rest : List ℕ) → IsBytes bytes → after_key blob algorithm bytes ≡ Ok rest → IsText bytes blob rest × Fits blob algorithm
unfolding after_key
key_blob_is blob algorithm bytes rest small read =
    let a = bind_ok (after_text blob OtherKey bytes) (λ left. cond (fits (public_key_of blob) algorithm) (Ok left) (Err Algorithm)) rest read in
    let g = guard_ok (fits (public_key_of blob) algorithm) Algorithm a.0 rest a.2 in
    let text = this_text_is blob OtherKey bytes a.0 small a.1 in
    (subst (λ (r : List ℕ). IsText bytes blob r) g.1 text, fits_is blob algorithm text.inside g.0)

-- the field of a host key at the front of bytes, by a method that has it
pub record IsHostField (method : AuthMethod) (bytes : List ℕ) (host_key : Option (List ℕ)) (rest : List ℕ) : Type 0 where
  pub parts : bytes ≡ host_field host_key ++ rest
  pub name : name_of method ≡ method_name host_key
  pub is : IsHostKey host_key

pub host_key_is : (method : AuthMethod) (bytes : List ℕ) (x : Option (List ℕ) × List ℕ) → IsBytes bytes → host_key_at method bytes ≡ Ok x →
    IsHostField method bytes x.0 x.1
unfolding host_key_at
host_key_is PublicKey bytes x small read =
    let made : Option (List ℕ) × List ℕ = (None, bytes) in
    let same : made ≡ x = cc in
    subst (λ (y : Option (List ℕ) × List ℕ). IsHostField PublicKey bytes y.0 y.1) same (record { parts = refl; name = refl; is = tt })
host_key_is HostBound bytes x small read =
    let a = bind_ok (text_at bytes) if_key x read in
    let made : Option (List ℕ) × List ℕ = (Some a.0.0, a.0.1) in
    let g = guard_ok (is_ok (public_key_of a.0.0)) HostKey made x a.2 in
    let text = text_is bytes a.0 small a.1 in
    subst (λ (y : Option (List ℕ) × List ℕ). IsHostField HostBound bytes y.0 y.1) g.1
    (record { parts = text.parts; name = refl; is = (text.small, key_is a.0.0 text.inside g.0) })
