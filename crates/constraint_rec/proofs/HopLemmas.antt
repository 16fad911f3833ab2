-- Hops: what is read is in the grammar, and what is in the grammar is read.
use Rattle.std.proofs.Common.{◌≡◌, ◌↔◌, ℕ, ◌+◌, ◌^◌, ◌<◌, ◌≤◌, Bool, true, false, not, cond, List, [], ◌∷◌, ◌++◌, map, length, All, Some, Result, Ok, Err, is_ok, refl, sym, ap, subst, ◌∙◌, arith, length-append, append_assoc}
use Rattle.std.specs.Option.{ok_or}
use Rattle.std.specs.List.{flat_map}
use Rattle.std.proofs.lemmas.List.Elements.{All-tail}
use Rattle.wire_text.specs.Wire.{IsBytes, boolean_of, string}
use Rattle.wire_text.proofs.WireLemmas.{length-string}
use Rattle.wire_core.specs.Fields.{boolean_at}
use Rattle.wire_core.proofs.Theorems.{string_at-string}
use Rattle.key_blob.specs.PublicKeys.{public_key_of}
use Rattle.constraint_rec.specs.declared.fault.TermFault.{TermFault}
use Rattle.constraint_rec.specs.declared.fault.TermFault.TheVariants.{Short, FromUser, FromHalf, ToHalf, Key}
use Rattle.constraint_rec.specs.declared.key_spec.KeySpec.{KeySpec}
use Rattle.constraint_rec.specs.declared.constraint.Hop.{Hop}
use Rattle.constraint_rec.specs.Hops.{SpeltKey, SpeltHop, key_text, hop_text, key_of, hop_of, IsReadable, IsFromHop, IsToHop}
use Rattle.wire_core.specs.Readings.{◌>>=◌}
use Rattle.constraint_rec.specs.HopReading.{is_empty, field_at, all_of, readable, key_at, after_reserved, hop_in, as_from, as_to}
use Rattle.wire_core.proofs.ReadingLemmas.{bind_ok, ok_or_ok}
use Rattle.constraint_rec.proofs.FieldLemmas.{unguarded, guarded, empty_is, nonempty_is, nonempty_test, field_is, reserved_is, reserved_again}
use Rattle.constraint_rec.proofs.SizeLemmas.{hop_fits}
use Rattle.constraint_rec.proofs.ElementLemmas.{IsElement, elements_are, elements_again}

-- ---- a key

-- a byte that is read
boolean_is : (bytes rest : List ℕ) (value : Bool) → IsBytes bytes → boolean_at bytes ≡ Some (value, rest) →
    (byte : ℕ) × (bytes ≡ byte ∷ rest) × (value ≡ boolean_of byte) × IsBytes rest
boolean_is [] rest value small read = absurd cc
boolean_is (byte ∷ bytes) rest value small read =
    let same : (boolean_of byte, bytes) ≡ (value, rest) = cc in
    let after : bytes ≡ rest = ap (λ (x : Bool × List ℕ). x.1) same in
    (byte, ap (λ (left : List ℕ). byte ∷ left) after, ap (λ (x : Bool × List ℕ). x.0) (sym same), subst IsBytes after (All-tail (λ b. b < 256) byte bytes small))

-- what is read is a key
pub key_is : (bytes : List ℕ) (key : KeySpec) (rest : List ℕ) → IsBytes bytes → key_at bytes ≡ Ok (key, rest) →
    IsElement key_text key_of IsReadable bytes key rest
unfolding key_at
key_is bytes key rest small read =
    let a = bind_ok (field_at bytes) (λ field. readable field >>= λ blob. ok_or (boolean_at blob.1) Short >>= λ is_ca. Ok (record { blob = blob.0; authority = is_ca.0 }, is_ca.1)) (key, rest) read in
    let b = bind_ok (readable a.0) (λ blob. ok_or (boolean_at blob.1) Short >>= λ is_ca. Ok (record { blob = blob.0; authority = is_ca.0 }, is_ca.1)) (key, rest) a.2 in
    let c = bind_ok (ok_or (boolean_at b.0.1) Short) (λ is_ca. Ok (record { blob = b.0.0; authority = is_ca.0 }, is_ca.1)) (key, rest) b.2 in
    let tested = guarded (is_ok (public_key_of a.0.0)) (Ok a.0) b.0 Key b.1 in
    let kept : a.0 ≡ b.0 = let e = tested.1 in cc in
    let field = field_is bytes a.0.0 a.0.1 small a.1 in
    let there = ok_or_ok (boolean_at b.0.1) Short c.0 c.1 in
    let byte = boolean_is a.0.1 c.0.1 c.0.0 field.left (ap (λ (x : List ℕ × List ℕ). boolean_at x.1) kept ∙ there) in
    let made : KeySpec × List ℕ = (record { blob = b.0.0; authority = c.0.0 }, c.0.1) in
    let same : made ≡ (key, rest) = let e = c.2 in cc in
    let spelt : SpeltKey = record { blob = a.0.0; is_ca = byte.0 } in
    let left : c.0.1 ≡ rest = ap (λ (x : KeySpec × List ℕ). x.1) same in
    let value : key ≡ key_of spelt =
    ap (λ (x : KeySpec × List ℕ). x.0) (sym same) ∙ ap (λ (blob : List ℕ). record { blob = blob; authority = c.0.0 }) (ap (λ (x : List ℕ × List ℕ). x.0) (sym kept))
    ∙ ap (λ (authority : Bool). record { blob = a.0.0; authority = authority }) byte.2 in
    let parts : bytes ≡ key_text spelt ++ rest =
    field.parts ∙ ap (λ (tail : List ℕ). string a.0.0 ++ tail) (byte.1 ∙ ap (λ (tail : List ℕ). byte.0 ∷ tail) left) ∙ sym (append_assoc (string a.0.0) (byte.0 ∷ []) rest) in
    record {
      spelt = spelt;
      parts = parts;
      left = subst IsBytes left byte.3;
      value = value;
      good = subst IsReadable (sym value) tested.0;
      shorter = omega (arith, ap length parts, length-append (key_text spelt) rest, length-append (string a.0.0) (byte.0 ∷ []), length-string a.0.0);
    }

-- a key is read
pub key_again : (key : SpeltKey) (rest : List ℕ) → IsReadable (key_of key) → length (key_text key) < 2 ^ 32 →
    key_at (key_text key ++ rest) ≡ Ok (key_of key, rest)
unfolding key_at
key_again key rest is short =
    let size : length (key_text key) ≡ length (string key.blob) + 1 = length-append (string key.blob) (key.is_ca ∷ []) in
    let small : length key.blob < 2 ^ 32 = omega (arith, length-string key.blob) in
    ap key_at (append_assoc (string key.blob) (key.is_ca ∷ []) rest)
    ∙ rw (string_at-string key.blob (key.is_ca ∷ rest) small, is) refl

-- ---- a hop

-- the bytes are a hop with readable keys
pub record IsHop (bytes : List ℕ) (hop : Hop) : Type 0 where
  pub spelt : SpeltHop
  pub text : bytes ≡ hop_text spelt
  pub value : hop ≡ hop_of spelt
  pub keys : All IsReadable hop.keys

-- what is read is a hop
pub hop_is : (bytes : List ℕ) (hop : Hop) → IsBytes bytes → hop_in bytes ≡ Ok hop → IsHop bytes hop
unfolding hop_in
hop_is bytes hop small read =
    let made : List ℕ → List ℕ → List KeySpec → Result Hop TermFault = λ user host keys. Ok (record { user = user; host = host; keys = keys }) in
    let a = bind_ok (field_at bytes) (λ user. field_at user.1 >>= λ host. after_reserved host.1 >>= λ rest. all_of key_at rest >>= λ keys. made user.0 host.0 keys) hop read in
    let b = bind_ok (field_at a.0.1) (λ host. after_reserved host.1 >>= λ rest. all_of key_at rest >>= λ keys. made a.0.0 host.0 keys) hop a.2 in
    let c = bind_ok (after_reserved b.0.1) (λ rest. all_of key_at rest >>= λ keys. made a.0.0 b.0.0 keys) hop b.2 in
    let d = bind_ok (all_of key_at c.0) (λ keys. made a.0.0 b.0.0 keys) hop c.2 in
    let user = field_is bytes a.0.0 a.0.1 small a.1 in
    let host = field_is a.0.1 b.0.0 b.0.1 user.left b.1 in
    let reserved = reserved_is b.0.1 c.0 host.left c.1 in
    let keys = elements_are key_at key_text key_of IsReadable key_is c.0 d.0 reserved.left d.1 in
    let same : record { user = a.0.0; host = b.0.0; keys = d.0 } ≡ hop = let e = d.2 in cc in
    record {
      spelt = record { user = a.0.0; host = b.0.0; keys = keys.spelt };
      text = user.parts ∙ ap (λ (tail : List ℕ). string a.0.0 ++ tail) (host.parts ∙ ap (λ (tail : List ℕ). string b.0.0 ++ tail)
          (reserved.parts ∙ ap (λ (tail : List ℕ). string [] ++ tail) keys.parts));
      value = sym same ∙ ap (λ (list : List KeySpec). record { user = a.0.0; host = b.0.0; keys = list }) keys.values;
      keys = subst (λ (h : Hop). All IsReadable h.keys) same keys.good;
    }

-- a key takes a byte at least
some_key : (key : SpeltKey) → 1 ≤ length (key_text key)
some_key key = omega (arith, length-append (string key.blob) (key.is_ca ∷ []))

-- a hop is read
pub hop_again : (hop : SpeltHop) → All IsReadable (map key_of hop.keys) → length (hop_text hop) < 2 ^ 32 → hop_in (hop_text hop) ≡ Ok (hop_of hop)
unfolding hop_in
hop_again hop is short =
    let keys : List ℕ = flat_map key_text hop.keys in
    let fits = hop_fits hop short in
    rw (
      string_at-string hop.user (string hop.host ++ (string [] ++ keys)) fits.user,
      string_at-string hop.host (string [] ++ keys) fits.host,
      reserved_again keys,
      elements_again key_at key_text key_of IsReadable some_key key_again hop.keys is fits.keys,
    ) refl

-- ---- the rules of a hop

-- the hop that was let through can be left
pub from_is : (hop good : Hop) → as_from hop ≡ Ok good → All IsReadable hop.keys → (hop ≡ good) × IsFromHop hop
unfolding as_from
from_is hop good read keys =
    let user = unguarded (not (is_empty hop.user)) _ good FromUser read in
    let rest = by_host (is_empty hop.host) (is_empty hop.keys) refl refl user.1 in
    (rest.0, record { no_user = empty_is hop.user (unnegated (is_empty hop.user) user.0); both = rest.1; readable = keys })
  where
    unnegated : (b : Bool) → not b ≡ false → b ≡ true
    unnegated true e = refl
    unnegated false e = absurd cc

    by_host : (h k : Bool) → is_empty hop.host ≡ h → is_empty hop.keys ≡ k →
        cond h (cond k (Ok hop) (Err FromHalf)) (cond k (Err FromHalf) (Ok hop)) ≡ Ok good → (hop ≡ good) × ((hop.host ≡ []) ↔ (hop.keys ≡ []))
    by_host true true no_host no_keys e = (cc, (λ _. empty_is hop.keys no_keys, λ _. empty_is hop.host no_host))
    by_host true false no_host some_keys e = absurd cc
    by_host false true some_host no_keys e = absurd cc
    by_host false false some_host some_keys e =
        (cc, (λ none. absurd (nonempty_is hop.host some_host none), λ none. absurd (nonempty_is hop.keys some_keys none)))

-- a hop that can be left is let through
pub from_again : (hop : Hop) → IsFromHop hop → as_from hop ≡ Ok hop
unfolding as_from
from_again hop is =
    let user : is_empty hop.user ≡ true = ap (λ (l : List ℕ). is_empty l) is.no_user in
    rw user (by_host (is_empty hop.host) (is_empty hop.keys) refl refl)
  where
    by_host : (h k : Bool) → is_empty hop.host ≡ h → is_empty hop.keys ≡ k →
        cond h (cond k (Ok hop) (Err FromHalf)) (cond k (Err FromHalf) (Ok hop)) ≡ Ok hop
    by_host true true no_host no_keys = refl
    by_host true false no_host some_keys = absurd (nonempty_is hop.keys some_keys (is.both.0 (empty_is hop.host no_host)))
    by_host false true some_host no_keys = absurd (nonempty_is hop.host some_host (is.both.1 (empty_is hop.keys no_keys)))
    by_host false false some_host some_keys = refl

-- the hop that was let through can be entered
pub to_is : (hop good : Hop) → as_to hop ≡ Ok good → All IsReadable hop.keys → (hop ≡ good) × IsToHop hop
unfolding as_to
to_is hop good read keys =
    let host = unguarded (is_empty hop.host) _ good ToHalf read in
    let some = unguarded (is_empty hop.keys) (Ok hop) good ToHalf host.1 in
    let same : hop ≡ good = let e = some.1 in cc in
    (same, record { named = nonempty_is hop.host host.0; some = nonempty_is hop.keys some.0; readable = keys })

-- a hop that can be entered is let through
pub to_again : (hop : Hop) → IsToHop hop → as_to hop ≡ Ok hop
unfolding as_to
to_again hop is = rw (nonempty_test hop.host is.named, nonempty_test hop.keys is.some) refl
