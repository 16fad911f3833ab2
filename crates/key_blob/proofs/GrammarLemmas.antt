-- The two directions for fields and names: what is read is what the table says, and what the table says is read.
use Rattle.std.proofs.Common.{◌≡◌, ℕ, ◌-◌, ◌^◌, ◌<◌, ◌≤◌, Bool, true, false, cond, eqb, List, [], ◌∷◌, ◌++◌, length, take, Option, Some, Result, Ok, Err, refl, sym, ap, subst, ◌∙◌, append_assoc, arith}
use Rattle.std.specs.Prelude.{find, nat_lt}
use Rattle.std.specs.Option.{ok_or}
use Rattle.std.specs.Str.{bytes_eq}
use Rattle.std.proofs.lemmas.Bool.Decides.{Decides-eqb, nat_tests}
use Rattle.std.proofs.lemmas.List.{length-append, take_at}
use Rattle.std.proofs.lemmas.Slice.Eq.{bytes_eq-Decides}
use Rattle.wire_text.specs.Wire.{IsBytes, string}
use Rattle.wire_core.specs.Fields.{string_at}
use Rattle.wire_core.proofs.Theorems.{IsFront, string_is_front, string_at-string}
use Rattle.key_blob.specs.declared.fault.KeyFault.{KeyFault}
use Rattle.key_blob.specs.declared.fault.KeyFault.TheVariants.{Short, UnknownType, BadLength, Mismatch}
use Rattle.key_blob.specs.declared.form.Form.{Form}
use Rattle.key_blob.specs.declared.form.Form.TheVariants.{Plain, Certified}
use Rattle.key_blob.specs.declared.kind.KeyKind.TheVariants.{Ed25519, Rsa, Nistp256, Nistp384, Nistp521, StandIn}
use Rattle.key_blob.specs.Digits.{digits_of}
use Rattle.key_blob.specs.KeyTypes.{Field, any, number, sized, text, IsListed, type_of, forms, form_named}
use Rattle.wire_core.specs.Readings.{◌>>=◌}
use Rattle.key_blob.specs.Reading.{IsContent, AreContents, strings, checked, field_at, fields_at, after_fields, form_at, taken}
use Rattle.wire_core.proofs.ReadingLemmas.{bind_ok, guard_ok, ok_or_ok}
use Rattle.key_blob.proofs.ReadingLemmas.{with_content, rest_of}
use Rattle.key_blob.proofs.TypeLemmas.{name_is_short}

abbrev done : List ℕ × List ℕ → Result (List ℕ × List ℕ) KeyFault
done found = Ok found

done_is : (x y : List ℕ × List ℕ) → done x ≡ done y → x ≡ y
done_is x y e = cc

-- two texts in front of a rest
pub IsFront-append : (bytes s t middle rest : List ℕ) → IsFront bytes s middle → IsFront middle t rest → IsFront bytes (s ++ t) rest
IsFront-append bytes s t middle rest first second = record {
  parts = first.parts ∙ ap (λ (left : List ℕ). s ++ left) second.parts ∙ sym (append_assoc s t rest);
  left = second.left;
}

-- ---- a field

within : (b : Bool) (found x : List ℕ × List ℕ) → cond b (Err BadLength) (Ok found) ≡ Ok x → (b ≡ false) × (found ≡ x)
within true found x e = absurd cc
within false found x e = (refl, done_is found x e)

checked_is : (field : Field) (found x : List ℕ × List ℕ) → checked field found ≡ Ok x → (found ≡ x) × IsContent field found.0
checked_is any found x e = (done_is found x e, tt)
checked_is number found x e =
    let g = within (nat_lt 16384 (digits_of found.0)) found x e in
    (g.1, grind (arith, nat_tests))
checked_is (sized len) found x e =
    let g = guard_ok (eqb (length found.0) len) BadLength found x e in
    (g.1, (Decides-eqb (length found.0) len).0 g.0)
checked_is (text bytes) found x e =
    let g = guard_ok (bytes_eq found.0 bytes) Mismatch found x e in
    (g.1, (bytes_eq-Decides found.0 bytes).0 g.0)

checked_again : (field : Field) (found : List ℕ × List ℕ) → IsContent field found.0 → checked field found ≡ Ok found
checked_again any found fits = refl
checked_again number found fits =
    let test : nat_lt 16384 (digits_of found.0) ≡ false = grind (arith, nat_tests) in
    rw test refl
checked_again (sized len) found fits = rw ((Decides-eqb (length found.0) len).1 fits) refl
checked_again (text bytes) found fits = rw ((bytes_eq-Decides found.0 bytes).1 fits) refl

-- a content that a field may hold, at the front of bytes
pub record IsFieldFront (field : Field) (bytes content rest : List ℕ) : Type 0 where
  pub front : IsFront bytes (string content) rest
  pub small : length content < 2 ^ 32
  pub fits : IsContent field content

pub field_is_front : (field : Field) (bytes content rest : List ℕ) → IsBytes bytes → field_at field bytes ≡ Ok (content, rest) → IsFieldFront field bytes content rest
unfolding field_at
field_is_front field bytes content rest small read =
    let a = bind_ok (ok_or (string_at bytes) Short) (checked field) (content, rest) read in
    let found = a.0 in
    let taken = ok_or_ok (string_at bytes) Short found a.1 in
    let c = checked_is field found (content, rest) a.2 in
    let f = string_is_front bytes found.0 found.1 small taken in
    subst (λ (x : List ℕ × List ℕ). IsFieldFront field bytes x.0 x.1) c.0 (record { front = f.0; small = f.1; fits = c.1 })

pub field_again : (field : Field) (content rest : List ℕ) → length content < 2 ^ 32 → IsContent field content → field_at field (string content ++ rest) ≡ Ok (content, rest)
unfolding field_at
field_again field content rest small fits = rw (string_at-string content rest small) (checked_again field (content, rest) fits)

-- ---- fields

pub fields_are_front : (fields : List Field) (bytes : List ℕ) (x : List (List ℕ) × List ℕ) → IsBytes bytes → fields_at fields bytes ≡ Ok x →
    IsFront bytes (strings x.0) x.1 × AreContents fields x.0
unfolding fields_at
fields_are_front [] bytes x small read =
    let start : List (List ℕ) × List ℕ = ([], bytes) in
    let same : start ≡ x = cc in
    subst (λ (y : List (List ℕ) × List ℕ). IsFront bytes (strings y.0) y.1 × AreContents [] y.0) same (record { parts = refl; left = small }, tt)
fields_are_front (field ∷ fields) bytes x small read =
    let a = bind_ok (field_at field bytes) (λ first. fields_at fields first.1 >>= with_content first.0) x read in
    let b = bind_ok (fields_at fields a.0.1) (with_content a.0.0) x a.2 in
    let first = field_is_front field bytes a.0.0 a.0.1 small a.1 in
    let others = fields_are_front fields a.0.1 b.0 first.front.left b.1 in
    let made : List (List ℕ) × List ℕ = (a.0.0 ∷ b.0.0, b.0.1) in
    let same : made ≡ x = cc in
    subst (λ (y : List (List ℕ) × List ℕ). IsFront bytes (strings y.0) y.1 × AreContents (field ∷ fields) y.0) same (
      IsFront-append bytes (string a.0.0) (strings b.0.0) a.0.1 b.0.1 first.front others.0,
      (first.small, first.fits, others.1),
    )

pub fields_again : (fields : List Field) (contents : List (List ℕ)) (rest : List ℕ) → AreContents fields contents →
    fields_at fields (strings contents ++ rest) ≡ Ok (contents, rest)
unfolding fields_at
fields_again [] [] rest fits = refl
fields_again [] (content ∷ contents) rest fits = absurd fits
fields_again (field ∷ fields) [] rest fits = absurd fits
fields_again (field ∷ fields) (content ∷ contents) rest fits =
    ap (fields_at (field ∷ fields)) (append_assoc (string content) (strings contents) rest)
    ∙ rw (field_again field content (strings contents ++ rest) fits.0 fits.1, fields_again fields contents rest fits.2) refl

-- the bytes in front of a rest
pub taken-append : (bytes front rest : List ℕ) → bytes ≡ front ++ rest → taken bytes rest ≡ front
taken-append bytes front rest parts =
    let size : length front ≡ length bytes - length rest = omega (arith, ap length parts, length-append front rest) in
    ap (take (length bytes - length rest)) parts ∙ take_at front rest (length bytes - length rest) size

-- contents that the fields may hold, at the front of bytes
pub record AreFieldsFront (fields : List Field) (bytes rest : List ℕ) : Type 0 where
  pub contents : List (List ℕ)
  pub fit : AreContents fields contents
  pub front : IsFront bytes (strings contents) rest
  pub whole : taken bytes rest ≡ strings contents

pub passed_are_front : (fields : List Field) (bytes rest : List ℕ) → IsBytes bytes → after_fields fields bytes ≡ Ok rest → AreFieldsFront fields bytes rest
unfolding after_fields
passed_are_front fields bytes rest small read =
    let a = bind_ok (fields_at fields bytes) rest_of rest read in
    let f = fields_are_front fields bytes a.0 small a.1 in
    let same : a.0.1 ≡ rest = cc in
    let front = subst (λ (r : List ℕ). IsFront bytes (strings a.0.0) r) same f.0 in
    record { contents = a.0.0; fit = f.1; front = front; whole = taken-append bytes (strings a.0.0) rest front.parts }

pub passed_again : (fields : List Field) (contents : List (List ℕ)) (rest : List ℕ) → AreContents fields contents →
    after_fields fields (strings contents ++ rest) ≡ Ok rest
unfolding after_fields
passed_again fields contents rest fits = rw (fields_again fields contents rest fits) refl

-- what is left behind fields is no longer than all
pub rest_is_within : (fields : List Field) (bytes start rest : List ℕ) → IsBytes bytes → bytes ≡ start → after_fields fields start ≡ Ok rest → length rest ≤ length bytes
rest_is_within fields bytes start rest small start_is read =
    let passed = passed_are_front fields bytes rest small (ap (after_fields fields) start_is ∙ read) in
    omega (arith, ap length passed.front.parts, length-append (strings passed.contents) rest)

-- ---- the name of a type

-- the type is one of the table, and has the name
abbrev IsNamed : List ℕ → Form → Type 0
IsNamed name form = IsListed form × (bytes_eq (type_of form).name name ≡ true)

abbrev AreListed : List Form → Type 0
AreListed [] = Unit {0}
AreListed (form ∷ forms) = IsListed form × AreListed forms

named_by : (b : Bool) (first form : Form) (name : List ℕ) (others : Option Form) → IsListed first → bytes_eq (type_of first).name name ≡ b →
    (others ≡ Some form → IsNamed name form) → cond b (Some first) others ≡ Some form → IsNamed name form
named_by true first form name others listed is later found =
    let same : first ≡ form = cc in
    subst (IsNamed name) same (listed, is)
named_by false first form name others listed is later found = later found

named_in : (all : List Form) (name : List ℕ) (form : Form) → AreListed all → find (λ f. bytes_eq (type_of f).name name) all ≡ Some form → IsNamed name form
named_in [] name form listed e = absurd cc
named_in (first ∷ all) name form listed e =
    named_by (bytes_eq (type_of first).name name) first form name (find (λ f. bytes_eq (type_of f).name name) all) listed.0 refl (named_in all name form listed.1) e

all_listed : AreListed forms
all_listed = (tt, (tt, (tt, (tt, (tt, (tt, (tt, (tt, (tt, (tt, (tt, tt)))))))))))

form_named_is : (name : List ℕ) (form : Form) → form_named name ≡ Some form → IsListed form × ((type_of form).name ≡ name)
unfolding form_named
form_named_is name form e =
    let named = named_in forms name form all_listed e in
    (named.0, (bytes_eq-Decides (type_of form).name name).0 named.1)

pub form_named-name : (form : Form) → IsListed form → form_named (type_of form).name ≡ Some form
unfolding form_named
form_named-name (Plain Ed25519) listed = refl
form_named-name (Plain Rsa) listed = refl
form_named-name (Plain Nistp256) listed = refl
form_named-name (Plain Nistp384) listed = refl
form_named-name (Plain Nistp521) listed = refl
form_named-name (Plain StandIn) listed = refl
form_named-name (Certified Ed25519) listed = refl
form_named-name (Certified Rsa) listed = refl
form_named-name (Certified Nistp256) listed = refl
form_named-name (Certified Nistp384) listed = refl
form_named-name (Certified Nistp521) listed = refl
form_named-name (Certified StandIn) listed = absurd listed

-- the name of a type of the table, at the front of bytes
pub record IsNameFront (bytes : List ℕ) (form : Form) (rest : List ℕ) : Type 0 where
  pub listed : IsListed form
  pub front : IsFront bytes (string (type_of form).name) rest

pub form_is_front : (bytes : List ℕ) (x : Form × List ℕ) → IsBytes bytes → form_at bytes ≡ Ok x → IsNameFront bytes x.0 x.1
unfolding form_at
form_is_front bytes x small read =
    let a = bind_ok (ok_or (string_at bytes) Short) (λ name. ok_or (form_named name.0) UnknownType >>= λ form. Ok (form, name.1)) x read in
    let b = bind_ok (ok_or (form_named a.0.0) UnknownType) (λ form. Ok (form, a.0.1)) x a.2 in
    let front = string_is_front bytes a.0.0 a.0.1 small (ok_or_ok (string_at bytes) Short a.0 a.1) in
    let named = form_named_is a.0.0 b.0 (ok_or_ok (form_named a.0.0) UnknownType b.0 b.1) in
    let made : Form × List ℕ = (b.0, a.0.1) in
    let same : made ≡ x = cc in
    subst (λ (y : Form × List ℕ). IsNameFront bytes y.0 y.1) same
    (record { listed = named.0; front = subst (λ (n : List ℕ). IsFront bytes (string n) a.0.1) (sym named.1) front.0 })

pub form_again : (form : Form) (rest : List ℕ) → IsListed form → form_at (string (type_of form).name ++ rest) ≡ Ok (form, rest)
unfolding form_at
form_again form rest listed = rw (string_at-string (type_of form).name rest (name_is_short form), form_named-name form listed) refl
