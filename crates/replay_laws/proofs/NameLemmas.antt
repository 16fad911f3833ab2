-- Names of passphrases are theirs alone, and those that a recorder gives.
use Rattle.std.proofs.Common.{◌≡◌, ℕ, suc, ◌+◌, ◌<◌, ◌≤◌, ◌^◌, List, [], ◌∷◌, ◌++◌, length, drop, replicate, refl, sym, ap, ◌∙◌, arith, append_assoc, Bool, true, cond, if◌then◌else◌, Option, Some, None, get_or}
use Rattle.std.specs.Prelude.{is_some, unwrap_or}
use Rattle.std.specs.Fmt.{decimal}
use Rattle.std.specs.List.{position, position_from}
use Rattle.std.specs.Str.{bytes_eq}
use Rattle.std.proofs.lemmas.Bool.Decides.{nat_tests}
use Rattle.std.proofs.lemmas.Fmt.{decimal_injective, decimal_nonempty, length-decimal-le}
use Rattle.std.proofs.lemmas.Iterator.Adapters.{position_from-zero}
use Rattle.std.proofs.lemmas.List.{drop_at, length-append, length-replicate}
use Rattle.std.proofs.lemmas.List.Quantifiers.{position-Some}
use Rattle.std.proofs.lemmas.Slice.Eq.{bytes_eq-Decides}
use Rattle.redact_core.specs.Redaction.{noted, number_of}
use Rattle.replay_laws.specs.Naming.{IsFrontOf, name_by, name_in}
use Rattle.replay_laws.specs.Redacting.{IsRenaming}

-- ---- places

position_is : {X : Type 0} (p : X → Bool) (xs : List X) → position p xs ≡ position_from p 0 xs
position_is p xs = position_from-zero p xs

-- what stands there stays there, whatever follows
from_front : {X : Type 0} (p : X → Bool) (i k : ℕ) (xs ys : List X) → position_from p i xs ≡ Some k
    → position_from p i (xs ++ ys) ≡ Some k
from_front p i k [] ys found = absurd (cc)
from_front p i k (x ∷ xs) ys found =
    let later = from_front p (i + 1) k xs ys in
    grind (arith, nat_tests)

-- what stands nowhere in front is found behind it
from_behind : {X : Type 0} (p : X → Bool) (i : ℕ) (xs ys : List X) (y : X)
    → position_from p i xs ≡ None → p y ≡ true
    → position_from p i (xs ++ y ∷ ys) ≡ Some (i + length xs)
from_behind p i [] ys y none is =
    ap (λ b. cond b (Some i) (position_from p (i + 1) ys)) is ∙ ap Some (omega arith)
from_behind p i (x ∷ xs) ys y none is =
    let later : position_from p (i + 1) xs ≡ None → position_from p (i + 1) (xs ++ y ∷ ys) ≡ Some ((i + 1) + length xs) =
    λ there. from_behind p (i + 1) xs ys y there is in
    grind (arith, nat_tests)

position-front : {X : Type 0} (p : X → Bool) (k : ℕ) (xs ys : List X) → position p xs ≡ Some k
    → position p (xs ++ ys) ≡ Some k
position-front p k xs ys found =
    position_is p (xs ++ ys) ∙ from_front p 0 k xs ys (sym (position_is p xs) ∙ found)

position-behind : {X : Type 0} (p : X → Bool) (xs ys : List X) (y : X) → position p xs ≡ None
    → p y ≡ true
    → position p (xs ++ y ∷ ys) ≡ Some (length xs)
position-behind p xs ys y none is =
    position_is p (xs ++ y ∷ ys) ∙ from_behind p 0 xs ys y (sym (position_is p xs) ∙ none) is ∙ ap Some (omega arith)

-- ---- a name is of one passphrase

same_bytes : (bytes : List ℕ) → bytes_eq bytes bytes ≡ true
same_bytes bytes = (bytes_eq-Decides bytes bytes).1 refl

module _ (all : List (List ℕ)) (few : length all < 2 ^ 64) where
  -- a place and the passphrase at it
  at_place : (passphrase : List ℕ) (place : ℕ) → position (bytes_eq passphrase) all ≡ Some place
      → (place < length all) × (passphrase ≡ get_or all place [])
  at_place passphrase place found =
      let is = position-Some (bytes_eq passphrase) all place [] found in
      (is.0, (bytes_eq-Decides passphrase (get_or all place [])).0 is.1)

  short_number : (place : ℕ) → place < length all → length (decimal (suc place)) ≤ 20
  short_number place within =
      length-decimal-le 20 (suc place) (omega arith) (omega (arith, within, few)) (omega (arith, within, few))

  long_name : (passphrase : List ℕ) → length (replicate 21 0 ++ passphrase) ≡ 21 + length passphrase
  long_name passphrase =
      length-append (replicate 21 0) passphrase
      ∙ ap (λ (n : ℕ). n + length passphrase) (length-replicate {A = ℕ} 21 0)

  unlong : (passphrase : List ℕ) → drop 21 (replicate 21 0 ++ passphrase) ≡ passphrase
  unlong passphrase = drop_at (replicate 21 0) passphrase 21 (length-replicate {A = ℕ} 21 0)

  -- names of passphrases that aren't empty
  by_places : (a b : List ℕ) (one other : Option ℕ) → position (bytes_eq a) all ≡ one
      → position (bytes_eq b) all ≡ other → name_by one a ≡ name_by other b → a ≡ b
  by_places a b (Some i) (Some j) a_is b_is same =
      let first = at_place a i a_is in
      let second = at_place b j b_is in
      let places : suc i ≡ suc j =
      decimal_injective (suc i) (suc j) (omega (arith, first.0, few)) (omega (arith, second.0, few)) same in
      let place : i ≡ j = omega (arith, places) in
      first.1 ∙ ap (λ (n : ℕ). get_or all n []) place ∙ sym second.1
  by_places a b (Some i) None a_is b_is same =
      absurd (omega (arith, short_number i (at_place a i a_is).0, ap length same, long_name b))
  by_places a b None (Some j) a_is b_is same =
      absurd (omega (arith, short_number j (at_place b j b_is).0, ap length same, long_name a))
  by_places a b None None a_is b_is same = sym (unlong a) ∙ ap (drop 21) same ∙ unlong b

  name_some : (passphrase : List ℕ) (place : Option ℕ) → position (bytes_eq passphrase) all ≡ place
      → 0 < length (name_by place passphrase)
  name_some passphrase (Some place) found =
      decimal_nonempty (suc place) (omega (arith, (at_place passphrase place found).0, few))
  name_some passphrase None found = omega (arith, long_name passphrase)

  some_name : (byte : ℕ) (bytes : List ℕ) → name_in all (byte ∷ bytes) ≡ [] → ⊥
  some_name byte bytes none =
      omega (arith, name_some (byte ∷ bytes) (position (bytes_eq (byte ∷ bytes)) all) refl, ap length none)

  one_to_one : (a b : List ℕ) → name_in all a ≡ name_in all b → a ≡ b
  one_to_one [] [] same = refl
  one_to_one [] (byte ∷ bytes) same = absurd (some_name byte bytes (sym same))
  one_to_one (byte ∷ bytes) [] same = absurd (some_name byte bytes same)
  one_to_one (byte ∷ bytes) (other ∷ others) same =
      by_places (byte ∷ bytes) (other ∷ others) (position (bytes_eq (byte ∷ bytes)) all)
      (position (bytes_eq (other ∷ others)) all) refl refl same

  pub names_rename : IsRenaming (name_in all)
  names_rename = record { one_to_one = one_to_one; empty = refl }

-- ---- a recorder's numbers are these names

-- the place of a passphrase that is noted is that which its number tells
noted_place : (passphrase : List ℕ) (early all : List (List ℕ)) (place : Option ℕ)
    → position (bytes_eq passphrase) early ≡ place → IsFrontOf (if is_some place then early else early ++ passphrase ∷ []) all
    → (at : ℕ) × (position (bytes_eq passphrase) all ≡ Some at) × (suc (unwrap_or place (length early)) ≡ suc at)
noted_place passphrase early all (Some place) is front =
    (place, ap (position (bytes_eq passphrase)) front.whole ∙ position-front (bytes_eq passphrase) place early front.later is, refl)
noted_place passphrase early all None is front = (
  length early,
  ap (position (bytes_eq passphrase)) (front.whole ∙ append_assoc early (passphrase ∷ []) front.later)
      ∙ position-behind (bytes_eq passphrase) early front.later passphrase is (same_bytes passphrase),
  refl,
)

pub number_is_name : (byte : ℕ) (bytes : List ℕ) (early all : List (List ℕ))
    → IsFrontOf (noted (byte ∷ bytes) early) all
    → decimal (number_of (byte ∷ bytes) early) ≡ name_in all (byte ∷ bytes)
number_is_name byte bytes early all front =
    let found = noted_place (byte ∷ bytes) early all (position (bytes_eq (byte ∷ bytes)) early) refl front in
    ap decimal found.2 ∙ sym (ap (λ place. name_by place (byte ∷ bytes)) found.1)

-- the number of a passphrase that was noted has at most 20 digits
pub number_is_short : (byte : ℕ) (bytes : List ℕ) (early all : List (List ℕ)) → length all < 2 ^ 64
    → IsFrontOf (noted (byte ∷ bytes) early) all → length (decimal (number_of (byte ∷ bytes) early)) ≤ 20
number_is_short byte bytes early all few front =
    let found = noted_place (byte ∷ bytes) early all (position (bytes_eq (byte ∷ bytes)) early) refl front in
    omega
    (arith, short_number all few found.0 (at_place all few (byte ∷ bytes) found.0 found.1).0, ap (λ (n : ℕ). length (decimal n)) found.2)
