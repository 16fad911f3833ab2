-- Tests that are joined.
use Rattle.std.proofs.Common.{◌≡◌, ◌⊎◌, inl, inr, Bool, true, false, refl, sym, ◌&&◌, ◌||◌, not, if◌then◌else◌}
pub use Rattle.std.proofs.lemmas.Bool.{and_from as both_and, not_from_false as false_not, or_left, or_right}

-- both hold
pub and_both : (here there : Bool) → (here && there) ≡ true → (here ≡ true) × (there ≡ true)
and_both true there both = (refl, both)
and_both false there both = cc

-- the one that holds leaves the other
pub and_true : (here there : Bool) → there ≡ true → (here && there) ≡ here
and_true true there is = is
and_true false there is = refl

-- the one that doesn't hold leaves the other
pub or_first : (here there : Bool) → there ≡ false → (here || there) ≡ true → here ≡ true
or_first true there never is = refl
or_first false there never is = cc

-- one holds
pub or_either : (here there : Bool) → (here || there) ≡ true → (here ≡ true) ⊎ (there ≡ true)
or_either true there is = inl refl
or_either false there is = inr is

-- a test that doesn't hold where its opposite does
pub not_true : (test : Bool) → not test ≡ true → test ≡ false
not_true true is = cc
not_true false is = refl

-- one test in another
pub both_if : {T : Type 0} (here able : Bool) (there other : T)
    → (if able then (if here then there else other) else other) ≡ (if here && able then there else other)
both_if true true there other = refl
both_if true false there other = refl
both_if false true there other = refl
both_if false false there other = refl

pub or_assoc : (a b c : Bool) → ((a || b) || c) ≡ (a || (b || c))
or_assoc true b c = refl
or_assoc false b c = refl

-- no test holds and doesn't
pub true_false : (test : Bool) → test ≡ true → test ≡ false → ⊥
true_false true is isnt = cc
true_false false is isnt = cc

-- a test is another where each leads to the other
pub alike : (a b : Bool) → (a ≡ true → b ≡ true) → (b ≡ true → a ≡ true) → a ≡ b
alike true b there back = sym (there refl)
alike false true there back = back refl
alike false false there back = refl

-- where neither holds, none of both does
pub neither : (a b : Bool) → a ≡ false → b ≡ false → (a || b) ≡ false
neither true b first second = absurd (cc)
neither false b first second = second
