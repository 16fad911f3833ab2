-- Keys and algorithms.
use Rattle.std.proofs.Common.{◌≡◌, ℕ, Bool, true, false, List, Result, Ok, Err, refl, sym, ap, ◌∙◌}
use Rattle.std.specs.Prelude.{◌↔◌, IsTrue, Contains, is_ok}
use Rattle.std.specs.List.{list_any}
use Rattle.std.specs.Str.{bytes_eq}
use Rattle.std.proofs.lemmas.List.Folds.{list_any-from_Any}
use Rattle.std.proofs.lemmas.Map.Views.{Contains-from_any}
use Rattle.std.proofs.lemmas.Slice.Eq.{bytes_eq-Decides}
use Rattle.wire_text.specs.Wire.{IsBytes}
use Rattle.key_blob.specs.PublicKeys.{KeyParts, algorithms_of, IsPublicKey, public_key_of}
use Rattle.key_blob.specs.declared.fault.KeyFault.{KeyFault}
use Rattle.key_blob.proofs.PublicLemmas.{public_is_found, public_is_read}
use Rattle.userauth_blob.specs.UserAuths.{Fits}
use Rattle.userauth_blob.specs.Reading.{fits}

-- ---- algorithms

-- the test finds the algorithm exactly where it is there
pub tested_is_there : (names : List (List ℕ)) (algorithm : List ℕ) → list_any (bytes_eq algorithm) names ≡ true → Contains names algorithm
tested_is_there names algorithm tested = Contains-from_any (λ x y same. (bytes_eq-Decides x y).0 same) algorithm names tested

pub there_is_tested : (names : List (List ℕ)) (algorithm : List ℕ) → Contains names algorithm → list_any (bytes_eq algorithm) names ≡ true
there_is_tested names algorithm has =
    list_any-from_Any (bytes_eq algorithm) names (has.0, algorithm, has.1, has.2, (bytes_eq-Decides algorithm algorithm).1 refl)

-- the answer of a test that finds the algorithm
pub tested : (names : List (List ℕ)) (algorithm : List ℕ) (found : Bool) → IsTrue found ↔ Contains names algorithm → found ≡ list_any (bytes_eq algorithm) names
tested names algorithm true is = sym (there_is_tested names algorithm (is.0 refl))
tested names algorithm false is = not_tested (list_any (bytes_eq algorithm) names) refl
  where
    not_tested : (b : Bool) → list_any (bytes_eq algorithm) names ≡ b → false ≡ b
    not_tested true e = let t = is.1 (tested_is_there names algorithm e) in absurd cc
    not_tested false e = refl

-- ---- keys

-- a key that fits, by the reading and by the grammar
fits_by : (blob algorithm : List ℕ) (read : Result KeyParts KeyFault) → IsBytes blob → public_key_of blob ≡ read → fits read algorithm ≡ true →
    Fits blob algorithm
fits_by blob algorithm (Ok key) small read fit = record {
  key = key;
  is_key = public_is_found blob key small read;
  one_of = tested_is_there (algorithms_of key) algorithm fit;
}
fits_by blob algorithm (Err fault) small read fit = absurd cc

pub fits_is : (blob algorithm : List ℕ) → IsBytes blob → fits (public_key_of blob) algorithm ≡ true → Fits blob algorithm
fits_is blob algorithm small fit = fits_by blob algorithm (public_key_of blob) small refl fit

pub fits_again : (blob algorithm : List ℕ) → Fits blob algorithm → fits (public_key_of blob) algorithm ≡ true
fits_again blob algorithm fit =
    ap (λ (read : Result KeyParts KeyFault). fits read algorithm) (public_is_read blob fit.key fit.is_key)
    ∙ there_is_tested (algorithms_of fit.key) algorithm fit.one_of

-- a readable key is a public key
key_by : (bytes : List ℕ) (read : Result KeyParts KeyFault) → IsBytes bytes → public_key_of bytes ≡ read → is_ok read ≡ true →
    (key : KeyParts) × IsPublicKey bytes key
key_by bytes (Ok key) small read ok = (key, public_is_found bytes key small read)
key_by bytes (Err fault) small read ok = absurd cc

pub key_is : (bytes : List ℕ) → IsBytes bytes → is_ok (public_key_of bytes) ≡ true → (key : KeyParts) × IsPublicKey bytes key
key_is bytes small ok = key_by bytes (public_key_of bytes) small refl ok

pub key_again : (bytes : List ℕ) (key : KeyParts) → IsPublicKey bytes key → is_ok (public_key_of bytes) ≡ true
key_again bytes key is = ap (λ (read : Result KeyParts KeyFault). is_ok read) (public_is_read bytes key is)
