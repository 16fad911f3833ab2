-- The tests of a host certificate against the relations.
use Rattle.std.proofs.Common.{◌≡◌, ◌==◌, ℕ, zero, suc, ◌^◌, ◌<◌, ◌≤◌, Bool, true, false, List, [], ◌∷◌, ◌++◌, length, Option, Some, None, refl, sym, subst, arith}
use Rattle.std.specs.Prelude.{◌||◌, Decides}
use Rattle.std.proofs.lemmas.Bool.Decides.{nat_tests}
use Rattle.pattern_core.specs.Patterns.{Matches, is_match, is_nothing}
use Rattle.pattern_core.proofs.Theorems.{Matches_from_is_match, is_match_from_Matches}
use Rattle.wire_text.specs.Wire.{IsBytes, string}
use Rattle.wire_core.specs.Fields.{string_len, string_at}
use Rattle.wire_core.proofs.Theorems.{string_is_front}
use Rattle.key_blob.specs.Principals.{NamesHost, this}
use Rattle.key_blob.specs.Validity.{named_in, names_host_up_to, names_host}
use Rattle.key_blob.proofs.PrincipalLemmas.{string_shorter, NamesHost-behind, no_name}

-- either the string at the front matches, or one behind it does
front_or_later : (host bytes pattern rest : List ℕ) (matched later : Bool)
    → bytes ≡ string pattern ++ rest → length pattern < 2 ^ 32
    → Decides matched (Matches host pattern) → Decides later (NamesHost host rest)
    → Decides (matched || later) (NamesHost host bytes)
front_or_later host bytes pattern rest true later parts small front behind =
    (λ h. subst (NamesHost host) (sym parts) (this host pattern rest small (front.0 refl)), λ n. refl)
front_or_later host bytes pattern rest false later parts small front behind =
    let step = NamesHost-behind host bytes pattern rest parts small (λ m. let is = front.1 m in cc) in
    (λ h. step.1 (behind.0 h), λ n. behind.1 (step.0 n))

-- a pattern's test
match_decides : (host pattern : List ℕ) → Decides (is_match host pattern) (Matches host pattern)
match_decides host pattern = (λ h. Matches_from_is_match pattern host h, λ m. is_match_from_Matches m)

-- one string is looked at, and then those behind it
names_step : (host bytes : List ℕ) (test : List ℕ → Bool) (found : Option (List ℕ × List ℕ))
    → string_at bytes ≡ found → IsBytes bytes
    → ((rest : List ℕ) → length rest < length bytes → IsBytes rest → Decides (test rest) (NamesHost host rest))
    → Decides (named_in host found test) (NamesHost host bytes)
names_step host bytes test None is small each = (λ h. absurd cc, λ n. absurd (no_name host bytes is n))
names_step host bytes test (Some found) is small each =
    let front = string_is_front bytes found.0 found.1 small is in
    front_or_later host bytes found.0 found.1 (is_match host found.0) (test found.1) front.0.parts front.1
    (match_decides host found.0) (each found.1 (string_shorter bytes found is) front.0.left)

-- no string stands in no bytes
none_named : (host bytes : List ℕ) → length bytes ≤ 0 → NamesHost host bytes → ⊥
unfolding string_at string_len
none_named host [] none named = no_name host [] refl named
none_named host (byte ∷ bytes) none named = absurd (omega (arith, none))

-- as many strings as there are bytes are all of them
names_up_to_decides : (count : ℕ) (host bytes : List ℕ) → length bytes ≤ count → IsBytes bytes
    → Decides (names_host_up_to count host bytes) (NamesHost host bytes)
unfolding names_host_up_to
names_up_to_decides zero host bytes enough small =
    (λ h. absurd cc, λ n. absurd (none_named host bytes enough n))
names_up_to_decides (suc count) host bytes enough small =
    names_step host bytes (names_host_up_to count host) (string_at bytes) refl small
    (λ rest shorter left. names_up_to_decides count host rest (omega (arith, shorter, enough)) left)

-- `names_host` is the test for `NamesHost`
pub names_host_decides : (host bytes : List ℕ) → IsBytes bytes
    → Decides (names_host host bytes) (NamesHost host bytes)
names_host_decides host bytes small = names_up_to_decides (length bytes) host bytes (omega arith) small

-- the empty text's test, by its length
pub nothing_len : (bytes : List ℕ) → is_nothing bytes ≡ (length bytes == 0)
nothing_len [] = refl
nothing_len (byte ∷ bytes) = grind (arith, nat_tests)
