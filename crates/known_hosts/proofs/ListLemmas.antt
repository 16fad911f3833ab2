-- Lists of patterns, by the test and by the relation.
use Rattle.std.proofs.Common.{◌≡◌, ◌↔◌, ℕ, Bool, true, false, List, refl, sym}
use Rattle.std.specs.Prelude.{IsTrue}
use Rattle.pattern_core.specs.PatternLists.{MatchesList, lowered, some_element, accepts_host, rejects_host}
use Rattle.pattern_core.proofs.ListLemmas.{MatchesList-tests}
use Rattle.known_hosts.specs.Hosts.{is_in_list}

-- the test takes in the host exactly where the list does
pub in_list : (host patterns : List ℕ)
    → (is_in_list host patterns ≡ true) ↔ MatchesList host patterns
in_list host patterns =
    MatchesList-tests host patterns (some_element (accepts_host (lowered host)) patterns) (some_element (rejects_host (lowered host)) patterns) refl refl

-- two tests of one fact
same_test : (a b : Bool) (P : Type 0) → (a ≡ true) ↔ P → (b ≡ true) ↔ P → a ≡ b
same_test true b P x y = sym (y.1 (x.0 refl))
same_test false true P x y = x.1 (y.0 refl)
same_test false false P x y = refl

pub list_tested : (host patterns : List ℕ) (found : Bool)
    → IsTrue found ↔ MatchesList host patterns → found ≡ is_in_list host patterns
list_tested host patterns found is = same_test found (is_in_list host patterns) (MatchesList host patterns) is (in_list host patterns)
