-- There is a place for one more ask where what was done before says so.
use Rattle.std.proofs.Common.{◌≡◌, ℕ, ◌+◌, ◌&&◌, ◌||◌, Bool, true, false, not, List, [], ◌∷◌, length, map, nat_lt, nat_le, refl, ap, arith, sym, ◌∙◌}
use Rattle.std.specs.List.{sum_by}
use Rattle.std.proofs.lemmas.Bool.Decides.{nat_tests}
use Rattle.std.proofs.lemmas.List.{length-map}
use Rattle.std.proofs.lemmas.List.Sums.{sum_by-cons}
use Rattle.helper_link.specs.HelperLink.{asked_len, is_full}
use Rattle.helper_link.specs.declared.ask.Ask.{Ask}
use Rattle.agent_laws.specs.Dues.{is_place}

-- an unanswered ask, as the history has it
abbrev pub part_of : Ask → ℕ × ℕ
part_of one = (one.number, one.size)

-- and all of them
abbrev pub parts_of : List Ask → List (ℕ × ℕ)
parts_of asks = map part_of asks

sums : (asks : List Ask) → sum_by (λ (one : ℕ × ℕ). one.1) (parts_of asks) ≡ asked_len asks
sums [] = refl
sums (one ∷ asks) =
    sum_by-cons (λ (part : ℕ × ℕ). part.1) (part_of one) (parts_of asks)
    ∙ ap (λ (n : ℕ). one.size + n) (sums asks) ∙ sym (sum_by-cons (λ (ask : Ask). ask.size) one asks)

-- the tests are one
tests : (count len : ℕ) → (nat_lt count 256 && nat_lt len 8388608) ≡ not (nat_lt 255 count || nat_le 8388608 len)
tests count len = by_both (nat_lt count 256) (nat_lt len 8388608) refl refl
  where
    by_both : (few light : Bool) → nat_lt count 256 ≡ few → nat_lt len 8388608 ≡ light
        → (few && light) ≡ not (nat_lt 255 count || nat_le 8388608 len)
    by_both true true few light =
        let many : nat_lt 255 count ≡ false = grind (arith, nat_tests) in
        let heavy : nat_le 8388608 len ≡ false = grind (arith, nat_tests) in
        rw (many, heavy) refl
    by_both true false few light =
        let many : nat_lt 255 count ≡ false = grind (arith, nat_tests) in
        let heavy : nat_le 8388608 len ≡ true = grind (arith, nat_tests) in
        rw (many, heavy) refl
    by_both false light few lighter =
        let many : nat_lt 255 count ≡ true = grind (arith, nat_tests) in
        rw many refl

pub place-same : (asks : List Ask) → is_place (parts_of asks) ≡ not (is_full asks)
place-same asks =
    ap (λ (n : ℕ). nat_lt n 256 && nat_lt (sum_by (λ (one : ℕ × ℕ). one.1) (parts_of asks)) 8388608) (length-map asks part_of)
    ∙ ap (λ (n : ℕ). nat_lt (length asks) 256 && nat_lt n 8388608) (sums asks)
    ∙ tests (length asks) (asked_len asks)
