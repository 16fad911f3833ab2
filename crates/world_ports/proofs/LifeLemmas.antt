-- Lemmas on specs/Life.antt: a number that is out of range stays so.
use Rattle.std.proofs.Common.{◌≡◌, ◌+◌, ◌-◌, ◌*◌, ◌^◌, ◌≤◌, true, false, ℕ, List, [], ◌∷◌, Option, Some, None, IfSome, if◌then◌else◌, unwrap_or, arith}
use Rattle.std.proofs.lemmas.Grind.{common_steps}
use Rattle.std.proofs.Math.Nat.{mul-le-mul_left}
use Rattle.std.specs.Char.{is_ascii_digit, to_ascii_lowercase}
use Rattle.world_ports.specs.Life.{in_range, part_and_rest, seconds_of_unit, unit_of, sum_of}
use Rattle.world_ports.specs.LifeParts.{sum_from}

-- what is at least the greater one is at least the smaller one
at_least-less : (a b : ℕ) → a ≤ b → (o : Option ℕ) → IfSome o (λ s. b ≤ s) → IfSome o (λ s. a ≤ s)
at_least-less a b less None some = tt
at_least-less a b less (Some s) some = omega arith

-- each unit has a second at least
some_seconds : (letter : ℕ) → IfSome (seconds_of_unit letter) (λ u. 1 ≤ u)
some_seconds letter = grind (arith, common_steps)

-- a part is its number at least
part-at_least : (n : ℕ) (unit rest : Option ℕ) → IfSome unit (λ u. 1 ≤ u) → IfSome (part_and_rest (Some n) unit rest) (λ s. n ≤ s)
part-at_least n None rest some = tt
part-at_least n (Some u) None some = tt
part-at_least n (Some u) (Some rest) some = let product : n * 1 ≤ n * u = mul-le-mul_left n some in omega (arith, product)

-- the parts of a text add up to the begun number at least
sum_of-at_least : (n : ℕ) (text : List ℕ) → IfSome (sum_of (Some n) text) (λ s. n ≤ s)
sum_of-at_least n [] = omega arith
sum_of-at_least n (byte ∷ text) =
    let more : IfSome (sum_of (Some (n * 10 + (byte - 48))) text) (λ s. n ≤ s) =
    at_least-less n (n * 10 + (byte - 48)) (omega arith) (sum_of (Some (n * 10 + (byte - 48))) text) (sum_of-at_least (n * 10 + (byte - 48)) text) in
    let part : IfSome (part_and_rest (Some n) (unit_of byte) (sum_of None text)) (λ s. n ≤ s) =
    part-at_least n (unit_of byte) (sum_of None text) (some_seconds (to_ascii_lowercase byte)) in
    elim (is_ascii_digit byte) as (λ b. IfSome (if b then sum_of (Some (n * 10 + (byte - 48))) text else part_and_rest (Some n) (unit_of byte) (sum_of None text)) (λ s. n ≤ s)) [
      | true ↦ more
      | false ↦ part
    ]

-- no text says a lifetime behind a number that is out of range
pub sum_from-out : (n total : ℕ) (text : List ℕ) → 2 ^ 32 ≤ n → sum_from total (Some n) text ≡ None
sum_from-out n total text out = grind (arith, common_steps, sum_of-at_least n text)

-- nor one behind a digit that takes the number out of range
pub sum_from-digit_out : (total : ℕ) (number : Option ℕ) (byte : ℕ) (text : List ℕ) → is_ascii_digit byte ≡ true
    → in_range (unwrap_or number 0 * 10 + (byte - 48)) ≡ None → sum_from total number (byte ∷ text) ≡ None
sum_from-digit_out total number byte text digit none =
    let out : 2 ^ 32 ≤ unwrap_or number 0 * 10 + (byte - 48) = grind (arith, common_steps, none) in
    rw digit (sum_from-out (unwrap_or number 0 * 10 + (byte - 48)) total text out)
