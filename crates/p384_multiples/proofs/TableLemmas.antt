-- What the sums of a table's and a row's entries stand for.
use Rattle.std.proofs.Common.{◌≡◌, ◌<◌, ℕ, zero, suc, List, ◌*◌, ◌-◌, ◌/◌, ◌%◌, ◌≤◌, ◌^◌, arith, ap, sym, ◌∙◌, ◌+◌, get_or}
use Rattle.p384_curve.specs.declared.point.Point.{Point}
use Rattle.p384_curve.specs.Encoding.{affine_x, encoded}
use Rattle.p384_curve.specs.Multiples.{choose, multiply}
use Rattle.p384_curve.specs.Points.{base, base_x, base_y, neutral, point_add}
use Rattle.wide_words.specs.Numbers.{octets}
use Rattle.curve_laws.specs.P384.{Affine, At, Infinity, IsGroupSum, StandsFor}
use Rattle.curve_laws.proofs.P384SameLemmas.{same-encoding, same-x}
use Rattle.group_laws.specs.Digits.{by_digits, sixteenfold, times}
use Rattle.group_laws.specs.Groups.{IsMultiple, no_times}
use Rattle.group_laws.proofs.DigitLemmas.{byte-at-place, front-next, front-none, front-whole}
use Rattle.group_laws.proofs.MultipleLemmas.{multiple-unique}
use Rattle.group_laws.proofs.P384GroupLemmas.{group}
use Rattle.group_laws.proofs.P384MultipleLemmas.{Stands, base-stands, formula, multiply-makes, neutral-stands, once, stands-for-point}
use Rattle.group_laws.proofs.WindowLemmas.{all-digits-stand, next-digit-stands}

-- ---- an entry is chosen

-- of two entries that are so far apart
pub chosen-is : (bit place step other whole : ℕ) (first second found p : Point) → bit ≤ 1
    → first ≡ times point_add neutral place p → second ≡ times point_add neutral other p
    → found ≡ choose bit first second → other ≡ place + step → whole ≡ place + step * bit
    → found ≡ times point_add neutral whole p
chosen-is zero place step other whole first second found p within first_is second_is found_is other_is whole_is =
    let same : place ≡ whole = omega arith in
    found_is ∙ first_is ∙ ap (λ k. times point_add neutral k p) same
chosen-is (suc zero) place step other whole first second found p within first_is second_is found_is other_is whole_is =
    let same : other ≡ whole = omega arith in
    found_is ∙ second_is ∙ ap (λ k. times point_add neutral k p) same
chosen-is (suc (suc more)) place step other whole first second found p within first_is second_is found_is other_is whole_is =
    absurd (omega arith)

-- ---- multiples of the base point

-- the base point
abbrev g : Affine
g = At base_x base_y

-- the sum of the entries stands for the multiple
sum-stands : (s : ℕ) → s < 2 ^ 384 → Stands g (by_digits point_add neutral 77 0 s base neutral) s
sum-stands s below =
    let on = stands-for-point base g base-stands in
    all-digits-stand formula g on neutral neutral-stands base (record { x = g; stands = base-stands; is = once g on })
    77 s (omega arith)

-- the one that there is
pub multiple-stands : (s : ℕ) (sum : Point) → s < 2 ^ 384 → sum ≡ by_digits point_add neutral 77 0 s base neutral
    → (z : Affine) → IsMultiple IsGroupSum Infinity g s z → StandsFor sum z
multiple-stands s sum below sum_is z z_is =
    let made = sum-stands s below in
    let on = stands-for-point base g base-stands in
    rw (sym sum_is) at (rw (multiple-unique group g on s made.x z made.is z_is) at made.stands)

-- as `multiply` has it
pub multiple-x : (s : ℕ) (sum : Point) → s < 2 ^ 384 → sum ≡ by_digits point_add neutral 77 0 s base neutral
    → affine_x sum ≡ affine_x (multiply s base)
multiple-x s sum below sum_is =
    let made = sum-stands s below in
    same-x sum (multiply s base) made.x (multiple-stands s sum below sum_is made.x made.is)
    (multiply-makes s base g made.x below base-stands made.is)

pub multiple-encoded : (s : ℕ) (sum : Point) → s < 2 ^ 384 → sum ≡ by_digits point_add neutral 77 0 s base neutral
    → encoded sum ≡ encoded (multiply s base)
multiple-encoded s sum below sum_is =
    let made = sum-stands s below in
    same-encoding sum (multiply s base) made.x (multiple-stands s sum below sum_is made.x made.is)
    (multiply-makes s base g made.x below base-stands made.is)

-- ---- multiples of any point, digit by digit, the highest first

-- O stands for what is in front of the first byte
pub nothing-stands : (s : ℕ) (sum : Point) → s < 2 ^ 384 → sum ≡ neutral
    → (x : Affine) → Stands x sum (s / 256 ^ (48 - 0))
nothing-stands s sum below sum_is x =
    rw (sum_is, front-none 48 s below)
    (record { x = Infinity; stands = neutral-stands; is = no_times })

-- a byte brings two digits
pub front-stands : (p : Point) (s place byte any : ℕ) (bytes : List ℕ) (sum first second : Point) → place < 48
    → byte ≡ get_or bytes place any → bytes ≡ octets 48 s
    → first ≡ point_add (sixteenfold point_add sum) (times point_add neutral (byte / 16) p)
    → second ≡ point_add (sixteenfold point_add first) (times point_add neutral (byte % 16) p)
    → ((x : Affine) → StandsFor p x → Stands x sum (s / 256 ^ (48 - place)))
    → (x : Affine) → StandsFor p x → Stands x second (s / 256 ^ (48 - (place + 1)))
unfolding octets
front-stands p s place byte any bytes sum first second below byte_is bytes_are first_is second_is before x p_is =
    let on = stands-for-point p x p_is in
    let p_once : Stands x p 1 = record { x = x; stands = p_is; is = once x on } in
    let front = s / 256 ^ (48 - place) in
    let high = next-digit-stands formula x on neutral neutral-stands p p_once front (byte / 16) sum (before x p_is) in
    let low = next-digit-stands formula x on neutral neutral-stands p p_once (16 * front + byte / 16) (byte % 16) first (rw (sym first_is) at high) in
    let byte_at = byte_is ∙ ap (λ items. get_or items place any) bytes_are ∙ byte-at-place 48 s place any below in
    rw (sym second_is, front-next 48 s place byte below byte_at) at low

-- and behind the last byte that is the multiple
pub whole-stands : (p : Point) (s place : ℕ) (sum : Point) → 48 ≤ place
    → ((x : Affine) → StandsFor p x → Stands x sum (s / 256 ^ (48 - place)))
    → (x z : Affine) → StandsFor p x → IsMultiple IsGroupSum Infinity x s z → StandsFor sum z
whole-stands p s place sum last before x z p_is z_is =
    let made : Stands x sum s = rw (front-whole 48 s place last) at (before x p_is) in
    rw (multiple-unique group x (stands-for-point p x p_is) s made.x z made.is z_is) at made.stands
