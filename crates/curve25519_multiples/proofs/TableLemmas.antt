-- What the sums of a table's and a row's entries stand for.
use Rattle.std.proofs.Common.{◌≡◌, ◌<◌, ◌≤◌, ℕ, zero, suc, List, ◌+◌, ◌*◌, ◌-◌, ◌/◌, ◌%◌, ◌^◌, arith, ap, sym, ◌∙◌, get_or}
use Rattle.std.specs.Int.{bytes_low_first}
use Rattle.words64.specs.Numbers.{octets}
use Rattle.curve25519.specs.declared.point.Addend.{Addend}
use Rattle.curve25519.specs.declared.point.Point.{Point}
use Rattle.curve25519.specs.Encoding.{encoded}
use Rattle.curve25519.specs.Multiples.{choose, multiply}
use Rattle.curve25519.specs.Points.{addend_of, base, neutral, point_add}
use Rattle.edwards_laws.specs.Points.{Affine, IsPointSum, StandsFor, base_point, neutral_point}
use Rattle.edwards_laws.proofs.EncodedLemmas.{same-encoding}
use Rattle.edwards_laws.proofs.GroupLemmas.{group}
use Rattle.edwards_laws.proofs.MultipleLemmas.{Stands, base-stands, formula, multiply-makes, neutral-stands, once}
use Rattle.group_laws.specs.Digits.{by_digits, sixteenfold, times}
use Rattle.group_laws.specs.Groups.{IsMultiple, no_times}
use Rattle.group_laws.proofs.DigitLemmas.{byte-is, front-next, front-none, front-whole}
use Rattle.group_laws.proofs.MultipleLemmas.{multiple-unique}
use Rattle.group_laws.proofs.WindowLemmas.{all-digits-stand, next-digit-stands}

-- ---- an entry is chosen

-- of two entries that are so far apart
pub chosen-is : (bit place step other whole : ℕ) (first second found : Addend) (p : Point) → bit ≤ 1
    → first ≡ addend_of (times point_add neutral place p) → second ≡ addend_of (times point_add neutral other p)
    → found ≡ choose bit first second → other ≡ place + step → whole ≡ place + step * bit
    → found ≡ addend_of (times point_add neutral whole p)
chosen-is zero place step other whole first second found p within first_is second_is found_is other_is whole_is =
    let same : place ≡ whole = omega arith in
    found_is ∙ first_is ∙ ap (λ k. addend_of (times point_add neutral k p)) same
chosen-is (suc zero) place step other whole first second found p within first_is second_is found_is other_is whole_is =
    let same : other ≡ whole = omega arith in
    found_is ∙ second_is ∙ ap (λ k. addend_of (times point_add neutral k p)) same
chosen-is (suc (suc more)) place step other whole first second found p within first_is second_is found_is other_is whole_is =
    absurd (omega arith)

-- ---- multiples of the base point

-- the sum of the entries stands for the multiple
sum-stands : (s : ℕ) → s < 2 ^ 256 → Stands base_point (by_digits point_add neutral 52 0 s base neutral) s
sum-stands s below =
    let on = base-stands.is_point in
    all-digits-stand formula base_point on neutral neutral-stands base
    (record { x = base_point; stands = base-stands; is = once base_point on }) 52 s (omega arith)

-- the one that there is
pub multiple-stands : (s : ℕ) (sum : Point) → s < 2 ^ 256 → sum ≡ by_digits point_add neutral 52 0 s base neutral
    → (z : Affine) → IsMultiple IsPointSum neutral_point base_point s z → StandsFor sum z
multiple-stands s sum below sum_is z z_is =
    let made = sum-stands s below in
    rw (sym sum_is) at (rw (multiple-unique group base_point base-stands.is_point s made.x z made.is z_is) at made.stands)

-- encoded as `multiply` has it
pub multiple-encoded : (s : ℕ) (sum : Point) → s < 2 ^ 256 → sum ≡ by_digits point_add neutral 52 0 s base neutral
    → encoded sum ≡ encoded (multiply s base)
multiple-encoded s sum below sum_is =
    let made = sum-stands s below in
    same-encoding sum (multiply s base) made.x (multiple-stands s sum below sum_is made.x made.is)
    (multiply-makes s base base_point made.x below base-stands made.is)

-- ---- the bytes of a number, the lowest first

low-byte : (first size n place other : ℕ) → place < size
    → get_or (bytes_low_first first size n) place other ≡ n / 256 ^ (first + place) % 256
low-byte first zero n place other below = absurd (omega arith)
low-byte first (suc size) n zero other below =
    let same : first + 0 ≡ first = omega arith in
    byte-is first n ∙ ap (λ k. n / 256 ^ k % 256) (sym same)
low-byte first (suc size) n (suc place) other below =
    let same : suc first + place ≡ first + suc place = omega arith in
    low-byte (suc first) size n place other (omega arith) ∙ ap (λ k. n / 256 ^ k % 256) same

-- from the highest down
byte-from-the-end : (n turn other : ℕ) → turn < 32
    → get_or (bytes_low_first 0 32 n) (32 - 1 - turn) other ≡ n / 256 ^ (32 - (turn + 1)) % 256
byte-from-the-end n turn other below =
    let same : 0 + (32 - 1 - turn) ≡ 32 - (turn + 1) = omega arith in
    low-byte 0 32 n (32 - 1 - turn) other (omega arith) ∙ ap (λ k. n / 256 ^ k % 256) same

-- ---- multiples of any point, digit by digit, the highest first

-- (0, 1) stands for what is in front of the first byte
pub nothing-stands : (s : ℕ) (sum : Point) → s < 2 ^ 256 → sum ≡ neutral → (x : Affine) → Stands x sum (s / 256 ^ (32 - 0))
nothing-stands s sum below sum_is x =
    rw (sum_is, front-none 32 s below) (record { x = neutral_point; stands = neutral-stands; is = no_times })

-- a byte brings two digits
pub front-stands : (p : Point) (s turn byte any : ℕ) (bytes : List ℕ) (sum first second : Point) → turn < 32
    → byte ≡ get_or bytes (32 - 1 - turn) any → bytes ≡ octets s
    → first ≡ point_add (sixteenfold point_add sum) (times point_add neutral (byte / 16) p)
    → second ≡ point_add (sixteenfold point_add first) (times point_add neutral (byte % 16) p)
    → ((x : Affine) → StandsFor p x → Stands x sum (s / 256 ^ (32 - turn)))
    → (x : Affine) → StandsFor p x → Stands x second (s / 256 ^ (32 - (turn + 1)))
unfolding octets
front-stands p s turn byte any bytes sum first second below byte_is bytes_are first_is second_is before x p_is =
    let on = p_is.is_point in
    let p_once : Stands x p 1 = record { x = x; stands = p_is; is = once x on } in
    let front = s / 256 ^ (32 - turn) in
    let high = next-digit-stands formula x on neutral neutral-stands p p_once front (byte / 16) sum (before x p_is) in
    let low = next-digit-stands formula x on neutral neutral-stands p p_once (16 * front + byte / 16) (byte % 16) first (rw (sym first_is) at high) in
    let at_place = byte_is ∙ ap (λ items. get_or items (32 - 1 - turn) any) bytes_are ∙ byte-from-the-end s turn any below in
    rw (sym second_is, front-next 32 s turn byte below at_place) at low

-- and behind the last byte that is the multiple
pub whole-stands : (p : Point) (s turn : ℕ) (sum : Point) → 32 ≤ turn
    → ((x : Affine) → StandsFor p x → Stands x sum (s / 256 ^ (32 - turn)))
    → (x z : Affine) → StandsFor p x → IsMultiple IsPointSum neutral_point x s z → StandsFor sum z
whole-stands p s turn sum last before x z p_is z_is =
    let made : Stands x sum s = rw (front-whole 32 s turn last) at (before x p_is) in
    rw (multiple-unique group x p_is.is_point s made.x z made.is z_is) at made.stands
