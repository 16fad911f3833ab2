-- A sum that leads to sums by lines makes a group.
use Rattle.std.proofs.Common.{◌≡◌, ℕ}
use Rattle.group_laws.specs.Groups.{HasOpposite, HasSum, IsGroup}
use Rattle.group_laws.proofs.AssociativityLemmas.{associate}
use Rattle.group_laws.proofs.FieldLemmas.{some-of}
use Rattle.group_laws.proofs.SumLemmas.{Affine, IsCurve, IsPoint, IsSum, closed, commute, unique}

-- points with a sum of their own, each at its place modulo m
pub record LeadsToLines {A : Type 0} (m b : ℕ) (IsElement : A → Type 0) (IsGroupSum : A → A → A → Type 0) (neutral : A) (at : A → Affine) : Type 0 where
  pub curve : IsCurve m b
  pub apart : (p q : A) → at p ≡ at q → p ≡ q
  pub to_point : (p : A) → IsElement p → IsPoint m b (at p)
  pub from_point : (p : A) → IsPoint m b (at p) → IsElement p
  pub to_sum : (p q r : A) → IsElement p → IsElement q → IsGroupSum p q r → IsSum m b (at p) (at q) (at r)
  pub total : (p q : A) → IsElement p → IsElement q → HasSum IsGroupSum p q
  pub neutral_is_element : IsElement neutral
  pub neutral_adds_nothing : (p : A) → IsElement p → IsGroupSum neutral p p
  pub opposites : (p : A) → IsElement p → HasOpposite IsElement IsGroupSum neutral p

-- what is at the place of a sum is the sum
one-sum : {A : Type 0} {m b : ℕ} {IsElement : A → Type 0} {IsGroupSum : A → A → A → Type 0} {neutral : A} {at : A → Affine}
    → LeadsToLines m b IsElement IsGroupSum neutral at → (p q r s : A) → IsElement p → IsElement q
    → IsGroupSum p q r → IsSum m b (at p) (at q) (at s) → r ≡ s
one-sum {m = m} {b = b} {at = at} leads p q r s p_on q_on first second =
    leads.apart r s
    (unique m b (at p) (at q) (at r) (at s) leads.curve (leads.to_point p p_on) (leads.to_sum p q r p_on q_on first) second)

-- a sum of elements is an element
is-closed : {A : Type 0} {m b : ℕ} {IsElement : A → Type 0} {IsGroupSum : A → A → A → Type 0} {neutral : A} {at : A → Affine}
    → LeadsToLines m b IsElement IsGroupSum neutral at → (p q r : A) → IsElement p → IsElement q
    → IsGroupSum p q r → IsElement r
is-closed {m = m} {b = b} {at = at} leads p q r p_on q_on sum =
    leads.from_point r
    (closed m b (at p) (at q) (at r) (leads.to_point p p_on) (leads.to_point q q_on) (leads.to_sum p q r p_on q_on sum))

-- p + q is q + p
is-commutative : {A : Type 0} {m b : ℕ} {IsElement : A → Type 0} {IsGroupSum : A → A → A → Type 0} {neutral : A} {at : A → Affine}
    → LeadsToLines m b IsElement IsGroupSum neutral at → (p q r : A) → IsElement p → IsElement q
    → IsGroupSum p q r → IsGroupSum q p r
is-commutative {m = m} {b = b} {at = at} leads p q r p_on q_on sum =
    let turned = leads.total q p q_on p_on in
    let back = commute m b (at p) (at q) (at r) (some-of m leads.curve.field.more) (leads.to_sum p q r p_on q_on sum) in
    rw (one-sum leads q p turned.third r q_on p_on turned.is back) at turned.is

-- (p + q) + r is p + (q + r)
is-associative : {A : Type 0} {m b : ℕ} {IsElement : A → Type 0} {IsGroupSum : A → A → A → Type 0} {neutral : A} {at : A → Affine}
    → LeadsToLines m b IsElement IsGroupSum neutral at → (p q r s t left right : A) → IsElement p
    → IsElement q → IsElement r → IsGroupSum p q s → IsGroupSum s r left → IsGroupSum q r t
    → IsGroupSum p t right → left ≡ right
is-associative {m = m} {b = b} {at = at} leads p q r s t left right p_on q_on r_on first left_is second right_is =
    let s_on = is-closed leads p q s p_on q_on first in
    let t_on = is-closed leads q r t q_on r_on second in
    leads.apart left right
    (associate m b (at p) (at q) (at r) (at s) (at t) (at left) (at right) leads.curve
    (leads.to_point p p_on) (leads.to_point q q_on) (leads.to_point r r_on)
    (leads.to_sum p q s p_on q_on first) (leads.to_sum s r left s_on r_on left_is)
    (leads.to_sum q r t q_on r_on second) (leads.to_sum p t right p_on t_on right_is))

-- and so the elements are a group
pub group-of : {A : Type 0} {m b : ℕ} {IsElement : A → Type 0} {IsGroupSum : A → A → A → Type 0} {neutral : A} {at : A → Affine}
    → LeadsToLines m b IsElement IsGroupSum neutral at → IsGroup IsElement IsGroupSum neutral
group-of leads =
    record {
      total = leads.total;
      unique = λ p q r s p_on q_on first second. one-sum leads p q r s p_on q_on first (leads.to_sum p q s p_on q_on second);
      closed = is-closed leads;
      commutes = is-commutative leads;
      associates = is-associative leads;
      neutral_is_element = leads.neutral_is_element;
      neutral_adds_nothing = leads.neutral_adds_nothing;
      opposites = leads.opposites;
    }
