-- What isn't due at a moment isn't late at it, by a clock of 64 bits.
use Rattle.std.proofs.Common.{◌≡◌, ℕ, ◌+◌, ◌^◌, ◌≤◌, ◌<◌, min, max, nat_lt, not, if◌then◌else◌, Bool, true, false, List, [], ◌∷◌, Option, Some, None, refl, ap, arith}
use Rattle.std.specs.List.{list_any}
use Rattle.std.specs.Option.{option_map}
use Rattle.std.proofs.lemmas.Bool.Decides.{Decides-ltb}
use Rattle.std.proofs.lemmas.Bool.{ltb-false, or_from}
use Rattle.world_ports.specs.declared.events.Moment.{Moment}
use Rattle.helper_link.specs.HelperLink.{earlier as earlier_second, oldest}
use Rattle.helper_link.specs.declared.ask.Ask.{Ask}
use Rattle.confirm_desk.specs.Confirmations.{Confirmation, earlier as earlier_job, oldest as oldest_confirmation}
use Rattle.identity_table.specs.Deaths.{earlier, on_clock}
use Rattle.identity_table.specs.Identities.{next_death}
use Rattle.agent_model.specs.State.{State, limit_from, next_limit, second_of}
use Rattle.agent_model.specs.Time.{has_lasted, is_one_late}
use Rattle.loop_model.specs.Elsewhere.{ends_waits, has_come, is_due}

-- ---- a second that the clock has come to, or hasn't

below_true : (low high : ℕ) → low < high → nat_lt low high ≡ true
below_true low high below = (Decides-ltb low high).1 below

not_come : (due now : ℕ) → has_come (Some due) now ≡ false → now < due
not_come due now none = (Decides-ltb now due).0 (by (nat_lt now due) none)
  where
    by : (below : Bool) → not below ≡ false → below ≡ true
    by true is = refl
    by false is = absurd (cc)

comes_not : (due now : ℕ) → now < due → has_come (Some due) now ≡ false
comes_not due now below = ap not (below_true now due below)

-- of two neither
neither_come : (one other : Option ℕ) (now : ℕ) → has_come (earlier one other) now ≡ false
    → (has_come one now ≡ false) × (has_come other now ≡ false)
neither_come None other now none = (refl, none)
neither_come (Some one) None now none = (none, refl)
neither_come (Some one) (Some other) now none =
    let below : now < min one other = not_come (min one other) now none in
    (comes_not one now (omega (arith, below)), comes_not other now (omega (arith, below)))

-- the end of a wait, by a clock of 64 bits
before_end : (end now : ℕ) → now < 2 ^ 64 → has_come (on_clock (Some end)) now ≡ false → now < end
before_end end now within none = by (nat_lt end (2 ^ 64)) refl none
  where
    by : (on : Bool) → nat_lt end (2 ^ 64) ≡ on
        → has_come (if on then Some end else None) now ≡ false → now < end
    by true is none = not_come end now none
    by false is none = let above = ltb-false end (2 ^ 64) is in omega (arith, above, within)

-- ---- asks

-- a second before the end of the wait that began first
abbrev IsBefore : ℕ → ℕ → Option ℕ → Type 0
IsBefore limit now found = (since : ℕ) → found ≡ Some since → now < since + limit

late_not : (limit since now : ℕ) → now < since + limit → has_lasted (Some limit) since now ≡ false
late_not limit since now below = ap not (below_true now (since + limit) below)

asks_before : (limit now : ℕ) (asks : List Ask) → IsBefore limit now (oldest asks)
    → is_one_late (Some limit) now asks ≡ false
asks_before limit now [] before = refl
asks_before limit now (ask ∷ asks) before =
    let first : now < earlier_second ask.put_at (oldest asks) + limit =
    before (earlier_second ask.put_at (oldest asks)) refl in
    or_from (has_lasted (Some limit) ask.put_at now) (is_one_late (Some limit) now asks)
    (late_not limit ask.put_at now (own ask.put_at (oldest asks) first))
    (asks_before limit now asks (λ since is. others ask.put_at (oldest asks) since first is))
  where
    own : (put : ℕ) (found : Option ℕ) → now < earlier_second put found + limit → now < put + limit
    own put None first = first
    own put (Some other) first =
        let below : now < min put other + limit = first in omega (arith, below)

    others : (put : ℕ) (found : Option ℕ) (since : ℕ) → now < earlier_second put found + limit
        → found ≡ Some since
        → now < since + limit
    others put None since first is = absurd (cc)
    others put (Some other) since first is =
        let below : now < min put other + limit = first in
        let same : other ≡ since = cc in
        omega (arith, below, same)

unlimited_asks : (now : ℕ) (asks : List Ask) → is_one_late None now asks ≡ false
unlimited_asks now [] = refl
unlimited_asks now (ask ∷ asks) = unlimited_asks now asks

before_limit : (limit now : ℕ) (found : Option ℕ) → now < 2 ^ 64
    → has_come (limit_from (Some limit) found) now ≡ false → IsBefore limit now found
before_limit limit now None within none = λ since is. absurd (cc)
before_limit limit now (Some one) within none = λ since is.
    let same : one ≡ since = cc in
    let below : now < one + limit = before_end (one + limit) now within none in
    omega (arith, below, same)

none_late : (limit : Option ℕ) (now : ℕ) (asks : List Ask) → now < 2 ^ 64
    → has_come (limit_from limit (oldest asks)) now ≡ false → is_one_late limit now asks ≡ false
none_late None now asks within none = unlimited_asks now asks
none_late (Some limit) now asks within none =
    asks_before limit now asks (before_limit limit now (oldest asks) within none)

-- ---- confirmations

-- the user hasn't answered one in time
abbrev late_at : Option ℕ → ℕ → Confirmation → Bool
late_at limit now one = has_lasted limit one.raised_at now

desk_before : (limit now : ℕ) (all : List Confirmation)
    → IsBefore limit now (option_map second_of (oldest_confirmation all))
    → list_any (late_at (Some limit) now) all ≡ false
desk_before limit now [] before = refl
desk_before limit now (one ∷ all) before =
    let first : now < (earlier_job (one.job, one.raised_at) (oldest_confirmation all)).1 + limit =
    before (earlier_job (one.job, one.raised_at) (oldest_confirmation all)).1 refl in
    or_from (late_at (Some limit) now one) (list_any (late_at (Some limit) now) all)
    (late_not limit one.raised_at now (own (one.job, one.raised_at) (oldest_confirmation all) first))
    (desk_before limit now all (λ since is.
    others (one.job, one.raised_at) (oldest_confirmation all) since first is))
  where
    own_by : (later : Bool) (first other : ℕ × ℕ) → nat_lt other.1 first.1 ≡ later
        → now < (if later then other else first).1 + limit → (now < first.1 + limit) × (now < other.1 + limit)
    own_by true first other is below =
        let less : other.1 < first.1 = (Decides-ltb other.1 first.1).0 is in
        (omega (arith, below, less), below)
    own_by false first other is below =
        let less : first.1 ≤ other.1 = ltb-false other.1 first.1 is in
        (below, omega (arith, below, less))

    own : (first : ℕ × ℕ) (found : Option (ℕ × ℕ)) → now < (earlier_job first found).1 + limit
        → now < first.1 + limit
    own first None below = below
    own first (Some other) below = (own_by (nat_lt other.1 first.1) first other refl below).0

    others : (first : ℕ × ℕ) (found : Option (ℕ × ℕ)) (since : ℕ)
        → now < (earlier_job first found).1 + limit
        → option_map second_of found ≡ Some since → now < since + limit
    others first None since below is = absurd (cc)
    others first (Some other) since below is =
        let same : other.1 ≡ since = cc in
        let both = own_by (nat_lt other.1 first.1) first other refl below in
        omega (arith, both.1, same)

unlimited_desk : (now : ℕ) (all : List Confirmation) → list_any (late_at None now) all ≡ false
unlimited_desk now [] = refl
unlimited_desk now (one ∷ all) = unlimited_desk now all

none_open_late : (limit : Option ℕ) (now : ℕ) (all : List Confirmation) → now < 2 ^ 64
    → has_come (limit_from limit (option_map second_of (oldest_confirmation all))) now ≡ false
    → list_any (late_at limit now) all ≡ false
none_open_late None now all within none = unlimited_desk now all
none_open_late (Some limit) now all within none =
    desk_before limit now all
    (before_limit limit now (option_map second_of (oldest_confirmation all)) within none)

-- ---- all that is under way

pub none_ends : (state : State) (moment : Moment) → max state.moment.mono moment.mono < 2 ^ 64
    → is_due moment state ≡ false → ends_waits moment state ≡ false
none_ends state moment within none =
    let now = max state.moment.mono moment.mono in
    let u = state.under_way in
    let limits = (neither_come (next_death state.held.table.identities) (next_limit u) now none).1 in
    let both = neither_come (limit_from u.limits.ask (oldest u.link.asks))
    (limit_from u.limits.confirmation (option_map second_of (oldest_confirmation u.confirmations))) now limits in
    or_from (is_one_late u.limits.ask now u.link.asks) (list_any (late_at u.limits.confirmation now) u.confirmations)
    (none_late u.limits.ask now u.link.asks within both.0)
    (none_open_late u.limits.confirmation now u.confirmations within both.1)
