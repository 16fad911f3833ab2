-- Lemmas on held ports: what stands in the set, and which port takes next.
use Rattle.std.proofs.Common.{◌≡◌, ℕ, ◌<◌, ◌≤◌, List, [], ◌∷◌, refl, ap, sym, ◌∙◌, arith, Option, Some, None, Bool, true, false, not, nat_lt, ◌==◌, ◌&&◌, if◌then◌else◌}
use Rattle.std.specs.BTreeMap.{is_at}
use Rattle.std.specs.BTreeSet.{insert_key}
use Rattle.std.specs.List.{list_any}
use Rattle.std.specs.Ordering.{nat_cmp}
use Rattle.std.specs.Set.{remove_key}
use Rattle.std.proofs.lemmas.Bool.{and_parts}
use Rattle.std.proofs.lemmas.Bool.Decides.{nat_tests}
use Rattle.agent_model.specs.Sound.{IsRising}
use Rattle.agent_model.specs.State.{Port, UnderWay, find_port, is_some_bytes, next_owed_in, owed_by, owed_by_port}
use Rattle.replay_run.specs.Holding.{free_port, hold_port, is_due, is_held, next_unheld}

-- ---- the set of the standard library

pub has_key : (port : ℕ) (held : List ℕ) → list_any (is_at (nat_cmp port)) held ≡ is_held port held
has_key port [] = refl
has_key port (other ∷ others) = grind (arith, nat_tests, has_key port others)

pub with_key : (port : ℕ) (held : List ℕ) → insert_key nat_cmp held port ≡ hold_port port held
with_key port [] = refl
with_key port (other ∷ others) = grind (arith, nat_tests, with_key port others)

pub without_key : (port : ℕ) (held : List ℕ)
    → remove_key (is_at (nat_cmp port)) held ≡ free_port port held
without_key port [] = refl
without_key port (other ∷ others) = grind (arith, nat_tests, without_key port others)

-- ---- tests

lt_true : (a b : ℕ) → a < b → nat_lt a b ≡ true
lt_true a b less = grind (arith, nat_tests)

lt_false : (a b : ℕ) → b ≤ a → nat_lt a b ≡ false
lt_false a b most = grind (arith, nat_tests)

lt_is : (a b : ℕ) → nat_lt a b ≡ true → a < b
lt_is a b is = grind (arith, nat_tests)

-- a choice that gives nothing
none_of : (test : Bool) (n : ℕ) (rest : Option ℕ) → (if test then Some n else rest) ≡ None
    → (test ≡ false) × (rest ≡ None)
none_of true n rest none = absurd (cc)
none_of false n rest none = (refl, none)

-- a port is passed over where it is no higher, where it is owed nothing, or where it is held
pass_low : (a b c : Bool) (n : ℕ) (rest : Option ℕ) → a ≡ false
    → (if a && (b && c) then Some n else rest) ≡ rest
pass_low a b c n rest is = ap (λ t. if t && (b && c) then Some n else rest) is

pass_unowed : (a b c : Bool) (n : ℕ) (rest : Option ℕ) → (a && b) ≡ false
    → (if a && (b && c) then Some n else rest) ≡ rest
pass_unowed true true c n rest is = absurd (cc)
pass_unowed true false c n rest is = refl
pass_unowed false b c n rest is = refl

pass_held : (a b c : Bool) (n : ℕ) (rest : Option ℕ) → c ≡ false
    → (if a && (b && c) then Some n else rest) ≡ rest
pass_held true true c n rest is = ap (λ t. if t then Some n else rest) is
pass_held true false c n rest is = refl
pass_held false b c n rest is = refl

-- ---- the next port

-- by whether the first port is owed bytes
none_by : (a b c : Bool) (n : ℕ) (owed unheld : Option ℕ) → (if a && b then Some n else owed) ≡ None
    → (owed ≡ None → unheld ≡ None) → (if a && (b && c) then Some n else unheld) ≡ None
none_by true true c n owed unheld none later = absurd (cc)
none_by true false c n owed unheld none later = later none
none_by false b c n owed unheld none later = later none

-- where no port is owed bytes, none takes
pub unheld_none : (u : UnderWay) (after : ℕ) (held : List ℕ) (ports : List Port)
    → next_owed_in after ports u ≡ None
    → next_unheld u after held ports ≡ None
unheld_none u after held [] none = refl
unheld_none u after held (first ∷ ports) none =
    none_by (nat_lt after first.number) (is_some_bytes (owed_by_port first u)) (not (is_held first.number held)) first.number
    (next_owed_in after ports u) (next_unheld u after held ports) none (λ h. unheld_none u after held ports h)

-- a port that is owed bytes and isn't held takes next, by whether it is this one or a later one
some_by : (a b c : Bool) (n port : ℕ) (owed unheld : Option ℕ)
    → (if a && b then Some n else owed) ≡ Some port
    → (n ≡ port → c ≡ true) → (owed ≡ Some port → unheld ≡ Some port)
    → (if a && (b && c) then Some n else unheld) ≡ Some port
some_by true true true n port owed unheld is loose later = is
some_by true true false n port owed unheld is loose later =
    let same : n ≡ port = cc in
    let wrong : false ≡ true = loose same in
    absurd (cc)
some_by true false c n port owed unheld is loose later = later is
some_by false b c n port owed unheld is loose later = later is

-- the next port that is owed bytes takes them where it isn't held
pub unheld_some : (u : UnderWay) (after : ℕ) (held : List ℕ) (ports : List Port) (port : ℕ)
    → next_owed_in after ports u ≡ Some port
    → is_held port held ≡ false → next_unheld u after held ports ≡ Some port
unheld_some u after held [] port is loose = absurd (cc)
unheld_some u after held (first ∷ ports) port is loose =
    some_by (nat_lt after first.number) (is_some_bytes (owed_by_port first u)) (not (is_held first.number held)) first.number port
    (next_owed_in after ports u) (next_unheld u after held ports) is
    (λ (same : first.number ≡ port). ap (λ n. not (is_held n held)) same ∙ ap not loose)
    (λ h. unheld_some u after held ports port h loose)

-- numbers that rise end no lower than they begin
rising-le : (low high : ℕ) (ports : List Port) → IsRising low high ports → low ≤ high
rising-le low high [] rising = rising
rising-le low high (first ∷ ports) rising =
    let later = rising-le first.number high ports rising.1 in
    omega (arith, rising.0)

-- by whether the first port is owed bytes
bound_by : (u : UnderWay) (after high port : ℕ) (first : Port) (ports : List Port) (test : Bool)
    → (nat_lt after first.number && is_some_bytes (owed_by_port first u)) ≡ test → IsRising first.number high ports
    → (if test then Some first.number else next_owed_in after ports u) ≡ Some port
    → (next_owed_in after ports u ≡ Some port → (after < port) × (first.number < port) × (port ≤ high))
    → (after < port) × (first.number ≤ port) × (port ≤ high)
bound_by u after high port first ports true is rising found later =
    let same : port ≡ first.number = cc in
    let above = lt_is after first.number (and_parts (nat_lt after first.number) (is_some_bytes (owed_by_port first u)) is).0 in
    let last = rising-le first.number high ports rising in
    (omega arith, omega arith, omega arith)
bound_by u after high port first ports false is rising found later =
    let rest = later found in
    (rest.0, omega (arith, rest.1), rest.2)

-- the next port that is owed bytes stands above, and among the ports
pub next_bound : (u : UnderWay) (after low high port : ℕ) (ports : List Port)
    → IsRising low high ports → next_owed_in after ports u ≡ Some port
    → (after < port) × (low < port) × (port ≤ high)
next_bound u after low high port [] rising found = absurd (cc)
next_bound u after low high port (first ∷ ports) rising found =
    let bound = bound_by u after high port first ports (nat_lt after first.number && is_some_bytes (owed_by_port first u)) refl rising.1 found
    (λ h. next_bound u after first.number high port ports rising.1 h) in
    (bound.0, omega (arith, bound.1, rising.0), bound.2)

-- below all ports it is the same from where one looks
unheld_same : (u : UnderWay) (low high a b : ℕ) (held : List ℕ) (ports : List Port)
    → IsRising low high ports → a ≤ low → b ≤ low
    → next_unheld u a held ports ≡ next_unheld u b held ports
unheld_same u low high a b held [] rising below_a below_b = refl
unheld_same u low high a b held (first ∷ ports) rising below_a below_b =
    let above = rising.0 in
    let due = is_some_bytes (owed_by_port first u) && not (is_held first.number held) in
    ap (λ t. if t && due then Some first.number else next_unheld u a held ports) (lt_true a first.number (omega arith))
    ∙ ap (λ (rest : Option ℕ). if due then Some first.number else rest)
    (unheld_same u first.number high a b held ports rising.1 (omega arith) (omega arith))
    ∙ sym (ap (λ t. if t && due then Some first.number else next_unheld u b held ports) (lt_true b first.number (omega arith)))

-- by whether the first port is owed bytes
held_by : (u : UnderWay) (low high after port : ℕ) (held : List ℕ) (first : Port) (ports : List Port) (test : Bool)
    → (nat_lt after first.number && is_some_bytes (owed_by_port first u)) ≡ test → IsRising low high (first ∷ ports)
    → (if test then Some first.number else next_owed_in after ports u) ≡ Some port → is_held port held ≡ true
    → (next_owed_in after ports u ≡ Some port → next_unheld u after held ports ≡ next_unheld u port held ports)
    → next_unheld u after held (first ∷ ports) ≡ next_unheld u port held (first ∷ ports)
held_by u low high after port held first ports true is rising found there later =
    let same : first.number ≡ port = cc in
    let above = lt_is after first.number (and_parts (nat_lt after first.number) (is_some_bytes (owed_by_port first u)) is).0 in
    pass_held (nat_lt after first.number) (is_some_bytes (owed_by_port first u)) (not (is_held first.number held)) first.number
    (next_unheld u after held ports) (ap (λ n. not (is_held n held)) same ∙ ap not there)
    ∙ unheld_same u first.number high after port held ports rising.1 (omega arith) (omega arith)
    ∙ sym (pass_low (nat_lt port first.number) (is_some_bytes (owed_by_port first u)) (not (is_held first.number held)) first.number
    (next_unheld u port held ports) (lt_false port first.number (omega arith)))
held_by u low high after port held first ports false is rising found there later =
    let above = (next_bound u after first.number high port ports rising.1 found).1 in
    pass_unowed (nat_lt after first.number) (is_some_bytes (owed_by_port first u)) (not (is_held first.number held)) first.number
    (next_unheld u after held ports) is
    ∙ later found
    ∙ sym (pass_low (nat_lt port first.number) (is_some_bytes (owed_by_port first u)) (not (is_held first.number held)) first.number
    (next_unheld u port held ports) (lt_false port first.number (omega arith)))

-- and is passed over where it is held
pub unheld_later : (u : UnderWay) (low high after port : ℕ) (held : List ℕ) (ports : List Port)
    → IsRising low high ports
    → next_owed_in after ports u ≡ Some port → is_held port held ≡ true
    → next_unheld u after held ports ≡ next_unheld u port held ports
unheld_later u low high after port held [] rising found there = absurd (cc)
unheld_later u low high after port held (first ∷ ports) rising found there =
    held_by u low high after port held first ports (nat_lt after first.number && is_some_bytes (owed_by_port first u)) refl rising found there
    (λ h. unheld_later u first.number high after port held ports rising.1 h there)

-- ---- what is found

-- by whether the first port is the one
found_by : (u : UnderWay) (low after number : ℕ) (held : List ℕ) (first : Port) (ports : List Port) (test : Bool)
    → (nat_lt after first.number && is_due u held first) ≡ test → low < first.number
    → (if test then Some first.number else next_unheld u after held ports) ≡ Some number
    → (next_unheld u after held ports ≡ Some number
    → (port : Port) × (find_port number ports ≡ Some port) × (is_some_bytes (owed_by_port port u) ≡ true) × (first.number < number))
    → (port : Port) × (find_port number (first ∷ ports) ≡ Some port) × (is_some_bytes (owed_by_port port u) ≡ true) × (low < number)
found_by u low after number held first ports true is above found later =
    let same : number ≡ first.number = cc in
    let due = (and_parts (nat_lt after first.number) (is_due u held first) is).1 in
    (first, grind (arith, nat_tests), (and_parts (is_some_bytes (owed_by_port first u)) (not (is_held first.number held)) due).0, omega arith)
found_by u low after number held first ports false is above found later =
    let p = later found in
    let beyond : first.number < number = p.3 in
    let here : find_port number ports ≡ Some p.0 = p.1 in
    (p.0, grind (arith, nat_tests), p.2, omega arith)

-- where numbers rise, the port that takes next is the one of its number, and owed bytes
pub found_unheld : (u : UnderWay) (low high after number : ℕ) (held : List ℕ) (ports : List Port)
    → IsRising low high ports
    → next_unheld u after held ports ≡ Some number
    → (port : Port) × (find_port number ports ≡ Some port) × (is_some_bytes (owed_by_port port u) ≡ true) × (low < number)
found_unheld u low high after number held [] rising found = absurd (cc)
found_unheld u low high after number held (first ∷ ports) rising found =
    found_by u low after number held first ports (nat_lt after first.number && is_due u held first) refl rising.0 found
    (λ h. found_unheld u first.number high after number held ports rising.1 h)

-- ---- what is owed where no port takes next

no_bytes : (bytes : List ℕ) → is_some_bytes bytes ≡ false → bytes ≡ []
no_bytes [] none = refl
no_bytes (byte ∷ bytes) none = absurd (grind (arith, nat_tests))

-- a port that isn't held, and not owed bytes
unowed : (a b c : Bool) → (a && (b && c)) ≡ false → a ≡ true → c ≡ true → b ≡ false
unowed a false c none above loose = refl
unowed true true true none above loose = absurd (cc)
unowed true true false none above loose = absurd (cc)
unowed false true c none above loose = absurd (cc)

-- by whether it is the first
nothing_by : (u : UnderWay) (number : ℕ) (held : List ℕ) (first : Port) (ports : List Port) (test : Bool)
    → (first.number == number) ≡ test
    → 0 < first.number → (nat_lt 0 first.number && is_due u held first) ≡ false → is_held number held ≡ false
    → owed_by (find_port number ports) u ≡ [] → owed_by (if test then Some first else find_port number ports) u ≡ []
nothing_by u number held first ports true is above none loose later =
    let same : number ≡ first.number = grind (arith, nat_tests) in
    no_bytes (owed_by_port first u) (unowed (nat_lt 0 first.number) (is_some_bytes (owed_by_port first u)) (not (is_held first.number held)) none
    (lt_true 0 first.number above) (sym (ap (λ n. not (is_held n held)) same) ∙ ap not loose))
nothing_by u number held first ports false is above none loose later = later

-- nothing is owed to a port that isn't held
pub nothing_unheld : (u : UnderWay) (low high number : ℕ) (held : List ℕ) (ports : List Port)
    → IsRising low high ports
    → next_unheld u 0 held ports ≡ None → is_held number held ≡ false → owed_by (find_port number ports) u ≡ []
nothing_unheld u low high number held [] rising none loose = refl
nothing_unheld u low high number held (first ∷ ports) rising none loose =
    let parts = none_of (nat_lt 0 first.number && is_due u held first) first.number (next_unheld u 0 held ports) none in
    nothing_by u number held first ports (first.number == number) refl (omega (arith, rising.0)) parts.0 loose
    (nothing_unheld u first.number high number held ports rising.1 parts.1 loose)
