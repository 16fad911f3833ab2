-- How much room identities take after each change, and when they are too many.
use Rattle.std.proofs.Common.{◌≡◌, ℕ, ◌+◌, ◌-◌, ◌*◌, ◌<◌, ◌≤◌, ◌&&◌, ◌||◌, not, nat_lt, Bool, true, false, cond, eqb, List, [], ◌∷◌, length, replicate, Option, Some, None, refl, ap, subst, sym, ◌∙◌, arith}
use Rattle.std.specs.Bool.{MatchBool}
use Rattle.std.specs.List.{sum_by}
use Rattle.std.specs.Str.{bytes_eq}
use Rattle.std.proofs.lemmas.Bool.{le-ltb, lt-ltb, ltb-false}
use Rattle.std.proofs.lemmas.List.Folds.{sum_by-replicate}
use Rattle.std.proofs.lemmas.List.Sums.{sum_by-cons, sum_by-le-sum_by}
use Rattle.wire_text.specs.Bounds.{longest_body}
use Rattle.constraint_rec.specs.declared.constraint.Constraint.{Constraint}
use Rattle.identity_table.specs.Deaths.{lives_at}
use Rattle.identity_table.specs.Identities.{HeldKey, alive_at, answer_len, find_identity, find_number, hop_len, in_front, is_full, kept_by, kept_if, kept_len, max_answer, put_identity, remove_identity, spend_identity, used_by}

-- the first and the others
pub kept_len-cons : (key : HeldKey) (keys : List HeldKey) → kept_len (key ∷ keys) ≡ kept_by key + kept_len keys
unfolding kept_len
kept_len-cons key keys = sum_by-cons kept_by key keys

-- none take none
pub kept_len-none : kept_len [] ≡ 0
unfolding kept_len
kept_len-none = refl

-- ---- after an addition

-- the new one takes its room in place of the one that it replaces
pub kept_len-put : (new : HeldKey) (keys : List HeldKey) →
    kept_len (put_identity new keys) + kept_if (find_identity new.blob keys) ≡ kept_by new + kept_len keys
unfolding put_identity find_identity
kept_len-put new [] = omega (arith, kept_len-cons new [], kept_len-none)
kept_len-put new (key ∷ keys) = by_test (bytes_eq key.blob new.blob) (kept_len-put new keys)
  where
    by_test : (same : Bool) →
        kept_len (put_identity new keys) + kept_if (find_identity new.blob keys) ≡ kept_by new + kept_len keys →
        kept_len (cond same (new ∷ keys) (key ∷ put_identity new keys)) + kept_if (cond same (Some key) (find_identity new.blob keys))
        ≡ kept_by new + kept_len (key ∷ keys)
    by_test true rest = omega (arith, kept_len-cons new keys, kept_len-cons key keys)
    by_test false rest = omega (arith, rest, kept_len-cons key (put_identity new keys), kept_len-cons key keys)

-- ---- after a removal

-- what was removed takes its room with it
pub kept_len-removed : (blob : List ℕ) (keys : List HeldKey) →
    kept_len (remove_identity blob keys) + kept_if (find_identity blob keys) ≡ kept_len keys
unfolding remove_identity find_identity
kept_len-removed blob [] = omega (arith, kept_len-none)
kept_len-removed blob (key ∷ keys) = by_test (bytes_eq key.blob blob) (kept_len-removed blob keys)
  where
    by_test : (same : Bool) →
        kept_len (remove_identity blob keys) + kept_if (find_identity blob keys) ≡ kept_len keys →
        kept_len (cond same keys (key ∷ remove_identity blob keys)) + kept_if (cond same (Some key) (find_identity blob keys))
        ≡ kept_len (key ∷ keys)
    by_test true rest = omega (arith, kept_len-cons key keys)
    by_test false rest = omega (arith, rest, kept_len-cons key (remove_identity blob keys), kept_len-cons key keys)

-- those that are left take no more
pub kept_len-alive : (second : ℕ) (keys : List HeldKey) → kept_len (alive_at second keys) ≤ kept_len keys
unfolding alive_at
kept_len-alive second [] = omega arith
kept_len-alive second (key ∷ keys) = by_test (lives_at second key.death) (kept_len-alive second keys)
  where
    by_test : (alive : Bool) → kept_len (alive_at second keys) ≤ kept_len keys →
        kept_len (cond alive (key ∷ alive_at second keys) (alive_at second keys)) ≤ kept_len (key ∷ keys)
    by_test true rest = omega (arith, rest, kept_len-cons key (alive_at second keys), kept_len-cons key keys)
    by_test false rest = omega (arith, rest, kept_len-cons key keys)

-- ---- after a use

-- an identity that is left takes what it took
pub kept_by-used : (uses : Option ℕ) (key after : HeldKey) → used_by uses key ≡ Some after → kept_by after ≡ kept_by key
kept_by-used None key after is =
    let e : key ≡ after = cc in
    ap kept_by (sym e)
kept_by-used (Some uses) key after is = by_zero (eqb (uses - 1) 0) is
  where
    by_zero : (none : Bool) → cond none None (Some (record key { uses = Some (uses - 1) })) ≡ Some after →
        kept_by after ≡ kept_by key
    by_zero true is = absurd cc
    by_zero false is =
        let e : record key { uses = Some (uses - 1) } ≡ after = cc in
        ap kept_by (sym e)

-- those that are left take no more
pub kept_len-spend : (number : ℕ) (keys : List HeldKey) → kept_len (spend_identity number keys) ≤ kept_len keys
unfolding spend_identity
kept_len-spend number [] = omega arith
kept_len-spend number (key ∷ keys) = by_test (eqb key.number number) (kept_len-spend number keys)
  where
    fronted : (after : Option HeldKey) → used_by key.uses key ≡ after → kept_len (in_front after keys) ≤ kept_len (key ∷ keys)
    fronted None is = omega (arith, kept_len-cons key keys)
    fronted (Some after) is =
        omega (arith, kept_len-cons after keys, kept_len-cons key keys, kept_by-used key.uses key after is)

    by_test : (is : Bool) → kept_len (spend_identity number keys) ≤ kept_len keys →
        kept_len (cond is (in_front (used_by key.uses key) keys) (key ∷ spend_identity number keys)) ≤ kept_len (key ∷ keys)
    by_test true later = fronted (used_by key.uses key) refl
    by_test false later = omega (arith, later, kept_len-cons key (spend_identity number keys), kept_len-cons key keys)

-- where some of its uses are left, all take what they took
pub kept_len-left : (number : ℕ) (keys : List HeldKey) (one after : HeldKey) → find_number number keys ≡ Some one →
    used_by one.uses one ≡ Some after → kept_len (spend_identity number keys) ≡ kept_len keys
unfolding find_number spend_identity
kept_len-left number [] one after found is = refl
kept_len-left number (key ∷ keys) one after found is =
    by_test (eqb key.number number) found (λ later. kept_len-left number keys one after later is)
  where
    by_test : (test : Bool) → cond test (Some key) (find_number number keys) ≡ Some one →
        (find_number number keys ≡ Some one → kept_len (spend_identity number keys) ≡ kept_len keys) →
        kept_len (cond test (in_front (used_by key.uses key) keys) (key ∷ spend_identity number keys)) ≡ kept_len (key ∷ keys)
    by_test true there later =
        let e : key ≡ one = cc in
        let left : used_by key.uses key ≡ Some after = ap (λ (k : HeldKey). used_by k.uses k) e ∙ is in
        rw left (omega (arith, kept_len-cons after keys, kept_len-cons key keys, kept_by-used key.uses key after left))
    by_test false there later =
        omega (arith, later there, kept_len-cons key (spend_identity number keys), kept_len-cons key keys)

-- ---- whether they are too many

-- where they aren't, one message lists them, and they take at most 8 MiB
pub not_full : (keys : List HeldKey) → is_full keys ≡ false →
    (answer_len keys ≤ max_answer) × (kept_len keys ≤ 8388608)
not_full keys is = by_tests (nat_lt longest_body (answer_len keys)) (nat_lt 8388608 (kept_len keys)) refl refl is
  where
    by_tests : (long much : Bool) → nat_lt longest_body (answer_len keys) ≡ long → nat_lt 8388608 (kept_len keys) ≡ much →
        (long || much) ≡ false → (answer_len keys ≤ max_answer) × (kept_len keys ≤ 8388608)
    by_tests true much long_is much_is none = absurd cc
    by_tests false true long_is much_is none = absurd cc
    by_tests false false long_is much_is none =
        (ltb-false longest_body (answer_len keys) long_is, ltb-false 8388608 (kept_len keys) much_is)

-- two tests of room tell whether they are too many
pub room_tested : (keys : List HeldKey) (lists takes : Bool) →
    MatchBool lists (answer_len keys ≤ max_answer) (max_answer < answer_len keys) →
    MatchBool takes (kept_len keys ≤ 8388608) (8388608 < kept_len keys) →
    (lists && takes) ≡ not (is_full keys)
room_tested keys true true fits small =
    rw (le-ltb _ _ fits, le-ltb _ _ small) refl
room_tested keys true false fits large =
    rw (le-ltb _ _ fits, lt-ltb _ _ large) refl
room_tested keys false takes long room = rw (lt-ltb _ _ long) refl

-- all take what the others take and what is new takes
pub kept_after : (new : HeldKey) (keys : List HeldKey) (others len : ℕ) (blob : List ℕ) (takes : Bool) → new.blob ≡ blob → kept_by new ≡ len →
    others + kept_if (find_identity blob keys) ≡ kept_len keys →
    MatchBool takes (others + len ≤ 8388608) (8388608 < others + len) →
    MatchBool takes (kept_len (put_identity new keys) ≤ 8388608) (8388608 < kept_len (put_identity new keys))
kept_after new keys others len blob true is_blob is_len all fits =
    omega (arith, kept_len-put new keys, is_len, subst (λ (b : List ℕ). others + kept_if (find_identity b keys) ≡ kept_len keys) (sym is_blob) all, fits)
kept_after new keys others len blob false is_blob is_len all over =
    omega (arith, kept_len-put new keys, is_len, subst (λ (b : List ℕ). others + kept_if (find_identity b keys) ≡ kept_len keys) (sym is_blob) all, over)

-- what one takes, by the lengths of its private string and its purposes, and its constraints
pub kept_by-parts : (new : HeldKey) (private purposes : ℕ) (rules : List Constraint) → length new.private ≡ private →
    length new.purposes ≡ purposes → new.rules ≡ rules →
    kept_by new ≡ private + 320 * purposes + sum_by (λ (rule : Constraint). hop_len rule.from + hop_len rule.to) rules
kept_by-parts new private purposes rules is_private are_purposes is_rules =
    ap (λ (n : ℕ). n + 320 * length new.purposes + sum_by (λ (rule : Constraint). hop_len rule.from + hop_len rule.to) new.rules) is_private
    ∙ ap (λ (n : ℕ). private + 320 * n + sum_by (λ (rule : Constraint). hop_len rule.from + hop_len rule.to) new.rules) are_purposes
    ∙ ap (λ (all : List Constraint). private + 320 * purposes + sum_by (λ (rule : Constraint). hop_len rule.from + hop_len rule.to) all) is_rules

-- they aren't where one message lists them and they take no more than 8 MiB
pub room_for_all : (keys : List HeldKey) → answer_len keys ≤ max_answer → kept_len keys ≤ 8388608 → is_full keys ≡ false
room_for_all keys lists small = rw (le-ltb longest_body (answer_len keys) lists, le-ltb 8388608 (kept_len keys) small) refl

-- they are where they take more
pub full_where_large : (keys : List HeldKey) → 8388608 < kept_len keys → is_full keys ≡ true
full_where_large keys large =
    rw (lt-ltb 8388608 (kept_len keys) large) (or_true (nat_lt longest_body (answer_len keys)))
  where
    or_true : (long : Bool) → (long || true) ≡ true
    or_true true = refl
    or_true false = refl

-- ---- what this says of parts

-- so many times one
pub kept_len-replicate : (count : ℕ) (key : HeldKey) → kept_len (replicate count key) ≡ count * kept_by key
unfolding kept_len
kept_len-replicate count key = sum_by-replicate kept_by count key

-- all private strings are within
pub private_within : (keys : List HeldKey) → sum_by (λ (key : HeldKey). length key.private) keys ≤ kept_len keys
unfolding kept_len
private_within keys = sum_by-le-sum_by (λ (key : HeldKey). length key.private) kept_by keys (λ key. omega arith)

-- a constraint has two hops
two_hops : (rules : List Constraint) →
    128 * length rules ≤ sum_by (λ (rule : Constraint). hop_len rule.from + hop_len rule.to) rules
two_hops [] = omega arith
two_hops (rule ∷ rules) =
    omega (arith, two_hops rules, sum_by-cons (λ (rule : Constraint). hop_len rule.from + hop_len rule.to) rule rules)

-- all constraints are within
pub rules_within : (keys : List HeldKey) → 128 * sum_by (λ (key : HeldKey). length key.rules) keys ≤ kept_len keys
rules_within [] = omega arith
rules_within (key ∷ keys) = omega (
  arith,
  rules_within keys,
  two_hops key.rules,
  sum_by-cons (λ (key : HeldKey). length key.rules) key keys,
  kept_len-cons key keys,
)
