-- Lists of the identities that are seen.
use Rattle.std.proofs.Common.{◌≡◌, ◌+◌, ◌≤◌, List, [], ◌∷◌, ◌++◌, length, map, refl, ap, arith, ◌∙◌, filter, cond, Bool, true, false}
use Rattle.identity_table.specs.Identities.{HeldKey, entries_len, entry_len}
use Rattle.agent_msg.specs.Replies.{entries}
use Rattle.agent_model.specs.KeyStates.{shown}
use Rattle.agent_core.specs.Seen.{count_if, entry_if, len_if}

-- ---- one identity

-- what an identity adds to the count of those that are seen, the length of their entries, and the entries
pub record Adds (f : HeldKey → Bool) (key : HeldKey) (keys all : List HeldKey) : Type 0 where
  pub count : length (filter f all) ≡ count_if (f key) + length (filter f keys)
  pub len : entries_len (filter f all) ≡ len_if (f key) key + entries_len (filter f keys)
  pub entries : entries (map shown (filter f all)) ≡ entry_if (f key) key ++ entries (map shown (filter f keys))

-- by whether it is seen
adds_by : (test : Bool) (key : HeldKey) (keys : List HeldKey) →
    (length (cond test (key ∷ keys) keys) ≡ count_if test + length keys)
    × (entries_len (cond test (key ∷ keys) keys) ≡ len_if test key + entries_len keys)
    × (entries (map shown (cond test (key ∷ keys) keys)) ≡ entry_if test key ++ entries (map shown keys))
unfolding entries_len
adds_by true key keys = (omega arith, refl, refl)
adds_by false key keys = (omega arith, omega arith, refl)

-- it adds to those behind it
pub seen-more : (f : HeldKey → Bool) (key : HeldKey) (keys all : List HeldKey) → all ≡ key ∷ keys → Adds f key keys all
seen-more f key keys all is =
    let parts = adds_by (f key) key (filter f keys) in
    record {
      count = ap (λ ks. length (filter f ks)) is ∙ parts.0;
      len = ap (λ ks. entries_len (filter f ks)) is ∙ parts.1;
      entries = ap (λ ks. entries (map shown (filter f ks))) is ∙ parts.2;
    }

-- so does its entry
pub entries_len-more : (key : HeldKey) (keys all : List HeldKey) → all ≡ key ∷ keys →
    entries_len all ≡ entry_len key + entries_len keys
unfolding entries_len
entries_len-more key keys all is = ap entries_len is

-- what it adds isn't more than its entry, and some of it where it counts
pub adds-bound : (test : Bool) (key : HeldKey) → (len_if test key ≤ entry_len key) × (count_if test ≤ len_if test key)
adds-bound true key = (omega arith, omega arith)
adds-bound false key = (omega arith, omega arith)

-- behind the last there are none
pub seen-end : (f : HeldKey → Bool) (keys : List HeldKey) → keys ≡ [] → entries_len (filter f keys) ≡ 0
unfolding entries_len
seen-end f keys none = ap (λ ks. entries_len (filter f ks)) none

-- ---- all of them

-- the entries of those that are seen aren't longer than those of all, by whether the first is
shorter_by : (test : Bool) (key : HeldKey) (some all : List HeldKey) → entries_len some ≤ entries_len all → entries_len (cond test (key ∷ some) some) ≤ entries_len (key ∷ all)
unfolding entries_len
shorter_by true key some all rest = omega (arith, rest)
shorter_by false key some all rest = omega (arith, rest)

-- so that a list of them is a message where a list of all is
pub seen-shorter : (f : HeldKey → Bool) (keys : List HeldKey) → entries_len (filter f keys) ≤ entries_len keys
seen-shorter f [] = omega arith
seen-shorter f (key ∷ keys) = shorter_by (f key) key (filter f keys) keys (seen-shorter f keys)
