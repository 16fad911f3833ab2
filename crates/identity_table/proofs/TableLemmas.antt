-- Tables over many calls, and what stands against an addition.
use Rattle.std.proofs.Common.{◌≡◌, ◌+◌, ◌-◌, ◌^◌, ◌≤◌, ◌==◌, ℕ, Bool, true, false, cond, List, [], ◌∷◌, length, Some, None, IfSome, refl, subst, arith}
use Rattle.std.specs.Str.{bytes_eq}
use Rattle.constraint_rec.specs.declared.terms.Terms.{Terms}
use Rattle.key_blob.specs.declared.added.AddedKey.{AddedKey}
use Rattle.identity_table.specs.Identities.{HeldKey, TableState, AreShort, IsSound, added, entries_len, entry_len, find_identity, identities_with, is_full, longest_private, max_answer, new_identity}
use Rattle.identity_table.specs.Tables.{Call, Expire, Add, Remove, RemoveAll, Spend, RiseFrom, add_fault, add_fault_by, after_call, numbers_of}
use Rattle.identity_table.proofs.KeptLemmas.{not_full}
use Rattle.identity_table.proofs.Theorems.{IsSound-put}

-- they aren't too many where nothing stands against an addition
fits_if : (full spent : Bool) → add_fault_by full spent ≡ None → full ≡ false
fits_if true spent none = absurd cc
fits_if false spent none = refl

-- a table stays sound where nothing stands against an addition
pub IsSound-added : (table : TableState) (key : AddedKey) (terms : Terms) (comment : List ℕ)
    (now : ℕ) →
    add_fault table key terms comment now ≡ None → length key.private ≤ longest_private →
    IfSome terms.uses (λ uses. 1 ≤ uses) → IsSound table.identities table.last →
    IsSound (added table key terms comment now).identities (table.last + 1)
IsSound-added table key terms comment now none short usable sound =
    let after = identities_with table key terms comment now in
    let room = not_full after (fits_if (is_full after) (table.last == 2 ^ 64 - 1) none) in
    IsSound-put (new_identity table key terms comment now) table.identities table.last refl room.0 room.1 short usable sound

-- a key that is held is as short as all of them
pub held_is_short : (blob : List ℕ) (keys : List HeldKey) (key : HeldKey) →
    entries_len keys ≤ max_answer → AreShort keys →
    find_identity blob keys ≡ Some key → (entry_len key ≤ max_answer) ×
    (length key.private ≤ longest_private)
unfolding AreShort entries_len find_identity
held_is_short blob [] key fits short found = absurd cc
held_is_short blob (first ∷ keys) key fits short found =
    by_test (bytes_eq first.blob blob)
    (λ there. held_is_short blob keys key (omega (arith, fits)) short.1 there) found
  where
    by_test : (is : Bool) →
        (find_identity blob keys ≡ Some key → (entry_len key ≤ max_answer) ×
        (length key.private ≤ longest_private)) →
        cond is (Some first) (find_identity blob keys) ≡ Some key → (entry_len key ≤ max_answer) ×
        (length key.private ≤ longest_private)
    by_test true later there =
        let is : first ≡ key = cc in
        let here : entry_len first ≤ max_answer = omega (arith, fits) in
        subst (λ (one : HeldKey). (entry_len one ≤ max_answer) ×
        (length one.private ≤ longest_private)) is (here, short.0)
    by_test false later there = later there

-- each number that is given is above the last
pub numbers_rise : (calls : List Call) (table : TableState) →
    RiseFrom table.last (numbers_of calls table)
numbers_rise [] table = tt
numbers_rise (Expire second ∷ calls) table = numbers_rise calls (after_call (Expire second) table)
numbers_rise (Add key terms comment now ∷ calls) table =
    (omega arith, numbers_rise calls (after_call (Add key terms comment now) table))
numbers_rise (Remove blob ∷ calls) table = numbers_rise calls (after_call (Remove blob) table)
numbers_rise (RemoveAll ∷ calls) table = numbers_rise calls (after_call RemoveAll table)
numbers_rise (Spend addition ∷ calls) table = numbers_rise calls (after_call (Spend addition) table)
