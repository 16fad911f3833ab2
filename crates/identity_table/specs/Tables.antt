-- What calls do to a table (draft-miller-ssh-agent, "Adding keys to the agent", "Removing keys from
-- the agent"). Why a key isn't added is ours.
use Rattle.std.specs.Prelude.{◌≡◌, ℕ, zero, suc, ◌+◌, ◌-◌, ◌^◌, ◌==◌, Bool, true, false, List, [], ◌∷◌, Option, Some, None}
use Rattle.constraint_rec.specs.declared.terms.Terms.{Terms}
use Rattle.key_blob.specs.declared.added.AddedKey.{AddedKey}
use Rattle.lists.specs.Rising.{IsRisingNumbers}
use Rattle.identity_table.specs.Identities.{HeldKey, TableState, added, alive_at, identities_with, is_full, remove_identity, spend_identity}
use Rattle.identity_table.specs.declared.fault.AddFault.{AddFault}
use Rattle.identity_table.specs.declared.fault.AddFault.TheVariants.{ListFull, NumbersSpent, Memory}

-- no identities; those that come without a lifetime live for so long
abbrev pub empty_table : Option ℕ → TableState
empty_table life = record { identities = []; greatest = 0; last = 0; life = life }

-- those left whose lifetime has not run out at this second, which the clock has come to
abbrev pub expired : ℕ → TableState → TableState
expired second table = record table { identities = alive_at second table.identities; greatest = second }

-- the table without the identity with this blob
abbrev pub without : List ℕ → TableState → TableState
without blob table = record table { identities = remove_identity blob table.identities }

-- the table without any identity
abbrev pub emptied : TableState → TableState
emptied table = record table { identities = [] }

-- the table after one more use of the identity of this addition
abbrev pub spent : ℕ → TableState → TableState
spent addition table = record table { identities = spend_identity addition table.identities }

-- the identities after so many uses of that one
abbrev pub spent_often : ℕ → ℕ → List HeldKey → List HeldKey
spent_often zero number keys = keys
spent_often (suc times) number keys = spent_often times number (spend_identity number keys)

-- ---- why a key isn't added

-- by whether the identities would be too many, and whether each number was given
abbrev pub add_fault_by : Bool → Bool → Option AddFault
add_fault_by true spent = Some ListFull
add_fault_by false true = Some NumbersSpent
add_fault_by false false = None

-- why a key isn't added at this second
abbrev pub add_fault : TableState → AddedKey → Terms → List ℕ → ℕ → Option AddFault
add_fault table key terms comment now =
    add_fault_by (is_full (identities_with table key terms comment now))
    (table.last == 2 ^ 64 - 1)

-- an addition is refused with this fault: memory is wanting only where nothing else stands against
-- the addition
abbrev pub IsRefusedWith : Option AddFault → AddFault → Type 0
IsRefusedWith why ListFull = why ≡ Some ListFull
IsRefusedWith why NumbersSpent = why ≡ Some NumbersSpent
IsRefusedWith why Memory = why ≡ None

-- ---- one call after another

-- a call that changes a table
pub data Call : Type 0 where
  Expire : (second : ℕ) → Call
  Add : (key : AddedKey) (terms : Terms) (comment : List ℕ) (now : ℕ) → Call
  Remove : (blob : List ℕ) → Call
  RemoveAll : Call
  Spend : (addition : ℕ) → Call

-- the table after it
abbrev pub after_call : Call → TableState → TableState
after_call (Expire second) table = expired second table
after_call (Add key terms comment now) table = added table key terms comment now
after_call (Remove blob) table = without blob table
after_call RemoveAll table = emptied table
after_call (Spend addition) table = spent addition table

-- the number that it gives, if it gives one, before these
abbrev pub numbered : Call → TableState → List ℕ → List ℕ
numbered (Expire second) table later = later
numbered (Add key terms comment now) table later = (table.last + 1) ∷ later
numbered (Remove blob) table later = later
numbered RemoveAll table later = later
numbered (Spend addition) table later = later

-- the numbers of all additions among these calls, in their order
abbrev pub numbers_of : List Call → TableState → List ℕ
numbers_of [] table = []
numbers_of (call ∷ calls) table = numbered call table (numbers_of calls (after_call call table))

-- each number is above the one before it, and the first is above `below`
abbrev pub RiseFrom : ℕ → List ℕ → Type 0
RiseFrom = IsRisingNumbers
