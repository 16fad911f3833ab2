-- Journals: lists of calls with their answers. `None` claims nothing (ours).
use Rattle.std.specs.Prelude.{◌≡◌, ◌⊎◌, ◌∷◌, ◌++◌, Bool, true, false, ℕ, List, [], take, Option, Some, None, Result, Ok, Err}
use Rattle.world_ports.specs.declared.answers.Got.{Got}
use Rattle.world_ports.specs.declared.answers.Got.TheVariants.{Bytes, End, NotNow}
use Rattle.world_ports.specs.declared.answers.WorldFault.{WorldFault}
use Rattle.world_ports.specs.declared.answers.WorldFault.TheVariants.{Failed, Memory}

-- these entries were appended, where the journal is told
abbrev pub Grows : {A : Type 0} → Option (List A) → Option (List A) → List A → Type 0
Grows None now added = Unit {0}
Grows (Some before) None added = ⊥
Grows (Some before) (Some now) added = now ≡ before ++ added

-- a call's own entry was appended. Where the call wants memory, it may be missing
abbrev pub Tells : {A : Type 0} → Option (List A) → Option (List A) → Bool → A → Type 0
Tells before now false entry = Grows before now (entry ∷ [])
Tells before now true entry = Grows before now (entry ∷ []) ⊎ Grows before now []

-- the call wants memory
abbrev pub is_short : {T : Type 0} → Result T WorldFault → Bool
is_short (Ok _) = false
is_short (Err Failed) = false
is_short (Err Memory) = true

-- the bytes that a read gave: the front of the room, or none
abbrev pub got_of : Result Got WorldFault → List ℕ → List ℕ
got_of (Ok (Bytes n)) room = take n room
got_of (Ok End) room = []
got_of (Ok NotNow) room = []
got_of (Err _) room = []
