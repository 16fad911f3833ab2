-- What the answers of a world's calls say of its count, its connections and its clock (ours).
use Rattle.std.specs.Prelude.{◌≡◌, ◌+◌, ◌<◌, ◌≤◌, ℕ, List, drop, Result, Ok, Err, OnOk, MatchResult}
use Rattle.world_ports.specs.Causes.{Rose}
use Rattle.world_ports.specs.declared.answers.Accepted.{Accepted}
use Rattle.world_ports.specs.declared.answers.Accepted.TheVariants.{Port, NotNow}
use Rattle.world_ports.specs.declared.answers.Got.{Got}
use Rattle.world_ports.specs.declared.answers.Got.TheVariants as got
use Rattle.world_ports.specs.declared.answers.WorldFault.{WorldFault}
use Rattle.world_ports.specs.declared.answers.WorldFault.TheVariants.{Failed, Memory}
use Rattle.world_ports.specs.declared.answers.Wrote.{Wrote}
use Rattle.world_ports.specs.declared.answers.Wrote.TheVariants as wrote
use Rattle.world_ports.specs.declared.events.Moment.{Moment}

-- a fact for a refusal by the outside
abbrev pub OnFailed : WorldFault → Type 0 → Type 0
OnFailed Failed fact = fact
OnFailed Memory fact = Unit {0}

-- a fact for a call that the outside refused
abbrev pub IfFailed : {T : Type 0} → Result T WorldFault → Type 0 → Type 0
IfFailed (Ok _) fact = Unit {0}
IfFailed (Err fault) fact = OnFailed fault fact

-- the count never falls, rose where the outside refused the call, and stayed where it did not fail
pub record IsCounted {T : Type 0} (before now : ℕ) (result : Result T WorldFault) : Type 0 where
  pub later : before ≤ now
  pub fault : IfFailed result (Rose before now)
  pub kept : OnOk result (now ≡ before)

-- the room of each read of a loop, in bytes
abbrev pub read_room : ℕ
read_room = 16384

-- a number of bytes, at least one
abbrev pub IsPiece : ℕ → ℕ → Type 0
IsPiece n most = (0 < n) × (n ≤ most)

-- what was read has one byte or more, and no more than the room
abbrev pub GotWithin : Result Got WorldFault → ℕ → Type 0
GotWithin (Ok (got.Bytes n)) room = IsPiece n room
GotWithin (Ok got.End) room = Unit {0}
GotWithin (Ok got.NotNow) room = Unit {0}
GotWithin (Err _) room = Unit {0}

-- the room is as it was but for what was read
abbrev pub KeepsRest : Result Got WorldFault → List ℕ → List ℕ → Type 0
KeepsRest (Ok (got.Bytes n)) before now = drop n now ≡ drop n before
KeepsRest (Ok got.End) before now = now ≡ before
KeepsRest (Ok got.NotNow) before now = now ≡ before
KeepsRest (Err _) before now = now ≡ before

-- what was taken has one byte or more, and no more than was offered
abbrev pub TookWithin : Result Wrote WorldFault → ℕ → Type 0
TookWithin (Ok (wrote.Took n)) offered = IsPiece n offered
TookWithin (Ok wrote.NotNow) offered = Unit {0}
TookWithin (Err _) offered = Unit {0}

-- a connection that was accepted has the next number, and without one the last number stays
abbrev pub NumbersPort : Result Accepted WorldFault → ℕ → ℕ → Type 0
NumbersPort (Ok (Port number)) before now = (number ≡ before + 1) × (now ≡ number)
NumbersPort (Ok NotNow) before now = now ≡ before
NumbersPort (Err _) before now = now ≡ before

-- the second that was read is the greatest so far, and without one the greatest stays
abbrev pub ReadsClock : {E : Type 0} → Result Moment E → ℕ → ℕ → Type 0
ReadsClock result before now = MatchResult result
    (λ moment. (before ≤ moment.mono) × (now ≡ moment.mono))
    (λ _. now ≡ before)
