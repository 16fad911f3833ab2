-- The pieces that are heard, as bytes.
use Rattle.std.specs.Prelude.{List, [], ◌∷◌}
use Rattle.wire_text.specs.Wire.{IsBytes}
use Rattle.agent_model.specs.Events.{Happening, Timed, Joined, Heard, Ended, Took, Started, StartFailed, Tick}

-- what is heard are bytes: each is below 256
abbrev pub IsOfBytes : Happening → Type 0
IsOfBytes (Joined door) = Unit {0}
IsOfBytes (Heard port piece) = IsBytes piece
IsOfBytes (Ended port) = Unit {0}
IsOfBytes (Took port count) = Unit {0}
IsOfBytes (Started job ticket) = Unit {0}
IsOfBytes (StartFailed job) = Unit {0}
IsOfBytes Tick = Unit {0}

-- so at each of these events
abbrev pub AreOfBytes : List Timed → Type 0
AreOfBytes [] = Unit {0}
AreOfBytes (timed ∷ later) = IsOfBytes timed.event × AreOfBytes later
