-- What stands behind the whole frames of a client (ours).
use Rattle.std.specs.Prelude.{Bool, true, false, List, [], ℕ, take}
use Rattle.wire_text.specs.Frames.{Front, Whole, Bad, More}

-- a bad length stands there
abbrev pub ends_badly : Front → Bool
ends_badly (Bad announced) = true
ends_badly (Whole body_len) = false
ends_badly More = false

-- the first four bytes of a bad rest
abbrev pub rest_bytes : Front → List ℕ → List ℕ
rest_bytes (Bad announced) rest = take 4 rest
rest_bytes (Whole body_len) rest = []
rest_bytes More rest = []
