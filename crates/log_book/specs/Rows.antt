-- Literal things that are seen of a client at port 1, and what is told of them (ours).
use Rattle.std.specs.Prelude.{ℕ, Bool, List, [], ◌∷◌, Option, None}
use Rattle.log_book.specs.declared.told.Fate.{Fate}
use Rattle.log_book.specs.declared.told.Told.{Told}
use Rattle.log_book.specs.declared.sight.Sight.{Sight}
use Rattle.log_book.specs.declared.sight.What.{What}
use Rattle.log_book.specs.declared.sight.What.TheVariants as what

-- seen at a second, when so many helpers were lost
abbrev pub at : ℕ → ℕ → What → Sight
at wall faults seen = record { wall = wall; faults = faults; what = seen }

-- the frame of a request for a signature of "m" by the key of the blob "k"
abbrev pub ask : List ℕ
ask = 0 ∷ 0 ∷ 0 ∷ 15 ∷ 13 ∷ 0 ∷ 0 ∷ 0 ∷ 1 ∷ 107 ∷ 0 ∷ 0 ∷ 0 ∷ 1 ∷ 109 ∷ 0 ∷ 0 ∷ 0 ∷ 0 ∷ []

-- SIGN_RESPONSE with the signature "s"
abbrev pub signature : List ℕ
signature = 0 ∷ 0 ∷ 0 ∷ 6 ∷ 14 ∷ 0 ∷ 0 ∷ 0 ∷ 1 ∷ 115 ∷ []

-- FAILURE
abbrev pub failure : List ℕ
failure = 0 ∷ 0 ∷ 0 ∷ 1 ∷ 5 ∷ []

-- the client asks at second 5
abbrev pub asks : Sight
asks = at 5 0 (what.Sent 1 ask)

-- the request is put to the helper
abbrev pub puts : Sight
puts = at 6 0 (what.Put 1)

-- what is told of that request
abbrev pub one : ℕ → Bool → Option ℕ → Fate → List Told
one wall raised put fate = record {
  wall = wall;
  port = 1;
  blob = 107 ∷ [];
  comment = None;
  message = 109 ∷ [];
  course = record { since = 5; raised = raised; put = put };
  fate = fate;
} ∷ []
