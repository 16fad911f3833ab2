-- What a seed draws for a drill (ours: docs/PROTOCOL.md, "The drill"): in each round a client, a key and a request.
use Rattle.std.specs.Prelude.{ℕ, ◌+◌, ◌*◌, ◌/◌, ◌%◌, ◌^◌, ◌==◌, nat_lt, if◌then◌else◌, List, [], ◌∷◌, ◌++◌, replicate, codes, decimal}
use Rattle.wire_text.specs.Wire.{uint32, uint64, string}

-- ---- numbers

-- the number behind another: the linear congruential generator of Knuth's MMIX
abbrev pub next_number : ℕ → ℕ
next_number number = (number * 6364136223846793005 + 1442695040888963407) % 2 ^ 64

-- what a number gives below a bound, by its 31 high bits
abbrev pub draw_of : ℕ → ℕ → ℕ
draw_of bound number = (number / 2 ^ 33) % bound

-- what three draws give below these bounds, and the number that they leave
pub record Draws : Type 0 where
  pub one : ℕ
  pub two : ℕ
  pub three : ℕ
  pub number : ℕ

-- three draws below these numbers, one after another, and the number that they leave
unfoldable pub draws_of : ℕ → ℕ → ℕ → ℕ → Draws
draws_of one two three number =
    let first = next_number number in
    let second = next_number first in
    let third = next_number second in
    record { one = draw_of one first; two = draw_of two second; three = draw_of three third; number = third }

-- ---- keys

-- the public blob of key k: a key for tests, whose tag is the byte k, 32 times
abbrev pub blob_of : ℕ → List ℕ
blob_of key = string (codes "keyed-sha256@example.com") ++ string (replicate 32 key)

-- key k with its secret, the byte 128 + k, 32 times, and a comment: the round in decimal
abbrev pub key_of : ℕ → ℕ → List ℕ
key_of key round = blob_of key ++ (string (replicate 32 (128 + key)) ++ string (decimal round))

-- ---- requests

-- the body of a request that is drawn, and the number that its draws leave
pub record Asking : Type 0 where
  pub body : List ℕ
  pub number : ℕ

-- ADD_ID_CONSTRAINED of key k with a lifetime of 1 to 50 seconds, which is drawn
abbrev pub constrained : ℕ → ℕ → ℕ → Asking
constrained key round number = record {
  body = 25 ∷ (key_of key round ++ (1 ∷ uint32 (1 + draw_of 50 (next_number number))));
  number = next_number number;
}

-- SIGN_REQUEST with key k, of the eight bytes of the round
abbrev pub signing_of : ℕ → ℕ → List ℕ
signing_of key round = 13 ∷ (string (blob_of key) ++ (string (uint64 round) ++ uint32 0))

-- the body of a kind for which nothing more is drawn: ADD_IDENTITY by two of them, REMOVE_IDENTITY, REQUEST_IDENTITIES,
-- SIGN_REQUEST by two, and a number that no request has
abbrev pub plain_body : ℕ → ℕ → ℕ → List ℕ
plain_body kind key round =
    if nat_lt kind 2 then 17 ∷ key_of key round
    else if kind == 3 then 18 ∷ string (blob_of key)
    else if kind == 4 then 11 ∷ []
    else if nat_lt kind 7 then signing_of key round
    else 200 ∷ []

-- the request of this kind for key k in this round
unfoldable pub asking_of : ℕ → ℕ → ℕ → ℕ → Asking
asking_of kind key round number =
    if kind == 2 then constrained key round number
    else record { body = plain_body kind key round; number = number }
