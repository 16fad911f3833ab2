-- What a drill draws, and what its helper sends, are bytes.
use Rattle.std.proofs.Common.{◌≡◌, ℕ, ◌+◌, ◌<◌, ◌^◌, ◌%◌, ◌/◌, ◌==◌, nat_lt, ◌&&◌, Bool, true, false, if◌then◌else◌, List, [], ◌∷◌, ◌++◌, length, replicate, codes, decimal, refl, arith}
use Rattle.std.proofs.lemmas.Bool.Decides.{nat_tests}
use Rattle.std.proofs.lemmas.Fmt.{IsAscii-decimal}
use Rattle.std.proofs.lemmas.List.Elements.{All-append, All-cons, All-nil, All-replicate, All-weaker}
use Rattle.std.proofs.lemmas.Str.Ascii.{All-from_ascii}
use Rattle.wire_text.specs.Wire.{IsBytes, string, uint32, uint64}
use Rattle.child_msg.specs.ChildFrames.{from_child_body}
use Rattle.child_msg.specs.Messages.{Hello, Signed}
use Rattle.replay_run.specs.Draws.{Asking, Draws, asking_of, blob_of, constrained, draw_of, draws_of, key_of, next_number, plain_body, signing_of}

-- ---- lists

no_bytes : IsBytes []
no_bytes = All-nil (λ byte. byte < 256)

before : (byte : ℕ) (bytes : List ℕ) → byte < 256 → IsBytes bytes → IsBytes (byte ∷ bytes)
before byte bytes small are = All-cons (λ byte. byte < 256) byte bytes small are

both : (some later : List ℕ) → IsBytes some → IsBytes later → IsBytes (some ++ later)
both some later are also = All-append (λ byte. byte < 256) some later are also

same : (byte count : ℕ) → byte < 256 → IsBytes (replicate count byte)
same byte count small = All-replicate (λ byte. byte < 256) count byte small

-- by a test
are_bytes : List ℕ → Bool
are_bytes [] = true
are_bytes (byte ∷ bytes) = nat_lt byte 256 && are_bytes bytes

tested_by : (small : Bool) (byte : ℕ) (bytes : List ℕ) → nat_lt byte 256 ≡ small → (small && are_bytes bytes) ≡ true
    → (are_bytes bytes ≡ true → IsBytes bytes) → IsBytes (byte ∷ bytes)
tested_by true byte bytes small is rest = before byte bytes (grind (arith, nat_tests)) (rest is)
tested_by false byte bytes small is rest = absurd (cc)

tested : (bytes : List ℕ) → are_bytes bytes ≡ true → IsBytes bytes
unfolding are_bytes
tested [] is = no_bytes
tested (byte ∷ bytes) is = tested_by (nat_lt byte 256) byte bytes refl is (tested bytes)

-- ---- fields

four : (a b c d : ℕ) (bytes : List ℕ) → IsBytes bytes → IsBytes (a % 256 ∷ b % 256 ∷ c % 256 ∷ d % 256 ∷ bytes)
four a b c d bytes are =
    before (a % 256) (b % 256 ∷ c % 256 ∷ d % 256 ∷ bytes) (omega arith)
    (before (b % 256) (c % 256 ∷ d % 256 ∷ bytes) (omega arith)
    (before (c % 256) (d % 256 ∷ bytes) (omega arith) (before (d % 256) bytes (omega arith) are)))

uint32-bytes : (value : ℕ) → IsBytes (uint32 value)
unfolding uint32
uint32-bytes value = four (value / 16777216) (value / 65536) (value / 256) value [] no_bytes

pub uint64-bytes : (value : ℕ) → IsBytes (uint64 value)
unfolding uint64
uint64-bytes value =
    four (value / 72057594037927936) (value / 281474976710656) (value / 1099511627776) (value / 4294967296)
    (value / 16777216 % 256 ∷ value / 65536 % 256 ∷ value / 256 % 256 ∷ value % 256 ∷ [])
    (four (value / 16777216) (value / 65536) (value / 256) value [] no_bytes)

pub string-bytes : (text : List ℕ) → IsBytes text → IsBytes (string text)
unfolding string
string-bytes text are = both (uint32 (length text)) text (uint32-bytes (length text)) are

decimal-bytes : (number : ℕ) → number < 2 ^ 64 → IsBytes (decimal number)
decimal-bytes number small =
    All-weaker (λ byte. byte < 128) (λ byte. byte < 256) (λ byte low. omega (arith, low)) (decimal number)
    (All-from_ascii (decimal number) (IsAscii-decimal number small))

-- ---- requests

name-bytes : IsBytes (codes "keyed-sha256@example.com")
unfolding are_bytes
name-bytes = tested (codes "keyed-sha256@example.com") refl

blob-bytes : (key : ℕ) → key < 128 → IsBytes (blob_of key)
blob-bytes key small =
    both (string (codes "keyed-sha256@example.com")) (string (replicate 32 key)) (string-bytes (codes "keyed-sha256@example.com") name-bytes)
    (string-bytes (replicate 32 key) (same key 32 (omega (arith, small))))

key-bytes : (key round : ℕ) → key < 128 → round < 2 ^ 64 → IsBytes (key_of key round)
key-bytes key round small few =
    let secret = string (replicate 32 (128 + key)) in
    let comment = string (decimal round) in
    both (blob_of key) (secret ++ comment) (blob-bytes key small)
    (both secret comment (string-bytes (replicate 32 (128 + key)) (same (128 + key) 32 (omega (arith, small))))
    (string-bytes (decimal round) (decimal-bytes round few)))

constrained-bytes : (key round number : ℕ) → key < 128 → round < 2 ^ 64 → IsBytes (constrained key round number).body
constrained-bytes key round number small few =
    let life = uint32 (1 + draw_of 50 (next_number number)) in
    before 25 (key_of key round ++ 1 ∷ life) (omega arith)
    (both (key_of key round) (1 ∷ life) (key-bytes key round small few)
    (before 1 life (omega arith) (uint32-bytes (1 + draw_of 50 (next_number number)))))

signing-bytes : (key round : ℕ) → key < 128 → IsBytes (signing_of key round)
signing-bytes key round small =
    let blob = string (blob_of key) in
    let message = string (uint64 round) in
    before 13 (blob ++ (message ++ uint32 0)) (omega arith)
    (both blob (message ++ uint32 0) (string-bytes (blob_of key) (blob-bytes key small))
    (both message (uint32 0) (string-bytes (uint64 round) (uint64-bytes round)) (uint32-bytes 0)))

either : (test : Bool) (one other : List ℕ) → IsBytes one → IsBytes other → IsBytes (if test then one else other)
either true one other are also = are
either false one other are also = also

plain-bytes : (kind key round : ℕ) → key < 128 → round < 2 ^ 64 → IsBytes (plain_body kind key round)
plain-bytes kind key round small few =
    either (nat_lt kind 2) _ _ (before 17 (key_of key round) (omega arith) (key-bytes key round small few))
    (either (kind == 3) _ _ (before 18 (string (blob_of key)) (omega arith) (string-bytes (blob_of key) (blob-bytes key small)))
    (either (kind == 4) _ _ (before 11 [] (omega arith) no_bytes)
    (either (nat_lt kind 7) _ _ (signing-bytes key round small) (before 200 [] (omega arith) no_bytes))))

by_kind : (test : Bool) (one other : Asking) → IsBytes one.body → IsBytes other.body
    → IsBytes (if test then one else other).body
by_kind true one other are also = are
by_kind false one other are also = also

-- whatever is drawn
pub asking-bytes : (kind key round number : ℕ) → key < 128 → round < 2 ^ 64 → IsBytes (asking_of kind key round number).body
unfolding asking_of
asking-bytes kind key round number small few =
    by_kind (kind == 2) (constrained key round number) (record { body = plain_body kind key round; number = number })
    (constrained-bytes key round number small few) (plain-bytes kind key round small few)

-- the second of three draws
pub two-small : (number : ℕ) → (draws_of 8 64 8 number).two < 128
unfolding draws_of
two-small number = omega arith

-- ---- the helper

pub hello-bytes : IsBytes (from_child_body (Hello 1 (replicate 16 0)))
hello-bytes =
    before 1 (uint64 1 ++ string (replicate 16 0)) (omega arith)
    (both (uint64 1) (string (replicate 16 0)) (uint64-bytes 1) (string-bytes (replicate 16 0) (same 0 16 (omega arith))))

pub signed-bytes : (ask round : ℕ) → IsBytes (from_child_body (Signed ask (uint64 round)))
signed-bytes ask round =
    before 101 (uint64 ask ++ string (uint64 round)) (omega arith)
    (both (uint64 ask) (string (uint64 round)) (uint64-bytes ask) (string-bytes (uint64 round) (uint64-bytes round)))
