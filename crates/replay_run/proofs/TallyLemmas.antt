-- Lemmas on what is drawn, and on the frames that are counted: requests are short, and a frame in front is found.
use Rattle.std.proofs.Common.{◌≡◌, sym, ℕ, ◌^◌, ◌==◌, ◌<◌, ◌≤◌, Bool, true, false, List, [], ◌∷◌, ◌++◌, length, refl, ap, ◌∙◌, arith, nat_lt, if◌then◌else◌, decimal, length-append}
use Rattle.std.proofs.lemmas.Fmt.{length-decimal-le}
use Rattle.wire_text.specs.Bounds.{longest_to_child}
use Rattle.wire_text.specs.Frames.{Whole, after_front, front, front_body, split, then_split}
use Rattle.wire_text.proofs.SplitLemmas.{length-after_front, split-whole}
use Rattle.wire_text.specs.Wire.{string, uint64}
use Rattle.wire_text.proofs.WireLemmas.{length-string, length-uint64, wire_lengths}
use Rattle.child_msg.specs.ChildFrames.{from_child_body}
use Rattle.child_msg.specs.Messages.{Hello, Signed}
use Rattle.std.proofs.KnownBytes.{Appends-nil}
use Rattle.world_ports.specs.Streams.{StreamView, WritesPart}
use Rattle.replay_run.specs.Draws.{Asking, asking_of, blob_of, constrained, key_of, plain_body}
use Rattle.replay_run.specs.Drill.{ticket}

-- ---- short requests

short_if : (test : Bool) (a b : List ℕ) → length a < 2 ^ 32 → length b < 2 ^ 32
    → length (if test then a else b) < 2 ^ 32
short_if true a b first second = first
short_if false a b first second = second

length-blob_of : (key : ℕ) → length (blob_of key) ≡ 64
length-blob_of key = simp (wire_lengths, length-append) refl

length-digits : (n : ℕ) → n < 2 ^ 64 → length (decimal n) ≤ 20
length-digits n small = length-decimal-le 20 n (omega arith) (omega arith) small

key_of-short : (key round : ℕ) → round < 2 ^ 64 → length (key_of key round) ≤ 124
key_of-short key round small =
    let digits = length-digits round small in
    simp (wire_lengths, length-append) (omega arith)

short_key : (number key round : ℕ) → round < 2 ^ 64 → length (number ∷ key_of key round) < 2 ^ 32
short_key number key round small = omega (arith, key_of-short key round small)

short_constrained : (key round number : ℕ) → round < 2 ^ 64
    → length (constrained key round number).body < 2 ^ 32
short_constrained key round number small =
    let digits = length-digits round small in
    simp (wire_lengths, length-append) (omega arith)

plain_short : (kind key round : ℕ) → round < 2 ^ 64 → length (plain_body kind key round) < 2 ^ 32
plain_short kind key round small =
    short_if (nat_lt kind 2) _ _ (short_key 17 key round small)
    (short_if (kind == 3) _ _ (simp (wire_lengths, length-append) (omega arith))
    (short_if (kind == 4) _ _ (omega arith)
    (short_if (nat_lt kind 7) _ _ (simp (wire_lengths, length-append) (omega arith)) (omega arith))))

asking_short : (test : Bool) (key round number : ℕ) (other : Asking) → round < 2 ^ 64
    → length other.body < 2 ^ 32
    → length (if test then constrained key round number else other).body < 2 ^ 32
asking_short true key round number other small short = short_constrained key round number small
asking_short false key round number other small short = short

pub asking_of-short : (kind key round number : ℕ) → round < 2 ^ 64
    → length (asking_of kind key round number).body < 2 ^ 32
unfolding asking_of
asking_of-short kind key round number small =
    asking_short (kind == 2) key round number (record { body = plain_body kind key round; number = number }) small (plain_short kind key round small)

pub signed-short : (ask round : ℕ) → length (from_child_body (Signed ask (uint64 round))) < 2 ^ 32
signed-short ask round = simp (wire_lengths, length-append) (omega arith)

pub hello-short : length (from_child_body (Hello 1 ticket)) < 2 ^ 32
hello-short = simp (wire_lengths, length-append) (omega arith)

-- ---- what is put together

pub blob-short : (items : List ℕ) (key : ℕ) → items ≡ blob_of key → length items < 2 ^ 32
blob-short items key is = omega (arith, ap length is, length-blob_of key)

pub digits-size : (items : List ℕ) (n : ℕ) → items ≡ decimal n → n < 2 ^ 64 → length items < 21
digits-size items n is small = omega (arith, ap length is, length-digits n small)

pub eight-size : (items : List ℕ) (n : ℕ) → items ≡ uint64 n → length items ≡ 8
eight-size items n is = ap length is ∙ length-uint64 n

-- ---- the frame in front

-- its body, and all that follows it
pub first_whole : (bytes body rest : List ℕ) → Whole (length body) ≡ front longest_to_child bytes
    → (body ≡ front_body (length body) bytes) × (rest ≡ after_front (length body) bytes)
    → split longest_to_child bytes ≡ then_split (body ∷ []) (split longest_to_child rest)
first_whole bytes body rest found cut =
    split-whole longest_to_child bytes (length body) (sym found)
    ∙ ap (λ (b : List ℕ). then_split (b ∷ []) (split longest_to_child (after_front (length body) bytes))) (sym cut.0)
    ∙ ap (λ (r : List ℕ). then_split (body ∷ []) (split longest_to_child r)) (sym cut.1)

-- fewer bytes follow it
pub first_shorter : (bytes body rest : List ℕ) → Whole (length body) ≡ front longest_to_child bytes
    → (body ≡ front_body (length body) bytes) × (rest ≡ after_front (length body) bytes)
    → length rest < length bytes
first_shorter bytes body rest found cut =
    omega (arith, length-after_front longest_to_child bytes (length body) (sym found), ap (λ (l : List ℕ). length l) cut.1)

-- ---- bytes behind none

pub put_behind : (out before body : List ℕ) → out ≡ before ++ body → before ≡ [] → out ≡ body
put_behind out before body out_is before_is = out_is ∙ ap (λ (xs : List ℕ). xs ++ body) before_is

pub as_short : (out body : List ℕ) → out ≡ body → length body < 2 ^ 32 → length out < 2 ^ 32
as_short out body is short = omega (arith, ap length is, short)

pub some_string : (body : List ℕ) → 0 < length (string body)
some_string body = omega (arith, length-string body)

-- nothing was written of a text
pub nothing_told : (all : List ℕ) (seen : StreamView) → WritesPart all seen seen
nothing_told all seen =
    (all, record { front = []; whole = refl; written = Appends-nil seen.written })
