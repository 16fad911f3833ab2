-- Lemmas on numbers as bytes.
use Rattle.std.proofs.Common.{◌≡◌, ◌≤◌, ◌<◌, ◌+◌, ◌-◌, ℕ, zero, suc, List, [], ◌∷◌, ◌++◌, length, drop, take, replicate, Result, Ok, Err, OnOk, refl, ap, sym, ◌∙◌, append_assoc, arith, ne_eqb, slice_index_or}
use borrow.Rule.Slice.PartMut.{put_mid}
use Rattle.std.proofs.lemmas.Bool.{le-leb, lt-leb}
use Rattle.std.proofs.lemmas.List.{append-nil, drop_all, drop_at, length-append, length-drop, length-replicate, take-replicate, take_at}
use Rattle.key_wire.specs.declared.fault.KeyFault.TheVariants.{Unfit}
use Rattle.rsa_numbers.specs.Numbers.{low, value, weight}
use Rattle.rsa_octets.specs.Octets.{os2ip, significant}
use Rattle.signer_keys.specs.Numbers.{filled, small}
use Rattle.wire_text.proofs.WireLemmas.{length-string}
use Rattle.wire_text.specs.Wire.{string, uint32}

-- what is significant is no longer
pub length-significant : (octets : List ℕ) → length (significant octets) ≤ length octets
unfolding significant
length-significant [] = omega arith
length-significant (zero ∷ octets) = omega (arith, length-significant octets)
length-significant (suc n ∷ octets) = rw (ne_eqb (suc n) 0 (λ e. omega (arith, e))) (omega arith)

-- a number that has no more bytes than are wanted
pub filled-short : (len : ℕ) (bytes : List ℕ) → length bytes ≤ len
    → filled len bytes ≡ Ok (replicate (len - length bytes) 0 ++ bytes)
unfolding filled
filled-short len bytes short = rw (le-leb (length bytes) len short) refl

pub filled-long : (len : ℕ) (bytes : List ℕ) → len < length bytes → filled len bytes ≡ Err Unfit
unfolding filled
filled-long len bytes long = rw (lt-leb (length bytes) len long) refl

-- a write over the end of zeros
pub placed : (len : ℕ) (bytes new : List ℕ) → length bytes ≤ len → new ≡ bytes
    → put_mid (len - length bytes) (len - (len - length bytes)) (replicate len 0) new ≡ replicate (len - length bytes) 0 ++ bytes
placed len bytes new short is =
    let zeros : ℕ = len - length bytes in
    let all : List ℕ = replicate len 0 in
    let size : length all ≡ len = length-replicate {A = ℕ} len 0 in
    let left : length (drop zeros all) ≤ len - zeros = omega (arith, length-drop {A = ℕ} zeros all, size) in
    let none : drop (len - zeros) (drop zeros all) ≡ [] = drop_all (len - zeros) (drop zeros all) left in
    let front : take zeros all ≡ replicate zeros 0 = take-replicate {X = ℕ} zeros len 0 (omega arith) in
    ap (λ (f : List ℕ). f ++ (new ++ drop (len - zeros) (drop zeros all))) front
    ∙ ap (λ (r : List ℕ). replicate zeros 0 ++ (new ++ r)) none
    ∙ ap (λ (b : List ℕ). replicate zeros 0 ++ b) (append-nil new ∙ is)

-- the same as what is filled
pub filled-placed : (len : ℕ) (bytes new : List ℕ) → length bytes ≤ len → new ≡ bytes
    → filled len bytes ≡ Ok (put_mid (len - length bytes) (len - (len - length bytes)) (replicate len 0) new)
filled-placed len bytes new short is = rw (placed len bytes new short is) (filled-short len bytes short)

-- the number of one word
value-word : (word : ℕ) → value (word ∷ []) ≡ word
unfolding value low weight
value-word word = omega arith

value-one : (words : List ℕ) → length words ≡ 1 → value words ≡ slice_index_or words 0 0
value-one [] one = absurd (omega (arith, one))
value-one (word ∷ []) one = value-word word
value-one (word ∷ (next ∷ more)) one = absurd (omega (arith, one))

-- a number that fits a word
pub small-word : (bytes words : List ℕ) → length bytes ≤ 8 → length words ≡ 1
    → value words ≡ os2ip bytes
    → small bytes ≡ Ok (slice_index_or words 0 0)
unfolding small
small-word bytes words short one is =
    rw (le-leb (length bytes) 8 short, sym (value-one words one), is) refl

-- a string that begins with a zero
zero-string : (bytes : List ℕ) (len : ℕ) → len ≡ length bytes + 1
    → uint32 len ++ (0 ∷ bytes) ≡ string (0 ∷ bytes)
unfolding string
zero-string bytes len is =
    let more : len ≡ length (0 ∷ bytes) = omega (arith, is) in
    ap (λ (n : ℕ). uint32 n ++ (0 ∷ bytes)) more

-- its parts, appended one after the other
pub zero-put : (out one two now bytes : List ℕ) (len : ℕ) → one ≡ out ++ uint32 len
    → two ≡ one ++ 0 ∷ [] → now ≡ two ++ bytes
    → len ≡ length bytes + 1 → now ≡ out ++ string (0 ∷ bytes)
zero-put out one two now bytes len first second third is =
    third ∙ ap (λ (l : List ℕ). l ++ bytes) (second ∙ ap (λ (l : List ℕ). l ++ 0 ∷ []) first)
    ∙ append_assoc (out ++ uint32 len) (0 ∷ []) bytes ∙ append_assoc out (uint32 len) (0 ∷ bytes)
    ∙ ap (λ (l : List ℕ). out ++ l) (zero-string bytes len is)

-- what follows of what holds where there is a value
pub on_ok : {A E P Q : Type 0} (r : Result A E) → OnOk r P → (P → Q) → OnOk r Q
on_ok (Ok x) holds then = then holds
on_ok (Err e) holds then = holds

-- the length of a text to which a string was added
pub length-put : (before now text : List ℕ) → now ≡ before ++ string text
    → length now ≡ length before + 4 + length text
length-put before now text is =
    ap length is ∙ length-append before (string text) ∙ ap (λ (n : ℕ). length before + n) (length-string text) ∙ omega arith

-- a write over what follows as many bytes
pub joined : (len : ℕ) (front bytes tail : List ℕ) → length front ≡ len → length tail ≡ len
    → put_mid len len (front ++ tail) bytes ≡ front ++ bytes
joined len front bytes tail long rest =
    let behind : drop len (front ++ tail) ≡ tail = drop_at front tail len long in
    let none : drop len (drop len (front ++ tail)) ≡ [] = ap (drop len) behind ∙ drop_all len tail (omega (arith, rest)) in
    ap (λ (f : List ℕ). f ++ (bytes ++ drop len (drop len (front ++ tail)))) (take_at front tail len long)
    ∙ ap (λ (r : List ℕ). front ++ (bytes ++ r)) none ∙ ap (λ (m : List ℕ). front ++ m) (append-nil bytes)
