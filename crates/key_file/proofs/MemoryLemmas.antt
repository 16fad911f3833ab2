-- Want of memory is the body's own fault, and never carried as the key's.
use Rattle.std.proofs.Common.{◌≡◌, ℕ, ◌%◌, Bool, true, false, cond, eqb, List, [], ◌∷◌, length, take, drop, Option, Some, None, Result, Ok, Err}
use Rattle.std.specs.Option.{ok_or}
use Rattle.std.specs.Str.{bytes_eq}
use Rattle.wire_core.specs.Fields.{string_at, uint32_at}
use Rattle.key_blob.specs.declared.fault.KeyFault.{KeyFault}
use Rattle.key_blob.specs.declared.fault.KeyFault.TheVariants as key_fault
use Rattle.key_file.specs.declared.fault.KeyFileFault.{KeyFileFault}
use Rattle.key_file.specs.declared.fault.KeyFileFault.TheVariants.{Base64, Magic, Short, Cipher, Count, Block, Check, Padding, Key, OtherKey}
use Rattle.key_file.specs.Base64.{bytes_of}
use Rattle.key_file.specs.Bodies.{magic, none, padding}
use Rattle.key_file.specs.BodyReading.{◌>>=◌, text_at, u32_at, after_magic, after_text, after_count, blocks_at, after_checks, in_body, private_of, ended, body_of, encoded_file}
use Rattle.key_file.specs.Faults.{body_fault}
use Rattle.key_file.specs.PlainKeys.{plain_key_at}

-- the reading doesn't carry want of memory
abbrev pub CarriesNone : {A : Type 0} → Result A KeyFileFault → Type 0
CarriesNone r = r ≡ Err (Key key_fault.Memory) → ⊥

then_none : {A B : Type 0} (r : Result A KeyFileFault) (f : A → Result B KeyFileFault)
    → CarriesNone r → ((x : A) → CarriesNone (f x)) → CarriesNone (r >>= f)
then_none (Ok x) f first second e = second x e
then_none (Err fault) f first second e = first cc

or_none : {A : Type 0} (o : Option A) (fault : KeyFileFault) → (fault ≡ Key key_fault.Memory → ⊥)
    → CarriesNone (ok_or o fault)
or_none (Some x) fault other e = cc
or_none None fault other e = other cc

guard_none : {A : Type 0} (b : Bool) (x : A) (fault : KeyFileFault)
    → (fault ≡ Key key_fault.Memory → ⊥) → CarriesNone (cond b (Ok x) (Err fault))
guard_none true x fault other e = cc
guard_none false x fault other e = other cc

text_none : (bytes : List ℕ) → CarriesNone (text_at bytes)
text_none bytes = or_none (string_at bytes) Short (λ e. cc)

number_none : (bytes : List ℕ) → CarriesNone (u32_at bytes)
number_none bytes = or_none (uint32_at bytes) Short (λ e. cc)

magic_none : (bytes : List ℕ) → CarriesNone (after_magic bytes)
unfolding after_magic
magic_none bytes = guard_none (bytes_eq (take (length magic) bytes) magic) (drop (length magic) bytes) Magic (λ e. cc)

this_text_none : (wanted bytes : List ℕ) → CarriesNone (after_text wanted bytes)
unfolding after_text
this_text_none wanted bytes = then_none (text_at bytes) _ (text_none bytes) (λ text. guard_none (bytes_eq text.0 wanted) text.1 Cipher (λ e. cc))

count_none : (bytes : List ℕ) → CarriesNone (after_count bytes)
unfolding after_count
count_none bytes = then_none (u32_at bytes) _ (number_none bytes) (λ count. guard_none (eqb count.0 1) count.1 Count (λ e. cc))

blocks_none : (bytes : List ℕ) → CarriesNone (blocks_at bytes)
unfolding blocks_at
blocks_none bytes = then_none (text_at bytes) _ (text_none bytes) (λ part. guard_none (eqb (length part.0 % 8) 0) part Block (λ e. cc))

checks_none : (bytes : List ℕ) → CarriesNone (after_checks bytes)
unfolding after_checks
checks_none bytes =
    then_none (u32_at bytes) _ (number_none bytes) (λ first. then_none (u32_at first.1) _ (number_none first.1)
    (λ second. guard_none (eqb first.0 second.0) second.1 Check (λ e. cc)))

not_carried : (fault : KeyFault) → body_fault fault ≡ Key key_fault.Memory → ⊥
not_carried key_fault.Short e = cc
not_carried key_fault.UnknownType e = cc
not_carried key_fault.BadLength e = cc
not_carried key_fault.Mismatch e = cc
not_carried key_fault.Trailing e = cc
not_carried key_fault.Memory e = cc

key_none : {A : Type 0} (read : Result A KeyFault) → CarriesNone (in_body read)
key_none (Ok x) e = cc
key_none (Err fault) e = not_carried fault cc

private_none : (bytes : List ℕ) → CarriesNone (private_of bytes)
unfolding private_of
private_none bytes =
    then_none (after_checks bytes) _ (checks_none bytes) (λ rest. then_none (in_body (plain_key_at rest)) _ (key_none (plain_key_at rest))
    (λ key. then_none (text_at key.1) _ (text_none key.1)
    (λ comment. guard_none (bytes_eq (take (length comment.1) padding) comment.1) (record { key = key.0; comment = comment.0 }) Padding (λ e. cc))))

ended_none : (rest : List ℕ) → CarriesNone (ended rest)
ended_none [] e = cc
ended_none (byte ∷ rest) e = cc

body_none : (bytes : List ℕ) → CarriesNone (body_of bytes)
unfolding body_of
body_none bytes =
    then_none (after_magic bytes) _ (magic_none bytes) (λ a. then_none (after_text none a) _ (this_text_none none a)
    (λ b. then_none (after_text none b) _ (this_text_none none b) (λ c. then_none (after_text [] c) _ (this_text_none [] c)
    (λ d. then_none (after_count d) _ (count_none d) (λ e. then_none (text_at e) _ (text_none e)
    (λ blob. then_none (blocks_at blob.1) _ (blocks_none blob.1) (λ part. then_none (ended part.1) _ (ended_none part.1)
    (λ end. then_none (private_of part.0) _ (private_none part.0)
    (λ file. guard_none (bytes_eq file.key.blob blob.0) file OtherKey (λ e. cc))))))))))

pub encoded_none : (text : List ℕ) → CarriesNone (encoded_file text)
unfolding encoded_file
encoded_none text = then_none (ok_or (bytes_of text) Base64) body_of (or_none (bytes_of text) Base64 (λ e. cc)) body_none
