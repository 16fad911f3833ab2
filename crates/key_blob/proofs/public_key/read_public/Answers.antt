use Rattle.std.proofs.Common.{◌≡◌, ℕ, ◌<◌, List, Result, Ok, Err, arith}
use Rattle.std.specs.Prelude.{IfOk, IsOkAnd, MatchResult}
use Rattle.std.proofs.lemmas.List.Elements.{All-from_get_or}
use Rattle.wire_text.specs.Wire.{IsBytes}
use Rattle.key_blob.specs.declared.fault.KeyFault.{KeyFault}
use Rattle.key_blob.specs.declared.fault.KeyFault.TheVariants.{Memory}
use Rattle.key_blob.specs.declared.public_key.PublicKey.{PublicKey}
use Rattle.key_blob.specs.PublicKeys.{KeyParts, parts_of, IsPublicKey, public_key_of}
use Rattle.key_blob.proofs.FaultLemmas.{public_needs_none}
use Rattle.key_blob.proofs.PublicLemmas.{public_is_found, public_is_read}
use Rattle.key_blob.proofs.public_key.read_public.Goals as goal

-- the answer is what the reading gives
abbrev IsAnswer : List ℕ → Result PublicKey KeyFault → Type 0
IsAnswer bytes r = MatchResult r (λ key. public_key_of bytes ≡ Ok (parts_of key)) (λ fault. public_key_of bytes ≡ Err fault)

found_by : (bytes : List ℕ) (r : Result PublicKey KeyFault) → IsBytes bytes → IsAnswer bytes r → IfOk r (λ key. IsPublicKey bytes (parts_of key))
found_by bytes (Ok key) small answer = public_is_found bytes (parts_of key) small answer
found_by bytes (Err fault) small answer = tt

only_by : (bytes : List ℕ) (r : Result PublicKey KeyFault) (key : KeyParts) → IsPublicKey bytes key → IsAnswer bytes r → IsOkAnd r (λ read. parts_of read ≡ key)
only_by bytes (Ok read) key is answer =
    let expected = public_is_read bytes key is in
    cc
only_by bytes (Err fault) key is answer =
    let expected = public_is_read bytes key is in
    cc

no_memory_by : (bytes : List ℕ) (r : Result PublicKey KeyFault) → IsAnswer bytes r → r ≡ Err Memory → ⊥
no_memory_by bytes (Ok key) answer e = cc
no_memory_by bytes (Err fault) answer e =
    let same : fault ≡ Memory = cc in
    let read : public_key_of bytes ≡ Err Memory = cc in
    public_needs_none bytes read

pub returns-clause-found : goal.returns-clause-found
returns-clause-found c =
    found_by c.args.bytes.now c.key_in.result (All-from_get_or (λ byte. byte < 256) c.args.bytes.now 0 (λ i _. omega (arith, c.type_inv.bytes i))) c.key_in.ensures

pub returns-clause-only : goal.returns-clause-only
returns-clause-only c = λ key is. only_by c.args.bytes.now c.key_in.result key is c.key_in.ensures

pub returns-clause-no_memory : goal.returns-clause-no_memory
returns-clause-no_memory c = no_memory_by c.args.bytes.now c.key_in.result c.key_in.ensures
