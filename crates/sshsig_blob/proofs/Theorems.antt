-- The reading and the grammar are one.
use Rattle.std.proofs.Common.{◌≡◌, ℕ, List, Result, Ok, Err, IfOk}
use Rattle.std.specs.Prelude.{◌↔◌, IsOkAnd}
use Rattle.wire_text.specs.Wire.{IsBytes}
use Rattle.wire_core.specs.Readings.{IsAnswer}
use Rattle.sshsig_blob.specs.declared.fault.SshsigFault.{SshsigFault}
use Rattle.sshsig_blob.specs.declared.sshsig.SignedData.{SignedData}
use Rattle.sshsig_blob.specs.FileSignatures.{Signing, signing, IsSshsig}
use Rattle.sshsig_blob.specs.Reading.{signing_of}
use Rattle.sshsig_blob.proofs.FoundLemmas.{sshsig_is_found}
use Rattle.sshsig_blob.proofs.ReadLemmas.{sshsig_is_read}

pub reading_is_sshsig : (message : List ℕ) (signed : Signing) → IsBytes message → (signing_of message ≡ Ok signed) ↔ IsSshsig message signed
reading_is_sshsig message signed small = (sshsig_is_found message signed small, sshsig_is_read message signed)

-- what the code reads is the signed data of a file's signature
pub sshsig_found : (message : List ℕ) (answer : Result SignedData SshsigFault) → IsBytes message → IsAnswer signing answer (signing_of message) →
    IfOk answer (λ lent. IsSshsig message (signing lent))
sshsig_found message (Ok lent) small h = sshsig_is_found message (signing lent) small h
sshsig_found message (Err fault) small h = tt

-- the signed data of a file's signature the code reads
pub sshsig_only : (message : List ℕ) (answer : Result SignedData SshsigFault) → IsAnswer signing answer (signing_of message) → (signed : Signing) →
    IsSshsig message signed → IsOkAnd answer (λ lent. signing lent ≡ signed)
sshsig_only message (Ok lent) h signed is = let e = sshsig_is_read message signed is in cc
sshsig_only message (Err fault) h signed is = let e = sshsig_is_read message signed is in absurd cc
