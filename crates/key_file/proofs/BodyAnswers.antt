-- What the code's answers to a body are, by the definitions.
use Rattle.std.proofs.Common.{◌≡◌, ◌<◌, not, inl, inr, ℕ, List, Result, Ok, Err, IfOk, subst}
use Rattle.std.specs.Prelude.{MatchResult}
use Rattle.std.proofs.lemmas.List.Elements.{All-filter}
use Rattle.wire_text.specs.Wire.{IsBytes}
use Rattle.key_blob.specs.declared.fault.KeyFault.TheVariants as key_fault
use Rattle.key_file.specs.declared.fault.KeyFileFault.{KeyFileFault}
use Rattle.key_file.specs.declared.fault.KeyFileFault.TheVariants.{Key, Memory}
use Rattle.key_file.specs.declared.private_part.KeyFile.{KeyFile}
use Rattle.key_file.specs.Base64.{is_blank, without_blanks}
use Rattle.key_file.specs.Bodies.{IsBodyText}
use Rattle.key_file.specs.BodyReading.{IsAnswer, encoded_file, file_of}
use Rattle.key_file.proofs.MemoryLemmas.{encoded_none}
use Rattle.key_file.proofs.BodyLemmas.{encoded_is_found, encoded_is_read}

kept_bytes : (text : List ℕ) → IsBytes text → IsBytes (without_blanks text)
kept_bytes text small = All-filter (λ byte. not (is_blank byte)) (λ byte. byte < 256) text small

pub text_is_found : (text : List ℕ) (file : KeyFile) → IsBytes text → file_of text ≡ Ok file
    → IsBodyText text file
text_is_found text file small read =
    let found = encoded_is_found (without_blanks text) file (kept_bytes text small) read in
    record { bytes = found.0; encoded = found.1; body = found.2 }

pub text_is_read : (text : List ℕ) (file : KeyFile) → IsBodyText text file → file_of text ≡ Ok file
text_is_read text file is = encoded_is_read (without_blanks text) is.bytes file is.encoded is.body

-- the answer for the text that was kept is that for the text
pub answered : (text kept : List ℕ) (answer : Result KeyFile KeyFileFault)
    → kept ≡ without_blanks text → IsAnswer answer (encoded_file kept)
    → IsAnswer answer (file_of text)
answered text kept answer same h = subst (λ (t : List ℕ). IsAnswer answer (encoded_file t)) same h

pub body_found : (text : List ℕ) (answer : Result KeyFile KeyFileFault) → IsBytes text
    → IsAnswer answer (file_of text) → IfOk answer (λ file. IsBodyText text file)
body_found text (Ok file) small h = text_is_found text file small h
body_found text (Err fault) small h = tt

pub body_only : (text : List ℕ) (answer : Result KeyFile KeyFileFault)
    → IsAnswer answer (file_of text) → (file : KeyFile) → IsBodyText text file →
    MatchResult answer (λ read. read ≡ file) (λ fault. fault ≡ Memory)
body_only text (Ok read) h file is = let e = text_is_read text file is in cc
body_only text (Err fault) (inl h) file is = h
body_only text (Err fault) (inr h) file is = let e = text_is_read text file is in absurd cc

pub body_own_memory : (text : List ℕ) (answer : Result KeyFile KeyFileFault)
    → IsAnswer answer (file_of text) → answer ≡ Err (Key key_fault.Memory) → ⊥
body_own_memory text (Ok file) h e = cc
body_own_memory text (Err fault) (inl h) e = cc
body_own_memory text (Err fault) (inr h) e = encoded_none (without_blanks text) cc
