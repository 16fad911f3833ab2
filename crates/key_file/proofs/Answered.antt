-- What the code's answers are, by the definitions.
use Rattle.std.proofs.Common.{◌≡◌, ◌⊎◌, inl, inr, ℕ, List, Result, Ok, Err, IfOk}
use Rattle.std.specs.Prelude.{MatchResult}
use Rattle.wire_text.specs.Wire.{IsBytes}
use Rattle.key_blob.specs.declared.fault.KeyFault.TheVariants as key_fault
use Rattle.key_file.specs.declared.fault.PubFault.{PubFault}
use Rattle.key_file.specs.declared.fault.PubFault.TheVariants.{Key, Memory}
use Rattle.key_file.specs.PublicLines.{IsTyped, IsPublicLine, typed_key, line_key}
use Rattle.key_file.proofs.LineLemmas.{typed_is_found, typed_is_read, typed_needs_none}
use Rattle.key_file.proofs.PublicLineLemmas.{line_is_found}
use Rattle.key_file.proofs.PublicLineReading.{line_is_read, line_needs_none}

-- the answer is the definition's blob or fault, or memory ran out
abbrev IsAnswer : {V : Type 0} → (V → List ℕ) → Result V PubFault → Result (List ℕ) PubFault
    → Type 0
IsAnswer items answer defined = MatchResult answer (λ read. defined ≡ Ok (items read)) (λ fault. (fault ≡ Memory) ⊎ (defined ≡ Err fault))

pub typed_found : {V : Type 0} (items : V → List ℕ) (type text : List ℕ) (answer : Result V PubFault)
    → IsBytes text →
    IsAnswer items answer (typed_key type text) → IfOk answer (λ read. IsTyped type text (items read))
typed_found items type text (Ok read) small h = typed_is_found type text (items read) small h
typed_found items type text (Err fault) small h = tt

pub typed_only : {V : Type 0} (items : V → List ℕ) (type text : List ℕ) (answer : Result V PubFault)
    → IsAnswer items answer (typed_key type text) → (blob : List ℕ) →
    IsTyped type text blob → MatchResult answer (λ read. items read ≡ blob) (λ fault. fault ≡ Memory)
typed_only items type text (Ok read) h blob is = let e = typed_is_read type text blob is in cc
typed_only items type text (Err fault) (inl h) blob is = h
typed_only items type text (Err fault) (inr h) blob is = let e = typed_is_read type text blob is in absurd cc

pub typed_own_memory : {V : Type 0} (items : V → List ℕ) (type text : List ℕ) (answer : Result V PubFault)
    → IsAnswer items answer (typed_key type text) →
    answer ≡ Err (Key key_fault.Memory) → ⊥
typed_own_memory items type text (Ok read) h e = cc
typed_own_memory items type text (Err fault) (inl h) e = cc
typed_own_memory items type text (Err fault) (inr h) e = typed_needs_none type text cc

-- ---- a line

pub line_found : {V : Type 0} (items : V → List ℕ) (text : List ℕ) (answer : Result V PubFault)
    → IsBytes text →
    IsAnswer items answer (line_key text) → IfOk answer (λ read. IsPublicLine text (items read))
line_found items text (Ok read) small h = line_is_found text (items read) small h
line_found items text (Err fault) small h = tt

pub line_only : {V : Type 0} (items : V → List ℕ) (text : List ℕ) (answer : Result V PubFault)
    → IsAnswer items answer (line_key text) → (blob : List ℕ) →
    IsPublicLine text blob → MatchResult answer (λ read. items read ≡ blob) (λ fault. fault ≡ Memory)
line_only items text (Ok read) h blob is = let e = line_is_read text blob is in cc
line_only items text (Err fault) (inl h) blob is = h
line_only items text (Err fault) (inr h) blob is = let e = line_is_read text blob is in absurd cc

pub line_own_memory : {V : Type 0} (items : V → List ℕ) (text : List ℕ) (answer : Result V PubFault)
    → IsAnswer items answer (line_key text) →
    answer ≡ Err (Key key_fault.Memory) → ⊥
line_own_memory items text (Ok read) h e = cc
line_own_memory items text (Err fault) (inl h) e = cc
line_own_memory items text (Err fault) (inr h) e = line_needs_none text cc
