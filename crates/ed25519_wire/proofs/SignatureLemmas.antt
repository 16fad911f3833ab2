-- Lemmas on signatures: what is read is in the grammar, and what is in the grammar is read.
use Rattle.std.proofs.Common.{◌≡◌, ℕ, if◌then◌else◌, List, ◌++◌, length, Result, Ok, Err, ap, ◌∙◌, arith}
use Rattle.key_wire.specs.declared.fault.KeyFault.{KeyFault}
use Rattle.key_wire.specs.declared.fault.KeyFault.TheVariants.{Unfit}
use Rattle.key_wire.specs.Fields.{ended, sized_at}
use Rattle.key_wire.proofs.FieldLemmas.{sized_alone, sized_front}
use Rattle.ed25519_wire.specs.Grammar.{IsSignature}
use Rattle.ed25519_wire.specs.Names.{is_plain_name, plain_name}
use Rattle.ed25519_wire.specs.Reading.{field_then, signature_in}
use Rattle.ed25519_wire.proofs.FoundLemmas.{chosen, same_bytes}
use Rattle.ed25519_wire.proofs.OnlyLemmas.{same, yes}
use Rattle.wire_core.specs.Fields.{string_at}
use Rattle.wire_core.specs.Readings.{◌>>=◌}
use Rattle.wire_core.proofs.ReadingLemmas.{behind, bind_ok, ended_or_is, field_or_is, last}
use Rattle.wire_core.proofs.Theorems.{string_at-string, string_is_front}
use Rattle.wire_text.specs.Wire.{IsBytes, string}

-- what stands behind the name of a signature's algorithm
abbrev behind_name : List ℕ → List ℕ → Result (List ℕ) KeyFault
behind_name name more = if is_plain_name name then sized_at 64 more >>= (λ bytes. ended bytes.0 bytes.1) else Err Unfit

-- what is read is a signature
pub signature_is_found : (text bytes : List ℕ) → IsBytes text → signature_in text ≡ Ok bytes → IsSignature text bytes
unfolding signature_in
signature_is_found text bytes small read =
    let field = field_or_is Unfit (string_at text) behind_name bytes read in
    let found = chosen (is_plain_name field.field) (sized_at 64 field.rest >>= (λ b. ended b.0 b.1)) bytes field.read in
    let front = string_is_front text field.field field.rest small field.there in
    let whole = bind_ok (sized_at 64 field.rest) (λ b. ended b.0 b.1) bytes found.1 in
    let sized = sized_front 64 field.rest whole.0 front.0.left whole.1 in
    let end = ended_or_is Unfit whole.0.0 bytes whole.0.1 whole.2 in
    let rest : field.rest ≡ string bytes = last field.rest (string whole.0.0) whole.0.1 sized.parts end.0 ∙ ap string end.1 in
    record {
      text_is =
          behind text (string field.field) field.rest (string bytes) front.0.parts rest
          ∙ ap (λ (n : List ℕ). string n ++ string bytes) (same_bytes field.field plain_name found.0);
      sized = omega (arith, ap length end.1, sized.sized);
    }

-- a signature is read
pub signature_is_read : (text bytes : List ℕ) → IsSignature text bytes → signature_in text ≡ Ok bytes
unfolding signature_in
signature_is_read text bytes is =
    ap (λ at. field_then at behind_name) (ap string_at is.text_is ∙ string_at-string plain_name (string bytes) (omega arith))
    ∙ yes (is_plain_name plain_name) (sized_at 64 (string bytes) >>= (λ b. ended b.0 b.1)) (Err Unfit) (same plain_name)
    ∙ ap (λ (r : Result (List ℕ × List ℕ) KeyFault). r >>= (λ b. ended b.0 b.1)) (sized_alone 64 bytes is.sized (omega (arith, is.sized)))
