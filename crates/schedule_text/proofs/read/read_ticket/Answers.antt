use Rattle.std.proofs.Common.{◌≡◌, ◌==◌, if◌then◌else◌, ◌*◌, ℕ, List, [], ◌∷◌, length, ok_or, Result, Ok, Err, refl, ap, sym, ◌∙◌, inl, inr, arith}
use Rattle.std.proofs.lemmas.Bool.{cases_eq}
use Rattle.std.proofs.lemmas.Bool.Decides.{nat_tests}
use Rattle.std.specs.Prelude.{MatchResult}
use Rattle.std.specs.Result.{result_ok}
use Rattle.hex.specs.Hex.{decode_of, decode_sized}
use Rattle.hex.specs.declared.error.FromHexError.{FromHexError}
use Rattle.hex.proofs.HexLemmas.{decode_of-ok, decode_sized-ok, decode_sized-twice}
use Rattle.schedule_text.specs.declared.fault.LineFault.TheVariants.{Hex}
use Rattle.schedule_text.specs.Lines.{◌>>=◌, ticket_field}
use Rattle.schedule_text.proofs.read.read_ticket.Goals as goal

-- a one-time token has 32 digits
not_sixteen : (bytes : List ℕ) → (length bytes ≡ 16 → ⊥) → (if length bytes == 16 then Ok bytes else Err Hex) ≡ Err Hex
not_sixteen bytes other = grind (arith, nat_tests)

other_size : (field : List ℕ) (read : Result (List ℕ) FromHexError) → decode_of field ≡ read → (length field ≡ 2 * 16 → ⊥)
    → (ok_or (result_ok read) Hex >>= (λ b. if length b == 16 then Ok b else Err Hex)) ≡ Err Hex
other_size field (Ok bytes) is other =
    let twice = (decode_of-ok field bytes is).2 in
    not_sixteen bytes (λ size. other (omega (arith, twice, size)))
other_size field (Err fault) is other = refl

not_read : (field : List ℕ) → (length field ≡ 2 * 16 → ⊥) → ticket_field field ≡ Err Hex
not_read [] other = refl
not_read (digit ∷ digits) other = other_size (digit ∷ digits) (decode_of (digit ∷ digits)) refl other

-- what is read in that many digits
same_size : (field : List ℕ) (read : Result (List ℕ) FromHexError) → decode_of field ≡ read → length field ≡ 2 * 16
    → (ok_or (result_ok read) Hex >>= (λ b. if length b == 16 then Ok b else Err Hex)) ≡ ok_or (result_ok read) Hex
same_size field (Ok bytes) is size =
    let twice = (decode_of-ok field bytes is).2 in
    let sixteen_is : length bytes ≡ 16 = omega (arith, twice, size) in
    grind (arith, nat_tests)
same_size field (Err fault) is size = refl

read : (field : List ℕ) → length field ≡ 2 * 16 → ticket_field field ≡ ok_or (result_ok (decode_sized field 16)) Hex
read [] size = absurd (omega (arith, size))
read (digit ∷ digits) size =
    same_size (digit ∷ digits) (decode_of (digit ∷ digits)) refl size
    ∙ ap (λ r. ok_or (result_ok r) Hex) (sym (decode_sized-twice (digit ∷ digits) 16 size))

-- in any number of digits
other_sized : (field : List ℕ) (read : Result (List ℕ) FromHexError) → decode_sized field 16 ≡ read → (length field ≡ 2 * 16 → ⊥)
    → ok_or (result_ok read) Hex ≡ Err Hex
other_sized field (Ok bytes) is other = absurd (other (decode_sized-ok field 16 bytes is))
other_sized field (Err fault) is other = refl

ticket_field-sized : (field : List ℕ) → ticket_field field ≡ ok_or (result_ok (decode_sized field 16)) Hex
ticket_field-sized field = elim (cases_eq (length field) 32) [
  | inl size ↦ read field size
  | inr other ↦ not_read field other ∙ sym (other_sized field (decode_sized field 16) refl other)
]

-- what the call answers
answers_ok : (read : Result (List ℕ) FromHexError) (out : List ℕ) (result : Result (Unit {0}) FromHexError)
    → MatchResult read (λ bytes. (result ≡ Ok tt) × (out ≡ bytes)) (λ fault. result ≡ Err fault) → result ≡ Ok tt
    → ok_or (result_ok read) Hex ≡ Ok out
answers_ok (Ok bytes) out result gives is = ap Ok (sym gives.1)
answers_ok (Err fault) out result gives is = cc

answers_err : (read : Result (List ℕ) FromHexError) (out : List ℕ) (result : Result (Unit {0}) FromHexError) (fault : FromHexError)
    → MatchResult read (λ bytes. (result ≡ Ok tt) × (out ≡ bytes)) (λ fault. result ≡ Err fault) → result ≡ Err fault
    → ok_or (result_ok read) Hex ≡ Err Hex
answers_err (Ok bytes) out result fault gives is = cc
answers_err (Err other) out result fault gives is = refl

pub returns-in-Ok : goal.returns-in-Ok
returns-in-Ok c =
    let field = c.args.field.now in
    sym (ticket_field-sized field
    ∙ answers_ok (decode_sized field 16) c.decode_to_slice.new.out c.decode_to_slice.result c.decode_to_slice.ensures.value c.in-Ok.is)

pub returns-in-Err : goal.returns-in-Err
returns-in-Err c =
    let field = c.args.field.now in
    sym (ticket_field-sized field
    ∙ answers_err (decode_sized field 16) c.decode_to_slice.new.out c.decode_to_slice.result c.in-Err.field-0 c.decode_to_slice.ensures.value c.in-Err.is)
