-- What is sent for a file, by its length.
use Rattle.std.proofs.Common.{◌≡◌, ◌<◌, ◌≤◌, ◌+◌, ℕ, List, [], ◌∷◌, ◌++◌, length, length-append, Result, Ok, Err, ap, ◌∙◌, arith}
use Rattle.std.proofs.lemmas.Bool.Decides.{nat_tests}
use Rattle.wire_text.specs.Bounds.{longest_body}
use Rattle.wire_text.specs.Wire.{string}
use Rattle.wire_text.proofs.WireLemmas.{length-string}
use Rattle.key_file.specs.declared.fault.PubFault.{PubFault}
use Rattle.agent_msg.specs.Writing.{addition_text}
use Rattle.add_core.specs.declared.fault.AddFault.TheVariants.{TooLong}
use Rattle.add_core.specs.Exchanges.{sized}
use Rattle.add_core.specs.Sendings.{removed_line, removal_of}

pub sized_long : (body line : List ℕ) → longest_body < length body → sized body line ≡ Err TooLong
sized_long body line long = grind (arith, nat_tests)

pub sized_short : (body line : List ℕ) → length body ≤ longest_body
    → sized body line ≡ Ok (string body, line)
sized_short body line short = grind (arith, nat_tests)

pub long_removal : (path blob : List ℕ) (key : Result (List ℕ) PubFault) → key ≡ Ok blob
    → 262139 < length blob
    → removal_of path key ≡ Err TooLong
long_removal path blob key is long =
    ap (removal_of path) is ∙ sized_long (18 ∷ string blob) (removed_line path) (omega (arith, length-string blob))

pub short_removal : (path blob : List ℕ) (key : Result (List ℕ) PubFault) → key ≡ Ok blob
    → length blob ≤ 262139
    → removal_of path key ≡ Ok (string (18 ∷ string blob), removed_line path)
short_removal path blob key is short =
    ap (removal_of path) is ∙ sized_short (18 ∷ string blob) (removed_line path) (omega (arith, length-string blob))

-- the body of an addition is as long as its fields say
length-addition_text : (private comment constraints : List ℕ)
    → length (addition_text private comment constraints) ≡ 5 + length private + length comment + length constraints
length-addition_text private comment [] = omega (arith, length-append private (string comment), length-string comment)
length-addition_text private comment (byte ∷ constraints) =
    omega (arith, length-append private (string comment ++ byte ∷ constraints), length-append (string comment) (byte ∷ constraints), length-string comment)

pub long_addition : (private comment constraints line : List ℕ)
    → 262139 < length private + length comment + length constraints
    → sized (addition_text private comment constraints) line ≡ Err TooLong
long_addition private comment constraints line long =
    sized_long (addition_text private comment constraints) line (omega (arith, length-addition_text private comment constraints))

pub short_addition : (private comment constraints line : List ℕ)
    → length private + length comment + length constraints ≤ 262139
    → sized (addition_text private comment constraints) line ≡ Ok (string (addition_text private comment constraints), line)
short_addition private comment constraints line short =
    sized_short (addition_text private comment constraints) line (omega (arith, length-addition_text private comment constraints))
